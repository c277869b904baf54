-- `after` makes a value of no bytes, whose ghost field is the table that the references show, after the change.
use mathlib.Core.Path.{refl}
use mathlib.Core.List.{[], ◌∷◌}
use seplogic.Ra.Ura.{Ura}
use mir.MapTy.{inst_fn}
use mir.Syntax.{Fn, Dict, named, a_type, dcons, dnil}
use mir.Val.{Val, vptr, vstruct, vnil}
use base.Logic.{SProp, ent, via, fst∗}
use base.Fml.{Fml}
use prog.Memory.{Memory}
use prog.Routine.{Routine}
use prog.Wp.{Calls, Loops, WpFn, Tables}
use types.Logic.{Logic}
use contract.Lifetimes.{Lfts, Shares, AllOutlive}
use contract.Monad.{Fun}
use contract.Running.{tables, tables_of}
use sound.WpLaws.{WpFn-mono}
use types.Kit.{‵, raw, ◌$◌, ◌∵◌, !, qed, move, suffices, done}
use types.Run.{no_more, returns, enter}
use types.Part.{agg}
use types.ByLocal.{alloc_all, pass_all, free_all, look_at, sets}
use denote.Exit.{yes}
use denote.Param.{bounded, copied}
use denote.RattleType.{RattleType, owns}
use denote.Ref.{shr_vals, shr_Tells}
use denote.Shadow.{pure_i}
use denote.Signature.{plain, types_at}
use denote.Triple.Clauses.{Ended, Clauses}
use denote.Triple.Entry.{on_entry, alive, Args}
use denote.Triple.Spec.{Meets, triple_of}
use denote.Triple.Table.{entered}
use denote.Triple.Walked.{says, stay_none_ref, Stays, walk_of, Walks, ends_at, walked, Goes-none_ref, walk_Meets}
use Rattle.std.specs.declared.clone.Clone as clone
use Rattle.addr4.specs.declared.family.Family as family
use Rattle.addr4.specs.contracts.addr.Addr as addr
use Rattle.addr4.specs.contracts.prefix.Prefix as prefix
use Rattle.rib_split.specs.contracts.told.Told.after.Key.{name as key}
use Rattle.rib_split.specs.contracts.told.Told.after as f
use Rattle.rib_split.proofs.told.Told.after.Statement as stated
use Rattle.rib_split.proofs.told.Told.after.Code as code
use Rattle.rib_split.specs.contracts.told.Told as told
use Rattle.rib_route.specs.contracts.rows.External as row
use Rattle.link_change.specs.contracts.change.Change as change
use Rattle.rib_split.specs.Kept.{kept_after}

module _ (T : RattleType) (gF : family.Ghosts T.Denot) (dF : Dict) (gC : clone.Ghosts T.Denot) (dC : Dict) where
  abbrev ended : Ended
  ended = f.ended T gF dF gC dC

  -- the code at this family
  abbrev here : Fn
  here = inst_fn (bounded (a_type ∷ []) (T, tt) (dcons dF (dcons dC dnil))) code.function

  -- the changes of this family's rows
  abbrev changes : RattleType
  changes = change.the_row (row.the_row (addr.the_row (copied 0 T) gF)) (prefix.the_row (copied 0 T) gF)

  abbrev stayed : Stays ended.signature.params ended.kept
  stayed = (stay_none_ref (0 ∷ []) tt (plain (λ _. told.the_row)) yes, (stay_none_ref (1 ∷ []) tt (plain (λ _. changes)) yes, tt))

  module _ {M : Type 1} {𝓤 : Ura M} (𝓛 : Logic 𝓤) (mem : Memory → SProp 𝓤) (run : Routine → Fun 𝓤) where
    open 𝓛 use {H}

    abbrev held : Clauses 𝓤 ended
    held = f.clauses T gF dF gC dC 𝓛 mem run

    module _ (C : Calls 𝓤 H) (Λ : Loops 𝓤 H) where
      module _ (κs : Lfts 3) (qs : Shares 3) (bounds : AllOutlive 3 ended.signature.outlives κs) (a : Args ended.signature κs) where
        abbrev before : Val
        before = vptr a.0.ref_ptr.0 a.0.ref_ptr.1

        abbrev came : Val
        came = vptr a.1.0.ref_ptr.0 a.1.0.ref_ptr.1

        abbrev bound : (walk_of 𝓛 ended stayed held).Ghost
        bound = ((κs, qs, bounds, a, (before ∷ [], (came ∷ [], tt))), tt)

        abbrev passed : Fml
        passed = owns (types_at ended.signature.params κs) a (before ∷ [], (came ∷ [], tt))

        walk : ent 𝓤 (on_entry 𝓛 ended.signature κs qs a (before ∷ [], (came ∷ [], tt)))
            (WpFn 𝓤 H C Λ here (before ∷ came ∷ []) ((walk_of 𝓛 ended stayed held).post bound))
        walk =
            qed 𝓛 (raw (alive 𝓛 ended.signature κs qs) ∷ ‵ passed ∷ []) ∵ enter ! C Λ here (before ∷ came ∷ []) _ $
            alloc_all ! (λ l. pass_all ! refl ((tt, tt), ((tt, tt), tt)) $ sets ! (agg ! (no_more !)) refl (tt, tt) $
            returns ! (look_at ! 0 refl) $ free_all ! refl $
            suffices ! _ (ends_at 𝓛 ended stayed held bound (vstruct vnil) (kept_after a.0.now a.1.0.now.prefix a.1.0.now.after) (tt, (tt, tt)) (tt, (tt, tt))) $
            says ! refl $ pure_i ! (told.the_row.own_val (kept_after a.0.now a.1.0.now.prefix a.1.0.now.after) (vstruct vnil ∷ [])) (λ x. (((λ vss. (tt, tt)), tt), tt)) ((record { rows = kept_after a.0.now a.1.0.now.prefix a.1.0.now.after }, (refl, tt)), (((tt, (refl, tt)), tt), tt)) $
            move ! (1 ∷ 2 ∷ 0 ∷ []) $ done !)

      walks : Walks 𝓛 ended stayed (WpFn 𝓤 H C Λ here) held
      walks =
          walked 𝓛 ended stayed held (WpFn 𝓤 H C Λ here) (λ κs. (shr_vals, (shr_vals, tt)))
          (λ κs. (shr_Tells (named 0) κs.0 told.the_row, (shr_Tells (named 1) κs.1.0 changes, tt)))
          (λ κs qs bounds a g are. via 𝓤 _ (fst∗ 𝓤 _ ((held κs a).requires g)) (walk κs qs bounds a))

    meets : (𝓣 : Tables 𝓤 H) → Meets 𝓛 ended.signature (WpFn 𝓤 H 𝓣.C 𝓣.Λ here) (f.spec T gF dF gC dC 𝓛 mem run)
    meets 𝓣 =
        walk_Meets 𝓛 ended stayed (Goes-none_ref 𝓛 3 (0 ∷ []) tt (plain (λ _. told.the_row)) yes, (Goes-none_ref 𝓛 3 (1 ∷ []) tt (plain (λ _. changes)) yes, tt)) held (WpFn 𝓤 H 𝓣.C 𝓣.Λ here)
        (WpFn-mono 𝓤 H 𝓛.laws 𝓣 here) (walks 𝓣.C 𝓣.Λ)

pub after_spec : {M : Type 1} → stated.statement M
unfolding tables_of
after_spec 𝓤 𝓛 𝓜 𝓡 wired T _ _ gF dF gC dC _ _ =
    entered 𝓤 𝓛.H (triple_of 𝓛 (f.signature T gF dF gC dC) (f.spec T gF dF gC dC 𝓛 𝓜.mem 𝓡.returns))
    (tables 𝓤 𝓛.H 𝓜 𝓡 𝓡.env).C (tables 𝓤 𝓛.H 𝓜 𝓡 𝓡.env).Λ (key (bounded (a_type ∷ []) (T, tt) (dcons dF (dcons dC dnil)))) (here T gF dF gC dC) (code.unfolded 𝓤 𝓛.H 𝓜 𝓡 wired (T, tt) dF dC)
    (meets T gF dF gC dC 𝓛 𝓜.mem 𝓡.returns (tables_of 𝓤 𝓛.H 𝓜 (tables 𝓤 𝓛.H 𝓜 𝓡 𝓡.env)))
