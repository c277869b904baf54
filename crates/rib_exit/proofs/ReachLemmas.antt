-- Interests that the register gave up, and the answers that came with them.
use Rattle.std.proofs.Common.{◌≡◌, ◌++◌, Bool, true, false, List, [], ◌∷◌, Some, MatchBool, nat_eq, refl, sym, ap, subst, ◌∙◌, arith}
use Rattle.std.proofs.lemmas.Bool.Decides.{nat_tests}
use Rattle.addr4.specs.Prefixes.{AddressPrefix}
use Rattle.link_change.specs.Rows.{Rows}
use Rattle.link_change.proofs.RowLemmas.{same_function}
use Rattle.rib_route.specs.Rows.{Interior}
use Rattle.rib_route.specs.Rows.{FibRow}
use Rattle.register_interest.specs.Interests.{Interest}
use Rattle.nexthop_known.specs.Counts.{Counts, AreCounted}
use Rattle.nexthop_resolver.specs.Ways.{Way}
use Rattle.nexthop_resolver.specs.Kept.{external_hop, over, way_of}
use Rattle.nexthop_resolver.specs.Resolving.{Resolving, AreNamed, named_by}
use Rattle.nexthop_resolver.specs.Takes.{Invalidates}
use Rattle.nexthop_resolver.specs.Reached.{IsReached, IsReachedBy}
use Rattle.nexthop_resolver.proofs.ReachLemmas.{reached_none, reached_then, reached_rows, reached_len, reached_agrees}
use Rattle.rib_split.specs.declared.splitter.Splitter.{Splitter}
use Rattle.ext_int.specs.Fibs.{forwarding_table, fib_table}
use Rattle.journal_text.specs.declared.link.Link.{Link}
use Rattle.journal_text.specs.declared.link.Link.TheVariants.{Ebgp, Ibgp, Ext, Fib}
use Rattle.journal_text.specs.Values.{fib_rows}
use Rattle.rib_exit.specs.RibExits.{RibExit}
use Rattle.rib_exit.specs.Exits.{ext_rows, exit_links, IsExit}
use Rattle.rib_exit.specs.Steps.{StaysQuiet, Stales, ReachesExit}

-- ---- what they leave
module _ (out : List Interest) (e : RibExit) (hops' : Resolving Way) (r : IsReached out 0 e.forwarding hops') where
  abbrev e' : RibExit
  e' = record { splitter = e.splitter; forwarding = hops' }

  same_table : (int : Rows Interior) → fib_table hops' int (ext_rows e) ≡ fib_table e.forwarding int (ext_rows e)
  same_table int = ap (forwarding_table int) (reached_rows out 0 e.forwarding hops' r external_hop over (ext_rows e))

  same_link : (int : Rows Interior) (link : Link) → exit_links e' int link ≡ exit_links e int link
  same_link int Ebgp = refl
  same_link int Ibgp = refl
  same_link int Ext = refl
  same_link int Fib = ap (λ (rows : Rows FibRow). Some (fib_rows rows)) (same_table int)
  same_link int other = refl

  quiet : StaysQuiet e e'
  quiet = record {
    rows = refl;
    fib = same_table;
    links = λ int. same_function _ _ (same_link int);
    stands = λ best stands. record {
      links = stands.links;
      counted = subst (λ (n : Counts). AreCounted (named_by external_hop (ext_rows e)) n) (sym r.counts) stands.counted;
    };
    known = reached_len out 0 e.forwarding hops' r;
  }

-- an interest of the exit's
own_told : (i : Interest) (old new : Resolving Way) → i.client ≡ 0 → Invalidates i.subnet old new → IsReachedBy i 0 old new
own_told i old new own is = subst (λ (b : Bool). MatchBool b (Invalidates i.subnet old new) (new ≡ old)) (let e : nat_eq i.client 0 ≡ true = grind (arith, nat_tests, own) in sym e) is

pub stales : (s : AddressPrefix) (e : RibExit) (hops' : Resolving Way) → IsExit e → Invalidates s e.forwarding hops' → AreNamed hops'.counts hops'.known
    → Stales s e (record { splitter = e.splitter; forwarding = hops' })
stales s e hops' sound stale named =
    let i : Interest = record { subnet = s; client = 0 } in
    let r = reached_then [] i 0 e.forwarding e.forwarding hops' (reached_none 0 e.forwarding) (own_told i e.forwarding hops' refl stale) in
    record { stale = stale; sound = record { client = stale.client ∙ sound.client; named = named }; stays = quiet ([] ++ i ∷ []) e hops' r }

-- ---- one after the other
-- the answers that came with these are stale by now
pub record Reaching (out : List Interest) (a now : RibExit) : Type 0 where
  pub reached : IsReached out 0 a.forwarding now.forwarding
  pub rows : now.splitter ≡ a.splitter
  pub sound : IsExit now

pub reaching_first : (a : RibExit) → IsExit a → Reaching [] a a
reaching_first a sound = record { reached = reached_none 0 a.forwarding; rows = refl; sound = sound }

-- the next one is the exit's
pub reaching_own : (out : List Interest) (i : Interest) (a now next : RibExit) → i.client ≡ 0 → Reaching out a now → Stales i.subnet now next → Reaching (out ++ i ∷ []) a next
reaching_own out i a now next own r one = record {
  reached = reached_then out i 0 a.forwarding now.forwarding next.forwarding r.reached (own_told i now.forwarding next.forwarding own one.stale);
  rows = one.stays.rows ∙ r.rows;
  sound = one.sound;
}

-- it is another client's
pub reaching_other : (out : List Interest) (i : Interest) (a now : RibExit) → (i.client ≡ 0 → ⊥) → Reaching out a now → Reaching (out ++ i ∷ []) a now
reaching_other out i a now other r = record {
  reached = reached_then out i 0 a.forwarding now.forwarding now.forwarding r.reached
      (subst (λ (b : Bool). MatchBool b (Invalidates i.subnet now.forwarding now.forwarding) (now.forwarding ≡ now.forwarding)) (let e : nat_eq i.client 0 ≡ false = grind (arith, nat_tests, other) in sym e) refl);
  rows = r.rows;
  sound = r.sound;
}

pub reaches_exit : (out : List Interest) (a now : RibExit) → IsExit a → Reaching out a now → ReachesExit out a now
reaches_exit out a now sound r = record {
  reaches = r.reached;
  sound = r.sound;
  stays = subst (λ (s : Splitter). StaysQuiet a (record { splitter = s; forwarding = now.forwarding })) (sym r.rows) (quiet out a now.forwarding r.reached);
  agree = λ was is agree ints keeps. reached_agrees out 0 a.forwarding now.forwarding r.reached way_of was is sound.client agree ints keeps;
}
