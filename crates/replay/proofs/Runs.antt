-- Runs of lines, and what is said of them.
use Rattle.std.proofs.Common.{◌≡◌, ℕ, ◌+◌, List, [], ◌∷◌, ◌++◌, length, Some, None, Result, Ok, Err, refl, sym, ap, ◌∙◌, arith, subst, append_assoc}
use Rattle.std.proofs.lemmas.List.{append-nil}
use Rattle.journal_text.specs.declared.line.Code.{Code}
use Rattle.event_text.specs.declared.event.FileEvent.{FileEvent}
use Rattle.event_text.specs.Declarations.{Declaration}
use Rattle.journal_laws.specs.FamilyLines.{FamilyLine}
use Rattle.router.specs.Networks.{Networks}
use Rattle.router.specs.Told.{declared_behind}
use Rattle.router.specs.Steps.{FileActs}
use Rattle.replay.specs.Judging.{judge, verdict_from, refused_or}
use Rattle.replay.specs.Output.{Step, Run, RunIn, AllStand}
use Rattle.replay.proofs.Lines.{accepted_is_admitted}
use Rattle.replay.proofs.Acted.{NetworksMove, NetworksFollow, file_moves, moves_follow, networks_none, networks_then, networks_stand}

-- one more line
pub run_more : (n k : ℕ) (m mid next : Networks) (done : List (List ℕ)) (out : List FamilyLine) (line : List ℕ) (said : List FamilyLine) → k ≡ n + length done → Run n m done out mid → Step k mid line said next → Run n m (done ++ line ∷ []) (out ++ said) next
run_more n k m mid next [] out line said at run step =
    let here : k ≡ n = omega (arith, at) in (
      said,
      [],
      next,
      subst (λ (x : Networks). Step n x line said next) run.1 (subst (λ (j : ℕ). Step j mid line said next) here step),
      rw run.0 (sym (append-nil said)),
      (refl, refl),
    )
run_more n k m mid next (d ∷ done) out line said at run step = (
  run.0,
  run.1 ++ said,
  run.2,
  run.3,
  rw run.4 (append_assoc run.0 run.1 said),
  run_more (n + 1) k run.2 mid next done run.1 line said (omega (arith, at)) run.5 step,
)

-- one more line, and its turns
pub run_in_more : (n k : ℕ) (m mid next : Networks) (turns more : ℕ) (done : List (List ℕ)) (out : List FamilyLine) (line : List ℕ) (said : List FamilyLine) → k ≡ n + length done → RunIn n m done out mid turns → (step : Step k mid line said next) → step.turns ≡ more → RunIn n m (done ++ line ∷ []) (out ++ said) next (turns + more)
run_in_more n k m mid next turns more [] out line said at run step took =
    let here : k ≡ n = omega (arith, at) in (
      said,
      [],
      next,
      0,
      record {
        event = step.event;
        turns = step.turns;
        accepted = subst (λ (x : Networks). judge n x.first.declared line ≡ Ok step.event) run.1 (subst (λ (j : ℕ). judge j mid.first.declared line ≡ Ok step.event) here step.accepted);
        acts = subst (λ (x : Networks). FileActs x step.event step.turns next said) run.1 step.acts;
        declared = subst (λ (x : Networks). next.first.declared ≡ declared_behind x.first.declared step.event) run.1 step.declared;
        same = step.same;
        rest = step.rest;
        idle = step.idle;
        sent = step.sent;
        best = step.best;
      },
      rw run.0 (sym (append-nil said)),
      omega (arith, run.2, took),
      (refl, refl, refl),
    )
run_in_more n k m mid next turns more (d ∷ done) out line said at run step took = (
  run.0,
  run.1 ++ said,
  run.2,
  run.3 + more,
  run.4,
  rw run.5 (append_assoc run.0 run.1 said),
  omega (arith, run.6),
  run_in_more (n + 1) k run.2 mid next run.3 more done run.1 line said (omega (arith, at)) run.7 step took,
)

-- ---- verdicts
-- lines that were all accepted, and a refused one behind them
pub verdict_behind : (n k : ℕ) (m end : Networks) (done : List (List ℕ)) (out : List FamilyLine) (line : List ℕ) (more : List (List ℕ)) (code : Code) → k ≡ n + length done → Run n m done out end → judge k end.first.declared line ≡ Err code → verdict_from n m.first.declared (done ++ line ∷ more) ≡ Some (k, code)
verdict_behind n k m end [] out line more code at run refused =
    let here : k ≡ n = omega (arith, at) in
    let said : judge n m.first.declared line ≡ Err code = subst (λ (x : Networks). judge n x.first.declared line ≡ Err code) run.1 (subst (λ (j : ℕ). judge j end.first.declared line ≡ Err code) here refused) in
    ap (λ (r : Result FileEvent Code). refused_or n r (λ e. verdict_from (n + 1) (declared_behind m.first.declared e) more)) said ∙ ap (λ (j : ℕ). Some (j, code)) (sym here)
verdict_behind n k m end (d ∷ done) out line more code at run refused =
    ap (λ (r : Result FileEvent Code). refused_or n r (λ e. verdict_from (n + 1) (declared_behind m.first.declared e) (done ++ line ∷ more))) run.3.accepted
    ∙ subst (λ (x : Declaration). verdict_from (n + 1) x (done ++ line ∷ more) ≡ Some (k, code)) run.3.declared (verdict_behind (n + 1) k run.2 end done run.1 line more code (omega (arith, at)) run.5 refused)

-- lines that were all accepted
pub verdict_accepted : (n : ℕ) (m end : Networks) (lines : List (List ℕ)) (out : List FamilyLine) → Run n m lines out end → verdict_from n m.first.declared lines ≡ None
verdict_accepted n m end [] out run = refl
verdict_accepted n m end (line ∷ lines) out run =
    ap (λ (r : Result FileEvent Code). refused_or n r (λ e. verdict_from (n + 1) (declared_behind m.first.declared e) lines)) run.3.accepted
    ∙ subst (λ (x : Declaration). verdict_from (n + 1) x lines ≡ None) run.3.declared (verdict_accepted (n + 1) run.2 end lines run.1 run.5)

-- ---- what follows of a run
pub step_moves : (n : ℕ) (m next : Networks) (line : List ℕ) (said : List FamilyLine) → AllStand m → Step n m line said next → NetworksMove m said next
step_moves n m next line said stands step = file_moves m next step.event step.turns said stands (accepted_is_admitted n m.first.declared line step.event step.accepted) step.acts

pub run_follows : (n : ℕ) (m end : Networks) (lines : List (List ℕ)) (out : List FamilyLine) → AllStand m → Run n m lines out end → NetworksFollow m out end
run_follows n m end [] out stands run = subst (λ (ls : List FamilyLine). NetworksFollow m ls end) (sym run.0) (subst (NetworksFollow m []) (sym run.1) (networks_none m stands))
run_follows n m end (line ∷ lines) out stands run =
    let first = moves_follow m run.2 run.0 (step_moves n m run.2 line run.0 stands run.3) in
    subst (λ (ls : List FamilyLine). NetworksFollow m ls end) (sym run.4)
    (networks_then m run.2 end run.0 run.1 first (run_follows (n + 1) run.2 end lines run.1 (networks_stand m run.2 run.0 first) run.5))
