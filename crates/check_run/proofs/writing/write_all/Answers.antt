use Rattle.std.proofs.Common.{◌≡◌, ◌-◌, List, ℕ, arith, ap, sym, subst, length, take, drop, length-drop}
use Rattle.std.proofs.lemmas.List.{take_all, take-append-drop}
use Rattle.std.proofs.Math.Seq.{take-add}
use Rattle.std.specs.Io.KnownBytes.{Appends}
use Rattle.check_run.proofs.Known.{appends_then, appends_kept, on_failed}
use Rattle.check_run.proofs.writing.write_all.Goals as goal

pub loop-at-preserved : goal.loop-at-preserved
loop-at-preserved g c =
    let text = c.args.text.now in
    let at = c.loop-at.at in
    let count = c.in_ok-at.field-0 in
    let whole : take (length text - at) (drop at text) ≡ drop at text = take_all (length text - at) (drop at text) (omega (arith, length-drop {A = ℕ})) in
    let bound = c.in_ok-at.ensures.bound in
    record {
      taken = rw (take-add at count text) (appends_then _ _ _ _ _ c.loop-at.invariant.taken (subst (λ (xs : List ℕ). Appends (g.K.Sink.taken c.loop-at.sink) (g.K.Sink.taken c.write.new.self) (take count xs)) whole c.in_ok-at.ensures.bytes));
      later = omega (arith, c.loop-at.invariant.later, c.write.ensures.cause.later);
      within = omega (arith, bound, ap length whole, length-drop {A = ℕ});
    }

pub returns-in_err-at-clause-front : goal.returns-in_err-at-clause-front
returns-in_err-at-clause-front g c =
    let text = c.args.text.now in
    let at = c.loop-at.at in
    on_failed c.from_residual.result _ (take at text, appends_kept _ _ _ _ c.loop-at.invariant.taken c.in_err-at.ensures.bytes, (drop at text, sym (take-append-drop at text)))
