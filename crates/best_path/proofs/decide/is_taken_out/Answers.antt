use Rattle.std.proofs.Common.{◌≡◌, true, false, not, sym, ◌∙◌, ap, arith}
use Rattle.best_path.proofs.NearestLemmas.{none_takes_more, none_takes_out, one_takes_out}
use Rattle.best_path.proofs.decide.is_taken_out.Goals as goal
use Rattle.best_path.proofs.decide.is_taken_out.Goals.{else-beats-via-then-beats+else-not-is_ahead, else-beats-via-else-beats}

pub returns-then-not-is_ahead : goal.returns-then-not-is_ahead
returns-then-not-is_ahead c =
    sym (one_takes_out c.args.candidates.now c.args.lead.now c.args.other.now c.loop-i.i c.index-candidates-i.result c.loop-i-test.true
    c.index-candidates-i.is (ap not (sym c.is_ahead.ensures ∙ c.if-not-is_ahead.true)) (sym c.beats.ensures ∙ c.if-beats.true))

pub loop-i-preserved : goal.loop-i-preserved
loop-i-preserved c =
    none_takes_more c.args.candidates.now c.args.lead.now c.args.other.now c.loop-i.i c.index-candidates-i.result c.loop-i-test.true
    c.index-candidates-i.is c.loop-i.invariant
    (elim c.else-beats.branch [
      | else-beats-via-then-beats+else-not-is_ahead w ↦
          λ k. absurd (let e : true ≡ false = sym k ∙ ap not (sym w.is_ahead.ensures ∙ w.if-not-is_ahead.false) in cc)
      | else-beats-via-else-beats w ↦ λ k. sym c.beats.ensures ∙ w.if-beats.false
    ])

pub returns : goal.returns
returns c =
    sym (none_takes_out c.args.candidates.now c.args.lead.now c.args.other.now c.loop-i.i (omega arith) c.loop-i.invariant)
