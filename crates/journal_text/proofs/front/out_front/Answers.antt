use Rattle.std.proofs.Common.{◌≡◌, ◌+◌, ◌-◌, ◌*◌, take, drop, ap, ◌∙◌, rules, arith}
use Rattle.journal_text.specs.declared.front.TheConstants.{FRONTS}
use Rattle.journal_text.proofs.FrontLemmas.{width_of, front_at}
use Rattle.journal_text.proofs.front.out_front.Goals as goal
use Rattle.journal_text.proofs.front.out_front.Goals.{in-0-to-9, in-10-to-99, in_default}

pub returns : goal.returns
returns c =
    let k = c.args.peer in
    let w = c.if-peer-lt10.width in
    let same : w ≡ width_of k = elim c.if-peer-lt10.branch [ in-0-to-9 w ↦ search rules | in-10-to-99 w ↦ search rules | in_default w ↦ search rules ] in
    let counted : 9 * k + w - 9 * k ≡ width_of k = omega (arith, same) in
    ap (λ n. take n (drop (9 * k) FRONTS.now)) counted ∙ front_at k c.ranges.peer.fits
