use Rattle.std.proofs.Common.{◌≡◌, ◌+◌, ◌-◌, ◌≤◌, ◌<◌, sym, ap, ◌∙◌, arith}
use Rattle.bgp_attr.specs.Paths.{in_front, times_in_front}
use Rattle.bgp_attr.specs.Words.{segments_after, missing_after}
use Rattle.bgp_attr.proofs.FrontLaws.{IsLeading, all_join, some_begin}
use Rattle.bgp_attr.proofs.path.AsPath.prepended_words.Goals as goal
use Rattle.bgp_attr.proofs.path.AsPath.prepended_words.Goals.{then-others-gt0-2+in_ok-push_repeated, else-others-gt0-2}

leads : (c : goal.In_ok-extend_from_slice) → IsLeading c.leading-kept.result.0 c.args.asn c.args.self.now c.leading-kept.result.1.now
leads c = record {
  few = c.leading-kept.ensures.few;
  joined = ap (in_front c.args.asn) (sym (ap (segments_after 0) c.as_slice.ensures.value ∙ c.self.view_is)) ∙ c.leading-kept.ensures.joined c.args.asn;
  complete = c.leading-kept.ensures.complete;
}

both : (c : goal.In_ok-extend_from_slice) → (segments_after 0 c.extend_from_slice.new.self.items ≡ times_in_front (1 + c.args.prepend) c.args.asn c.args.self.now) × (missing_after 0 c.extend_from_slice.new.self.items ≡ 0)
both c =
    let kept = c.leading-kept.result.0 in
    let joining = c.min-joining.result in
    let others = c.from-times.result + 1 - joining in
    let some : 0 < joining = omega (arith, c.min-joining.ensures, c.from-times.ensures, c.from.ensures, c.leading-kept.ensures.few) in
    elim c.if-others-gt0-2.branch [
      | then-others-gt0-2+in_ok-push_repeated w ↦
          let whole : joining + kept ≡ 255 = omega (arith, c.min-joining.ensures, c.from-times.ensures, c.from.ensures, c.leading-kept.ensures.few, w.if-others-gt0-2.true) in
          let begun : others ≤ 255 = omega (arith, some, c.from-times.ensures, c.ranges.prepend.fits) in
          let times : others + joining ≡ 1 + c.args.prepend = omega (arith, c.min-joining.ensures, c.from-times.ensures) in
          let all =
          some_begin kept joining others c.args.asn c.args.self.now c.leading-kept.result.1.now c.in_ok-words.words.items c.if-others-gt0-2.words.items c.push_repeated-2.new.words.items c.extend_from_slice.new.self.items
          (leads c) some whole w.if-others-gt0-2.true begun
          c.in_ok-words.ensures.items (ap (λ v. v.items) w.words-is ∙ w.in_ok-push_repeated.ensures) c.in_ok-push_repeated-2.ensures c.in_ok-extend_from_slice.ensures.items in
          (all.0 ∙ ap (λ n. times_in_front n c.args.asn c.args.self.now) times, all.1)
      | else-others-gt0-2 w ↦
          let fits : joining + kept ≤ 255 = omega (arith, c.min-joining.ensures, c.from.ensures, c.leading-kept.ensures.few) in
          let times : joining ≡ 1 + c.args.prepend = omega (arith, c.min-joining.ensures, c.from-times.ensures, w.if-others-gt0-2.false) in
          let all =
          all_join kept joining c.args.asn c.args.self.now c.leading-kept.result.1.now c.if-others-gt0-2.words.items c.push_repeated-2.new.words.items c.extend_from_slice.new.self.items
          (leads c) some fits
          (ap (λ v. v.items) w.words-is ∙ c.in_ok-words.ensures.items) c.in_ok-push_repeated-2.ensures c.in_ok-extend_from_slice.ensures.items in
          (all.0 ∙ ap (λ n. times_in_front n c.args.asn c.args.self.now) times, all.1)
    ]

pub returns-clause-path : goal.returns-clause-path
returns-clause-path c = (both c).0

pub returns-clause-complete : goal.returns-clause-complete
returns-clause-complete c = (both c).1
