use Rattle.std.proofs.Common.{◌∙◌, sym}
use Rattle.bgp_attr.proofs.FrontLemmas.{once_and_more}
use Rattle.bgp_attr.proofs.fronted.same_with_more.Goals as goal

pub returns-then-times-gt0 : goal.returns-then-times-gt0
returns-then-times-gt0 c =
    let less = once_and_more c.args.asn c.args.times c.args.other_times c.args.path.now c.args.other.now c.if-times-gt0.true c.requires in
    let once = c.once_in_front.ensures c.args.asn in (
      λ t. less.1 (once ∙ c.is_in_front.ensures.0 t),
      λ same. c.is_in_front.ensures.1 (sym once ∙ less.0 same),
    )
