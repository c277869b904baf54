use Rattle.std.proofs.Common.{sym, ap, ◌∙◌, arith}
use Rattle.nibble_trie.specs.Links.{target_at}
use Rattle.nibble_trie.specs.Index.{spot_at}
use Rattle.nibble_trie.proofs.Ways.{top_way, inner_known, end_way}
use Rattle.nibble_trie.proofs.index.Index.end_of.Goals as goal

pub way-init : goal.way-init
way-init g c = λ heads layout h. top_way c.args.self.now layout c.args.address c.known.ensures.fits

pub overflow_sub-level : goal.overflow_sub-level
overflow_sub-level g c = omega (arith, (inner_known c.args.self.now c.args.address (spot_at c.way.end c.args.address) c.in-Inner.branch c.requires c.way.invariant (sym c.target.ensures ∙ c.in-Inner.is)).1)

pub index-links-requires : goal.index-links-requires
index-links-requires g c = (inner_known c.args.self.now c.args.address (spot_at c.way.end c.args.address) c.in-Inner.branch c.requires c.way.invariant (sym c.target.ensures ∙ c.in-Inner.is)).0

pub digit_of-requires : goal.digit_of-requires
digit_of-requires g c =
    let inner = inner_known c.args.self.now c.args.address (spot_at c.way.end c.args.address) c.in-Inner.branch c.requires c.way.invariant (sym c.target.ensures ∙ c.in-Inner.is) in
    omega (arith, inner.1, inner.2)

pub way-smaller : goal.way-smaller
way-smaller g c = omega (arith, (inner_known c.args.self.now c.args.address (spot_at c.way.end c.args.address) c.in-Inner.branch c.requires c.way.invariant (sym c.target.ensures ∙ c.in-Inner.is)).1)

pub way-preserved : goal.way-preserved
way-preserved g c = λ heads layout h. end_way c.args.self.now heads layout c.args.address c.way.end c.in-Inner.branch c.index-links.result.now c.link.result h (sym c.target.ensures ∙ c.in-Inner.is) c.index-links.ensures (c.link.ensures ∙ ap (target_at c.index-links.result.now) c.digit_of.ensures.digit) (c.way.invariant heads layout h)
