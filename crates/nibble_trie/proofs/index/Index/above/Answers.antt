use Rattle.std.proofs.Common.{◌≡◌, ◌-◌, sym, ap, subst, arith}
use Rattle.nibble_trie.specs.Links.{IsCell}
use Rattle.nibble_trie.specs.Index.{OnWay, IsAbove}
use Rattle.nibble_trie.proofs.Ways.{below_way, inner_live, inner_level, above_step, above_cell}
use Rattle.nibble_trie.proofs.index.Index.above.Goals as goal

pub way-init : goal.way-init
way-init g c = record { above = c.requires; way = λ heads layout h way. way }

pub overflow_sub-spot : goal.overflow_sub-spot
overflow_sub-spot g c =
    let r = c.way.invariant.above in
    omega (arith, inner_level c.args.self.now r.heads r.layout c.way.spot c.in-Inner.key r.holds r.way.stands c.in-Inner.is)

pub below-spot-requires-clause-live : goal.below-spot-requires-clause-live
below-spot-requires-clause-live g c =
    let r = c.way.invariant.above in
    inner_live c.args.self.now r.heads r.layout c.way.spot c.in-Inner.key r.holds r.way.stands c.in-Inner.is

pub below-spot-requires-clause-short : goal.below-spot-requires-clause-short
below-spot-requires-clause-short g c =
    let r = c.way.invariant.above in
    omega (arith, r.way.stands.short, inner_level c.args.self.now r.heads r.layout c.way.spot c.in-Inner.key r.holds r.way.stands c.in-Inner.is)

pub way-preserved : goal.way-preserved
way-preserved g c =
    let self = c.args.self.now in
    let a = c.args.address in
    record {
      above = subst (IsAbove self a c.args.branch) (sym c.below-spot.ensures) (above_step self a c.args.branch c.way.spot c.in-Inner.key c.way.invariant.above c.in-Inner.is c.if-key-branch.false);
      way = λ heads layout h way. subst (OnWay self layout a) (sym c.below-spot.ensures) (below_way self heads layout a c.way.spot c.in-Inner.key h c.in-Inner.is (c.way.invariant.way heads layout h way));
    }

pub way-smaller : goal.way-smaller
way-smaller g c =
    let r = c.way.invariant.above in
    let level : c.below-spot.result.level ≡ c.way.spot.level - 1 = ap (λ s. s.level) c.below-spot.ensures in
    omega (arith, level, inner_level c.args.self.now r.heads r.layout c.way.spot c.in-Inner.key r.holds r.way.stands c.in-Inner.is)

pub unreachable-requires : goal.unreachable-requires
unreachable-requires g c = above_cell c.args.self.now c.args.address c.args.branch c.way.spot c.way.invariant.above (subst IsCell (sym c.in-Nothing.is) tt)

pub unreachable-requires-in-Leaf : goal.unreachable-requires-in-Leaf
unreachable-requires-in-Leaf g c = above_cell c.args.self.now c.args.address c.args.branch c.way.spot c.way.invariant.above (subst IsCell (sym c.in-Leaf.is) tt)

pub returns-then-key-branch-clause-way : goal.returns-then-key-branch-clause-way
returns-then-key-branch-clause-way g c = c.way.invariant.way
