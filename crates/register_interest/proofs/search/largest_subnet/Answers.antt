use Rattle.std.proofs.Common.{◌≡◌, true, false, arith, refl, sym, ◌∙◌, ◌+◌, ◌/◌}
use Rattle.std.specs.FinMap as map
use Rattle.register_interest.specs.Width.{width}
use Rattle.register_interest.specs.Search.{rows_in}
use Rattle.register_interest.proofs.SearchLemmas.{halved_first, halved_up, halved_last}
use Rattle.register_interest.proofs.search.largest_subnet.Goals as goal

pub lengths-init : goal.lengths-init
lengths-init g c = (
  halved_first width g.F.Family.WIDTH (map.get (rows_in c.args.rows.now)) c.args.address c.args.found.now c.shortest-low.result c.WIDTH-high.result c.known.ensures.narrow c.requires.short c.requires.found c.shortest-low.ensures c.WIDTH-high.ensures,
  omega (arith, c.WIDTH-high.ensures),
)

pub is_free-requires-clause-within : goal.is_free-requires-clause-within
is_free-requires-clause-within g c = let lt = c.lengths-test.true in omega (arith, c.lengths.invariant.1, lt)

pub block-requires : goal.block-requires
block-requires g c = omega (arith, c.lengths.invariant.0.ordered, c.lengths.invariant.1)

pub lengths-preserved : goal.lengths-preserved
lengths-preserved g c =
    let low = c.lengths.low in
    let high = c.lengths.high in
    let lt = c.lengths-test.true in
    (halved_up width (map.get (rows_in c.args.rows.now)) c.args.address c.args.found.now low ((low + high) / 2) high c.requires.found c.lengths.invariant.0 (omega arith) (omega arith) (λ free. let clash : true ≡ false = sym (c.is_free.ensures.1 free) ∙ c.if-is_free.false in cc), c.lengths.invariant.1)

pub returns : goal.returns
returns g c = halved_last width (map.get (rows_in c.args.rows.now)) c.args.address c.args.found.now c.lengths.low c.lengths.high c.block.result c.lengths.invariant.0 c.lengths-test.false c.block.ensures
