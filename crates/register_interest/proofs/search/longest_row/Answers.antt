use Rattle.std.proofs.Common.{refl, arith}
use Rattle.std.specs.FinMap as map
use Rattle.register_interest.specs.Width.{width}
use Rattle.register_interest.specs.Search.{rows_in}
use Rattle.register_interest.proofs.DescentLemmas.{descent_first, descent_none, descent_found, descent_more}
use Rattle.register_interest.proofs.search.longest_row.Goals as goal

pub rows-init : goal.rows-init
rows-init g c = (descent_first width g.F.Family.WIDTH (map.get (rows_in c.args.rows.now)) c.args.address c.WIDTH-length.result c.WIDTH-length.ensures c.known.ensures.narrow c.requires, omega (arith, c.WIDTH-length.ensures))

pub block-requires : goal.block-requires
block-requires g c = c.rows.invariant.1

pub rows-preserved : goal.rows-preserved
rows-preserved g c = ((descent_more width (map.get (rows_in c.args.rows.now)) c.args.address c.rows.length c.shared_bits-length.result c.address.result c.args.address c.block.result (c.in-Some.row.0, c.in-Some.row.1.now) c.holds.result c.rows.invariant.0 c.block.ensures c.in-Some.ensures c.known-in-Some.ensures.masked c.holds.ensures c.if-holds.false c.address.ensures refl c.shared_bits-length.ensures.shared).0, omega (arith, c.shared_bits-length.ensures.short))

pub rows-smaller : goal.rows-smaller
rows-smaller g c = (descent_more width (map.get (rows_in c.args.rows.now)) c.args.address c.rows.length c.shared_bits-length.result c.address.result c.args.address c.block.result (c.in-Some.row.0, c.in-Some.row.1.now) c.holds.result c.rows.invariant.0 c.block.ensures c.in-Some.ensures c.known-in-Some.ensures.masked c.holds.ensures c.if-holds.false c.address.ensures refl c.shared_bits-length.ensures.shared).1

pub returns-then-holds : goal.returns-then-holds
returns-then-holds g c = descent_found width (map.get (rows_in c.args.rows.now)) c.args.address c.rows.length c.block.result (c.in-Some.row.0, c.in-Some.row.1.now) c.rows.invariant.0 c.block.ensures c.in-Some.ensures c.known-in-Some.ensures.masked (c.holds.ensures.0 c.if-holds.true)

pub returns : goal.returns
returns g c = descent_none width (map.get (rows_in c.args.rows.now)) c.args.address c.rows.length c.block.result c.rows.invariant.0 c.block.ensures c.in_default.ensures
