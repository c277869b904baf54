use Rattle.std.proofs.Common.{arith}
use Rattle.std.specs.FinMap as map
use Rattle.register_interest.specs.Width.{width}
use Rattle.register_interest.specs.Search.{rows_in}
use Rattle.register_interest.proofs.SearchLemmas.{block_free_last, block_told_free}
use Rattle.register_interest.proofs.search.is_free.Goals as goal

pub returns-in-None : goal.returns-in-None
returns-in-None g c = block_free_last width (map.get (rows_in c.args.rows.now)) c.args.address c.args.length c.args.found.now c.block-subnet.result c.block-subnet.ensures c.requires.found (omega (arith, c.requires.within, c.known.ensures.narrow)) c.requires.beneath c.in-None.ensures

pub returns-in-Some : goal.returns-in-Some
returns-in-Some g c = block_told_free width (map.get (rows_in c.args.rows.now)) c.args.address c.args.length c.args.found.now c.block-subnet.result c.in-Some.next c.covers.result c.block-subnet.ensures c.requires.found (omega (arith, c.requires.within, c.known.ensures.narrow)) c.requires.beneath c.known-in-Some.ensures.masked c.in-Some.ensures c.covers.ensures
