use Rattle.std.proofs.Common.{None}
use Rattle.nibble_trie.specs.Keys.{prefix_in}
use Rattle.nibble_trie.proofs.Searches.{top_starts, top_first}
use Rattle.nibble_trie.proofs.reading.first_from.Goals as goal

pub returns : goal.returns
returns g c =
    let index = c.args.index.now in
    let keys = prefix_in c.args.leaves.now in
    let w = c.requires in
    let layout = w.indexes.layout in
    let starts = top_starts keys index w.heads layout c.args.from c.args.least w.indexes.holds w.shortest c.known.ensures.fits in
    top_first keys layout c.args.from c.args.least c.first_at.result w.small (c.first_at.ensures w.heads layout None starts)
