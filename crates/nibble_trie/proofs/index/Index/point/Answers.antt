use Rattle.std.proofs.Common.{subst}
use Rattle.nibble_trie.specs.Index.{is_live, link_at, Writes}
use Rattle.nibble_trie.proofs.Cells.{pointed}
use Rattle.nibble_trie.proofs.Ways.{cell_spot}
use Rattle.nibble_trie.proofs.index.Index.point.Goals as goal

pub returns : goal.returns
returns g c = λ heads layout h way alone.
    let old = c.args.self.now in
    let new = c.write.new.self in
    let w = subst (λ t. Writes (is_live old) (is_live new) (link_at old) (link_at new) c.args.spot.at t) c.leaf.ensures c.write.ensures.writes in
    record { layout = layout; holds = pointed (is_live old) (is_live new) (link_at old) (link_at new) c.args.spot.at heads layout c.args.address c.args.key w h way.stands.place (cell_spot old layout c.args.spot way.stands c.requires.cell) way.lies alone }
