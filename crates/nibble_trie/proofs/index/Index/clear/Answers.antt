use Rattle.std.proofs.Common.{None, subst}
use Rattle.nibble_trie.specs.Index.{is_live, link_at, Writes, with_head}
use Rattle.nibble_trie.proofs.Cells.{cleared, place_kept}
use Rattle.nibble_trie.proofs.Ways.{cell_spot}
use Rattle.nibble_trie.proofs.index.Index.clear.Goals as goal

pub prune-requires : goal.prune-requires
prune-requires g c =
    let old = c.args.self.now in
    let new = c.write.new.self in
    let r = c.requires.way in
    let w = subst (Writes (is_live old) (is_live new) (link_at old) (link_at new) c.args.spot.at) c.nothing.ensures c.write.ensures.writes in
    record {
      heads = with_head r.heads c.args.address None;
      layout = r.layout;
      holds = cleared (is_live old) (is_live new) (link_at old) (link_at new) c.args.spot.at r.heads r.layout c.args.address w r.holds r.way.stands.place (cell_spot old r.layout c.args.spot r.way.stands c.requires.cell) r.way.lies r.alone;
      place = place_kept (is_live old) (is_live new) c.args.spot.at w.kept r.way.stands.place;
      lies = r.way.lies;
      bare = w.changed;
    }

pub returns : goal.returns
returns g c = λ heads layout h way alone.
    let old = c.args.self.now in
    let new = c.write.new.self in
    let w = subst (Writes (is_live old) (is_live new) (link_at old) (link_at new) c.args.spot.at) c.nothing.ensures c.write.ensures.writes in
    c.prune.ensures (with_head heads c.args.address None) (record { layout = layout; holds = cleared (is_live old) (is_live new) (link_at old) (link_at new) c.args.spot.at heads layout c.args.address w h way.stands.place (cell_spot old layout c.args.spot way.stands c.requires.cell) way.lies alone })
