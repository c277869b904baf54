use Rattle.std.proofs.Common.{◌<◌, refl, sym, subst, arith, ◌∙◌}
use Rattle.nibble_trie.specs.declared.index.Index.{Index}
use Rattle.slab.specs.Slab.{slab_len}
use Rattle.nibble_trie.specs.Index.{OnWay, is_live, link_at, Writes}
use Rattle.nibble_trie.proofs.Ways.{top_way, inner_fits}
use Rattle.nibble_trie.proofs.Drops.{drop_holds}
use Rattle.nibble_trie.proofs.Written.{drops_of, place_above, kept_less}
use Rattle.nibble_trie.proofs.index.Index.+prune.Goals as goal

pub write-requires : goal.write-requires
write-requires g t c =
    let old = c.args.self.now in
    let r = c.requires in
    let above = c.above-above.ensures in
    let way = above.way r.heads r.layout r.holds (subst (OnWay old r.layout c.args.address) (sym c.top.ensures) (top_way old r.layout c.args.address c.known.ensures.fits)) in
    place_above (is_live old) _ r.heads r.layout c.above-above.result.at c.in-Some.at.0 (inner_fits old r.heads r.layout c.above-above.result c.in-Some.at.0 r.holds way.stands above.target) (kept_less old.branches c.remove.new.self c.in-Some.at.0 c.remove.ensures.updates) way.stands.place

pub prune-requires : goal.prune-requires
prune-requires g t c κs within =
    let old = c.args.self.now in
    let new = c.write.new.self in
    let mid : Index = record { root = old.root; branches = c.remove.new.self } in
    let r = c.requires in
    let above = c.above-above.ensures in
    let at = c.above-above.result.at in
    let way = above.way r.heads r.layout r.holds (subst (OnWay old r.layout c.args.address) (sym c.top.ensures) (top_way old r.layout c.args.address c.known.ensures.fits)) in
    let w = subst (Writes (is_live mid) (is_live new) (link_at mid) (link_at new) at) c.nothing.ensures c.write.ensures.writes in
    let d = drops_of old mid new at c.in-Some.at.0 c.index-links.result.now c.index-links.ensures refl c.remove.ensures.updates w (way.stands.leads ∙ above.target) (c.is_empty.ensures.0 c.if-not-is_empty.false) in (
      subst (λ m. slab_len new.branches < m) c.decreases (omega (arith, c.write.ensures.len, c.remove.ensures.len)),
      (
        within,
        record {
          heads = r.heads;
          layout = r.layout;
          holds = drop_holds (is_live old) (is_live new) (link_at old) (link_at new) r.heads r.layout at c.in-Some.at.0 r.holds way.stands.place d;
          place = place_above (is_live old) (is_live new) r.heads r.layout at c.in-Some.at.0 (inner_fits old r.heads r.layout c.above-above.result c.in-Some.at.0 r.holds way.stands above.target) d.kept way.stands.place;
          lies = way.lies;
          bare = d.top;
        },
      ),
    )

pub returns : goal.returns
returns g t c = λ heads ix.
    let old = c.args.self.now in
    let new = c.write.new.self in
    let mid : Index = record { root = old.root; branches = c.remove.new.self } in
    let above = c.above-above.ensures in
    let at = c.above-above.result.at in
    let way = above.way heads ix.layout ix.holds (subst (OnWay old ix.layout c.args.address) (sym c.top.ensures) (top_way old ix.layout c.args.address c.known.ensures.fits)) in
    let w = subst (Writes (is_live mid) (is_live new) (link_at mid) (link_at new) at) c.nothing.ensures c.write.ensures.writes in
    let d = drops_of old mid new at c.in-Some.at.0 c.index-links.result.now c.index-links.ensures refl c.remove.ensures.updates w (way.stands.leads ∙ above.target) (c.is_empty.ensures.0 c.if-not-is_empty.false) in
    c.prune.ensures heads (record { layout = ix.layout; holds = drop_holds (is_live old) (is_live new) (link_at old) (link_at new) heads ix.layout at c.in-Some.at.0 ix.holds way.stands.place d })
