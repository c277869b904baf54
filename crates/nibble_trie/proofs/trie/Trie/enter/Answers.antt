use Rattle.std.proofs.Common.{IsSome, ◌∙◌, refl, sym, ap, subst}
use Rattle.std.specs.FinMap as map
use Rattle.slab.specs.Slab.{Slab}
use Rattle.nibble_trie.specs.Leaves.{Node}
use Rattle.nibble_trie.specs.Contents.{Contents, HasKey, LiesAt}
use Rattle.nibble_trie.specs.View.{rows_of}
use Rattle.nibble_trie.proofs.Rows.{node_at, row_of, row_none}
use Rattle.nibble_trie.proofs.Wholes.{whole_sized, gap_sized, lies_at}
use Rattle.nibble_trie.proofs.trie.Trie.enter.Goals as goal

pub returns-in-Ok-clause-ok : goal.returns-in-Ok-clause-ok
returns-in-Ok-clause-ok g c =
    let leaves = c.self.inside.leaves in
    let n = node_at leaves c.in-Ok.key c.args.prefix c.in-Ok.ensures.found in
    record {
      there = subst (λ v. HasKey v.rows c.args.prefix) c.self.view_is (subst IsSome (sym (row_of leaves c.in-Ok.key n.0 c.args.prefix c.self.invariant.chained.single n.1 n.2)) refl);
      lies = subst (λ v. LiesAt v.leaves c.in-Ok.key c.args.prefix) c.self.view_is (lies_at leaves c.in-Ok.key c.args.prefix c.in-Ok.ensures.found);
      back = refl;
      stays = refl;
    }

pub invariant_of-self : goal.invariant_of-self
invariant_of-self g c =
    let i = c.self.inside in
    whole_sized i.leaves c.make_room.new.leaves i.index.branches c.make_room.new.branches i.index.root c.make_room.ensures.leaves c.make_room.ensures.branches c.self.invariant

pub returns-then-not-make_room-clause-absent : goal.returns-then-not-make_room-clause-absent
returns-then-not-make_room-clause-absent g c = ap (λ (v : Contents _). map.get v.rows c.args.prefix) (sym c.self.view_is) ∙ row_none c.self.inside.leaves c.args.prefix c.in-Err.ensures.absent

pub add-requires-clause-whole : goal.add-requires-clause-whole
add-requires-clause-whole g c =
    let i = c.self.inside in
    whole_sized i.leaves c.make_room.new.leaves i.index.branches c.make_room.new.branches i.index.root c.make_room.ensures.leaves c.make_room.ensures.branches c.self.invariant

pub add-requires-clause-gap : goal.add-requires-clause-gap
add-requires-clause-gap g c =
    let i = c.self.inside in
    gap_sized i.leaves c.make_room.new.leaves i.index.branches c.make_room.new.branches i.index.root c.args.prefix c.in-Err.gap c.make_room.ensures.leaves c.make_room.ensures.branches c.in-Err.ensures.gap

pub returns-clause-ok : goal.returns-clause-ok
returns-clause-ok g c = record {
  absent = ap (λ (v : Contents _). map.get v.rows c.args.prefix) (sym c.self.view_is) ∙ row_none c.self.inside.leaves c.args.prefix c.in-Err.ensures.absent;
  rows =
      c.add.ensures.rows
      ∙ ap (λ (l : Slab (Node _)). map.insert (rows_of l) c.args.prefix c.args.value) c.make_room.ensures.leaves
      ∙ ap (λ (v : Contents _). map.insert v.rows c.args.prefix c.args.value) c.self.view_is;
}
