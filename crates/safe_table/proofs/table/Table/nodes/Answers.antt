use Rattle.std.proofs.Common.{◌∙◌, sym, ap, subst}
use Rattle.std.specs.FinMap as map
use Rattle.nibble_trie.specs.Contents.{HasKey}
use Rattle.safe_table.proofs.Standing.{get-iterators}
use Rattle.safe_table.proofs.Keeping.{has_live, has_place}
use Rattle.safe_table.proofs.table.Table.nodes.Goals as goal

pub returns-clause-rows : goal.returns-clause-rows
returns-clause-rows g c = λ p h. c.nodes.ensures.rows p (has_live c.self.inside.trie.rows p (subst (λ v. HasKey v.rows p) (sym c.self.view_is) h))

pub returns-clause-places : goal.returns-clause-places
returns-clause-places g c = λ it p at.
    let slots = c.self.inside.places.slots in
    c.nodes.ensures.rows p (has_place c.self.inside.trie.rows slots it p c.self.invariant.kept (sym (get-iterators slots it) ∙ ap (λ v. map.get v.iterators it) c.self.view_is ∙ at))
