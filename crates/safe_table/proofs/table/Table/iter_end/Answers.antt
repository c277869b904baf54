use Rattle.std.proofs.Common.{◌∙◌, None, IsSome, sym, ap, subst, arith}
use Rattle.std.specs.FinMap as map
use Rattle.safe_table.proofs.Standing.{iterators_remove, moved_by, kept_place}
use Rattle.safe_table.proofs.Keeping.{leave_ready, left_kept}
use Rattle.safe_table.proofs.table.Table.iter_end.Goals as goal

pub remove-place-requires : goal.remove-place-requires
remove-place-requires g c = kept_place c.self.inside.places.slots c.it.inside.id (subst (λ v. IsSome (map.get v.iterators c.it.inside.id)) (sym c.self.view_is) (subst (λ id. IsSome (map.get c.args.self.now.iterators id)) (sym c.it.view_is) c.requires))

pub leave_place-requires : goal.leave_place-requires
leave_place-requires g c =
    let e = c.remove-place.ensures in
    leave_ready c.self.inside.trie.rows c.self.inside.places.slots c.remove-place.new.self.slots c.remove-place.result c.self.invariant.kept
    (λ q. omega (arith, moved_by c.self.inside.places c.remove-place.new.self c.it.inside.id c.remove-place.result None q e.value e.updates))

pub invariant_of-self : goal.invariant_of-self
invariant_of-self g c =
    let e = c.remove-place.ensures in
    let left = left_kept c.self.inside.trie.rows c.leave_place.new.trie.rows c.self.inside.places.slots c.remove-place.new.self.slots c.remove-place.result c.self.invariant.kept
    (λ q. omega (arith, moved_by c.self.inside.places c.remove-place.new.self c.it.inside.id c.remove-place.result None q e.value e.updates)) c.leave_place.ensures in
    record { kept = left.0; counts = c.self.invariant.counts ∙ ap map.len (sym left.1); few = omega (arith, c.self.invariant.few, e.len) }

pub returns-clause-rows : goal.returns-clause-rows
returns-clause-rows g c =
    let e = c.remove-place.ensures in
    let left = left_kept c.self.inside.trie.rows c.leave_place.new.trie.rows c.self.inside.places.slots c.remove-place.new.self.slots c.remove-place.result c.self.invariant.kept
    (λ q. omega (arith, moved_by c.self.inside.places c.remove-place.new.self c.it.inside.id c.remove-place.result None q e.value e.updates)) c.leave_place.ensures in
    left.1 ∙ ap (λ v. v.rows) c.self.view_is

pub returns-clause-iterators : goal.returns-clause-iterators
returns-clause-iterators g c =
    iterators_remove c.self.inside.places c.remove-place.new.self c.it.inside.id c.remove-place.ensures.updates ∙ ap (λ v. map.remove v.iterators c.it.inside.id) c.self.view_is ∙ ap (λ id. map.remove c.args.self.now.iterators id) c.it.view_is
