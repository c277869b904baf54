use Rattle.std.proofs.Common.{◌∙◌, Some, None, IsSome, refl, sym, ap, subst, arith}
use Rattle.std.specs.FinMap as map
use Rattle.addr4.specs.Places.{key_of, IsNextRow}
use Rattle.addr4.specs.declared.place.Place.TheVariants.{At}
use Rattle.safe_table.proofs.Standing.{count_kept, live_set, get-iterators, iterators_insert, kept_place}
use Rattle.safe_table.proofs.Keeping.{has_live, readers_fit}
use Rattle.safe_table.proofs.Keeping.{gone_on, ready_to_leave}
use Rattle.slab.specs.Slab.{with_value}
use Rattle.slab.proofs.SlabLemmas.{Updates-with_value}
use Rattle.safe_table.proofs.table.Table.iter_next.Goals as goal

pub index-requires : goal.index-requires
index-requires g c = kept_place c.self.inside.places.slots c.it.inside.id (subst (λ v. IsSome (map.get v.iterators c.it.inside.id)) (sym c.self.view_is) (subst (λ id. IsSome (map.get c.args.self.now.iterators id)) (sym c.it.view_is) c.requires))

pub index-place-requires : goal.index-place-requires
index-place-requires g c = kept_place c.self.inside.places.slots c.it.inside.id (subst (λ v. IsSome (map.get v.iterators c.it.inside.id)) (sym c.self.view_is) (subst (λ id. IsSome (map.get c.args.self.now.iterators id)) (sym c.it.view_is) c.requires))

pub returns-in-None-clause-moves : goal.returns-in-None-clause-moves
returns-in-None-clause-moves g c =
    record {
      place = c.index.result.now;
      stood = ap (λ id. map.get c.args.self.now.iterators id) (sym c.it.view_is) ∙ ap (λ v. map.get v.iterators c.it.inside.id) (sym c.self.view_is) ∙ get-iterators c.self.inside.places.slots c.it.inside.id ∙ c.index.ensures;
      found = subst (λ v. IsNextRow (map.get v.rows) (key_of c.index.result.now) None) c.self.view_is c.in-None.ensures;
      moved = refl;
    }

pub enter-requires-clause-has : goal.enter-requires-clause-has
enter-requires-clause-has g c = has_live c.self.inside.trie.rows c.in-Some.row.0 c.in-Some.ensures.1

pub enter-requires-clause-fits : goal.enter-requires-clause-fits
enter-requires-clause-fits g c = readers_fit c.self.inside.trie.rows c.self.inside.places.slots c.in-Some.row.0 c.it.inside.id c.index.result.now c.self.invariant.kept c.index.ensures c.in-Some.ensures.0 c.self.invariant.few

pub leave_place-requires : goal.leave_place-requires
leave_place-requires g c =
    ready_to_leave c.self.inside.trie.rows c.enter.new.trie.rows c.self.inside.places (with_value c.self.inside.places c.it.inside.id (At c.in-Some.row.0)) c.it.inside.id c.index-place.result.now c.in-Some.row.0 c.self.invariant.kept
    (has_live c.self.inside.trie.rows c.in-Some.row.0 c.in-Some.ensures.1) c.enter.ensures c.index-place.ensures (Updates-with_value c.self.inside.places c.it.inside.id (At c.in-Some.row.0) (subst IsSome (sym c.index-place.ensures) refl))

pub invariant_of-self : goal.invariant_of-self
invariant_of-self g c =
    let gone = gone_on c.self.inside.trie.rows c.enter.new.trie.rows c.leave_place.new.trie.rows c.self.inside.places (with_value c.self.inside.places c.it.inside.id (At c.in-Some.row.0)) c.it.inside.id c.index-place.result.now c.in-Some.row.0 c.self.invariant.kept
    (has_live c.self.inside.trie.rows c.in-Some.row.0 c.in-Some.ensures.1) c.enter.ensures c.index-place.ensures (Updates-with_value c.self.inside.places c.it.inside.id (At c.in-Some.row.0) (subst IsSome (sym c.index-place.ensures) refl)) c.leave_place.ensures in
    record { kept = gone.kept; counts = c.self.invariant.counts ∙ ap map.len (sym gone.rows); few = omega (arith, c.self.invariant.few, count_kept c.self.inside.places c.it.inside.id c.index-place.result.now (At c.in-Some.row.0) c.index-place.ensures) }

pub returns-clause-rows : goal.returns-clause-rows
returns-clause-rows g c =
    let gone = gone_on c.self.inside.trie.rows c.enter.new.trie.rows c.leave_place.new.trie.rows c.self.inside.places (with_value c.self.inside.places c.it.inside.id (At c.in-Some.row.0)) c.it.inside.id c.index-place.result.now c.in-Some.row.0 c.self.invariant.kept
    (has_live c.self.inside.trie.rows c.in-Some.row.0 c.in-Some.ensures.1) c.enter.ensures c.index-place.ensures (Updates-with_value c.self.inside.places c.it.inside.id (At c.in-Some.row.0) (subst IsSome (sym c.index-place.ensures) refl)) c.leave_place.ensures in
    gone.rows ∙ ap (λ v. v.rows) c.self.view_is

pub returns-clause-moves : goal.returns-clause-moves
returns-clause-moves g c =
    record {
      place = c.index.result.now;
      stood = ap (λ id. map.get c.args.self.now.iterators id) (sym c.it.view_is) ∙ ap (λ v. map.get v.iterators c.it.inside.id) (sym c.self.view_is) ∙ get-iterators c.self.inside.places.slots c.it.inside.id ∙ c.index.ensures;
      found = subst (λ v. IsNextRow (map.get v.rows) (key_of c.index.result.now) (Some c.in-Some.row.0)) c.self.view_is c.in-Some.ensures;
      moved = iterators_insert c.self.inside.places (with_value c.self.inside.places c.it.inside.id (At c.in-Some.row.0)) c.it.inside.id (At c.in-Some.row.0) (Updates-with_value c.self.inside.places c.it.inside.id (At c.in-Some.row.0) (subst IsSome (sym c.index.ensures) refl)) ∙ ap (λ v. map.insert v.iterators c.it.inside.id (At c.in-Some.row.0)) c.self.view_is ∙ ap (λ id. map.insert c.args.self.now.iterators id (At c.in-Some.row.0)) c.it.view_is;
    }

pub returns-clause-live : goal.returns-clause-live
returns-clause-live g c = live_set c.self.inside.places (with_value c.self.inside.places c.it.inside.id (At c.in-Some.row.0)) c.it.inside.id (At c.in-Some.row.0) (Updates-with_value c.self.inside.places c.it.inside.id (At c.in-Some.row.0) (subst IsSome (sym c.index-place.ensures) refl))
