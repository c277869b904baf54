use Rattle.std.proofs.Common.{◌≡◌, ◌∙◌, None, get_or, sym, ap, arith}
use Rattle.std.specs.FinMap as map
use Rattle.addr4.specs.declared.place.Place.TheVariants.{Before}
use Rattle.safe_table.proofs.Standing.{live_set, get-iterators, iterators_insert, moved_standing, stand}
use Rattle.safe_table.proofs.Keeping.{kept_same}
use Rattle.safe_table.proofs.table.Table.iter_begin.Goals as goal

pub returns-clause-fresh : goal.returns-clause-fresh
returns-clause-fresh g c = ap (λ v. map.get v.iterators c.in_ok-id.id) (sym c.self.view_is) ∙ get-iterators c.self.inside.places.slots c.in_ok-id.id ∙ c.in_ok-id.ensures.was_vacant

pub returns-clause-ok : goal.returns-clause-ok
returns-clause-ok g c = iterators_insert c.self.inside.places c.insert.new.self c.in_ok-id.id Before c.in_ok-id.ensures.updates ∙ ap (λ v. map.insert v.iterators c.in_ok-id.id Before) c.self.view_is

pub invariant_of-self-2 : goal.invariant_of-self-2
invariant_of-self-2 g c =
    let e = c.in_ok-id.ensures in
    record {
      kept = kept_same c.self.inside.trie.rows c.self.inside.places.slots c.insert.new.self.slots c.self.invariant.kept (λ q.
          let moved = moved_standing q c.in_ok-id.id c.self.inside.places.slots c.insert.new.self.slots (λ k differ. sym (e.updates.others k differ)) in
          let was : stand q (get_or c.self.inside.places.slots c.in_ok-id.id None) ≡ 0 = ap (stand q) e.was_vacant in
          let is : stand q (get_or c.insert.new.self.slots c.in_ok-id.id None) ≡ 0 = ap (stand q) e.updates.changed in
          omega arith);
      counts = c.self.invariant.counts;
      few = omega (arith, e.len);
    }

pub returns-clause-live : goal.returns-clause-live
returns-clause-live g c = live_set c.self.inside.places c.insert.new.self c.in_ok-id.id Before c.in_ok-id.ensures.updates
