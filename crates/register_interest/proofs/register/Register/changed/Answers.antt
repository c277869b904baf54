use Rattle.register_interest.proofs.RegisterLemmas.{changed_stands, changed_keeps, changed_short, left_short}
use Rattle.register_interest.specs.Search.{rows_in}
use Rattle.register_interest.proofs.register.Register.changed.Goals as goal

pub invariant_of-self-2 : goal.invariant_of-self-2
invariant_of-self-2 g c = rw (c.give_up_all.ensures, c.in_ok-set_row.ensures.ok, c.deref.ensures.value) (
  changed_stands (rows_in c.self.inside.rows) c.self.inside.interests c.args.prefix c.args.new c.in_ok-out.out.items c.known.ensures.masked c.self.invariant.0 c.in_ok-out.ensures,
  changed_short g.F.Family.WIDTH (rows_in c.self.inside.rows) c.args.prefix c.args.new c.known.ensures.short c.self.invariant.1,
  left_short g.F.Family.WIDTH c.self.inside.interests c.in_ok-out.out.items c.self.invariant.2,
)

pub returns-clause-same : goal.returns-clause-same
returns-clause-same g c =
    let kept = changed_keeps (rows_in c.self.inside.rows) c.self.inside.interests c.args.prefix c.args.new c.in_ok-out.out.items c.known.ensures.masked c.self.invariant.0 c.in_ok-out.ensures in
    rw (c.give_up_all.ensures, c.in_ok-set_row.ensures.ok, c.deref.ensures.value, ← c.self.view_is) kept
