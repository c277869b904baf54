use Rattle.register_interest.proofs.RegisterLemmas.{removed_stands, removed_short}
use Rattle.register_interest.specs.Search.{rows_in}
use Rattle.register_interest.proofs.register.Register.forget.Goals as goal

pub invariant_of-self : goal.invariant_of-self
invariant_of-self g c = rw c.give_up.ensures (
  removed_stands (rows_in c.self.inside.rows) c.self.inside.interests (record { subnet = c.args.subnet; client = c.args.client }) c.self.invariant.0,
  c.self.invariant.1,
  removed_short g.F.Family.WIDTH c.self.inside.interests (record { subnet = c.args.subnet; client = c.args.client }) c.self.invariant.2,
)
