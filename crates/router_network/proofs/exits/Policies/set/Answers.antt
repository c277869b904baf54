use Rattle.router_network.proofs.PolicyLemmas.{policies_set}
use Rattle.router_network.proofs.exits.Policies.set.Goals as goal

pub returns : goal.returns
returns g c = policies_set c.self.inside.rules c.insert.new.self c.args.self.now c.args.number c.args.rules c.self.view_is c.in_ok-insert.ensures.updates
