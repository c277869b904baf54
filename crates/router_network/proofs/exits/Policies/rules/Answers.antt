use Rattle.router_moments.proofs.Common.{◌∙◌, IfOk-weaker}
use Rattle.std.proofs.Common.{Some, None}
use Rattle.router_network.proofs.PolicyLemmas.{policies_get}
use Rattle.router_network.proofs.exits.Policies.rules.Goals as goal

pub returns-in-Some : goal.returns-in-Some
returns-in-Some g c = IfOk-weaker c.copy.result _ _ (λ rules is. is ∙ policies_get c.self.inside.rules c.args.self.now c.args.number (Some c.in-Some.rules.now) c.self.view_is c.in-Some.ensures.value) c.copy.ensures

pub returns-in-None : goal.returns-in-None
returns-in-None g c = c.new.ensures ∙ policies_get c.self.inside.rules c.args.self.now c.args.number None c.self.view_is c.in-None.ensures.value
