use Rattle.router_moments.proofs.CoreLemmas.{readers_of}
use Rattle.router_core.proofs.RestLemmas.{fresh_value, fresh_stood, profiled_informed}
use Rattle.router_core.proofs.router.Core.set_profile.Goals as goal

pub returns-clause-value : goal.returns-clause-value
returns-clause-value g c = fresh_value g.F.Family.V6 c.args.profile c.args.self.now c.self.inside.network c.set_profile.new.self c.self.inside.events c.self.inside.failed c.self.view_is c.requires.fresh c.set_profile.ensures

pub returns-clause-stands : goal.returns-clause-stands
returns-clause-stands g c = fresh_stood g.F.Family.V6 c.args.profile c.args.self.now c.self.inside.network c.set_profile.new.self c.self.inside.events c.self.inside.failed c.self.view_is c.requires.fresh c.set_profile.ensures c.requires.family c.a_new_tree_stands.ensures

pub invariant_of-self : goal.invariant_of-self
invariant_of-self g c = λ off. (
  readers_of c.set_profile.new.self (fresh_stood g.F.Family.V6 c.args.profile c.args.self.now c.self.inside.network c.set_profile.new.self c.self.inside.events c.self.inside.failed c.self.view_is c.requires.fresh c.set_profile.ensures c.requires.family c.a_new_tree_stands.ensures).stands,
  profiled_informed _ c.self.inside.network c.set_profile.new.self c.args.profile c.set_profile.ensures (c.self.invariant off).1,
)
