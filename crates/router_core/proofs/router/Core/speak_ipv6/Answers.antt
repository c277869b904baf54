use Rattle.router_moments.proofs.CoreLemmas.{readers_of}
use Rattle.router_core.proofs.RestLemmas.{off_of, spoken_value, spoken_stood, spoken_informed}
use Rattle.router_core.proofs.router.Core.speak_ipv6.Goals as goal

pub returns-clause-value : goal.returns-clause-value
returns-clause-value g c = spoken_value c.args.self.now c.self.inside.network c.self.inside.events c.self.inside.failed c.self.view_is (off_of c.args.self.now c.self.inside.network c.self.inside.events c.self.inside.failed c.self.view_is c.requires.stands) c.requires.stands c.speak_ipv6.new.self c.speak_ipv6.ensures

pub returns-clause-stands : goal.returns-clause-stands
returns-clause-stands g c = spoken_stood c.args.self.now c.self.inside.network c.self.inside.events c.self.inside.failed c.self.view_is (off_of c.args.self.now c.self.inside.network c.self.inside.events c.self.inside.failed c.self.view_is c.requires.stands) c.requires.stands c.speak_ipv6.new.self c.speak_ipv6.ensures c.requires.alone

pub invariant_of-self : goal.invariant_of-self
invariant_of-self g c = λ off. (
  readers_of c.speak_ipv6.new.self (spoken_stood c.args.self.now c.self.inside.network c.self.inside.events c.self.inside.failed c.self.view_is (off_of c.args.self.now c.self.inside.network c.self.inside.events c.self.inside.failed c.self.view_is c.requires.stands) c.requires.stands c.speak_ipv6.new.self c.speak_ipv6.ensures c.requires.alone).stands,
  spoken_informed c.args.self.now c.self.inside.network c.self.inside.events c.self.inside.failed c.self.view_is (off_of c.args.self.now c.self.inside.network c.self.inside.events c.self.inside.failed c.self.view_is c.requires.stands) c.requires.stands c.speak_ipv6.new.self c.speak_ipv6.ensures _ (c.self.invariant off).1,
)
