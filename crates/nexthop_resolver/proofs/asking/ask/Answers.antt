use Rattle.nexthop_resolver.proofs.AskLemmas.{comes_in, comes_alone, largest_of}
use Rattle.nexthop_resolver.proofs.asking.ask.Goals as goal

pub returns-clause-interest : goal.returns-clause-interest
returns-clause-interest g c = comes_in c.args.client c.args.register.now c.query.new.self c.in_ok-found.subnet _ c.in_ok-found.ensures.interests

pub returns-clause-others : goal.returns-clause-others
returns-clause-others g c =
    comes_alone c.args.client c.args.register.now c.query.new.self c.in_ok-found.subnet _ c.in_ok-found.ensures.rows c.in_ok-found.ensures.interests

pub returns-clause-largest : goal.returns-clause-largest
returns-clause-largest g c = largest_of c.args.register.now c.args.hop _ c.in_ok-found.subnet c.in_ok-found.ensures.cover
