use Rattle.router.proofs.RouterLemmas.{first_admitted}
use Rattle.router.proofs.router.Router.step_named.Goals as goal

pub step_first-requires-clause-admitted : goal.step_first-requires-clause-admitted
step_first-requires-clause-admitted c = first_admitted c.args.self.now.first.moment.declared c.args.event c.in-First.event c.in-First.is c.requires.admitted
