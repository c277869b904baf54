use Rattle.rib_exit.proofs.ReachLemmas.{stales}
use Rattle.rib_exit.proofs.steps.RibExit+ExtInt+F.invalidate.Goals as goal

pub returns-clause-stale : goal.returns-clause-stale
returns-clause-stale g c = stales c.args.subnet c.args.self.now c.invalidate.new.self c.requires.sound c.in_ok-invalidate.ensures.stale c.are_named.ensures
