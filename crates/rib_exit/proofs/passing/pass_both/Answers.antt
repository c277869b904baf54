use Rattle.rib_exit.proofs.PassLemmas.{passes_both}
use Rattle.rib_exit.proofs.passing.pass_both.Goals as goal

pub returns-clause-passed : goal.returns-clause-passed
returns-clause-passed g c =
    passes_both c.args.link c.other.result c.other.ensures c.args.add c.args.delete (g.I.Upstream.rows c.args.int.now) c.args.register.now c.pass.new.register
    c.args.hops.now c.pass.new.hops c.pass-2.new.hops c.in_ok-first.first c.in_ok-second.second c.or.result c.args.journal.now c.pass.new.journal c.pass-2.new.journal
    c.pass.ensures.others.rows c.or.ensures c.in_ok-first.ensures.passed c.in_ok-second.ensures.passed
