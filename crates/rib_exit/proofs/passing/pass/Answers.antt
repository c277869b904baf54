use Rattle.rib_exit.proofs.PassLemmas.{passes_silent, passes_on}
use Rattle.rib_exit.proofs.passing.pass.Goals as goal

pub returns-in_default-clause-passed : goal.returns-in_default-clause-passed
returns-in_default-clause-passed g c =
    passes_silent c.args.link c.journal_link.result c.journal_link.ensures c.side_of.result c.side_of.ensures c.args.change c.args.other (g.I.Upstream.rows c.args.int.now) c.args.register.now c.args.hops.now
    c.args.journal.now c.push_change.new.self c.in_ok-push_change.ensures c.in_default.ensures

pub returns-clause-passed : goal.returns-clause-passed
returns-clause-passed g c =
    passes_on c.args.link c.journal_link.result c.journal_link.ensures c.side_of.result c.side_of.ensures c.args.change c.args.other (g.I.Upstream.rows c.args.int.now) c.args.register.now c.args.hops.now
    c.args.journal.now c.push_change.new.self c.in_ok-push_change.ensures c.in-Some.merged c.take_ext.new.self c.in_ok-sent.sent c.push_change-2.new.self c.push_sent.new.self c.in-Some.ensures
    c.in_ok-sent.ensures.taken c.in_ok-sent.ensures.keeps c.in_ok-push_change-2.ensures c.in_ok-push_sent.ensures
