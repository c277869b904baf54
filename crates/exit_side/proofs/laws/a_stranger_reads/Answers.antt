use Rattle.exit_side.proofs.StrangerLemmas.{strangers_join, strangers_take}
use Rattle.exit_side.proofs.laws.a_stranger_reads.Goals as goal

pub returns-clause-joins : goal.returns-clause-joins
returns-clause-joins c = strangers_join c.a_session_stands.ensures.others

pub returns-clause-takes : goal.returns-clause-takes
returns-clause-takes c = strangers_take c.a_session_stands.ensures.others
