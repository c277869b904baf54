use Rattle.exit_laws.proofs.HearLemmas as hear
use Rattle.exit_laws.proofs.what_is_heard.Goals as goal

pub returns-clause-joins : goal.returns-clause-joins
returns-clause-joins c = hear.hearing_joins

pub returns-clause-one : goal.returns-clause-one
returns-clause-one c = hear.hearing_is_one c.one_of_message_and_fault.ensures

pub returns-clause-stays : goal.returns-clause-stays
returns-clause-stays c = hear.hearing_stays

pub returns-clause-nothing : goal.returns-clause-nothing
returns-clause-nothing c = hear.nothing_is_heard
