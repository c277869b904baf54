use Rattle.journal_laws.proofs.LawfulTexts.{printed_judged, refused_judged, lawful_ends}
use Rattle.journal_laws.proofs.printed_is_lawful.Goals as goal

pub returns-clause-judged : goal.returns-clause-judged
returns-clause-judged c = printed_judged

pub returns-clause-refused : goal.returns-clause-refused
returns-clause-refused c = refused_judged

pub returns-clause-ends : goal.returns-clause-ends
returns-clause-ends c = lawful_ends
