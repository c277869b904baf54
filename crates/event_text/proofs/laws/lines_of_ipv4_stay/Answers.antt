use Rattle.event_text.proofs.LawLemmas.{ipv4_lines_stay, ipv4_lines_may_stay}
use Rattle.event_text.proofs.laws.lines_of_ipv4_stay.Goals as goal

pub returns-clause-read : goal.returns-clause-read
returns-clause-read c = ipv4_lines_stay

pub returns-clause-admitted : goal.returns-clause-admitted
returns-clause-admitted c = ipv4_lines_may_stay
