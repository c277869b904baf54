use Rattle.link_change.proofs.InOrderLemmas.{take_sends, take_leads, take_sends_here, take_leads_here}
use Rattle.link_change.proofs.laws.the_first_change_leads.Goals as goal

pub returns : goal.returns
returns g c = record { sends = take_sends; leads = take_leads; sends_here = take_sends_here; leads_here = take_leads_here }
