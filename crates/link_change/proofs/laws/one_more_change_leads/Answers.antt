use Rattle.link_change.proofs.InOrderLemmas.{put_keeps_before, put_leads, put_leads_row}
use Rattle.link_change.proofs.laws.one_more_change_leads.Goals as goal

pub returns : goal.returns
returns g c = record { before = put_keeps_before; leads = put_leads; leads_row = put_leads_row }
