use Rattle.link_change.proofs.InOrderLemmas.{lead_at_each, first_here, first_elsewhere, last_here, last_elsewhere}
use Rattle.link_change.proofs.laws.changes_lead_prefix_by_prefix.Goals as goal

pub returns : goal.returns
returns g c = record { each = lead_at_each; first_here = first_here; first_elsewhere = first_elsewhere; last_here = last_here; last_elsewhere = last_elsewhere }
