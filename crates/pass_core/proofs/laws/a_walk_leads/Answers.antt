use Rattle.pass_core.proofs.TurnLemmas.{step_of_a_walk, end_of_a_walk, a_walk_leads}
use Rattle.pass_core.proofs.laws.a_walk_leads.Goals as goal

pub returns : goal.returns
returns g c = record { step = step_of_a_walk; end = end_of_a_walk; leads = a_walk_leads }
