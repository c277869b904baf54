use Rattle.journal_text.proofs.WalkLemmas.{with_link_swap}
use Rattle.journal_text.proofs.laws.links_are_set_in_either_order.Goals as goal

pub returns : goal.returns
returns g c = with_link_swap
