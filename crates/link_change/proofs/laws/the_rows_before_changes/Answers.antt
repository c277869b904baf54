use Rattle.link_change.proofs.InOrderLemmas.{before_is_old, before_is_first, unchanged_stays, before_is_covered}
use Rattle.link_change.proofs.laws.the_rows_before_changes.Goals as goal

pub returns : goal.returns
returns g c = record { old = before_is_old; first = before_is_first; stays = unchanged_stays; covered = before_is_covered }
