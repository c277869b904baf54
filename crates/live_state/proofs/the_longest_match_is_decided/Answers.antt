use Rattle.live_state.proofs.LongestLemmas.{the_longest_match}
use Rattle.live_state.proofs.the_longest_match_is_decided.Goals as goal

pub returns : goal.returns
returns c = the_longest_match
