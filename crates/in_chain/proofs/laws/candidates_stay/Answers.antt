use Rattle.in_chain.proofs.CandidateLemmas.{feeds_keep_others, welds_keep_candidates, losses_keep_candidates, edits_keep_candidates, walks_keep_candidates}
use Rattle.in_chain.proofs.laws.candidates_stay.Goals as goal

pub returns-clause-feeds : goal.returns-clause-feeds
returns-clause-feeds c = feeds_keep_others

pub returns-clause-welds : goal.returns-clause-welds
returns-clause-welds c = welds_keep_candidates

pub returns-clause-losses : goal.returns-clause-losses
returns-clause-losses c = losses_keep_candidates

pub returns-clause-edits : goal.returns-clause-edits
returns-clause-edits c = edits_keep_candidates

pub returns-clause-walks : goal.returns-clause-walks
returns-clause-walks c = walks_keep_candidates
