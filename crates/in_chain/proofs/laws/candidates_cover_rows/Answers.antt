use Rattle.in_chain.proofs.CandidateLemmas.{candidates_cover_rows, no_candidate_at_first}
use Rattle.in_chain.proofs.laws.candidates_cover_rows.Goals as goal

pub returns-clause-covers : goal.returns-clause-covers
returns-clause-covers c = candidates_cover_rows

pub returns-clause-first : goal.returns-clause-first
returns-clause-first c = no_candidate_at_first
