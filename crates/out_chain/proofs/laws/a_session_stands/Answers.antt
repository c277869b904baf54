use Rattle.out_chain.proofs.LawLemmas.{put_keeps_standing, others_keep_standing}
use Rattle.out_chain.proofs.laws.a_session_stands.Goals as goal

pub returns-clause-put : goal.returns-clause-put
returns-clause-put c = put_keeps_standing

pub returns-clause-others : goal.returns-clause-others
returns-clause-others c = others_keep_standing
