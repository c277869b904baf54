use Rattle.fanout_queue.proofs.LeadLemmas.{put_keeps_leading, take_keeps_leading, join_keeps_leading, drop_keeps_leading}
use Rattle.fanout_queue.proofs.laws.readers_keep_leading.Goals as goal

pub returns-clause-put : goal.returns-clause-put
returns-clause-put g c = put_keeps_leading

pub returns-clause-take : goal.returns-clause-take
returns-clause-take g c = take_keeps_leading

pub returns-clause-join : goal.returns-clause-join
returns-clause-join g c = join_keeps_leading

pub returns-clause-drop : goal.returns-clause-drop
returns-clause-drop g c = drop_keeps_leading
