use Rattle.fanout_queue.proofs.LeadLemmas.{put_keeps_readers, take_keeps_readers, join_keeps_readers, drop_keeps_others}
use Rattle.fanout_queue.proofs.laws.readers_stay_live.Goals as goal

pub returns-clause-put : goal.returns-clause-put
returns-clause-put g c = put_keeps_readers

pub returns-clause-take : goal.returns-clause-take
returns-clause-take g c = take_keeps_readers

pub returns-clause-join : goal.returns-clause-join
returns-clause-join g c = join_keeps_readers

pub returns-clause-drop : goal.returns-clause-drop
returns-clause-drop g c = drop_keeps_others
