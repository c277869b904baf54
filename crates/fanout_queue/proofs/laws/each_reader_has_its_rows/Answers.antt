use Rattle.fanout_queue.proofs.LeadLemmas.{each_reader_leads, put_keeps_read, take_keeps_others}
use Rattle.fanout_queue.proofs.laws.each_reader_has_its_rows.Goals as goal

pub returns-clause-leads : goal.returns-clause-leads
returns-clause-leads g c = each_reader_leads

pub returns-clause-put : goal.returns-clause-put
returns-clause-put g c = put_keeps_read

pub returns-clause-others : goal.returns-clause-others
returns-clause-others g c = take_keeps_others
