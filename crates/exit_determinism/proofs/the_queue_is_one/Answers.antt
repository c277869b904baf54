use Rattle.exit_determinism.proofs.QueueLemmas as one
use Rattle.exit_determinism.proofs.the_queue_is_one.Goals as goal

pub returns-clause-put : goal.returns-clause-put
returns-clause-put g c = one.appended_is_one

pub returns-clause-take : goal.returns-clause-take
returns-clause-take g c = one.taken_is_one

pub returns-clause-reader : goal.returns-clause-reader
returns-clause-reader g c = one.reader_is_one
