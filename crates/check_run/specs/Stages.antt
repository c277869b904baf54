-- What a walk over a text that comes in pieces is seen as.
use Rattle.check_run.specs.Walking.{Stage}
use Rattle.check_run.specs.declared.checking.Checking.{Checking}

abbrev pub stage : Checking → Stage
stage c = record { walk = c.walk; pending = c.pending.items }
