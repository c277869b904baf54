use Rattle.std.proofs.Common.{sym, subst}
use Rattle.std.proofs.lemmas.Result.{on_ok_weaker}
use Rattle.loss_chain.specs.Tables.{OneEmptyAtMost}
use Rattle.in_chain.specs.Incomings.{Incoming}
use Rattle.loss_chain.proofs.WorkLemmas.{none_is_one}
use Rattle.in_chain.proofs.chain.Chain.unit.Goals as goal

pub returns-then-number-self-clause-one_empty : goal.returns-then-number-self-clause-one_empty
returns-then-number-self-clause-one_empty g c = none_is_one _ c.requires.full

pub returns-then-number-self-2-clause-one_empty : goal.returns-then-number-self-2-clause-one_empty
returns-then-number-self-2-clause-one_empty g c = none_is_one _ c.requires.full

pub returns-else-number-self-2-clause-one_empty : goal.returns-else-number-self-2-clause-one_empty
returns-else-number-self-2-clause-one_empty g c =
    on_ok_weaker c.walk.result (λ same. subst (λ (i : Incoming). OneEmptyAtMost i.tables.deletions) (sym same) (none_is_one _ c.requires.full)) c.walk.ensures.incoming

pub returns-in_default-clause-one_empty : goal.returns-in_default-clause-one_empty
returns-in_default-clause-one_empty g c = none_is_one _ c.requires.full
