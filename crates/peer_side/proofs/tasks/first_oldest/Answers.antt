use Rattle.std.proofs.Common.{List, sym, ap, ◌∙◌}
use Rattle.std.specs.List.{flat_map}
use Rattle.in_chain.specs.Chains.{Chained}
use Rattle.loss_chain.specs.Steps.{first_task}
use Rattle.peer_side.specs.Peers.{chain_tasks}
use Rattle.peer_side.proofs.TaskLemmas.{oldest_found, oldest_none}
use Rattle.peer_side.proofs.tasks.first_oldest.Goals as goal

-- src/tasks.rt:52:13
pub returns-in-Some-oldest-clause-first : goal.returns-in-Some-oldest-clause-first
returns-in-Some-oldest-clause-first g c =
    let one = c.in-Some.chain.now in
    sym (sym c.loop-chain.invariant
    ∙ ap (λ (l : List Chained). first_task (flat_map chain_tasks l)) c.in-Some.ensures.steps
    ∙ oldest_found one.incoming.number one.incoming.tables.deletions (flat_map chain_tasks c.next.new.self) c.in-Some-oldest.task (sym c.oldest.ensures ∙ c.in-Some-oldest.is))

-- src/tasks.rt:50:5
pub loop-chain-preserved : goal.loop-chain-preserved
loop-chain-preserved g c =
    let one = c.in-Some.chain.now in
    sym (oldest_none one.incoming.number one.incoming.tables.deletions (flat_map chain_tasks c.next.new.self) (sym c.oldest.ensures ∙ c.in_default.is))
    ∙ ap (λ (l : List Chained). first_task (flat_map chain_tasks l)) (sym c.in-Some.ensures.steps)
    ∙ c.loop-chain.invariant
