use Rattle.std.proofs.Common.{◌≡◌, drop, map}
use Rattle.std.specs.List.{find}
use Rattle.journal_text.specs.declared.link.Task.TheVariants.{Del}
use Rattle.in_chain.specs.Steps.{chain_lags}
use Rattle.peer_side.specs.Peers.{chain_tasks}
use Rattle.peer_side.proofs.tasks.first_stage.Given as goal

abbrev pub invariant-loop-place : goal.invariant-loop-place
invariant-loop-place g l = find (λ task. chain_lags l.chain task l.p) (map (λ d. Del l.chain.incoming.number d.number) (drop l.place l.chain.incoming.tables.deletions)) ≡ find (λ task. chain_lags l.chain task l.p) (chain_tasks l.chain)
