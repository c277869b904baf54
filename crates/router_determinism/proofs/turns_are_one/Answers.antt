use Rattle.router_determinism.proofs.OneLaws as one
use Rattle.router_determinism.proofs.turns_are_one.Goals as goal

pub returns-clause-turn : goal.returns-clause-turn
returns-clause-turn c = one.turn_law

pub returns-clause-work : goal.returns-clause-work
returns-clause-work c = one.work_law

pub returns-clause-drain : goal.returns-clause-drain
returns-clause-drain c = one.drain_law

pub returns-clause-phase : goal.returns-clause-phase
returns-clause-phase c = one.phase_law

pub returns-clause-phases : goal.returns-clause-phases
returns-clause-phases c = one.phases_law
