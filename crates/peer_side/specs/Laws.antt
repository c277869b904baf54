-- Laws of the peers' side, for the crates above.
use Rattle.std.specs.Prelude.{◌≡◌, ℕ, true, false}
use Rattle.std.specs.List.{Contains}
use Rattle.addr4.specs.Prefixes.{AddressPrefix}
use Rattle.journal_text.specs.declared.link.Task.{Task}
use Rattle.journal_text.specs.declared.link.Task.TheVariants.{Del, Fin}
use Rattle.peer_side.specs.Peers.{Chains, has_peer_work, peer_lags, deletion_tasks, filter_tasks}

-- A task without work holds up no prefix.
abbrev pub NoneHeldUpWithoutWork : Type 0
NoneHeldUpWithoutWork = (a : Chains) (task : Task) (p : AddressPrefix) → has_peer_work a task ≡ false → peer_lags a task p ≡ false

-- A stage with work is among the deletion stages,
abbrev pub StagesAreListed : Type 0
StagesAreListed = (a : Chains) (k s : ℕ) → has_peer_work a (Del k s) ≡ true → Contains (deletion_tasks a) (Del k s)

-- and a walk with work among those of the filters.
abbrev pub WalksAreListed : Type 0
WalksAreListed = (a : Chains) (k : ℕ) → has_peer_work a (Fin k) ≡ true → Contains (filter_tasks a) (Fin k)
