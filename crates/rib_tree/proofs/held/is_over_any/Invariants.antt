use Rattle.std.proofs.Common.{◌≡◌, Some, drop}
use Rattle.std.specs.List.{list_any}
use Rattle.loss_chain.specs.Held.{has_over}
use Rattle.rib_tree.proofs.held.is_over_any.Given as goal

abbrev pub invariant-loop-address : goal.invariant-loop-address
invariant-loop-address g l = list_any (has_over (Some l.deletion.rows)) l.addresses ≡ list_any (has_over (Some l.deletion.rows)) (drop l.address-index l.addresses)
