use Rattle.std.proofs.Common.{Some, sym, ◌∙◌}
use Rattle.std.specs.List.{list_any}
use Rattle.std.proofs.lemmas.List.{at_drop_all}
use Rattle.loss_chain.specs.Held.{has_over}
use Rattle.rib_tree.proofs.HeldLemmas.{any_found, any_passed}
use Rattle.rib_tree.proofs.held.is_over_any.Goals as goal

pub returns-then-is_over : goal.returns-then-is_over
returns-then-is_over g c =
    any_found (has_over (Some c.args.deletion.now.rows)) c.args.addresses.now c.loop-address.address-index c.address-item.result c.loop-address-test.true c.address-item.is c.loop-address.invariant (sym c.is_over.ensures ∙ c.if-is_over.true)

pub loop-address-preserved : goal.loop-address-preserved
loop-address-preserved g c =
    any_passed (has_over (Some c.args.deletion.now.rows)) c.args.addresses.now c.loop-address.address-index c.address-item.result c.loop-address-test.true c.address-item.is c.loop-address.invariant (sym c.is_over.ensures ∙ c.if-is_over.false)

pub returns : goal.returns
returns g c = sym (c.loop-address.invariant ∙ at_drop_all (list_any (has_over (Some c.args.deletion.now.rows))) c.args.addresses.now c.loop-address.address-index c.loop-address-test.false)
