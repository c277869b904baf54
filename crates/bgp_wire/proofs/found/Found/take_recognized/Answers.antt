use Rattle.std.proofs.Common.{sym, ◌∙◌}
use Rattle.bgp_wire.proofs.FoundLaws.{rule_within, aggregator_fits}
use Rattle.bgp_wire.proofs.found.Found.take_recognized.Goals as goal

pub take_value-requires-clause-recognized : goal.take_value-requires-clause-recognized
take_value-requires-clause-recognized c = rule_within c.args.profile c.args.external c.args.raw.now.kind c.args.rule c.requires

pub take_value-requires-clause-aggregator : goal.take_value-requires-clause-aggregator
take_value-requires-clause-aggregator c = aggregator_fits c.args.profile c.args.external c.args.raw.now.kind c.args.rule c.args.raw.now.value.now c.requires (sym c.has_wrong_size.ensures ∙ c.if-has_wrong_size.false)
