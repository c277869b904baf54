use Rattle.std.proofs.Common.{List, ◌∙◌, ap}
use Rattle.policy_rules.specs.Rules.{Rule}
use Rattle.pass_core.specs.Passed.{Passed, function_at}
use Rattle.filter_bank.proofs.ChangeLemmas.{filtered_on}
use Rattle.filter_bank.proofs.filter.FilterBank.take_in.Goals as goal

pub returns : goal.returns
returns g c =
    filtered_on c.args.me.now c.args.peer.now c.args.self.now c.at-rules.result.now c.args.change c.filtered-before.result
    c.filtered-after.result c.between.result
    (c.at-rules.ensures ∙ ap (λ (s : Passed (List Rule)). function_at s c.args.change.prefix) c.self.view_is)
    c.filtered-before.ensures c.filtered-after.ensures c.between.ensures
