use Rattle.std.proofs.Common.{◌≡◌, false, ◌∙◌}
use Rattle.std.proofs.lemmas.Bool.Decides.{same_from_decides}
use Rattle.policy_rules.specs.Verdicts.{has_as}
use Rattle.policy_rules.proofs.VerdictLemmas.{has_decides}
use Rattle.filter_bank.proofs.filtering.has_been_here.Goals as goal

pub returns-else-has : goal.returns-else-has
returns-else-has g c =
    let path = c.args.attrs.now.path in
    let asn = c.args.me.now.asn in
    let absent : has_as path asn ≡ false = same_from_decides (has_as path asn) c.has.result (has_decides path asn) c.has.ensures ∙ c.if-has.false in
    rw absent c.has_been_at.ensures
