-- What a filter sends, where a row above changes.
use Rattle.std.proofs.Common.{◌≡◌, List, Option, ap, ◌∙◌}
use Rattle.addr4.specs.Prefixes.{AddressPrefix}
use Rattle.bgp_attr.specs.Attributes.{Attrs}
use Rattle.bgp_attr.specs.Routes.{Route}
use Rattle.bgp_attr.specs.Speakers.{Speaker}
use Rattle.bgp_attr.specs.declared.speaker.Neighbour.{Neighbour}
use Rattle.link_change.specs.Changes.{IsChangeOf}
use Rattle.link_change.specs.Changes.{Change}
use Rattle.link_change.proofs.ChangeLemmas.{computes_on}
use Rattle.policy_rules.specs.Rules.{Rule}
use Rattle.pass_core.specs.Passed.{Passed, function_at}
use Rattle.filter_bank.specs.Filtered.{filtered, FiltersOn}

pub filtered_on :
    (me : Speaker) (peer : Neighbour) (pass : Passed (List Rule)) (rules : List Rule) (change : Change Attrs) (before after : Option Route)
    (result : Option (Change Route)) → rules ≡ function_at pass change.prefix → before ≡ filtered me peer rules change.prefix change.before →
    after ≡ filtered me peer rules change.prefix change.after → IsChangeOf change.prefix before after result →
    FiltersOn me peer pass change result
filtered_on me peer pass rules change before after result rules_are b a is =
    let judged_at : AddressPrefix → Option Attrs → Option Route = λ q row. filtered me peer (function_at pass q) q row in
    computes_on judged_at change before after result
    (b ∙ ap (λ (f : List Rule). filtered me peer f change.prefix change.before) rules_are)
    (a ∙ ap (λ (f : List Rule). filtered me peer f change.prefix change.after) rules_are) is
