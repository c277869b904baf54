-- What holds of judging as a whole.
use Rattle.std.specs.Prelude.{◌≡◌, List, Option}
use Rattle.addr4.specs.Prefixes.{AddressPrefix}
use Rattle.bgp_attr.specs.Routes.{Route}
use Rattle.policy_rules.specs.Rules.{Rule}
use Rattle.policy_rules.specs.Judged.{Judged}
use Rattle.policy_rules.specs.Verdicts.{judged_by}

-- rules judge a route in one way alone
abbrev pub OneResult : Type 0
OneResult =
    (rules : List Rule) (p : AddressPrefix) (r : Route) (a b : Option Route) → Judged rules p r a → Judged rules p r b → a ≡ b

-- The first rule that decides gives what the function computes.
abbrev pub AnswerIsJudged : Type 0
AnswerIsJudged = (rules : List Rule) (p : AddressPrefix) (r : Route) → Judged rules p r (judged_by rules p r)
