-- The ranges of what stands in rules that were read.
use Rattle.std.specs.Prelude.{◌<◌, ◌≤◌, ◌^◌, Bool, List, All}
use Rattle.addr4.specs.Families.{bits_of, IsPrefixOf}
use Rattle.policy_rules.specs.Rules.{Condition}
use Rattle.policy_rules.specs.declared.rule.Condition.TheVariants.{Any, Within, Path, Origin}
use Rattle.policy_rules.specs.declared.rule.Action.{Action}
use Rattle.policy_rules.specs.declared.rule.Action.TheVariants.{Pref, Med, NoMed, Prepend}
use Rattle.policy_rules.specs.Rules.{Rule}
use Rattle.bgp_attr.specs.Speakers.{asn_bound}

-- a prefix of the family, lengths that its prefixes can have, an AS of two octets or four
abbrev pub IsCondition : Bool → Bool → Condition → Type 0
IsCondition v6 as4 Any = Unit {0}
IsCondition v6 as4 (Within q least most) = IsPrefixOf v6 q × (least ≤ bits_of v6) × (most ≤ bits_of v6)
IsCondition v6 as4 (Path asn) = asn < asn_bound as4
IsCondition v6 as4 (Origin o) = Unit {0}

-- numbers of 32 bits, and at most 16 times more in front
abbrev pub IsAction : Action → Type 0
IsAction (Pref n) = n < 2 ^ 32
IsAction (Med n) = n < 2 ^ 32
IsAction NoMed = Unit {0}
IsAction (Prepend n) = n ≤ 16

pub record IsRule (v6 as4 : Bool) (rule : Rule) : Type 0 where
  pub condition : IsCondition v6 as4 rule.condition
  pub actions : All IsAction rule.actions

-- of the network of a family
abbrev pub AreRules : Bool → Bool → List Rule → Type 0
AreRules v6 as4 rules = All (IsRule v6 as4) rules
