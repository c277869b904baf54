-- Rules, whatever the family of their prefixes.
use Rattle.addr4.specs.Prefixes.{AddressPrefix}
use Rattle.policy_rules.specs.declared.rule.Rule as rules
use Rattle.policy_rules.specs.declared.rule.Condition as conditions

abbrev pub Rule : Type 0
Rule = rules.Rule AddressPrefix

abbrev pub Condition : Type 0
Condition = conditions.Condition AddressPrefix
