-- Events, whatever the family of their network.
use Rattle.std.specs.Prelude.{ℕ, List}
use Rattle.addr4.specs.Prefixes.{AddressPrefix}
use Rattle.policy_rules.specs.Rules.{Rule}
use Rattle.event_text.specs.declared.event.Event as declared
use Rattle.event_text.specs.declared.event.Question as asked

abbrev pub Event : Type 0
Event = declared.Event ℕ AddressPrefix (List Rule)

abbrev pub Question : Type 0
Question = asked.Question ℕ AddressPrefix
