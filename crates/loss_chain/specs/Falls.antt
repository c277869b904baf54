-- What one change causes: messages at one prefix, down the links of the chain.
use Rattle.std.specs.Prelude.{ℕ, ◌==◌, if◌then◌else◌, List, [], ◌∷◌, ◌++◌, Option}
use Rattle.addr4.specs.Prefixes.{AddressPrefix}
use Rattle.link_change.specs.Changes.{Change}
use Rattle.loss_chain.specs.Lost.{Lost}
use Rattle.journal_text.specs.declared.link.Link.{Link}
use Rattle.journal_text.specs.Lines.{Value}
use Rattle.journal_text.specs.Lines.{Entry}
use Rattle.journal_text.specs.Walk.{Links, Leads}
use Rattle.journal_text.specs.Falls.{GoesDown}
use Rattle.loss_chain.specs.declared.owner.Owner.{Owner}
use Rattle.loss_chain.specs.Owners.{lost_link}
use Rattle.loss_chain.specs.Tables.{Tables, beside_chain}

-- from the live rows down to the link `out`, past these lost tables
abbrev pub way_down : {R : Type 0} → Owner → Link → List (Lost R) → List Link
way_down o out [] = out ∷ []
way_down o out (d ∷ ds) = way_down o (lost_link o d.number) ds ++ out ∷ []

-- from the stage of a loss down to the link `out`
abbrev pub way_from : {R : Type 0} → Owner → ℕ → Link → List (Lost R) → List Link
way_from o number out [] = []
way_from o number out (d ∷ ds) = if d.number == number then out ∷ [] else way_from o number (lost_link o d.number) ds ++ out ∷ []

-- Whatever other links there are, the entries lead by the rules of the journal from the chain's old links to its new ones.
abbrev pub LeadsTables : {R : Type 0} → (R → Value) → Owner → Tables R → List (Entry Value) → Tables R → Type 0
LeadsTables value o old entries new = (others : Links Value) → Leads (beside_chain value o others old) entries (beside_chain value o others new)

-- a fall at a prefix down this way
pub record FallsTables {R : Type 0} (value : R → Value) (o : Owner) (old new : Tables R) (p : AddressPrefix) (way : List Link) (sent : Option (Change R)) (entries : List (Entry Value)) : Type 0 where
  pub leads : LeadsTables value o old entries new
  pub down : GoesDown p way sent entries
