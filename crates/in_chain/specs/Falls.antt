-- What one change causes: messages at one prefix, down the links of the chain.
use Rattle.std.specs.Prelude.{ℕ, List, [], ◌∷◌, ◌++◌, Option}
use Rattle.addr4.specs.Prefixes.{AddressPrefix}
use Rattle.bgp_attr.specs.Routes.{Route}
use Rattle.link_change.specs.Changes.{Change}
use Rattle.journal_text.specs.declared.link.Link.{Link}
use Rattle.journal_text.specs.declared.link.Link.TheVariants.{In, Filt}
use Rattle.journal_text.specs.Lines.{Value}
use Rattle.journal_text.specs.Lines.{Entry}
use Rattle.journal_text.specs.Walk.{Links, Leads}
use Rattle.journal_text.specs.Falls.{GoesDown}
use Rattle.loss_chain.specs.declared.owner.Owner.TheVariants as owners
use Rattle.loss_chain.specs.Falls.{way_down, way_from}
use Rattle.in_chain.specs.Incomings.{Incoming, beside_incoming}
use Rattle.in_chain.specs.Chains.{Chained, beside}

-- Whatever other links there are, the entries lead by the rules of the journal from the old links of the upper part to its new
-- ones.
abbrev pub LeadsIncoming : Incoming → List (Entry Value) → Incoming → Type 0
LeadsIncoming old entries new = (others : Links Value) → Leads (beside_incoming others old) entries (beside_incoming others new)

-- from the live routes of a chain down to `filt.K`
abbrev pub way_of_feed : Incoming → List Link
way_of_feed c = way_down (owners.Peer c.number) (In c.number) c.tables.deletions ++ Filt c.number ∷ []

-- from the stage of a session down to `filt.K`
abbrev pub way_of_sweep : ℕ → Incoming → List Link
way_of_sweep session c = way_from (owners.Peer c.number) session (In c.number) c.tables.deletions ++ Filt c.number ∷ []

-- Whatever other links there are, the entries lead by the rules of the journal from the chain's old links to its new ones.
abbrev pub LeadsChain : Chained → List (Entry Value) → Chained → Type 0
LeadsChain old entries new = (others : Links Value) → Leads (beside others old) entries (beside others new)

-- a fall at a prefix down this way
pub record Falls (old new : Chained) (p : AddressPrefix) (way : List Link) (sent : Option (Change Route)) (entries : List (Entry Value)) : Type 0 where
  pub leads : LeadsChain old entries new
  pub down : GoesDown p way sent entries
