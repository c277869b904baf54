-- What contracts see of the upper part of a peer's chain, down to `in.K`: the peer's number, the live routes of the present session,
-- and the tables of lost sessions whose deletes weren't sent yet (NSDI 2005, section 5.1.2).
use Rattle.std.specs.Prelude.{ℕ, Bool, List, Option, refl}
use Rattle.std.specs.Coded.{Coded, code_by, coded×, coded_ℕ}
use Rattle.bgp_attr.specs.Attributes.{Attrs}
use Rattle.link_change.specs.Rows.{Rows}
use Rattle.journal_text.specs.declared.link.Link.{Link}
use Rattle.journal_text.specs.declared.link.Task.{Task}
use Rattle.journal_text.specs.Lines.{Value}
use Rattle.journal_text.specs.Lines.{Entry}
use Rattle.journal_text.specs.Walk.{Links}
use Rattle.journal_text.specs.Values.{attrs_value}
use Rattle.loss_chain.specs.declared.owner.Owner.TheVariants as owners
use Rattle.loss_chain.specs.Owners.{is_owned}
use Rattle.loss_chain.specs.Tables.{Tables, tables_code, lowest_rows, chain_links, beside_chain}
use Rattle.loss_chain.specs.Steps.{loss_entries as chain_loss_entries, overdue_of as chain_overdue}

pub record Incoming : Type 0 where
  pub number : ℕ
  pub tables : Tables Attrs

abbrev pub incoming_code : Coded Attrs → Coded Incoming
incoming_code c =
    code_by (ℕ × Tables Attrs) (coded× coded_ℕ (tables_code c))
    (λ a. (a.number, a.tables)) (λ p. record { number = p.0; tables = p.1 }) (λ _. refl)

-- the rows of `in.K`
abbrev pub in_rows : Incoming → Rows Attrs
in_rows c = lowest_rows c.tables

-- the link is named as one of the part's: `in.K`, or `peer.K.S` of any session
abbrev pub is_incoming : ℕ → Link → Bool
is_incoming number = is_owned (owners.Peer number)

-- the links of the part: `in.K`, and `peer.K.S` into the stage of each lost session
abbrev pub incoming_links : Incoming → Links Value
incoming_links c = chain_links attrs_value (owners.Peer c.number) c.tables

-- these links beside those of the other parts of the router
abbrev pub beside_incoming : Links Value → Incoming → Links Value
beside_incoming others c = beside_chain attrs_value (owners.Peer c.number) others c.tables

-- what a loss of the present session writes
abbrev pub loss_entries : ℕ → Incoming → List (Entry Value)
loss_entries session c = chain_loss_entries (owners.Peer c.number) session c.tables

-- the stage that has to go before another one may come: where 16 stand, and the table to be lost isn't empty
abbrev pub overdue_of : Incoming → Option Task
overdue_of c = chain_overdue (owners.Peer c.number) c.tables
