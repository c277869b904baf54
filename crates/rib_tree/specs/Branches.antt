-- What contracts see of the part of the RIB's tree that belongs to one interior protocol, down to `org.PROTO`: the protocol, how many
-- of its losses made a stage, its live routes, and the tables of its losses whose deletes weren't sent yet (NSDI 2005, sections
-- 5.1.2 and 5.2).
use Rattle.std.specs.Prelude.{◌≡◌, ℕ, ◌≤◌, List, Option, refl}
use Rattle.std.specs.List.{AllByRecursion}
use Rattle.std.specs.Coded.{Coded, code_by, coded×, coded_ℕ}
use Rattle.addr4.specs.Prefixes.{AddressPrefix}
use Rattle.rib_route.specs.declared.Proto.{Proto}
use Rattle.rib_route.specs.Rows.{Interior}
use Rattle.link_change.specs.Rows.{Rows, Candidates, with_rows}
use Rattle.link_change.specs.Changes.{Change}
use Rattle.journal_text.specs.declared.link.Link.{Link}
use Rattle.journal_text.specs.Lines.{Value}
use Rattle.journal_text.specs.Lines.{Entry}
use Rattle.journal_text.specs.Walk.{Links}
use Rattle.journal_text.specs.Values.{interior_value}
use Rattle.loss_chain.specs.declared.owner.Owner.TheVariants.{Origin}
use Rattle.loss_chain.specs.Tables.{Tables, tables_code, lowest_rows, chain_links, IsLossChain, tables_count}
use Rattle.loss_chain.specs.Rows.{AllRows}
use Rattle.loss_chain.specs.Falls.{LeadsTables, FallsTables}

pub record Branch : Type 0 where
  pub proto : Proto
  pub losses : ℕ
  pub tables : Tables Interior

abbrev pub branch_code : Coded Proto → Coded Interior → Coded Branch
branch_code p c =
    code_by ((Proto × ℕ) × Tables Interior) (coded× (coded× p coded_ℕ) (tables_code c))
    (λ a. ((a.proto, a.losses), a.tables)) (λ v. record { proto = v.0.0; losses = v.0.1; tables = v.1 }) (λ _. refl)

-- the rows of `org.PROTO`
abbrev pub org_rows : Branch → Rows Interior
org_rows b = lowest_rows b.tables

abbrev pub branch_candidates : Branch → Candidates
branch_candidates b = with_rows (org_rows b)

-- the links of the branch: `org.PROTO`, and `org.PROTO.N` into the stage of each loss
abbrev pub branch_links : Branch → Links Value
branch_links b = chain_links interior_value (Origin b.proto) b.tables

-- the row is the protocol's
abbrev pub IsOwn : Proto → Interior → Type 0
IsOwn proto row = row.proto ≡ proto

-- what holds of a branch between two calls
pub record IsBranch (b : Branch) : Type 0 where
  pub chain : IsLossChain b.tables
  pub counted : AllByRecursion (λ d. d.number ≤ b.losses) b.tables.deletions
  pub own : AllRows (IsOwn b.proto) b.tables

-- how many rows the branch has
abbrev pub branch_count : Branch → ℕ
branch_count b = tables_count b.tables

-- Whatever other links there are, the entries lead by the rules of the journal from the branch's old links to its new ones.
abbrev pub LeadsBranch : Branch → List (Entry Value) → Branch → Type 0
LeadsBranch old entries new = LeadsTables interior_value (Origin old.proto) old.tables entries new.tables

-- a fall at a prefix down this way
abbrev pub FallsBranch : Branch → Branch → AddressPrefix → List Link → Option (Change Interior) → List (Entry Value) → Type 0
FallsBranch old new p way sent entries = FallsTables interior_value (Origin old.proto) old.tables new.tables p way sent entries
