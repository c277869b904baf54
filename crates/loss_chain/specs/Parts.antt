-- What holds of a part of a chain: a stage with all that is above it, and the link `out` below it.
use Rattle.std.specs.Prelude.{cond, ◌≡◌, ℕ, ◌+◌, ◌<◌, ◌≤◌, List, [], ◌∷◌, Option, Some, None, IfSome}
use Rattle.std.specs.FinMap as map
use Rattle.std.specs.FinMap.{FinMap}
use Rattle.addr4.specs.Prefixes.{AddressPrefix, prefix_cmp}
use Rattle.link_change.specs.Rows.{is_empty_map}
use Rattle.link_change.specs.Changes.{IsSent}
use Rattle.link_change.specs.Changes.{Change}
use Rattle.link_change.specs.Turns.{Turn}
use Rattle.link_change.specs.declared.turn.Turn.TheVariants.{Nothing, Quiet, Sent}
use Rattle.loss_chain.specs.Lost.{Lost}
use Rattle.loss_chain.specs.Covering.{IsLeastRow}
use Rattle.journal_text.specs.Links.{rank_of}
use Rattle.journal_text.specs.declared.link.Link.{Link}
use Rattle.journal_text.specs.Lines.{Value}
use Rattle.journal_text.specs.Lines.{Entry}
use Rattle.journal_text.specs.Walk.{Links, with_link, Leads}
use Rattle.journal_text.specs.Journals.{Journaled, Adds}
use Rattle.journal_text.specs.Falls.{GoesDown}
use Rattle.loss_chain.specs.declared.owner.Owner.{Owner}
use Rattle.loss_chain.specs.Owners.{lost_link}
use Rattle.journal_text.specs.Values.{valued}
use Rattle.loss_chain.specs.Tables.{Tables, rows_below, lowest_rows, AreAllApart}
use Rattle.loss_chain.specs.Falls.{way_from}
use Rattle.loss_chain.specs.Steps.{table_of, swept_tables}

-- the links of a part, beside other links
abbrev pub links_over : {R : Type 0} → (R → Value) → Owner → Links Value → Link → FinMap prefix_cmp R → List (Lost R) → Links Value
links_over value o others out live [] = with_link others out (Some (valued value (map.get live)))
links_over value o others out live (d ∷ ds) =
    with_link (links_over value o others (lost_link o d.number) live ds) out (Some (valued value (rows_below live (d ∷ ds))))

-- a lost table below a chain
abbrev pub lowered : {R : Type 0} → Lost R → Tables R → Tables R
lowered d t = record { live = t.live; deletions = d ∷ t.deletions }

-- the losses rise, from this number on
abbrev pub IsRisingFrom : {R : Type 0} → ℕ → List (Lost R) → Type 0
IsRisingFrom low [] = Unit {0}
IsRisingFrom low (d ∷ ds) = (low ≤ d.number) × IsRisingFrom (d.number + 1) ds

-- what holds of a part between two calls
pub record IsSound {R : Type 0} (out : Link) (t : Tables R) : Type 0 where
  pub rising : IsRisingFrom (rank_of out) t.deletions
  pub apart : AreAllApart t.live t.deletions

-- none of the links that may come to stand above this one is among the others
abbrev pub IsClearAbove : Owner → Link → Links Value → Type 0
IsClearAbove o out others = (number : ℕ) → rank_of out < rank_of (lost_link o number) → others (lost_link o number) ≡ None

-- whatever other links there are, the entries lead from the part's old links to its new ones
abbrev pub LeadsOver : {R : Type 0} → (R → Value) → Owner → Link → Tables R → List (Entry Value) → Tables R → Type 0
LeadsOver value o out old entries new =
    (others : Links Value) → IsClearAbove o out others
    → Leads (links_over value o others out old.live old.deletions) entries (links_over value o others out new.live new.deletions)

-- a fall at a prefix down this way
pub record FallsOver {R : Type 0} (value : R → Value) (o : Owner) (out : Link) (old new : Tables R) (p : AddressPrefix) (way : List Link) (sent : Option (Change R)) (entries : List (Entry Value)) : Type 0 where
  pub leads : LeadsOver value o out old entries new
  pub down : GoesDown p way sent entries

-- a turn of the stage of a loss, in a part
pub record SweepsOver {R : Type 0} (value : R → Value) (o : Owner) (out : Link) (old new : Tables R) (number : ℕ) (sent : Option (Change R)) (entries : List (Entry Value)) : Type 0 where
  pub prefix : AddressPrefix
  pub row : R
  pub table : FinMap prefix_cmp R
  pub stands : table_of number old.deletions ≡ Some table
  pub least : IsLeastRow (map.get table) prefix (Some row)
  pub after : new ≡ swept_tables number prefix old
  pub fall : FallsOver value o out old new prefix (way_from o number out old.deletions) sent entries
  pub rows : IsSent (lowest_rows old) (lowest_rows new) prefix sent
  pub gone : IfSome sent (λ change. change.after ≡ None)

abbrev pub IsTakenOver : {R : Type 0} → (R → Value) → Owner → Link → Tables R → Tables R → ℕ → Journaled → Journaled → Turn R → Type 0
IsTakenOver value o out old new number before now Nothing = (table_of number old.deletions ≡ None) × ((new ≡ old) × (now ≡ before))
IsTakenOver value o out old new number before now Quiet = Adds (SweepsOver value o out old new number None) before now
IsTakenOver value o out old new number before now (Sent change) = Adds (SweepsOver value o out old new number (Some change)) before now

-- the lowest empty table is gone
abbrev pub filled : {R : Type 0} → List (Lost R) → List (Lost R)
filled [] = []
filled (d ∷ ds) = cond (is_empty_map d.rows) ds (d ∷ filled ds)

abbrev pub filled_once : {R : Type 0} → Tables R → Tables R
filled_once t = record { live = t.live; deletions = filled t.deletions }
