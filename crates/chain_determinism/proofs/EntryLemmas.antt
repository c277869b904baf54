-- The entry of a change: of the row that it demands, and the one that it leaves.
use Rattle.std.proofs.Common.{◌≡◌, [], ◌∷◌, Option, Some, None, refl, sym, ap, subst, ◌∙◌}
use Rattle.std.specs.Option.{option_map}
use Rattle.std.proofs.lemmas.Option.{same_Some}
use Rattle.addr4.specs.Prefixes.{AddressPrefix}
use Rattle.link_change.specs.Rows.{Rows, with_row}
use Rattle.link_change.proofs.RowLemmas.{with_row_here}
use Rattle.journal_text.specs.declared.link.Link.{Link}
use Rattle.journal_text.specs.Lines.{Entry}
use Rattle.journal_text.specs.declared.entry.Entry.TheVariants.{Add, Delete, Replace}
use Rattle.journal_text.specs.Lines.{Value}
use Rattle.journal_text.specs.Falls.{IsChangeOn}
use Rattle.journal_text.specs.Walk.{Links, with_row_on, HasRow, Demands, after, change_entries}
use Rattle.journal_text.proofs.WalkLemmas.{with_link_here}

-- The entry changes the row of a link at a prefix from the one that stands there to another.
pub record ChangesRow (links : Links Value) (link : Link) (p : AddressPrefix) (e : Entry Value) : Type 0 where
  pub before : Option Value
  pub now : Option Value
  pub is : e ∷ [] ≡ change_entries link p before now
  pub stands : HasRow links link p before
  pub makes : after links e ≡ with_row_on links link p now
  pub differs : now ≡ before → ⊥

-- an entry whose demand is met does, where it is a change there
pub changes_row : (links : Links Value) (link : Link) (p : AddressPrefix) (e : Entry Value) → IsChangeOn link p e → Demands links e → ChangesRow links link p e
changes_row links link p e on demand = elim e as (λ e. IsChangeOn link p e → Demands links e → ChangesRow links link p e) [
  | Add l q new ↦ λ on stands. there l q (Add l q new) on record { before = None; now = Some new; is = refl; stands = stands; makes = refl; differs = λ same. cc }
  | Delete l q old ↦ λ on stands. there l q (Delete l q old) on record { before = Some old; now = None; is = refl; stands = stands; makes = refl; differs = λ same. cc }
  | Replace l q old new ↦ λ on demand. there l q (Replace l q old new) on record { before = Some old; now = Some new; is = refl; stands = demand.0; makes = refl; differs = λ same. demand.1 cc }
  | _ ↦ λ on _. absurd on
] on demand
  where
    there : (l : Link) (q : AddressPrefix) (e : Entry Value) → (l ≡ link) × (q ≡ p) → ChangesRow links l q e → ChangesRow links link p e
    there l q e on changes = subst (λ (x : AddressPrefix). ChangesRow links link x e) on.1 (subst (λ (x : Link). ChangesRow links x q e) on.0 changes)

-- the row of a link at a prefix is one
pub row_is_one : (links : Links Value) (link : Link) (p : AddressPrefix) (one other : Option Value) → HasRow links link p one → HasRow links link p other → one ≡ other
row_is_one links link p one other first second =
    sym first.2 ∙ ap (λ (rows : Rows Value). rows p) (same_Some first.0 second.0 (sym first.1 ∙ second.1)) ∙ second.2

-- a row that was set stands there
pub row_set : (links : Links Value) (link : Link) (p : AddressPrefix) (before now : Option Value) → HasRow links link p before → HasRow (with_row_on links link p now) link p now
row_set links link p before now stands = (
  with_row stands.0 p now,
  with_link_here links link (option_map (λ rows. with_row rows p now) (links link)) ∙ ap (option_map (λ (rows : Rows Value). with_row rows p now)) stands.1,
  with_row_here stands.0 p now,
)

-- entries that change a row from the same one to the same one are one
pub entry_is_one : (links : Links Value) (link : Link) (p : AddressPrefix) (e f : Entry Value) (one : ChangesRow links link p e) (other : ChangesRow links link p f) → one.before ≡ other.before → one.now ≡ other.now → e ≡ f
entry_is_one links link p e f one other before now = let same : e ∷ [] ≡ f ∷ [] = one.is ∙ (λ i. change_entries link p (before i) (now i)) ∙ sym other.is in cc
