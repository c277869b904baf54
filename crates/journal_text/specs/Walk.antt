-- The walk through a journal, with one map of rows for each live link: what its two consistency rules ask
-- (NSDI 2005, "Designing Extensible IP Router Software", section 5.1).
use Rattle.std.specs.Prelude.{◌≡◌, ◌≢◌, cond, List, [], ◌∷◌, ◌++◌, Option, Some, None, IsSome, option_map}
use Rattle.addr4.specs.Prefixes.{AddressPrefix}
use Rattle.link_change.specs.Rows.{Rows, no_rows, with_row}
use Rattle.journal_text.specs.Links.{same_link}
use Rattle.journal_text.specs.declared.link.Link.{Link}
use Rattle.journal_text.specs.Lines.{Entry}
use Rattle.journal_text.specs.declared.entry.Entry.TheVariants.{Begin, Inherit, Add, Delete, Replace, Asked, Weld, End}

-- the rows of each live link, and none of a link that isn't live
abbrev pub Links : Type 0 → Type 0
Links V = Link → Option (Rows V)

abbrev pub no_links : {V : Type 0} → Links V
no_links link = None

-- the links with these rows on one of them, or with that one not live
abbrev pub with_link : {V : Type 0} → Links V → Link → Option (Rows V) → Links V
with_link links link rows q = cond (same_link q link) rows (links q)

-- the links with this row at the prefix of one of them
abbrev pub with_row_on : {V : Type 0} → Links V → Link → AddressPrefix → Option V → Links V
with_row_on links link p row = with_link links link (option_map (λ rows. with_row rows p row) (links link))

-- the link is live, and has this row at the prefix
abbrev pub HasRow : {V : Type 0} → Links V → Link → AddressPrefix → Option V → Type 0
HasRow {V} links link p row = (rows : Rows V) × (links link ≡ Some rows) × (rows p ≡ row)

-- both links are live, and have the same rows
abbrev pub HaveSameRows : {V : Type 0} → Links V → Link → Link → Type 0
HaveSameRows {V} links upper lower = (rows : Rows V) × (links upper ≡ Some rows) × (links lower ≡ Some rows)

-- what an entry demands of the links before it
abbrev pub Demands : {V : Type 0} → Links V → Entry V → Type 0
Demands links (Begin link) = links link ≡ None
Demands links (Inherit link from) = (links link ≡ None) × IsSome (links from)
Demands links (Add link p new) = HasRow links link p None
Demands links (Delete link p old) = HasRow links link p (Some old)
Demands links (Replace link p old new) = HasRow links link p (Some old) × (old ≢ new)
Demands links (Asked link p row) = HasRow links link p row
Demands links (Weld upper lower) = (upper ≢ lower) × HaveSameRows links upper lower
Demands links (End link) = IsSome (links link)

-- the links after an entry
abbrev pub after : {V : Type 0} → Links V → Entry V → Links V
after links (Begin link) = with_link links link (Some no_rows)
after links (Inherit link from) = with_link links link (links from)
after links (Add link p new) = with_row_on links link p (Some new)
after links (Delete link p old) = with_row_on links link p None
after links (Replace link p old new) = with_row_on links link p (Some new)
after links (Asked link p row) = links
after links (Weld upper lower) = with_link links upper None
after links (End link) = with_link links link None

-- no entry breaks its demand
abbrev pub IsLawful : {V : Type 0} → Links V → List (Entry V) → Type 0
IsLawful links [] = Unit {0}
IsLawful links (entry ∷ entries) = Demands links entry × IsLawful (after links entry) entries

abbrev pub fold_links : {V : Type 0} → Links V → List (Entry V) → Links V
fold_links links [] = links
fold_links links (entry ∷ entries) = fold_links (after links entry) entries

-- the entries are a lawful walk from the old links to the new ones
pub record Leads {V : Type 0} (old : Links V) (entries : List (Entry V)) (new : Links V) : Type 0 where
  pub lawful : IsLawful old entries
  pub ends : fold_links old entries ≡ new

-- the entry of a change of the row at a prefix
abbrev pub change_entries : {V : Type 0} → Link → AddressPrefix → Option V → Option V → List (Entry V)
change_entries link p None None = []
change_entries link p None (Some new) = Add link p new ∷ []
change_entries link p (Some old) None = Delete link p old ∷ []
change_entries link p (Some old) (Some new) = Replace link p old new ∷ []

-- Walks that lead one from the other lead as one.
abbrev pub LeadsOn : Type 0 → Type 0
LeadsOn V = (a b c : Links V) (xs ys : List (Entry V)) → Leads a xs b → Leads b ys c → Leads a (xs ++ ys) c
