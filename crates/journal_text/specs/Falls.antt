-- What one change causes: messages at one prefix, down some links.
use Rattle.std.specs.Prelude.{◌≡◌, List, [], ◌∷◌, Option, Some, None}
use Rattle.addr4.specs.Prefixes.{AddressPrefix}
use Rattle.link_change.specs.Changes.{Change}
use Rattle.journal_text.specs.declared.link.Link.{Link}
use Rattle.journal_text.specs.Lines.{Entry}
use Rattle.journal_text.specs.declared.entry.Entry.TheVariants.{Add, Delete, Replace}
use Rattle.journal_text.specs.Lines.{Value}

-- the entry is a change at the prefix of the link
abbrev pub IsChangeOn : Link → AddressPrefix → Entry Value → Type 0
IsChangeOn link p (Add l q new) = (l ≡ link) × (q ≡ p)
IsChangeOn link p (Delete l q old) = (l ≡ link) × (q ≡ p)
IsChangeOn link p (Replace l q old new) = (l ≡ link) × (q ≡ p)
IsChangeOn link p other = ⊥

-- one change at the prefix on each of these links, in their order
abbrev pub IsWhole : AddressPrefix → List Link → List (Entry Value) → Type 0
IsWhole p [] [] = Unit {0}
IsWhole p (link ∷ links) (e ∷ es) = IsChangeOn link p e × IsWhole p links es
IsWhole p links entries = ⊥

-- the same on the first of these links alone, and not on the last
abbrev pub IsCut : AddressPrefix → List Link → List (Entry Value) → Type 0
IsCut p [] entries = ⊥
IsCut p (link ∷ links) [] = Unit {0}
IsCut p (link ∷ links) (e ∷ es) = IsChangeOn link p e × IsCut p links es

-- The messages go down this way, and where a change comes out at its end, all of it.
abbrev pub GoesDown : {R : Type 0} → AddressPrefix → List Link → Option (Change R) → List (Entry Value) → Type 0
GoesDown p way None entries = IsCut p way entries
GoesDown p way (Some change) entries = (change.prefix ≡ p) × IsWhole p way entries
