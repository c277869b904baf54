-- What a line of a journal says.
use Rattle.std.specs.Prelude.{ℕ, Bool, true, false, not, ◌&&◌, ◌||◌, ◌==◌, nat_le, if◌then◌else◌, List, [], ◌∷◌, length, Option, Some, None, option_map, codes}
use Rattle.std.specs.Str.{bytes_eq}
use Rattle.std.specs.List.{list_all}
use Rattle.addr4.specs.Prefixes.{AddressPrefix}
use Rattle.addr4.specs.Texts.{parts, prefix_of, prefix_text}
use Rattle.journal_text.specs.Names.{link_in}
use Rattle.journal_text.specs.declared.link.Link.{Link}
use Rattle.journal_text.specs.declared.entry.Entry.TheVariants.{Begin, Inherit, Add, Delete, Replace, Asked, Weld, End}
use Rattle.journal_check.specs.Entries.{TextEntry, FamilyEntry}
use Rattle.journal_check.specs.declared.reading.Reading.{Reading}
use Rattle.journal_check.specs.declared.reading.Reading.TheVariants.{Skipped, Read, NotALine}

infixl 10 ◌>>=◌
abbrev pub ◌>>=◌ : {A B : Type 0} → Option A → (A → Option B) → Option B
(Some x) >>= f = f x
None >>= f = None

-- at most 65,536 bytes, all from 32 to 126
unfoldable pub is_clean : List ℕ → Bool
is_clean line = nat_le (length line) 65536 && list_all (λ b. nat_le 32 b && nat_le b 126) line

-- the prefix, if this is how it is printed among those of the family
unfoldable pub as_printed : Bool → List ℕ → AddressPrefix → Option AddressPrefix
as_printed v6 word p = if bytes_eq word (prefix_text v6 p) then Some p else None

-- the prefix of the family of a word that is exactly as it is printed
unfoldable pub printed_prefix : Bool → List ℕ → Option AddressPrefix
printed_prefix v6 word = prefix_of v6 word >>= λ p. as_printed v6 word p

-- a value: any word but `-`
unfoldable pub value_of : List ℕ → Option (List ℕ)
value_of word = if length word == 0 || bytes_eq word (codes "-") then None else Some word

-- the answer of a lookup: a value, or `-` for none
unfoldable pub answer_of : List ℕ → Option (Option (List ℕ))
answer_of word = if bytes_eq word (codes "-") then Some None else option_map (λ text. Some text) (value_of word)

-- the entry, as one of this family
abbrev pub as_of : Bool → Option TextEntry → Option FamilyEntry
as_of v6 entry = option_map (λ e. record { v6 = v6; entry = e }) entry

-- what is said of one link
unfoldable pub entry_on_one : List ℕ → Link → Option TextEntry
entry_on_one c link =
    if bytes_eq c (codes "b") then Some (Begin link)
    else if bytes_eq c (codes "e") then Some (End link)
    else None

-- `b LINK`, `e LINK`
unfoldable pub entry_of_two : List ℕ → List ℕ → Option FamilyEntry
entry_of_two c a = do
  link ← link_in a
  as_of link.0 (entry_on_one c link.1)

-- what is said of two links
unfoldable pub entry_on_two : List ℕ → Link → Link → Option TextEntry
entry_on_two c link other =
    if bytes_eq c (codes "i") then Some (Inherit link other)
    else if bytes_eq c (codes "w") then Some (Weld link other)
    else None

abbrev pub same_family : Bool → Bool → Bool
same_family true other = other
same_family false other = not other

-- `i LINK FROM`, `w UPPER LOWER`, of links of one family
unfoldable pub entry_of_three : List ℕ → List ℕ → List ℕ → Option FamilyEntry
entry_of_three c a b = do
  link ← link_in a
  other ← link_in b
  if same_family link.0 other.0 then as_of link.0 (entry_on_two c link.1 other.1) else None

-- what is said of a row
unfoldable pub entry_on_row : List ℕ → Link → AddressPrefix → List ℕ → Option TextEntry
entry_on_row c link p v =
    if bytes_eq c (codes "+") then option_map (λ new. Add link p new) (value_of v)
    else if bytes_eq c (codes "-") then option_map (λ old. Delete link p old) (value_of v)
    else if bytes_eq c (codes "?") then option_map (λ row. Asked link p row) (answer_of v)
    else None

-- `+ LINK PREFIX NEW`, `- LINK PREFIX OLD`, `? LINK PREFIX VALUE`, of a prefix of the link's family
unfoldable pub entry_of_four : List ℕ → List ℕ → List ℕ → List ℕ → Option FamilyEntry
entry_of_four c a b v = do
  link ← link_in a
  p ← printed_prefix link.0 b
  as_of link.0 (entry_on_row c link.1 p v)

-- what is said of a row that takes another's place
abbrev pub entry_on_both : Link → AddressPrefix → List ℕ → List ℕ → Option TextEntry
entry_on_both link p v w = do
  old ← value_of v
  new ← value_of w
  Some (Replace link p old new)

-- `= LINK PREFIX OLD NEW`, likewise
unfoldable pub entry_of_five : List ℕ → List ℕ → List ℕ → List ℕ → List ℕ → Option FamilyEntry
entry_of_five c a b v w = if bytes_eq c (codes "=") then (do
  link ← link_in a
  p ← printed_prefix link.0 b
  as_of link.0 (entry_on_both link.1 p v w)) else None

-- the entry of these words
unfoldable pub entry_from : List (List ℕ) → Option FamilyEntry
entry_from (c ∷ a ∷ []) = entry_of_two c a
entry_from (c ∷ a ∷ b ∷ []) = entry_of_three c a b
entry_from (c ∷ a ∷ b ∷ v ∷ []) = entry_of_four c a b v
entry_from (c ∷ a ∷ b ∷ v ∷ w ∷ []) = entry_of_five c a b v w
entry_from other = None

-- the first word of a line that is no entry
unfoldable pub is_skipped : List ℕ → Bool
is_skipped w =
    bytes_eq w (codes "out") || (bytes_eq w (codes "note") || (bytes_eq w (codes "row") || (bytes_eq w (codes "rows") || (bytes_eq w (codes "cover") || (bytes_eq w (codes "settled")
    || (bytes_eq w (codes "work") || (bytes_eq w (codes "bound") || (bytes_eq w (codes "idle") || (bytes_eq w (codes "ignored") || (bytes_eq w (codes "absent") || (bytes_eq w (codes "refused") || bytes_eq w (codes "total"))))))))))))

abbrev pub read_or_not : Option FamilyEntry → Reading
read_or_not (Some entry) = Read entry
read_or_not None = NotALine

abbrev pub reading_from : List (List ℕ) → Reading
reading_from [] = NotALine
reading_from (w ∷ words) = if is_skipped w then Skipped else read_or_not (entry_from (w ∷ words))

-- what the line says: words with exactly one space between them, unless its first word is that of a line that is skipped
unfoldable pub reading_of : List ℕ → Reading
reading_of line = if is_clean line then reading_from (parts 32 line) else NotALine
