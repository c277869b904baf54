-- What contracts see of a queue.
use Rattle.std.specs.Prelude.{◌≡◌, ◌≤◌, ◌<◌, ℕ, List, [], ◌∷◌, length, Option, Some, None, IsSome, option_map, refl}
use Rattle.std.specs.Ordering.{nat_cmp}
use Rattle.std.specs.Coded.{Coded, code_by, coded×, coded_ℕ, coded_list, coded_option}
use Rattle.std.specs.FinMap as map
use Rattle.std.specs.FinMap.{FinMap}
use Rattle.addr4.specs.Prefixes.{AddressPrefix, address_prefix_code}
use Rattle.link_change.specs.Rows.{Rows}
use Rattle.link_change.specs.Changes.{Change}
use Rattle.link_change.specs.InOrder.{ChangesLead, rows_before, with_last}

-- of each live reader, by its number, the changes that it hasn't taken, the first one first
abbrev pub Queued : Type 0 → Type 0
Queued R = FinMap nat_cmp (List (Change R))

abbrev pub change_code : {R : Type 0} → Coded R → Coded (Change R)
change_code {R} c =
    code_by (AddressPrefix × (Option R × Option R)) (coded× address_prefix_code (coded× (coded_option c) (coded_option c)))
    (λ x. (x.prefix, (x.before, x.after))) (λ p. record { prefix = p.0; before = p.1.0; after = p.1.1 }) (λ _. refl)

abbrev pub queued_code : {R : Type 0} → Coded R → Coded (Queued R)
queued_code {R} c = map.code coded_ℕ (coded_list (change_code c))

module _ {R : Type 0} where
  -- every reader has this change at the end, and none joins or leaves
  abbrev pub AppendsToAll : Change R → Queued R → Queued R → Type 0
  AppendsToAll change old new = (reader : ℕ) → map.get new reader ≡ option_map (with_last change) (map.get old reader)

  -- the reader takes its first change, if it has one; every other reader has what it had
  abbrev pub Takes : Queued R → Queued R → ℕ → Option (Change R) → Type 0
  Takes old new reader None = (map.get old reader ≡ Some []) × (new ≡ old)
  Takes old new reader (Some change) =
      (rest : List (Change R)) × (map.get old reader ≡ Some (change ∷ rest)) × (new ≡ map.insert old reader rest)

  -- each reader that was live is still
  abbrev pub KeepsReaders : Queued R → Queued R → Type 0
  KeepsReaders old new = (reader : ℕ) → IsSome (map.get old reader) → IsSome (map.get new reader)

  -- there is a reader of each number below this one
  abbrev pub AllBelowRead : Queued R → ℕ → Type 0
  AllBelowRead queued reader = (n : ℕ) → n < reader → IsSome (map.get queued n)

  -- some reader hasn't taken so many changes, and none hasn't taken more; none at all where there is no reader
  pub record IsMostUnread (queued : Queued R) (count : ℕ) : Type 0 where
    pub most : (reader : ℕ) (unread : List (Change R)) → map.get queued reader ≡ Some unread → length unread ≤ count
    pub some : (count ≡ 0 → ⊥) → (reader : ℕ) × (unread : List (Change R)) × (map.get queued reader ≡ Some unread) × (length unread ≡ count)

  -- what each reader hasn't taken leads from the rows that it has to these
  abbrev pub AllLead : Queued R → Rows R → Type 0
  AllLead queued best =
      (reader : ℕ) (unread : List (Change R)) → map.get queued reader ≡ Some unread
      → ChangesLead (rows_before unread best) unread best
