-- When a change is lawful, and what it makes of a link's map (NSDI 2005, section 5.1).
use Rattle.std.specs.Prelude.{◌≡◌, ◌≢◌, Option, Some, None, refl}
use Rattle.std.specs.Coded.{Coded, code_by, coded×, coded_option}
use Rattle.addr4.specs.Prefixes.{AddressPrefix, address_prefix_code}
use Rattle.link_change.specs.Rows.{Rows, with_row, computed_rows}
use Rattle.link_change.specs.declared.change.Change as declared

-- a change, whatever the family
abbrev pub Change : Type 0 → Type 0
Change R = declared.Change R AddressPrefix

-- the row before is the one that stands there, and the row after differs
abbrev pub IsLawfulOn : {R : Type 0} → Rows R → Change R → Type 0
IsLawfulOn rows change = (rows change.prefix ≡ change.before) × (change.after ≢ change.before)

-- the rows with the row after the change at its prefix
abbrev pub after_change : {R : Type 0} → Rows R → Change R → Rows R
after_change rows change = with_row rows change.prefix change.after

-- the link's map became the new one by this change at the prefix; or nothing was sent, and it is as it was
abbrev pub IsSent : {R : Type 0} → Rows R → Rows R → AddressPrefix → Option (Change R) → Type 0
IsSent old new p None = new ≡ old
IsSent old new p (Some change) = (change.prefix ≡ p) × IsLawfulOn old change × (new ≡ with_row old change.prefix change.after)

-- the change of one row: none exactly where it stays the same
abbrev pub IsChangeOf : {R : Type 0} → AddressPrefix → Option R → Option R → Option (Change R) → Type 0
IsChangeOf p before after None = after ≡ before
IsChangeOf p before after (Some change) =
    (change.prefix ≡ p) × (change.before ≡ before) × (change.after ≡ after) × (after ≢ before)

-- where the change that comes in leads from the rows above to new ones, what goes out leads from the rows computed from them
-- to the new ones there
abbrev pub ComputesOn : {A B : Type 0} → (AddressPrefix → Option A → Option B) → Change A → Option (Change B) → Type 0
ComputesOn {A} f change result =
    (upper now : Rows A) (p : AddressPrefix) → IsSent upper now p (Some change)
    → IsSent (computed_rows f upper) (computed_rows f now) p result

-- how a change is stored
abbrev pub change_code : {R : Type 0} → Coded R → Coded (Change R)
change_code {R} c =
    code_by (AddressPrefix × (Option R × Option R)) (coded× address_prefix_code (coded× (coded_option c) (coded_option c)))
    (λ x. (x.prefix, (x.before, x.after))) (λ p. record { prefix = p.0; before = p.1.0; after = p.1.1 }) (λ _. refl)
