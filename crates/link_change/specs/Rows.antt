-- What stands on a link, and where a walk goes.
use Rattle.std.specs.Prelude.{◌≡◌, ◌==◌, ◌||◌, Bool, true, false, cond, Option, Some, None, is_some}
use Rattle.std.specs.Ordering.{eq_by_cmp}
use Rattle.std.specs.FinMap as map
use Rattle.std.specs.FinMap.{FinMap}
use Rattle.addr4.specs.Prefixes.{AddressPrefix, prefix_cmp, ComesBefore}
use Rattle.addr4.specs.Places.{IsBeyond}

-- the map of a link: the row at each prefix, or none
abbrev pub Rows : Type 0 → Type 0
Rows V = AddressPrefix → Option V

abbrev pub no_rows : {V : Type 0} → Rows V
no_rows q = None

-- the rows with this one at the prefix
abbrev pub with_row : {V : Type 0} → Rows V → AddressPrefix → Option V → Rows V
with_row rows p row q = cond (eq_by_cmp prefix_cmp q p) row (rows q)

-- the rows that are computed from those above, each from the one at its prefix
abbrev pub computed_rows : {A B : Type 0} → (AddressPrefix → Option A → Option B) → Rows A → Rows B
computed_rows f upper q = f q (upper q)

-- prefixes that a walk goes to
abbrev pub Candidates : Type 0
Candidates = AddressPrefix → Bool

-- the answer is the least candidate beyond the place
abbrev pub IsNextCandidate : Candidates → Option AddressPrefix → Option AddressPrefix → Type 0
IsNextCandidate candidates after None = (q : AddressPrefix) → IsBeyond after q → candidates q ≡ false
IsNextCandidate candidates after (Some p) = IsBeyond after p × (candidates p ≡ true) × ((q : AddressPrefix) → IsBeyond after q → ComesBefore q p → candidates q ≡ false)

-- every row stands at a candidate
abbrev pub CoversRows : {V : Type 0} → Candidates → Rows V → Type 0
CoversRows candidates rows = (q : AddressPrefix) → candidates q ≡ false → rows q ≡ None

-- the prefixes that have rows
abbrev pub with_rows : {V : Type 0} → Rows V → Candidates
with_rows rows q = is_some (rows q)

-- those of both
abbrev pub together : Candidates → Candidates → Candidates
together a b q = a q || b q

-- the next of both together, where these are the next of each
abbrev pub IsNextOfBoth : Option AddressPrefix → Option AddressPrefix → Option AddressPrefix → Type 0
IsNextOfBoth first second result =
    (a b : Candidates) (after : Option AddressPrefix) → IsNextCandidate a after first → IsNextCandidate b after second
    → IsNextCandidate (together a b) after result

-- the table has no row
abbrev pub is_empty_map : {V : Type 0} → FinMap prefix_cmp V → Bool
is_empty_map m = map.len m == 0
