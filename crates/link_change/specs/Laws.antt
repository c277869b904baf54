-- Laws of changes in order, for the crates above.
use Rattle.std.specs.Prelude.{◌≡◌, ◌≢◌, ◌↔◌, false, List, ◌∷◌, Some}
use Rattle.addr4.specs.Prefixes.{AddressPrefix}
use Rattle.link_change.specs.Rows.{Rows, Candidates, CoversRows, together}
use Rattle.link_change.specs.Changes.{IsSent}
use Rattle.link_change.specs.InOrder.{ChangesLead, rows_before, with_last, changes_at, changed_in, RowLeads, row_before}
use Rattle.link_change.specs.Changes.{Change}

-- ---- the rows that changes lead from
-- Where changes lead from the old rows to the new ones, the rows before them are the old ones.
abbrev pub BeforeIsOld : Type 0 → Type 0
BeforeIsOld R = (old new : Rows R) (cs : List (Change R)) → ChangesLead old cs new → rows_before cs new ≡ old

-- At a prefix the row before them is that before the first change there.
abbrev pub BeforeIsFirst : Type 0 → Type 0
BeforeIsFirst R = (new : Rows R) (cs : List (Change R)) (p : AddressPrefix) → rows_before cs new p ≡ row_before (changes_at p cs) (new p)

-- Where none is, the row stays.
abbrev pub UnchangedStays : Type 0 → Type 0
UnchangedStays R = (new : Rows R) (cs : List (Change R)) (p : AddressPrefix) → changed_in cs p ≡ false → rows_before cs new p ≡ new p

-- Every row before them stands at a candidate of the rows after them, or where one of them is.
abbrev pub BeforeIsCovered : Type 0 → Type 0
BeforeIsCovered R =
    (candidates : Candidates) (new : Rows R) (cs : List (Change R)) → CoversRows candidates new
    → CoversRows (together candidates (changed_in cs)) (rows_before cs new)

-- ---- one prefix at a time
-- Changes lead from the old rows to the new ones exactly where at each prefix those that are there do.
abbrev pub LeadAtEach : Type 0 → Type 0
LeadAtEach R =
    (old new : Rows R) (cs : List (Change R))
    → ChangesLead old cs new ↔ ((p : AddressPrefix) → RowLeads (old p) (changes_at p cs) (new p))

-- A change in front of others is the first one at its prefix, and none elsewhere.
abbrev pub FirstHere : Type 0 → Type 0
FirstHere R = (c : Change R) (cs : List (Change R)) → changes_at c.prefix (c ∷ cs) ≡ c ∷ changes_at c.prefix cs

abbrev pub FirstElsewhere : Type 0 → Type 0
FirstElsewhere R = (c : Change R) (cs : List (Change R)) (q : AddressPrefix) → q ≢ c.prefix → changes_at q (c ∷ cs) ≡ changes_at q cs

-- One behind others is the last one at its prefix, and none elsewhere.
abbrev pub LastHere : Type 0 → Type 0
LastHere R = (c : Change R) (cs : List (Change R)) → changes_at c.prefix (with_last c cs) ≡ with_last c (changes_at c.prefix cs)

abbrev pub LastElsewhere : Type 0 → Type 0
LastElsewhere R = (c : Change R) (cs : List (Change R)) (q : AddressPrefix) → q ≢ c.prefix → changes_at q (with_last c cs) ≡ changes_at q cs

-- ---- a change is put behind those that wait
-- A change of the new rows, put behind changes that lead to them, leaves the rows before them,
abbrev pub PutKeepsBefore : Type 0 → Type 0
PutKeepsBefore R =
    (new now : Rows R) (p : AddressPrefix) (c : Change R) (cs : List (Change R)) → IsSent new now p (Some c)
    → rows_before (with_last c cs) now ≡ rows_before cs new

-- and all together lead to the rows after it,
abbrev pub PutLeads : Type 0 → Type 0
PutLeads R =
    (old new now : Rows R) (p : AddressPrefix) (c : Change R) (cs : List (Change R)) → IsSent new now p (Some c)
    → ChangesLead old cs new → ChangesLead old (with_last c cs) now

-- at one prefix too.
abbrev pub PutLeadsRow : Type 0 → Type 0
PutLeadsRow R =
    (new now : Rows R) (p : AddressPrefix) (c : Change R) (cs : List (Change R)) → IsSent new now p (Some c)
    → RowLeads (rows_before cs new p) (changes_at p cs) (new p)
    → RowLeads (rows_before (with_last c cs) now p) (changes_at p (with_last c cs)) (now p)

-- ---- the first is taken
-- The first of changes that lead on is lawful on the rows before it, and makes those that the others lead from.
abbrev pub TakeSends : Type 0 → Type 0
TakeSends R =
    (new : Rows R) (c : Change R) (cs : List (Change R)) → ChangesLead (rows_before (c ∷ cs) new) (c ∷ cs) new
    → IsSent (rows_before (c ∷ cs) new) (rows_before cs new) c.prefix (Some c)

abbrev pub TakeLeads : Type 0 → Type 0
TakeLeads R =
    (new : Rows R) (c : Change R) (cs : List (Change R)) → ChangesLead (rows_before (c ∷ cs) new) (c ∷ cs) new
    → ChangesLead (rows_before cs new) cs new

-- The same where nothing is known but what stands at its prefix.
abbrev pub TakeSendsHere : Type 0 → Type 0
TakeSendsHere R =
    (new : Rows R) (c : Change R) (cs : List (Change R))
    → RowLeads (rows_before (c ∷ cs) new c.prefix) (changes_at c.prefix (c ∷ cs)) (new c.prefix)
    → IsSent (rows_before (c ∷ cs) new) (rows_before cs new) c.prefix (Some c)

abbrev pub TakeLeadsHere : Type 0 → Type 0
TakeLeadsHere R =
    (new : Rows R) (c : Change R) (cs : List (Change R))
    → RowLeads (rows_before (c ∷ cs) new c.prefix) (changes_at c.prefix (c ∷ cs)) (new c.prefix)
    → RowLeads (rows_before cs new c.prefix) (changes_at c.prefix cs) (new c.prefix)
