-- Candidates that come and go: what is counted then, and where something is kept. For `enter`, `leave` and who calls them.
use Rattle.router_moments.proofs.Common.{sym, subst, ◌∙◌, ap, ◌≡◌, ℕ, refl, true, arith, false, Bool, ◌≤◌, ◌+◌, cond, ◌<◌, suc, zero, AddressPrefix, IsSent, Rows, CoversRows, Candidates, Change}
use Rattle.std.proofs.Common.{Option, Some, None, nat_lt, IsSome, Result}
use Rattle.std.specs.Result.{OnOk}
use Rattle.std.proofs.Common.{Ok, Err}
use Rattle.std.specs.FinMap as tables
use Rattle.addr4.proofs.PrefixOrder.{by_prefix, itself}
use Rattle.std.proofs.lemmas.Bool.Decides.{nat_tests}
use Rattle.decision.specs.Branches.{AllRows}
use Rattle.decision.specs.Contests.{Knows, Counts, CoversAt, Moves, count_from, counted}
use Rattle.decision.proofs.LineupLemmas.{by_number}
use Rattle.router_network.specs.Informed.{Contested, Shifts, ShiftsAt, HasShift, shifted}

-- ---- how many are counted
head_counts : (f : ℕ → Bool) (a : ℕ) → f a ≡ true → ◌≡◌ {A = ℕ} (cond (f a) 1 0) 1
head_counts f a is = ap (λ t. cond t 1 0) is

some_count : (f : ℕ → Bool) (w a n : ℕ) → a ≤ w → w < a + n → f w ≡ true → 0 < count_from f a n
some_count f w a zero from below is = absurd (omega (arith, from, below))
some_count f w a (suc n) from below is =
    by_number a w (λ _. 0 < count_from f a (suc n))
    (λ here. let one : ◌≡◌ {A = ℕ} (cond (f a) 1 0) 1 = head_counts f a (ap f here ∙ is) in omega (arith, one))
    (λ apart. let rest = some_count f w (a + 1) n (omega (arith, from, apart)) (omega (arith, below)) is in omega (arith, rest))

counts_some : (candidates : ℕ → Candidates) (k : ℕ) (p : AddressPrefix) → k < 65 → candidates k p ≡ true → 0 < counted candidates p
unfolding counted
counts_some candidates k p small is = some_count (λ b. candidates b p) k 0 65 (omega arith) (omega (arith, small)) is

is_positive : (n : ℕ) → 0 < n → nat_lt 0 n ≡ true
is_positive n e = grind (arith, nat_tests)

-- where a branch has a candidate something is kept
pub kept_there : (contests : Contested) (candidates : ℕ → Candidates) (k : ℕ) (p : AddressPrefix) → k < 65 → Counts contests candidates → candidates k p ≡ true → IsSome (tables.get contests p)
kept_there contests candidates k p small counts is =
    (counts p).there ∙ ap (nat_lt 0) (counts p).walkers ∙ is_positive (counted candidates p) (counts_some candidates k p small is)

-- where none has one, none has a row
no_candidate : (f : ℕ → Bool) (w a n : ℕ) → a ≤ w → w < a + n → count_from f a n ≡ 0 → f w ≡ false
no_candidate f w a n from below none = by_flag (f w) refl
  where
    by_flag : (t : Bool) → f w ≡ t → f w ≡ false
    by_flag true is = absurd (let some = some_count f w a n from below is in omega (arith, none, some))
    by_flag false is = is

pub covers_at : (candidates : ℕ → Candidates) (rows : AllRows) → ((b : ℕ) → CoversRows (candidates b) (rows b)) → (p : AddressPrefix) → CoversAt candidates rows p
unfolding counted
covers_at candidates rows covers p none b small = covers b p (no_candidate (λ x. candidates x p) b 0 65 (omega arith) (omega (arith, small)) none)

-- ---- by whether a candidate was there, and whether one is
module _ (k : ℕ) (p : AddressPrefix) (before now : ℕ → Candidates) where
  -- where nothing shifted
  none_shifted : (t : Bool) → Shifts k p t t before now → now ≡ before
  none_shifted t s i b q = each b q i
    where
      here : (b : ℕ) → now b p ≡ before b p
      here b = by_number b k (λ _. now b p ≡ before b p) (λ e. subst (λ (n : ℕ). now n p ≡ before n p) (sym e) (s.is ∙ sym s.was)) (s.others b)

      each : (b : ℕ) (q : AddressPrefix) → now b q ≡ before b q
      each b q = by_prefix q p (λ _. now b q ≡ before b q) (λ e. subst (λ (x : AddressPrefix). now b x ≡ before b x) (sym e) (here b)) (s.elsewhere b q)

  came : Shifts k p false true before now → Moves k p true before now
  came s = record { small = s.small; was = s.was; is = s.is; others = s.others; elsewhere = s.elsewhere }

  went : Shifts k p true false before now → Moves k p false before now
  went s = record { small = s.small; was = s.was; is = s.is; others = s.others; elsewhere = s.elsewhere }

  as_flags : (had has had' has' : Bool) → had ≡ had' → has ≡ has' → Shifts k p had has before now → Shifts k p had' has' before now
  as_flags had has had' has' e f s = subst (λ t. Shifts k p t has' before now) e (subst (λ t. Shifts k p had t before now) f s)

-- ---- a candidate that came
pub entered : (old new : Contested) (p : AddressPrefix) (had has : Bool) → had ≡ false → has ≡ true → ((k : ℕ) (before now : ℕ → Candidates) → Moves k p true before now → Counts old before → Counts new now)
    → (k : ℕ) (before now : ℕ → Candidates) → Shifts k p had has before now → Counts old before → Counts new (shifted has before now)
entered old new p had has none one note k before now s counts =
    subst (λ t. Counts new (shifted t before now)) (sym one) (note k before now (came k p before now (as_flags k p before now had has false true none one s)) counts)

pub entered_known : (old new : Contested) (p : AddressPrefix) (had has : Bool) → had ≡ false → has ≡ true → HasShift p had has old → ((k : ℕ) (before now : ℕ → Candidates) → Moves k p true before now → Counts old before → Counts new now)
    → ((rows : AllRows) (candidates : ℕ → Candidates) → Counts new candidates → CoversAt candidates rows p → Knows old rows → Knows new rows) → (rows : AllRows) → Knows old rows → Knows new rows
entered_known old new p had has none one h note known rows knows =
    let moves : Moves h.branch p true h.before h.now = came h.branch p h.before h.now (as_flags h.branch p h.before h.now had has false true none one h.shifts) in
    known rows h.now (note h.branch h.before h.now moves h.counts) (λ zero b small. absurd (let some = counts_some h.now h.branch p moves.small moves.is in omega (arith, zero, some))) knows

-- ---- one that went
pub left : (old new : Contested) (p : AddressPrefix) (had has : Bool) → had ≡ true → has ≡ false → ((k : ℕ) (before now : ℕ → Candidates) → Moves k p false before now → Counts old before → Counts new now)
    → (k : ℕ) (before now : ℕ → Candidates) → Shifts k p had has before now → Counts old (shifted has before now) → Counts new now
left old new p had has one none note k before now s counts =
    note k before now (went k p before now (as_flags k p before now had has true false one none s)) (subst (λ t. Counts old (shifted t before now)) none counts)

-- the same where it is told by a prefix, if there is one
pub forgotten : (old new : Contested) (lost : Option AddressPrefix) (p : AddressPrefix) → lost ≡ Some p → ((k : ℕ) (before now : ℕ → Candidates) → Shifts k p true false before now → Counts old (shifted false before now) → Counts new now)
    → (k : ℕ) (before now : ℕ → Candidates) → ShiftsAt lost k before now → Counts old before → Counts new now
forgotten old new lost p is leaves k before now s counts = leaves k before now (subst (λ (o : Option AddressPrefix). ShiftsAt o k before now) is s) counts

-- ---- where none came, and where none went
module _ (contests : Contested) (p : AddressPrefix) (had has : Bool) (k : ℕ) (before now : ℕ → Candidates) (s : Shifts k p had has before now) where
  pub one_was : had ≡ true → Counts contests before → Counts contests (shifted has before now)
  one_was one counts = by_has has refl
    where
      by_has : (t : Bool) → has ≡ t → Counts contests (shifted t before now)
      by_has true is = subst (Counts contests) (sym (none_shifted k p before now true (as_flags k p before now had has true true one is s))) counts
      by_has false is = counts

  pub none_is : has ≡ false → Counts contests before → Counts contests (shifted has before now)
  none_is none counts = subst (λ t. Counts contests (shifted t before now)) (sym none) counts

  pub one_is : has ≡ true → Counts contests (shifted has before now) → Counts contests now
  one_is one counts = subst (λ t. Counts contests (shifted t before now)) one counts

  pub none_was : had ≡ false → has ≡ false → Counts contests (shifted has before now) → Counts contests now
  none_was was none counts =
      subst (Counts contests) (sym (none_shifted k p before now false (as_flags k p before now had has false false was none s))) (subst (λ t. Counts contests (shifted t before now)) none counts)

-- ---- where a change was sent, a candidate is counted
-- a row that is sent stood before, or stands now
module _ {R : Type 0} (old new : Rows R) (p : AddressPrefix) (change : Change R) (sent : IsSent old new p (Some change)) where
  pub after_here : new change.prefix ≡ change.after
  after_here = ap (λ (rows : Rows R). rows change.prefix) sent.2 ∙ ap (λ b. cond b change.after (old change.prefix)) (itself change.prefix)

  pub not_both_none : old p ≡ None → new p ≡ None → ⊥
  not_both_none was is =
      let before : change.before ≡ None = sym sent.1.0 ∙ ap old sent.0 ∙ was in
      let after : change.after ≡ None = sym after_here ∙ ap new sent.0 ∙ is in
      sent.1.1 (after ∙ sym before)

pub sent_there : {R : Type 0} (k : ℕ) (p : AddressPrefix) (had has : Bool) (before now : ℕ → Candidates) (old new : Rows R) (change : Change R) → Shifts k p had has before now → CoversRows (before k) old → CoversRows (now k) new
    → IsSent old new p (Some change) → shifted has before now k p ≡ true
sent_there k p had true before now old new change s was_covered is_covered sent = s.is
sent_there k p true false before now old new change s was_covered is_covered sent = s.was
sent_there k p false false before now old new change s was_covered is_covered sent = absurd (not_both_none old new p change sent (was_covered p s.was) (is_covered p s.is))

-- two facts of one answer
pub on_ok_both : {X E : Type 0} (r : Result X E) {P Q R : Type 0} → (P → Q → R) → OnOk r P → OnOk r Q → OnOk r R
on_ok_both (Ok x) f p q = f p q
on_ok_both (Err e) f p q = tt
