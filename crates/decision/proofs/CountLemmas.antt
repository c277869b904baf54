-- How many branches have a candidate.
use Rattle.std.proofs.Common.{◌≡◌, ◌≢◌, ℕ, zero, suc, ◌+◌, ◌≤◌, ◌<◌, Bool, true, false, nat_lt, ◌||◌, cond, Option, Some, None, is_some, refl, sym, ◌∙◌, ap, subst, arith}
use Rattle.std.specs.List.{list_any, range_with_len}
use Rattle.std.specs.FinMap as tables
use Rattle.std.specs.FinMap.{FinMap}
use Rattle.std.proofs.lemmas.Bool.Decides.{nat_tests}
use Rattle.addr4.specs.Prefixes.{AddressPrefix, prefix_cmp}
use Rattle.addr4.specs.Places.{IsNextRow}
use Rattle.link_change.proofs.RowLemmas.{same_function}
use Rattle.link_change.specs.Rows.{Rows, Candidates, IsNextCandidate, CoversRows, together}
use Rattle.decision.specs.Branches.{AllRows, best_candidates}
use Rattle.bgp_attr.specs.Routes.{Route}
use Rattle.decision.specs.Lineups.{at_prefix, chosen}
use Rattle.decision.specs.Contests.{Contest, kept, count_from, counted, walkers_in, CountsAt, Counts, Moves, HasMove, Updated, winner_in, won_rows}
use Rattle.decision.specs.Laws.{NoCandidateWhereNoneIsCounted, SomethingIsKnown}
use Rattle.decision.proofs.LineupLemmas.{by_number}
use Rattle.decision.proofs.Kept.{at_each}

pub same_count : (f g : ℕ → Bool) (a n : ℕ) → ((b : ℕ) → a ≤ b → b < a + n → g b ≡ f b) → count_from g a n ≡ count_from f a n
same_count f g a zero same = refl
same_count f g a (suc n) same =
    ap (λ t. cond t 1 0 + count_from g (a + 1) n) (same a (omega arith) (omega arith))
    ∙ ap (λ m. cond (f a) 1 0 + m) (same_count f g (a + 1) n (λ b from below. same b (omega (arith, from)) (omega (arith, below))))

-- where one more is true, one more is counted
pub more_count : (f g : ℕ → Bool) (w a n : ℕ) → a ≤ w → w < a + n → f w ≡ false → g w ≡ true → ((b : ℕ) → b ≢ w → g b ≡ f b) → count_from g a n ≡ count_from f a n + 1
more_count f g w a zero from below was is same = absurd (omega (arith, from, below))
more_count f g w a (suc n) from below was is same =
    by_number a w (λ t. count_from g a (suc n) ≡ count_from f a (suc n) + 1)
    (λ here.
    let rest = same_count f g (a + 1) n (λ b behind less. same b (λ e. absurd (omega (arith, behind, here, e)))) in
    let old : ◌≡◌ {A = ℕ} (cond (f a) 1 0) 0 = ap (λ t. cond t 1 0) (ap f here ∙ was) in
    let new : ◌≡◌ {A = ℕ} (cond (g a) 1 0) 1 = ap (λ t. cond t 1 0) (ap g here ∙ is) in
    omega (arith, rest, old, new))
    (λ apart.
    let rest = more_count f g w (a + 1) n (omega (arith, from, apart)) (omega (arith, below)) was is same in
    let head : ◌≡◌ {A = ℕ} (cond (g a) 1 0) (cond (f a) 1 0) = ap (λ t. cond t 1 0) (same a apart) in
    omega (arith, rest, head))

few_in : (t : Bool) → cond t 1 0 ≤ 1
few_in true = omega arith
few_in false = omega arith

pub few_count : (f : ℕ → Bool) (a n : ℕ) → count_from f a n ≤ n
few_count f a zero = omega arith
few_count f a (suc n) = omega (arith, few_in (f a), few_count f (a + 1) n)

-- one is counted exactly where it is true of one
any_case : (t : Bool) (rest : Bool) (n : ℕ) → rest ≡ nat_lt 0 n → t || rest ≡ nat_lt 0 (cond t 1 0 + n)
any_case true rest n e = let f : nat_lt 0 (1 + n) ≡ true = grind (arith, nat_tests) in sym f
any_case false rest n e = e ∙ ap (nat_lt 0) (let f : n ≡ 0 + n = omega arith in f)

any_count : (f : ℕ → Bool) (a n : ℕ) → list_any f (range_with_len a n) ≡ nat_lt 0 (count_from f a n)
any_count f a zero = refl
any_count f a (suc n) = any_case (f a) (list_any f (range_with_len (a + 1) n)) (count_from f (a + 1) n) (any_count f (a + 1) n)

pub best_counted : (candidates : ℕ → Candidates) (q : AddressPrefix) → best_candidates candidates q ≡ nat_lt 0 (counted candidates q)
unfolding best_candidates counted
best_counted candidates q = any_count (λ b. candidates b q) 0 65

-- a walk goes where something is kept
pub kept_is_candidate : (candidates : ℕ → Candidates) (q : AddressPrefix) (known : Option Contest) → CountsAt (counted candidates q) known → best_candidates candidates q ≡ is_some known
kept_is_candidate candidates q known h = best_counted candidates q ∙ ap (nat_lt 0) (sym h.walkers) ∙ sym h.there

-- something is known exactly where a branch has a candidate
pub kept_is_best : (contests : FinMap prefix_cmp Contest) (candidates : ℕ → Candidates) → Counts contests candidates → kept contests ≡ best_candidates candidates
kept_is_best contests candidates counts = same_function _ _ (λ q. sym (kept_is_candidate candidates q (tables.get contests q) (counts q)))

none_is : (known : Option Contest) → known ≡ None → is_some known ≡ false
none_is known e = ap is_some e

is_none : (known : Option Contest) → is_some known ≡ false → known ≡ None
is_none None e = refl
is_none (Some c) e = absurd (let f : true ≡ false = e in cc)

-- the next prefix where something is known
pub next_in : (contests : FinMap prefix_cmp Contest) (after result : Option AddressPrefix) → IsNextRow (tables.get contests) after result → IsNextCandidate (kept contests) after result
next_in contests after None next = λ q beyond. none_is (tables.get contests q) (next q beyond)
next_in contests after (Some p) next = (next.0, next.1, λ q beyond before. none_is (tables.get contests q) (next.2 q beyond before))

-- where nothing is known there is no best
pub covers_by : (contests : FinMap prefix_cmp Contest) (candidates : Candidates) (best : Rows Route) (rows : AllRows) → kept contests ≡ candidates → won_rows contests rows ≡ best
    → CoversRows candidates best
covers_by contests candidates best rows counted known q nowhere =
    sym (ap (λ (r : Rows Route). r q) known)
    ∙ ap (λ (o : Option Contest). chosen (at_prefix rows q) (winner_in o)) (is_none (tables.get contests q) (ap (λ (k : Candidates). k q) counted ∙ nowhere))

-- nor where nothing stands beside
first_of : (a b : Bool) → (a || b) ≡ false → a ≡ false
first_of true b none = none
first_of false b none = refl

pub covers_together : {V : Type 0} (candidates beside : Candidates) (rows : Rows V) → CoversRows candidates rows → CoversRows (together candidates beside) rows
covers_together candidates beside rows covers q none = covers q (first_of (candidates q) (beside q) none)

pub few_counted : (candidates : ℕ → Candidates) (q : AddressPrefix) → counted candidates q ≤ 65
unfolding counted
few_counted candidates q = few_count (λ b. candidates b q) 0 65

-- ---- a candidate comes or goes
module _ (branch : ℕ) (before now : ℕ → Candidates) (p : AddressPrefix) where
  pub moved_count : (comes : Bool) → Moves branch p comes before now → cond comes (counted now p ≡ counted before p + 1) (counted before p ≡ counted now p + 1)
  unfolding counted
  moved_count true m = more_count (λ b. before b p) (λ b. now b p) branch 0 65 (omega arith) (omega (arith, m.small)) m.was m.is m.others
  moved_count false m = more_count (λ b. now b p) (λ b. before b p) branch 0 65 (omega arith) (omega (arith, m.small)) m.is m.was (λ b apart. sym (m.others b apart))

  moves_to : (comes : Bool) (known m : ℕ) → cond comes (counted now p ≡ counted before p + 1) (counted before p ≡ counted now p + 1) → known ≡ counted before p
      → cond comes (m ≡ known + 1) (m + 1 ≡ known) → m ≡ counted now p
  moves_to true known m by is step = omega (arith, by, is, step)
  moves_to false known m by is step = omega (arith, by, is, step)

  pub elsewhere_counts : (comes : Bool) → Moves branch p comes before now → (q : AddressPrefix) → q ≢ p → counted now q ≡ counted before q
  unfolding counted
  elsewhere_counts comes m q apart = same_count (λ b. before b q) (λ b. now b q) 0 65 (λ b from below. m.elsewhere b q apart)

  -- so many are counted then
  pub counts_to : (comes : Bool) (known : Option Contest) (m : ℕ) → Moves branch p comes before now → CountsAt (counted before p) known
      → cond comes (m ≡ walkers_in known + 1) (m + 1 ≡ walkers_in known) → m ≡ counted now p
  counts_to comes known m moves h step = moves_to comes (walkers_in known) m (moved_count comes moves) h.walkers step

room : (comes : Bool) (old new walkers : ℕ) → cond comes (new ≡ old + 1) (old ≡ new + 1) → new ≤ 65 → walkers ≡ old → comes ≡ true → walkers < 65
room true old new walkers by few is e = omega (arith, by, few, is)
room false old new walkers by few is e = absurd (let f : false ≡ true = e in cc)

some_left : (comes : Bool) (old new walkers : ℕ) → cond comes (new ≡ old + 1) (old ≡ new + 1) → walkers ≡ old → comes ≡ false → 0 < walkers
some_left true old new walkers by is e = absurd (let f : true ≡ false = e in cc)
some_left false old new walkers by is e = omega (arith, by, is)

one_of_none : (comes : Bool) (walkers : ℕ) → walkers ≡ 0 → (comes ≡ false → 0 < walkers) → cond comes (1 ≡ walkers + 1) (1 + 1 ≡ walkers)
one_of_none true walkers none some = omega (arith, none)
one_of_none false walkers none some = absurd (omega (arith, none, some refl))

no_walkers : (known : Option Contest) → known ≡ None → walkers_in known ≡ 0
no_walkers known e = ap walkers_in e

module _ (p : AddressPrefix) (comes : Bool) (contests : FinMap prefix_cmp Contest) (h : HasMove p comes contests) where
  pub has_room : comes ≡ true → walkers_in (tables.get contests p) < 65
  has_room = room comes (counted h.before p) (counted h.now p) _ (moved_count h.branch h.before h.now p comes h.moves) (few_counted h.now p) (h.counts p).walkers

  pub has_some : comes ≡ false → 0 < walkers_in (tables.get contests p)
  has_some = some_left comes (counted h.before p) (counted h.now p) _ (moved_count h.branch h.before h.now p comes h.moves) (h.counts p).walkers

  -- where nothing is known no candidate can go
  pub first_comes : tables.get contests p ≡ None → cond comes (1 ≡ walkers_in (tables.get contests p) + 1) (1 + 1 ≡ walkers_in (tables.get contests p))
  first_comes none = one_of_none comes (walkers_in (tables.get contests p)) (no_walkers (tables.get contests p) none) has_some

-- where none is left, nothing is known
pub gone_counts : (contests new : FinMap prefix_cmp Contest) (p : AddressPrefix) (comes : Bool) (m : ℕ) → m ≡ 0
    → cond comes (m ≡ walkers_in (tables.get contests p) + 1) (m + 1 ≡ walkers_in (tables.get contests p)) → Updated contests new p None
    → (branch : ℕ) (before now : ℕ → Candidates) → Moves branch p comes before now → Counts contests before → Counts new now
gone_counts contests new p comes m none step u branch before now moves counts = λ q.
    at_each contests new p None u q (CountsAt (counted now q))
    (λ same. subst (λ r. CountsAt (counted now r) None) (sym same)
    (record { walkers = sym none ∙ counts_to branch before now p comes (tables.get contests p) m moves (counts p) step; there = refl }))
    (λ apart. subst (λ n. CountsAt n (tables.get contests q)) (sym (elsewhere_counts branch before now p comes moves q apart)) (counts q))

is_there : (m : ℕ) → m ≢ 0 → true ≡ nat_lt 0 m
is_there zero some = absurd (some refl)
is_there (suc m) some = let f : nat_lt 0 (suc m) ≡ true = grind (arith, nat_tests) in sym f

-- and where one is
pub stays_counts : (contests new : FinMap prefix_cmp Contest) (p : AddressPrefix) (comes : Bool) (contest : Contest) → contest.walkers ≢ 0
    → cond comes (contest.walkers ≡ walkers_in (tables.get contests p) + 1) (contest.walkers + 1 ≡ walkers_in (tables.get contests p)) → Updated contests new p (Some contest)
    → (branch : ℕ) (before now : ℕ → Candidates) → Moves branch p comes before now → Counts contests before → Counts new now
stays_counts contests new p comes contest some step u branch before now moves counts = λ q.
    at_each contests new p (Some contest) u q (CountsAt (counted now q))
    (λ same. subst (λ r. CountsAt (counted now r) (Some contest)) (sym same)
    (record { walkers = counts_to branch before now p comes (tables.get contests p) contest.walkers moves (counts p) step; there = is_there contest.walkers some }))
    (λ apart. subst (λ n. CountsAt n (tables.get contests q)) (sym (elsewhere_counts branch before now p comes moves q apart)) (counts q))

counts_there : (count : ℕ) (known : Option Contest) (standing contest : Contest) → known ≡ Some standing → contest.walkers ≡ standing.walkers → CountsAt count known → CountsAt count (Some contest)
counts_there count None standing contest is same h = absurd (let f : None ≡ Some standing = is in cc)
counts_there count (Some k) standing contest is same h =
    let e : k ≡ standing = cc in record { walkers = same ∙ sym (ap (λ (c : Contest). c.walkers) e) ∙ h.walkers; there = h.there ∙ ap (nat_lt 0) (ap (λ (c : Contest). c.walkers) e ∙ sym same) }

-- what is known in the place of what was keeps the counts
pub counts_in_place : (contests new : FinMap prefix_cmp Contest) (p : AddressPrefix) (standing contest : Contest) → tables.get contests p ≡ Some standing → contest.walkers ≡ standing.walkers
    → Updated contests new p (Some contest) → (candidates : ℕ → Candidates) → Counts contests candidates → Counts new candidates
counts_in_place contests new p standing contest at same u candidates counts = λ q.
    at_each contests new p (Some contest) u q (CountsAt (counted candidates q))
    (λ here. subst (λ r. CountsAt (counted candidates r) (Some contest)) (sym here) (counts_there (counted candidates p) (tables.get contests p) standing contest at same (counts p)))
    (λ apart. counts q)

-- ---- no candidates
count_none : (f : ℕ → Bool) (a n : ℕ) → ((b : ℕ) → a ≤ b → b < a + n → f b ≡ false) → count_from f a n ≡ 0
count_none f a zero none = refl
count_none f a (suc n) none =
    let first : ◌≡◌ {A = ℕ} (cond (f a) 1 0) 0 = ap (λ t. cond t 1 0) (none a (omega arith) (omega arith)) in
    omega (arith, first, count_none f (a + 1) n (λ b from below. none b (omega (arith, from)) (omega (arith, below))))

none_counted : (candidates : ℕ → Candidates) (q : AddressPrefix) → ((b : ℕ) → b < 65 → candidates b q ≡ false) → counted candidates q ≡ 0
unfolding counted
none_counted candidates q none = count_none (λ b. candidates b q) 0 65 (λ b from below. none b (omega (arith, below)))

pub counts_nothing : (contests : FinMap prefix_cmp Contest) → ((q : AddressPrefix) → tables.get contests q ≡ None) → (candidates : ℕ → Candidates)
    → ((b : ℕ) (q : AddressPrefix) → b < 65 → candidates b q ≡ false) → Counts contests candidates
counts_nothing contests nothing candidates none = λ q.
    subst (CountsAt (counted candidates q)) (sym (nothing q)) (record { walkers = sym (none_counted candidates q (λ b below. none b q below)); there = refl })

-- where none is counted none has a candidate
none_of_count : (f : ℕ → Bool) (a n : ℕ) → count_from f a n ≡ 0 → (b : ℕ) → a ≤ b → b < a + n → f b ≡ false
none_of_count f a zero e b from below = absurd (omega (arith, from, below))
none_of_count f a (suc n) e b from below =
    let both = none_first (f a) (count_from f (a + 1) n) e in
    by_number b a (λ t. f b ≡ false) (λ same. ap f same ∙ both.0)
    (λ differ. none_of_count f (a + 1) n both.1 b (omega (arith, from, differ)) (omega (arith, below)))
  where
    none_first : (t : Bool) (m : ℕ) → cond t 1 0 + m ≡ 0 → (t ≡ false) × (m ≡ 0)
    none_first true m e = absurd (omega (arith, e))
    none_first false m e = (refl, omega (arith, e))

pub no_candidate_where_none_is_counted : NoCandidateWhereNoneIsCounted
unfolding counted
no_candidate_where_none_is_counted candidates p e b below = none_of_count (λ b. candidates b p) 0 65 e b (omega arith) (omega (arith, below))

-- where one has a candidate something is known
known_where : (known : Option Contest) (n : ℕ) → CountsAt n known → (n ≡ 0 → ⊥) → is_some known ≡ true
known_where None n h some = absurd (some (sym h.walkers))
known_where (Some c) n h some = refl

pub something_is_known : SomethingIsKnown
something_is_known contests candidates p b below is counts =
    known_where (tables.get contests p) (counted candidates p) (counts p)
    (λ none. let clash : true ≡ false = sym is ∙ no_candidate_where_none_is_counted candidates p none b below in cc)
