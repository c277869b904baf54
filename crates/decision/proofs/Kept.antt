-- What is known at each prefix, by the marks and the lines that are kept.
use Rattle.std.proofs.Common.{◌≡◌, ◌≢◌, ◌<◌, cond, IsSome, is_some, List, [], ◌∷◌, map, Option, Some, None, option_map, refl, sym, ◌∙◌, ap, subst, arith}
use Rattle.std.specs.FinMap as tables
use Rattle.std.specs.FinMap.{FinMap, find, get-entries, get-from_entries, get-insert, get-remove, get-empty}
use Rattle.addr4.specs.Prefixes.{AddressPrefix, prefix_cmp}
use Rattle.addr4.specs.Places.{IsNextRow}
use Rattle.addr4.proofs.PrefixOrder.{prefixes_total, by_prefix, itself}
use Rattle.decision.specs.declared.lineup.Lineup.{Lineup}
use Rattle.decision.specs.declared.contest.Mark.{Mark}
use Rattle.decision.specs.Contests.{Contest, contest_of, contests_of, AreMarked, Updated, walkers_in}

-- what is known at a prefix
abbrev pub known_at : FinMap prefix_cmp Mark → FinMap prefix_cmp Lineup → AddressPrefix → Option Contest
known_at marks lines q = option_map (λ m. contest_of m (tables.get lines q)) (tables.get marks q)

find_known : (lines : FinMap prefix_cmp Lineup) (es : List (AddressPrefix × Mark)) (q : AddressPrefix)
    → find prefix_cmp q (map (λ e. (e.0, contest_of e.1 (tables.get lines e.0))) es) ≡ option_map (λ m. contest_of m (tables.get lines q)) (find prefix_cmp q es)
find_known lines [] q = refl
find_known lines (e ∷ es) q =
    by_prefix q e.0
    (λ t. cond t (Some (contest_of e.1 (tables.get lines e.0))) (find prefix_cmp q (map (λ e. (e.0, contest_of e.1 (tables.get lines e.0))) es))
    ≡ option_map (λ m. contest_of m (tables.get lines q)) (cond t (Some e.1) (find prefix_cmp q es)))
    (λ same. ap (λ r. Some (contest_of e.1 (tables.get lines r))) (sym same))
    (λ _. find_known lines es q)

pub get_known : (marks : FinMap prefix_cmp Mark) (lines : FinMap prefix_cmp Lineup) (q : AddressPrefix) → tables.get (contests_of marks lines) q ≡ known_at marks lines q
unfolding contests_of
get_known marks lines q =
    get-from_entries prefixes_total (map (λ e. (e.0, contest_of e.1 (tables.get lines e.0))) (tables.entries marks)) q
    ∙ find_known lines (tables.entries marks) q
    ∙ ap (option_map (λ m. contest_of m (tables.get lines q))) (sym (get-entries marks q))

-- ---- marks
no_mark : (o : Option Mark) (line : Option Lineup) → option_map (λ m. contest_of m line) o ≡ None → o ≡ None
no_mark None line e = refl
no_mark (Some m) line e = absurd (let f : Some (contest_of m line) ≡ None = e in cc)

-- nothing is known where no mark stands
pub unmarked : (marks : FinMap prefix_cmp Mark) (lines : FinMap prefix_cmp Lineup) (q : AddressPrefix) → tables.get (contests_of marks lines) q ≡ None → tables.get marks q ≡ None
unmarked marks lines q e = no_mark (tables.get marks q) (tables.get lines q) (sym (get_known marks lines q) ∙ e)

pub nothing_known : (marks : FinMap prefix_cmp Mark) (lines : FinMap prefix_cmp Lineup) (q : AddressPrefix) → tables.get marks q ≡ None → tables.get (contests_of marks lines) q ≡ None
nothing_known marks lines q e = get_known marks lines q ∙ ap (option_map (λ m. contest_of m (tables.get lines q))) e

pub known_of : (marks : FinMap prefix_cmp Mark) (lines : FinMap prefix_cmp Lineup) (q : AddressPrefix) (mark : Mark) → tables.get marks q ≡ Some mark
    → tables.get (contests_of marks lines) q ≡ Some (contest_of mark (tables.get lines q))
known_of marks lines q mark e = get_known marks lines q ∙ ap (option_map (λ m. contest_of m (tables.get lines q))) e

-- a mark stands where a candidate is counted
pub mark_there : (marks : FinMap prefix_cmp Mark) (lines : FinMap prefix_cmp Lineup) (q : AddressPrefix) → 0 < walkers_in (tables.get (contests_of marks lines) q) → IsSome (tables.get marks q)
mark_there marks lines q some = by (tables.get marks q) refl
  where
    by : (o : Option Mark) → tables.get marks q ≡ o → IsSome o
    by None e = let none : walkers_in (tables.get (contests_of marks lines) q) ≡ 0 = ap walkers_in (nothing_known marks lines q e) in absurd (omega (arith, none, some))
    by (Some m) e = refl

-- the next mark is the next prefix where something is known
some_mark : (o : Option Mark) (line : Option Lineup) → is_some (option_map (λ m. contest_of m line) o) ≡ is_some o
some_mark None line = refl
some_mark (Some m) line = refl

pub next_known : (marks : FinMap prefix_cmp Mark) (lines : FinMap prefix_cmp Lineup) (after result : Option AddressPrefix) → IsNextRow (tables.get marks) after result
    → IsNextRow (tables.get (contests_of marks lines)) after result
next_known marks lines after None next = λ q beyond. nothing_known marks lines q (next q beyond)
next_known marks lines after (Some p) next = (
  next.0,
  ap is_some (get_known marks lines p) ∙ some_mark (tables.get marks p) (tables.get lines p) ∙ next.1,
  λ q beyond before. nothing_known marks lines q (next.2 q beyond before),
)

-- ---- one prefix of a table
module _ {V : Type 0} (m : FinMap prefix_cmp V) (p : AddressPrefix) where
  pub put_here : (v : V) → tables.get (tables.insert m p v) p ≡ Some v
  put_here v = get-insert prefixes_total m p v p ∙ ap (λ t. cond t (Some v) (tables.get m p)) (itself p)

  pub put_elsewhere : (v : V) (q : AddressPrefix) → q ≢ p → tables.get (tables.insert m p v) q ≡ tables.get m q
  put_elsewhere v q apart = get-insert prefixes_total m p v q ∙ by_prefix q p (λ t. cond t (Some v) (tables.get m q) ≡ tables.get m q) (λ e. absurd (apart e)) (λ _. refl)

  pub gone_here : tables.get (tables.remove m p) p ≡ None
  gone_here = get-remove prefixes_total m p p ∙ ap (λ t. cond t None (tables.get m p)) (itself p)

  pub gone_elsewhere : (q : AddressPrefix) → q ≢ p → tables.get (tables.remove m p) q ≡ tables.get m q
  gone_elsewhere q apart = get-remove prefixes_total m p q ∙ by_prefix q p (λ t. cond t None (tables.get m q) ≡ tables.get m q) (λ e. absurd (apart e)) (λ _. refl)

pub by_place : (q p : AddressPrefix) (P : Type 0) → (q ≡ p → P) → (q ≢ p → P) → P
by_place q p P here elsewhere = by_prefix q p (λ _. P) here elsewhere

-- ---- a change of what is kept of one prefix
module _ (marks marks' : FinMap prefix_cmp Mark) (lines lines' : FinMap prefix_cmp Lineup) (p : AddressPrefix)
    (rest : (q : AddressPrefix) → q ≢ p → tables.get marks' q ≡ tables.get marks q) (others : (q : AddressPrefix) → q ≢ p → tables.get lines' q ≡ tables.get lines q) where
  same_known : (q : AddressPrefix) → q ≢ p → tables.get (contests_of marks' lines') q ≡ tables.get (contests_of marks lines) q
  same_known q apart =
      get_known marks' lines' q
      ∙ ap (λ l. option_map (λ m. contest_of m l) (tables.get marks' q)) (others q apart)
      ∙ ap (option_map (λ m. contest_of m (tables.get lines q))) (rest q apart)
      ∙ sym (get_known marks lines q)

  pub updated : (mark : Mark) → tables.get marks' p ≡ Some mark → Updated (contests_of marks lines) (contests_of marks' lines') p (Some (contest_of mark (tables.get lines' p)))
  updated mark at = record { at = known_of marks' lines' p mark at; others = same_known }

  pub forgotten : tables.get marks' p ≡ None → Updated (contests_of marks lines) (contests_of marks' lines') p None
  forgotten at = record { at = nothing_known marks' lines' p at; others = same_known }

  pub still_marked : (tables.get marks' p ≡ None → tables.get lines' p ≡ None) → AreMarked marks lines → AreMarked marks' lines'
  still_marked at marked = λ q none. by_place q p (tables.get lines' q ≡ None)
      (λ same. ap (tables.get lines') same ∙ at (ap (tables.get marks') (sym same) ∙ none))
      (λ apart. others q apart ∙ marked q (sym (rest q apart) ∙ none))

-- another mark and another line stand at the prefix of a mark, or the first ones; what the state is seen as before is that of the fields
pub put_known : (seen : FinMap prefix_cmp Contest) (marks : FinMap prefix_cmp Mark) (lines lines' : FinMap prefix_cmp Lineup) (p : AddressPrefix) (mark : Mark)
    → contests_of marks lines ≡ seen → ((q : AddressPrefix) → q ≢ p → tables.get lines' q ≡ tables.get lines q)
    → Updated seen (contests_of (tables.insert marks p mark) lines') p (Some (contest_of mark (tables.get lines' p)))
put_known seen marks lines lines' p mark is others =
    subst (λ (old : FinMap prefix_cmp Contest). Updated old (contests_of (tables.insert marks p mark) lines') p (Some (contest_of mark (tables.get lines' p)))) is
    (updated marks (tables.insert marks p mark) lines lines' p (put_elsewhere marks p mark) others mark (put_here marks p mark))

pub put_marked : (marks : FinMap prefix_cmp Mark) (lines lines' : FinMap prefix_cmp Lineup) (p : AddressPrefix) (mark : Mark)
    → ((q : AddressPrefix) → q ≢ p → tables.get lines' q ≡ tables.get lines q) → AreMarked marks lines → AreMarked (tables.insert marks p mark) lines'
put_marked marks lines lines' p mark others marked =
    still_marked marks (tables.insert marks p mark) lines lines' p (put_elsewhere marks p mark) others
    (λ none. absurd (let e : Some mark ≡ None = sym (put_here marks p mark) ∙ none in cc)) marked

-- both go
pub gone_known : (seen : FinMap prefix_cmp Contest) (marks marks' : FinMap prefix_cmp Mark) (lines lines' : FinMap prefix_cmp Lineup) (p : AddressPrefix) → contests_of marks lines ≡ seen
    → marks' ≡ tables.remove marks p → lines' ≡ tables.remove lines p → Updated seen (contests_of marks' lines') p None
gone_known seen marks marks' lines lines' p is m l =
    subst (λ (old : FinMap prefix_cmp Contest). Updated old (contests_of marks' lines') p None) is
    (forgotten marks marks' lines lines' p
    (λ q apart. ap (λ (t : FinMap prefix_cmp Mark). tables.get t q) m ∙ gone_elsewhere marks p q apart)
    (λ q apart. ap (λ (t : FinMap prefix_cmp Lineup). tables.get t q) l ∙ gone_elsewhere lines p q apart)
    (ap (λ (t : FinMap prefix_cmp Mark). tables.get t p) m ∙ gone_here marks p))

pub gone_marked : (marks marks' : FinMap prefix_cmp Mark) (lines lines' : FinMap prefix_cmp Lineup) (p : AddressPrefix) → marks' ≡ tables.remove marks p → lines' ≡ tables.remove lines p
    → AreMarked marks lines → AreMarked marks' lines'
gone_marked marks marks' lines lines' p m l marked =
    still_marked marks marks' lines lines' p
    (λ q apart. ap (λ (t : FinMap prefix_cmp Mark). tables.get t q) m ∙ gone_elsewhere marks p q apart)
    (λ q apart. ap (λ (t : FinMap prefix_cmp Lineup). tables.get t q) l ∙ gone_elsewhere lines p q apart)
    (λ none. ap (λ (t : FinMap prefix_cmp Lineup). tables.get t p) l ∙ gone_here lines p) marked

-- ---- one update after another
pub then_updated : (first second third : FinMap prefix_cmp Contest) (p : AddressPrefix) (one other : Option Contest) → Updated first second p one → Updated second third p other
    → Updated first third p other
then_updated first second third p one other u v = record { at = v.at; others = λ q apart. v.others q apart ∙ u.others q apart }

-- by cases whether it is the prefix of an update
pub at_each : (old new : FinMap prefix_cmp Contest) (p : AddressPrefix) (contest : Option Contest) → Updated old new p contest → (q : AddressPrefix) (P : Option Contest → Type 0)
    → (q ≡ p → P contest) → (q ≢ p → P (tables.get old q)) → P (tables.get new q)
at_each old new p contest u q P here elsewhere =
    by_place q p (P (tables.get new q))
    (λ same. subst P (sym (ap (tables.get new) same ∙ u.at)) (here same))
    (λ apart. subst P (sym (u.others q apart)) (elsewhere apart))

-- ---- empty tables
pub empty_knows : (marks : FinMap prefix_cmp Mark) (lines : FinMap prefix_cmp Lineup) → marks ≡ tables.empty → (q : AddressPrefix) → tables.get (contests_of marks lines) q ≡ None
empty_knows marks lines empty q = nothing_known marks lines q (ap (λ (m : FinMap prefix_cmp Mark). tables.get m q) empty ∙ get-empty prefix_cmp q)

pub empty_marked : (marks : FinMap prefix_cmp Mark) (lines : FinMap prefix_cmp Lineup) → lines ≡ tables.empty → AreMarked marks lines
empty_marked marks lines empty q none = ap (λ (m : FinMap prefix_cmp Lineup). tables.get m q) empty ∙ get-empty prefix_cmp q
