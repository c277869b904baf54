-- What is known of the branches at each prefix.
use Rattle.std.specs.Prelude.{◌≡◌, ◌≢◌, ◌<◌, ◌+◌, ℕ, zero, suc, Bool, nat_lt, not, cond, map, Option, Some, None, MatchOption, is_some, refl}
use Rattle.std.specs.Coded.{Coded, code_by, coded×, coded_ℕ, coded_option}
use Rattle.std.specs.FinMap as tables
use Rattle.std.specs.FinMap.{FinMap}
use Rattle.addr4.specs.Prefixes.{AddressPrefix, prefix_cmp}
use Rattle.link_change.specs.Rows.{Rows, Candidates}
use Rattle.link_change.specs.Changes.{IsSent}
use Rattle.link_change.specs.Changes.{Change}
use Rattle.bgp_attr.specs.Routes.{Route}
use Rattle.best_path.specs.Steps.{pick}
use Rattle.decision.specs.declared.lineup.Lineup.{Lineup}
use Rattle.decision.specs.declared.contest.Mark.{Mark}
use Rattle.decision.specs.Branches.{AllRows, OthersStay}
use Rattle.decision.specs.Lineups.{IsLine, at_prefix, routes_of, chosen}

-- What is known at a prefix: how many branches have a candidate there, the branch whose row is the best, and the line of all that
-- have a row, which may be left out where one has.
pub record Contest : Type 0 where
  pub walkers : ℕ
  pub winner : Option ℕ
  pub line : Option Lineup

abbrev pub contest_code : Coded Lineup → Coded Contest
contest_code line =
    code_by
    (ℕ × (Option ℕ × Option Lineup))
    (coded× coded_ℕ (coded× (coded_option coded_ℕ) (coded_option line)))
    (λ c. (c.walkers, (c.winner, c.line)))
    (λ p. record { walkers = p.0; winner = p.1.0; line = p.1.1 })
    (λ _. refl)

-- ---- what is kept
-- the contest that a mark and a line are
abbrev pub contest_of : Mark → Option Lineup → Contest
contest_of mark line = record { walkers = mark.walkers; winner = mark.winner; line = line }

-- something is known where a mark stands
unfoldable pub contests_of : FinMap prefix_cmp Mark → FinMap prefix_cmp Lineup → FinMap prefix_cmp Contest
contests_of marks lines = tables.from_entries (map (λ e. (e.0, contest_of e.1 (tables.get lines e.0))) (tables.entries marks))

-- a line stands only where a mark does
abbrev pub AreMarked : FinMap prefix_cmp Mark → FinMap prefix_cmp Lineup → Type 0
AreMarked marks lines = (q : AddressPrefix) → tables.get marks q ≡ None → tables.get lines q ≡ None

-- this is known at a prefix from now on, and what was known elsewhere
pub record Updated (old new : FinMap prefix_cmp Contest) (p : AddressPrefix) (contest : Option Contest) : Type 0 where
  pub at : tables.get new p ≡ contest
  pub others : (q : AddressPrefix) → q ≢ p → tables.get new q ≡ tables.get old q

-- ---- rows
-- no other branch than this one has a row
abbrev pub HasNoOther : ℕ → (ℕ → Option Route) → Type 0
HasNoOther branch here = (b : ℕ) → b < 65 → b ≢ branch → here b ≡ None

-- no branch but the winner has a row
abbrev pub OnlyWinner : (ℕ → Option Route) → Option ℕ → Type 0
OnlyWinner here winner = (b : ℕ) → b < 65 → winner ≢ Some b → here b ≡ None

-- the winner's row is the best of the branches' rows, and the line is theirs; where there is none no branch but the winner has a row
pub record IsContest (here : ℕ → Option Route) (contest : Contest) : Type 0 where
  pub best : chosen here contest.winner ≡ pick (routes_of 65 here)
  pub others : MatchOption contest.line (OnlyWinner here contest.winner) (IsLine here)

-- what is known where something is, and that no branch has a row elsewhere
abbrev pub KnowsAt : (ℕ → Option Route) → Option Contest → Type 0
KnowsAt here known = MatchOption known ((b : ℕ) → b < 65 → here b ≡ None) (IsContest here)

-- the branch whose row is the best, where this is known
abbrev pub winner_in : Option Contest → Option ℕ
winner_in None = None
winner_in (Some c) = c.winner

-- at each prefix the row of the branch whose row is the best
abbrev pub won_rows : FinMap prefix_cmp Contest → AllRows → Rows Route
won_rows contests rows q = chosen (at_prefix rows q) (winner_in (tables.get contests q))

-- the prefixes where something is known
abbrev pub kept : FinMap prefix_cmp Contest → Candidates
kept contests q = is_some (tables.get contests q)

-- at each prefix it is known of the branches' rows
abbrev pub Knows : FinMap prefix_cmp Contest → AllRows → Type 0
Knows contests rows = (q : AddressPrefix) → KnowsAt (at_prefix rows q) (tables.get contests q)

-- it is known of the rows that the branches had before a change of one of them, which led to those that they have now
pub record KnowsBefore (branch : ℕ) (contests : FinMap prefix_cmp Contest) (now : AllRows) (change : Change Route) : Type 0 where
  pub before : AllRows
  pub stay : OthersStay branch before now
  pub sent : IsSent (before branch) (now branch) change.prefix (Some change)
  pub knows : Knows contests before

-- ---- candidates
-- of how many numbers, so many from one on, this is true
abbrev pub count_from : (ℕ → Bool) → ℕ → ℕ → ℕ
count_from f a zero = 0
count_from f a (suc n) = cond (f a) 1 0 + count_from f (a + 1) n

-- how many branches have a candidate at a prefix
unfoldable pub counted : (ℕ → Candidates) → AddressPrefix → ℕ
counted candidates q = count_from (λ b. candidates b q) 0 65

abbrev pub walkers_in : Option Contest → ℕ
walkers_in None = 0
walkers_in (Some c) = c.walkers

-- so many are counted, and something is known exactly where one is
pub record CountsAt (count : ℕ) (known : Option Contest) : Type 0 where
  pub walkers : walkers_in known ≡ count
  pub there : is_some known ≡ nat_lt 0 (walkers_in known)

-- at each prefix the branches that have a candidate there are counted
abbrev pub Counts : FinMap prefix_cmp Contest → (ℕ → Candidates) → Type 0
Counts contests candidates = (q : AddressPrefix) → CountsAt (counted candidates q) (tables.get contests q)

-- a candidate of a branch comes at a prefix, or goes, and all others stay
pub record Moves (branch : ℕ) (p : AddressPrefix) (comes : Bool) (before now : ℕ → Candidates) : Type 0 where
  pub small : branch < 65
  pub was : before branch p ≡ not comes
  pub is : now branch p ≡ comes
  pub others : (b : ℕ) → b ≢ branch → now b p ≡ before b p
  pub elsewhere : (b : ℕ) (q : AddressPrefix) → q ≢ p → now b q ≡ before b q

-- some candidates that are counted move so
pub record HasMove (p : AddressPrefix) (comes : Bool) (contests : FinMap prefix_cmp Contest) : Type 0 where
  pub branch : ℕ
  pub before : ℕ → Candidates
  pub now : ℕ → Candidates
  pub moves : Moves branch p comes before now
  pub counts : Counts contests before

-- where no branch has a candidate at a prefix, none has a row
abbrev pub CoversAt : (ℕ → Candidates) → AllRows → AddressPrefix → Type 0
CoversAt candidates rows p = counted candidates p ≡ 0 → (b : ℕ) → b < 65 → rows b p ≡ None

-- such a move is counted, and what was known of rows stays known where a prefix without a candidate has none
pub record IsNoted (p : AddressPrefix) (comes : Bool) (old new : FinMap prefix_cmp Contest) : Type 0 where
  pub counts : (branch : ℕ) (before now : ℕ → Candidates) → Moves branch p comes before now → Counts old before → Counts new now
  pub known : (rows : AllRows) (candidates : ℕ → Candidates) → Counts new candidates → CoversAt candidates rows p → Knows old rows → Knows new rows
