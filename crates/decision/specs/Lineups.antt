-- The rows of the branches at one prefix, and their candidates.
use Rattle.std.specs.Prelude.{◌≡◌, ℕ, ◌==◌, if◌then◌else◌, List, length, Option, None, option_and_then}
use Rattle.std.specs.List.{filter_map, range_with_len}
use Rattle.std.specs.Option.{option_map}
use Rattle.addr4.specs.Prefixes.{AddressPrefix}
use Rattle.bgp_attr.specs.Routes.{Route}
use Rattle.best_path.specs.declared.candidate.Candidate.{Candidate}
use Rattle.best_path.specs.Keys.{candidate_of}
use Rattle.decision.specs.declared.lineup.Lineup.{Lineup}
use Rattle.decision.specs.Branches.{AllRows}

-- the row of each branch at a prefix
abbrev pub at_prefix : AllRows → AddressPrefix → ℕ → Option Route
at_prefix rows p b = rows b p

-- the same, but this row of one branch
abbrev pub with_own : ℕ → Option Route → (ℕ → Option Route) → ℕ → Option Route
with_own branch own here b = if b == branch then own else here b

-- the routes of the branches below n
abbrev pub routes_of : ℕ → (ℕ → Option Route) → List Route
routes_of n here = filter_map here (range_with_len 0 n)

-- the row of the branch that was chosen, if one was
abbrev pub chosen : (ℕ → Option Route) → Option ℕ → Option Route
chosen here winner = option_and_then here winner

abbrev pub candidate_at : Option Route → Option Candidate
candidate_at row = option_map candidate_of row

-- the number of a branch that has this row, if it is one
abbrev pub number_at : Option Route → ℕ → Option ℕ
number_at row b = option_map (λ _. b) row

-- its candidate
abbrev pub key_at : Option Route → ℕ → Option Candidate
key_at row b = candidate_at row

-- what is made of the rows of so many branches from one on, in their order
abbrev pub made_from : {X : Type 0} → (Option Route → ℕ → Option X) → (ℕ → Option Route) → ℕ → ℕ → List X
made_from make here a n = filter_map (λ b. make (here b) b) (range_with_len a n)

-- the line has the candidates of all branches that have a row, and the numbers of these, in the order of branches
pub record IsLine (here : ℕ → Option Route) (line : Lineup) : Type 0 where
  pub keys : made_from key_at here 0 65 ≡ line.candidates.items
  pub numbers : made_from number_at here 0 65 ≡ line.branches.items

-- it has those of all branches but one, whose own would stand behind those of the branches before it
pub record Parts (branch : ℕ) (here : ℕ → Option Route) (line : Lineup) (place : ℕ) : Type 0 where
  pub lined : IsLine (with_own branch None here) line
  pub behind : place ≡ length (made_from number_at here 0 branch)

-- it has those of some rows, of which this is the branch's own
pub record InLine (branch : ℕ) (own : Option Route) (line : Lineup) : Type 0 where
  pub here : ℕ → Option Route
  pub lined : IsLine (with_own branch own here) line
