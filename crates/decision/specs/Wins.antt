-- Whose row is the best before a change of one branch's row, and after it.
use Rattle.std.specs.Prelude.{◌≡◌, ℕ, Option, MatchOption}
use Rattle.link_change.specs.Changes.{Change}
use Rattle.bgp_attr.specs.Routes.{Route}
use Rattle.best_path.specs.Steps.{pick}
use Rattle.decision.specs.declared.winners.Winners.{Winners}
use Rattle.decision.specs.Lineups.{with_own, routes_of, chosen}

-- where one branch has this row, this is the one whose row is the best
abbrev pub WinsWith : ℕ → (ℕ → Option Route) → Option Route → Option ℕ → Type 0
WinsWith branch here own winner = chosen (with_own branch own here) winner ≡ pick (routes_of 65 (with_own branch own here))

-- no other branch has a row: whatever the branch has is the best
abbrev pub StandsAlone : ℕ → (ℕ → Option Route) → Type 0
StandsAlone branch here = (own : Option Route) → own ≡ pick (routes_of 65 (with_own branch own here))

-- these have the best row before a branch's change and after it
pub record WinBoth (branch : ℕ) (here : ℕ → Option Route) (change : Change Route) (winners : Winners) : Type 0 where
  pub former : WinsWith branch here change.before winners.former
  pub latter : WinsWith branch here change.after winners.latter

-- the same, but nobody where no other branch has a row
abbrev pub Win : ℕ → (ℕ → Option Route) → Change Route → Option Winners → Type 0
Win branch here change winners = MatchOption winners (StandsAlone branch here) (WinBoth branch here change)
