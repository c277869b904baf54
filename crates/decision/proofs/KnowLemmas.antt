-- What is known of the branches, through a change of one branch's row.
use Rattle.std.proofs.Common.{◌≡◌, ◌≢◌, ℕ, ◌<◌, if◌then◌else◌, cond, Option, Some, None, refl, sym, ◌∙◌, ap, subst}
use Rattle.std.specs.Prelude.{MatchOption}
use Rattle.std.specs.FinMap as tables
use Rattle.std.specs.FinMap.{FinMap}
use Rattle.addr4.specs.Prefixes.{AddressPrefix, prefix_cmp}
use Rattle.addr4.proofs.PrefixOrder.{by_prefix}
use Rattle.link_change.specs.Rows.{Rows, Candidates}
use Rattle.link_change.specs.Changes.{IsSent}
use Rattle.link_change.specs.Changes.{Change}
use Rattle.link_change.proofs.RowLemmas.{same_function, with_row_here}
use Rattle.bgp_attr.specs.Routes.{Route}
use Rattle.best_path.specs.Steps.{pick}
use Rattle.decision.specs.declared.lineup.Lineup.{Lineup}
use Rattle.decision.specs.Branches.{AllRows, OthersStay, best_rows}
use Rattle.decision.specs.Lineups.{IsLine, at_prefix, with_own, routes_of, chosen, number_at}
use Rattle.decision.specs.Wins.{StandsAlone}
use Rattle.decision.specs.Contests.{Contest, IsContest, KnowsAt, Knows, KnowsBefore, OnlyWinner, HasNoOther, Updated, winner_in, won_rows, counted, CountsAt, Counts, CoversAt}
use Rattle.decision.proofs.LineupLemmas.{by_number, own_at, own_elsewhere, routes_none}
use Rattle.decision.proofs.BestLemmas.{best_is}
use Rattle.decision.proofs.Parts.{alone_best}
use Rattle.decision.proofs.Kept.{at_each}

module _ (branch : ℕ) (before now : AllRows) (change : Change Route) (stay : OthersStay branch before now) (sent : IsSent (before branch) (now branch) change.prefix (Some change)) where
  -- the rows at the prefix of a change, before it
  pub rows_before : at_prefix before change.prefix ≡ with_own branch change.before (at_prefix now change.prefix)
  rows_before = same_function _ _ (λ b.
      by_number b branch (λ t. before b change.prefix ≡ (if t then change.before else now b change.prefix))
      (λ same. ap (λ n. before n change.prefix) same ∙ sent.1.0) (λ differ. ap (λ (r : Rows Route). r change.prefix) (stay b differ)))

  -- and after it
  pub rows_after : at_prefix now change.prefix ≡ with_own branch change.after (at_prefix now change.prefix)
  rows_after = same_function _ _ (λ b.
      by_number b branch (λ t. now b change.prefix ≡ (if t then change.after else now b change.prefix))
      (λ same. ap (λ n. now n change.prefix) same ∙ ap (λ (r : Rows Route). r change.prefix) sent.2 ∙ with_row_here (before branch) change.prefix change.after)
      (λ differ. refl))

  -- those at any other prefix stay
  pub rows_elsewhere : (q : AddressPrefix) → q ≢ change.prefix → at_prefix before q ≡ at_prefix now q
  rows_elsewhere q apart = same_function _ _ (λ b.
      by_number b branch (λ t. before b q ≡ now b q)
      (λ same. ap (λ n. before n q) same
      ∙ sym (ap (λ (r : Rows Route). r q) sent.2 ∙ by_prefix q change.prefix (λ t. cond t change.after (before branch q) ≡ before branch q) (λ e. absurd (apart e)) (λ _. refl))
      ∙ sym (ap (λ n. now n q) same))
      (λ differ. ap (λ (r : Rows Route). r q) (stay b differ)))

-- where nothing is known no branch has a row
pub knows_nothing : (contests : FinMap prefix_cmp Contest) → ((q : AddressPrefix) → tables.get contests q ≡ None) → (rows : AllRows)
    → ((b : ℕ) (q : AddressPrefix) → b < 65 → rows b q ≡ None) → Knows contests rows
knows_nothing contests nothing rows none q = subst (KnowsAt (at_prefix rows q)) (sym (nothing q)) (λ b below. none b q below)

-- whose row is the best
pub knows_best : (rows : AllRows) (q : AddressPrefix) (known : Option Contest) → KnowsAt (at_prefix rows q) known
    → chosen (at_prefix rows q) (winner_in known) ≡ best_rows rows q
knows_best rows q None h = sym (best_is rows q ∙ ap pick (routes_none 65 (at_prefix rows q) h))
knows_best rows q (Some c) h = h.best ∙ sym (best_is rows q)

-- the rows of the winners are the best rows
pub won_is_best : (contests : FinMap prefix_cmp Contest) (rows : AllRows) → Knows contests rows → won_rows contests rows ≡ best_rows rows
won_is_best contests rows knows = same_function _ _ (λ q. knows_best rows q (tables.get contests q) (knows q))

-- ---- one branch alone
own_best : (branch : ℕ) (here : ℕ → Option Route) (row : Option Route) → StandsAlone branch here → chosen (with_own branch row here) (number_at row branch) ≡ pick (routes_of 65 (with_own branch row here))
own_best branch here None alone = alone None
own_best branch here (Some r) alone = own_at branch (Some r) here branch refl ∙ alone (Some r)

alone_only : (branch : ℕ) (here : ℕ → Option Route) (row : Option Route) → ((b : ℕ) → b < 65 → b ≢ branch → here b ≡ None) → OnlyWinner (with_own branch row here) (number_at row branch)
alone_only branch here None none b below other =
    by_number b branch (λ t. with_own branch None here b ≡ None) (λ same. own_at branch None here b same) (λ differ. own_elsewhere branch None here b differ ∙ none b below differ)
alone_only branch here (Some r) none b below other =
    by_number b branch (λ t. with_own branch (Some r) here b ≡ None) (λ same. absurd (other (ap Some (sym same)))) (λ differ. own_elsewhere branch (Some r) here b differ ∙ none b below differ)

-- its row is the best, and no other branch has one
pub alone_contest : (branch : ℕ) (here : ℕ → Option Route) (row : Option Route) (contest : Contest) → branch < 65 → HasNoOther branch here → contest.winner ≡ number_at row branch
    → contest.line ≡ None → IsContest (with_own branch row here) contest
alone_contest branch here row contest small none is bare = record {
  best = ap (chosen (with_own branch row here)) is ∙ own_best branch here row (alone_best branch here small none);
  others = subst (λ l. MatchOption l (OnlyWinner (with_own branch row here) contest.winner) (IsLine (with_own branch row here))) (sym bare)
      (subst (OnlyWinner (with_own branch row here)) (sym is) (alone_only branch here row none));
}

-- of a contest without a line, and of one with a line
pub only_winner : (here : ℕ → Option Route) (contest : Contest) → contest.line ≡ None → IsContest here contest → OnlyWinner here contest.winner
only_winner here contest bare h = subst (λ l. MatchOption l (OnlyWinner here contest.winner) (IsLine here)) bare h.others

pub its_line : (here : ℕ → Option Route) (contest : Contest) (line : Lineup) → contest.line ≡ Some line → IsContest here contest → IsLine here line
its_line here contest line has h = subst (λ l. MatchOption l (OnlyWinner here contest.winner) (IsLine here)) has h.others

-- before the change it is known at its prefix
pub known_standing : (branch : ℕ) (contests : FinMap prefix_cmp Contest) (now : AllRows) (change : Change Route) (standing : Contest) → KnowsBefore branch contests now change
    → tables.get contests change.prefix ≡ Some standing → IsContest (with_own branch change.before (at_prefix now change.prefix)) standing
known_standing branch contests now change standing k is =
    subst (λ h. IsContest h standing) (rows_before branch k.before now change k.stay k.sent)
    (subst (KnowsAt (at_prefix k.before change.prefix)) is (k.knows change.prefix))

-- and where it is known there after it, and the rest stays, it is known everywhere
pub knows_in_place : (branch : ℕ) (contests new : FinMap prefix_cmp Contest) (now : AllRows) (change : Change Route) (contest : Contest) → KnowsBefore branch contests now change
    → Updated contests new change.prefix (Some contest)
    → IsContest (with_own branch change.after (at_prefix now change.prefix)) contest → Knows new now
knows_in_place branch contests new now change contest k u c = λ q.
    let p = change.prefix in
    at_each contests new p (Some contest) u q (KnowsAt (at_prefix now q))
    (λ same. subst (λ r. IsContest (at_prefix now r) contest) (sym same) (subst (λ h. IsContest h contest) (sym (rows_after branch k.before now change k.stay k.sent)) c))
    (λ apart. subst (λ h. KnowsAt h (tables.get contests q)) (rows_elsewhere branch k.before now change k.stay k.sent q apart) (k.knows q))

-- ---- what a change of another thing than rows leaves
with_same : (here : ℕ → Option Route) (old new : Contest) → new.winner ≡ old.winner → new.line ≡ old.line → IsContest here old → IsContest here new
with_same here old new winner line h = record {
  best = ap (chosen here) winner ∙ h.best;
  others = subst (λ l. MatchOption l (OnlyWinner here new.winner) (IsLine here)) (sym line) (subst (λ w. MatchOption old.line (OnlyWinner here w) (IsLine here)) (sym winner) h.others);
}

-- no branch has a row where nothing was known
pub nobody_contest : (here : ℕ → Option Route) (contest : Contest) → contest.winner ≡ None → contest.line ≡ None → ((b : ℕ) → b < 65 → here b ≡ None) → IsContest here contest
nobody_contest here contest winner line none = with_same here (record { walkers = 0; winner = None; line = None }) contest winner line
    (record { best = sym (ap pick (routes_none 65 here none)); others = λ b below _. none b below })

-- the rows stay known where the winner and the line stay
pub stays_knows : (contests new : FinMap prefix_cmp Contest) (p : AddressPrefix) (old contest : Contest) → tables.get contests p ≡ Some old → contest.winner ≡ old.winner
    → contest.line ≡ old.line → Updated contests new p (Some contest) → (rows : AllRows) → Knows contests rows → Knows new rows
stays_knows contests new p old contest at winner line u rows knows = λ q.
    at_each contests new p (Some contest) u q (KnowsAt (at_prefix rows q))
    (λ same. subst (λ r. IsContest (at_prefix rows r) contest) (sym same) (with_same (at_prefix rows p) old contest winner line (subst (KnowsAt (at_prefix rows p)) at (knows p))))
    (λ apart. knows q)

-- where nothing was known nobody has a row, and so it is known
pub enters_knows : (contests new : FinMap prefix_cmp Contest) (p : AddressPrefix) (contest : Contest) → tables.get contests p ≡ None → contest.winner ≡ None → contest.line ≡ None
    → Updated contests new p (Some contest) → (rows : AllRows) → Knows contests rows → Knows new rows
enters_knows contests new p contest at winner line u rows knows = λ q.
    at_each contests new p (Some contest) u q (KnowsAt (at_prefix rows q))
    (λ same. subst (λ r. IsContest (at_prefix rows r) contest) (sym same) (nobody_contest (at_prefix rows p) contest winner line (subst (KnowsAt (at_prefix rows p)) at (knows p))))
    (λ apart. knows q)

-- nothing is known any more where no branch has a candidate, and so none a row
pub gone_knows : (contests new : FinMap prefix_cmp Contest) (p : AddressPrefix) → Updated contests new p None → (rows : AllRows) (candidates : ℕ → Candidates)
    → Counts new candidates → CoversAt candidates rows p → Knows contests rows → Knows new rows
gone_knows contests new p u rows candidates counts covers knows = λ q.
    at_each contests new p None u q (KnowsAt (at_prefix rows q))
    (λ same. subst (λ r. (b : ℕ) → b < 65 → rows b r ≡ None) (sym same) (covers (none_counted (counted candidates p) (tables.get new p) u.at (counts p))))
    (λ apart. knows q)
  where
    none_counted : (n : ℕ) (known : Option Contest) → known ≡ None → CountsAt n known → n ≡ 0
    none_counted n None e h = sym h.walkers
    none_counted n (Some c) e h = absurd (let f : Some c ≡ None = e in cc)
