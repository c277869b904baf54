-- Laws of chains, for the crates above.
use Rattle.std.specs.Prelude.{◌≡◌, ◌≢◌, ℕ, ◌+◌, ◌*◌, ◌<◌, ◌≤◌, is_some, IsSome, true, false, Option, Some, None, List, length}
use Rattle.std.specs.List.{Contains}
use Rattle.std.specs.FinMap as tables
use Rattle.std.specs.FinMap.{FinMap}
use Rattle.addr4.specs.Prefixes.{AddressPrefix, prefix_cmp}
use Rattle.bgp_attr.specs.Attributes.{Attrs}
use Rattle.bgp_attr.specs.Routes.{Route}
use Rattle.bgp_attr.specs.Speakers.{Speaker}
use Rattle.bgp_attr.specs.declared.speaker.Neighbour.{Neighbour}
use Rattle.link_change.specs.Rows.{Candidates, CoversRows}
use Rattle.link_change.specs.Changes.{Change}
use Rattle.policy_rules.specs.Rules.{Rule}
use Rattle.pass_core.specs.Left.{CountsBeyond}
use Rattle.journal_text.specs.Lines.{Entry}
use Rattle.journal_text.specs.declared.link.Task.{Task}
use Rattle.journal_text.specs.declared.link.Task.TheVariants.{Del, Fin}
use Rattle.journal_text.specs.Lines.{Value}
use Rattle.loss_chain.specs.Steps.{table_of}
use Rattle.in_chain.specs.Chains.{Chained, filt_rows, filt_candidates, filt_beyond, row_count, turns_left, IsChain}
use Rattle.in_chain.specs.Steps.{new_chain, fed, lost, welded, swept, refiltered, Sweeps, Rewalks, Turned, FindsNextLost}

-- A filter's walk, and that of rules which wait, take together at most two turns more than twice the rows of `in.K`.
abbrev pub TurnsAreBounded : Type 0
TurnsAreBounded = (c : Chained) → turns_left c ≤ 2 * (row_count c + 1)

-- No turn is left where no walk is on, and some where one is.
abbrev pub TurnsAreLeft : Type 0
TurnsAreLeft = (c : Chained) → (is_some c.filter.walk ≡ true → 0 < turns_left c) × (is_some c.filter.walk ≡ false → turns_left c ≡ 0)

-- The rows of `in.K` beyond a place count the candidates of `filt.K` there, and beyond none lie no more than there are.
abbrev pub CandidatesAreCounted : Type 0
CandidatesAreCounted = (c : Chained) → CountsBeyond (filt_candidates c) (filt_beyond c) × (filt_beyond c None ≤ row_count c)

-- The rows of `filt.K` stand at no more prefixes than `in.K` has rows.
abbrev pub FilteredRowsAreFew : Type 0
FilteredRowsAreFew = (c : Chained) → (prefixes : List AddressPrefix) × (length prefixes ≤ row_count c) × ((q : AddressPrefix) → IsSome (filt_rows c q) → Contains prefixes q)

-- ---- where candidates of `filt.K` are: at the rows of `in.K`, those of the lost tables included

-- Every row of `filt.K` stands at a candidate,
abbrev pub CandidatesCoverRows : Type 0
CandidatesCoverRows = (c : Chained) → CoversRows (filt_candidates c) (filt_rows c)

-- and a new chain has none.
abbrev pub NoCandidateAtFirst : Type 0
NoCandidateAtFirst = (me : Speaker) (peer : Neighbour) (q : AddressPrefix) → filt_candidates (new_chain me peer) q ≡ false

-- A feed keeps them at every other prefix.
abbrev pub FeedsKeepOthers : Type 0
FeedsKeepOthers = (c : Chained) (p : AddressPrefix) (row : Option Attrs) (q : AddressPrefix) → q ≢ p → filt_candidates (fed c p row) q ≡ filt_candidates c q

-- Welds, losses, edits of the rules and turns of the filter's walk keep them all.
abbrev pub WeldsKeepCandidates : Type 0
WeldsKeepCandidates = (c : Chained) → filt_candidates (welded c) ≡ filt_candidates c

abbrev pub LossesKeepCandidates : Type 0
LossesKeepCandidates = (session : ℕ) (c : Chained) → filt_candidates (lost session c) ≡ filt_candidates c

abbrev pub EditsKeepCandidates : Type 0
EditsKeepCandidates = (rules : List Rule) (c : Chained) → filt_candidates (refiltered rules c) ≡ filt_candidates c

abbrev pub WalksKeepCandidates : Type 0
WalksKeepCandidates = (old new : Chained) (sent : Option (Change Route)) (entries : List (Entry Value)) → Rewalks old new sent entries → filt_candidates new ≡ filt_candidates old

-- the prefix was a candidate and is none; at every other nothing changed
pub record TakesCandidate (p : AddressPrefix) (old new : Candidates) : Type 0 where
  pub stood : old p ≡ true
  pub gone : new p ≡ false
  pub others : (q : AddressPrefix) → q ≢ p → new q ≡ old q

-- the one at this prefix goes; none, where there is no prefix
abbrev pub TakesCandidateAt : Option AddressPrefix → Candidates → Candidates → Type 0
TakesCandidateAt None old new = new ≡ old
TakesCandidateAt (Some p) old new = TakesCandidate p old new

-- A row that leaves the lost table of a session takes its candidate with it.
abbrev pub SweptRowsTakeCandidates : Type 0
SweptRowsTakeCandidates =
    (c : Chained) (session : ℕ) (p : AddressPrefix) (table : FinMap prefix_cmp Attrs) (row : Attrs) → IsChain c
    → table_of session c.incoming.tables.deletions ≡ Some table → tables.get table p ≡ Some row
    → TakesCandidate p (filt_candidates c) (filt_candidates (swept session p c))

-- A turn of a stage takes the row that was found to be the next,
abbrev pub StagesTakeTheNext : Type 0
StagesTakeTheNext =
    (old new : Chained) (session : ℕ) (sent : Option (Change Route)) (entries : List (Entry Value)) (next : Option AddressPrefix)
    → FindsNextLost old (Del old.incoming.number session) next → (turn : Sweeps old new session sent entries) → next ≡ Some turn.prefix

-- and none is found for a turn of the filter's walk.
abbrev pub WalksHaveNoNext : Type 0
WalksHaveNoNext = (c : Chained) (k : ℕ) (next : Option AddressPrefix) → FindsNextLost c (Fin k) next → next ≡ None

-- So a turn that was taken takes the candidate that was found before it, and where none was found it keeps them all.
abbrev pub TurnsTakeTheNext : Type 0
TurnsTakeTheNext =
    (old new : Chained) (task : Task) (sent : Option (Change Route)) (entries : List (Entry Value)) (next : Option AddressPrefix) → IsChain old
    → FindsNextLost old task next → Turned old new task sent entries
    → TakesCandidateAt next (filt_candidates old) (filt_candidates new)
