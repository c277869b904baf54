-- Laws of the exits: their steps leave no choice. What was sent, what stands afterwards and what is said are one.
use Rattle.std.specs.Prelude.{◌≡◌, ◌≢◌, ℕ, true, List, Option, Some, None}
use Rattle.std.specs.FinMap as tables
use Rattle.bgp_attr.specs.Attributes.{Attrs}
use Rattle.bgp_attr.specs.Routes.{Route}
use Rattle.bgp_attr.specs.Speakers.{Speaker}
use Rattle.bgp_attr.specs.declared.speaker.Neighbour.{Neighbour}
use Rattle.link_change.specs.Rows.{Rows, Candidates}
use Rattle.link_change.specs.Changes.{Change}
use Rattle.policy_rules.specs.Rules.{Rule}
use Rattle.fanout_queue.specs.Queues.{Queued, AppendsToAll, Takes, AllBelowRead}
use Rattle.fanout_queue.specs.Readers.{unread_by}
use Rattle.journal_text.specs.Lines.{Line}
use Rattle.journal_text.specs.Lines.{Entry}
use Rattle.journal_text.specs.Lines.{Value}
use Rattle.journal_text.specs.Journals.{Journaled}
use Rattle.out_chain.specs.Chains.{OutChained, is_unread}
use Rattle.out_chain.specs.Steps.{PassesOut, WalksOut, TurnsOut, Resends}
use Rattle.exit_side.specs.Exits.{Exited, has_exit_work, has_refresh}
use Rattle.exit_side.specs.Steps.{BeginsExit, EndsExit, EditsExit, PutsExit, TurnsExit, ResendsExit}

-- ---- the queue
module _ (R : Type 0) where
  -- What a change that is put makes of the queue is one.
  abbrev pub AppendedIsOne : Type 0
  AppendedIsOne = (change : Change R) (old new now : Queued R) → AppendsToAll change old new → AppendsToAll change old now → new ≡ now

  -- What a reader takes, if anything, is one, and so is what is left.
  abbrev pub TakenIsOne : Type 0
  TakenIsOne =
      (old new now : Queued R) (reader : ℕ) (one other : Option (Change R)) → Takes old new reader one → Takes old now reader other → (one ≡ other) × (new ≡ now)

  -- The least number that no reader has is one.
  abbrev pub ReaderIsOne : Type 0
  ReaderIsOne =
      (queue : Queued R) (one other : ℕ) → tables.get queue one ≡ None → AllBelowRead queue one → tables.get queue other ≡ None → AllBelowRead queue other → one ≡ other

-- Who takes a change had one that it hadn't taken.
abbrev pub TakenIsUnread : Type 0
TakenIsUnread = (old new : Queued Route) (reader : ℕ) (change : Change Route) → Takes old new reader (Some change) → is_unread (unread_by old reader) ≡ true

-- ---- the chain of a session
-- What the filter passes on of a change that differs from what stood there is one, and so are the chain and the lines then,
abbrev pub PassedOutIsOne : Type 0
PassedOutIsOne =
    (old new now : OutChained) (change : Change Route) (one other : Option (Change Attrs)) (before j k : Journaled) → change.after ≢ change.before
    → PassesOut old new change one before j → PassesOut old now change other before k → (one ≡ other) × (new ≡ now) × (j ≡ k)

-- and those of a turn of the walk,
abbrev pub WalkedOutIsOne : Type 0
WalkedOutIsOne =
    (old new now : OutChained) (candidates : Candidates) (upper : Rows Route) (one other : Option (Change Attrs)) (before j k : Journaled)
    → WalksOut old new candidates upper one before j → WalksOut old now candidates upper other before k → (one ≡ other) × (new ≡ now) × (j ≡ k)

-- and of a turn of the session's task, over one queue, with what is left of it.
abbrev pub TurnOutIsOne : Type 0
TurnOutIsOne =
    (old new now : OutChained) (queued left rest : Queued Route) (candidates : Candidates) (best : Rows Route) (one other : Option (Change Attrs)) (said heard : List Line)
    → (first : TurnsOut old new queued left candidates best one said) → (second : TurnsOut old now queued rest candidates best other heard)
    → (one ≡ other) × (new ≡ now) × (left ≡ rest) × (first.entries ≡ second.entries) × (said ≡ heard)

-- What the walk of a refresh says once more is one.
abbrev pub ResentIsOne : Type 0
ResentIsOne = (old new now : OutChained) (said heard : List Line) → Resends old new said → Resends old now heard → (new ≡ now) × (said ≡ heard)

-- ---- the exits
-- So it is with the exits of all peers: where a session begins,
abbrev pub BeginningIsOne : Type 0
BeginningIsOne =
    (me : Speaker) (peer : Neighbour) (session : ℕ) (rules : List Rule) (e new now : Exited) (entries others : List (Entry Value))
    → BeginsExit me peer session rules e new entries → BeginsExit me peer session rules e now others → (new ≡ now) × (entries ≡ others)

-- where one ends,
abbrev pub EndIsOne : Type 0
EndIsOne = (j : ℕ) (e new now : Exited) (entries others : List (Entry Value)) → EndsExit j e new entries → EndsExit j e now others → (new ≡ now) × (entries ≡ others)

-- where rules are edited,
abbrev pub EditIsOne : Type 0
EditIsOne = (j : ℕ) (rules : List Rule) (e new now : Exited) → EditsExit j rules e new → EditsExit j rules e now → new ≡ now

-- where a change of `best` joins the queue,
abbrev pub PutIsOne : Type 0
PutIsOne = (change : Change Route) (e new now : Exited) → PutsExit change e new → PutsExit change e now → new ≡ now

-- in a turn of a peer's exit,
abbrev pub TurnIsOne : Type 0
TurnIsOne =
    (j : ℕ) (candidates : Candidates) (best : Rows Route) (one other : Option (Change Attrs)) (e new now : Exited) (said heard : List Line)
    → TurnsExit j candidates best one e new said → TurnsExit j candidates best other e now heard → (one ≡ other) × (new ≡ now) × (said ≡ heard)

-- and in one of the walk of its refresh.
abbrev pub ResendIsOne : Type 0
ResendIsOne = (j : ℕ) (e new now : Exited) (said heard : List Line) → ResendsExit j e new said → ResendsExit j e now heard → (new ≡ now) × (said ≡ heard)

-- ---- work
-- Only a task with work takes a turn: that of a peer's exit,
abbrev pub TurnHasWork : Type 0
TurnHasWork =
    (j : ℕ) (candidates : Candidates) (best : Rows Route) (sent : Option (Change Attrs)) (e e' : Exited) (said : List Line)
    → TurnsExit j candidates best sent e e' said → has_exit_work e j ≡ true

-- and that of its refresh.
abbrev pub ResendHasWork : Type 0
ResendHasWork = (j : ℕ) (e e' : Exited) (said : List Line) → ResendsExit j e e' said → has_refresh e j ≡ true
