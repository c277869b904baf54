-- What the parts of a turn make of a chain, as the code knows it. The chain is seen as v, and known as m.
use Rattle.std.proofs.Common.{◌≡◌, ◌≢◌, ℕ, List, [], Option, Some, None, refl, sym, ap, subst, ◌∙◌}
use Rattle.std.specs.Option.{ForSome}
use Rattle.bgp_attr.specs.Attributes.{Attrs}
use Rattle.bgp_attr.specs.Routes.{Route}
use Rattle.link_change.specs.Rows.{Rows, Candidates}
use Rattle.link_change.specs.Turns.{taken_turn}
use Rattle.link_change.specs.Changes.{Change}
use Rattle.link_change.specs.Turns.{Turn}
use Rattle.link_change.specs.declared.turn.Turn.TheVariants.{Nothing, Quiet, Sent}
use Rattle.policy_rules.specs.Rules.{Rule}
use Rattle.pass_core.specs.Passed.{Passed}
use Rattle.pass_core.specs.Turns.{IsPassedOn, Walks, IsWalked}
use Rattle.peer_out.specs.Forms.{Exit}
use Rattle.peer_out.specs.Changes.{MayBeHeard, IsSentOf}
use Rattle.fanout_queue.specs.Queues.{Queued, Takes}
use Rattle.fanout_queue.specs.Readers.{unread_by, KeepsOtherReaders}
use Rattle.fanout_queue.proofs.LeadLemmas.{take_keeps_others}
use Rattle.journal_text.specs.Journals.{Journaled, with_lines, with_entries}
use Rattle.out_chain.specs.Chains.{OutChained, made_by, IsOutChain, RowsMayBeHeard, ChangesMayBeHeard, OutStands}
use Rattle.out_chain.specs.Steps.{with_sent, with_filter, read_entries, said_of, IsTold, PassesOut, WalksOut, IsWalkedOut, IsOutTurn}
use Rattle.out_chain.proofs.SaidLemmas.{passed_sayable, walked_sayable}
use Rattle.out_chain.proofs.TurnLemmas.{said_on, said_nothing, said_none, was_first, reads_first, turned_out, walked_out, turn_stands}

told_as : (exit : Exit) (sent : Change Attrs) → IsTold exit sent → ForSome (Some sent) (IsTold exit)
told_as exit sent told x is = let at : sent ≡ x = cc in subst (IsTold exit) at told

module _ (m v : OutChained) (same : v ≡ m) where
  -- ---- a change that the reader took
  module _ (change : Change Route) (made : Option (Change Attrs)) (passed : IsPassedOn (made_by v) v.filter change made) where
    passed_on : (sent : Option (Change Attrs)) → made ≡ sent → IsPassedOn (made_by m) m.filter change sent
    passed_on sent is = subst (IsPassedOn (made_by m) m.filter change) is (subst (λ (c : OutChained). IsPassedOn (made_by c) c.filter change made) same passed)

    pub passed_may_be_said : (sent : Change Attrs) → made ≡ Some sent → IsOutChain m → change.after ≢ change.before → ForSome change.after (λ r. MayBeHeard m.exit.profile r.attrs)
        → ForSome sent.after (IsSentOf m.exit.profile m.exit.external sent.prefix)
    passed_may_be_said sent is chain differs heard = passed_sayable m change sent chain.sender differs heard (passed_on (Some sent) is)

    -- the change is read, and nothing is sent,
    pub passes_none : (before now : Journaled) → ((sent : Change Attrs) → made ≢ Some sent) → now ≡ with_entries before (read_entries v change) → PassesOut m m change made before now
    passes_none before now none lines = by_made made refl none
      where
        by_made : (o : Option (Change Attrs)) → made ≡ o → ((sent : Change Attrs) → o ≢ Some sent) → PassesOut m m change o before now
        by_made None is none = record {
          filters = passed_on None is;
          after = refl;
          lines = said_nothing before now m (read_entries m change) (lines ∙ ap (λ (c : OutChained). with_entries before (read_entries c change)) same);
          told = λ x there. absurd (cc);
        }
        by_made (Some sent) is none = absurd (none sent refl)

    -- or a change is, and said
    pub passes_some : (new : OutChained) (sent : Change Attrs) (before mid now : Journaled) → made ≡ Some sent → mid ≡ with_entries before (read_entries v change)
        → new ≡ with_sent m (Some sent) → now ≡ with_lines mid (said_of m [] (Some sent)) → IsTold m.exit sent → PassesOut m new change made before now
    passes_some new sent before mid now is mid_is new_is now_is told = subst (λ (s : Option (Change Attrs)). PassesOut m new change s before now) (sym is) (record {
      filters = passed_on (Some sent) is;
      after = new_is;
      lines = said_on before mid now m (read_entries m change) (Some sent) (mid_is ∙ ap (λ (c : OutChained). with_entries before (read_entries c change)) same) now_is;
      told = told_as m.exit sent told;
    })

  -- ---- a turn of the walk
  module _ (filter : Passed (Option (List Rule))) (candidates : Candidates) (upper : Rows Route) (turn : Turn Attrs) (walked : IsWalked (made_by v) candidates upper v.filter filter turn) where
    walks_of : (sent : Change Attrs) → turn ≡ Sent sent → Walks (made_by v) candidates upper v.filter filter (Some sent)
    walks_of sent is = subst (IsWalked (made_by v) candidates upper v.filter filter) is walked

    pub walked_may_be_said : (sent : Change Attrs) → turn ≡ Sent sent → IsOutChain m → RowsMayBeHeard m.exit.profile upper → ForSome sent.after (IsSentOf v.exit.profile v.exit.external sent.prefix)
    walked_may_be_said sent is chain heard =
        walked_sayable v filter candidates upper sent (subst IsOutChain (sym same) chain).sender (subst (λ (c : OutChained). RowsMayBeHeard c.exit.profile upper) (sym same) heard) (walks_of sent is)

    pub walks_some : (new : OutChained) (sent : Change Attrs) (before now : Journaled) → turn ≡ Sent sent
        → new ≡ with_sent (with_filter v filter) (Some sent) → now ≡ with_lines before (said_of (with_filter v filter) [] (Some sent)) → IsTold v.exit sent
        → IsWalkedOut m new candidates upper before now turn
    walks_some new sent before now is new_is now_is told =
        let f : filter ≡ new.filter = sym (ap (λ (c : OutChained). c.filter) new_is) in
        subst (IsWalkedOut m new candidates upper before now) (sym is)
        (subst (λ (c : OutChained). WalksOut c new candidates upper (Some sent) before now) same
        (record {
          walks = subst (λ (g : Passed (Option (List Rule))). Walks (made_by v) candidates upper v.filter g (Some sent)) f (walks_of sent is);
          after = new_is ∙ ap (λ (g : Passed (Option (List Rule))). with_sent (with_filter v g) (Some sent)) f;
          lines = now_is;
          told = told_as v.exit sent told;
        }))

    -- nothing is said
    pub walks_none : (journal : Journaled) → ((sent : Change Attrs) → turn ≢ Sent sent) → IsWalkedOut m (with_filter v filter) candidates upper journal journal turn
    walks_none journal other = subst (λ (c : OutChained). IsWalkedOut c (with_filter v filter) candidates upper journal journal turn) same (by_turn turn other walked)
      where
        by_turn : (t : Turn Attrs) → ((sent : Change Attrs) → t ≢ Sent sent) → IsWalked (made_by v) candidates upper v.filter filter t → IsWalkedOut v (with_filter v filter) candidates upper journal journal t
        by_turn Nothing other is = (is.0, ap (with_filter v) is.1, refl)
        by_turn Quiet other is = record { walks = is; after = refl; lines = said_none journal v; told = λ x none. absurd (cc) }
        by_turn (Sent sent) other is = absurd (other sent refl)

-- ---- a whole turn

-- the chain with another number of its reader
abbrev pub with_reader : OutChained → ℕ → OutChained
with_reader v reader = record v { reader = reader }

module _ (m v : OutChained) (same : v ≡ m) (reader : ℕ) (lent : reader ≡ v.reader) (queued left : Queued Route) (result : Option (Change Route)) (takes : Takes queued left v.reader result) where
  takes_of : (r : Option (Change Route)) → result ≡ r → Takes queued left m.reader r
  takes_of r is = subst (λ (c : OutChained). Takes queued left c.reader r) same (subst (Takes queued left v.reader) is takes)

  as_known : with_reader v reader ≡ m
  as_known = ap (with_reader v) lent ∙ same

  pub first_may_be_heard : (change : Change Route) → result ≡ Some change → ChangesMayBeHeard m.exit.profile (unread_by queued m.reader) → ForSome change.after (λ r. MayBeHeard v.exit.profile r.attrs)
  first_may_be_heard change is heard =
      subst (λ (c : OutChained). ForSome change.after (λ r. MayBeHeard c.exit.profile r.attrs)) (sym same)
      (subst (ChangesMayBeHeard m.exit.profile) (was_first queued left m.reader change (takes_of (Some change) is)) heard).0

  pub rows_may_be_heard : (best : Rows Route) → RowsMayBeHeard m.exit.profile best → RowsMayBeHeard v.exit.profile best
  rows_may_be_heard best heard = subst (λ (c : OutChained). RowsMayBeHeard c.exit.profile best) (sym same) heard

  pub others_keep : KeepsOtherReaders m.reader queued left
  others_keep = take_keeps_others queued left m.reader result (takes_of result refl)

  module _ (new : OutChained) (candidates : Candidates) (best : Rows Route) (before now : Journaled) (stands : OutStands m queued best) where
    pub reads_a_change : (change : Change Route) (sent : Option (Change Attrs)) (turn : Turn Attrs) → result ≡ Some change → PassesOut (with_reader v reader) new change sent before now → turn ≡ taken_turn sent
        → IsOutTurn m new queued left candidates best before now turn
    reads_a_change change sent turn is passes turn_is =
        subst (IsOutTurn m new queued left candidates best before now) (sym turn_is)
        (turned_out m queued left candidates best new sent before now
        (reads_first m queued left candidates best new change sent before now (takes_of (Some change) is) stands.leads stands.exact
        (subst (λ (c : OutChained). PassesOut c new change sent before now) as_known passes)))

    pub walks_a_turn : (turn : Turn Attrs) → result ≡ None → IsWalkedOut (with_reader v reader) new candidates best before now turn → IsOutTurn m new queued left candidates best before now turn
    walks_a_turn turn is walks =
        walked_out m queued left candidates best new before now turn (takes_of None is) stands.exact
        (subst (λ (c : OutChained). IsWalkedOut c new candidates best before now turn) as_known walks)

    pub still_stands : (turn : Turn Attrs) → IsOutTurn m new queued left candidates best before now turn → OutStands new left best
    still_stands turn is = turn_stands m queued left candidates best new before now turn is stands
