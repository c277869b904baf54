-- A step of the exits leaves no choice, and only a task with work takes a turn.
use Rattle.std.proofs.Common.{◌≡◌, ◌⊎◌, inl, inr, ℕ, true, ◌||◌, is_some, List, [], Option, sym, ap, subst, ◌∙◌}
use Rattle.std.specs.FinMap as tables
use Rattle.std.proofs.lemmas.Option.{same_Some}
use Rattle.bgp_attr.specs.Attributes.{Attrs}
use Rattle.bgp_attr.specs.Routes.{Route}
use Rattle.link_change.specs.Rows.{Rows, Candidates}
use Rattle.link_change.specs.Changes.{Change}
use Rattle.policy_rules.specs.Rules.{Rule}
use Rattle.pass_core.specs.Passed.{Walked}
use Rattle.fanout_queue.specs.Queues.{Queued}
use Rattle.fanout_queue.specs.Readers.{unread_or_none, unread_by}
use Rattle.journal_text.specs.Lines.{Value}
use Rattle.journal_text.specs.Lines.{Entry}
use Rattle.out_chain.specs.Chains.{OutChained, is_unread, has_out_work}
use Rattle.out_chain.specs.Steps.{exit_to, new_out, stop_entries, ReadsFirst, WalksNext, TurnsOut, Resends}
use Rattle.exit_side.specs.Exits.{with_queue, with_exit, without_exit, busy_by, refreshing}
use Rattle.exit_determinism.specs.Laws.{BeginningIsOne, EndIsOne, EditIsOne, PutIsOne, TurnIsOne, ResendIsOne, TurnHasWork, ResendHasWork}
use Rattle.exit_determinism.proofs.QueueLemmas.{appended_is_one, reader_is_one, taken_is_unread}
use Rattle.exit_determinism.proofs.ChainLemmas.{turn_out_is_one, resent_is_one}

pub beginning_is_one : BeginningIsOne
beginning_is_one me peer session rules e new now entries others first second =
    let reader : first.reader ≡ second.reader = reader_is_one e.queue first.reader second.reader first.fresh first.least second.fresh second.least in (
      first.after ∙ ap (λ (r : ℕ). with_exit peer.number (new_out (exit_to e.profile me peer) peer session r rules) (tables.insert e.queue r []) e) reader ∙ sym second.after,
      first.lines ∙ sym second.lines,
    )

pub end_is_one : EndIsOne
end_is_one j e new now entries others first second =
    let chain : first.chain ≡ second.chain = same_Some first.chain second.chain (sym first.at ∙ second.at) in (
      first.after ∙ ap (λ (c : OutChained). without_exit j (tables.remove e.queue c.reader) e) chain ∙ sym second.after,
      first.lines ∙ ap (λ (c : OutChained). stop_entries j c.session) chain ∙ sym second.lines,
    )

pub edit_is_one : EditIsOne
edit_is_one j rules e new now first second = first.after ∙ sym second.after

pub put_is_one : PutIsOne
put_is_one change e new now first second = first.after ∙ ap (λ (q : Queued Route). with_queue q e) (appended_is_one change e.queue new.queue now.queue first.appends second.appends) ∙ sym second.after

pub turn_is_one : TurnIsOne
turn_is_one j candidates best one other e new now said heard first second =
    let chain : second.chain ≡ first.chain = same_Some second.chain first.chain (sym second.at ∙ first.at) in
    let turn : TurnsOut first.chain second.taken e.queue now.queue candidates best other heard = subst (λ (c : OutChained). TurnsOut c second.taken e.queue now.queue candidates best other heard) chain second.turns in
    let same = turn_out_is_one first.chain first.taken second.taken e.queue new.queue now.queue candidates best one other said heard first.turns turn in (
      same.0,
      first.after ∙ ap (λ (c : OutChained). with_exit j c new.queue e) same.1 ∙ ap (λ (q : Queued Route). with_exit j second.taken q e) same.2 ∙ sym second.after,
      same.4,
    )

pub resend_is_one : ResendIsOne
resend_is_one j e new now said heard first second =
    let chain : second.chain ≡ first.chain = same_Some second.chain first.chain (sym second.there ∙ first.there) in
    let same = resent_is_one first.chain first.taken second.taken said heard first.resends (subst (λ (c : OutChained). Resends c second.taken heard) chain second.resends) in
    (first.after ∙ ap (λ (c : OutChained). with_exit j c e.queue e) same.0 ∙ sym second.after, same.1)

-- ---- work
-- whoever takes a change, or walks on, had work
turn_has_out_work : (old new : OutChained) (queued left : Queued Route) (candidates : Candidates) (best : Rows Route) (entries : List (Entry Value)) (sent : Option (Change Attrs))
    → ReadsFirst old new queued left best entries sent ⊎ WalksNext old new queued left candidates best entries sent → has_out_work old (unread_by queued old.reader) ≡ true
turn_has_out_work old new queued left candidates best entries sent (inl reads) = ap (λ b. b || is_some old.filter.walk) (taken_is_unread queued left old.reader reads.change reads.takes)
turn_has_out_work old new queued left candidates best entries sent (inr walks) =
    ap (λ (o : Option (List (Change Route))). is_unread (unread_or_none o) || is_some old.filter.walk) walks.takes.0
    ∙ ap (λ (w : Option (Walked (Option (List Rule)))). is_some w) walks.walks.on

pub turn_has_work : TurnHasWork
turn_has_work j candidates best sent e e' said turn =
    ap (busy_by e.queue) turn.at ∙ turn_has_out_work turn.chain turn.taken e.queue e'.queue candidates best turn.turns.entries sent turn.turns.by

pub resend_has_work : ResendHasWork
resend_has_work j e e' said turn = ap refreshing turn.there ∙ ap (λ o. is_some o) turn.resends.on
