-- A step of the outgoing chain of a session leaves no choice.
use Rattle.std.proofs.Common.{◌≡◌, ◌⊎◌, inl, inr, List, [], Option, Some, None, sym, ap, subst, ◌∙◌}
use Rattle.std.specs.FinMap as tables
use Rattle.std.proofs.lemmas.Option.{same_Some}
use Rattle.addr4.specs.Prefixes.{AddressPrefix}
use Rattle.bgp_attr.specs.Attributes.{Attrs}
use Rattle.bgp_attr.specs.Routes.{Route}
use Rattle.link_change.specs.Rows.{Rows, Candidates, with_rows as rows_of, IsNextCandidate}
use Rattle.link_change.specs.Changes.{IsSent}
use Rattle.link_change.specs.Changes.{Change}
use Rattle.policy_rules.specs.Rules.{Rule}
use Rattle.pass_core.specs.Passed.{Passed}
use Rattle.fanout_queue.specs.Queues.{Queued}
use Rattle.fanout_queue.specs.Readers.{read_rows}
use Rattle.journal_text.specs.Lines.{Value}
use Rattle.journal_text.specs.Lines.{Entry}
use Rattle.journal_text.specs.Journals.{with_lines}
use Rattle.out_chain.specs.Chains.{OutChained, made_by, outf_rows, walk_on}
use Rattle.out_chain.specs.Steps.{with_sent, with_filter, read_entries, said_of, announcing, message_lines, ReadsFirst, WalksNext}
use Rattle.stage_determinism.proofs.OneLemmas.{sent_is_one, next_is_one, passed_is_one, walk_is_one}
use Rattle.exit_determinism.specs.Laws.{PassedOutIsOne, WalkedOutIsOne, TurnOutIsOne, ResentIsOne}
use Rattle.exit_determinism.proofs.QueueLemmas.{taken_is_one}

pub passed_out_is_one : PassedOutIsOne
passed_out_is_one old new now change one other before j k differ first second =
    let same : one ≡ other = passed_is_one (made_by old) old.filter change one other differ first.filters second.filters in
    (same, first.after ∙ ap (with_sent old) same ∙ sym second.after, first.lines ∙ ap (λ s. with_lines before (said_of old (read_entries old change) s)) same ∙ sym second.lines)

-- the chain with these states of its filter, and what they sent, is one
walked_same : (old : OutChained) (f g : Passed (Option (List Rule))) (one other : Option (Change Attrs)) → f ≡ g → one ≡ other → with_sent (with_filter old f) one ≡ with_sent (with_filter old g) other
walked_same old f g one other filter sent = ap (λ x. with_sent (with_filter old x) one) filter ∙ ap (with_sent (with_filter old g)) sent

pub walked_out_is_one : WalkedOutIsOne
walked_out_is_one old new now candidates upper one other before j k first second =
    let both = walk_is_one (made_by old) candidates upper old.filter new.filter now.filter one other first.walks second.walks in
    (both.1, first.after ∙ walked_same old new.filter now.filter one other both.0 both.1 ∙ sym second.after, first.lines ∙ ap (λ s. with_lines before (said_of old [] s)) both.1 ∙ sym second.lines)

-- ---- a turn of the session's task
module _ (old new now : OutChained) (queued left rest : Queued Route) (candidates : Candidates) (best : Rows Route) (one other : Option (Change Attrs)) (entries others : List (Entry Value)) where
  abbrev AreOne : Type 0
  AreOne = (one ≡ other) × (new ≡ now) × (left ≡ rest) × (entries ≡ others)

  -- what is taken is one, and so is what the filter makes of the rows that the reader has then
  reads_one : ReadsFirst old new queued left best entries one → ReadsFirst old now queued rest best others other → AreOne
  reads_one first second =
      let taken = taken_is_one queued left rest old.reader (Some first.change) (Some second.change) first.takes second.takes in
      let change : first.change ≡ second.change = same_Some first.change second.change taken.0 in
      let was : Rows Attrs = outf_rows old (read_rows queued old.reader best) in
      let same : one ≡ other = sent_is_one was (outf_rows old (read_rows left old.reader best)) first.change.prefix second.change.prefix one other first.filters
      (subst (λ (q : Queued Route). IsSent was (outf_rows old (read_rows q old.reader best)) second.change.prefix other) (sym taken.1) second.filters) in
      (same, first.after ∙ ap (with_sent old) same ∙ sym second.after, taken.1, first.entry ∙ ap (read_entries old) change ∙ sym second.entry)

  walks_one : WalksNext old new queued left candidates best entries one → WalksNext old now queued rest candidates best others other → AreOne
  walks_one first second =
      let taken = taken_is_one queued left rest old.reader None None first.takes second.takes in
      let both = walk_is_one (made_by old) candidates best old.filter new.filter now.filter one other first.walks second.walks in
      (both.1, first.after ∙ walked_same old new.filter now.filter one other both.0 both.1 ∙ sym second.after, taken.1, first.entry ∙ sym second.entry)

  -- who takes a change doesn't walk on
  takes_or_walks : ReadsFirst old new queued left best entries one → WalksNext old now queued rest candidates best others other → ⊥
  takes_or_walks first second = let clash = (taken_is_one queued left rest old.reader (Some first.change) None first.takes second.takes).0 in cc

  walks_or_takes : WalksNext old new queued left candidates best entries one → ReadsFirst old now queued rest best others other → ⊥
  walks_or_takes first second = let clash = (taken_is_one queued left rest old.reader None (Some second.change) first.takes second.takes).0 in cc

  turns_one : ReadsFirst old new queued left best entries one ⊎ WalksNext old new queued left candidates best entries one
      → ReadsFirst old now queued rest best others other ⊎ WalksNext old now queued rest candidates best others other → AreOne
  turns_one (inl first) (inl second) = reads_one first second
  turns_one (inl first) (inr second) = absurd (takes_or_walks first second)
  turns_one (inr first) (inl second) = absurd (walks_or_takes first second)
  turns_one (inr first) (inr second) = walks_one first second

pub turn_out_is_one : TurnOutIsOne
turn_out_is_one old new now queued left rest candidates best one other said heard first second =
    let same = turns_one old new now queued left rest candidates best one other first.entries second.entries first.by second.by in
    (same.0, same.1, same.2, same.3, first.goes.lines ∙ ap (λ e. said_of old e one) same.3 ∙ ap (said_of old second.entries) same.0 ∙ sym second.goes.lines)

-- ---- a turn of the walk of a refresh
pub resent_is_one : ResentIsOne
resent_is_one old new now said heard first second =
    let place : first.place ≡ second.place = same_Some first.place second.place (sym first.on ∙ second.on) in
    let prefix : first.prefix ≡ second.prefix = same_Some first.prefix second.prefix (next_is_one (rows_of (tables.get old.sent)) second.place (Some first.prefix) (Some second.prefix)
    (subst (λ (p : Option AddressPrefix). IsNextCandidate (rows_of (tables.get old.sent)) p (Some first.prefix)) place first.next) second.next) in
    let attrs : first.attrs ≡ second.attrs = same_Some first.attrs second.attrs (sym first.row ∙ ap (tables.get old.sent) prefix ∙ second.row) in (
      first.after ∙ ap (λ (p : AddressPrefix). record old { refresh = walk_on old.sent (Some p) }) prefix ∙ sym second.after,
      first.line ∙ ap (λ (p : AddressPrefix). message_lines old (Some (announcing p first.attrs))) prefix ∙ ap (λ (a : Attrs). message_lines old (Some (announcing second.prefix a))) attrs ∙ sym second.line,
    )
