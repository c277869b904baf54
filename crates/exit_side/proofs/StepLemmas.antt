-- What a session that begins or ends, new rules, and a turn make of the exits.
use Rattle.std.proofs.Common.{◌≡◌, ◌≢◌, ℕ, ◌⊎◌, inl, inr, false, cond, is_some, List, [], ◌++◌, Option, Some, None, refl, sym, ap, subst, ◌∙◌}
use Rattle.std.specs.Prelude.{IsSome}
use Rattle.std.proofs.Common.{Result, Ok, Err, IfOk, OnOk}
use Rattle.std.specs.Option.{ForSome}
use Rattle.std.specs.FinMap as tables
use Rattle.std.specs.FinMap.{get-insert}
use Rattle.std.specs.Cmp.{nat_cmp_total}
use Rattle.std.proofs.lemmas.Option.{same_Some}
use Rattle.addr4.specs.Prefixes.{AddressPrefix}
use Rattle.bgp_attr.specs.Attributes.{Attrs}
use Rattle.bgp_attr.specs.Routes.{Route}
use Rattle.bgp_attr.specs.Speakers.{Speaker}
use Rattle.bgp_attr.specs.declared.speaker.Neighbour.{Neighbour}
use Rattle.link_change.specs.Rows.{Rows, Candidates}
use Rattle.link_change.specs.Changes.{Change}
use Rattle.link_change.specs.Turns.{Turn}
use Rattle.link_change.specs.declared.turn.Turn.TheVariants.{Nothing, Quiet, Sent}
use Rattle.policy_rules.specs.Rules.{Rule}
use Rattle.fanout_queue.specs.Queues.{Queued, AllBelowRead}
use Rattle.fanout_queue.specs.Readers.{unread_or_none, read_rows, KeepsOtherReaders}
use Rattle.fanout_queue.proofs.Cases.{same_number}
use Rattle.link_change.specs.InOrder.{rows_before}
use Rattle.journal_text.specs.Lines.{Line}
use Rattle.journal_text.specs.Lines.{Value}
use Rattle.journal_text.specs.Lines.{Entry}
use Rattle.journal_text.specs.Walk.{no_links}
use Rattle.journal_text.specs.Journals.{Journaled, with_entries, Adds}
use Rattle.out_chain.specs.Chains.{OutChained, out_links, RowsMayBeHeard, OutStands, has_out_work}
use Rattle.out_chain.specs.Steps.{exit_to, new_out, start_entries, stop_entries, LeadsOut, LeadsFromBest, with_rules, sending_entries, ReadsFirst, WalksNext, TurnsOut, AddsLines, IsOutTurn}
use Rattle.out_chain.specs.Laws.{OthersKeepStanding}
use Rattle.exit_side.specs.Exits.{Exited, chain_at, with_exit, without_exit, links_by, IsExit, IsExits, AllStand, busy_by, has_exit_work}
use Rattle.pass_core.specs.Passed.{Passed, Walked, present, present_of, latest_of, walk_stepped, walk_of_waiting, after_walk}
use Rattle.pass_core.specs.Turns.{walked_on}
use Rattle.exit_side.specs.Steps.{BeginsExit, EndsExit, edited_by, EditsExit, KeepsSession, TurnsExit, ComesOut}
use Rattle.exit_side.proofs.SwapLemmas.{by_number, Swaps, swaps_in, swaps_out, others_apart, swap_stands, links_stay, swap_sound, put_back}
use Rattle.exit_side.proofs.LinkLemmas.{leads_exits, leads_with_best, links_same}
use Rattle.exit_side.proofs.CountLemmas.{turn_fewer}

-- what holds of the one that it is
pub of_one : {A : Type 0} (P : A → Type 0) (x : A) → P x → ForSome (Some x) P
of_one P x p y is = subst P (same_Some x y is) p

pub of_none : {A : Type 0} (P : A → Type 0) → ForSome None P
of_none P y is = absurd (cc)

-- a reader that is live isn't one that nobody has
pub live_apart : (queued : Queued Route) (r s : ℕ) → IsSome (tables.get queued r) → tables.get queued s ≡ None → r ≢ s
live_apart queued r s live none is = let gone : tables.get queued r ≡ None = ap (tables.get queued) is ∙ none in cc

-- ---- a session begins
module _ (law : OthersKeepStanding) (e : Exited) (me : Speaker) (peer : Neighbour) (session : ℕ) (rules : List Rule) (chain : OutChained) (queue : Queued Route) (sound : IsExits e) (absent : chain_at peer.number e ≡ None)
    (fresh : tables.get e.queue chain.reader ≡ None) (least : AllBelowRead e.queue chain.reader) (is : chain ≡ new_out (exit_to e.profile me peer) peer session chain.reader rules) (joined : queue ≡ tables.insert e.queue chain.reader [])
    (others : KeepsOtherReaders chain.reader e.queue queue)
    (leads : (best : Rows Route) → LeadsFromBest peer.number best no_links (start_entries peer.number session) (out_links chain best))
    (stands : (best : Rows Route) → RowsMayBeHeard e.profile best → OutStands chain queue best) where
  abbrev j : ℕ
  j = peer.number

  abbrev more : Exited
  more = with_exit j chain queue e

  swaps : Swaps j chain.reader (Some chain) e more
  swaps = swaps_in j chain.reader chain queue e others (λ k d differ at. live_apart e.queue d.reader chain.reader (sound.each k d at).live fresh)

  joined_none : tables.get queue chain.reader ≡ Some []
  joined_none = ap (λ (q : Queued Route). tables.get q chain.reader) joined ∙ get-insert nat_cmp_total e.queue chain.reader [] chain.reader ∙ ap (λ b. cond b (Some []) (tables.get e.queue chain.reader)) (same_number chain.reader)

  begun : BeginsExit me peer session rules e more (start_entries j session)
  begun = record {
    reader = chain.reader;
    fresh = fresh;
    least = least;
    after = ap (λ (c : OutChained). with_exit j c queue e) is ∙ ap (λ (q : Queued Route). with_exit j (new_out (exit_to e.profile me peer) peer session chain.reader rules) q e) joined;
    lines = refl;
    leads = λ best. leads_with_best j e more best (links_stay j chain.reader (Some chain) e more swaps best) no_links (out_links chain best) (ap (links_by e.queue best) absent)
        (ap (links_by queue best) swaps.here ∙ ap (λ u. out_links chain (rows_before (unread_or_none u) best)) joined_none) (start_entries j session) (leads best);
    stand = λ best heard all. swap_stands j chain.reader (Some chain) e more swaps law best (of_one (λ c. OutStands c queue best) chain (stands best heard)) all;
    sound = swap_sound j chain.reader (Some chain) e more swaps sound (of_one (λ c. IsExit more j c × (c.reader ≡ chain.reader)) chain
        (record { number = ap (λ (c : OutChained). c.peer.number) is; profile = ap (λ (c : OutChained). c.exit.profile) is; live = subst (λ u. IsSome u) (sym joined_none) refl }, refl));
  }

  begins_adds : (e' : Exited) (before now : Journaled) → e' ≡ more → now ≡ with_entries before (start_entries j session) → Adds (BeginsExit me peer session rules e e') before now
  begins_adds e' before now e'_is lines = (start_entries j session, lines, subst (λ (x : Exited). BeginsExit me peer session rules e x (start_entries j session)) (sym e'_is) begun)

  pub begins_for : (m e' : Exited) (before now : Journaled) → e ≡ m → e' ≡ more → now ≡ with_entries before (start_entries j session) → Adds (BeginsExit me peer session rules m e') before now
  begins_for m e' before now view e'_is lines = subst (λ (x : Exited). Adds (BeginsExit me peer session rules x e') before now) view (begins_adds e' before now e'_is lines)

-- ---- a session ends
module _ (law : OthersKeepStanding) (e : Exited) (j : ℕ) (chain : OutChained) (at : chain_at j e ≡ Some chain) (sound : IsExits e) (queue : Queued Route) (left : queue ≡ tables.remove e.queue chain.reader)
    (others : KeepsOtherReaders chain.reader e.queue queue)
    (leads : (read : Rows Route) → LeadsOut chain.peer.number (out_links chain read) (stop_entries chain.peer.number chain.session) no_links) where
  abbrev less : Exited
  less = without_exit j queue e

  own : chain.peer.number ≡ j
  own = (sound.each j chain at).number

  gone : Swaps j chain.reader None e less
  gone = swaps_out j chain.reader queue e others (others_apart e j chain sound at)

  ended : EndsExit j e less (stop_entries j chain.session)
  ended = record {
    chain = chain;
    at = at;
    after = ap (λ (q : Queued Route). without_exit j q e) left;
    lines = refl;
    leads = λ best. leads_exits j e less best (links_stay j chain.reader None e less gone best) (out_links chain (read_rows e.queue chain.reader best)) no_links (ap (links_by e.queue best) at)
        (ap (links_by queue best) gone.here) (stop_entries j chain.session)
        (subst (λ (n : ℕ). LeadsOut n (out_links chain (read_rows e.queue chain.reader best)) (stop_entries n chain.session) no_links) own (leads (read_rows e.queue chain.reader best)));
    stand = λ best all. swap_stands j chain.reader None e less gone law best (of_none (λ c. OutStands c queue best)) all;
    sound = swap_sound j chain.reader None e less gone sound (of_none (λ c. IsExit less j c × (c.reader ≡ chain.reader)));
  }

  ends_adds : (e' : Exited) (before now : Journaled) → e' ≡ less → now ≡ with_entries before (stop_entries chain.peer.number chain.session) → Adds (EndsExit j e e') before now
  ends_adds e' before now e'_is lines = (
    stop_entries j chain.session,
    lines ∙ ap (λ (n : ℕ). with_entries before (stop_entries n chain.session)) own,
    subst (λ (x : Exited). EndsExit j e x (stop_entries j chain.session)) (sym e'_is) ended,
  )

  pub ends_for : (m e' : Exited) (before now : Journaled) → e ≡ m → e' ≡ less → now ≡ with_entries before (stop_entries chain.peer.number chain.session) → Adds (EndsExit j m e') before now
  ends_for m e' before now view e'_is lines = subst (λ (x : Exited). Adds (EndsExit j x e') before now) view (ends_adds e' before now e'_is lines)

-- ---- rules
pub edits_none : (e : Exited) (j : ℕ) (rules : List Rule) → chain_at j e ≡ None → IsExits e → EditsExit j rules e e
edits_none e j rules none sound = record { after = sym (ap (λ o. edited_by j rules o e) none); links = λ best. refl; stand = λ best all. all; sound = sound }

module _ (law : OthersKeepStanding) (e : Exited) (j : ℕ) (chain ruled : OutChained) (at : chain_at j e ≡ Some chain) (sound : IsExits e) (rules : List Rule) (is : ruled ≡ with_rules rules chain)
    (links : (read : Rows Route) → out_links ruled read ≡ out_links chain read) (stands : (queued : Queued Route) (best : Rows Route) → OutStands chain queued best → OutStands ruled queued best) where
  abbrev edited : Exited
  edited = with_exit j ruled e.queue e

  same_reader : ruled.reader ≡ chain.reader
  same_reader = ap (λ (c : OutChained). c.reader) is

  swaps_rules : Swaps j chain.reader (Some ruled) e edited
  swaps_rules = swaps_in j chain.reader ruled e.queue e (λ other apart. refl) (others_apart e j chain sound at)

  links_at : (best : Rows Route) (k : ℕ) → links_by e.queue best (chain_at k edited) ≡ links_by e.queue best (chain_at k e)
  links_at best k = by_number k j (λ b. links_by e.queue best (chain_at k edited) ≡ links_by e.queue best (chain_at k e))
      (λ same.
      ap (λ (n : ℕ). links_by e.queue best (chain_at n edited)) same ∙ ap (links_by e.queue best) swaps_rules.here
      ∙ ap (λ (r : ℕ). out_links ruled (read_rows e.queue r best)) same_reader ∙ links (read_rows e.queue chain.reader best)
      ∙ ap (links_by e.queue best) (sym at) ∙ ap (λ (n : ℕ). links_by e.queue best (chain_at n e)) (sym same))
      (λ differ. links_stay j chain.reader (Some ruled) e edited swaps_rules best k differ)

  pub edits_for : (m e' : Exited) → e ≡ m → e' ≡ edited → EditsExit j rules m e'
  edits_for m e' view e'_is = subst (λ (x : Exited). EditsExit j rules x e') view (subst (EditsExit j rules e) (sym e'_is) (record {
    after = ap (λ (c : OutChained). with_exit j c e.queue e) is ∙ sym (ap (λ o. edited_by j rules o e) at);
    links = λ best. links_same e edited best best (links_at best);
    stand = λ best all. swap_stands j chain.reader (Some ruled) e edited swaps_rules law best (of_one (λ c. OutStands c e.queue best) ruled (stands e.queue best (all j chain at))) all;
    sound = let was = sound.each j chain at in
        swap_sound j chain.reader (Some ruled) e edited swaps_rules sound (of_one (λ c. IsExit edited j c × (c.reader ≡ chain.reader)) ruled (
          record {
            number = ap (λ (c : OutChained). c.peer.number) is ∙ was.number;
            profile = ap (λ (c : OutChained). c.exit.profile) is ∙ was.profile;
            live = subst (λ (r : ℕ). IsSome (tables.get e.queue r)) (sym same_reader) was.live;
          },
          same_reader,
        ));
  }))

-- ---- a turn
-- a walk, and its end, leave the latest rules
step_kept : (f : Option (List Rule)) (walk : Option (Walked (Option (List Rule)))) (p : AddressPrefix) → present_of f (walk_stepped walk p) ≡ present_of f walk
step_kept f None p = refl
step_kept f (Some w) p = refl

end_kept : (f : Option (List Rule)) (walk : Option (Walked (Option (List Rule)))) → present (after_walk f walk) ≡ present_of f walk
end_kept f None = refl
end_kept f (Some w) = waiting_kept w.next w.waiting
  where
    waiting_kept : (next : Option (List Rule)) (waiting : Option (Option (List Rule))) → present_of next (walk_of_waiting waiting) ≡ latest_of next waiting
    waiting_kept next None = refl
    waiting_kept next (Some g) = refl

walk_kept : (next : Option AddressPrefix) (s : Passed (Option (List Rule))) → present (walked_on next s) ≡ present s
walk_kept None s = end_kept s.in_force s.walk
walk_kept (Some p) s = step_kept s.in_force s.walk p

module _ (law : OthersKeepStanding) (e : Exited) (j : ℕ) (chain taken : OutChained) (at : chain_at j e ≡ Some chain) (sound : IsExits e) (queue : Queued Route) (candidates : Candidates) (best : Rows Route)
    (all : AllStand best e) (others : KeepsOtherReaders chain.reader e.queue queue) where
  abbrev turned : Exited
  turned = with_exit j taken queue e

  same_read : (entries : List (Entry Value)) (sent : Option (Change Attrs)) → ReadsFirst chain taken e.queue queue best entries sent → KeepsSession chain taken
  same_read entries sent reads = record {
    peer = ap (λ (c : OutChained). c.peer) reads.after;
    session = ap (λ (c : OutChained). c.session) reads.after;
    exit = ap (λ (c : OutChained). c.exit) reads.after;
    reader = ap (λ (c : OutChained). c.reader) reads.after;
    rules = ap (λ (c : OutChained). present c.filter) reads.after;
  }

  same_walked : (entries : List (Entry Value)) (sent : Option (Change Attrs)) → WalksNext chain taken e.queue queue candidates best entries sent → KeepsSession chain taken
  same_walked entries sent walks = record {
    peer = ap (λ (c : OutChained). c.peer) walks.after;
    session = ap (λ (c : OutChained). c.session) walks.after;
    exit = ap (λ (c : OutChained). c.exit) walks.after;
    reader = ap (λ (c : OutChained). c.reader) walks.after;
    rules = ap present walks.walks.after ∙ walk_kept walks.walks.next chain.filter;
  }

  same_chain : (sent : Option (Change Attrs)) (said : List Line) → TurnsOut chain taken e.queue queue candidates best sent said → KeepsSession chain taken
  same_chain sent said turns = by_which turns.by
    where
      by_which : ReadsFirst chain taken e.queue queue best turns.entries sent ⊎ WalksNext chain taken e.queue queue candidates best turns.entries sent → KeepsSession chain taken
      by_which (inl reads) = same_read turns.entries sent reads
      by_which (inr walks) = same_walked turns.entries sent walks

  swapped : Swaps j chain.reader (Some taken) e turned
  swapped = swaps_in j chain.reader taken queue e others (others_apart e j chain sound at)

  module _ (stands : OutStands taken queue best) (sent : Option (Change Attrs)) (said : List Line) (turns : TurnsOut chain taken e.queue queue candidates best sent said) where
    kept : KeepsSession chain taken
    kept = same_chain sent said turns

    turned_is : TurnsExit j candidates best sent e turned said
    turned_is = let was = sound.each j chain at in record {
      chain = chain;
      at = at;
      taken = taken;
      same = kept;
      turns = turns;
      others = others;
      after = refl;
      leads = leads_exits j e turned best (links_stay j chain.reader (Some taken) e turned swapped best) (out_links chain (read_rows e.queue chain.reader best)) (out_links taken (read_rows queue chain.reader best))
          (ap (links_by e.queue best) at) (ap (links_by queue best) swapped.here ∙ ap (λ (r : ℕ). out_links taken (read_rows queue r best)) kept.reader) (turns.entries ++ sending_entries chain sent)
          (subst (λ (n : ℕ). LeadsOut n (out_links chain (read_rows e.queue chain.reader best)) (turns.entries ++ sending_entries chain sent) (out_links taken (read_rows queue chain.reader best))) was.number turns.goes.leads);
      stand = swap_stands j chain.reader (Some taken) e turned swapped law best (of_one (λ c. OutStands c queue best) taken stands) all;
      sound = swap_sound j chain.reader (Some taken) e turned swapped sound (of_one (λ c. IsExit turned j c × (c.reader ≡ chain.reader)) taken (
        record {
          number = ap (λ (n : Neighbour). n.number) kept.peer ∙ was.number;
          profile = ap (λ x. x.profile) kept.exit ∙ was.profile;
          live = stands.live;
        },
        kept.reader,
      ));
      fewer = λ beyond counts. turn_fewer beyond j chain taken e queue at kept.reader swapped (turns.fewer beyond counts);
    }

  comes_adds : (stands : OutStands taken queue best) (sent : Option (Change Attrs)) (before now : Journaled) → AddsLines (TurnsOut chain taken e.queue queue candidates best sent) before now
      → AddsLines (TurnsExit j candidates best sent e turned) before now
  comes_adds stands sent before now adds = (adds.0, adds.1, turned_is stands sent adds.0 adds.2)

  -- to put the chain that is there changes nothing
  put_same : taken ≡ chain → queue ≡ e.queue → turned ≡ e
  put_same chain_is queue_is =
      ap (λ (c : OutChained). with_exit j c queue e) chain_is ∙ ap (λ (q : Queued Route). with_exit j chain q e) queue_is ∙ put_back e j chain at

  rests : tables.get e.queue chain.reader ≡ Some [] → chain.filter.walk ≡ None → has_exit_work e j ≡ false
  rests none off =
      ap (busy_by e.queue) at ∙ ap (λ u. has_out_work chain (unread_or_none u)) none ∙ ap (λ w. is_some w) off

  comes : (turn : Turn Attrs) (before now : Journaled) → OutStands taken queue best → IsOutTurn chain taken e.queue queue candidates best before now turn → ComesOut j candidates best e turned before now turn
  comes Nothing before now stands none = (rests none.0.0 none.1, put_same none.2 none.0.1, none.3)
  comes Quiet before now stands adds = comes_adds stands None before now adds
  comes (Sent change) before now stands adds = comes_adds stands (Some change) before now adds

  pub comes_for : (m e' : Exited) → e ≡ m → e' ≡ turned → (turn : Turn Attrs) (before now : Journaled) → OutStands taken queue best → IsOutTurn chain taken e.queue queue candidates best before now turn
      → ComesOut j candidates best m e' before now turn
  comes_for m e' view is turn before now stands took =
      subst (λ (x : Exited). ComesOut j candidates best x e' before now turn) view (subst (λ (x : Exited). ComesOut j candidates best e x before now turn) (sym is) (comes turn before now stands took))

-- a peer that isn't up
pub comes_none : (e : Exited) (j : ℕ) (candidates : Candidates) (best : Rows Route) (before : Journaled) → chain_at j e ≡ None → ComesOut j candidates best e e before before Nothing
comes_none e j candidates best before none = (ap (busy_by e.queue) none, refl, refl)

-- of a result, two clauses
pub both_ok : {X E : Type 0} (r : Result X E) (P : X → Type 0) (Q : Type 0) (R : X → Type 0) → ((x : X) → P x → Q → R x) → IfOk r P → OnOk r Q → IfOk r R
both_ok (Ok x) P Q R f p q = f x p q
both_ok (Err e) P Q R f p q = tt
