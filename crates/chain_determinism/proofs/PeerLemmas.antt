-- What the steps of the peers' chains do leaves no choice.
use Rattle.std.proofs.Common.{◌≡◌, ℕ, nat_eq, ◌&&◌, Bool, true, List, Option, Some, is_some, sym, ap, subst, ◌∙◌}
use Rattle.std.proofs.lemmas.Bool.{eq-eqb}
use Rattle.std.proofs.lemmas.Option.{same_Some}
use Rattle.addr4.specs.Prefixes.{AddressPrefix}
use Rattle.bgp_attr.specs.Routes.{Route}
use Rattle.link_change.specs.Changes.{IsSent}
use Rattle.link_change.specs.Changes.{Change}
use Rattle.policy_rules.specs.Rules.{Rule}
use Rattle.pass_core.specs.Passed.{Passed}
use Rattle.journal_text.specs.Walk.{no_links}
use Rattle.journal_text.specs.declared.link.Link.{Link}
use Rattle.journal_text.specs.declared.link.Task.{Task}
use Rattle.journal_text.specs.declared.link.Task.TheVariants.{Del, Fin}
use Rattle.journal_text.specs.Lines.{Entry}
use Rattle.journal_text.specs.Lines.{Value}
use Rattle.loss_chain.specs.Steps.{table_of}
use Rattle.in_chain.specs.Chains.{Chained, IsChain, filt_rows, beside}
use Rattle.in_chain.specs.Falls.{Falls, way_of_feed, way_of_sweep}
use Rattle.in_chain.specs.Incomings.{loss_entries}
use Rattle.in_chain.specs.Steps.{Sweeps, Rewalks, Turned, fed, lost, welded, swept, refiltered, filter_entries, has_turn}
use Rattle.peer_side.specs.Peers.{Chains, chain_at, put_chain, peer_of, has_turn_in}
use Rattle.peer_side.specs.Steps.{chain_weld_entries}
use Rattle.stage_determinism.proofs.OneLemmas.{sent_is_one, walk_is_one}
use Rattle.chain_determinism.specs.Fronts.{AreDifferent}
use Rattle.chain_determinism.specs.Laws.{FeedIsOne, TurnIsOne, TurnsHaveWork, WeldIsOne, LossIsOne, EditIsOne}
use Rattle.chain_determinism.proofs.FrontLemmas.{fall_is_one}
use Rattle.chain_determinism.proofs.WayLemmas.{feeds_pass_once, sweeps_pass_once}
use Rattle.chain_determinism.proofs.StageLemmas.{stage_row_is_one}

-- ---- of one chain
-- a fall from a chain to another one, where the way passes no link twice
chain_fall : (old new : Chained) (p : AddressPrefix) (way : List Link) (sent other_sent : Option (Change Route)) (entries other_entries : List (Entry Value)) → AreDifferent way
    → Falls old new p way sent entries → Falls old new p way other_sent other_entries → entries ≡ other_entries
chain_fall old new p way sent other_sent entries other_entries different first second =
    fall_is_one p way (beside no_links old) (beside no_links new) sent other_sent entries other_entries different first.down second.down (first.leads no_links) (second.leads no_links)

-- what a step of a chain leaves: the chain, what comes out, and the entries
abbrev AreOne : Chained → Chained → Option (Change Route) → Option (Change Route) → List (Entry Value) → List (Entry Value) → Type 0
AreOne one other sent other_sent entries other_entries = (sent ≡ other_sent) × (one ≡ other) × (entries ≡ other_entries)

-- a turn of the stage of a session
sweep_is_one : (old one other : Chained) (session : ℕ) (sent other_sent : Option (Change Route)) (entries other_entries : List (Entry Value)) → IsChain old
    → Sweeps old one session sent entries → Sweeps old other session other_sent other_entries → AreOne one other sent other_sent entries other_entries
sweep_is_one old one other session sent other_sent entries other_entries chain first second =
    let row = stage_row_is_one session old.incoming.tables.deletions first.table second.table first.prefix second.prefix first.row second.row first.stands second.stands first.least second.least in
    let p = first.prefix in
    let same : other ≡ one = second.after ∙ ap (λ (q : AddressPrefix). swept session q old) (sym row.1) ∙ sym first.after in
    let way = way_of_sweep session old.incoming in
    let sent_rows : IsSent (filt_rows old) (filt_rows one) second.prefix other_sent = subst (λ (c : Chained). IsSent (filt_rows old) (filt_rows c) second.prefix other_sent) same second.rows in
    let fall : Falls old one p way other_sent other_entries =
    subst (λ (q : AddressPrefix). Falls old one q way other_sent other_entries) (sym row.1) (subst (λ (c : Chained). Falls old c second.prefix way other_sent other_entries) same second.fall) in (
      sent_is_one (filt_rows old) (filt_rows one) p second.prefix sent other_sent first.rows sent_rows,
      sym same,
      chain_fall old one p way sent other_sent entries other_entries (sweeps_pass_once session old chain) first.fall fall,
    )

-- a turn of the walk of the filter
rewalk_is_one : (old one other : Chained) (sent other_sent : Option (Change Route)) (entries other_entries : List (Entry Value))
    → Rewalks old one sent entries → Rewalks old other other_sent other_entries → AreOne one other sent other_sent entries other_entries
rewalk_is_one old one other sent other_sent entries other_entries first second =
    let walk = walk_is_one _ _ _ old.filter one.filter other.filter sent other_sent first.walks second.walks in (
      walk.1,
      first.after ∙ ap (λ (filter : Passed (List Rule)). record old { filter = filter }) walk.0 ∙ sym second.after,
      first.lines ∙ ap (filter_entries old.incoming.number) walk.1 ∙ sym second.lines,
    )

-- a turn of either task
turned_is_one : (task : Task) (old one other : Chained) (sent other_sent : Option (Change Route)) (entries other_entries : List (Entry Value)) → IsChain old
    → Turned old one task sent entries → Turned old other task other_sent other_entries → AreOne one other sent other_sent entries other_entries
turned_is_one task old one other sent other_sent entries other_entries chain = elim task as (λ task. Turned old one task sent entries → Turned old other task other_sent other_entries → AreOne one other sent other_sent entries other_entries) [
  | Del k s ↦ λ first second. sweep_is_one old one other s sent other_sent entries other_entries chain first.1 second.1
  | Fin k ↦ λ first second. rewalk_is_one old one other sent other_sent entries other_entries first.1 second.1
  | _ ↦ λ first _. absurd first
]

-- ---- of all chains
-- the chain of a peer is one
one_chain : (k : ℕ) (a : Chains) (c d : Chained) → chain_at k a ≡ Some c → chain_at k a ≡ Some d → d ≡ c
one_chain k a c d first second = same_Some d c (sym second ∙ first)

-- what comes of the chain of a peer is put back
one_put : (k : ℕ) (a one other : Chains) (step : Chained → Chained) (c d : Chained) → chain_at k a ≡ Some c → chain_at k a ≡ Some d → one ≡ put_chain k (step c) a → other ≡ put_chain k (step d) a → one ≡ other
one_put k a one other step c d first second is also = is ∙ ap (λ (x : Chained). put_chain k (step x) a) (sym (one_chain k a c d first second)) ∙ sym also

-- a prefix is announced or withdrawn
pub feed_is_one : FeedIsOne
feed_is_one k p row sent other_sent a one other entries other_entries peers first second =
    let c = first.feeds.chain in
    let d = second.feeds.chain in
    let same : d ≡ c = one_chain k a c d first.feeds.at second.feeds.at in
    let rows : IsSent (filt_rows c) (filt_rows (fed c p row)) p other_sent = subst (λ (x : Chained). IsSent (filt_rows x) (filt_rows (fed x p row)) p other_sent) same second.feeds.rows in
    let falls : Falls c (fed c p row) p (way_of_feed c.incoming) other_sent other_entries =
    subst (λ (x : Chained). Falls x (fed x p row) p (way_of_feed x.incoming) other_sent other_entries) same second.feeds.falls in (
      sent_is_one (filt_rows c) (filt_rows (fed c p row)) p p sent other_sent first.feeds.rows rows,
      one_put k a one other (λ x. fed x p row) c d first.feeds.at second.feeds.at first.feeds.after second.feeds.after,
      chain_fall c (fed c p row) p (way_of_feed c.incoming) sent other_sent entries other_entries (feeds_pass_once c (peers k c first.feeds.at).chain) first.feeds.falls falls,
    )

-- a task takes a turn
pub turn_is_one : TurnIsOne
turn_is_one task sent other_sent a one other entries other_entries peers first second =
    let c = first.turn.chain in
    let same = one_chain (peer_of task) a c second.turn.chain first.turn.at second.turn.at in
    let turned : Turned c second.turn.turned_chain task other_sent other_entries = subst (λ (x : Chained). Turned x second.turn.turned_chain task other_sent other_entries) same second.turn.turned in
    let all = turned_is_one task c first.turn.turned_chain second.turn.turned_chain sent other_sent entries other_entries (peers (peer_of task) c first.turn.at).chain first.turn.turned turned in
    (all.0, first.turn.after ∙ ap (λ (x : Chained). put_chain (peer_of task) x a) all.1 ∙ sym second.turn.after, all.2)

-- the stage that a fall emptied goes
pub weld_is_one : WeldIsOne
weld_is_one k a one other entries other_entries first second = (
  one_put k a one other welded first.welds.chain second.welds.chain first.welds.at second.welds.at first.welds.after second.welds.after,
  first.welds.lines ∙ ap chain_weld_entries (sym (one_chain k a first.welds.chain second.welds.chain first.welds.at second.welds.at)) ∙ sym second.welds.lines,
)

-- a session is lost
pub loss_is_one : LossIsOne
loss_is_one k s a one other entries other_entries first second = (
  one_put k a one other (lost s) first.loses.chain second.loses.chain first.loses.at second.loses.at first.loses.after second.loses.after,
  first.loses.lines ∙ ap (λ (c : Chained). loss_entries s c.incoming) (sym (one_chain k a first.loses.chain second.loses.chain first.loses.at second.loses.at)) ∙ sym second.loses.lines,
)

-- a filter has other rules
pub edit_is_one : EditIsOne
edit_is_one k rules a one other first second =
    one_put k a one other (refiltered rules) first.edits.chain second.edits.chain first.edits.at second.edits.at first.edits.after second.edits.after

-- ---- work
-- a number is itself, and something holds
both_hold : (m n : ℕ) (b : Bool) → m ≡ n → b ≡ true → (nat_eq m n && b) ≡ true
both_hold m n b same holds = let here : nat_eq m n ≡ true = eq-eqb m n same in cc

-- a turn of a chain is one of a task with work,
turned_has_work : (task : Task) (old new : Chained) (sent : Option (Change Route)) (entries : List (Entry Value)) → Turned old new task sent entries → has_turn old task ≡ true
turned_has_work task old new sent entries = elim task as (λ task. Turned old new task sent entries → has_turn old task ≡ true) [
  | Del k s ↦ λ turned. both_hold k old.incoming.number (is_some (table_of s old.incoming.tables.deletions)) turned.0 (ap (λ o. is_some o) turned.1.stands)
  | Fin k ↦ λ turned. both_hold k old.incoming.number (is_some old.filter.walk) turned.0 (ap (λ o. is_some o) turned.1.walks.on)
  | _ ↦ λ turned. absurd turned
]

-- and so is one of the peers' side
pub turns_have_work : TurnsHaveWork
turns_have_work task sent a a' entries takes =
    ap (has_turn_in task) takes.turn.at ∙ turned_has_work task takes.turn.chain takes.turn.turned_chain sent entries takes.turn.turned
