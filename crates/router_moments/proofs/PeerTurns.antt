-- One turn of a task of a peer.
use Rattle.router_moments.proofs.Common.{sym, subst, ◌∙◌, ap, ◌≡◌, ℕ, refl, List, true, arith, false, Bool, ◌++◌, ◌≤◌, AddressPrefix, Route, peer_at, DeclaredPeer, OutChains, Resolvers, known_in, GoesOn, Chained, filt_rows, welded, Journaled, flushed, Adds, Entry, Line, Task, Value, Change, Turn, adds_both, Chains, filt_at, filt_by, put_chain, lost_in, Registry, Interior, all_at, live_state, Moment, own_of, with_chains, Stands, PeerStands, IsSilent, open_session, journal_lines, phase_of, IsTurn, Resolves, FallsPeer, IsPeerTurn, sent_of, Keeps, TakesTurn, IsWork, SettlesPeer, MaySettle, Taken}
use Rattle.std.proofs.Common.{Option, Some, None}
use Rattle.link_change.specs.declared.turn.Turn.TheVariants as turns
use Rattle.journal_text.specs.declared.link.Task.TheVariants.{Del, Fin}
use Rattle.in_chain.specs.Steps.{Turned}
use Rattle.std.specs.Prelude.{IsSome, is_some}
use Rattle.peer_side.specs.Peers.{peer_of}
use Rattle.peer_side.specs.Steps.{Nears, TakesInward, ComesInward}
use Rattle.std.specs.FinMap as tables
use Rattle.peer_side.proofs.PutLemmas.{put_size}
use Rattle.router_moments.specs.Turns.{IsOfPeers}
use Rattle.router_moments.specs.Works.{KnowsNoMore, NoneGoesStale}
use Rattle.peer_side.proofs.WeldLemmas.{fallen_at, weld_keeps, nears_weld}
use Rattle.router_moments.proofs.BestLemmas.{best_of_none}
use Rattle.router_moments.proofs.HeardRows.{weld_heard, turned_heard}
use Rattle.router_moments.proofs.QueueLemmas.{queue_chains}
use Rattle.router_moments.proofs.MostLemmas.{rows_less}
use Rattle.router_moments.proofs.SpendLemmas.{Sends, few_sent, turn_sends, peer_spends}
use Rattle.router_moments.proofs.ReadingLemmas.{queue_most}
use Rattle.rib_exit.specs.Exits.{known_in as external_known}
use Rattle.router_moments.proofs.KnownLemmas.{knows_no_more, swept_stood}
use Rattle.router_moments.proofs.StaleLemmas.{as_before, resolved, none_goes_stale, makes_none}
use Rattle.router_moments.proofs.StandLemmas.{peer_of as peer_at_chain, live_same, may_settle}
use Rattle.router_moments.proofs.WorkLemmas.{one_turn}
use Rattle.router_moments.proofs.PeerFalls.{behind, welded_put, fall_goes, fall_keeps, fall_settled}

silent_as : (up : Bool) (c c' : Chained) → c'.incoming.tables.live ≡ c.incoming.tables.live → IsSilent up c → IsSilent up c'
silent_as true c c' same silent = tt
silent_as false c c' same silent = same ∙ silent

-- nothing goes on where nothing came
passed_none : (k : ℕ) (sent passed : Option (Change Route)) (r r' : Registry Interior) (h h' : Resolvers) (entries : List (Entry Value)) → sent ≡ None → Resolves k sent passed r r' h h' entries → passed ≡ None
passed_none k None passed r r' h h' entries none t = t.0
passed_none k (Some change) passed r r' h h' entries none t = absurd (cc)

-- no task of a peer has more rows lost than before
lost_less : (task : Task) (a a' : Chains) → Nears task a a' → lost_in a' ≤ lost_in a
lost_less (Del k s) a a' near = let l = near.0 in omega (arith, l)
lost_less (Fin k) a a' near = let l = near.0 in omega (arith, l)
lost_less other a a' near = absurd near

-- and none asks for the next hops of external routes
peer_knows : (task : Task) (m m' : Moment) → m'.rib ≡ m.rib → Nears task m.chains m'.chains → ((k s : ℕ) → task ≡ Del k s → known_in m'.hops ≤ known_in m.hops) → KnowsNoMore (phase_of task) m m'
peer_knows (Del k s) m m' same near fewer = (fewer k s refl, let e : external_known m'.rib ≡ external_known m.rib = ap external_known same in omega (arith, e))
peer_knows (Fin k) m m' same near fewer = let e : external_known m'.rib ≡ external_known m.rib = ap external_known same in omega (arith, e)
peer_knows other m m' same near fewer = absurd near

-- ---- what a turn does
module _ (task : Task) (sent : Option (Change Route)) (m : Moment) (said : List Line) (m' : Moment) (stands : Stands m) (f : FallsPeer (peer_of task) sent (TakesInward task sent m.chains) m said m') where
  abbrev k : ℕ
  k = peer_of task

  abbrev c : Chained
  c = f.part.turn.chain

  abbrev less : Chained
  less = f.part.turn.turned_chain

  abbrev now : Moment
  now = behind k sent (TakesInward task sent m.chains) m said m' stands f c less f.part.turn.at f.part.turn.after f.part.changes.0 f.part.changes.1

  put : m'.chains ≡ put_chain k (welded less) m.chains
  put = welded_put k sent (TakesInward task sent m.chains) m said m' stands f c less f.part.turn.at f.part.turn.after f.part.changes.0 f.part.changes.1

  goes : GoesOn k f.part.changes.0 f.passed m.hops m'.hops f.resolved (filt_at m.chains) (filt_at f.fallen)
  goes = fall_goes k sent (TakesInward task sent m.chains) m said m' stands f c less f.part.turn.at f.part.turn.after f.part.changes.0 f.part.changes.1

  near : Nears task m.chains m'.chains
  near = nears_weld task k m.chains f.fallen m'.chains f.weld f.part.nearer f.welds

  p : (q : DeclaredPeer) × (peer_at k m.declared.peers ≡ Some q) × PeerStands q c
  p = peer_at_chain m stands k c f.part.turn.at

  here : PeerStands p.0 (welded less)
  here =
      let earlier = weld_keeps k m.chains f.fallen m'.chains less f.weld f.part.turn.after f.welds (open_session p.0) (f.part.leaves.before (open_session p.0) p.2.earlier) in
      record { words = f.part.leaves.peer ∙ p.2.words; earlier = earlier; silent = silent_as p.0.up c (welded less) f.part.leaves.live p.2.silent }

  keeps : Keeps (live_state m) m m' said
  keeps = fall_keeps k sent (TakesInward task sent m.chains) m said m' stands f c less f.part.turn.at f.part.turn.after f.part.changes.0 f.part.changes.1 (live_state m) p.0 f.part.fall f.part.leaves.me
      (live_same m k c (welded less) m'.chains f.part.turn.at put f.part.leaves.live f.part.leaves.rules) p.1 here
      (weld_heard m.declared.profile less (turned_heard m.declared.profile task c less sent f.entries f.part.turn.turned (stands.exits.rows k c f.part.turn.at)))

  -- of a deletion stage no row comes on `filt.K`
  stood : (s : ℕ) → task ≡ Del k s → (q : AddressPrefix) → IsSome (filt_at f.fallen k q) → filt_at f.fallen k q ≡ filt_at m.chains k q
  stood s is q some =
      let old : filt_at m.chains k q ≡ filt_rows c q = ap (λ (o : Option Chained). filt_by o q) f.part.turn.at in
      let new : filt_at f.fallen k q ≡ filt_rows less q = ap (λ (o : Option Chained). filt_by o q) (fallen_at k m.chains f.fallen less f.part.turn.after) in
      new ∙ swept_stood c less s sent f.entries (stands.peers.chains k c f.part.turn.at).chain (subst (λ (y : Task). Turned c less y sent f.entries) is f.part.turn.turned).1 q (ap is_some (sym new) ∙ some) ∙ sym old

  fewer_known : (j s : ℕ) → task ≡ Del j s → known_in m'.hops ≤ known_in m.hops
  fewer_known j s is =
      knows_no_more k (filt_at m.chains) (filt_at f.fallen) (stood s (is ∙ ap (λ (n : ℕ). Del n s) (sym (ap peer_of is)))) m.hops m'.hops stands.hops.sound f.below.agreed.sound stands.hops.counted goes.counted sent f.passed m.registry m'.registry f.resolved f.below.resolves

  none_stale : NoneGoesStale m now
  none_stale = none_goes_stale m now (resolved k sent f.passed m.registry m'.registry m.hops m'.hops f.resolved f.below.resolves) (as_before m.rib.forwarding.known m.rib.forwarding.known refl)

  -- where nothing comes out on `filt.K`, nothing is decided
  quiet_below : sent ≡ None → f.decided.best ≡ None
  quiet_below none = best_of_none k f.passed (all_at (own_of m) f.fallen m'.hops) f.best f.decided (passed_none k sent f.passed m.registry m'.registry m.hops m'.hops f.resolved none f.below.resolves)

  sends : Sends m now
  sends = record {
    rows = rows_less m k c (welded less) m'.chains f.part.turn.at put f.part.leaves.live (lost_less task m.chains m'.chains near);
    size = ap (λ (a : Chains). tables.len a) put ∙ put_size k c (welded less) m.chains f.part.turn.at;
    exits = ap (λ (a : OutChains). tables.len a) (queue_chains m.exits m'.exits f.decided.best f.queued);
    fewer = turn_sends task m k c less sent f.decided.best f.entries m'.chains m'.exits f.part.turn.at put f.part.turn.turned quiet_below f.queued near;
    once = let most = queue_most f.decided.best m.exits m'.exits f.queued in let one = few_sent f.decided.best in omega (arith, most, one);
  }

  fall_works : IsWork (phase_of task) 1 m m' said
  fall_works = one_turn (phase_of task) m now m' said f.after keeps (peer_spends task m now refl refl near sends) (peer_knows task m now refl near fewer_known) (makes_none (phase_of task) m now none_stale)

pub peer_works : (task : Task) (m : Moment) (said : List Line) (m' : Moment) → Stands m → IsPeerTurn task m said m' → IsWork (phase_of task) 1 m m' said
peer_works task m said m' stands t = fall_works task t.0 m said m' stands t.1

-- ---- what the calls make of it
turn_of_peer : (task : Task) (m : Moment) (said : List Line) (m' : Moment) → IsOfPeers task → IsPeerTurn task m said m' → IsTurn task m said m'
turn_of_peer (Del k s) m said m' of t = t
turn_of_peer (Fin k) m said m' of t = t
turn_of_peer other m said m' of t = absurd of

-- a turn that was taken, whether a change came out on `filt.K` or not
took : (task : Task) (a fallen : Chains) (before j : Journaled) (turn : Turn Route) → (turn ≡ turns.Nothing → ⊥) → ComesInward task a fallen before j turn → Adds (TakesInward task (sent_of turn) a fallen) before j
took task a fallen before j turns.Nothing some t = absurd (some refl)
took task a fallen before j turns.Quiet some t = t
took task a fallen before j (turns.Sent change) some t = t

pub settled_same : (k j : ℕ) (sent other : Option (Change Route)) (m m' : Moment) (before now : Journaled) → k ≡ j → sent ≡ other → Adds (SettlesPeer k sent m m') before now → Adds (SettlesPeer j other m m') before now
settled_same k j sent other m m' before now same is s =
    subst (λ (x : Option (Change Route)). Adds (SettlesPeer j x m m') before now) is (subst (λ (n : ℕ). Adds (SettlesPeer n sent m m') before now) same s)

pub peer_took : (task : Task) (m v : Moment) (fallen : Chains) (m' : Moment) (before j l now : Journaled) (turn : Turn Route) → (turn ≡ turns.Nothing → ⊥) → v ≡ m → IsOfPeers task → ComesInward task v.chains fallen before j turn
    → Adds (SettlesPeer (peer_of task) (sent_of turn) (with_chains v fallen) m') j l → now ≡ flushed l → TakesTurn task m m' before now Taken
peer_took task m v fallen m' before j l now turn some view of comes w is =
    let t = took task v.chains fallen before j turn some comes in
    subst (λ (n : Moment). TakesTurn task n m' before now Taken) view
    (journal_lines (t.0 ++ w.0), is ∙ ap flushed (adds_both before j l t.0 w.0 t.1 w.1), turn_of_peer task v (journal_lines (t.0 ++ w.0)) m' of (sent_of turn, fall_settled (peer_of task) (sent_of turn) (TakesInward task (sent_of turn) v.chains) v fallen m' t.0 w.0 t.2 w.2))

-- what follows it asks for
pub peer_settles : (task : Task) (m v : Moment) (fallen : Chains) (before j : Journaled) (turn : Turn Route) → (turn ≡ turns.Nothing → ⊥) → v ≡ m → Stands m → ComesInward task v.chains fallen before j turn → MaySettle (peer_of task) (with_chains v fallen)
peer_settles task m v fallen before j turn some view stands comes =
    let t = took task v.chains fallen before j turn some comes in
    may_settle (peer_of task) m v fallen t.2.turn.chain t.2.turn.turned_chain view stands t.2.turn.at t.2.turn.after t.2.fall.sound
