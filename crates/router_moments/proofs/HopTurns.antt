-- One turn of the next hops of a peer.
use Rattle.router_moments.proofs.Common.{sym, subst, ◌∙◌, ap, ◌≡◌, ℕ, refl, List, arith, ◌++◌, ◌≤◌, AddressPrefix, Route, Exited, IsExits, resolver_at, Resolvers, IsHops, AllAgree, GoesOn, candidates_are_counted, Chained, filt_rows, filt_candidates, Journaled, flushed, Adds, Entry, Line, Value, IsSent, Change, Turn, no_table, route_hop, with_metric, metric_of, CountsBeyond, adds_both, chain_at, filt_at, filt_by, Registry, AgreesWith, Interior, all_at, best_at, best_entries, live_state, Moment, best_of, own_of, with_exits, with_hops, beyonds, Stands, ExitsStand, HopsStand, journal_lines, sent_of, TakesTurn, IsWork, Decides, Taken}
use Rattle.std.proofs.Common.{Option, Some, None, is_some}
use Rattle.std.specs.FinMap as tables
use Rattle.link_change.specs.declared.turn.Turn.TheVariants as turns
use Rattle.journal_text.specs.declared.link.Task.TheVariants.{Nh}
use Rattle.hop_side.specs.Resolvers.{busy_by}
use Rattle.hop_side.specs.Steps.{TurnsBelow, ComesBelow}
use Rattle.router_moments.specs.declared.tasks.Done.TheVariants.{Nothing}
use Rattle.router_moments.specs.declared.tasks.Phase.TheVariants as phases
use Rattle.router_moments.proofs.HeardSteps.{heard_quiet, queue_views, hops_unheard}
use Rattle.router_moments.specs.Phases.{beyond_by}
use Rattle.router_moments.proofs.BestLemmas.{best_of_none}
use Rattle.router_moments.proofs.QueueLemmas.{reader_live, exits_fall}
use Rattle.router_moments.proofs.SpendLemmas.{Spent, hop_spends}
use Rattle.router_moments.proofs.StaleLemmas.{AllBefore, as_before, turned, put_before, none_goes_stale}
use Rattle.router_moments.specs.Turns.{IsHopTurn}
use Rattle.router_moments.proofs.WorkLemmas.{one_turn}
use Rattle.router_moments.proofs.HopLemmas.{all_comes, hops_fall, leads_resolved}
use Rattle.router_moments.proofs.StandLemmas.{resolver_there, speaker_there, not_zero, external_agrees}
use Rattle.router_moments.proofs.KeepLemmas.{keeps_as}

-- what the calls ask for
pub hops_sound : (m v : Moment) → v ≡ m → Stands m → IsHops v.hops
hops_sound m v view stands = subst (λ (n : Moment). IsHops n.hops) (sym view) stands.hops.sound

pub hops_agree : (m v : Moment) → v ≡ m → Stands m → AllAgree v.hops v.registry
hops_agree m v view stands = subst (λ (n : Moment). AllAgree n.hops n.registry) (sym view) stands.hops.agree

pub exits_sound : (m v : Moment) → v ≡ m → Stands m → IsExits v.exits
exits_sound m v view stands = subst (λ (n : Moment). IsExits n.exits) (sym view) stands.exits.each

-- what stands then
stands_resolved : (m : Moment) (r : Registry Interior) (h : Resolvers) (e : Exited) → Stands m → r.rows ≡ m.registry.rows → AgreesWith m.rib r → HopsStand m.chains r h → ExitsStand (with_exits (with_hops m r h) e) → Stands (with_exits (with_hops m r h) e)
stands_resolved m r h e stands rows agrees hops exits = record {
  peers = stands.peers;
  interior = stands.interior;
  registered = ap tables.get rows ∙ stands.registered;
  hops = hops;
  exits = exits;
  external = record { sound = stands.external.sound; agree = agrees };
  waits = stands.waits;
}

-- ---- what a turn does
-- the change goes on, and what is decided is decided of the best routes then
pub hop_goes : (k : ℕ) (m : Moment) (said : List Line) (m' : Moment) → Stands m → (t : IsHopTurn k m said m') → (p : AddressPrefix) × GoesOn k p t.sent m.hops m'.hops t.entries (filt_at m.chains) (filt_at m.chains)
hop_goes k m said m' stands t = t.turn.goes (filt_at m.chains) (ap filt_by t.at) stands.hops.counted

pub hop_chosen : (k : ℕ) (m : Moment) (said : List Line) (m' : Moment) (stands : Stands m) (t : IsHopTurn k m said m') (p : AddressPrefix) → GoesOn k p t.sent m.hops m'.hops t.entries (filt_at m.chains) (filt_at m.chains)
    → IsSent (best_of m) (best_at (own_of m) m.chains m'.hops) p t.decided.best
hop_chosen k m said m' stands t p goes =
    t.decided.decides (all_at (own_of m) m.chains m.hops) p (all_comes (own_of m) m.chains m.chains m.hops m'.hops k p t.sent (not_zero k (stands.peers.numbers k (ap is_some t.at)).0) goes.comes)

pub hop_works : (k : ℕ) (m : Moment) (said : List Line) (m' : Moment) → Stands m → IsHopTurn k m said m' → IsWork phases.Nh 1 m m' said
hop_works k m said m' stands t = one_turn phases.Nh m now m' said t.after (keeps_as (live_state m) m now m' (journal_lines (t.entries ++ best_entries best)) said t.after (t.lines ∙ ap (λ (es : List (Entry Value)). journal_lines (t.entries ++ es)) t.decided.lines) (record {
  leads = leads_resolved m t.chain.me m'.registry m'.hops m'.exits goes.0 t.entries best (speaker_there m stands k t.chain t.at) (reader_live m stands) goes.1.leads chosen t.queued;
  live = refl;
  stands = stands_resolved m m'.registry m'.hops m'.exits stands t.turn.agreed.others.rows (external_agrees m stands k t.chain m'.registry t.at t.turn.agreed.others)
      (hops_fall m k m.chains m.chains m'.registry m'.hops stands t.turn.agreed goes.1.counted refl (resolver_there m stands k t.chain t.at) (λ j. refl))
      (exits_fall m now best goes.0 stands stands.exits.rows t.queued chosen refl refl refl (λ rows over. over));
  heard = heard_quiet m now (journal_lines (t.entries ++ best_entries best)) (hops_unheard _ _ t.entries best goes.1.leads) (queue_views best m.exits m'.exits t.queued);
})) spent (let same = t.turn.known in omega (arith, same), omega arith) (none_goes_stale m now asked (as_before m.rib.forwarding.known m.rib.forwarding.known refl))
  where
    now : Moment
    now = with_exits (with_hops m m'.registry m'.hops) m'.exits

    best : Option (Change Route)
    best = t.decided.best

    goes : (p : AddressPrefix) × GoesOn k p t.sent m.hops m'.hops t.entries (filt_at m.chains) (filt_at m.chains)
    goes = hop_goes k m said m' stands t

    chosen : IsSent (best_of m) (best_at (own_of m) m.chains m'.hops) goes.0 t.decided.best
    chosen = hop_chosen k m said m' stands t goes.0 goes.1

    asked : AllBefore m.hops m'.hops
    asked = put_before k m.hops m'.hops t.turn.turn.resolver t.turn.turn.taken t.turn.turn.at t.turn.turn.after
        (turned route_hop with_metric (filt_candidates t.chain) (filt_rows t.chain) metric_of m.registry m'.registry t.turn.turn.resolver t.turn.turn.taken t.sent t.turn.turn.turned)

    spent : Spent phases.Nh m (with_exits (with_hops m m'.registry m'.hops) m'.exits)
    spent = hop_spends m k (filt_candidates t.chain) (filt_rows t.chain) m'.registry m'.hops m'.exits t.turn.turn.resolver t.turn.turn.taken t.sent t.decided.best t.turn.turn.at t.turn.turn.turned t.turn.turn.after
        (λ none. best_of_none k t.sent (all_at (own_of m) m.chains m'.hops) t.best t.decided none) t.queued
        (t.turn.fewer (beyonds m.chains) (subst (λ (o : Option Chained). CountsBeyond (filt_candidates t.chain) (beyond_by o)) (sym t.at) (candidates_are_counted t.chain).0))

-- ---- what the calls make of it
hop_turn : (k : ℕ) (sent : Option (Change Route)) (m m1 m' : Moment) (c : Chained) (r : Registry Interior) (h : Resolvers) (entries best : List (Entry Value)) → chain_at k m.chains ≡ Some c
    → TurnsBelow k (filt_candidates c) (filt_rows c) sent m.registry r m.hops h entries → m1 ≡ with_hops m r h → Decides k sent m1 m' best → IsHopTurn k m (journal_lines (entries ++ best)) m'
hop_turn k sent m m1 m' c r h entries best at t between d =
    let x : Decides k sent (with_hops m r h) m' best = subst (λ (n : Moment). Decides k sent n m' best) between d in
    subst (λ (n : Moment). IsHopTurn k m (journal_lines (entries ++ best)) n) (sym x.after)
    (record { chain = c; at = at; sent = sent; entries = entries; turn = t; best = best; decided = x.decided; queued = x.queued; lines = refl; after = refl })

-- by what it came to
hop_adds : (k : ℕ) (m : Moment) (c : Chained) (r : Registry Interior) (h : Resolvers) (before j : Journaled) (turn : Turn Route) → (turn ≡ turns.Nothing → ⊥) → ComesBelow k (filt_candidates c) (filt_rows c) m.registry r m.hops h before j turn
    → Adds (TurnsBelow k (filt_candidates c) (filt_rows c) (sent_of turn) m.registry r m.hops h) before j
hop_adds k m c r h before j turns.Nothing some t = absurd (some refl)
hop_adds k m c r h before j turns.Quiet some t = t
hop_adds k m c r h before j (turns.Sent change) some t = t

pub hop_took : (k : ℕ) (m v m1 m' : Moment) (c : Chained) (r : Registry Interior) (h : Resolvers) (before j l now : Journaled) (turn : Turn Route) (sent : Option (Change Route)) → (turn ≡ turns.Nothing → ⊥) → v ≡ m → Some c ≡ chain_at k v.chains
    → ComesBelow k (filt_candidates c) (filt_rows c) v.registry r v.hops h before j turn → sent ≡ sent_of turn → m1 ≡ with_hops v r h → Adds (Decides k sent m1 m') j l → now ≡ flushed l → TakesTurn (Nh k) m m' before now Taken
hop_took k m v m1 m' c r h before j l now turn sent some view at comes same between best is =
    let t = hop_adds k v c r h before j turn some comes in
    let d = subst (λ (s : Option (Change Route)). Adds (Decides k s m1 m') j l) same best in
    subst (λ (n : Moment). TakesTurn (Nh k) n m' before now Taken) view
    (journal_lines (t.0 ++ d.0), is ∙ ap flushed (adds_both before j l t.0 d.0 t.1 d.1), hop_turn k (sent_of turn) v m1 m' c r h t.0 d.0 (sym at) t.2 between d.2)

-- a peer that takes one has a number up to 64
pub hop_small : (k : ℕ) (m v : Moment) (c : Chained) → v ≡ m → Stands m → Some c ≡ chain_at k v.chains → k ≤ 64
hop_small k m v c view stands at = ((subst Stands (sym view) stands).peers.numbers k (ap is_some (sym at))).1

pub no_hops : (k : ℕ) (m v : Moment) (j : Journaled) → v ≡ m → Stands m → None ≡ chain_at k v.chains → TakesTurn (Nh k) m m j j Nothing
no_hops k m v j view stands none =
    let gone : chain_at k m.chains ≡ None = ap (λ (n : Moment). chain_at k n.chains) (sym view) ∙ sym none in
    (ap busy_by (no_table (resolver_at k m.hops) (stands.hops.same k ∙ ap is_some gone)), refl, refl)
