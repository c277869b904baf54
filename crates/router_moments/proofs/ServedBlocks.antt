-- Who asked for all routes again is served on by each event, and who asks is served from then on.
use Rattle.router_moments.proofs.Common.{sym, subst, ◌∙◌, ap, ◌≡◌, ℕ, refl, List, true, false, arith, ◌+◌, Bool, ◌++◌, ◌≤◌, cond, AddressPrefix, Speaker, Message, Profile, peer_at, DeclaredPeer, Event, Down, Bgp, RouteAdd, RouteDel, Lose, Query, Work, Whole, Up, Redist, Exited, Line, declared_after, changes_of, Attrs, OutChained, overdue_at, Proto, tree_overdue, ByPeer, IsBlock, BeginsIf, EndsIf, HearsIf, Declares, BySpeaker, Begins, DropsRouteIf, Moment, with_exits, rules_to, all_phases, Stands, journal_lines, FeedsAll, inl, inr, get-empty, nat_cmp, not}
use Rattle.std.proofs.Common.{[], ◌∷◌, Option, Some, None, append_assoc}
use Rattle.bgp_wire.specs.declared.message.RouteRefresh.{RouteRefresh}
use Rattle.bgp_wire.specs.declared.notice.Notice.{Notice}
use Rattle.bgp_wire.specs.declared.message.Message.TheVariants as messages
use Rattle.bgp_wire.specs.Grammar.{is_served, Reads, Answers}
use Rattle.bgp_wire.proofs.MessageLaws.{one_answer}
use Rattle.event_text.specs.declared.event.Event.TheVariants.{Nothing, Local, Peer, FilterIn, FilterOut, Idle}
use Rattle.journal_text.specs.declared.line.Line.TheVariants as lines
use Rattle.exit_side.specs.Exits.{chain_at as exit_at, no_exits, refreshed_exits}
use Rattle.exit_laws.specs.Served.{IsServed}
use Rattle.exit_laws.proofs.ServedLemmas.{serving_begins, refresh_serves, edit_serves, others_serve, end_serves, begin_serves}
use Rattle.router_moments.specs.Blocks.{Loses, Hears, refreshed}
use Rattle.router_moments.specs.Refreshes.{HasBegun, IsServedAt, ServesOn, ServesNow}
use Rattle.router_moments.specs.Moments.{bound_of}
use Rattle.router_moments.proofs.BegunSessions.{begun_follows}
use Rattle.router_moments.proofs.QueueLemmas.{queue_chains}
use Rattle.router_moments.proofs.SessionLemmas.{number_at, silenced}
use Rattle.router_moments.proofs.ServedTurns.{serves_then, route_chains, turns_serve, first_serves, just_said, idle_serves}

-- the prefixes of an UPDATE leave the chains
feeds_chains : (k : ℕ) (cs : List (AddressPrefix × Option Attrs)) (m : Moment) (said : List Line) (m' : Moment) → FeedsAll k cs m said m' → m'.exits.chains ≡ m.exits.chains
feeds_chains k [] m said m' f = ap (λ (x : Moment). x.exits.chains) f.1
feeds_chains k (c ∷ cs) m said m' f = feeds_chains k cs f.2 f.1 m' f.4 ∙ queue_chains m.exits f.2.exits f.3.1.decided.best f.3.1.queued

module _ (m m' : Moment) (stands : Stands m) (j s : ℕ) (begun : HasBegun j s m.declared) where
  -- who is served is, by these lines, whatever the sessions are then
  abbrev Serve : List Line → Type 0
  Serve said = (since : List Line) → IsServed j s m.exits since → IsServed j s m'.exits (since ++ said)

  stays : (said : List Line) → m'.exits.chains ≡ m.exits.chains → Serve said
  stays said same = others_serve m.exits m'.exits said same j s

  same_moment : (said : List Line) → m' ≡ m → Serve said
  same_moment said same = stays said (ap (λ (x : Moment). x.exits.chains) same)

  -- turns that leave the sessions
  by_turns : (said : List Line) → ServesOn m said m' → Serve said
  by_turns said serves since served = (serves j s since (record { begun = begun; served = served })).served

  -- a session is lost
  lost : (k t : ℕ) (said : List Line) → Loses k t m said m' → Serve said
  lost k t said l since served =
      let first = journal_lines l.entries in
      let silent = with_exits m l.silenced in
      let ended : IsServedAt j s silent (since ++ first) = record { begun = begun; served = end_serves k m.exits l.silenced l.entries first l.ends j s since served } in
      let room = first_serves (overdue_at k m.chains) silent l.first l.room (silenced k m l.silenced l.entries stands l.ends).stands l.runs j s (since ++ first) ended in
      let last = others_serve l.room.exits m'.exits l.last (ap (λ (x : Moment). x.exits.chains) l.after ∙ ap (λ (x : Moment). x.exits.chains) l.loses.after) j s ((since ++ first) ++ l.first) room.served in
      subst (IsServed j s m'.exits)
      (append_assoc (since ++ first) l.first l.last ∙ append_assoc since first (l.first ++ l.last) ∙ ap (λ (ls : List Line). since ++ ls) (sym l.lines)) last

  -- one begins
  began : (me : Speaker) (k : ℕ) (p : DeclaredPeer) (said : List Line) → peer_at k m.declared.peers ≡ Some p → Begins me k p m said m' → Serve said
  began me k p said there b since served =
      begin_serves me p.words (p.session + 1) (rules_to k m.outgoing) m.exits m'.exits b.entries said b.begins j s since (λ is same.
      let number : p.words.number ≡ k = number_at k m.declared.peers p there in
      let here : peer_at j m.declared.peers ≡ Some p = ap (λ (n : ℕ). peer_at n m.declared.peers) (sym is ∙ number) ∙ there in
      let peer : begun.0 ≡ p = (let both : Some begun.0 ≡ Some p = sym begun.1 ∙ here in cc) in
      let past : s ≤ p.session = subst (λ (x : DeclaredPeer). s ≤ x.session) peer begun.2 in
      omega (arith, past, same)) served

  begun_by : (local : Option Speaker) (k : ℕ) (p : DeclaredPeer) (said : List Line) → peer_at k m.declared.peers ≡ Some p → BySpeaker (λ me. Begins me k p m said m') local → Serve said
  begun_by None k p said at is = absurd is
  begun_by (Some me) k p said at is = began me k p said at is

  begun_if : (up : Bool) (k : ℕ) (p : DeclaredPeer) (said : List Line) (turns : ℕ) → peer_at k m.declared.peers ≡ Some p → BeginsIf up m k p said turns m' → Serve said
  begun_if true k p said turns at is = same_moment said is.2
  begun_if false k p said turns at is = begun_by m.declared.speaker k p said at is.1

  ended_if : (up : Bool) (k : ℕ) (p : DeclaredPeer) (said : List Line) (turns : ℕ) → EndsIf up m k p said turns m' → Serve said
  ended_if true k p said turns is = lost k p.session said is.1
  ended_if false k p said turns is = same_moment said is.2

  -- a peer asks again, where it is served or not
  refresh_if : (served : Bool) (k : ℕ) (said : List Line) → m' ≡ cond served (with_exits m (refreshed_exits k m.exits)) m → Serve said
  refresh_if true k said is since served = subst (λ (x : Moment). IsServed j s x.exits (since ++ said)) (sym is) (refresh_serves k m.exits said j s since served)
  refresh_if false k said is since served = same_moment said is since served

  notified : (k t : ℕ) (note : Line) (rest said : List Line) → said ≡ note ∷ rest → Loses k t m rest m' → Serve said
  notified k t note rest said is l since served =
      let noted = others_serve m.exits m.exits (note ∷ []) refl j s since served in
      subst (IsServed j s m'.exits) (append_assoc since (note ∷ []) rest ∙ ap (λ (ls : List Line). since ++ ls) (sym is)) (lost k t rest l (since ++ note ∷ []) noted)

  heard : (k : ℕ) (p : DeclaredPeer) (message : Message) (said : List Line) → Hears k p m message said m' → Serve said
  heard k p (messages.Update u) said is = stays said (feeds_chains k (changes_of m.declared.profile u) m said m' is)
  heard k p messages.Keepalive said is = same_moment said is.1
  heard k p messages.Skip said is = same_moment said is.1
  heard k p messages.Notification said is = lost k p.session said is
  heard k p (messages.Refresh r) said is = refresh_if (is_served m.declared.profile.second r) k said is.1
  heard k p (messages.Notify n) said is = notified k p.session _ is.0 said is.1 is.2

  heard_if : (up : Bool) (k : ℕ) (p : DeclaredPeer) (octets : List ℕ) (said : List Line) (turns : ℕ) → HearsIf up m k p octets said turns m' → Serve said
  heard_if true k p octets said turns is = heard k p is.1.0 said is.1.2
  heard_if false k p octets said turns is = same_moment said is.2

  declares : (local : Option Speaker) (k : ℕ) (words : Speaker) (client : Bool) (said : List Line) (turns : ℕ) → Declares m local k words client said turns m' → Serve said
  declares None k words client said turns is = absurd is
  declares (Some me) k words client said turns is = stays said (ap (λ (x : Moment). x.exits.chains) is.2)

  dropped_if : (has : Bool) (proto : Proto) (p : AddressPrefix) (said : List Line) (turns : ℕ) → DropsRouteIf has proto p m said turns m' → Serve said
  dropped_if true proto p said turns is = stays said (route_chains m _ proto p _ said m' is.1)
  dropped_if false proto p said turns is = same_moment said is.2

  -- before `local` nobody is up
  profiled_none : (profile : Profile) (said : List Line) → m'.exits ≡ no_exits profile → Serve said
  profiled_none profile said is since served c at session = absurd (
      let none : exit_at j m'.exits ≡ None = ap (exit_at j) is ∙ get-empty {X = OutChained} nat_cmp j in
      let clash : Some c ≡ None = sym at ∙ none in cc)

  by_peer : (P : DeclaredPeer → Type 0) (k : ℕ) (A : Type 0) → ((p : DeclaredPeer) → peer_at k m.declared.peers ≡ Some p → P p → A) → ByPeer P (peer_at k m.declared.peers) → A
  by_peer P k A then is = by_found (peer_at k m.declared.peers) refl is
    where
      by_found : (o : Option DeclaredPeer) → peer_at k m.declared.peers ≡ o → ByPeer P o → A
      by_found None at is = absurd is
      by_found (Some p) at is = then p at is

  block_serves : (event : Event) (said : List Line) (turns : ℕ) → IsBlock m event said turns m' → Serve said
  block_serves Nothing said turns is = same_moment said is.2
  block_serves (Whole word) said turns is = profiled_none _ said (ap (λ (x : Moment). x.exits) is.2)
  block_serves (Local words) said turns is = stays said (ap (λ (x : Moment). x.exits.chains) is.1.after)
  block_serves (Peer k words client) said turns is = declares m.declared.speaker k words client said turns is
  block_serves (Up k) said turns is = by_peer (λ p. BeginsIf p.up m k p said turns m') k (Serve said) (λ p at begins. begun_if p.up k p said turns at begins) is
  block_serves (Down k) said turns is = by_peer (λ p. EndsIf p.up m k p said turns m') k (Serve said) (λ p at ends. ended_if p.up k p said turns ends) is
  block_serves (Bgp k octets) said turns is = by_peer (λ p. HearsIf p.up m k p octets said turns m') k (Serve said) (λ p at hears. heard_if p.up k p octets said turns hears) is
  block_serves (FilterIn k rules) said turns is = stays said (ap (λ (x : Moment). x.exits.chains) is.2.2)
  block_serves (FilterOut k rules) said turns is = λ since served. subst (λ (e : Exited). IsServed j s e (since ++ said)) (sym (ap (λ (x : Moment). x.exits) is.2.2)) (edit_serves k rules m.exits is.0 said is.1 j s since served)
  block_serves (RouteAdd p row) said turns is = stays said (route_chains m _ row.proto p _ said m' is.1)
  block_serves (RouteDel proto p) said turns is = dropped_if _ proto p said turns is
  block_serves (Lose proto) said turns is = λ since served.
      let first = first_serves (tree_overdue proto m.tree) m is.1.first is.1.room stands is.1.runs j s since (record { begun = begun; served = served }) in
      let last = others_serve is.1.room.exits m'.exits _ (ap (λ (x : Moment). x.exits.chains) is.1.after) j s (since ++ is.1.first) first.served in
      subst (IsServed j s m'.exits) (append_assoc since is.1.first _ ∙ ap (λ (ls : List Line). since ++ ls) (sym is.1.lines)) last
  block_serves (Redist proto on) said turns is = stays said (ap (λ (x : Moment). x.exits.chains) is.2)
  block_serves Idle said turns is = by_turns said (subst (λ (ls : List Line). ServesOn m ls m') (sym is.lines) (idle_serves m m' (lines.Bound (bound_of m)) (lines.Idle turns) is.inner all_phases turns stands is.runs))
  block_serves (Work task n) said turns is = by_turns said (serves_then m m' m' is.inner (lines.Work turns ∷ []) said (turns_serve turns task m is.inner m' stands is.taken) (just_said m' (lines.Work turns)) is.lines)
  block_serves (Query question) said turns is = same_moment said is.1

pub event_serves : (m m' : Moment) (event : Event) (said : List Line) (turns : ℕ) → Stands m → m'.declared ≡ declared_after m.declared event → IsBlock m event said turns m' → ServesOn m said m'
event_serves m m' event said turns stands declared is j s since was = record {
  begun = subst (HasBegun j s) (sym declared) (begun_follows j s m.declared was.begun event);
  served = block_serves m m' stands j s was.begun event said turns is since was.served;
}

-- ---- who asks
-- octets that are a ROUTE-REFRESH say that, and nothing else
module _ (profile : Profile) (external : Bool) (octets : List ℕ) (r : RouteRefresh) (asks : Reads profile external octets (messages.Refresh r)) where
  read_as : (message : Message) → Reads profile external octets message → message ≡ messages.Refresh r
  read_as message reads = elim (one_answer profile external octets) as (λ _. message ≡ messages.Refresh r) [
    | inl one ↦ sym (one.1.2 message reads) ∙ one.1.2 (messages.Refresh r) asks
    | inr fault ↦ absurd (fault.2 (messages.Refresh r) asks)
  ]

  says_one : (message : Message) → Answers profile external octets message → message ≡ messages.Refresh r
  says_one (messages.Update u) says = read_as (messages.Update u) says
  says_one messages.Keepalive says = read_as messages.Keepalive says
  says_one messages.Skip says = read_as messages.Skip says
  says_one messages.Notification says = read_as messages.Notification says
  says_one (messages.Refresh other) says = read_as (messages.Refresh other) says
  says_one (messages.Notify n) says = elim (one_answer profile external octets) as (λ _. messages.Notify n ≡ messages.Refresh r) [
    | inl one ↦ absurd (let clash : ◌≡◌ {A = Option Notice} None (Some n) = sym one.0 ∙ says in cc)
    | inr fault ↦ absurd (fault.2 (messages.Refresh r) asks)
  ]

asked : (m m' : Moment) (k : ℕ) (p : DeclaredPeer) (r : RouteRefresh) → peer_at k m.declared.peers ≡ Some p → is_served m.declared.profile.second r ≡ true → m' ≡ refreshed k r m → IsServedAt k p.session m' []
asked m m' k p r there served is =
    let now : m' ≡ with_exits m (refreshed_exits k m.exits) = is ∙ ap (λ (b : Bool). cond b (with_exits m (refreshed_exits k m.exits)) m) served in
    subst (λ (x : Moment). IsServedAt k p.session x []) (sym now) (record { begun = (p, there, omega arith); served = serving_begins k p.session m.exits })

pub event_serves_now : (m m' : Moment) (event : Event) (said : List Line) (turns : ℕ) → IsBlock m event said turns m' → ServesNow m event m'
event_serves_now m m' event said turns is k p asks =
    let block : ByPeer (λ q. HearsIf q.up m k q asks.octets said turns m') (peer_at k m.declared.peers) = subst (λ (e : Event). IsBlock m e said turns m') asks.message is in
    let own : HearsIf p.up m k p asks.octets said turns m' = subst (ByPeer (λ q. HearsIf q.up m k q asks.octets said turns m')) asks.there block in
    let hears : HearsIf true m k p asks.octets said turns m' = subst (λ (b : Bool). HearsIf b m k p asks.octets said turns m') asks.up own in
    let same : hears.1.0 ≡ messages.Refresh asks.request = says_one m.declared.profile (not p.words.internal) asks.octets asks.request asks.says hears.1.0 hears.1.1 in
    let walk : Hears k p m (messages.Refresh asks.request) said m' = subst (λ (x : Message). Hears k p m x said m') same hears.1.2 in
    asked m m' k p asks.request asks.there asks.served walk.1
