-- Each peer that is up has an exit, after each event as before it.
use Rattle.router_moments.proofs.Common.{sym, subst, ◌∙◌, ap, ◌≡◌, ℕ, refl, List, true, arith, false, ◌+◌, Bool, ◌++◌, cond, nat_eq, not, ◌≢◌, ◌&&◌, nat_tests, AddressPrefix, Route, Speaker, Message, begun_words, peer_at, Declaration, with_session, without_session, begun_at, DeclaredPeer, Event, Down, Bgp, RouteAdd, RouteDel, Lose, Query, Work, Whole, Up, Redist, Exited, with_exit, Queued, Line, whole_is_first, declared_after, changes_of, OutChained, overdue_at, Rule, Proto, tree_overdue, ByPeer, IsBlock, BeginsIf, EndsIf, HearsIf, Declares, BySpeaker, Begins, DropsRouteIf, Moment, with_exits, rules_to, all_phases, Stands, AllHaveExits, HaveSameExits}
use Rattle.std.proofs.Common.{[], ◌∷◌, map, Option, Some, None, is_some}
use Rattle.std.specs.Prelude.{IsSome, option_map}
use Rattle.std.specs.FinMap as tables
use Rattle.bgp_wire.specs.declared.message.Message.TheVariants as messages
use Rattle.link_region.proofs.RegionLemmas.{by_bool}
use Rattle.event_text.specs.declared.event.Event.TheVariants.{Nothing, Local, Peer, FilterIn, FilterOut, Idle}
use Rattle.event_text.specs.Declarations.{refusal, words_of, ended_at}
use Rattle.event_text.proofs.Sessions.{KeepsWords, ended_words}
use Rattle.live_state.specs.Messages.{ends_session}
use Rattle.live_state.specs.Declared.{declared_down, declared_heard}
use Rattle.out_chain.specs.Steps.{exit_to, new_out, with_rules}
use Rattle.bgp_wire.specs.Grammar.{is_served}
use Rattle.out_chain.specs.Chains.{refreshed as walk_begun}
use Rattle.exit_side.specs.Exits.{chain_at as exit_at, refreshed_by, refreshed_exits}
use Rattle.exit_side.specs.Steps.{edited_by}
use Rattle.exit_side.proofs.SwapLemmas.{by_number}
use Rattle.exit_laws.proofs.ViewLemmas.{put_here, put_other, gone_other}
use Rattle.router_moments.proofs.BeforeLocal.{no_peer}
use Rattle.router_moments.specs.Blocks.{Loses, Hears}
use Rattle.router_moments.proofs.SessionLemmas.{number_at, silenced}
use Rattle.router_moments.proofs.PeerLemmas.{peer_at_map}
use Rattle.router_moments.proofs.TurnWalks.{same_put, turns_same, phases_same, first_same, feeds_same, route_same}

-- ---- who is up
abbrev IsUpIn : ℕ → Declaration → Type 0
IsUpIn j d = (p : DeclaredPeer) × (peer_at j d.peers ≡ Some p) × (p.up ≡ true)

of_option : (f : DeclaredPeer → DeclaredPeer) (o : Option DeclaredPeer) (q : DeclaredPeer) → option_map f o ≡ Some q → (p : DeclaredPeer) × (o ≡ Some p) × (f p ≡ q)
of_option f None q is = absurd (let clash : ◌≡◌ {A = Option DeclaredPeer} None (Some q) = is in cc)
of_option f (Some p) q is = (p, refl, let same : Some (f p) ≡ Some q = is in cc)

-- the peer that a mapped one was
was_at : (f : DeclaredPeer → DeclaredPeer) → KeepsWords f → (j : ℕ) (ps : List DeclaredPeer) (q : DeclaredPeer) → peer_at j (map f ps) ≡ Some q → (p : DeclaredPeer) × (peer_at j ps ≡ Some p) × (f p ≡ q)
was_at f keeps j ps q at = of_option f (peer_at j ps) q (sym (peer_at_map f keeps j ps) ∙ at)

-- where a session ends, who is up was up, and the peer isn't
ended_up : (k : ℕ) (p : DeclaredPeer) → (ended_at k p).up ≡ true → p.up ≡ true
ended_up k p up = elim (nat_eq p.words.number k) as (λ (b : Bool). (cond b (record { words = p.words; session = p.session; up = false }) p).up ≡ true → p.up ≡ true) [
  | true ↦ λ e. absurd (let clash : false ≡ true = e in cc)
  | false ↦ λ e. e
] up

up_ended : (d : Declaration) (k j : ℕ) → IsUpIn j (without_session d k) → IsUpIn j d
up_ended d k j is =
    let was = was_at (ended_at k) (ended_words k) j d.peers is.0 is.1 in
    (was.0, was.1, ended_up k was.0 (ap (λ (p : DeclaredPeer). p.up) was.2 ∙ is.2))

down_ended : (d : Declaration) (k : ℕ) → IsUpIn k (without_session d k) → ⊥
down_ended d k is =
    let was = was_at (ended_at k) (ended_words k) k d.peers is.0 is.1 in
    let here : nat_eq was.0.words.number k ≡ true = (let same = number_at k d.peers was.0 was.1 in grind (arith, nat_tests)) in
    let down : (ended_at k was.0).up ≡ false = ap (λ (b : Bool). (cond b (record { words = was.0.words; session = was.0.session; up = false }) was.0).up) here in
    let up : (ended_at k was.0).up ≡ true = ap (λ (p : DeclaredPeer). p.up) was.2 ∙ is.2 in
    let clash : true ≡ false = sym up ∙ down in cc

-- where one begins, who is up was up, or is the peer
begun_up : (k : ℕ) (p : DeclaredPeer) → p.words.number ≢ k → begun_at k p ≡ p
begun_up k p apart =
    let other : nat_eq p.words.number k ≡ false = grind (arith, nat_tests, apart) in
    ap (λ (b : Bool). cond (b && not p.up) (record { words = p.words; session = p.session + 1; up = true }) p) other

up_begun : (d : Declaration) (k j : ℕ) → j ≢ k → IsUpIn j (with_session d k) → IsUpIn j d
up_begun d k j apart is =
    let was = was_at (begun_at k) (begun_words k) j d.peers is.0 is.1 in
    let number : was.0.words.number ≡ j = number_at j d.peers was.0 was.1 in
    let same : begun_at k was.0 ≡ was.0 = begun_up k was.0 (λ e. apart (sym number ∙ e)) in
    (was.0, was.1, ap (λ (p : DeclaredPeer). p.up) (sym same ∙ was.2) ∙ is.2)

-- who is declared now isn't up
pushed_up : (j : ℕ) (ps : List DeclaredPeer) (new q : DeclaredPeer) → new.up ≡ false → peer_at j (ps ++ new ∷ []) ≡ Some q → q.up ≡ true → peer_at j ps ≡ Some q
pushed_up j [] new q down at up = by_bool (nat_eq new.words.number j) (λ b. cond b (Some new) None ≡ Some q → None ≡ Some q)
    (λ _ here. absurd (let same : new ≡ q = (let some : Some new ≡ Some q = here in cc) in let clash : true ≡ false = sym up ∙ ap (λ (p : DeclaredPeer). p.up) (sym same) ∙ down in cc)) (λ _ none. none) at
pushed_up j (p ∷ ps) new q down at up = by_bool (nat_eq p.words.number j) (λ b. cond b (Some p) (peer_at j (ps ++ new ∷ [])) ≡ Some q → cond b (Some p) (peer_at j ps) ≡ Some q)
    (λ _ here. here) (λ _ later. pushed_up j ps new q down later up) at

-- ---- exits
same_edited : (k : ℕ) (rules : List Rule) (o : Option OutChained) (e : Exited) → exit_at k e ≡ o → (i : ℕ) → is_some (exit_at i (edited_by k rules o e)) ≡ is_some (exit_at i e)
same_edited k rules None e at i = refl
same_edited k rules (Some c) e at i = same_put k (with_rules rules c) e.queue e (ap is_some at) i

same_refreshed : (k : ℕ) (o : Option OutChained) (e : Exited) → exit_at k e ≡ o → (i : ℕ) → is_some (exit_at i (refreshed_by k o e)) ≡ is_some (exit_at i e)
same_refreshed k None e at i = refl
same_refreshed k (Some c) e at i = same_put k (walk_begun c) e.queue e (ap is_some at) i

refreshed_exit : (k : ℕ) (m : Moment) (served : Bool) → HaveSameExits m (cond served (with_exits m (refreshed_exits k m.exits)) m)
refreshed_exit k m true i = same_refreshed k (exit_at k m.exits) m.exits refl i
refreshed_exit k m false i = refl

exits_same : (m m' : Moment) → m'.exits ≡ m.exits → HaveSameExits m m'
exits_same m m' is k = ap (λ (e : Exited). is_some (exit_at k e)) is

module _ (m m' : Moment) (all : AllHaveExits m) where
  -- no other peer is up, and the same have exits
  by_same : ((j : ℕ) → IsUpIn j m'.declared → IsUpIn j m.declared) → HaveSameExits m m' → AllHaveExits m'
  by_same ups same j p at up = let was = ups j (p, at, up) in same j ∙ all j was.0 was.1 was.2

  -- a session was lost
  lost : (k s : ℕ) (said : List Line) → Stands m → ((j : ℕ) → IsUpIn j m'.declared → IsUpIn j m.declared) → Loses k s m said m' → AllHaveExits m'
  lost k s said stands ups l j p at up = by_number j k (λ _. IsSome (exit_at j m'.exits))
      (λ is. absurd (down_ended l.between.declared k (subst (λ (n : ℕ). IsUpIn n (without_session l.between.declared k)) is (p, ap (λ (x : Moment). peer_at j x.declared.peers) (sym l.after) ∙ at, up))))
      (λ differ.
      let was = ups j (p, at, up) in
      ap (λ (x : Moment). is_some (exit_at j x.exits)) l.after ∙ ap (λ (x : Moment). is_some (exit_at j x.exits)) l.loses.after ∙ first_same (overdue_at k m.chains) (with_exits m l.silenced) l.first l.room (silenced k m l.silenced l.entries stands l.ends).stands l.runs j
      ∙ ap (λ (e : Exited). is_some (exit_at j e)) l.ends.after ∙ ap is_some (gone_other k j (tables.remove m.exits.queue l.ends.chain.reader) m.exits differ) ∙ all j was.0 was.1 was.2)

  -- one begins
  began : (me : Speaker) (k : ℕ) (p : DeclaredPeer) (said : List Line) → peer_at k m.declared.peers ≡ Some p → Begins me k p m said m' → AllHaveExits m'
  began me k p said there b j q at up =
      let number : p.words.number ≡ k = number_at k m.declared.peers p there in
      let new : OutChained = new_out (exit_to m.exits.profile me p.words) p.words (p.session + 1) b.begins.reader (rules_to k m.outgoing) in
      let queue : Queued Route = tables.insert m.exits.queue b.begins.reader [] in
      by_number j p.words.number (λ _. IsSome (exit_at j m'.exits))
      (λ is. ap (λ (e : Exited). is_some (exit_at j e)) b.begins.after ∙ ap (λ (n : ℕ). is_some (exit_at n (with_exit p.words.number new queue m.exits))) is ∙ ap is_some (put_here p.words.number new queue m.exits))
      (λ differ.
      let was = up_begun m.declared k j (λ e. differ (e ∙ sym number)) (q, ap (λ (x : Moment). peer_at j x.declared.peers) (sym b.after) ∙ at, up) in
      ap (λ (e : Exited). is_some (exit_at j e)) b.begins.after ∙ ap is_some (put_other p.words.number j new queue m.exits differ) ∙ all j was.0 was.1 was.2)

-- ---- each event
-- who is up after an event by which no session begins was up before it
abbrev OnlyUp : Declaration → Declaration → Type 0
OnlyUp d now = (j : ℕ) → IsUpIn j now → IsUpIn j d

only_if : (b : Bool) (d : Declaration) (k : ℕ) → OnlyUp d (cond b (without_session d k) d)
only_if true d k j is = up_ended d k j is
only_if false d k j is = is

only_down : (d : Declaration) (k : ℕ) (o : Option DeclaredPeer) → OnlyUp d (declared_down d k o)
only_down d k None j is = is
only_down d k (Some p) j is = only_if p.up d k j is

only_heard : (d : Declaration) (k : ℕ) (octets : List ℕ) (o : Option DeclaredPeer) → OnlyUp d (declared_heard d k octets o)
only_heard d k octets None j is = is
only_heard d k octets (Some p) j is = only_if (p.up && ends_session d.profile (not p.words.internal) octets) d k j is

module _ (m m' : Moment) (stands : Stands m) (all : AllHaveExits m) where
  by_peer : (P : DeclaredPeer → Type 0) (k : ℕ) (A : Type 0) → ((p : DeclaredPeer) → peer_at k m.declared.peers ≡ Some p → P p → A) → ByPeer P (peer_at k m.declared.peers) → A
  by_peer P k A then is = by_found (peer_at k m.declared.peers) refl is
    where
      by_found : (o : Option DeclaredPeer) → peer_at k m.declared.peers ≡ o → ByPeer P o → A
      by_found None at is = absurd is
      by_found (Some p) at is = then p at is

  -- nothing changed
  stays : m' ≡ m → AllHaveExits m'
  stays same = subst AllHaveExits (sym same) all

  declares : (s : Option Speaker) (k : ℕ) (words : Speaker) (client : Bool) (said : List Line) (turns : ℕ) → Declares m s k words client said turns m' → AllHaveExits m'
  declares None k words client said turns is j p at up = absurd is
  declares (Some me) k words client said turns is j p at up =
      ap (λ (x : Moment). is_some (exit_at j x.exits)) is.2
      ∙ all j p (pushed_up j m.declared.peers (record { words = words_of m.declared.speaker k words client; session = 0; up = false }) p refl (ap (λ (x : Moment). peer_at j x.declared.peers) (sym is.2) ∙ at) up) up

  begun_by : (s : Option Speaker) (k : ℕ) (p : DeclaredPeer) (said : List Line) → peer_at k m.declared.peers ≡ Some p → BySpeaker (λ me. Begins me k p m said m') s → AllHaveExits m'
  begun_by None k p said at is = absurd is
  begun_by (Some me) k p said at is = began m m' all me k p said at is

  begun_if : (up : Bool) (k : ℕ) (p : DeclaredPeer) (said : List Line) (turns : ℕ) → peer_at k m.declared.peers ≡ Some p → BeginsIf up m k p said turns m' → AllHaveExits m'
  begun_if true k p said turns at is = stays is.2
  begun_if false k p said turns at is = begun_by m.declared.speaker k p said at is.1

  ended_if : (up : Bool) (k : ℕ) (p : DeclaredPeer) (said : List Line) (turns : ℕ) → OnlyUp m.declared m'.declared → EndsIf up m k p said turns m' → AllHaveExits m'
  ended_if true k p said turns ups is = lost m m' all k p.session said stands ups is.1
  ended_if false k p said turns ups is = stays is.2

  heard : (k : ℕ) (p : DeclaredPeer) (message : Message) (said : List Line) → OnlyUp m.declared m'.declared → Hears k p m message said m' → AllHaveExits m'
  heard k p (messages.Update u) said ups is = by_same m m' all ups (feeds_same k (changes_of m.declared.profile u) m said m' is)
  heard k p messages.Keepalive said ups is = stays is.1
  heard k p messages.Skip said ups is = stays is.1
  heard k p (messages.Refresh r) said ups is = by_same m m' all ups (λ j. ap (λ (x : Moment). is_some (exit_at j x.exits)) is.1 ∙ refreshed_exit k m (is_served m.declared.profile.second r) j)
  heard k p messages.Notification said ups is = lost m m' all k p.session said stands ups is
  heard k p (messages.Notify n) said ups is = lost m m' all k p.session is.0 stands ups is.2

  heard_if : (up : Bool) (k : ℕ) (p : DeclaredPeer) (octets : List ℕ) (said : List Line) (turns : ℕ) → OnlyUp m.declared m'.declared → HearsIf up m k p octets said turns m' → AllHaveExits m'
  heard_if true k p octets said turns ups is = heard k p is.1.0 said ups is.1.2
  heard_if false k p octets said turns ups is = stays is.2

  dropped_if : (has : Bool) (proto : Proto) (p : AddressPrefix) (said : List Line) (turns : ℕ) → OnlyUp m.declared m'.declared → DropsRouteIf has proto p m said turns m' → AllHaveExits m'
  dropped_if true proto p said turns ups is = by_same m m' all ups (route_same m _ proto p _ said m' is.1)
  dropped_if false proto p said turns ups is = stays is.2

  -- no peer is declared
  unpeered : ((k : ℕ) → peer_at k m.declared.peers ≡ None) → m'.declared.peers ≡ m.declared.peers → AllHaveExits m'
  unpeered none same j p at up = absurd (let clash : None ≡ Some p = sym (none j) ∙ ap (peer_at j) (sym same) ∙ at in cc)

  pub event_exits : (event : Event) (said : List Line) (turns : ℕ) → refusal m.declared event ≡ None → m'.declared ≡ declared_after m.declared event → IsBlock m event said turns m' → AllHaveExits m'
  event_exits Nothing said turns admitted declared is = stays is.2
  event_exits (Whole word) said turns admitted declared is = unpeered (no_peer m stands (whole_is_first m.declared word admitted)) (ap (λ (x : Moment). x.declared.peers) is.2)
  event_exits (Local words) said turns admitted declared is = by_same m m' all (λ j up. subst (IsUpIn j) declared up) (λ k. ap (λ (x : Moment). is_some (exit_at k x.exits)) is.1.after)
  event_exits (Peer k words client) said turns admitted declared is = declares m.declared.speaker k words client said turns is
  event_exits (Up k) said turns admitted declared is = by_peer (λ p. BeginsIf p.up m k p said turns m') k _ (λ p at begins. begun_if p.up k p said turns at begins) is
  event_exits (Down k) said turns admitted declared is =
      by_peer (λ p. EndsIf p.up m k p said turns m') k _ (λ p at ends. ended_if p.up k p said turns (λ j up. only_down m.declared k (peer_at k m.declared.peers) j (subst (IsUpIn j) declared up)) ends) is
  event_exits (Bgp k octets) said turns admitted declared is =
      by_peer (λ p. HearsIf p.up m k p octets said turns m') k _ (λ p at hears. heard_if p.up k p octets said turns (λ j up. only_heard m.declared k octets (peer_at k m.declared.peers) j (subst (IsUpIn j) declared up)) hears) is
  event_exits (FilterIn k rules) said turns admitted declared is = by_same m m' all (λ j up. subst (IsUpIn j) declared up) (exits_same m m' (ap (λ (x : Moment). x.exits) is.2.2))
  event_exits (FilterOut k rules) said turns admitted declared is = by_same m m' all (λ j up. subst (IsUpIn j) declared up)
      (λ i. ap (λ (x : Moment). is_some (exit_at i x.exits)) is.2.2 ∙ ap (λ (e : Exited). is_some (exit_at i e)) is.1.after ∙ same_edited k rules (exit_at k m.exits) m.exits refl i)
  event_exits (RouteAdd p row) said turns admitted declared is = by_same m m' all (λ j up. subst (IsUpIn j) declared up) (route_same m _ row.proto p _ said m' is.1)
  event_exits (RouteDel proto p) said turns admitted declared is = dropped_if _ proto p said turns (λ j up. subst (IsUpIn j) declared up) is
  event_exits (Lose proto) said turns admitted declared is = by_same m m' all (λ j up. subst (IsUpIn j) declared up)
      (λ k. ap (λ (x : Moment). is_some (exit_at k x.exits)) is.1.after ∙ first_same (tree_overdue proto m.tree) m is.1.first is.1.room stands is.1.runs k)
  event_exits (Redist proto on) said turns admitted declared is = by_same m m' all (λ j up. subst (IsUpIn j) declared up) (exits_same m m' (ap (λ (x : Moment). x.exits) is.2))
  event_exits Idle said turns admitted declared is = by_same m m' all (λ j up. subst (IsUpIn j) declared up) (phases_same all_phases m is.inner turns m' stands is.runs)
  event_exits (Work task n) said turns admitted declared is = by_same m m' all (λ j up. subst (IsUpIn j) declared up) (turns_same turns task m is.inner m' stands is.taken)
  event_exits (Query question) said turns admitted declared is = stays is.1
