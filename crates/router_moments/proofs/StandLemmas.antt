-- What stands after a step of one chain, and what is live then.
use Rattle.router_moments.proofs.Common.{sym, subst, ◌∙◌, ap, ◌≡◌, ℕ, refl, List, true, arith, false, ◌≤◌, cond, nat_eq, ◌≢◌, FinMap, AddressPrefix, prefix_cmp, Speaker, peer_at, Declaration, DeclaredPeer, Exited, resolver_at, Resolvers, Chained, with_row, LiveState, present, put_each, chain_at, Chains, put_chain, routes_of, rules_of, Rule, Registry, AgreesWith, Interior, Treed, IsTree, live_state, Moment, with_exits, with_chains, with_tree, with_hops, Stands, StandsAt, PeerStands, ExitsStand, HopsStand, MaySettle}
use Rattle.std.proofs.Common.{Option, Some, None, length}
use Rattle.std.specs.Prelude.{IsSome, is_some}
use Rattle.std.specs.FinMap as tables
use Rattle.loss_chain.proofs.TableLemmas.{equal_by}
use Rattle.link_region.proofs.RegionLemmas.{by_bool}
use Rattle.peer_side.specs.Peers.{IsPeers, IsPeersBut}
use Rattle.peer_side.proofs.PutLemmas.{at_put, put_kept, put_seen, put_size}
use Rattle.live_state.proofs.AdmittedLemmas.{rules_same, routes_same}
use Rattle.live_state.specs.Lives.{Routes, with_routes, with_rules}
use Rattle.register_interest.specs.Registers.{put_row}
use Rattle.link_change.proofs.RowLemmas.{rows_inserted, rows_removed}
use Rattle.nexthop_resolver.specs.Registered.{KeepsOthers as OthersKept}
use Rattle.rib_exit.proofs.LawLemmas.{strangers_agree}
use Rattle.router_moments.specs.Stands.{TreeStands}
use Rattle.peer_side.proofs.WeldLemmas.{fallen_at}
use Rattle.router_moments.specs.Works.{MayFollow}

-- the moment with this declared, and these chains
abbrev pub remade : Moment → Declaration → Chains → Moment
remade m d cs = record m { declared = d; chains = cs }

-- ---- the register
-- its rows with one that was put
pub put_is_with : (rows : FinMap prefix_cmp Interior) (p : AddressPrefix) (row : Option Interior) → tables.get (put_row rows p row) ≡ with_row (tables.get rows) p row
put_is_with rows p None = rows_removed rows p
put_is_with rows p (Some row) = rows_inserted rows p row

-- ---- `local` was declared
pub speaker_of : (o : Option Speaker) → IsSome o → (me : Speaker) × (o ≡ Some me)
speaker_of None some = absurd (let contra : false ≡ true = some in cc)
speaker_of (Some me) some = (me, refl)

-- ---- one peer and its chain
stands_there : (c : Chained) (o : Option DeclaredPeer) → StandsAt o (Some c) → (p : DeclaredPeer) × (o ≡ Some p) × PeerStands p c
stands_there c None stands = absurd stands
stands_there c (Some p) stands = (p, refl, stands)

pub peer_of : (m : Moment) → Stands m → (k : ℕ) (c : Chained) → chain_at k m.chains ≡ Some c → (p : DeclaredPeer) × (peer_at k m.declared.peers ≡ Some p) × PeerStands p c
peer_of m stands k c at = stands_there c (peer_at k m.declared.peers) (subst (λ (o : Option Chained). StandsAt (peer_at k m.declared.peers) o) at (stands.peers.each k))

chain_of : (o : Option Chained) (p : DeclaredPeer) → StandsAt (Some p) o → (c : Chained) × (o ≡ Some c) × PeerStands p c
chain_of None p stands = absurd stands
chain_of (Some c) p stands = (c, refl, stands)

pub chain_there : (m : Moment) → Stands m → (k : ℕ) (p : DeclaredPeer) → peer_at k m.declared.peers ≡ Some p → (c : Chained) × (chain_at k m.chains ≡ Some c) × PeerStands p c
chain_there m stands k p at = chain_of (chain_at k m.chains) p (subst (λ (o : Option DeclaredPeer). StandsAt o (chain_at k m.chains)) at (stands.peers.each k))

pub chain_is_there : (m v : Moment) → v ≡ m → Stands m → (k : ℕ) (p : DeclaredPeer) → peer_at k m.declared.peers ≡ Some p → IsSome (chain_at k v.chains)
chain_is_there m v view stands k p at = subst (λ (n : Moment). IsSome (chain_at k n.chains)) (sym view) (ap is_some (chain_there m stands k p at).1)

pub peers_sound : (m v : Moment) → v ≡ m → Stands m → IsPeers v.chains
peers_sound m v view stands = subst (λ (n : Moment). IsPeers n.chains) (sym view) stands.peers.chains

pub tree_sound : (m v : Moment) → v ≡ m → Stands m → IsTree v.tree
tree_sound m v view stands = subst (λ (n : Moment). IsTree n.tree) (sym view) stands.interior.tree

-- ---- a peer's resolver
pub resolver_there : (m : Moment) → Stands m → (k : ℕ) (c : Chained) → chain_at k m.chains ≡ Some c → IsSome (resolver_at k m.hops)
resolver_there m stands k c at = stands.hops.same k ∙ ap is_some at

-- where another chain stands for the peer
pub same_peers : (m : Moment) (k : ℕ) (c c' : Chained) (cs : Chains) → chain_at k m.chains ≡ Some c → cs ≡ put_chain k c' m.chains → (j : ℕ) → is_some (chain_at j cs) ≡ is_some (chain_at j m.chains)
same_peers m k c c' cs at is j = ap (λ (x : Chains). is_some (chain_at j x)) is ∙ put_kept is_some k c' m.chains (ap is_some (sym at)) j

-- its speaker
pub speaker_there : (m : Moment) → Stands m → (k : ℕ) (c : Chained) → chain_at k m.chains ≡ Some c → m.declared.speaker ≡ Some c.me
speaker_there m stands k c at = stands.peers.speaker k c at

-- ---- the RIB's exit, beside peers that ask the register
pub not_zero : (k : ℕ) → 1 ≤ k → k ≢ 0
not_zero k low none = let least : 1 ≤ 0 = subst (λ (n : ℕ). 1 ≤ n) none low in absurd (omega (arith, least))

pub external_agrees : (m : Moment) → Stands m → (k : ℕ) (c : Chained) (r : Registry Interior) → chain_at k m.chains ≡ Some c → OthersKept k m.registry r → AgreesWith m.rib r
external_agrees m stands k c r at keeps = strangers_agree m.rib k m.registry r stands.external.sound (not_zero k (stands.peers.numbers k (ap is_some at)).0) keeps stands.external.agree

-- ---- what may go on
pub may_settle : (k : ℕ) (m v : Moment) (fallen : Chains) (c less : Chained) → v ≡ m → Stands m → chain_at k v.chains ≡ Some c → fallen ≡ put_chain k less v.chains → IsPeersBut k fallen → MaySettle k (with_chains v fallen)
may_settle k m v fallen c less view stands at put sound =
    let s = subst Stands (sym view) stands in
    record { chains = sound; there = ap is_some (fallen_at k v.chains fallen less put); hops = s.hops.sound; resolver = resolver_there v s k c at; agree = s.hops.agree; small = (s.peers.numbers k (ap is_some at)).1; exits = s.exits.each }

pub may_follow : (m v : Moment) (t : Treed) → v ≡ m → Stands m → IsSome v.declared.speaker → MayFollow (with_tree v t)
may_follow m v t view stands since = let s = subst Stands (sym view) stands in record { hops = s.hops.sound; rib = s.external.sound; exits = s.exits.each; since = since }

-- ---- all peers
-- the same speaker, as many peers, and the others' sessions as they were
pub record KeepsOthers (k : ℕ) (before now : Declaration) : Type 0 where
  pub speaker : now.speaker ≡ before.speaker
  pub count : length now.peers ≡ length before.peers
  pub others : (j : ℕ) → nat_eq j k ≡ false → peer_at j now.peers ≡ peer_at j before.peers

pub stands_put : (m : Moment) (now : Declaration) (k : ℕ) (c c' : Chained) (cs : Chains) (r : Registry Interior) (h : Resolvers) (e : Exited) → Stands m → chain_at k m.chains ≡ Some c → cs ≡ put_chain k c' m.chains → IsPeers cs → c'.me ≡ c.me
    → KeepsOthers k m.declared now → StandsAt (peer_at k now.peers) (Some c') → r.rows ≡ m.registry.rows → AgreesWith m.rib r → HopsStand cs r h
    → ExitsStand (with_exits (with_hops (remade m now cs) r h) e) → Stands (with_exits (with_hops (remade m now cs) r h) e)
stands_put m now k c c' cs r h e stands at is peers me keeps own_peer rows agrees hops_then exits_then = subst (λ (x : Chains). Stands (with_exits (with_hops (remade m now x) r h) e)) (sym is) (record {
  peers = record {
    chains = subst IsPeers is peers;
    each = λ j. subst (λ (o : Option Chained). StandsAt (peer_at j now.peers) o) (sym (at_put k c' m.chains j))
        (by_bool (nat_eq j k) (λ b. StandsAt (peer_at j now.peers) (cond b (Some c') (chain_at j m.chains)))
        (λ e. subst (λ (n : ℕ). StandsAt (peer_at n now.peers) (Some c')) (sym (equal_by j k e)) own_peer)
        (λ e. subst (λ (o : Option DeclaredPeer). StandsAt o (chain_at j m.chains)) (sym (keeps.others j e)) (stands.peers.each j)));
    speaker = put_each (λ j d. now.speaker ≡ Some d.me) k c' m.chains (keeps.speaker ∙ stands.peers.speaker k c at ∙ ap Some (sym me)) (λ j d there. keeps.speaker ∙ stands.peers.speaker j d there);
    count = put_size k c c' m.chains at ∙ stands.peers.count ∙ sym keeps.count;
    numbers = λ j some. stands.peers.numbers j (sym (same_peers m k c c' (put_chain k c' m.chains) at refl j) ∙ some);
  };
  interior = subst (λ (s : Option Speaker). TreeStands s m.tree) (sym keeps.speaker) stands.interior;
  registered = ap tables.get rows ∙ stands.registered;
  hops = subst (λ (x : Chains). HopsStand x r h) is hops_then;
  exits = subst (λ (x : Chains). ExitsStand (with_exits (with_hops (remade m now x) r h) e)) is exits_then;
  external = record { sound = stands.external.sound; agree = agrees };
  waits = record { own = λ none. stands.waits.own (sym keeps.speaker ∙ none); external = λ none. stands.waits.external (sym keeps.speaker ∙ none) };
})

pub stands_with : (m : Moment) (k : ℕ) (c c' : Chained) (cs : Chains) (r : Registry Interior) (h : Resolvers) (e : Exited) (p : DeclaredPeer) → Stands m → chain_at k m.chains ≡ Some c → cs ≡ put_chain k c' m.chains → IsPeers cs → c'.me ≡ c.me → peer_at k m.declared.peers ≡ Some p
    → PeerStands p c' → r.rows ≡ m.registry.rows → AgreesWith m.rib r → HopsStand cs r h → ExitsStand (with_exits (with_hops (with_chains m cs) r h) e) → Stands (with_exits (with_hops (with_chains m cs) r h) e)
stands_with m k c c' cs r h e p stands at is peers me peer here rows agrees hops exits =
    stands_put m m.declared k c c' cs r h e stands at is peers me (record { speaker = refl; count = refl; others = λ j e. refl }) (subst (λ (o : Option DeclaredPeer). StandsAt o (Some c')) (sym peer) here) rows agrees hops exits

-- ---- what is live
abbrev pub live_by : Moment → Declaration → (ℕ → Routes) → (ℕ → List Rule) → LiveState
live_by m d routes rules = record (live_state m) { declared = d; routes = routes; rules = rules }

-- the live state after a step of one chain
live_with : (m : Moment) (now : Declaration) (k : ℕ) (c' : Chained)
    → live_state (remade m now (put_chain k c' m.chains)) ≡ live_by m now (with_routes (live_state m).routes k c'.incoming.tables.live) (with_rules (live_state m).rules k (present c'.filter))
live_with m now k c' i = live_by m now (λ j. put_seen routes_of k c' m.chains j i) (λ j. put_seen rules_of k c' m.chains j i)

pub routes_there : (m : Moment) (k : ℕ) (c : Chained) → chain_at k m.chains ≡ Some c → (live_state m).routes k ≡ c.incoming.tables.live
routes_there m k c at = ap routes_of at

-- where the rules stay
pub live_routed : (m : Moment) (now : Declaration) (k : ℕ) (c c' : Chained) (cs : Chains) → chain_at k m.chains ≡ Some c → cs ≡ put_chain k c' m.chains → present c'.filter ≡ present c.filter
    → live_state (remade m now cs) ≡ live_by m now (with_routes (live_state m).routes k c'.incoming.tables.live) (live_state m).rules
live_routed m now k c c' cs at is same =
    ap (λ (x : Chains). live_state (remade m now x)) is ∙ live_with m now k c'
    ∙ ap (live_by m now (with_routes (live_state m).routes k c'.incoming.tables.live)) (rules_same (live_state m).rules k (present c'.filter) (ap rules_of at ∙ sym same))

-- where the routes stay
pub live_edited : (m : Moment) (k : ℕ) (c c' : Chained) (cs : Chains) → chain_at k m.chains ≡ Some c → cs ≡ put_chain k c' m.chains → c'.incoming.tables.live ≡ c.incoming.tables.live
    → live_state (with_chains m cs) ≡ live_by m m.declared (live_state m).routes (with_rules (live_state m).rules k (present c'.filter))
live_edited m k c c' cs at is same =
    ap (λ (x : Chains). live_state (with_chains m x)) is ∙ live_with m m.declared k c'
    ∙ ap (λ (r : ℕ → Routes). live_by m m.declared r (with_rules (live_state m).rules k (present c'.filter))) (routes_same (live_state m).routes k c'.incoming.tables.live (routes_there m k c at ∙ sym same))

-- where both stay
pub live_same : (m : Moment) (k : ℕ) (c c' : Chained) (cs : Chains) → chain_at k m.chains ≡ Some c → cs ≡ put_chain k c' m.chains → c'.incoming.tables.live ≡ c.incoming.tables.live → present c'.filter ≡ present c.filter
    → live_state (with_chains m cs) ≡ live_state m
live_same m k c c' cs at is same kept =
    live_routed m m.declared k c c' cs at is kept
    ∙ ap (λ (r : ℕ → Routes). live_by m m.declared r (live_state m).rules) (routes_same (live_state m).routes k c'.incoming.tables.live (routes_there m k c at ∙ sym same))
