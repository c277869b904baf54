-- What holds between two steps.
use Rattle.std.specs.Prelude.{◌≡◌, ◌≢◌, ℕ, ◌+◌, ◌≤◌, length, Bool, true, false, is_some, IsSome, if◌then◌else◌, List, Option, Some, None}
use Rattle.std.specs.FinMap as tables
use Rattle.bgp_attr.specs.declared.speaker.Profile.{Profile}
use Rattle.bgp_attr.specs.Speakers.{Speaker}
use Rattle.event_text.specs.declared.declared.DeclaredPeer.{DeclaredPeer}
use Rattle.event_text.specs.Declarations.{peer_at}
use Rattle.in_chain.specs.Chains.{Chained}
use Rattle.hop_side.specs.Resolvers.{Resolvers, resolver_at, IsHops, AllAgree, AllCounted}
use Rattle.hop_side.specs.Steps.{HasNoInterest}
use Rattle.peer_side.specs.Peers.{Chains, chain_at, filt_at, IsPeers, AreBefore}
use Rattle.rib_route.specs.declared.Proto.{Proto}
use Rattle.rib_tree.specs.Trees.{Treed, branch_of, int_rows, IsTree, IsFull, AreNumbered}
use Rattle.rib_tree.specs.Steps.{new_tree}
use Rattle.pass_core.specs.Passed.{Passed, present}
use Rattle.policy_rules.specs.Rules.{Rule}
use Rattle.loss_chain.specs.Rows.{AllRows}
use Rattle.fanout_queue.specs.Queues.{AllLead}
use Rattle.peer_out.specs.Changes.{MayBeHeard, IsSender}
use Rattle.out_chain.specs.Chains.{OutChained}
use Rattle.exit_side.specs.Exits.{Exited, IsExits, AllStand, chain_at as exit_at}
use Rattle.rib_exit.specs.RibExits.{RibExit}
use Rattle.rib_exit.specs.Exits.{nothing_yet, IsExit, AgreesWith, StandsOver}
use Rattle.redist.specs.declared.protos.Protos.{Protos}
use Rattle.redist.specs.Protocols.{no_protos}
use Rattle.register_interest.specs.Registers.{Registry, AllStand as MatchesStand}
use Rattle.router_moments.specs.Moments.{Moment, Cored, Policies, rules_to, best_of, read_of}
use Rattle.router_moments.specs.Printable.{IsPrintableMoment}
use Rattle.rib_route.specs.Rows.{Interior}

-- the first session that no loss of the peer can name yet: the present one where the peer is up, else the next
abbrev pub open_session : DeclaredPeer → ℕ
open_session p = if p.up then p.session else p.session + 1

abbrev pub IsSilent : Bool → Chained → Type 0
IsSilent true c = Unit {0}
IsSilent false c = c.incoming.tables.live ≡ tables.empty

-- A peer and its chain: the chain has the peer's words, its lost tables are each of an earlier session, and where the peer is down
-- nothing is live.
pub record PeerStands (p : DeclaredPeer) (c : Chained) : Type 0 where
  pub words : c.peer ≡ p.words
  pub earlier : AreBefore (open_session p) c
  pub silent : IsSilent p.up c

-- exactly the declared peers have chains
abbrev pub StandsAt : Option DeclaredPeer → Option Chained → Type 0
StandsAt None None = Unit {0}
StandsAt (Some p) (Some c) = PeerStands p c
StandsAt p c = ⊥

-- Only peers that are up have an exit, that of the present session, by the peer's words and this speaker's, under the latest rules
-- of the peer's outgoing filter.
pub record IsExitOf (me : Speaker) (rules : List Rule) (p : DeclaredPeer) (c : OutChained) : Type 0 where
  pub up : p.up ≡ true
  pub session : c.session ≡ p.session
  pub words : c.peer ≡ p.words
  pub speaker : c.exit.me ≡ me
  pub latest : present c.filter ≡ Some rules

abbrev pub ExitsAt : Option Speaker → Policies → ℕ → Option DeclaredPeer → Option OutChained → Type 0
ExitsAt (Some me) policies k (Some p) (Some c) = IsExitOf me (rules_to k policies) p c
ExitsAt s policies k p None = Unit {0}
ExitsAt s policies k p c = ⊥

-- Each row of a chain, live or lost, has attributes that some neighbour's octets may hold: so what is sent of it can be read.
abbrev pub RowsWereHeard : Profile → Chains → Type 0
RowsWereHeard profile a = (k : ℕ) (c : Chained) → chain_at k a ≡ Some c → AllRows (MayBeHeard profile) c.incoming.tables

-- This speaker's words can be said.
abbrev pub MaySend : Profile → Option Speaker → Type 0
MaySend profile None = Unit {0}
MaySend profile (Some me) = IsSender profile me

-- The forwarding side reads from `local` on, by a reader that is no peer's.
pub record ReadsAs (reader : ℕ) (e : Exited) : Type 0 where
  pub live : IsSome (tables.get e.queue reader)
  pub own : (j : ℕ) (c : OutChained) → exit_at j e ≡ Some c → c.reader ≢ reader

abbrev pub ReadsOn : Option Speaker → Option ℕ → Exited → Type 0
ReadsOn (Some me) (Some reader) e = ReadsAs reader e
ReadsOn None None e = Unit {0}
ReadsOn s reader e = ⊥

-- the tree may take a step, and has no route before `local`; no protocol has more than 16 deletion stages
pub record TreeStands (speaker : Option Speaker) (t : Treed) : Type 0 where
  pub tree : IsTree t
  pub full : IsFull t
  pub few : (proto : Proto) → length (branch_of proto t).tables.deletions ≤ 16
  pub waiting : speaker ≡ None → t ≡ new_tree

-- ---- what is claimed, a record for each part
-- The peers and their chains: exactly the declared peers have one each, as many as they are, by this speaker's words, and their numbers
-- are from 1 to 64.
pub record PeersStand (local : Option Speaker) (peers : List DeclaredPeer) (a : Chains) : Type 0 where
  pub chains : IsPeers a
  pub each : (k : ℕ) → StandsAt (peer_at k peers) (chain_at k a)
  pub speaker : (k : ℕ) (c : Chained) → chain_at k a ≡ Some c → local ≡ Some c.me
  pub count : tables.len a ≡ length peers
  pub numbers : (k : ℕ) → IsSome (chain_at k a) → (1 ≤ k) × (k ≤ 64)

-- The resolvers: exactly the peers with chains have one, their next hops that aren't stale have the register's present answers, the next
-- hops which the rows of `filt.K` name are counted, and nobody else but the RIB's exit, client 0, has an interest. What the register has
-- recorded with an interest is the match that each address of its subnet has: so a change of `int` reaches exactly those that it concerns.
pub record HopsStand (a : Chains) (r : Registry Interior) (h : Resolvers) : Type 0 where
  pub sound : IsHops h
  pub same : (k : ℕ) → is_some (resolver_at k h) ≡ is_some (chain_at k a)
  pub agree : AllAgree h r
  pub counted : AllCounted (filt_at a) h
  pub strangers : (k : ℕ) → k ≢ 0 → resolver_at k h ≡ None → HasNoInterest k r
  pub matches : MatchesStand r

-- The exits, and what is sent: each row of a chain, live or lost, is one that octets may hold; what each reader hasn't taken leads to the
-- rows of `best`, and so does what each peer was sent; messages are written by the profile that was declared, and this speaker's words can
-- be said; whose sessions they are; who reads for the forwarding side; and `ebgp` and `ibgp` are the parts of what that reader has.
pub record ExitsStand (m : Moment) : Type 0 where
  pub rows : RowsWereHeard m.declared.profile m.chains
  pub each : IsExits m.exits
  pub all : AllLead m.exits.queue (best_of m)
  pub read : AllStand (best_of m) m.exits
  pub profile : m.exits.profile ≡ m.declared.profile
  pub sender : MaySend m.declared.profile m.declared.speaker
  pub sessions : (k : ℕ) → ExitsAt m.declared.speaker m.outgoing k (peer_at k m.declared.peers) (exit_at k m.exits)
  pub one : ReadsOn m.declared.speaker m.reader m.exits
  pub external : StandsOver (read_of m) m.rib

-- The RIB's exit: its next hops that aren't stale have the register's present answers.
pub record RibStands (x : RibExit) (r : Registry Interior) : Type 0 where
  pub sound : IsExit x
  pub agree : AgreesWith x r

-- Before `local` nothing is redistributed, and nothing stands in the RIB's exit.
pub record WaitsForLocal (speaker : Option Speaker) (s : Passed Protos) (x : RibExit) : Type 0 where
  pub own : speaker ≡ None → s ≡ record { in_force = no_protos; walk = None }
  pub external : speaker ≡ None → x ≡ nothing_yet

-- All that holds between two steps; the register has the rows of `int`.
pub record Stands (m : Moment) : Type 0 where
  pub peers : PeersStand m.declared.speaker m.declared.peers m.chains
  pub interior : TreeStands m.declared.speaker m.tree
  pub registered : tables.get m.registry.rows ≡ int_rows m.tree
  pub hops : HopsStand m.chains m.registry m.hops
  pub exits : ExitsStand m
  pub external : RibStands m.rib m.registry
  pub waits : WaitsForLocal m.declared.speaker m.redist m.rib

-- Each peer that is up has an exit. Within a loss this doesn't hold: the exit ends first, before the oldest stage runs to its end.
abbrev pub AllHaveExits : Moment → Type 0
AllHaveExits m = (k : ℕ) (p : DeclaredPeer) → peer_at k m.declared.peers ≡ Some p → p.up ≡ true → IsSome (exit_at k m.exits)

-- What lookups ask for: each reader is one of the queue's, and `ebgp` and `ibgp` are the parts of what the forwarding side's has.
pub record HaveReaders (m : Moment) : Type 0 where
  pub exits : IsExits m.exits
  pub reader : (r : ℕ) → m.reader ≡ Some r → IsSome (tables.get m.exits.queue r)
  pub external : StandsOver (read_of m) m.rib

-- What holds of a core between two calls, where memory didn't run out: all that stands can be printed, and losses are counted by events.
pub record CoreStands (c : Cored) : Type 0 where
  pub good : c.failed ≡ false
  pub stands : Stands c.moment
  pub printable : IsPrintableMoment c.moment
  pub exits : AllHaveExits c.moment
  pub numbered : AreNumbered c.events c.moment.tree
