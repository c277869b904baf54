-- What each event does, and the lines that it gives (NSDI 2005, sections 5.1 and 5.2; of messages RFC 4271, sections 3.1 and 6).
use Rattle.std.specs.Prelude.{◌≡◌, ℕ, ◌+◌, ◌≤◌, ◌<◌, ◌^◌, ◌⊎◌, Bool, true, false, List, [], ◌∷◌, ◌++◌, map, length, Contains, cond, Option, Some, None, IsSome, is_some}
use Rattle.std.specs.List.{AllByRecursion}
use Rattle.std.specs.List.Sorted.{IsStrictlySortedBy}
use Rattle.addr4.specs.Prefixes.{AddressPrefix, prefix_cmp}
use Rattle.bgp_attr.specs.Speakers.{Speaker}
use Rattle.link_change.specs.Rows.{Rows}
use Rattle.bgp_wire.specs.declared.message.Message.{Message}
use Rattle.bgp_wire.specs.declared.message.RouteRefresh.{RouteRefresh}
use Rattle.bgp_wire.specs.Grammar.{is_served}
use Rattle.bgp_wire.specs.declared.message.Message.TheVariants as messages
use Rattle.bgp_wire.specs.Spelling.{notification_octets}
use Rattle.journal_text.specs.declared.link.Link.{Link}
use Rattle.journal_text.specs.declared.link.Link.TheVariants.{In, Filt, Res, Org, Low, Dyn, Int, Red, Best, ReadRib}
use Rattle.journal_text.specs.declared.link.Task.{Task}
use Rattle.journal_text.specs.Lines.{Value}
use Rattle.journal_text.specs.Lines.{Entry}
use Rattle.journal_text.specs.declared.entry.Entry.TheVariants as entries
use Rattle.journal_text.specs.Lines.{Line}
use Rattle.journal_text.specs.declared.line.Line.TheVariants as lines
use Rattle.journal_text.specs.Walk.{Leads}
use Rattle.journal_text.specs.Texts.{entries_of}
use Rattle.event_text.specs.Event.{Event, Question}
use Rattle.event_text.specs.declared.event.Event.TheVariants.{Nothing, Whole, Local, Peer, Up, Down, Bgp, FilterIn, FilterOut, RouteAdd, RouteDel, Lose, Redist, Idle, Work, Query}
use Rattle.event_text.specs.declared.event.Question.TheVariants.{Cover, Settled, Ask, Show}
use Rattle.event_text.specs.declared.declared.DeclaredPeer.{DeclaredPeer}
use Rattle.policy_rules.specs.Rules.{Rule}
use Rattle.event_text.specs.Declarations.{peer_at, words_of, with_whole, with_speaker, with_peer, with_session, without_session}
use Rattle.std.specs.FinMap as tables
use Rattle.rib_route.specs.declared.Proto.{Proto}
use Rattle.rib_route.specs.declared.Proto.TheVariants.{Connected, Static, Ospf, Rip}
use Rattle.rib_route.specs.Rows.{Interior}
use Rattle.register_interest.specs.Width.{width}
use Rattle.register_interest.specs.Covers.{matched, IsCover}
use Rattle.rib_tree.specs.Trees.{branch_of, int_rows}
use Rattle.rib_tree.specs.Steps.{fed_tree, lost_tree, tree_overdue, tree_loss_entries}
use Rattle.rib_tree.specs.Falls.{way_of_route}
use Rattle.in_chain.specs.Steps.{new_chain}
use Rattle.hop_side.specs.Resolvers.{put_resolver}
use Rattle.nexthop_resolver.specs.Resolving.{nothing_known}
use Rattle.peer_side.specs.Peers.{Chains, chain_at, put_chain, overdue_at}
use Rattle.peer_side.specs.Steps.{EditsInward, LosesInward}
use Rattle.fanout_queue.specs.Queues.{AllBelowRead}
use Rattle.exit_side.specs.Exits.{Exited, with_queue, refreshed_exits}
use Rattle.pass_core.specs.Passed.{edited, present}
use Rattle.redist.specs.Protocols.{with_proto}
use Rattle.rib_exit.specs.Steps.{begin_entries}
use Rattle.exit_side.specs.Steps.{BeginsExit, EndsExit, EditsExit}
use Rattle.router_moments.specs.Moments.{Moment, profiled, with_chains, with_tree, with_exits, with_redist, rules_to, router_links, bound_of}
use Rattle.live_state.specs.Messages.{changes_of, Says}
use Rattle.live_state.specs.Lives.{LiveAfter}
use Rattle.router_moments.specs.Lives.{live_state}
use Rattle.router_moments.specs.Stands.{Stands}
use Rattle.journal_laws.specs.Peers.{KeepsPeers}
use Rattle.router_moments.specs.Printable.{ArePrinted, IsHeard}
use Rattle.router_moments.specs.Refreshes.{ServesOn, ServesNow}
use Rattle.router_moments.specs.Phases.{all_phases}
use Rattle.router_moments.specs.Scratch.{IsExact, Tells}
use Rattle.router_moments.specs.Turns.{journal_lines, InPeers, FeedsAll, FallsRoute, Turns, Drains, RunsAll, IsSettled, has_work}

-- exactly this is said, this is the moment after it, and no turn was taken
abbrev pub Just : List Line → Moment → List Line → ℕ → Moment → Type 0
Just these then said turns m' = (said ≡ these) × (turns ≡ 0) × (m' ≡ then)

abbrev pub begin_line : Link → Line
begin_line link = lines.Journal (entries.Begin link)

-- the links that begin with `local`: of interior routes, `red` and `best`; behind them the forwarding side begins to read, and its own
-- links begin, down to `fib`
abbrev pub first_begins : List Line
first_begins = map begin_line (Org Connected ∷ Org Static ∷ Org Ospf ∷ Org Rip ∷ Low ∷ Dyn ∷ Int ∷ Red ∷ Best ∷ [])

abbrev pub rib_begins : List Line
rib_begins = first_begins ++ lines.Journal (entries.Inherit ReadRib Best) ∷ journal_lines begin_entries

abbrev pub declared_speaker : Moment → Speaker → Moment
declared_speaker m words = record m { declared = with_speaker m.declared words }

abbrev pub declared_peer : Moment → Speaker → ℕ → Speaker → Bool → Moment
declared_peer m me k words client =
    record m { declared = with_peer m.declared k words client; chains = put_chain k (new_chain me (words_of m.declared.speaker k words client)) m.chains; hops = put_resolver k (nothing_known k) m.hops }

-- where `local` was declared, the links of a new peer begin
abbrev pub Declares : Moment → Option Speaker → ℕ → Speaker → Bool → List Line → ℕ → Moment → Type 0
Declares m None k words client said turns m' = ⊥
Declares m (Some me) k words client said turns m' =
    Just (lines.Journal (entries.Begin (In k)) ∷ lines.Journal (entries.Begin (Filt k)) ∷ lines.Journal (entries.Begin (Res k)) ∷ []) (declared_peer m me k words client) said turns m'

-- the incoming filter of peer k has these rules from now on; they hold nowhere yet
abbrev pub Refilters : ℕ → List Rule → Moment → List Line → ℕ → Moment → Type 0
Refilters k rules m said turns m' =
    (chains : Chains) × EditsInward k rules m.chains chains × Just [] (with_chains m chains) said turns m'

-- With `local` the forwarding side begins to read, by a reader of the least number that nobody had.
pub record Localizes (words : Speaker) (m : Moment) (said : List Line) (m' : Moment) : Type 0 where
  pub reader : ℕ
  pub fresh : tables.get m.exits.queue reader ≡ None
  pub least : AllBelowRead m.exits.queue reader
  pub lines : said ≡ rib_begins
  pub after : m' ≡ record (declared_speaker m words) { exits = with_queue (tables.insert m.exits.queue reader []) m.exits; reader = Some reader }

-- The outgoing filter of peer k has these rules from now on, in its session or from its next one on; they hold nowhere yet.
abbrev pub Redirects : ℕ → List Rule → Moment → List Line → ℕ → Moment → Type 0
Redirects k rules m said turns m' =
    (exits : Exited) × EditsExit k rules m.exits exits × Just [] (record m { outgoing = tables.insert m.outgoing k rules; exits = exits }) said turns m'

abbrev pub begun : Moment → ℕ → Moment
begun m k = record m { declared = with_session m.declared k }

-- A session of peer p begins: its three links begin, under the latest rules of its outgoing filter.
pub record Begins (me : Speaker) (k : ℕ) (p : DeclaredPeer) (m : Moment) (said : List Line) (m' : Moment) : Type 0 where
  pub entries : List (Entry Value)
  pub begins : BeginsExit me p.words (p.session + 1) (rules_to k m.outgoing) m.exits m'.exits entries
  pub lines : said ≡ journal_lines entries
  pub after : m' ≡ with_exits (begun m k) m'.exits

abbrev pub ended : Moment → ℕ → Moment
ended m k = record m { declared = without_session m.declared k }

-- the stage that has to go first runs to its end, if there is one
abbrev pub RunsFirst : Option Task → Moment → List Line → Moment → Type 0
RunsFirst None m said m' = (said ≡ []) × (m' ≡ m)
RunsFirst (Some task) m said m' = (turns : ℕ) × Drains task m said turns m'

-- Session s of peer k is lost: its exit ends; where 16 deletion stages stand and the routes to be lost are some, the oldest stage runs to its
-- end first; then the routes go to a stage of their own.
pub record Loses (k s : ℕ) (m : Moment) (said : List Line) (m' : Moment) : Type 0 where
  pub there : IsSome (chain_at k m.chains)
  pub silenced : Exited
  pub entries : List (Entry Value)
  pub ends : EndsExit k m.exits silenced entries
  pub first : List Line
  pub room : Moment
  pub runs : RunsFirst (overdue_at k m.chains) (with_exits m silenced) first room
  pub last : List Line
  pub between : Moment
  pub loses : InPeers (LosesInward k s room.chains) room last between
  pub lines : said ≡ journal_lines entries ++ (first ++ last)
  pub after : m' ≡ ended between k

-- A route of a protocol is the one of the event from now on; an equal one sends nothing.
abbrev pub AddsRoute : AddressPrefix → Interior → Moment → List Line → Moment → Type 0
AddsRoute p row m said m' = FallsRoute m (fed_tree m.tree row.proto p (Some row)) row.proto p (way_of_route row.proto m.tree) said m'

-- by whether the protocol has a live route at the prefix
abbrev pub DropsRouteIf : Bool → Proto → AddressPrefix → Moment → List Line → ℕ → Moment → Type 0
DropsRouteIf false proto p m said turns m' = Just (lines.Ignored ∷ []) m said turns m'
DropsRouteIf true proto p m said turns m' =
    (turns ≡ 0) × FallsRoute m (fed_tree m.tree proto p None) proto p (way_of_route proto m.tree) said m'

-- A protocol is lost: where 16 deletion stages of it stand and it has routes, the oldest stage runs to its end first; then the
-- routes go to a stage of their own.
pub record LosesProtocol (proto : Proto) (m : Moment) (said : List Line) (m' : Moment) : Type 0 where
  pub first : List Line
  pub room : Moment
  pub runs : RunsFirst (tree_overdue proto m.tree) m first room
  pub lines : said ≡ first ++ journal_lines (tree_loss_entries proto room.tree)
  pub after : m' ≡ with_tree room (lost_tree proto room.tree)

-- the longest interior route that holds the address, and the largest subnet with that answer
pub record CoversAddress (addr : ℕ) (m : Moment) (said : List Line) : Type 0 where
  pub found : Option (AddressPrefix × Interior)
  pub subnet : AddressPrefix
  pub cover : IsCover width (int_rows m.tree) addr found subnet
  pub line : said ≡ lines.Cover addr (matched found) subnet ∷ []

-- whether a prefix is settled
pub record TellsSettled (p : AddressPrefix) (m : Moment) (said : List Line) : Type 0 where
  pub answer : Option Task
  pub tells : Tells m p answer
  pub line : said ≡ lines.Settled p answer ∷ []

-- the octets of one message, of which there are 4,096 at most (RFC 4271, section 4.1)
pub record AreMessageOctets (octets : List ℕ) : Type 0 where
  pub each : AllByRecursion (λ b. b < 2 ^ 8) octets
  pub few : length octets ≤ 4096

-- a NOTIFICATION is sent, and the session is lost
abbrev pub Notifies : ℕ → ℕ → List ℕ → Moment → List Line → Moment → Type 0
Notifies k s octets m said m' = (rest : List Line) × (said ≡ lines.Note k octets ∷ rest) × Loses k s m rest m' × AreMessageOctets octets

-- A refresh that is served asks for all that the peer was sent, once more: the walk over these rows begins before all prefixes, also
-- where one is on (RFC 2918, sections 3 and 4). Any other does nothing.
abbrev pub refreshed : ℕ → RouteRefresh → Moment → Moment
refreshed k r m = cond (is_served m.declared.profile.second r) (with_exits m (refreshed_exits k m.exits)) m

-- a message came from a peer that is up
abbrev pub Hears : ℕ → DeclaredPeer → Moment → Message → List Line → Moment → Type 0
Hears k p m (messages.Update u) said m' = FeedsAll k (changes_of m.declared.profile u) m said m'
Hears k p m messages.Keepalive said m' = (said ≡ []) × (m' ≡ m)
Hears k p m messages.Skip said m' = (said ≡ []) × (m' ≡ m)
Hears k p m messages.Notification said m' = Loses k p.session m said m'
Hears k p m (messages.Refresh r) said m' = (said ≡ []) × (m' ≡ refreshed k r m)
Hears k p m (messages.Notify n) said m' = Notifies k p.session (notification_octets n.code n.subcode n.octets) m said m'

-- by whether the peer is up
abbrev pub BySpeaker : (Speaker → Type 0) → Option Speaker → Type 0
BySpeaker P None = ⊥
BySpeaker P (Some me) = P me

abbrev pub BeginsIf : Bool → Moment → ℕ → DeclaredPeer → List Line → ℕ → Moment → Type 0
BeginsIf true m k p said turns m' = Just (lines.Ignored ∷ []) m said turns m'
BeginsIf false m k p said turns m' = (turns ≡ 0) × BySpeaker (λ me. Begins me k p m said m') m.declared.speaker

abbrev pub EndsIf : Bool → Moment → ℕ → DeclaredPeer → List Line → ℕ → Moment → Type 0
EndsIf false m k p said turns m' = Just (lines.Ignored ∷ []) m said turns m'
EndsIf true m k p said turns m' = (turns ≡ 0) × Loses k p.session m said m'

abbrev pub HearsIf : Bool → Moment → ℕ → DeclaredPeer → List ℕ → List Line → ℕ → Moment → Type 0
HearsIf false m k p octets said turns m' = Just (lines.Ignored ∷ []) m said turns m'
HearsIf true m k p octets said turns m' = (turns ≡ 0) × ((message : Message) × Says m.declared.profile p octets message × Hears k p m message said m')

-- the answer of a lookup
abbrev pub answer_lines : Link → AddressPrefix → Option (Rows Value) → List Line
answer_lines link p None = lines.Absent ∷ []
answer_lines link p (Some rows) = lines.Journal (entries.Asked link p (rows p)) ∷ []

-- all rows of a link, by prefix
pub record AreRows (rows : Rows Value) (listed : List (AddressPrefix × Value)) : Type 0 where
  pub order : IsStrictlySortedBy prefix_cmp (map (λ r. r.0) listed)
  pub each : AllByRecursion (λ r. rows r.0 ≡ Some r.1) listed
  pub all : (q : AddressPrefix) → IsSome (rows q) → Contains (map (λ r. r.0) listed) q

abbrev pub Shows : Link → Option (Rows Value) → List Line → Type 0
Shows link None said = said ≡ lines.Absent ∷ []
Shows link (Some rows) said =
    (listed : List (AddressPrefix × Value)) × AreRows rows listed
    × (said ≡ map (λ r. lines.Row link r.0 r.1) listed ++ lines.Rows link (length listed) ∷ []) × (length listed < 2 ^ 128)

-- what is said to a question
abbrev pub Answers : Question → Moment → List Line → Type 0
Answers (Cover addr) m said = CoversAddress addr m said
Answers (Settled p) m said = TellsSettled p m said
Answers (Ask link p) m said = said ≡ answer_lines link p (router_links m link)
Answers (Show link) m said = Shows link (router_links m link) said

-- so many turns, at most n, and fewer only where the task then has no work
pub record Works (task : Task) (n : ℕ) (m : Moment) (said : List Line) (turns : ℕ) (m' : Moment) : Type 0 where
  pub inner : List Line
  pub taken : Turns turns task m inner m'
  pub most : turns ≤ n
  pub ended : (turns ≡ n) ⊎ (has_work task m' ≡ false)
  pub lines : said ≡ inner ++ lines.Work turns ∷ []

-- every task runs to its end, within the number of turns that is announced; then all links are what the live state alone asks for
pub record Idles (m : Moment) (said : List Line) (turns : ℕ) (m' : Moment) : Type 0 where
  pub inner : List Line
  pub runs : RunsAll all_phases m inner turns m'
  pub lines : said ≡ lines.Bound (bound_of m) ∷ (inner ++ lines.Idle turns ∷ [])
  pub within : turns ≤ bound_of m
  pub fits : bound_of m < 2 ^ 128
  pub settled : IsSettled m'
  pub exact : IsExact m'

-- what a declared peer's event does
abbrev pub ByPeer : (DeclaredPeer → Type 0) → Option DeclaredPeer → Type 0
ByPeer P None = ⊥
ByPeer P (Some p) = P p

abbrev pub IsBlock : Moment → Event → List Line → ℕ → Moment → Type 0
IsBlock m Nothing said turns m' = Just [] m said turns m'
IsBlock m (Whole word) said turns m' = Just [] (profiled m (with_whole word m.declared.profile)) said turns m'
IsBlock m (Local words) said turns m' = (turns ≡ 0) × Localizes words m said m'
IsBlock m (Peer k words client) said turns m' = Declares m m.declared.speaker k words client said turns m'
IsBlock m (Up k) said turns m' = ByPeer (λ p. BeginsIf p.up m k p said turns m') (peer_at k m.declared.peers)
IsBlock m (Down k) said turns m' = ByPeer (λ p. EndsIf p.up m k p said turns m') (peer_at k m.declared.peers)
IsBlock m (Bgp k octets) said turns m' = ByPeer (λ p. HearsIf p.up m k p octets said turns m') (peer_at k m.declared.peers)
IsBlock m (FilterIn k rules) said turns m' = Refilters k rules m said turns m'
IsBlock m (FilterOut k rules) said turns m' = Redirects k rules m said turns m'
IsBlock m (RouteAdd p row) said turns m' = (turns ≡ 0) × AddsRoute p row m said m'
IsBlock m (RouteDel proto p) said turns m' = DropsRouteIf (is_some (tables.get (branch_of proto m.tree).tables.live p)) proto p m said turns m'
IsBlock m (Lose proto) said turns m' = (turns ≡ 0) × LosesProtocol proto m said m'
IsBlock m (Redist proto on) said turns m' = Just [] (with_redist m (edited m.redist (with_proto (present m.redist) proto on))) said turns m'
IsBlock m Idle said turns m' = Idles m said turns m'
IsBlock m (Work task n) said turns m' = Works task n m said turns m'
IsBlock m (Query question) said turns m' = (turns ≡ 0) × (m' ≡ m) × Answers question m said

-- An event was stepped: its lines are as its block says, its entries obey the rules of the journal and lead from the links
-- before it to those after it, the live state is what the events alone make of it, and what holds between two steps holds. Each
-- line can be printed and read back, the peers are known by their numbers then as before, and what they reach by reading the octets of
-- what they are sent is what stands on their links `adv.J.S`. Who asked for all routes again is told them in the lines since.
pub record Acts (m : Moment) (event : Event) (turns : ℕ) (m' : Moment) (said : List Line) : Type 0 where
  pub block : IsBlock m event said turns m'
  pub leads : Leads (router_links m) (entries_of said) (router_links m')
  pub live : LiveAfter (live_state m) event (live_state m')
  pub stands : Stands m'
  pub printed : ArePrinted m.declared said
  pub peers : KeepsPeers m.declared m'.declared
  pub heard : IsHeard m said m'
  pub serves : ServesOn m said m'
  pub asked : ServesNow m event m'
