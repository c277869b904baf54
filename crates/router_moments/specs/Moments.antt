-- What contracts see of the router between two steps.
use Rattle.std.specs.Prelude.{◌≡◌, ℕ, ◌+◌, ◌*◌, length, Bool, nat_lt, if◌then◌else◌, List, [], ◌∷◌, Option, Some, None, refl}
use Rattle.std.specs.FinMap as tables
use Rattle.std.specs.Coded.{Coded, code_by, coded×, coded_ℕ, coded_bool}
use Rattle.bgp_attr.specs.Speakers.{Speaker}
use Rattle.rib_route.specs.Rows.{Interior}
use Rattle.register_interest.specs.Registers.{Registry}
use Rattle.journal_text.specs.Lines.{Value}
use Rattle.journal_text.specs.Lines.{Line}
use Rattle.journal_text.specs.Walk.{Links}
use Rattle.journal_text.specs.Journals.{Journaled, with_lines, flushed}
use Rattle.event_text.specs.Declarations.{Declaration, no_declaration, plain_of, with_profile}
use Rattle.event_text.specs.FileEvents.{with_ipv6}
use Rattle.rib_tree.specs.Trees.{Treed, tree_count, tree_links, int_rows, int_candidates}
use Rattle.rib_tree.specs.Steps.{new_tree}
use Rattle.pass_core.specs.Passed.{Passed}
use Rattle.redist.specs.declared.protos.Protos.{Protos}
use Rattle.redist.specs.Protocols.{no_protos}
use Rattle.rib_exit.specs.RibExits.{RibExit}
use Rattle.rib_exit.specs.Exits.{nothing_yet, exit_links as external_links, known_in as external_known}
use Rattle.link_region.specs.declared.regions.Region.TheVariants.{Inward, Resolved, Decided, InteriorRoutes, Redistributed, Forward, External, Outward}
use Rattle.link_region.specs.Regions.{Sides, joined}
use Rattle.hop_side.specs.Resolvers.{Resolvers, hop_links, known_in}
use Rattle.peer_side.specs.Peers.{Chains, peer_links, filt_at, rows_in}
use Rattle.decision.specs.Branches.{best_candidates}
use Rattle.router_moments.specs.Bests.{own_rows, own_links, best_at, best_links, lent_candidates}
use Rattle.std.specs.FinMap.{FinMap}
use Rattle.std.specs.Ordering.{nat_cmp}
use Rattle.bgp_attr.specs.Routes.{Route}
use Rattle.bgp_attr.specs.declared.speaker.Profile.{Profile}
use Rattle.link_change.specs.Rows.{Rows, Candidates, no_rows}
use Rattle.link_change.specs.Changes.{Change}
use Rattle.policy_rules.specs.Rules.{Rule}
use Rattle.journal_text.specs.declared.link.Link.TheVariants.{ReadRib}
use Rattle.journal_text.specs.Values.{route_rows}
use Rattle.fanout_queue.specs.Queues.{Queued}
use Rattle.fanout_queue.specs.Readers.{read_rows}
use Rattle.exit_side.specs.Exits.{Exited, no_exits, written_by, exit_links}

-- the latest rules of each peer's outgoing filter
abbrev pub Policies : Type 0
Policies = FinMap nat_cmp (List Rule)

abbrev pub rules_by : Option (List Rule) → List Rule
rules_by None = []
rules_by (Some rules) = rules

abbrev pub rules_to : ℕ → Policies → List Rule
rules_to j policies = rules_by (tables.get policies j)

-- what was declared, the tree of the interior routes, the register of those, each peer's chain, below it each peer's resolver, the
-- rules of the outgoing filters, the exits of the peers that are up, and the reader of the forwarding side, from `local` on; the
-- protocols that are redistributed, and the RIB's exit, down to the forwarding table
pub record Moment : Type 0 where
  pub declared : Declaration
  pub tree : Treed
  pub registry : Registry Interior
  pub chains : Chains
  pub hops : Resolvers
  pub outgoing : Policies
  pub exits : Exited
  pub reader : Option ℕ
  pub redist : Passed Protos
  pub rib : RibExit

abbrev pub moment_code : Coded Declaration → Coded Treed → Coded (Registry Interior) → Coded Chains → Coded Resolvers → Coded Policies → Coded Exited → Coded (Option ℕ) → Coded (Passed Protos) → Coded RibExit → Coded Moment
moment_code d t r c h p e o s x =
    code_by (((Declaration × Treed) × (Registry Interior × (Chains × Resolvers))) × (Policies × ((Exited × Option ℕ) × (Passed Protos × RibExit)))) (coded× (coded× (coded× d t) (coded× r (coded× c h))) (coded× p (coded× (coded× e o) (coded× s x))))
    (λ a. (((a.declared, a.tree), (a.registry, (a.chains, a.hops))), (a.outgoing, ((a.exits, a.reader), (a.redist, a.rib)))))
    (λ x. record { declared = x.0.0.0; tree = x.0.0.1; registry = x.0.1.0; chains = x.0.1.1.0; hops = x.0.1.1.1; outgoing = x.1.0; exits = x.1.1.0.0; reader = x.1.1.0.1; redist = x.1.1.1.0; rib = x.1.1.1.1 }) (λ _. refl)

-- the moment, how many events were stepped, and whether memory ran out
pub record Cored : Type 0 where
  pub moment : Moment
  pub events : ℕ
  pub failed : Bool

abbrev pub cored_code : Coded Moment → Coded Cored
cored_code m =
    code_by (Moment × (ℕ × Bool)) (coded× m (coded× coded_ℕ coded_bool))
    (λ a. (a.moment, (a.events, a.failed))) (λ p. record { moment = p.0; events = p.1.0; failed = p.1.1 }) (λ _. refl)

-- nothing is declared, and no link is live, in the network of a family
abbrev pub first_moment : Bool → Moment
first_moment v6 = record { declared = no_declaration v6; tree = new_tree; registry = record { rows = tables.empty; interests = tables.empty }; chains = tables.empty; hops = tables.empty; outgoing = tables.empty; exits = no_exits (plain_of v6); reader = None; redist = record { in_force = no_protos; walk = None }; rib = nothing_yet }

-- before `local`, where messages are read and written by this profile from now on
abbrev pub profiled : Moment → Profile → Moment
profiled m profile = record m { declared = with_profile m.declared profile; exits = no_exits profile }

-- behind `local6`, in IPv4's network: routes of IPv6 are read in messages from now on, and all else stays
abbrev pub spoken : Moment → Moment
spoken m = record m { declared = with_profile m.declared (with_ipv6 m.declared.profile); exits = written_by (with_ipv6 m.declared.profile) m.exits }

-- the peers' chains became these
abbrev pub with_chains : Moment → Chains → Moment
with_chains m a = record m { chains = a }

-- the resolvers became these, and the register, which they ask
abbrev pub with_hops : Moment → Registry Interior → Resolvers → Moment
with_hops m r h = record m { registry = r; hops = h }

-- the exits became these
abbrev pub with_exits : Moment → Exited → Moment
with_exits m e = record m { exits = e }

-- the interior routes became these
abbrev pub with_tree : Moment → Treed → Moment
with_tree m t = record m { tree = t }

-- the RIB's exit became this, and the register, which it asks
abbrev pub with_rib : Moment → Registry Interior → RibExit → Moment
with_rib m r x = record m { registry = r; rib = x }

-- the redistributed protocols, or the walk over `int`, became these
abbrev pub with_redist : Moment → Passed Protos → Moment
with_redist m s = record m { redist = s }

-- the links of the tree: they are live where `local` was declared
abbrev pub tree_by : Option Speaker → Treed → Links Value
tree_by None t link = None
tree_by (Some me) t link = tree_links t link

-- and so are the links of the external routes, and `fib`
abbrev pub forward_by : Option Speaker → RibExit → Rows Interior → Links Value
forward_by None x int link = None
forward_by (Some me) x int link = external_links x int link

-- ---- the rows of `red` and `best`, and where walks over `best` go
abbrev pub own_of : Moment → Rows Route
own_of m = own_rows m.declared.speaker m.redist (int_rows m.tree)

abbrev pub best_of : Moment → Rows Route
best_of m = best_at (own_of m) m.chains m.hops

abbrev pub candidates_of : Moment → Candidates
candidates_of m = best_candidates (lent_candidates (int_candidates m.tree) m.chains)

-- `read.rib`, from `local` on: what the reader of the forwarding side has
abbrev pub read_by : Queued Route → Option ℕ → Rows Route → Option (Rows Value)
read_by queued None best = None
read_by queued (Some reader) best = Some (route_rows (read_rows queued reader best))

abbrev pub read_links : Queued Route → Option ℕ → Rows Route → Links Value
read_links queued reader best ReadRib = read_by queued reader best
read_links queued reader best other = None

-- what the reader of the forwarding side has of the best routes: nothing before `local`
abbrev pub read_rows_by : Queued Route → Option ℕ → Rows Route → Rows Route
read_rows_by queued None best = no_rows
read_rows_by queued (Some reader) best = read_rows queued reader best

abbrev pub read_of : Moment → Rows Route
read_of m = read_rows_by m.exits.queue m.reader (best_of m)

-- the most changes that a reader hasn't taken
abbrev pub longest_of : List (List (Change Route)) → ℕ
longest_of [] = 0
longest_of (unread ∷ more) = if nat_lt (length unread) (longest_of more) then longest_of more else length unread

abbrev pub most_unread : Exited → ℕ
most_unread e = longest_of (tables.values e.queue)

-- the links of each region
abbrev pub parts : Moment → Sides
parts m Inward = peer_links m.chains
parts m Resolved = hop_links m.hops (filt_at m.chains)
parts m Decided = best_links m.declared.speaker (best_of m)
parts m InteriorRoutes = tree_by m.declared.speaker m.tree
parts m Redistributed = own_links m.declared.speaker (own_of m)
parts m External = read_links m.exits.queue m.reader (best_of m)
parts m Forward = forward_by m.declared.speaker m.rib (int_rows m.tree)
parts m Outward = exit_links m.exits (best_of m)

-- the live links and their rows
abbrev pub router_links : Moment → Links Value
router_links m = joined (parts m)

-- how many turns an idle takes at most
abbrev pub bound_of : Moment → ℕ
bound_of m = (length m.declared.peers + 2) * (most_unread m.exits + 9 * (rows_in m.chains + tree_count m.tree) + 2 * (known_in m.hops + external_known m.rib) + 6)

-- these lines were given, in the text of the journal, and this is said of them
abbrev pub Gives : (List Line → Type 0) → Journaled → Journaled → Type 0
Gives P before now = (lines : List Line) × (now ≡ flushed (with_lines before lines)) × P lines
