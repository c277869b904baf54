-- A change of an interior route: what follows it, and what stands then.
use Rattle.router_moments.proofs.Common.{sym, subst, ◌∙◌, ap, ◌≡◌, refl, List, arith, ◌++◌, ◌≤◌, not, AddressPrefix, Route, Speaker, unheard_joins, others_are_unheard, AreUnheard, Exited, Resolvers, PeerRows, entries_of_entries, with_entries_append, leads_append, leads_nowhere, Journaled, Adds, with_entries, entries_of, Leads, Entry, Line, Link, Value, IsSent, Rows, is_empty_map, with_row, Change, joined, with_side, Sides, Region, Decided, Redistributed, Resolved, Outward, InteriorRoutes, Forward, adds_both, filt_at, Registry, StandsOver, AgreesWith, RibExit, Proto, FibRow, Interior, tree_leads, put_all, welded_branch, Branch, LeadsTree, way_of_route, fed_tree, welded_tree, int_rows, Treed, branch_of, IsTree, tree_links, IsFull, put_branch, own_rows, all_at, best_at, best_links, best_entries, Queues, own_links, own_entries, live_state, Moment, best_of, router_links, own_of, with_tree, parts, tree_by, forward_by, Stands, ExitsStand, HopsStand, journal_lines, BelowInt, FallsRoute, Pushes, Keeps}
use Rattle.std.proofs.Common.{[], length, Option, Some, None, IsSome}
use Rattle.std.specs.FinMap as tables
use Rattle.rib_exit.specs.Exits.{exit_links as external_links, IsExit}
use Rattle.rib_exit.specs.Steps.{TakesInterior, FollowsOn}
use Rattle.link_region.specs.declared.regions.Region.TheVariants.{External}
use Rattle.rib_tree.specs.BranchSteps.{fed_branch}
use Rattle.loss_chain.specs.Steps.{live_after}
use Rattle.rib_tree.specs.Falls.{FallsTree}
use Rattle.rib_tree.specs.Steps.{tree_weld_entries}
use Rattle.live_state.specs.Lives.{with_interior, with_losses, interior_fed}
use Rattle.router_moments.specs.Printable.{IsHeard}
use Rattle.router_moments.specs.Turns.{FollowsInt, WeldsRoute}
use Rattle.router_moments.specs.Works.{Informs, Redistributes, Follows, Settles}
use Rattle.loss_chain.proofs.TableLemmas.{few_filter}
use Rattle.rib_tree.proofs.TreeParts.{welded_put, put_seen, put_kept, few_fed}
use Rattle.router_moments.proofs.HeardSteps.{heard_quiet, queue_views, below_unheard}
use Rattle.router_moments.proofs.HopLemmas.{hops_reached}
use Rattle.router_moments.proofs.QueueLemmas.{queue_external, queue_links, reader_live, exits_fall}
use Rattle.router_moments.proofs.RegionLemmas.{interior_set}
use Rattle.router_moments.proofs.RibLinks.{DecidesTo, exit_leads, own_rows_are, own_comes, leads_own, leads_down, leads_above}
use Rattle.router_moments.proofs.StandLemmas.{put_is_with, speaker_of}

-- ---- the register
-- it keeps up with `int`
pub keeps_up : (sent : Option (Change Interior)) (old int : Rows Interior) (m m1 : Moment) (entries : List (Entry Value)) (p : AddressPrefix) → BelowInt sent int m m1 entries → tables.get m.registry.rows ≡ old → IsSent old int p sent → tables.get m1.registry.rows ≡ int
keeps_up None old int m m1 entries p below is same = ap (λ (x : Moment). tables.get x.registry.rows) below.0 ∙ is ∙ sym same
keeps_up (Some change) old int m m1 entries p below is sent =
    ap tables.get below.0.informed.registers.rows ∙ put_is_with m.registry.rows change.prefix change.after ∙ ap (λ (x : Rows Interior). with_row x change.prefix change.after) is ∙ sym sent.2

-- ---- the calls one after the other
-- what follows a change that came out on `int`
pub followed : (change : Change Interior) (fib : Option (Change FibRow)) (m m1 m2 v : Moment) (before j now : Journaled) → Informs change m m1 → Adds (Redistributes change m1 m2) before j → v ≡ m2 → Adds (TakesInterior change fib v.rib) j now
    → Adds (Follows (Some change) m m2) before now
followed change fib m m1 m2 v before j now informs redistributes view takes = subst (λ (n : Moment). Adds (Follows (Some change) m n) before now) (sym own.2.after) (
  own.0 ++ takes.0,
  takes.1 ∙ ap (λ (x : Journaled). with_entries x takes.0) own.1 ∙ with_entries_append before own.0 takes.0,
  (
    record {
      me = own.2.me;
      local = own.2.local;
      informed = informs.informed;
      own_lines = own.0;
      own = own.2.own;
      fib = fib;
      fib_lines = takes.0;
      forwards = subst (λ (n : Moment). TakesInterior change fib n.rib takes.0) (view ∙ own.2.after) takes.2;
      lines = refl;
    },
    refl,
  ),
)
  where
    told : Moment
    told = record m { registry = m1.registry; hops = m1.hops; rib = m1.rib }

    own : Adds (Redistributes change told m2) before j
    own = subst (λ (n : Moment). Adds (Redistributes change n m2) before j) informs.after redistributes

-- the tree stays
pub tree_stays : (sent : Option (Change Interior)) (int : Rows Interior) (m m1 : Moment) (entries : List (Entry Value)) → BelowInt sent int m m1 entries → m1.tree ≡ m.tree
tree_stays None int m m1 entries below = ap (λ (x : Moment). x.tree) below.0
tree_stays (Some change) int m m1 entries below = ap (λ (x : Moment). x.tree) below.1

-- what follows, and the weld behind it
pub settled : (proto : Proto) (sent : Option (Change Interior)) (m m1 v : Moment) (t : Treed) (before j now : Journaled) → v ≡ m1 → Adds (Follows sent m m1) before j → t ≡ welded_tree proto v.tree → now ≡ with_entries j (tree_weld_entries proto v.tree)
    → LeadsTree v.tree (tree_weld_entries proto v.tree) t → int_rows t ≡ int_rows v.tree → IsTree t → IsFull t → Adds (Settles proto sent m (with_tree v t)) before now
settled proto sent m m1 v t before j now view under is lines leads int tree full = (
  follows.0 ++ tree_weld_entries proto m.tree,
  lines ∙ ap (λ (x : Treed). with_entries j (tree_weld_entries proto x)) same ∙ ap (λ (x : Journaled). with_entries x (tree_weld_entries proto m.tree)) follows.1 ∙ with_entries_append before follows.0 (tree_weld_entries proto m.tree),
  record {
    followed = v;
    below = follows.0;
    below_int = follows.2;
    after = ap (with_tree v) welds;
    lines = refl;
    welds = subst (WeldsRoute proto) same (record {
      leads = subst (LeadsTree v.tree (tree_weld_entries proto v.tree)) is leads;
      int = sym (ap int_rows is) ∙ int;
      tree = subst IsTree is tree;
      full = subst IsFull is full;
    });
  },
)
  where
    follows : Adds (Follows sent m v) before j
    follows = subst (λ (n : Moment). Adds (Follows sent m n) before j) (sym view) under

    same : v.tree ≡ m.tree
    same = tree_stays sent (int_rows m.tree) m v follows.0 follows.2

    welds : t ≡ welded_tree proto m.tree
    welds = is ∙ ap (welded_tree proto) same

-- the change of `best` that comes of it
abbrev pub below_best : (sent : Option (Change Interior)) (int : Rows Interior) (m m1 : Moment) (entries : List (Entry Value)) → BelowInt sent int m m1 entries → Option (Change Route)
below_best None int m m1 entries below = None
below_best (Some change) int m m1 entries below = below.0.own.decided.best

-- ---- what follows leads on, and what is claimed of it
-- the tree became this, and with it all that is below
abbrev pub replanted : Moment → Treed → Registry Interior → Resolvers → Exited → RibExit → Moment
replanted m t r h e x = record m { tree = t; registry = r; hops = h; exits = e; rib = x }

-- the links where `int` has its new rows, and what is below its old ones
abbrev grown : Moment → Treed → Sides
grown m t = with_side (parts m) InteriorRoutes (tree_by m.declared.speaker t)

pub record CarriesOn (m : Moment) (t : Treed) (p : AddressPrefix) (best : Option (Change Route)) (r : Registry Interior) (h : Resolvers) (e : Exited) (x : RibExit) (entries : List (Entry Value)) : Type 0 where
  pub leads : Leads (joined (grown m t)) entries (router_links (replanted m t r h e x))
  pub queued : Queues best m.exits e
  pub chosen : IsSent (best_of m) (best_of (replanted m t r h e x)) p best
  pub hops : HopsStand m.chains r h
  pub sound : IsExit x
  pub agree : AgreesWith x r
  pub over : (rows : Rows Route) → StandsOver rows m.rib → StandsOver rows x

carries_none : (m : Moment) (t : Treed) (p : AddressPrefix) → Stands m → int_rows t ≡ int_rows m.tree → CarriesOn m t p None m.registry m.hops m.exits m.rib []
carries_none m t p stands same = record {
  leads = leads_nowhere (joined (grown m t)) (router_links (with_tree m t)) (ap joined (interior_set m t same));
  queued = refl;
  chosen = ap (λ (int : Rows Interior). best_at (own_rows m.declared.speaker m.redist int) m.chains m.hops) same;
  hops = stands.hops;
  sound = stands.external.sound;
  agree = stands.external.agree;
  over = λ rows over. over;
}

-- this speaker's own rows move with `int`
pub own_passes : (m : Moment) (t : Treed) (p : AddressPrefix) (change : Change Interior) (m1 : Moment) (entries : List (Entry Value)) → IsSent (int_rows m.tree) (int_rows t) p (Some change) → (f : FollowsInt change (int_rows t) (with_tree m t) m1 entries)
    → IsSent (own_of m) (own_rows m.declared.speaker m.redist (int_rows t)) p f.own.own
own_passes m t p change m1 entries sent f =
    subst (λ (s : Option Speaker). IsSent (own_rows s m.redist (int_rows m.tree)) (own_rows s m.redist (int_rows t)) p f.own.own) (sym f.local) (f.own.passed (int_rows m.tree) (int_rows t) p sent)

carries_change : (m : Moment) (t : Treed) (p : AddressPrefix) (change : Change Interior) (m1 : Moment) (entries : List (Entry Value)) → Stands m → IsSent (int_rows m.tree) (int_rows t) p (Some change) → (f : FollowsInt change (int_rows t) (with_tree m t) m1 entries)
    → CarriesOn m t p f.own.decided.best m1.registry m1.hops m1.exits m1.rib entries
carries_change m t p change m1 entries stands sent f = record {
  leads = leads;
  queued = f.own.queued;
  chosen = chosen;
  hops = hops_reached m f.informed.reached m1.registry m1.hops stands f.informed.registers.interests f.informed.registers.answers f.informed.resolvers;
  sound = f.informed.external.sound;
  agree = f.informed.external.agree m.registry m1.registry stands.external.agree f.informed.registers.interests f.informed.registers.answers;
  over = f.informed.external.stays.stands;
}
  where
    s : Option Speaker
    s = m.declared.speaker

    now : Moment
    now = replanted m t m1.registry m1.hops m1.exits m1.rib

    best : Option (Change Route)
    best = f.own.decided.best

    decides : DecidesTo 0 f.own.own best (all_at (own_of now) m.chains m1.hops)
    decides = subst (λ (rows : Rows Route). DecidesTo 0 f.own.own best (all_at rows m.chains m1.hops)) (sym (own_rows_are s f.me m.redist (int_rows t) f.local)) f.own.decided.decides

    own : IsSent (own_of m) (own_of now) p f.own.own
    own = own_passes m t p change m1 entries sent f

    chosen : IsSent (best_of m) (best_of now) p best
    chosen = decides (all_at (own_of m) m.chains m.hops) p (own_comes f.own.own (own_of m) (own_of now) m.chains m.hops m1.hops p own (λ j. ap (λ (u : PeerRows). u j) (f.informed.resolvers.stays.rows (filt_at m.chains))))

    forwards : FollowsOn p f.fib m1.rib f.fib_lines (int_rows m.tree) (int_rows t)
    forwards = f.forwards.goes (int_rows m.tree) (int_rows t) p sent

    chose : Sides
    chose = with_side (with_side (grown m t) Redistributed (own_links s (own_of now))) Decided (best_links s (best_of now))

    forwarded : Sides
    forwarded = with_side chose Forward (external_links m1.rib (int_rows t))

    each : (region : Region) → forwarded region ≡ parts now region
    each Resolved = sym (f.informed.resolvers.stays.links (filt_at m.chains))
    each Forward = ap (λ (o : Option Speaker). forward_by o m1.rib (int_rows t)) (sym f.local)
    each External = sym (queue_external m.exits m1.exits best m.reader (best_of m) (best_of now) p (reader_live m stands) f.own.queued chosen)
    each Outward = sym (queue_links m.exits m1.exits best (best_of m) (best_of now) p f.own.queued chosen)
    each other = refl

    set : forwarded ≡ parts now
    set i region = each region i

    first : Leads (joined (grown m t)) (own_entries f.own.own ++ best_entries best) (joined chose)
    first = leads_own s f.me (own_of m) (own_of now) (best_of m) (best_of now) p f.own.own best (grown m t) f.local own chosen refl refl

    then : Leads (joined chose) f.fib_lines (joined forwarded)
    then = exit_leads (external_links m1.rib (int_rows m.tree)) (external_links m1.rib (int_rows t)) f.fib_lines forwards.leads chose
        (ap (λ (o : Option Speaker). forward_by o m.rib (int_rows m.tree)) f.local ∙ sym (f.informed.external.stays.links (int_rows m.tree)))

    lines : entries ≡ (own_entries f.own.own ++ best_entries best) ++ f.fib_lines
    lines = f.lines ∙ ap (λ (es : List (Entry Value)). es ++ f.fib_lines) (f.own.lines ∙ ap (λ (es : List (Entry Value)). own_entries f.own.own ++ es) f.own.decided.lines)

    leads : Leads (joined (grown m t)) entries (router_links now)
    leads = subst (λ (es : List (Entry Value)). Leads (joined (grown m t)) es (router_links now)) (sym lines)
        (subst (λ (x : Sides). Leads (joined (grown m t)) ((own_entries f.own.own ++ best_entries best) ++ f.fib_lines) (joined x)) set
        (leads_append (joined (grown m t)) (joined chose) (joined forwarded) (own_entries f.own.own ++ best_entries best) f.fib_lines first then))

-- whether a change came out or not
pub record Carried (m : Moment) (t : Treed) (p : AddressPrefix) (best : Option (Change Route)) (m1 : Moment) (entries : List (Entry Value)) : Type 0 where
  pub on : CarriesOn m t p best m1.registry m1.hops m1.exits m1.rib entries
  pub is : m1 ≡ replanted m t m1.registry m1.hops m1.exits m1.rib

carried : (m : Moment) (t : Treed) (p : AddressPrefix) (sent : Option (Change Interior)) (m1 : Moment) (entries : List (Entry Value)) → Stands m → IsSent (int_rows m.tree) (int_rows t) p sent → (below : BelowInt sent (int_rows t) (with_tree m t) m1 entries)
    → Carried m t p (below_best sent (int_rows t) (with_tree m t) m1 entries below) m1 entries
carried m t p None m1 entries stands same below =
    subst (λ (n : Moment). Carried m t p None n entries) (sym below.0) (subst (λ (es : List (Entry Value)). Carried m t p None (with_tree m t) es) (sym below.1) (record { on = carries_none m t p stands same; is = refl }))
carried m t p (Some change) m1 entries stands sent below = record { on = carries_change m t p change m1 entries stands sent below.0; is = below.1 }

-- ---- what stands where the tree became another
pub stands_replanted : (m : Moment) (me : Speaker) (t : Treed) (r : Registry Interior) (h : Resolvers) (e : Exited) (x : RibExit) → Stands m → m.declared.speaker ≡ Some me → IsTree t → IsFull t → ((proto : Proto) → length (branch_of proto t).tables.deletions ≤ 16)
    → tables.get r.rows ≡ int_rows t → HopsStand m.chains r h → IsExit x → AgreesWith x r → ExitsStand (replanted m t r h e x) → Stands (replanted m t r h e x)
stands_replanted m me t r h e x stands since tree full few registered hops sound agree exits = record {
  peers = stands.peers;
  interior = record { tree = tree; full = full; few = few; waiting = λ none. absurd (let contra : Some me ≡ None = sym since ∙ none in cc) };
  registered = registered;
  hops = hops;
  exits = exits;
  external = record {
    sound = sound;
    agree = agree;
  };
  waits = record { own = stands.waits.own; external = λ none. absurd (let contra : Some me ≡ None = sym since ∙ none in cc) };
}

-- the live state, where the part of a protocol became another: one that lost nothing more, one whose routes stay too, and one that
-- was lost
pub live_replanted : (m : Moment) (proto : Proto) (b : Branch) → b.losses ≡ (branch_of proto m.tree).losses → live_state (with_tree m (put_branch proto b m.tree)) ≡ interior_fed (live_state m) proto b.tables.live
live_replanted m proto b same i = record (live_state m) {
  interior = λ other. put_seen (λ (x : Branch). x.tables.live) proto other b m.tree i;
  losses = λ other. put_kept (λ (x : Branch). x.losses) proto b m.tree same other i;
}

pub live_stays : (m : Moment) (proto : Proto) (b : Branch) → b.losses ≡ (branch_of proto m.tree).losses → b.tables.live ≡ (branch_of proto m.tree).tables.live → live_state (with_tree m (put_branch proto b m.tree)) ≡ live_state m
live_stays m proto b losses same i = record (live_state m) {
  interior = λ other. put_kept (λ (x : Branch). x.tables.live) proto b m.tree same other i;
  losses = λ other. put_kept (λ (x : Branch). x.losses) proto b m.tree losses other i;
}

pub live_lost : (m : Moment) (proto : Proto) (b : Branch) → live_state (with_tree m (put_branch proto b m.tree)) ≡ record (live_state m) { interior = with_interior (live_state m).interior proto b.tables.live; losses = with_losses (live_state m).losses proto b.losses }
live_lost m proto b i = record (live_state m) {
  interior = λ other. put_seen (λ (x : Branch). x.tables.live) proto other b m.tree i;
  losses = λ other. put_seen (λ (x : Branch). x.losses) proto other b m.tree i;
}

-- ---- a change, what follows it, and the weld
-- as the calls make it, one after the other
pub route_fell : (m : Moment) (new : Treed) (proto : Proto) (p : AddressPrefix) (way : List Link) (sent : Option (Change Interior)) (t : Treed) (m' : Moment) (before j now : Journaled) → t ≡ new → IsSent (int_rows m.tree) (int_rows t) p sent
    → Adds (FallsTree m.tree t p way sent) before j → Adds (Settles proto sent (with_tree m t) m') j now → Pushes (λ said. FallsRoute m new proto p way said m') before now
route_fell m new proto p way sent t m' before j now at rows adds settled = (
  journal_lines (adds.0 ++ settled.0),
  adds_both before j now adds.0 settled.0 adds.1 settled.1,
  subst (λ (x : Treed). FallsRoute m x proto p way (journal_lines (adds.0 ++ settled.0)) m') at (record {
    sent = sent;
    entries = adds.0;
    falls = adds.2;
    rows = rows;
    followed = settled.2.followed;
    below = settled.2.below;
    below_int = settled.2.below_int;
    lines = ap (λ (es : List (Entry Value)). journal_lines (adds.0 ++ es)) settled.2.lines;
    welds = settled.2.welds;
    after = settled.2.after;
  }),
)

-- What stands after a change of the branch of a protocol, and what was said.
pub record Routes (m : Moment) (proto : Proto) (b : Branch) (p : AddressPrefix) (followed : Moment) (best : Option (Change Route)) (m' : Moment) (said : List Line) : Type 0 where
  pub is : m' ≡ replanted m (put_branch proto (welded_branch b) m.tree) followed.registry followed.hops followed.exits followed.rib
  pub queued : Queues best m.exits m'.exits
  pub chosen : IsSent (best_of m) (best_of m') p best
  pub leads : Leads (router_links m) (entries_of said) (router_links m')
  pub stands : Stands m'
  pub heard : IsHeard m said m'

-- the change of `best` that came of it
abbrev pub fell_best : (m : Moment) (new : Treed) (proto : Proto) (p : AddressPrefix) (way : List Link) (said : List Line) (m' : Moment) → FallsRoute m new proto p way said m' → Option (Change Route)
fell_best m new proto p way said m' f = below_best f.sent (int_rows new) (with_tree m new) f.followed f.below f.below_int

pub routes_on : (m : Moment) (me : Speaker) (proto : Proto) (b : Branch) (p : AddressPrefix) (way : List Link) (said : List Line) (m' : Moment) → Stands m → m.declared.speaker ≡ Some me → length b.tables.deletions ≤ 16
    → (f : FallsRoute m (put_branch proto b m.tree) proto p way said m') → Routes m proto b p f.followed (fell_best m (put_branch proto b m.tree) proto p way said m' f) m' said
routes_on m me proto b p way said m' stands since few f = record {
  is = is ∙ ap (λ (y : Treed). replanted m y x.registry x.hops x.exits x.rib) branch;
  queued = queued;
  chosen = subst (λ (y : Moment). IsSent (best_of m) (best_of y) p best) (sym is) chosen;
  leads = subst (λ (es : List (Entry Value)). Leads (router_links m) es (router_links m')) (sym (ap entries_of f.lines ∙ entries_of_entries all)) leads;
  stands = subst Stands (sym is) stands_then;
  heard = heard_quiet m m' said
      (subst AreUnheard (sym f.lines) (unheard_joins f.entries (f.below ++ weld) (others_are_unheard InteriorRoutes (tree_links m.tree) (tree_links t) f.entries refl (tree_leads m.tree t f.entries f.falls.leads))
      (unheard_joins f.below weld (below_unheard f.sent (int_rows t) (with_tree m t) x f.below f.below_int)
      (others_are_unheard InteriorRoutes (tree_links t) (tree_links welded) weld refl (tree_leads t welded weld f.welds.leads)))))
      (queue_views best m.exits m'.exits queued);
}
  where
    t : Treed
    t = put_branch proto b m.tree

    welded : Treed
    welded = welded_tree proto t

    weld : List (Entry Value)
    weld = tree_weld_entries proto t

    all : List (Entry Value)
    all = f.entries ++ (f.below ++ weld)

    -- what followed, before the weld
    x : Moment
    x = f.followed

    best : Option (Change Route)
    best = below_best f.sent (int_rows t) (with_tree m t) x f.below f.below_int

    c : Carried m t p best x f.below
    c = carried m t p f.sent x f.below stands f.rows f.below_int

    on : CarriesOn m t p best x.registry x.hops x.exits x.rib f.below
    on = c.on

    then : Moment
    then = replanted m welded x.registry x.hops x.exits x.rib

    is : m' ≡ then
    is = f.after ∙ ap (λ (y : Moment). with_tree y welded) c.is

    branch : welded ≡ put_branch proto (welded_branch b) m.tree
    branch = welded_put proto b m.tree

    queued : Queues best m.exits m'.exits
    queued = subst (λ (y : Moment). Queues best m.exits y.exits) (sym is) on.queued

    leads : Leads (router_links m) all (router_links m')
    leads =
        subst (λ (y : Moment). Leads (router_links m) all (router_links y)) (sym is)
        (leads_append (router_links m) (joined (grown m t)) (router_links then) f.entries (f.below ++ weld) (leads_down m me since t f.entries f.falls.leads)
        (leads_append (joined (grown m t)) (router_links (replanted m t x.registry x.hops x.exits x.rib)) (router_links then) f.below weld on.leads
        (leads_above (replanted m t x.registry x.hops x.exits x.rib) me since welded weld f.welds.leads f.welds.int)))

    few_then : (other : Proto) → length (branch_of other welded).tables.deletions ≤ 16
    few_then = subst (λ (y : Treed). (other : Proto) → length (branch_of other y).tables.deletions ≤ 16) (sym branch)
        (put_all (λ (y : Branch). length y.tables.deletions ≤ 16) proto (welded_branch b) m.tree (let less = few_filter (λ d. not (is_empty_map d.rows)) b.tables.deletions in omega (arith, few, less)) stands.interior.few)

    registered : tables.get x.registry.rows ≡ int_rows welded
    registered = keeps_up f.sent (int_rows m.tree) (int_rows t) (with_tree m t) x f.below p f.below_int stands.registered f.rows ∙ sym f.welds.int

    chosen : IsSent (best_of m) (best_of then) p best
    chosen = subst (λ (int : Rows Interior). IsSent (best_of m) (best_at (own_rows m.declared.speaker m.redist int) m.chains x.hops) p best) (sym f.welds.int) on.chosen

    stands_then : Stands then
    stands_then = stands_replanted m me welded x.registry x.hops x.exits x.rib stands since f.welds.tree f.welds.full few_then registered on.hops on.sound on.agree
        (exits_fall m then best p stands stands.exits.rows on.queued chosen refl refl refl on.over)

-- ---- a route that is set, or goes
pub routed : (m : Moment) (proto : Proto) (p : AddressPrefix) (new : Option Interior) (said : List Line) (m' : Moment) → Stands m → IsSome m.declared.speaker → FallsRoute m (fed_tree m.tree proto p new) proto p (way_of_route proto m.tree) said m'
    → Keeps (interior_fed (live_state m) proto (live_after (branch_of proto m.tree).tables.live p new)) m m' said
routed m proto p new said m' stands since f =
    let few : length (fed_branch (branch_of proto m.tree) p new).tables.deletions ≤ 16 = (let same = few_fed (branch_of proto m.tree) p new in let was = stands.interior.few proto in omega (arith, same, was)) in
    let me = speaker_of m.declared.speaker since in
    let r = routes_on m me.0 proto (fed_branch (branch_of proto m.tree) p new) p (way_of_route proto m.tree) said m' stands me.1 few f in
    record { leads = r.leads; live = ap live_state r.is ∙ live_replanted m proto (welded_branch (fed_branch (branch_of proto m.tree) p new)) refl; stands = r.stands; heard = r.heard }
