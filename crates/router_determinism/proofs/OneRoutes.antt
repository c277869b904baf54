-- A change of an interior route, and all that follows it, leaves no choice; nor do turns of redistribution, and of what goes to `fib`.
use Rattle.router_moments.proofs.Common.{same_Some, sym, subst, ◌∙◌, ap, ◌≡◌, ℕ, refl, List, ◌++◌, AddressPrefix, Route, Rows, IsSent, Change, Entry, Line, Value, Resolvers, filt_at, Registry, Interior, Exited, Queued, Takes, Treed, int_rows, int_candidates, welded_tree, branch_of, RibExit, Proto, Link, Speaker, Passed, Protos, redistributed, passed_rows, own_entries, all_at, Moment, own_of, best_of, with_exits, with_tree, read_rows, read_rows_by, StandsOver, Stands, journal_lines, FallsRoute, BelowInt, sent_entries, route_value, with_queue}
use Rattle.std.proofs.Common.{Option, Some, None}
use Rattle.rib_tree.specs.Falls.{FallsTree, way_of_sweep}
use Rattle.rib_tree.specs.Steps.{swept_tree, tree_weld_entries}
use Rattle.pass_core.specs.Turns.{IsPassedOn, Walks}
use Rattle.rib_exit.specs.Steps.{TakesInterior, TakesExternal}
use Rattle.journal_text.specs.declared.link.Link.TheVariants.{ReadRib}
use Rattle.chain_determinism.specs.Laws as chains
use Rattle.forward_determinism.specs.Laws as forward
use Rattle.stage_determinism.proofs.OneLemmas.{passed_is_one, walk_is_one}
use Rattle.router_moments.specs.Moments.{with_redist, with_rib}
use Rattle.exit_determinism.specs.Laws.{PutIsOne, TakenIsOne}
use Rattle.router_determinism.specs.Parts.{HopsAreOne}
use Rattle.router_moments.specs.Turns.{FollowsInt, IsRouteTurn, IsOwnTurn, IsReadTurn, IsExternalTurn}
use Rattle.router_moments.proofs.RibLinks.{own_comes}
use Rattle.router_moments.proofs.OwnTurns.{own_sent}
use Rattle.router_moments.proofs.ExitTurns.{taken_sent}
use Rattle.router_determinism.proofs.OneHops.{informing_is_one}
use Rattle.router_determinism.proofs.OneBests.{decision_is_one, queue_is_one}

-- the moments behind a change of `int` are one where their parts are
same_below : (m : Moment) (r s : Registry Interior) (h i : Resolvers) (e f : Exited) (x y : RibExit) → r ≡ s → h ≡ i → e ≡ f → x ≡ y
    → record m { registry = r; hops = h; exits = e; rib = x } ≡ record m { registry = s; hops = i; exits = f; rib = y }
same_below m r s h i e f x y registry hops exits rib =
    ap (λ (u : Registry Interior). record m { registry = u; hops = h; exits = e; rib = x }) registry
    ∙ ap (λ (u : Resolvers). record m { registry = s; hops = u; exits = e; rib = x }) hops
    ∙ ap (λ (u : Exited). record m { registry = s; hops = i; exits = u; rib = x }) exits
    ∙ ap (λ (u : RibExit). record m { registry = s; hops = i; exits = f; rib = u }) rib

-- ---- what follows a change of `int`
module _ (hops : HopsAreOne) (reached : forward.ReachedIsOne) (puts : PutIsOne) (interior : forward.InteriorIsOne) (m : Moment) (t : Treed) (p : AddressPrefix) (change : Change Interior) (m1 m2 : Moment) (xs ys : List (Entry Value))
    (sent : IsSent (int_rows m.tree) (int_rows t) p (Some change)) (f : FollowsInt change (int_rows t) (with_tree m t) m1 xs) (g : FollowsInt change (int_rows t) (with_tree m t) m2 ys) where
  me : g.me ≡ f.me
  me = same_Some g.me f.me (sym g.local ∙ f.local)

  informed : (m1.registry ≡ m2.registry) × (m1.hops ≡ m2.hops) × (m1.rib ≡ m2.rib)
  informed = informing_is_one hops reached change m.registry m1.registry m2.registry m.hops m1.hops m2.hops m.rib m1.rib m2.rib f.informed g.informed

  own : f.own.own ≡ g.own.own
  own = passed_is_one (redistributed f.me) m.redist change f.own.own g.own.own sent.1.1 f.own.passed (subst (λ (s : Speaker). IsPassedOn (redistributed s) m.redist change g.own.own) me g.own.passed)

  abbrev mine : Speaker → Rows Route
  mine s = passed_rows (redistributed s) m.redist (int_rows t)

  decided : (f.own.decided.best ≡ g.own.decided.best) × (f.own.best ≡ g.own.best)
  decided = decision_is_one 0 f.own.own g.own.own (all_at (passed_rows (redistributed f.me) m.redist (int_rows m.tree)) m.chains m.hops) (all_at (mine f.me) m.chains m1.hops) (all_at (mine g.me) m.chains m2.hops) p f.own.best g.own.best own
      (ap (λ (s : Speaker). all_at (mine s) m.chains m1.hops) (sym me) ∙ ap (λ (h : Resolvers). all_at (mine g.me) m.chains h) informed.1)
      (own_comes f.own.own (passed_rows (redistributed f.me) m.redist (int_rows m.tree)) (mine f.me) m.chains m.hops m1.hops p (f.own.passed (int_rows m.tree) (int_rows t) p sent)
      (λ j. ap (λ u. u j) (f.informed.resolvers.stays.rows (filt_at m.chains)))) f.own.decided g.own.decided

  queued : m1.exits ≡ m2.exits
  queued = queue_is_one puts f.own.decided.best g.own.decided.best m.exits m1.exits m2.exits decided.0 f.own.queued g.own.queued

  forwarded : f.fib_lines ≡ g.fib_lines
  forwarded = (interior change f.fib g.fib m1.rib f.fib_lines g.fib_lines (int_rows m.tree) (int_rows t) p sent f.forwards (subst (λ (x : RibExit). TakesInterior change g.fib x g.fib_lines) (sym informed.2) g.forwards)).1

  mine_said : f.own_lines ≡ g.own_lines
  mine_said = f.own.lines ∙ ap (λ (o : Option (Change Route)). own_entries o ++ f.own.best) own ∙ ap (λ (es : List (Entry Value)). own_entries g.own.own ++ es) decided.1 ∙ sym g.own.lines

  pub follows_lines : xs ≡ ys
  follows_lines = f.lines ∙ ap (λ (es : List (Entry Value)). es ++ f.fib_lines) mine_said ∙ ap (λ (es : List (Entry Value)). g.own_lines ++ es) forwarded ∙ sym g.lines

  pub follows_parts : (m1.registry ≡ m2.registry) × (m1.hops ≡ m2.hops) × (m1.exits ≡ m2.exits) × (m1.rib ≡ m2.rib)
  follows_parts = (informed.0, informed.1, queued, informed.2)

module _ (hops : HopsAreOne) (reached : forward.ReachedIsOne) (puts : PutIsOne) (interior : forward.InteriorIsOne) where
  -- what follows a change of `int`, if one came
  below_is_one : (m : Moment) (t : Treed) (p : AddressPrefix) (sent : Option (Change Interior)) (m1 m2 : Moment) (xs ys : List (Entry Value)) → IsSent (int_rows m.tree) (int_rows t) p sent
      → BelowInt sent (int_rows t) (with_tree m t) m1 xs → BelowInt sent (int_rows t) (with_tree m t) m2 ys → (m1 ≡ m2) × (xs ≡ ys)
  below_is_one m t p None m1 m2 xs ys sent first second = (first.0 ∙ sym second.0, first.1 ∙ sym second.1)
  below_is_one m t p (Some change) m1 m2 xs ys sent first second =
      let parts = follows_parts hops reached puts interior m t p change m1 m2 xs ys sent first.0 second.0 in (
        first.1 ∙ same_below (with_tree m t) m1.registry m2.registry m1.hops m2.hops m1.exits m2.exits m1.rib m2.rib parts.0 parts.1 parts.2 parts.3 ∙ sym second.1,
        follows_lines hops reached puts interior m t p change m1 m2 xs ys sent first.0 second.0,
      )

  -- ---- a change of a route
  -- Where what goes down the tree this way is one, all that a change of a route does is.
  pub route_is_one : (m : Moment) (new : Treed) (proto : Proto) (p : AddressPrefix) (way : List Link)
      → ((s t : Option (Change Interior)) (xs ys : List (Entry Value)) → FallsTree m.tree new p way s xs → IsSent (int_rows m.tree) (int_rows new) p s → FallsTree m.tree new p way t ys → IsSent (int_rows m.tree) (int_rows new) p t → (s ≡ t) × (xs ≡ ys))
      → (said other : List Line) (m1 m2 : Moment) → FallsRoute m new proto p way said m1 → FallsRoute m new proto p way other m2 → (said ≡ other) × (m1 ≡ m2)
  route_is_one m new proto p way falls said other m1 m2 f g = (
    f.lines ∙ ap (λ (es : List (Entry Value)). journal_lines (es ++ (f.below ++ tree_weld_entries proto new))) fell.1
        ∙ ap (λ (es : List (Entry Value)). journal_lines (g.entries ++ (es ++ tree_weld_entries proto new))) below.1 ∙ sym g.lines,
    f.after ∙ ap (λ (n : Moment). with_tree n (welded_tree proto new)) below.0 ∙ sym g.after,
  )
    where
      fell : (f.sent ≡ g.sent) × (f.entries ≡ g.entries)
      fell = falls f.sent g.sent f.entries g.entries f.falls f.rows g.falls g.rows

      below : (f.followed ≡ g.followed) × (f.below ≡ g.below)
      below = below_is_one m new p f.sent f.followed g.followed f.below g.below f.rows f.below_int
          (subst (λ (s : Option (Change Interior)). BelowInt s (int_rows new) (with_tree m new) g.followed g.below) (sym fell.0) g.below_int)

  -- a turn of the stage of a protocol's loss
  pub route_turn_is_one : chains.StageRowIsOne Interior → chains.LossFallIsOne → (proto : Proto) (n : ℕ) (m : Moment) (said other : List Line) (m1 m2 : Moment) → Stands m
      → IsRouteTurn proto n m said m1 → IsRouteTurn proto n m other m2 → (said ≡ other) × (m1 ≡ m2)
  route_turn_is_one row law proto n m said other m1 m2 stands t u =
      route_is_one m (swept_tree proto n t.prefix m.tree) proto t.prefix (way_of_sweep proto n m.tree)
      (λ s v xs ys first sent second also. law proto n t.prefix m.tree (swept_tree proto n t.prefix m.tree) s v xs ys stands.interior.tree first sent second also)
      said other m1 m2 t.falls (subst (λ (q : AddressPrefix). FallsRoute m (swept_tree proto n q m.tree) proto q (way_of_sweep proto n m.tree) other m2) (sym at) u.falls)
    where
      at : t.prefix ≡ u.prefix
      at = (row n (branch_of proto m.tree).tables.deletions t.table u.table t.prefix u.prefix t.row u.row t.stands u.stands t.least u.least).1

  -- ---- a turn of the walk of redistribution
  pub own_turn_is_one : (m : Moment) (said other : List Line) (m1 m2 : Moment) → IsOwnTurn m said m1 → IsOwnTurn m other m2 → (said ≡ other) × (m1 ≡ m2)
  own_turn_is_one m said other m1 m2 t u = (
    t.lines ∙ ap (λ (o : Option (Change Route)). journal_lines (own_entries o ++ t.best)) walked.1 ∙ ap (λ (es : List (Entry Value)). journal_lines (own_entries u.own ++ es)) decided.1 ∙ sym u.lines,
    t.after ∙ ap (λ (s : Passed Protos). with_exits (with_redist m s) m1.exits) walked.0 ∙ ap (λ (e : Exited). with_exits (with_redist m m2.redist) e) queued ∙ sym u.after,
  )
    where
      me : u.me ≡ t.me
      me = same_Some u.me t.me (sym u.local ∙ t.local)

      walked : (m1.redist ≡ m2.redist) × (t.own ≡ u.own)
      walked = walk_is_one (redistributed t.me) (int_candidates m.tree) (int_rows m.tree) m.redist m1.redist m2.redist t.own u.own t.walks
          (subst (λ (s : Speaker). Walks (redistributed s) (int_candidates m.tree) (int_rows m.tree) m.redist m2.redist u.own) me u.walks)

      -- what its own rows are then
      mine : (n : Moment) → n ≡ with_exits (with_redist m n.redist) n.exits → own_of n ≡ own_of (with_redist m n.redist)
      mine n is = ap own_of is

      moved : (p : AddressPrefix) × IsSent (own_of m) (own_of (with_redist m m1.redist)) p t.own
      moved = own_sent m t.me m1.redist t.own t.local t.walks

      decided : (t.decided.best ≡ u.decided.best) × (t.best ≡ u.best)
      decided = decision_is_one 0 t.own u.own (all_at (own_of m) m.chains m.hops) (all_at (own_of m1) m.chains m.hops) (all_at (own_of m2) m.chains m.hops) moved.0 t.best u.best walked.1
          (ap (λ (rows : Rows Route). all_at rows m.chains m.hops) (mine m1 t.after ∙ ap (λ (s : Passed Protos). own_of (with_redist m s)) walked.0 ∙ sym (mine m2 u.after)))
          (own_comes t.own (own_of m) (own_of m1) m.chains m.hops m.hops moved.0 (subst (λ (rows : Rows Route). IsSent (own_of m) rows moved.0 t.own) (sym (mine m1 t.after)) moved.1) (λ j. refl)) t.decided u.decided

      queued : m1.exits ≡ m2.exits
      queued = queue_is_one puts t.decided.best u.decided.best m.exits m1.exits m2.exits decided.0 t.queued u.queued

-- ---- a turn of the forwarding side
pub read_turn_is_one : TakenIsOne Route → forward.ExternalIsOne → (m : Moment) (said other : List Line) (m1 m2 : Moment) → Stands m → IsReadTurn m said m1 → IsReadTurn m other m2 → (said ≡ other) × (m1 ≡ m2)
read_turn_is_one takes law m said other m1 m2 stands t u = (
  t.lines ∙ ap (λ (c : Change Route). journal_lines (sent_entries route_value ReadRib (Some c) ++ t.entries)) took.0
      ∙ ap (λ (es : List (Entry Value)). journal_lines (sent_entries route_value ReadRib (Some u.change) ++ es)) passed.3 ∙ sym u.lines,
  t.after ∙ ap (λ (q : Queued Route). with_rib (with_exits m (with_queue q m.exits)) m1.registry m1.rib) took.1
      ∙ ap (λ (r : Registry Interior). with_rib (with_exits m (with_queue m2.exits.queue m.exits)) r m1.rib) passed.1
      ∙ ap (λ (x : RibExit). with_rib (with_exits m (with_queue m2.exits.queue m.exits)) m2.registry x) passed.2 ∙ sym u.after,
)
  where
    reader : u.reader ≡ t.reader
    reader = same_Some u.reader t.reader (sym u.reads ∙ t.reads)

    left : (Some t.change ≡ Some u.change) × (m1.exits.queue ≡ m2.exits.queue)
    left = takes m.exits.queue m1.exits.queue m2.exits.queue t.reader (Some t.change) (Some u.change) t.takes (subst (λ (n : ℕ). Takes m.exits.queue m2.exits.queue n (Some u.change)) reader u.takes)

    took : (t.change ≡ u.change) × (m1.exits.queue ≡ m2.exits.queue)
    took = (same_Some t.change u.change left.0, left.1)

    passed : (t.fib ≡ u.fib) × (m1.registry ≡ m2.registry) × (m1.rib ≡ m2.rib) × (t.entries ≡ u.entries)
    passed = law t.change (int_rows m.tree) t.fib u.fib m.registry m1.registry m2.registry m.rib m1.rib m2.rib t.entries u.entries
        (read_rows m.exits.queue t.reader (best_of m)) (read_rows m1.exits.queue t.reader (best_of m)) t.change.prefix
        (subst (λ (o : Option ℕ). StandsOver (read_rows_by m.exits.queue o (best_of m)) m.rib) t.reads stands.exits.external)
        (taken_sent m.exits.queue m1.exits.queue t.reader t.change (best_of m) stands.exits.all t.takes) t.external
        (subst (λ (c : Change Route). TakesExternal c (int_rows m.tree) u.fib m.registry m2.registry m.rib m2.rib u.entries) (sym took.0) u.external)

-- ---- a turn of the next hops of external routes
pub external_turn_is_one : forward.TurnIsOne → (m : Moment) (said other : List Line) (m1 m2 : Moment) → IsExternalTurn m said m1 → IsExternalTurn m other m2 → (said ≡ other) × (m1 ≡ m2)
external_turn_is_one law m said other m1 m2 t u =
    let one = law (int_rows m.tree) t.fib u.fib m.registry m1.registry m2.registry m.rib m1.rib m2.rib t.entries u.entries t.turn u.turn in
    (t.lines ∙ ap journal_lines one.3 ∙ sym u.lines, t.after ∙ ap (λ (r : Registry Interior). with_rib m r m1.rib) one.1 ∙ ap (λ (x : RibExit). with_rib m m2.registry x) one.2 ∙ sym u.after)
