-- What falls and turns say can be printed, and so can what stands behind them.
use Rattle.router_moments.proofs.Common.{sym, subst, ◌∙◌, ap, ◌≡◌, ℕ, List, Bool, arith, ◌++◌, ◌≤◌, not, inr, IfSome, AllByRecursion, AddressPrefix, Attrs, Route, Neighbour, Profile, Speaker, peer_at, Declaration, ArePrintableExits, AreBestRows, with_queue, Resolvers, PeerRows, res_at, GoesOn, Chained, welded, fed, IsPrefixOf, AllHaveMetrics, Prints, IsFit, neighbours, printing, Printing, IsPrinted, AreTablesOf, IsInteriorRow, IsPrintableChain, HaveWays, IsWay, IsNameNumber, route_value, interior_value, sent_entries, Entry, Line, Link, Best, Res, Org, Task, Value, IsSent, Rows, Change, LiveState, all_both, swept_one, same_some, route_hop, with_metric, metric_of, way_of, over, external_hop, answer_of, put_each, chain_at, Chains, filt_at, put_chain, Registry, fib_over, FallsOn, Proto, Interior, put_all, welded_branch, swept_branch, Branch, int_rows, Treed, branch_of, put_branch, own_rows, best_entries, own_entries, RunsFirst, Moment, best_of, own_of, with_exits, read_rows_by, with_chains, read_of, with_tree, with_hops, candidates_of, with_redist, with_rib, ArePrinted, IsPrintableMoment, Stands, journal_lines, Turns, IsTurn, BelowInt, FallsRoute, RunsPhase, Resolves, FallsPeer, IsPeerTurn, RunsAll, FeedsAll, AreHeard, Phase}
use Rattle.std.proofs.Common.{[], ◌∷◌, Option, Some, None}
use Rattle.journal_text.specs.Walk.{no_links}
use Rattle.journal_text.specs.declared.line.Line.TheVariants as lines
use Rattle.journal_text.specs.declared.link.Link.TheVariants.{In, Red, ReadRib}
use Rattle.journal_text.specs.declared.link.Task.TheVariants.{Del, Fin, Nh, Out, Rdel}
use Rattle.journal_text.specs.declared.link.Task.TheVariants as tasks
use Rattle.journal_laws.specs.Standing.{WasHeard, IsHeardRow, IsMetric}
use Rattle.journal_laws.specs.Laws.{AreEachOnce}
use Rattle.journal_laws.proofs.PrintedFalls.{falls_printed}
use Rattle.journal_laws.proofs.PrintedRows.{AreFit, fed_fit, swept_fit, welded_fit, beside_tree_prints}
use Rattle.journal_laws.proofs.PrintedWays.{down_of, table_row, sweep_way, ArePrintedEntries, weld_printed, sent_printed, Heard, with_fit, tables_fit, feed_once, chain_fall, turned_fit}
use Rattle.loss_chain.specs.declared.owner.Owner.TheVariants as owners
use Rattle.loss_chain.specs.Steps.{fed_tables, welded_tables}
use Rattle.loss_chain.proofs.ListLemmas.{all_made}
use Rattle.in_chain.specs.Falls.{way_of_feed}
use Rattle.loss_chain.proofs.TableLemmas.{few_map}
use Rattle.rib_exit.specs.Steps.{reached_hop}
use Rattle.peer_side.specs.Peers.{peer_of}
use Rattle.peer_side.specs.Steps.{FeedsInward, TakesInward, Changes}
use Rattle.rib_tree.specs.Falls.{way_of_sweep}
use Rattle.rib_tree.specs.Trees.{beside_tree}
use Rattle.rib_tree.specs.Steps.{tree_weld_entries}
use Rattle.router_moments.specs.Turns.{IsHopTurn, IsRouteTurn, IsOutTurn, IsRefreshTurn, IsReadTurn, IsOwnTurn, IsExternalTurn, Feeds}
use Rattle.peer_side.proofs.WeldLemmas.{weld_lines}
use Rattle.rib_tree.proofs.TreeParts.{welded_put as welded_put_tree}
use Rattle.journal_laws.proofs.PrintedHops.{answers_kept, answers_mapped, answers_turned, metrics_reached, metrics_put}
use Rattle.exit_laws.proofs.PrintLemmas.{turn_is_printed}
use Rattle.exit_laws.proofs.ResendLemmas.{resend_is_printed}
use Rattle.router_moments.specs.Works.{IsUpAt}
use Rattle.router_moments.proofs.HopTurns.{hop_goes, hop_chosen}
use Rattle.router_moments.proofs.OwnTurns.{own_sent, own_chosen}
use Rattle.router_moments.proofs.ExitTurns.{taken_sent}
use Rattle.router_moments.proofs.PeerFalls.{welded_put, fall_goes, fall_chosen}
use Rattle.router_moments.proofs.FeedLemmas.{feed_keeps}
use Rattle.router_moments.proofs.RouteLemmas.{Routes, own_passes, routes_on, below_best, fell_best}
use Rattle.router_moments.proofs.TurnLaws.{turn_works}
use Rattle.router_moments.proofs.TurnWalks.{turns_along, phase_along, phases_along, first_along}
use Rattle.router_moments.proofs.PrintedForwards.{fib_print, fib_printed, external_printed}
use Rattle.router_moments.proofs.PrintedReaders.{queued_printable, taken_printable}
use Rattle.router_moments.proofs.PrintedMoments.{IsShown, shown, chain_fit, tree_fit, res_shown, int_shown, own_shown, best_fit, metrics_answered, ways_answered, read_fit, best_shown}
use Rattle.router_moments.proofs.RouteTurns.{since_local}
use Rattle.std.specs.Prelude.{length}

-- what a step says can be printed, and so can what stands behind it; it declares nothing
pub record StaysPrintable (m : Moment) (said : List Line) (m' : Moment) : Type 0 where
  pub now : IsPrintableMoment m'
  pub lines : ArePrinted m.declared said

abbrev AreShown : Moment → List (Entry Value) → Type 0
AreShown m entries = ArePrintedEntries (printing m.declared) entries

lines_shown : (m : Moment) (said : List Line) (es : List (Entry Value)) → said ≡ journal_lines es → AreShown m es → ArePrinted m.declared said
lines_shown m said es is printed = subst (ArePrinted m.declared) (sym is) (all_made (IsPrinted (printing m.declared)) (λ (e : Entry Value). lines.Journal e) es printed)

both_shown : (m : Moment) (xs ys : List (Entry Value)) → AreShown m xs → AreShown m ys → AreShown m (xs ++ ys)
both_shown m xs ys p q = all_both (λ (e : Entry Value). IsPrinted (printing m.declared) (lines.Journal e)) xs ys p q

-- what the decision sends
decided_shown : (m : Moment) (old new : Rows Route) (p : AddressPrefix) (best : Option (Change Route)) (lines : List (Entry Value)) → lines ≡ best_entries best → AreBestRows m.declared.profile (printing m.declared) old → AreBestRows m.declared.profile (printing m.declared) new → IsSent old new p best
    → AreShown m lines
decided_shown m old new p best lines is before then sent = subst (AreShown m) (sym is)
    (sent_printed (printing m.declared) route_value Best old new p best tt (best_shown (printing m.declared) m.declared.profile old before) (best_shown (printing m.declared) m.declared.profile new then) sent)

resolved_metrics : (k : ℕ) (sent below : Option (Change Route)) (r r' : Registry Interior) (h h' : Resolvers) (entries : List (Entry Value)) → ((a : ℕ) → IsMetric (answer_of metric_of r a)) → Resolves k sent below r r' h h' entries
    → AllHaveMetrics h → AllHaveMetrics h'
resolved_metrics k None below r r' h h' entries fit t metrics = subst AllHaveMetrics (sym t.2) metrics
resolved_metrics k (Some change) below r r' h h' entries fit t metrics = metrics_put k t.taken h h' t.after (answers_kept IsMetric metric_of r t.resolver t.taken fit t.keeps (metrics k t.resolver t.at)) metrics

-- ---- a fall in a peer's chain, what follows it, and the weld behind both
module _ (k : ℕ) (sent : Option (Change Route)) (P : Chains → List (Entry Value) → Type 0) (m : Moment) (said : List Line) (m' : Moment) (stands : Stands m) (f : FallsPeer k sent P m said m')
    (c less : Chained) (at : chain_at k m.chains ≡ Some c) (after : f.fallen ≡ put_chain k less m.chains) (p : AddressPrefix) (changes : Changes k p sent m.chains f.fallen) where
  fall_prints : Stands m' → IsPrintableMoment m → IsFit (printing m.declared) m.declared.profile less → AreShown m f.entries → StaysPrintable m said m'
  fall_prints stands' printable own falls = record {
    now = subst IsPrintableMoment (sym f.after) (record { family = printable.family; declared = printable.declared; chains = new.chains; interior = printable.interior; hops = metrics; ways = printable.ways; exits = queued_printable m.declared.profile (printing m.declared) (best_of m) (best_of now) p f.decided.best m.exits m'.exits (best_fit m stands old) best chosen f.queued printable.exits });
    lines = lines_shown m said (f.entries ++ (f.resolved ++ (f.best ++ f.weld))) f.lines (both_shown m f.entries _ falls (both_shown m f.resolved _ resolved (both_shown m f.best f.weld (decided_shown m (best_of m) (best_of now) p f.decided.best f.best f.decided.lines (best_fit m stands old) best chosen) welds)));
  }
    where
      now : Moment
      now = with_exits (with_hops (with_chains m m'.chains) m'.registry m'.hops) m'.exits

      then : Stands now
      then = subst Stands f.after stands'

      old : IsShown m
      old = shown m printable

      put : m'.chains ≡ put_chain k (welded less) m.chains
      put = welded_put k sent P m said m' stands f c less at after p changes

      metrics : AllHaveMetrics m'.hops
      metrics = resolved_metrics k sent f.passed m.registry m'.registry m.hops m'.hops f.resolved (metrics_answered m stands old) f.below.resolves printable.hops

      welded_own : IsFit (printing m.declared) m.declared.profile (welded less)
      welded_own = with_fit (printing m.declared) m.declared.profile less (welded_tables less.incoming.tables) own (welded_fit (Heard (printing m.declared) m.declared.profile less) less.incoming.tables (tables_fit (printing m.declared) m.declared.profile less own))

      new : IsShown now
      new = record {
        family = printable.exits.family;
        declared = printable.declared;
        chains = subst (λ (a : Chains). (j : ℕ) (d : Chained) → chain_at j a ≡ Some d → IsPrintableChain m.declared.profile d) (sym put) (put_each (λ j d. IsPrintableChain m.declared.profile d) k (welded less) m.chains welded_own.printable printable.chains);
        interior = printable.interior;
        hops = metrics;
      }

      best : AreBestRows m.declared.profile (printing m.declared) (best_of now)
      best = best_fit now then new

      chosen : IsSent (best_of m) (best_of now) p f.decided.best
      chosen = fall_chosen k sent P m said m' stands f c less at after p changes

      goes : GoesOn k p f.passed m.hops m'.hops f.resolved (filt_at m.chains) (filt_at f.fallen)
      goes = fall_goes k sent P m said m' stands f c less at after p changes

      named : IsNameNumber k
      named = subst IsNameNumber (chain_fit m stands old k c at).2 (chain_fit m stands old k c at).0.named

      resolved : AreShown m f.resolved
      resolved = subst (AreShown m) (sym f.below.lines) (sent_printed (printing m.declared) route_value (Res k) (res_at m.hops (filt_at m.chains) k) (res_at m'.hops (filt_at f.fallen) k) p f.passed named (res_shown m stands old k)
          (subst (λ (u : PeerRows). Prints (printing m.declared) route_value (res_at m'.hops u k)) (λ i j. f.welds.quiet j i) (res_shown now then new k)) goes.comes.here)

      welds : AreShown m f.weld
      welds = subst (AreShown m) (sym (weld_lines k m.chains f.fallen m'.chains less f.weld after f.welds.welds))
          (weld_printed (printing m.declared) (owners.Peer less.incoming.number) (λ n number. (own.named, number)) (In less.incoming.number) less.incoming.tables.deletions own.named own.printable.tables.losses)

-- ---- one prefix that a peer said something of
abbrev pub IsSaid : Profile → Neighbour → AddressPrefix × Option Attrs → Type 0
IsSaid profile w change = IsPrefixOf profile.second change.0 × IfSome change.1 (WasHeard profile (not w.internal))

feed_prints : (k : ℕ) (w : Neighbour) (p : AddressPrefix) (row : Option Attrs) (m : Moment) (said : List Line) (m' : Moment) → Stands m → Stands m' → neighbours m.declared k ≡ Some w → IsSaid m.declared.profile w (p, row) → Feeds k (p, row) m said m' → IsPrintableMoment m → StaysPrintable m said m'
feed_prints k w p row m said m' stands stands' there is t printable =
    let i = t.1 in
    let f = i.part.feeds in
    let own = chain_fit m stands (shown m printable) k f.chain f.at in
    let who : w ≡ f.chain.peer = same_some w f.chain.peer (sym there ∙ ap (neighbours m.declared) (sym own.1) ∙ own.0.known) in
    let new = row_heard f.chain.peer p row (subst (λ (x : Neighbour). IsSaid m.declared.profile x (p, row)) who is) in
    let less : Chained = fed f.chain p row in
    let fit : IsFit (printing m.declared) m.declared.profile less = with_fit (printing m.declared) m.declared.profile f.chain (fed_tables f.chain.incoming.tables p row) own.0
    (fed_fit (Heard (printing m.declared) m.declared.profile f.chain) f.chain.incoming.tables p row (tables_fit (printing m.declared) m.declared.profile f.chain own.0) new) in
    fall_prints k t.0 (FeedsInward k p row t.0 m.chains) m said m' stands i f.chain less f.at f.after p i.part.changes stands' printable fit
    (chain_fall (printing m.declared) m.declared.profile f.chain own.0 less p (way_of_feed f.chain.incoming) t.0 i.entries fit (subst (λ (v6 : Bool). IsPrefixOf v6 p) printable.family.second is.0) (feed_once (printing m.declared) m.declared.profile f.chain own.0) f.falls)
  where
    row_heard : (x : Neighbour) (q : AddressPrefix) (o : Option Attrs) → IsSaid m.declared.profile x (q, o) → IfSome o (IsHeardRow m.declared.profile (not x.internal) q)
    row_heard x q None is = tt
    row_heard x q (Some a) is = is

-- ---- one turn of a peer's task
peer_prints : (task : Task) (m : Moment) (said : List Line) (m' : Moment) → Stands m → Stands m' → IsPeerTurn task m said m' → IsPrintableMoment m → StaysPrintable m said m'
peer_prints task m said m' stands stands' t printable =
    let i = t.1 in
    let f = i.part.turn in
    let own = chain_fit m stands (shown m printable) (peer_of task) f.chain f.at in
    let x = turned_fit (printing m.declared) m.declared.profile f.chain own.0 task f.turned_chain t.0 i.entries f.turned in
    fall_prints (peer_of task) t.0 (TakesInward task t.0 m.chains) m said m' stands i f.chain f.turned_chain f.at f.after i.part.changes.0 i.part.changes.1 stands' printable x.0 x.1

-- ---- one turn of the next hops of a peer
hop_prints : (k : ℕ) (m : Moment) (said : List Line) (m' : Moment) → Stands m → Stands m' → IsHopTurn k m said m' → IsPrintableMoment m → StaysPrintable m said m'
hop_prints k m said m' stands stands' t printable = record {
  now = subst IsPrintableMoment (sym t.after) (record { family = printable.family; declared = printable.declared; chains = printable.chains; interior = printable.interior; hops = metrics; ways = printable.ways; exits = queued_printable m.declared.profile (printing m.declared) (best_of m) (best_of now) goes.0 t.decided.best m.exits m'.exits (best_fit m stands old) (best_fit now then new) chosen t.queued printable.exits });
  lines = lines_shown m said (t.entries ++ t.best) t.lines (both_shown m t.entries t.best resolved (decided_shown m (best_of m) (best_of now) goes.0 t.decided.best t.best t.decided.lines (best_fit m stands old) (best_fit now then new) chosen));
}
  where
    now : Moment
    now = with_exits (with_hops m m'.registry m'.hops) m'.exits

    then : Stands now
    then = subst Stands t.after stands'

    old : IsShown m
    old = shown m printable

    metrics : AllHaveMetrics m'.hops
    metrics = metrics_put k t.turn.turn.taken m.hops m'.hops t.turn.turn.after
        (answers_turned IsMetric route_hop with_metric metric_of _ _ m.registry m'.registry t.turn.turn.resolver t.turn.turn.taken t.sent (metrics_answered m stands old) t.turn.turn.turned (printable.hops k t.turn.turn.resolver t.turn.turn.at)) printable.hops

    new : IsShown now
    new = record { family = old.family; declared = old.declared; chains = old.chains; interior = old.interior; hops = metrics }

    goes : (p : AddressPrefix) × GoesOn k p t.sent m.hops m'.hops t.entries (filt_at m.chains) (filt_at m.chains)
    goes = hop_goes k m said m' stands t

    chosen : IsSent (best_of m) (best_of now) goes.0 t.decided.best
    chosen = hop_chosen k m said m' stands t goes.0 goes.1

    named : IsNameNumber k
    named = subst IsNameNumber (chain_fit m stands old k t.chain t.at).2 (chain_fit m stands old k t.chain t.at).0.named

    resolved : AreShown m t.entries
    resolved = subst (AreShown m) (sym t.turn.turn.lines)
        (sent_printed (printing m.declared) route_value (Res k) (res_at m.hops (filt_at m.chains) k) (res_at m'.hops (filt_at m.chains) k) goes.0 t.sent named (res_shown m stands old k) (res_shown now then new k) goes.1.comes.here)

-- ---- the walk of redistribution
own_prints : (m : Moment) (said : List Line) (m' : Moment) → Stands m → Stands m' → IsOwnTurn m said m' → IsPrintableMoment m → StaysPrintable m said m'
own_prints m said m' stands stands' t printable = record {
  now = subst IsPrintableMoment (sym t.after) (record { family = printable.family; declared = printable.declared; chains = printable.chains; interior = printable.interior; hops = printable.hops; ways = printable.ways; exits = queued_printable m.declared.profile (printing m.declared) (best_of m) (best_of now) sent.0 t.decided.best m.exits m'.exits (best_fit m stands old) (best_fit now then new) chosen t.queued printable.exits });
  lines = lines_shown m said (own_entries t.own ++ t.best) t.lines (both_shown m (own_entries t.own) t.best (sent_printed (printing m.declared) route_value Red (own_of m) (own_of now) sent.0 t.own tt (own_shown m stands old) (own_shown now then new) sent.1)
      (decided_shown m (best_of m) (best_of now) sent.0 t.decided.best t.best t.decided.lines (best_fit m stands old) (best_fit now then new) chosen));
}
  where
    now : Moment
    now = with_exits (with_redist m m'.redist) m'.exits

    then : Stands now
    then = subst Stands t.after stands'

    old : IsShown m
    old = shown m printable

    new : IsShown now
    new = record { family = old.family; declared = old.declared; chains = old.chains; interior = old.interior; hops = old.hops }

    sent : (p : AddressPrefix) × IsSent (own_of m) (own_of now) p t.own
    sent = own_sent m t.me m'.redist t.own t.local t.walks

    chosen : IsSent (best_of m) (best_of now) sent.0 t.decided.best
    chosen = own_chosen m m' t.own t.best t.decided (ap own_of t.after) sent.0 sent.1

-- ---- what reads `best`
out_prints : (k : ℕ) (m : Moment) (said : List Line) (m' : Moment) → Stands m → IsOutTurn k m said m' → IsPrintableMoment m → StaysPrintable m said m'
out_prints k m said m' stands t printable =
    let x = turn_is_printed m.declared.profile (printing m.declared) k (candidates_of m) (best_of m) t.sent m.exits m'.exits said stands.exits.profile (best_fit m stands (shown m printable)) printable.exits t.turn in
    record { now = subst IsPrintableMoment (sym t.after) (record { family = printable.family; declared = printable.declared; chains = printable.chains; interior = printable.interior; hops = printable.hops; ways = printable.ways; exits = x.exits }); lines = x.lines }

refresh_prints : (k : ℕ) (m : Moment) (said : List Line) (m' : Moment) → Stands m → IsRefreshTurn k m said m' → IsPrintableMoment m → StaysPrintable m said m'
refresh_prints k m said m' stands t printable =
    let x = resend_is_printed m.declared.profile (printing m.declared) k (best_of m) m.exits m'.exits said stands.exits.each stands.exits.read printable.exits t.turn in
    record { now = subst IsPrintableMoment (sym t.after) (record { family = printable.family; declared = printable.declared; chains = printable.chains; interior = printable.interior; hops = printable.hops; ways = printable.ways; exits = x.exits }); lines = x.lines }

read_prints : (m : Moment) (said : List Line) (m' : Moment) → Stands m → Stands m' → IsReadTurn m said m' → IsPrintableMoment m → StaysPrintable m said m'
read_prints m said m' stands stands' t printable = record {
  now = subst IsPrintableMoment (sym t.after) after;
  lines = lines_shown m said (sent_entries route_value ReadRib (Some t.change) ++ t.entries) t.lines (both_shown m (sent_entries route_value ReadRib (Some t.change)) t.entries
      (sent_printed (printing m.declared) route_value ReadRib (read_of m) (read_of now) t.change.prefix (Some t.change) tt (best_shown (printing m.declared) m.declared.profile (read_of m) old) (best_shown (printing m.declared) m.declared.profile (read_of now) new) sent)
      (subst (AreShown m) (sym t.external.lines)
      (external_printed m.declared.profile (printing m.declared) t.change.prefix (int_rows m.tree) t.external.split t.external.first t.external.second m.registry m.rib m'.rib t.entries (read_of m) (read_of now) stands.exits.external old new printable.ways ways
      (int_shown m stands (shown m printable)) goes)));
}
  where
    now : Moment
    now = with_rib (with_exits m (with_queue m'.exits.queue m.exits)) m'.registry m'.rib

    then : Stands now
    then = subst Stands t.after stands'

    sent : IsSent (read_of m) (read_of now) t.change.prefix (Some t.change)
    sent = subst (λ (o : Option ℕ). IsSent (read_rows_by m.exits.queue o (best_of m)) (read_rows_by m'.exits.queue o (best_of m)) t.change.prefix (Some t.change)) (sym t.reads)
        (taken_sent m.exits.queue m'.exits.queue t.reader t.change (best_of m) stands.exits.all t.takes)

    goes : FallsOn t.change.prefix (int_rows m.tree) t.external.split t.external.first t.external.second m.registry m.rib m'.rib t.entries (read_of m) (read_of now)
    goes = t.external.goes (read_of m) (read_of now) t.change.prefix stands.exits.external sent

    ways : HaveWays m.declared.v6 m'.rib.forwarding
    ways = answers_kept (IsWay m.declared.v6) way_of m.registry m.rib.forwarding m'.rib.forwarding (ways_answered m stands (shown m printable)) goes.keeps printable.ways

    after : IsPrintableMoment now
    after = record { family = printable.family; declared = printable.declared; chains = printable.chains; interior = printable.interior; hops = printable.hops; ways = ways; exits = taken_printable m.declared.profile (printing m.declared) m.exits m'.exits.queue t.reader t.change t.takes printable.exits }

    old : AreBestRows m.declared.profile (printing m.declared) (read_of m)
    old = read_fit m stands printable

    new : AreBestRows m.declared.profile (printing m.declared) (read_of now)
    new = read_fit now then after

-- ---- the next hops of external routes
external_prints : (m : Moment) (said : List Line) (m' : Moment) → Stands m → IsExternalTurn m said m' → IsPrintableMoment m → StaysPrintable m said m'
external_prints m said m' stands t printable =
    let int = int_shown m stands (shown m printable) in
    let ways : HaveWays m.declared.v6 m'.rib.forwarding = answers_turned (IsWay m.declared.v6) external_hop over way_of _ _ m.registry m'.registry m.rib.forwarding m'.rib.forwarding t.turn.resolved (ways_answered m stands (shown m printable)) t.turn.turned printable.ways in
    let read = read_fit m stands printable in
    record {
      now = subst IsPrintableMoment (sym t.after) (record { family = printable.family; declared = printable.declared; chains = printable.chains; interior = printable.interior; hops = printable.hops; ways = ways; exits = printable.exits });
      lines = lines_shown m said t.entries t.lines (subst (AreShown m) (sym t.turn.lines) (fib_printed m.declared.profile (printing m.declared) (fib_over m.rib (int_rows m.tree)) (fib_over m'.rib (int_rows m.tree)) t.turn.fib.0 t.fib
          (fib_print m.declared.profile (printing m.declared) m.rib (read_of m) (int_rows m.tree) stands.exits.external read printable.ways int)
          (fib_print m.declared.profile (printing m.declared) m'.rib (read_of m) (int_rows m.tree) (t.turn.stands (read_of m) stands.exits.external) read ways int) t.turn.fib.1));
    }

-- ---- a change of the tree
-- what is answered of next hops then
below_metrics : (sent : Option (Change Interior)) (int : Rows Interior) (m x : Moment) (entries : List (Entry Value)) → BelowInt sent int m x entries → AllHaveMetrics m.hops → AllHaveMetrics x.hops
below_metrics None int m x entries b metrics = subst (λ (n : Moment). AllHaveMetrics n.hops) (sym b.0) metrics
below_metrics (Some change) int m x entries b metrics = metrics_reached b.0.informed.reached m.hops x.hops b.0.informed.resolvers.reaches metrics

below_ways : (sent : Option (Change Interior)) (int : Rows Interior) (m x : Moment) (entries : List (Entry Value)) → BelowInt sent int m x entries → HaveWays m.declared.v6 m.rib.forwarding → HaveWays m.declared.v6 x.rib.forwarding
below_ways None int m x entries b ways = subst (λ (n : Moment). HaveWays m.declared.v6 n.rib.forwarding) (sym b.0) ways
below_ways (Some change) int m x entries b ways = answers_mapped (IsWay m.declared.v6) (reached_hop b.0.informed.reached) (λ h own. own) m.rib.forwarding.known x.rib.forwarding.known b.0.informed.external.reaches.known ways

-- the exits, where what came on `best` joined their queue
below_exits : (sent : Option (Change Interior)) (int : Rows Interior) (m x : Moment) (entries : List (Entry Value)) (b : BelowInt sent int m x entries) (p : AddressPrefix) (old new : Rows Route) → AreBestRows m.declared.profile (printing m.declared) old → AreBestRows m.declared.profile (printing m.declared) new
    → IsSent old new p (below_best sent int m x entries b) → ArePrintableExits m.declared.profile (printing m.declared) m.exits → ArePrintableExits m.declared.profile (printing m.declared) x.exits
below_exits None int m x entries b p old new before then is exits = subst (λ (n : Moment). ArePrintableExits m.declared.profile (printing m.declared) n.exits) (sym b.0) exits
below_exits (Some change) int m x entries b p old new before then is exits = queued_printable m.declared.profile (printing m.declared) old new p b.0.own.decided.best m.exits x.exits before then is b.0.own.queued exits

module _ (proto : Proto) (b : Branch) (p : AddressPrefix) (way : List Link) (m : Moment) (said : List Line) (m' : Moment) (me : Speaker) (stands : Stands m) (since : m.declared.speaker ≡ Some me) (few : length b.tables.deletions ≤ 16) (stands' : Stands m') (printable : IsPrintableMoment m) (own : AreFit (IsInteriorRow m.declared.v6) b.tables)
    (f : FallsRoute m (put_branch proto b m.tree) proto p way said m') where
  abbrev t : Treed
  t = put_branch proto b m.tree

  abbrev welded_t : Treed
  welded_t = put_branch proto (welded_branch b) m.tree

  -- how its lines are printed
  abbrev texts : Printing
  texts = printing m.declared

  abbrev now : Moment
  now = record (with_tree m welded_t) { registry = f.followed.registry; hops = f.followed.hops; exits = f.followed.exits; rib = f.followed.rib }

  abbrev best : Option (Change Route)
  best = fell_best m t proto p way said m' f

  on : Routes m proto b p f.followed best m' said
  on = routes_on m me proto b p way said m' stands since few f

  then : Stands now
  then = subst Stands on.is stands'

  old : IsShown m
  old = shown m printable

  new : IsShown now
  new = record {
    family = old.family;
    declared = printable.declared;
    chains = printable.chains;
    interior = put_all (λ (x : Branch). AreTablesOf (IsInteriorRow m.declared.v6) x.tables) proto (welded_branch b) m.tree (welded_fit (IsInteriorRow m.declared.v6) b.tables own).printable printable.interior;
    hops = below_metrics f.sent (int_rows t) (with_tree m t) f.followed f.below f.below_int printable.hops;
  }

  chosen : IsSent (best_of m) (best_of now) p best
  chosen = subst (λ (x : Moment). IsSent (best_of m) (best_of x) p best) on.is on.chosen

  after : IsPrintableMoment now
  after = record {
    family = printable.family;
    declared = new.declared;
    chains = new.chains;
    interior = new.interior;
    hops = new.hops;
    ways = below_ways f.sent (int_rows t) (with_tree m t) f.followed f.below f.below_int printable.ways;
    exits = below_exits f.sent (int_rows t) (with_tree m t) f.followed f.below f.below_int p (best_of m) (best_of now) (best_fit m stands old) (best_fit now then new) chosen printable.exits;
  }

  -- the rows of `int` are those before the weld
  int_same : int_rows welded_t ≡ int_rows t
  int_same = ap int_rows (sym (welded_put_tree proto b m.tree)) ∙ f.welds.int

  int_then : Prints texts interior_value (int_rows t)
  int_then = subst (Prints texts interior_value) int_same (int_shown now then new)

  -- what follows a change of `int`
  below_shown : (sent : Option (Change Interior)) (entries : List (Entry Value)) (below : BelowInt sent (int_rows t) (with_tree m t) f.followed entries) → IsSent (int_rows m.tree) (int_rows t) p sent
      → IsSent (best_of m) (best_of now) p (below_best sent (int_rows t) (with_tree m t) f.followed entries below) → AreShown m entries
  below_shown None entries below rows is = subst (AreShown m) (sym below.1) tt
  below_shown (Some change) entries below rows is =
      let g = below.0 in
      let own_then : Prints texts route_value (own_rows m.declared.speaker m.redist (int_rows t)) = subst (λ (int : Rows Interior). Prints texts route_value (own_rows m.declared.speaker m.redist int)) int_same (own_shown now then new) in
      let read = read_fit now then after in
      subst (AreShown m) (sym g.lines) (both_shown m g.own_lines g.fib_lines
      (subst (AreShown m) (sym g.own.lines) (both_shown m (own_entries g.own.own) g.own.best
      (sent_printed texts route_value Red (own_of m) (own_rows m.declared.speaker m.redist (int_rows t)) p g.own.own tt (own_shown m stands old) own_then (own_passes m t p change f.followed entries rows g))
      (decided_shown m (best_of m) (best_of now) p g.own.decided.best g.own.best g.own.decided.lines (best_fit m stands old) (best_fit now then new) is)))
      (subst (AreShown m) (sym g.forwards.lines) (fib_printed m.declared.profile texts (fib_over f.followed.rib (int_rows m.tree)) (fib_over f.followed.rib (int_rows t)) p g.fib
      (fib_print m.declared.profile texts f.followed.rib (read_of now) (int_rows m.tree) then.exits.external read after.ways (int_shown m stands old))
      (fib_print m.declared.profile texts f.followed.rib (read_of now) (int_rows t) then.exits.external read after.ways int_then) (g.forwards.goes (int_rows m.tree) (int_rows t) p rows).fib)))

  pub route_prints : IsPrefixOf m.declared.v6 p → AreEachOnce way → StaysPrintable m said m'
  route_prints prefix once = record {
    now = subst IsPrintableMoment (sym on.is) after;
    lines = lines_shown m said (f.entries ++ (f.below ++ tree_weld_entries proto t)) f.lines (both_shown m f.entries _ fall (both_shown m f.below _ (below_shown f.sent f.below f.below_int f.rows chosen) weld));
  }
    where
      behind : (other : Proto) → AreTablesOf (IsInteriorRow m.declared.v6) (branch_of other t).tables
      behind = put_all (λ (x : Branch). AreTablesOf (IsInteriorRow m.declared.v6) x.tables) proto b m.tree own.printable printable.interior

      fall : AreShown m f.entries
      fall = falls_printed texts p way f.entries (beside_tree no_links m.tree) (beside_tree no_links t) prefix once (down_of p way f.sent f.entries f.falls.down) (f.falls.leads no_links)
          (λ link rows v at is. (beside_tree_prints texts m.tree printable.interior link rows p v at is).1) (λ link rows v at is. (beside_tree_prints texts t behind link rows p v at is).1)

      weld : AreShown m (tree_weld_entries proto t)
      weld = weld_printed texts (owners.Origin proto) (λ n named. named) (Org proto) (branch_of proto t).tables.deletions tt (behind proto).losses

route_turn_prints : (proto : Proto) (n : ℕ) (m : Moment) (said : List Line) (m' : Moment) → Stands m → Stands m' → IsRouteTurn proto n m said m' → IsPrintableMoment m → StaysPrintable m said m'
route_turn_prints proto n m said m' stands stands' t printable =
    let own = tree_fit m stands (shown m printable) proto in
    let b = branch_of proto m.tree in
    let me = since_local m proto n t.table stands t.stands in
    let few : length (swept_branch n t.prefix b).tables.deletions ≤ 16 = (let same = few_map (swept_one n t.prefix) b.tables.deletions in let was = stands.interior.few proto in omega (arith, same, was)) in
    let row = own.printable.rows t.prefix t.row (inr (table_row n b.tables.deletions t.table t.prefix t.row t.stands t.least.0)) in
    route_prints proto (swept_branch n t.prefix b) t.prefix (way_of_sweep proto n m.tree) m said m' me.0 stands me.1 few stands' printable (swept_fit (IsInteriorRow m.declared.v6) n t.prefix b.tables own) t.falls row.prefix
    (sweep_way proto m.tree own.rising own.printable.losses n)

-- ---- turns, and many of them
-- from one moment to another; nothing is declared
pub record Goes (m : Moment) (said : List Line) (m' : Moment) : Type 0 where
  pub same : m'.declared ≡ m.declared
  pub prints : IsPrintableMoment m → StaysPrintable m said m'

goes_nowhere : (m m' : Moment) (said : List Line) → said ≡ [] → m' ≡ m → Goes m said m'
goes_nowhere m m' said none same = record {
  same = ap (λ (x : Moment). x.declared) same;
  prints = λ printable. record { now = subst IsPrintableMoment (sym same) printable; lines = subst (ArePrinted m.declared) (sym none) tt };
}

goes_then : (a b c : Moment) (xs ys said : List Line) → Goes a xs b → Goes b ys c → said ≡ xs ++ ys → Goes a said c
goes_then a b c xs ys said f g is = record {
  same = g.same ∙ f.same;
  prints = λ printable.
      let x = f.prints printable in
      let y = g.prints x.now in
      record { now = y.now; lines = subst (ArePrinted a.declared) (sym is) (all_both (IsPrinted (printing a.declared)) xs ys x.lines (subst (λ (d : Declaration). ArePrinted d ys) f.same y.lines)) };
}

-- a line for each task
turn_prints : (task : Task) (m : Moment) (said : List Line) (m' : Moment) → Stands m → Stands m' → IsTurn task m said m' → IsPrintableMoment m → StaysPrintable m said m'
turn_prints (Del k s) m said m' stands stands' t = peer_prints (Del k s) m said m' stands stands' t
turn_prints (Fin k) m said m' stands stands' t = peer_prints (Fin k) m said m' stands stands' t
turn_prints (Nh k) m said m' stands stands' t = hop_prints k m said m' stands stands' t
turn_prints tasks.ReadRib m said m' stands stands' t = read_prints m said m' stands stands' t
turn_prints (Out k) m said m' stands stands' t = out_prints k m said m' stands t
turn_prints (Rdel proto n) m said m' stands stands' t = route_turn_prints proto n m said m' stands stands' t
turn_prints tasks.Red m said m' stands stands' t = own_prints m said m' stands stands' t
turn_prints tasks.Ext m said m' stands stands' t = external_prints m said m' stands t
turn_prints (tasks.Ref k) m said m' stands stands' t = refresh_prints k m said m' stands t

pub turn_goes : (task : Task) (m : Moment) (said : List Line) (m' : Moment) → Stands m → IsTurn task m said m' → Goes m said m'
turn_goes task m said m' stands t =
    let work = turn_works task m said m' stands t in
    record { same = ap (λ (l : LiveState). l.declared) work.keeps.live; prints = turn_prints task m said m' stands work.keeps.stands t }

pub turns_go : (n : ℕ) (task : Task) (m : Moment) (said : List Line) (m' : Moment) → Stands m → Turns n task m said m' → Goes m said m'
turns_go = turns_along Goes goes_nowhere goes_then turn_goes

pub phase_goes : (phase : Phase) (m : Moment) (said : List Line) (turns : ℕ) (m' : Moment) → Stands m → RunsPhase phase m said turns m' → Goes m said m'
phase_goes = phase_along Goes goes_nowhere goes_then turn_goes

pub phases_go : (phases : List Phase) (m : Moment) (said : List Line) (turns : ℕ) (m' : Moment) → Stands m → RunsAll phases m said turns m' → Goes m said m'
phases_go = phases_along Goes goes_nowhere goes_then turn_goes

pub first_goes : (task : Option Task) (m : Moment) (said : List Line) (m' : Moment) → Stands m → RunsFirst task m said m' → Goes m said m'
first_goes = first_along Goes goes_nowhere goes_then turn_goes

-- the prefixes of an UPDATE
pub feeds_go : (k : ℕ) (w : Neighbour) (cs : List (AddressPrefix × Option Attrs)) (m : Moment) (said : List Line) (m' : Moment) → Stands m → IsUpAt k m → AreHeard m.declared.profile cs → neighbours m.declared k ≡ Some w → AllByRecursion (IsSaid m.declared.profile w) cs → FeedsAll k cs m said m'
    → Goes m said m'
feeds_go k w [] m said m' stands up heard there each f = goes_nowhere m m' said f.0 f.1
feeds_go k w (c ∷ cs) m said m' stands up heard there each f =
    let keeps = feed_keeps k c.0 c.1 m f.0 f.2 stands up heard.0 f.3 in
    let same : f.2.declared ≡ m.declared = ap (λ (l : LiveState). l.declared) keeps.live in
    goes_then m f.2 m' f.0 f.1 said (record { same = same; prints = feed_prints k w c.0 c.1 m f.0 f.2 stands keeps.stands there each.0 f.3 })
    (feeds_go k w cs f.2 f.1 m' keeps.stands (up.0, ap (λ (d : Declaration). peer_at k d.peers) same ∙ up.1, up.2) (subst (λ (d : Declaration). AreHeard d.profile cs) (sym same) heard.1) (ap (λ (d : Declaration). neighbours d k) same ∙ there)
    (subst (λ (d : Declaration). AllByRecursion (IsSaid d.profile w) cs) (sym same) each.1) f.4) f.5
