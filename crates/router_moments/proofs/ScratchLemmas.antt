-- The rows that no work holds up at a prefix are what the live state alone asks for.
use Rattle.router_moments.proofs.Common.{sym, subst, ◌∙◌, ap, ◌≡◌, ℕ, refl, List, true, arith, false, Bool, cond, ◌<◌, suc, zero, nat_eq, not, ◌&&◌, nat_tests, AddressPrefix, Attrs, Route, Neighbour, Profile, Speaker, best_is_a_branchs, peer_at, DeclaredPeer, fib_distance, read_rows, unread_by, filtered, resolver_at, metric_rows, Chained, filt_rows, route_value, route_rows, fib_value, interior_value, external_value, Link, Best, Fib, Adv, Res, Read, Outf, Org, Task, Value, Rows, no_table, same_by, table_of, same_some, route_hop, with_metric, metric_of, way_of, over, answer_of, Resolving, goes_on, Metric, OutChained, present, chain_at, filt_at, filt_by, has_turn_in, routes_of, rules_of, Rule, redistributed, has, ext_rows, fib_over, row_of_both, Proto, Connected, Static, Ospf, Rip, Interior, kept_rows, org_rows, int_rows, branch_of, IsTree, tree_links, low_rows, dyn_rows, own_rows, all_at, best_links, own_links, next_hop_at, holds_up_at, is_over, live_state, Moment, best_of, own_of, read_rows_by, read_of, read_by, tree_by, forward_by, rules_to, unread_if, Stands, ExitsAt, AllHaveExits, StandsAt, ReadsOn, IsExitOf, has_work}
use Rattle.std.proofs.Common.{◌==◌, [], Option, Some, None, is_some}
use Rattle.std.specs.Prelude.{option_map, IsSome}
use Rattle.std.specs.FinMap as tables
use Rattle.addr4.specs.Blocks.{width}
use Rattle.link_change.specs.InOrder.{changed_in}
use Rattle.link_change.proofs.InOrderLemmas.{unchanged_stays}
use Rattle.loss_chain.specs.Tables.{rows_above}
use Rattle.loss_chain.specs.Held.{has_row}
use Rattle.loss_chain.proofs.HeldLemmas.{live_where_none_is_lost}
use Rattle.filter_bank.specs.Outgoing.{outgoing}
use Rattle.filter_bank.proofs.LawLemmas.{exact_unless_held_up}
use Rattle.pass_core.specs.Turns.{row_lags}
use Rattle.pass_core.proofs.TurnLemmas.{exact_unless_held_up as latest_row}
use Rattle.journal_text.specs.declared.link.Link.TheVariants.{In, Peer, Filt, Red, ReadRib, Ebgp, Ibgp, Ext, Lost as LostOf, Low, Dyn, Int}
use Rattle.journal_text.specs.declared.link.Task.TheVariants.{Del, Fin, Nh, ReadRib as Reading, Out, Rdel, Red as Own, Ext as External}
use Rattle.journal_text.specs.Values.{valued, attrs_value, attrs_rows, interior_rows}
use Rattle.in_chain.specs.Incomings.{in_rows}
use Rattle.rib_route.specs.Rows.{External as ExternalRow}
use Rattle.rib_route.specs.Forwarding.{fib_row}
use Rattle.rib_tree.specs.Steps.{tree_lags}
use Rattle.rib_tree.specs.Laws.{OrgWhereNoneIsLost}
use Rattle.rib_tree.proofs.RestLemmas.{no_link}
use Rattle.hop_side.specs.Laws as hops
use Rattle.exit_side.specs.Laws as exits
use Rattle.rib_exit.specs.Laws as external
use Rattle.peer_side.specs.Peers.{links_by, lags_in}
use Rattle.live_state.specs.Lives.{Interiors}
use Rattle.live_state.specs.Decided.{sent_to, live_rows, judged_rows, least_rows, origins, since_local, with_metric_of, resolved_row, resolved_rows, longest_match, rows_if_any, resolved_of, own_row, own_rows as live_own_rows, candidates_of as live_candidates, best_of as live_best, external_row, external_rows, over_interior, reached_row, forwarding_rows, sent_rows, in_session}
use Rattle.live_state.proofs.LongestLemmas.{match_is}
use Rattle.live_state.proofs.LeastLemmas.{first_false, second_false}
use Rattle.register_interest.specs.Covers.{longest}
use Rattle.nexthop_resolver.proofs.MoveLemmas.{clash_some}
use Rattle.decision.proofs.LawLemmas.{best_is_picked, best_is_of_its_prefix}
use Rattle.out_chain.specs.Chains.{made_by, outf_rows}
use Rattle.exit_side.specs.Exits.{chain_at as exit_at, links_by as exit_link}
use Rattle.ext_int.specs.Laws.{reached}
use Rattle.rib_split.specs.declared.split.BgpLink.TheVariants as sides
use Rattle.rib_exit.specs.Exits.{exit_links as external_links}
use Rattle.link_region.proofs.RegionLemmas.{by_bool}
use Rattle.router_moments.proofs.ForwardLemmas.{own_at, over_is, lesser_is, ebgp_is, ibgp_is, ext_is}
use Rattle.router_moments.specs.Holding.{peer_numbers, is_over_hop}
use Rattle.router_moments.specs.Scratch.{Feeds, HoldsUp, directly, through, row_in, IsExactIn, IsAtRestIn}
use Rattle.router_moments.proofs.ScratchRows.{none_below, two_at, int_at, match_at, unjudged, opt_rows, opt_link, row_value, or_none, if_any, by_resolver_row, by_match, same_next_hop, own_external, sent_hop}

module _ (org_exact : OrgWhereNoneIsLost) (hops_exact : hops.ExactUnlessHeldUp) (exits_exact : exits.ExactUnlessHeldUp) (external_exact : external.ExactUnlessHeldUp) (m : Moment) (stands : Stands m) (all : AllHaveExits m) where
  tree : IsTree m.tree
  tree = stands.interior.tree

  -- no task holds up the link at the prefix
  abbrev Rests : Link → AddressPrefix → Type 0
  Rests link p = (task : Task) → HoldsUp task link → holds_up_at task m p ≡ false

  -- then none holds up a link there that it is made of
  above : (upper link : Link) (p : AddressPrefix) → Feeds upper link → Rests link p → Rests upper p
  above upper link p feeds rest task holds = rest task (through upper link feeds holds)

  -- ---- interior routes
  abbrev routes_in : Proto → Interiors
  routes_in proto = (branch_of proto m.tree).tables.live

  abbrev scratch_int : Rows Interior
  scratch_int = least_rows routes_in (origins Int)

  -- the links of protocols, below `low` and `dyn`
  protocols : (p : AddressPrefix) → Rests Int p → (proto : Proto) → Rests (Org proto) p
  protocols p rest Connected = above (Org Connected) Low p tt (above Low Int p tt rest)
  protocols p rest Static = above (Org Static) Low p tt (above Low Int p tt rest)
  protocols p rest Ospf = above (Org Ospf) Dyn p tt (above Dyn Int p tt rest)
  protocols p rest Rip = above (Org Rip) Dyn p tt (above Dyn Int p tt rest)

  lacks : (p : AddressPrefix) (proto : Proto) → Rests (Org proto) p → (n : ℕ) → tree_lags m.tree (Rdel proto n) p ≡ false
  lacks p proto rest n = first_false (tree_lags m.tree (Rdel proto n) p) (is_over_hop (Rdel proto n) m p) (rest (Rdel proto n) (directly (Org proto) refl))

  int_is : (p : AddressPrefix) → Rests Int p → int_rows m.tree p ≡ scratch_int p
  int_is p rest = int_at org_exact m.tree tree p (λ proto. lacks p proto (protocols p rest proto))

  match_rests : (p : AddressPrefix) (k a : ℕ) → Rests Int p → k < 65 → next_hop_at m k p ≡ Some a → longest_match (int_rows m.tree) a ≡ longest_match scratch_int a
  unfolding peer_numbers
  match_rests p k a rest less at = match_at org_exact m.tree tree a width (λ proto n.
      sym (ap (is_over m.tree (Rdel proto n)) at)
      ∙ none_below (λ j. is_over m.tree (Rdel proto n) (next_hop_at m j p)) 0 65 k (second_false (tree_lags m.tree (Rdel proto n) p) (is_over_hop (Rdel proto n) m p) (protocols p rest proto (Rdel proto n) (directly (Org proto) refl))) less k (omega arith))

  -- from the row of a link to the link, which is live since `local`
  since : {V : Type 0} (v : V → Value) (rows now : Rows V) (link : Link) (p : AddressPrefix) → tree_links m.tree link ≡ Some (valued v rows) → rows p ≡ now p
      → (s : Option Speaker) → row_in (tree_by s m.tree link) p ≡ row_in (option_map (valued v) (since_local s now)) p
  since v rows now link p is same None = refl
  since v rows now link p is same (Some me) = ap (λ o. row_in o p) is ∙ ap (λ row. Some (option_map v row)) same

  lost_exact : (proto : Proto) (n : ℕ) (p : AddressPrefix) → has_work (Rdel proto n) m ≡ false → (s : Option Speaker) → row_in (tree_by s m.tree (LostOf proto n)) p ≡ None
  lost_exact proto n p rest None = refl
  lost_exact proto n p rest (Some me) = ap (λ o. row_in (option_map interior_rows o) p) (no_link (routes_in proto) n (branch_of proto m.tree).tables.deletions rest)

  -- ---- peers
  here : (k : ℕ) (c : Chained) → chain_at k m.chains ≡ Some c → nat_eq k c.incoming.number ≡ true
  here k c at = same_by k c.incoming.number (sym (stands.peers.chains k c at).number)

  stage_lacks : (k s : ℕ) (c : Chained) (p : AddressPrefix) → chain_at k m.chains ≡ Some c → holds_up_at (Del k s) m p ≡ false → has_row (table_of s c.incoming.tables.deletions) p ≡ false
  stage_lacks k s c p at none = sym (ap (λ (b : Bool). b && has_row (table_of s c.incoming.tables.deletions) p) (here k c at)) ∙ sym (ap (λ (o : Option Chained). lags_in (Del k s) o p) at) ∙ none

  in_is : (k : ℕ) (c : Chained) (p : AddressPrefix) → chain_at k m.chains ≡ Some c → ((s : ℕ) → holds_up_at (Del k s) m p ≡ false) → in_rows c.incoming p ≡ tables.get c.incoming.tables.live p
  in_is k c p at none = live_where_none_is_lost c.incoming.tables.live c.incoming.tables.deletions p (stands.peers.chains k c at).chain.rising (λ s. stage_lacks k s c p at (none s))

  in_exact : (k : ℕ) (p : AddressPrefix) → Rests (In k) p → (d : Option DeclaredPeer) (c : Option Chained) → chain_at k m.chains ≡ c → StandsAt d c → row_in (links_by c (In k)) p ≡ row_in (option_map attrs_rows (live_rows d (routes_of c))) p
  in_exact k p rest None None at there = refl
  in_exact k p rest None (Some c) at there = absurd there
  in_exact k p rest (Some d) None at there = absurd there
  in_exact k p rest (Some d) (Some c) at there =
      ap (λ (b : Bool). row_in (cond b (Some (attrs_rows (in_rows c.incoming))) None) p) (here k c at)
      ∙ ap (λ (o : Option Attrs). Some (option_map attrs_value o)) (in_is k c p at (λ s. rest (Del k s) (directly (In k) refl)))

  peer_exact : (k s : ℕ) (p : AddressPrefix) → has_work (Del k s) m ≡ false → (c : Option Chained) → chain_at k m.chains ≡ c → row_in (links_by c (Peer k s)) p ≡ None
  peer_exact k s p none None at = refl
  peer_exact k s p none (Some c) at =
      ap (λ (b : Bool). row_in (cond b (option_map attrs_rows (rows_above c.incoming.tables.live s c.incoming.tables.deletions)) None) p) (here k c at)
      ∙ ap (λ o. row_in (option_map attrs_rows o) p) (no_link c.incoming.tables.live s c.incoming.tables.deletions
      (sym (ap (λ (b : Bool). b && is_some (table_of s c.incoming.tables.deletions)) (here k c at)) ∙ sym (ap (has_turn_in (Del k s)) at) ∙ none))

  filt_is : (k : ℕ) (c : Chained) (p : AddressPrefix) → chain_at k m.chains ≡ Some c → Rests (Filt k) p → filt_rows c p ≡ filtered c.me c.peer (present c.filter) p (tables.get c.incoming.tables.live p)
  filt_is k c p at rest =
      exact_unless_held_up c.me c.peer c.filter p (in_rows c.incoming p)
      (sym (ap (λ (b : Bool). b && row_lags c.filter p (in_rows c.incoming p)) (here k c at)) ∙ sym (ap (λ (o : Option Chained). lags_in (Fin k) o p) at) ∙ rest (Fin k) (directly (Filt k) refl))
      ∙ ap (filtered c.me c.peer (present c.filter) p) (in_is k c p at (λ s. rest (Del k s) (through (In k) (Filt k) refl (directly (In k) refl))))

  judged_is : (k : ℕ) (c : Chained) (d : DeclaredPeer) (p : AddressPrefix) → chain_at k m.chains ≡ Some c → StandsAt (Some d) (Some c) → Rests (Filt k) p
      → Some (filt_rows c p) ≡ row_in (judged_rows m.declared.speaker (Some d) (present c.filter) c.incoming.tables.live) p
  judged_is k c d p at there rest =
      ap (λ (o : Option Route). Some o) (filt_is k c p at rest)
      ∙ ap (λ (w : Neighbour). Some (filtered c.me w (present c.filter) p (tables.get c.incoming.tables.live p))) there.words
      ∙ ap (λ (s : Option Speaker). row_in (judged_rows s (Some d) (present c.filter) c.incoming.tables.live) p) (sym (stands.peers.speaker k c at))

  filt_exact : (k : ℕ) (p : AddressPrefix) → Rests (Filt k) p → (d : Option DeclaredPeer) (c : Option Chained) → chain_at k m.chains ≡ c → StandsAt d c
      → row_in (links_by c (Filt k)) p ≡ row_in (option_map route_rows (judged_rows m.declared.speaker d (rules_of c) (routes_of c))) p
  filt_exact k p rest None None at there = sym (ap (λ o. row_in (option_map route_rows o) p) (unjudged m.declared.speaker [] tables.empty))
  filt_exact k p rest None (Some c) at there = absurd there
  filt_exact k p rest (Some d) None at there = absurd there
  filt_exact k p rest (Some d) (Some c) at there =
      ap (λ (b : Bool). row_in (cond b (Some (route_rows (filt_rows c))) None) p) (here k c at)
      ∙ row_value route_value (Some (filt_rows c)) (judged_rows m.declared.speaker (Some d) (present c.filter) c.incoming.tables.live) p (judged_is k c d p at there rest)

  -- ---- next hops
  hop_row : (p : AddressPrefix) (k : ℕ) → Rests Int p → k < 65 → (o : Option Route) → filt_at m.chains k p ≡ o → goes_on route_hop with_metric (λ (a : ℕ). Some (answer_of metric_of m.registry a)) o ≡ resolved_row scratch_int o
  hop_row p k none less None at = refl
  hop_row p k none less (Some r) at =
      ap (λ (rows : Rows Interior). with_metric r (metric_of (longest width rows (route_hop r)))) stands.registered
      ∙ by_match r (longest width (int_rows m.tree) (route_hop r))
      ∙ ap (with_metric_of r) (match_is (int_rows m.tree) (route_hop r) ∙ match_rests p k (route_hop r) none less (ap (option_map route_hop) at))

  res_rests : (p : AddressPrefix) (k : ℕ) → Rests (Res k) p → k < 65 → (s : Resolving Metric) → resolver_at k m.hops ≡ Some s → metric_rows s (filt_at m.chains k) p ≡ resolved_row scratch_int (filt_at m.chains k p)
  res_rests p k rest less s at =
      hops_exact m.hops (filt_at m.chains) m.registry k s p stands.hops.sound stands.hops.agree stands.hops.counted at (rest (Nh k) (directly (Res k) refl))
      ∙ hop_row p k (above Int (Res k) p tt rest) less (filt_at m.chains k p) refl

  res_is : (k : ℕ) (p : AddressPrefix) → Rests (Res k) p → (d : Option DeclaredPeer) (c : Option Chained) → chain_at k m.chains ≡ c → StandsAt d c
      → row_in (opt_rows (resolver_at k m.hops) (filt_at m.chains k)) p ≡ row_in (option_map (resolved_rows scratch_int) (judged_rows m.declared.speaker d (rules_of c) (routes_of c))) p
  res_is k p rest None None at there =
      ap (λ (o : Option (Resolving Metric)). row_in (opt_rows o (filt_at m.chains k)) p) (no_table (resolver_at k m.hops) (stands.hops.same k ∙ ap is_some at))
      ∙ sym (ap (λ (o : Option (Rows Route)). row_in (option_map (resolved_rows scratch_int) o) p) (unjudged m.declared.speaker [] tables.empty))
  res_is k p rest None (Some c) at there = absurd there
  res_is k p rest (Some d) None at there = absurd there
  res_is k p rest (Some d) (Some c) at there = by_resolver (resolver_at k m.hops) refl (stands.hops.same k ∙ ap is_some at)
    where
      small : k < 65
      small = let most = (stands.peers.numbers k (ap is_some at)).1 in omega (arith, most)

      resolved : (o : Option (Rows Route)) (row : Option Route) → Some row ≡ row_in o p → Some (resolved_row scratch_int row) ≡ row_in (option_map (resolved_rows scratch_int) o) p
      resolved None row is = absurd (clash_some row ⊥ (sym is))
      resolved (Some rows) row is = ap (λ (x : Option Route). Some (resolved_row scratch_int x)) (same_some row (rows p) is)

      by_resolver : (o : Option (Resolving Metric)) → resolver_at k m.hops ≡ o → is_some o ≡ true
          → row_in (opt_rows o (filt_at m.chains k)) p ≡ row_in (option_map (resolved_rows scratch_int) (judged_rows m.declared.speaker (Some d) (present c.filter) c.incoming.tables.live)) p
      by_resolver None is some = absurd (let clash : false ≡ true = some in cc)
      by_resolver (Some s) is some =
          ap (λ (row : Option Route). Some row) (res_rests p k rest small s is)
          ∙ ap (λ (o : Option Chained). Some (resolved_row scratch_int (filt_by o p))) at
          ∙ resolved (judged_rows m.declared.speaker (Some d) (present c.filter) c.incoming.tables.live) (filt_rows c p) (judged_is k c d p at there (above (Filt k) (Res k) p refl rest))

  res_at_rest : (k : ℕ) (p : AddressPrefix) → Rests (Res k) p → row_in (opt_rows (resolver_at k m.hops) (filt_at m.chains k)) p ≡ row_in (resolved_of (live_state m) k) p
  res_at_rest k p rest = res_is k p rest (peer_at k m.declared.peers) (chain_at k m.chains) refl (stands.peers.each k)

  -- ---- the decision
  -- the row of `red`, or none where it isn't live
  own_at_rest : (p : AddressPrefix) → Rests Red p → (s : Option Speaker) → own_rows s m.redist (int_rows m.tree) p ≡ rows_if_any (live_own_rows s (has (present m.redist)) scratch_int) p
  own_at_rest p rest None = refl
  own_at_rest p rest (Some me) =
      latest_row (redistributed me) m.redist p (int_rows m.tree p) (λ on q. refl) (rest Own (directly Red tt))
      ∙ own_at me (present m.redist) p (int_rows m.tree p)
      ∙ ap (own_row me (has (present m.redist))) (int_is p (above Int Red p tt rest))

  red_exact : (p : AddressPrefix) → Rests Red p → (s : Option Speaker) → row_in (own_links s (own_rows s m.redist (int_rows m.tree)) Red) p ≡ row_in (option_map route_rows (live_own_rows s (has (present m.redist)) scratch_int)) p
  red_exact p rest None = refl
  red_exact p rest (Some me) = ap (λ (row : Option Route). Some (option_map route_value row)) (own_at_rest p rest (Some me))

  best_is : (p : AddressPrefix) → Rests Best p → best_of m p ≡ live_best (live_state m) p
  best_is p rest = best_is_of_its_prefix (all_at (own_of m) m.chains m.hops) (live_candidates (live_state m)) p same ∙ best_is_picked (live_candidates (live_state m)) p
    where
      same : (k : ℕ) → k < 65 → all_at (own_of m) m.chains m.hops k p ≡ live_candidates (live_state m) k p
      same zero less = own_at_rest p (above Red Best p tt rest) m.declared.speaker
      same (suc k) less =
          by_resolver_row (resolver_at (suc k) m.hops) (filt_at m.chains (suc k)) p
          ∙ ap or_none (res_at_rest (suc k) p (above (Res (suc k)) Best p tt rest))
          ∙ sym (if_any (resolved_of (live_state m) (suc k)) p)

  abbrev picked : Rows Route
  picked = live_best (live_state m)

  best_exact : (p : AddressPrefix) → Rests Best p → (s : Option Speaker) → row_in (best_links s (best_of m) Best) p ≡ row_in (option_map route_rows (since_local s picked)) p
  best_exact p rest None = refl
  best_exact p rest (Some me) = ap (λ (row : Option Route). Some (option_map route_value row)) (best_is p rest)

  -- ---- what reads `best`
  -- the row that the forwarding side has read is that of `best`
  unread_is : (p : AddressPrefix) → Rests ReadRib p → (r : ℕ) → m.reader ≡ Some r → read_rows m.exits.queue r (best_of m) p ≡ best_of m p
  unread_is p rest r is = unchanged_stays (best_of m) (unread_by m.exits.queue r) p (ap (λ (o : Option ℕ). changed_in (unread_if m.exits.queue o) p) (sym is) ∙ rest Reading (directly ReadRib tt))

  reader_exact : (p : AddressPrefix) → Rests ReadRib p → (s : Option Speaker) (o : Option ℕ) → m.reader ≡ o → ReadsOn s o m.exits → row_in (read_by m.exits.queue o (best_of m)) p ≡ row_in (option_map route_rows (since_local s picked)) p
  reader_exact p rest (Some me) (Some r) is on = ap (λ (row : Option Route). Some (option_map route_value row)) (unread_is p rest r is ∙ best_is p (above Best ReadRib p tt rest))
  reader_exact p rest (Some me) None is on = absurd on
  reader_exact p rest None (Some r) is on = absurd on
  reader_exact p rest None None is on = refl

  read_now : (p : AddressPrefix) → Rests ReadRib p → (me : Speaker) → m.declared.speaker ≡ Some me → read_of m p ≡ best_of m p
  read_now p rest me local = by_reader m.reader refl (subst (λ (s : Option Speaker). ReadsOn s m.reader m.exits) local stands.exits.one)
    where
      by_reader : (o : Option ℕ) → m.reader ≡ o → ReadsOn (Some me) o m.exits → read_rows_by m.exits.queue o (best_of m) p ≡ best_of m p
      by_reader None is on = absurd on
      by_reader (Some r) is on = unread_is p rest r is

  read_is : (p : AddressPrefix) → Rests ReadRib p → (me : Speaker) → m.declared.speaker ≡ Some me → read_of m p ≡ picked p
  read_is p rest me local = read_now p rest me local ∙ best_is p (above Best ReadRib p tt rest)

  -- ---- the links of the forwarding side
  -- from the row of such a link to the link, which is live since `local`
  forwards : {V : Type 0} (v : V → Value) (rows now : Rows V) (link : Link) (p : AddressPrefix) → external_links m.rib (int_rows m.tree) link ≡ Some (valued v rows) → ((me : Speaker) → m.declared.speaker ≡ Some me → rows p ≡ now p)
      → (s : Option Speaker) → m.declared.speaker ≡ s → row_in (forward_by s m.rib (int_rows m.tree) link) p ≡ row_in (option_map (valued v) (since_local s now)) p
  forwards v rows now link p is same None local = refl
  forwards v rows now link p is same (Some me) local = ap (λ o. row_in o p) is ∙ ap (λ row. Some (option_map v row)) (same me local)

  ebgp_exact : (p : AddressPrefix) → Rests Ebgp p → IsExactIn m Ebgp p
  ebgp_exact p rest =
      forwards external_value (kept_rows m.rib.splitter sides.Ebgp) (external_rows (λ w. not w.internal) picked) Ebgp p refl
      (λ me local. ap (λ (rows : Rows ExternalRow). rows p) (ebgp_is m.rib (read_of m) stands.exits.external) ∙ ap (external_row (λ w. not w.internal)) (read_is p (above ReadRib Ebgp p tt rest) me local)) m.declared.speaker refl

  ibgp_exact : (p : AddressPrefix) → Rests Ibgp p → IsExactIn m Ibgp p
  ibgp_exact p rest =
      forwards external_value (kept_rows m.rib.splitter sides.Ibgp) (external_rows (λ w. w.internal) picked) Ibgp p refl
      (λ me local. ap (λ (rows : Rows ExternalRow). rows p) (ibgp_is m.rib (read_of m) stands.exits.external) ∙ ap (external_row (λ w. w.internal)) (read_is p (above ReadRib Ibgp p tt rest) me local)) m.declared.speaker refl

  ext_row_is : (p : AddressPrefix) → ext_rows m.rib p ≡ external_row (λ w. true) (read_of m p)
  ext_row_is p = ap (λ (rows : Rows ExternalRow). rows p) (ext_is m.rib (read_of m) stands.exits.external)

  ext_exact : (p : AddressPrefix) → Rests Ext p → IsExactIn m Ext p
  ext_exact p rest =
      forwards external_value (ext_rows m.rib) (external_rows (λ w. true) picked) Ext p refl
      (λ me local. ext_row_is p ∙ ap (external_row (λ w. true)) (read_is p (above ReadRib Ebgp p tt (above Ebgp Ext p tt rest)) me local)) m.declared.speaker refl

  -- the next hop of the best route of a peer is that of a row of some `filt.K`
  best_hop : (p : AddressPrefix) (x : ExternalRow) → external_row (λ w. true) (best_of m p) ≡ Some x → (k : ℕ) × (k < 65) × (next_hop_at m k p ≡ Some x.next_hop)
  best_hop p x is =
      let sent = sent_hop (best_of m p) x is in
      let r : Route = sent.0 in
      let from = best_is_a_branchs (all_at (own_of m) m.chains m.hops) p r sent.1 in
      by_branch r sent.1 sent.2 from.0 from.1 from.2
    where
      by_branch : (r : Route) → best_of m p ≡ Some r → route_hop r ≡ x.next_hop → (b : ℕ) → b < 65 → all_at (own_of m) m.chains m.hops b p ≡ Some r → (k : ℕ) × (k < 65) × (next_hop_at m k p ≡ Some x.next_hop)
      by_branch r best hop zero less at =
          absurd (clash_some x ⊥ (sym (own_external m.declared.speaker m.redist (int_rows m.tree) p r at) ∙ sym (ap (external_row (λ w. true)) best) ∙ is))
      by_branch r best hop (suc k) less at =
          (suc k, less, same_next_hop (resolver_at (suc k) m.hops) (filt_at m.chains (suc k)) p r at ∙ ap (λ (a : ℕ). Some a) hop)

  reached_is : (p : AddressPrefix) → Rests Int p → (o : Option ExternalRow) → external_row (λ w. true) (best_of m p) ≡ o → reached (longest width (tables.get m.registry.rows)) o ≡ reached_row scratch_int o
  reached_is p rest None at = refl
  reached_is p rest (Some x) at =
      let from = best_hop p x at in
      ap (λ (rows : Rows Interior). over x (way_of (longest width rows x.next_hop))) stands.registered
      ∙ over_is x (longest width (int_rows m.tree) x.next_hop)
      ∙ ap (over_interior x) (match_is (int_rows m.tree) x.next_hop ∙ match_rests p from.0 x.next_hop rest from.1 from.2)

  fib_exact : (p : AddressPrefix) → Rests Fib p → IsExactIn m Fib p
  fib_exact p rest = forwards fib_value (fib_over m.rib (int_rows m.tree)) (forwarding_rows scratch_int (external_rows (λ w. true) picked)) Fib p refl same m.declared.speaker refl
    where
      reads : Rests ReadRib p
      reads = above ReadRib Ebgp p tt (above Ebgp Ext p tt (above Ext Fib p tt rest))

      interior : Rests Int p
      interior = above Int Fib p tt rest

      same : (me : Speaker) → m.declared.speaker ≡ Some me → fib_over m.rib (int_rows m.tree) p ≡ forwarding_rows scratch_int (external_rows (λ w. true) picked) p
      same me local =
          let row : ext_rows m.rib p ≡ external_row (λ w. true) (best_of m p) = ext_row_is p ∙ ap (external_row (λ w. true)) (read_now p reads me local) in
          external_exact m.rib (read_of m) (int_rows m.tree) m.registry p stands.external.sound stands.exits.external stands.external.agree (rest External (directly Fib tt))
          ∙ ap (row_of_both fib_distance (option_map fib_row (int_rows m.tree p))) (ap (reached (longest width (tables.get m.registry.rows))) row ∙ reached_is p interior (external_row (λ w. true) (best_of m p)) refl)
          ∙ ap (λ (o : Option Route). row_of_both fib_distance (option_map fib_row (int_rows m.tree p)) (reached_row scratch_int (external_row (λ w. true) o))) (best_is p (above Best ReadRib p tt reads))
          ∙ ap (λ (o : Option Interior). row_of_both fib_distance (option_map fib_row o) (reached_row scratch_int (external_row (λ w. true) (picked p)))) (int_is p interior)
          ∙ lesser_is (option_map fib_row (scratch_int p)) (reached_row scratch_int (external_row (λ w. true) (picked p)))

  -- ---- the links of sessions
  same_session : (a b : ℕ) → nat_eq a b ≡ nat_eq b a
  same_session a b = by_bool (nat_eq a b) (λ x. x ≡ nat_eq b a) (λ same. grind (arith, nat_tests, same)) (λ apart. grind (arith, nat_tests, apart))

  module _ (V : Type 0) (v : V → Value) (j s : ℕ) (p : AddressPrefix) (got : OutChained → Rows V) (want : Speaker → Neighbour → Rows V) where
    abbrev link_of : Option OutChained → Option (Rows Value)
    link_of None = None
    link_of (Some c) = cond ((j == c.peer.number) && (s == c.session)) (Some (valued v (got c))) None

    in_time : (b : Bool) (rows now : Rows V) → rows p ≡ now p → row_in (cond b (Some (valued v rows)) None) p ≡ row_in (option_map (valued v) (cond b (Some now) None)) p
    in_time true rows now same = ap (λ (row : Option V). Some (option_map v row)) same
    in_time false rows now same = refl

    session_exact : (sp : Option Speaker) (d : Option DeclaredPeer) (o : Option OutChained) → ExitsAt sp m.outgoing j d o → ((q : DeclaredPeer) → d ≡ Some q → q.up ≡ true → IsSome o) → ((c : OutChained) → o ≡ Some c → c.peer.number ≡ j)
        → ((c : OutChained) (me : Speaker) (q : DeclaredPeer) → o ≡ Some c → sp ≡ Some me → IsExitOf me (rules_to j m.outgoing) q c → got c p ≡ want me q.words p) → row_in (link_of o) p ≡ row_in (option_map (valued v) (in_session sp d s want)) p
    session_exact (Some me) (Some d) (Some c) is each number rows =
        ap (λ (b : Bool). row_in (cond (b && (s == c.session)) (Some (valued v (got c))) None) p) (same_by j c.peer.number (sym (number c refl)))
        ∙ ap (λ (b : Bool). row_in (cond b (Some (valued v (got c))) None) p) (ap (nat_eq s) is.session ∙ same_session s d.session ∙ ap (λ (b : Bool). b && (d.session == s)) (sym is.up))
        ∙ in_time (d.up && (d.session == s)) (got c) (want me d.words) (rows c me d refl refl is)
    session_exact (Some me) (Some d) None is each number rows = by_up d.up refl
      where
        by_up : (b : Bool) → d.up ≡ b → None ≡ row_in (option_map (valued v) (cond (d.up && (d.session == s)) (Some (want me d.words)) None)) p
        by_up true up = absurd (let clash : false ≡ true = each d refl up in cc)
        by_up false up = ap (λ (b : Bool). row_in (option_map (valued v) (cond (b && (d.session == s)) (Some (want me d.words)) None)) p) (sym up)
    session_exact (Some me) None (Some c) is each number rows = absurd is
    session_exact (Some me) None None is each number rows = refl
    session_exact None d (Some c) is each number rows = absurd is
    session_exact None d None is each number rows = refl

  made_as : (j : ℕ) (c : OutChained) (me : Speaker) (d : DeclaredPeer) → exit_at j m.exits ≡ Some c → IsExitOf me (rules_to j m.outgoing) d c → (p : AddressPrefix) (row : Option Route)
      → made_by c (present c.filter) p row ≡ outgoing (sent_to m.declared.profile me (not d.words.internal)) d.words (Some (rules_to j m.outgoing)) p row
  made_as j c me d at is p row =
      ap (λ (r : Option (List Rule)). made_by c r p row) is.latest
      ∙ ap (λ (f : Profile). outgoing (sent_to f c.exit.me c.exit.external) c.peer (Some (rules_to j m.outgoing)) p row) (stands.exits.each.each j c at).profile
      ∙ ap (λ (f : Profile). outgoing (sent_to f c.exit.me c.exit.external) c.peer (Some (rules_to j m.outgoing)) p row) stands.exits.profile
      ∙ ap (λ (b : Bool). outgoing (sent_to m.declared.profile c.exit.me b) c.peer (Some (rules_to j m.outgoing)) p row) (stands.exits.read j c at).chain.kind
      ∙ ap (λ (x : Speaker). outgoing (sent_to m.declared.profile x (not c.peer.internal)) c.peer (Some (rules_to j m.outgoing)) p row) is.speaker
      ∙ ap (λ (w : Neighbour). outgoing (sent_to m.declared.profile me (not w.internal)) w (Some (rules_to j m.outgoing)) p row) is.words

  numbered : (j : ℕ) (c : OutChained) → exit_at j m.exits ≡ Some c → c.peer.number ≡ j
  numbered j c at = (stands.exits.each.each j c at).number

  sent_is : (j : ℕ) (p : AddressPrefix) → Rests Best p → holds_up_at (Out j) m p ≡ false → (c : OutChained) (me : Speaker) (d : DeclaredPeer) → exit_at j m.exits ≡ Some c → IsExitOf me (rules_to j m.outgoing) d c
      → tables.get c.sent p ≡ sent_rows m.declared.profile me d.words (rules_to j m.outgoing) picked p
  sent_is j p best rest c me d at is = (exits_exact m.exits (best_of m) j c p stands.exits.read at rest).1 ∙ ap (made_by c (present c.filter) p) (best_is p best) ∙ made_as j c me d at is p (picked p)

  outf_is : (j : ℕ) (p : AddressPrefix) → Rests Best p → holds_up_at (Out j) m p ≡ false → (c : OutChained) (me : Speaker) (d : DeclaredPeer) → exit_at j m.exits ≡ Some c → IsExitOf me (rules_to j m.outgoing) d c
      → outf_rows c (read_rows m.exits.queue c.reader (best_of m)) p ≡ sent_rows m.declared.profile me d.words (rules_to j m.outgoing) picked p
  outf_is j p best rest c me d at is = sym (ap (λ (rows : Rows Attrs). rows p) (stands.exits.read j c at).exact) ∙ sent_is j p best rest c me d at is

  read_link : (o : Option OutChained) (j s : ℕ) (p : AddressPrefix) → exit_link m.exits.queue (best_of m) o (Read j s) ≡ link_of (Route) route_value j s p (λ c. read_rows m.exits.queue c.reader (best_of m)) (λ me w. picked) o
  read_link None j s p = refl
  read_link (Some c) j s p = refl

  outf_link : (o : Option OutChained) (j s : ℕ) (p : AddressPrefix) → exit_link m.exits.queue (best_of m) o (Outf j s) ≡ link_of (Attrs) attrs_value j s p (λ c. outf_rows c (read_rows m.exits.queue c.reader (best_of m))) (λ me w. sent_rows m.declared.profile me w (rules_to j m.outgoing) picked) o
  outf_link None j s p = refl
  outf_link (Some c) j s p = refl

  adv_link : (o : Option OutChained) (j s : ℕ) (p : AddressPrefix) → exit_link m.exits.queue (best_of m) o (Adv j s) ≡ link_of (Attrs) attrs_value j s p (λ c. tables.get c.sent) (λ me w. sent_rows m.declared.profile me w (rules_to j m.outgoing) picked) o
  adv_link None j s p = refl
  adv_link (Some c) j s p = refl

  read_exact : (j s : ℕ) (p : AddressPrefix) → Rests (Read j s) p → IsExactIn m (Read j s) p
  read_exact j s p rest =
      ap (λ o. row_in o p) (read_link (exit_at j m.exits) j s p)
      ∙ session_exact (Route) route_value j s p (λ c. read_rows m.exits.queue c.reader (best_of m)) (λ me w. picked) m.declared.speaker (peer_at j m.declared.peers) (exit_at j m.exits) (stands.exits.sessions j) (all j) (numbered j)
      (λ c me d at local is. (exits_exact m.exits (best_of m) j c p stands.exits.read at (rest (Out j) (directly (Read j s) refl))).0 ∙ best_is p (above Best (Read j s) p tt rest))

  outf_exact : (j s : ℕ) (p : AddressPrefix) → Rests (Outf j s) p → IsExactIn m (Outf j s) p
  outf_exact j s p rest =
      ap (λ o. row_in o p) (outf_link (exit_at j m.exits) j s p)
      ∙ session_exact (Attrs) attrs_value j s p (λ c. outf_rows c (read_rows m.exits.queue c.reader (best_of m))) (λ me w. sent_rows m.declared.profile me w (rules_to j m.outgoing) picked) m.declared.speaker (peer_at j m.declared.peers) (exit_at j m.exits) (stands.exits.sessions j) (all j) (numbered j)
      (λ c me d at local is. outf_is j p (above Best (Read j s) p tt (read j s p rest)) (read j s p rest (Out j) (directly (Read j s) refl)) c me d at is)
    where
      read : (j s : ℕ) (p : AddressPrefix) → Rests (Outf j s) p → Rests (Read j s) p
      read j s p rest = above (Read j s) (Outf j s) p (refl, refl) rest

  adv_exact : (j s : ℕ) (p : AddressPrefix) → Rests (Adv j s) p → IsExactIn m (Adv j s) p
  adv_exact j s p rest =
      ap (λ o. row_in o p) (adv_link (exit_at j m.exits) j s p)
      ∙ session_exact (Attrs) attrs_value j s p (λ c. tables.get c.sent) (λ me w. sent_rows m.declared.profile me w (rules_to j m.outgoing) picked) m.declared.speaker (peer_at j m.declared.peers) (exit_at j m.exits) (stands.exits.sessions j) (all j) (numbered j)
      (λ c me d at local is. sent_is j p (above Best (Read j s) p tt (read j s p rest)) (read j s p rest (Out j) (directly (Read j s) refl)) c me d at is)
    where
      read : (j s : ℕ) (p : AddressPrefix) → Rests (Adv j s) p → Rests (Read j s) p
      read j s p rest = above (Read j s) (Outf j s) p (refl, refl) (above (Outf j s) (Adv j s) p (refl, refl) rest)

  -- ---- each link
  pub at_rest_is_exact : (link : Link) (p : AddressPrefix) → IsAtRestIn m link p → IsExactIn m link p
  at_rest_is_exact (In k) p rest = in_exact k p rest (peer_at k m.declared.peers) (chain_at k m.chains) refl (stands.peers.each k)
  at_rest_is_exact (Peer k s) p rest = peer_exact k s p (rest (Del k s) (directly (Peer k s) (refl, refl))) (chain_at k m.chains) refl
  at_rest_is_exact (Filt k) p rest = filt_exact k p rest (peer_at k m.declared.peers) (chain_at k m.chains) refl (stands.peers.each k)
  at_rest_is_exact (Res k) p rest =
      ap (λ o. row_in o p) (opt_link (resolver_at k m.hops) (filt_at m.chains k)) ∙ row_value route_value (opt_rows (resolver_at k m.hops) (filt_at m.chains k)) (resolved_of (live_state m) k) p (res_at_rest k p rest)
  at_rest_is_exact Red p rest = red_exact p rest m.declared.speaker
  at_rest_is_exact Best p rest = best_exact p rest m.declared.speaker
  at_rest_is_exact ReadRib p rest = reader_exact p rest m.declared.speaker m.reader refl stands.exits.one
  at_rest_is_exact Ebgp p rest = ebgp_exact p rest
  at_rest_is_exact Ibgp p rest = ibgp_exact p rest
  at_rest_is_exact Ext p rest = ext_exact p rest
  at_rest_is_exact Fib p rest = fib_exact p rest
  at_rest_is_exact (Read j s) p rest = read_exact j s p rest
  at_rest_is_exact (Outf j s) p rest = outf_exact j s p rest
  at_rest_is_exact (Adv j s) p rest = adv_exact j s p rest
  at_rest_is_exact (Org proto) p rest = since interior_value (org_rows (branch_of proto m.tree)) (tables.get (routes_in proto)) (Org proto) p refl (org_exact m.tree tree proto p (lacks p proto rest)) m.declared.speaker
  at_rest_is_exact (LostOf proto n) p rest = lost_exact proto n p (rest (Rdel proto n) (directly (LostOf proto n) (refl, refl))) m.declared.speaker
  at_rest_is_exact Low p rest = since interior_value (low_rows m.tree) (least_rows routes_in (origins Low)) Low p refl
      (two_at org_exact m.tree tree Connected Static p (lacks p Connected (above (Org Connected) Low p tt rest)) (lacks p Static (above (Org Static) Low p tt rest))) m.declared.speaker
  at_rest_is_exact Dyn p rest = since interior_value (dyn_rows m.tree) (least_rows routes_in (origins Dyn)) Dyn p refl
      (two_at org_exact m.tree tree Ospf Rip p (lacks p Ospf (above (Org Ospf) Dyn p tt rest)) (lacks p Rip (above (Org Rip) Dyn p tt rest))) m.declared.speaker
  at_rest_is_exact Int p rest = since interior_value (int_rows m.tree) scratch_int Int p refl (int_is p rest) m.declared.speaker
