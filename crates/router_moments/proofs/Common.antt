-- The names that three proofs or more cite, passed on from one place. Declares nothing.
pub use Rattle.std.proofs.Common.{sym, subst, ◌∙◌, ap, ◌≡◌, ℕ, refl, List, true, arith, false, ◌+◌, Bool, ◌++◌, ◌≤◌, cond, ◌<◌, suc, zero, nat_eq, not, take, ◌≢◌, ◌&&◌, ◌||◌, inr, nat_lt, inl, get_or, ◌-◌, ◌*◌, length-append, IfSome, ◌⊎◌}
pub use Rattle.std.proofs.lemmas.Bool.Decides.{nat_tests}
pub use Rattle.std.proofs.lemmas.List.{take_more}
pub use Rattle.std.proofs.lemmas.Option.{same_Some}
pub use Rattle.std.proofs.lemmas.Result.{on_ok_weaker, IfOk-weaker}
pub use Rattle.std.specs.Cmp.{nat_cmp_total}
pub use Rattle.std.specs.FinMap.{FinMap, nat_cmp-IsAntisymmetric, get-empty, get-insert, get-entries}
pub use Rattle.std.specs.List.{AllByRecursion, list_any, Contains, range_with_len, sum_by}
pub use Rattle.std.specs.Option.{ForSome, option_or, option_copied}
pub use Rattle.std.specs.Ordering.{nat_cmp, eq_by_cmp}
pub use Rattle.addr4.proofs.PrefixOrder.{itself}
pub use Rattle.addr4.specs.Places.{key_of}
pub use Rattle.addr4.specs.Prefixes.{AddressPrefix, prefix_cmp}
pub use Rattle.addr4.specs.Hosts.{is_host_prefix}
pub use Rattle.bgp_attr.specs.Attributes.{Attrs}
pub use Rattle.bgp_attr.specs.Routes.{Route}
pub use Rattle.bgp_attr.specs.declared.speaker.Neighbour.{Neighbour}
pub use Rattle.bgp_attr.specs.declared.speaker.Profile.{Profile}
pub use Rattle.bgp_attr.specs.Speakers.{Speaker}
pub use Rattle.bgp_wire.specs.Readable.{AreOctets}
pub use Rattle.bgp_wire.specs.declared.message.Message.{Message}
pub use Rattle.bgp_wire.specs.declared.message.Update.{Update}
pub use Rattle.decision.proofs.LawLemmas.{best_is_a_branchs}
pub use Rattle.decision.specs.Branches.{best_rows}
pub use Rattle.event_text.proofs.Sessions.{begun_words}
pub use Rattle.event_text.specs.Declarations.{peer_at, Declaration, with_session, with_whole, without_session, begun_at, refusal_at}
pub use Rattle.event_text.specs.WellFormed.{IsWellFormed}
pub use Rattle.event_text.specs.declared.declared.DeclaredPeer.{DeclaredPeer}
pub use Rattle.event_text.specs.Event.{Event}
pub use Rattle.event_text.specs.declared.event.Event.TheVariants.{Down, Bgp, RouteAdd, RouteDel, Lose, Query, Work, Whole, Up, Redist}
pub use Rattle.exit_laws.proofs.HearLemmas.{unheard_joins}
pub use Rattle.exit_laws.proofs.OtherLemmas.{others_are_unheard}
pub use Rattle.exit_laws.specs.Printable.{ArePrintableExits, AreBestRows}
pub use Rattle.exit_laws.specs.Views.{AreUnheard}
pub use Rattle.exit_side.specs.Exits.{Exited, AllStand, OutChains, with_exit, with_queue, IsExits}
pub use Rattle.ext_int.specs.Fibs.{fib_distance}
pub use Rattle.fanout_queue.specs.Queues.{Queued, AllLead, Takes}
pub use Rattle.fanout_queue.specs.Readers.{unread_or_none, read_rows, unread_by}
pub use Rattle.filter_bank.specs.Filtered.{filtered}
pub use Rattle.hop_side.specs.Resolvers.{resolver_at, Resolvers, rows_by, known_in, PeerRows, hop_links, IsHops, res_at, AllAgree, AllCounted, metric_rows, link_by, put_resolver}
pub use Rattle.hop_side.specs.Steps.{GoesOn, ComesOn, LeadsRes, HasNoInterest}
pub use Rattle.in_chain.proofs.TurnLemmas.{candidates_are_counted}
pub use Rattle.in_chain.specs.Chains.{Chained, filt_rows, filt_candidates}
pub use Rattle.in_chain.specs.Steps.{welded, fed}
pub use Rattle.addr4.specs.Families.{IsPrefixOf}
pub use Rattle.journal_laws.proofs.PrintedHops.{AllHaveMetrics}
pub use Rattle.journal_laws.proofs.PrintedRows.{Prints, IsFit}
pub use Rattle.journal_laws.specs.Peers.{neighbours, words_in, printing}
pub use Rattle.journal_laws.specs.Printed.{Printing, IsPrinted}
pub use Rattle.journal_laws.specs.Standing.{AreTablesOf, IsInteriorRow, IsPrintableChain, HaveWays, IsWay}
pub use Rattle.journal_text.proofs.JournalLemmas.{entries_of_entries, with_lines_append, with_entries_append}
pub use Rattle.journal_text.proofs.WalkLemmas.{leads_append, leads_nowhere, leads_sent}
pub use Rattle.journal_text.specs.Journals.{Journaled, flushed, Adds, with_entries, with_lines}
pub use Rattle.journal_text.specs.Names.{IsNameNumber}
pub use Rattle.journal_text.specs.Texts.{entries_of}
pub use Rattle.journal_text.specs.Values.{route_value, route_rows, fib_value, interior_value, sent_entries, external_value}
pub use Rattle.journal_text.specs.Walk.{Leads, Links, HasRow, with_link}
pub use Rattle.journal_text.specs.Lines.{Entry}
pub use Rattle.journal_text.specs.Lines.{Line}
pub use Rattle.journal_text.specs.declared.link.Link.{Link}
pub use Rattle.journal_text.specs.declared.link.Link.TheVariants.{Best, Fib, Adv, Res, Read, Outf, Org}
pub use Rattle.journal_text.specs.declared.link.Task.{Task}
pub use Rattle.journal_text.specs.Lines.{Value}
pub use Rattle.link_change.proofs.MapLemmas.{sum_replaced}
pub use Rattle.link_change.specs.Changes.{IsSent}
pub use Rattle.link_change.specs.InOrder.{rows_before}
pub use Rattle.link_change.specs.Rows.{Rows, Candidates, IsNextCandidate, is_empty_map, no_rows, CoversRows, with_row}
pub use Rattle.link_change.specs.Changes.{Change}
pub use Rattle.link_change.specs.Turns.{Turn}
pub use Rattle.link_region.specs.Regions.{joined, with_side, Sides, LeadsIn, region_of}
pub use Rattle.link_region.specs.declared.regions.Region.{Region}
pub use Rattle.link_region.specs.declared.regions.Region.TheVariants.{Decided, Inward, Redistributed, Resolved, Outward, InteriorRoutes, Forward}
pub use Rattle.live_state.proofs.AdmittedLemmas.{speaker_since, whole_is_first}
pub use Rattle.live_state.specs.Declared.{declared_after}
pub use Rattle.live_state.specs.Lives.{LiveState}
pub use Rattle.live_state.specs.Messages.{changes_of, Says, announced_with, withdrawn_from}
pub use Rattle.loss_chain.proofs.ListLemmas.{all_both}
pub use Rattle.loss_chain.proofs.TableLemmas.{no_table, same_by}
pub use Rattle.loss_chain.specs.Steps.{table_of, swept_one}
pub use Rattle.nexthop_known.specs.Hops.{is_stale_at, stale_count}
pub use Rattle.nexthop_known.specs.Hops.{Hop}
pub use Rattle.nexthop_resolver.proofs.MoveLemmas.{same_some}
pub use Rattle.nexthop_resolver.specs.Kept.{route_hop, with_metric, metric_of, way_of, over, external_hop}
pub use Rattle.nexthop_resolver.specs.Registered.{answer_of}
pub use Rattle.nexthop_resolver.specs.Resolving.{Resolving, passes, in_force_by, fresh_by, walk_to, goes_on}
pub use Rattle.nexthop_resolver.specs.declared.rows.Metric.{Metric}
pub use Rattle.out_chain.specs.Chains.{OutChained, RowsMayBeHeard, is_unread}
pub use Rattle.pass_core.specs.Left.{CountsBeyond}
pub use Rattle.pass_core.specs.Passed.{Passed, Walked, function_at, present}
pub use Rattle.pass_core.specs.Turns.{passed_rows}
pub use Rattle.peer_out.specs.Changes.{IsSender, MayBeHeard}
pub use Rattle.peer_side.proofs.PutLemmas.{put_each}
pub use Rattle.peer_side.proofs.WeldLemmas.{adds_both}
pub use Rattle.peer_side.specs.Peers.{chain_at, Chains, filt_at, filt_by, put_chain, rows_in, peer_links, lost_in, overdue_at, has_turn_in, routes_of, rules_of}
pub use Rattle.policy_rules.specs.Rules.{Rule}
pub use Rattle.register_interest.specs.Width.{width}
pub use Rattle.redist.specs.Local.{redistributed}
pub use Rattle.redist.specs.Protocols.{has}
pub use Rattle.redist.specs.declared.protos.Protos.{Protos}
pub use Rattle.register_interest.specs.Registers.{Registry}
pub use Rattle.rib_exit.proofs.LawLemmas.{ext_is_of_best}
pub use Rattle.rib_exit.specs.Exits.{StandsOver, ext_rows, fib_over, AgreesWith}
pub use Rattle.rib_exit.specs.Steps.{FallsOn}
pub use Rattle.rib_exit.specs.RibExits.{RibExit}
pub use Rattle.rib_merge.specs.Merging.{row_of_both}
pub use Rattle.rib_route.specs.declared.Proto.{Proto}
pub use Rattle.rib_route.specs.declared.Proto.TheVariants.{Connected, Static, Ospf, Rip}
pub use Rattle.rib_route.specs.Rows.{FibRow}
pub use Rattle.rib_route.specs.Rows.{Interior}
pub use Rattle.rib_split.specs.Splitting.{Parted, on_link}
pub use Rattle.rib_split.specs.Tables.{kept_rows}
pub use Rattle.rib_split.specs.declared.split.BgpLink.{BgpLink}
pub use Rattle.rib_tree.proofs.NewLemmas.{of_new}
pub use Rattle.rib_tree.proofs.RegionLemmas.{tree_leads}
pub use Rattle.rib_tree.proofs.TreeParts.{put_all}
pub use Rattle.rib_tree.specs.BranchSteps.{welded_branch, swept_branch}
pub use Rattle.rib_tree.specs.Branches.{Branch, org_rows}
pub use Rattle.rib_tree.specs.Falls.{LeadsTree, way_of_route}
pub use Rattle.rib_tree.specs.Steps.{tree_overdue, fed_tree, welded_tree}
pub use Rattle.rib_tree.specs.Trees.{int_rows, Treed, branch_of, tree_count, IsTree, int_candidates, tree_links, IsFull, low_rows, dyn_rows, put_branch}
pub use Rattle.router_moments.specs.Bests.{own_rows, all_at, best_at, best_links, best_entries, Queues, own_links, own_entries, lent_rows, resolved_at}
pub use Rattle.router_moments.specs.Blocks.{ByPeer, RunsFirst, IsBlock, BeginsIf, EndsIf, HearsIf, Declares, BySpeaker, Begins, DropsRouteIf, answer_lines, Shows}
pub use Rattle.router_moments.specs.Holding.{first_held, next_hop_at, holds_up_at, is_over, held_in}
pub use Rattle.router_moments.specs.Laws.{FirstHeldTells, RowsAtRestAreExact}
pub use Rattle.router_moments.specs.Lives.{live_state}
pub use Rattle.router_moments.specs.Moments.{Moment, best_of, router_links, own_of, Gives, with_exits, read_rows_by, with_chains, read_of, with_tree, parts, read_by, tree_by, forward_by, read_links, with_hops, rules_to, candidates_of, Policies, most_unread, with_redist, bound_of, with_rib}
pub use Rattle.router_moments.specs.Phases.{counts, all_phases, beyonds, unread_if, tree_beyond, external_beyond, fin_sends, best_beyond, most_of, own_sends, own_sends_by, own_waiting, nh_sends, earlier}
pub use Rattle.router_moments.specs.Printable.{ArePrinted, IsPrintableMoment}
pub use Rattle.router_moments.specs.Scratch.{Tells}
pub use Rattle.router_moments.specs.Stands.{Stands, ExitsAt, AllHaveExits, StandsAt, ReadsOn, PeerStands, ExitsStand, MaySend, HopsStand, HaveReaders, IsSilent, open_session, IsExitOf}
pub use Rattle.router_moments.specs.Turns.{journal_lines, phase_of, Turns, IsTurn, has_work, BelowInt, FallsRoute, RunsPhase, Resolves, FallsPeer, Runs, IsPeerTurn, sent_of, RunsAll, next_task, phase_tasks, FeedsAll}
pub use Rattle.router_moments.specs.Works.{Pushes, HasStepped, Keeps, TakesTurn, IsWork, AreHeard, HaveFed, Decides, SettlesPeer, MaySettle, AddsNoRows, HasDrained, RunsOut, HaveSameExits, IsHeardMessage}
pub use Rattle.router_moments.specs.declared.tasks.Done.{Done}
pub use Rattle.router_moments.specs.declared.tasks.Done.TheVariants.{Taken}
pub use Rattle.router_moments.specs.declared.tasks.Phase.{Phase}
