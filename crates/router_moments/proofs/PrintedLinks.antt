-- The rows of each link can be printed.
use Rattle.router_moments.proofs.Common.{sym, subst, ◌∙◌, ◌≡◌, ℕ, refl, true, false, Bool, cond, ◌&&◌, Attrs, Speaker, AreBestRows, read_rows, unread_by, resolver_at, hop_links, metric_rows, link_by, Chained, Prints, printing, route_value, fib_value, external_value, Link, Value, Rows, region_of, Region, Decided, Inward, Redistributed, Resolved, Outward, InteriorRoutes, Forward, Resolving, Metric, OutChained, chain_at, filt_at, ext_rows, fib_over, Parted, kept_rows, BgpLink, int_rows, best_links, own_links, Moment, best_of, router_links, own_of, read_of, parts, read_by, tree_by, forward_by, read_links, IsPrintableMoment, Stands}
use Rattle.std.proofs.Common.{◌==◌, Option, Some, None}
use Rattle.journal_text.specs.declared.link.Link.TheVariants as links
use Rattle.journal_laws.proofs.PrintedRows.{PrintsIfAny, live_prints, tree_prints, chain_prints}
use Rattle.link_region.specs.declared.regions.Region.TheVariants.{External}
use Rattle.journal_text.specs.Values.{attrs_value}
use Rattle.journal_laws.proofs.PrintedHops.{rows_print}
use Rattle.peer_side.specs.Peers.{links_by}
use Rattle.journal_text.specs.Links.{owner_of}
use Rattle.rib_split.specs.declared.split.BgpLink.TheVariants as sides
use Rattle.std.specs.FinMap as tables
use Rattle.out_chain.specs.Chains.{outf_rows}
use Rattle.exit_side.specs.Exits.{chain_at as exit_at, links_by as exit_links_by}
use Rattle.exit_laws.proofs.KeptLemmas.{rows_read}
use Rattle.router_moments.proofs.PrintedForwards.{side_print, ext_print, fib_print}
use Rattle.router_moments.proofs.PrintedMoments.{IsShown, shown, chain_fit, filt_shown, int_shown, own_shown, best_fit, read_fit, best_shown}

module _ (m : Moment) (stands : Stands m) (printable : IsPrintableMoment m) where
  abbrev start : IsShown m
  start = shown m printable

  pub links_print : (link : Link) → PrintsIfAny (printing m.declared) (router_links m link)
  links_print link = by_region (region_of link)
    where
      by_chain : (o : Option Chained) → chain_at (owner_of link) m.chains ≡ o → PrintsIfAny (printing m.declared) (links_by o link)
      by_chain None at = λ rows p v none is. absurd (cc)
      by_chain (Some c) at = chain_prints (printing m.declared) m.declared.profile c (chain_fit m stands start (owner_of link) c at).0 link

      by_resolver : (k : ℕ) (o : Option (Resolving Metric)) → resolver_at k m.hops ≡ o → PrintsIfAny (printing m.declared) (link_by o (filt_at m.chains k))
      by_resolver k None at = λ rows p v none is. absurd (cc)
      by_resolver k (Some s) at = live_prints (printing m.declared) route_value (metric_rows s (filt_at m.chains k))
          (rows_print (printing m.declared) (Some s) (filt_at m.chains k) (λ t is. printable.hops k t (at ∙ is)) (filt_shown m stands start k))

      by_link : (l : Link) → PrintsIfAny (printing m.declared) (hop_links m.hops (filt_at m.chains) l)
      by_link (links.Res k) = by_resolver k (resolver_at k m.hops) refl
      by_link other = λ rows p v none is. absurd (cc)

      best_are : AreBestRows m.declared.profile (printing m.declared) (best_of m)
      best_are = best_fit m stands start

      read_are : AreBestRows m.declared.profile (printing m.declared) (read_of m)
      read_are = read_fit m stands printable

      by_best : (s : Option Speaker) (l : Link) → PrintsIfAny (printing m.declared) (best_links s (best_of m) l)
      by_best None l = λ rows p v none is. absurd (cc)
      by_best (Some me) links.Best = live_prints (printing m.declared) route_value (best_of m) (best_shown (printing m.declared) m.declared.profile (best_of m) best_are)
      by_best (Some me) other = λ rows p v none is. absurd (cc)

      by_own : (s : Option Speaker) (l : Link) → PrintsIfAny (printing m.declared) (own_links s (own_of m) l)
      by_own None l = λ rows p v none is. absurd (cc)
      by_own (Some me) links.Red = live_prints (printing m.declared) route_value (own_of m) (own_shown m stands start)
      by_own (Some me) other = λ rows p v none is. absurd (cc)

      by_tree : (s : Option Speaker) → PrintsIfAny (printing m.declared) (tree_by s m.tree link)
      by_tree None = λ rows p v none is. absurd (cc)
      by_tree (Some me) = tree_prints (printing m.declared) m.tree printable.interior link

      -- the external routes, and what packets are forwarded by
      side_rows : (side : BgpLink) → Prints (printing m.declared) external_value (kept_rows m.rib.splitter side)
      side_rows side = subst (λ (rows : Parted). Prints (printing m.declared) external_value (rows side)) (sym stands.exits.external.links) (side_print m.declared.profile (printing m.declared) side (read_of m) read_are)

      by_forward : (s : Option Speaker) (l : Link) → PrintsIfAny (printing m.declared) (forward_by s m.rib (int_rows m.tree) l)
      by_forward None l = λ rows p v none is. absurd (cc)
      by_forward (Some me) links.Ebgp = live_prints (printing m.declared) external_value (kept_rows m.rib.splitter sides.Ebgp) (side_rows sides.Ebgp)
      by_forward (Some me) links.Ibgp = live_prints (printing m.declared) external_value (kept_rows m.rib.splitter sides.Ibgp) (side_rows sides.Ibgp)
      by_forward (Some me) links.Ext = live_prints (printing m.declared) external_value (ext_rows m.rib) (ext_print m.declared.profile (printing m.declared) m.rib (read_of m) stands.exits.external read_are)
      by_forward (Some me) links.Fib = live_prints (printing m.declared) fib_value (fib_over m.rib (int_rows m.tree))
          (fib_print m.declared.profile (printing m.declared) m.rib (read_of m) (int_rows m.tree) stands.exits.external read_are printable.ways (int_shown m stands start))
      by_forward (Some me) other = λ rows p v none is. absurd (cc)

      by_reader : (reader : ℕ) → Prints (printing m.declared) route_value (read_rows m.exits.queue reader (best_of m))
      by_reader reader p row is = let own = rows_read m.declared.profile (printing m.declared) (unread_by m.exits.queue reader) (best_of m) (printable.exits.unread reader) best_are p row is in (own.prefix, own.printed)

      by_read : (o : Option ℕ) → PrintsIfAny (printing m.declared) (read_by m.exits.queue o (best_of m))
      by_read None = λ rows p v none is. absurd (cc)
      by_read (Some reader) = live_prints (printing m.declared) route_value (read_rows m.exits.queue reader (best_of m)) (by_reader reader)

      by_rib : (l : Link) → PrintsIfAny (printing m.declared) (read_links m.exits.queue m.reader (best_of m) l)
      by_rib links.ReadRib = by_read m.reader
      by_rib other = λ rows p v none is. absurd (cc)

      sent_prints : (j : ℕ) (c : OutChained) → exit_at j m.exits ≡ Some c → Prints (printing m.declared) attrs_value (tables.get c.sent)
      sent_prints j c at p a is = let own = (printable.exits.each j c at).sent p a is in (own.prefix, own.printed)

      if_live : (b : Bool) (of : Rows Value) → PrintsIfAny (printing m.declared) (Some of) → PrintsIfAny (printing m.declared) (cond b (Some of) None)
      if_live true of own = own
      if_live false of own = λ rows p v none is. absurd (cc)

      by_exit : (l : Link) (o : Option OutChained) → exit_at (owner_of l) m.exits ≡ o → PrintsIfAny (printing m.declared) (exit_links_by m.exits.queue (best_of m) o l)
      by_exit l None at = λ rows p v none is. absurd (cc)
      by_exit (links.Read k t) (Some c) at = if_live (k == c.peer.number && t == c.session) _ (live_prints (printing m.declared) route_value (read_rows m.exits.queue c.reader (best_of m)) (by_reader c.reader))
      by_exit (links.Outf k t) (Some c) at = if_live (k == c.peer.number && t == c.session) _ (live_prints (printing m.declared) attrs_value (outf_rows c (read_rows m.exits.queue c.reader (best_of m)))
          (subst (λ (rows : Rows Attrs). Prints (printing m.declared) attrs_value rows) (stands.exits.read k c at).exact (sent_prints k c at)))
      by_exit (links.Adv k t) (Some c) at = if_live (k == c.peer.number && t == c.session) _ (live_prints (printing m.declared) attrs_value (tables.get c.sent) (sent_prints k c at))
      by_exit other (Some c) at = λ rows p v none is. absurd (cc)

      by_region : (r : Region) → PrintsIfAny (printing m.declared) (parts m r link)
      by_region Inward = by_chain (chain_at (owner_of link) m.chains) refl
      by_region Resolved = by_link link
      by_region Decided = by_best m.declared.speaker link
      by_region InteriorRoutes = by_tree m.declared.speaker
      by_region Redistributed = by_own m.declared.speaker link
      by_region Forward = by_forward m.declared.speaker link
      by_region External = by_rib link
      by_region Outward = by_exit link (exit_at (owner_of link) m.exits) refl
