-- Before the first event of a network none of its links is live, and nobody has heard anything.
use Rattle.std.proofs.Common.{◌≡◌, ℕ, Bool, false, None, refl, sym, ap}
use Rattle.std.specs.FinMap as tables
use Rattle.std.specs.FinMap.{get-empty}
use Rattle.std.specs.Ordering.{nat_cmp}
use Rattle.bgp_attr.specs.declared.speaker.Profile.{Profile}
use Rattle.link_change.proofs.RowLemmas.{same_function}
use Rattle.journal_text.specs.declared.link.Link.{Link}
use Rattle.journal_text.specs.declared.link.Link.TheVariants.{In, Peer, Filt, Res, Read, Outf, Adv}
use Rattle.journal_text.specs.Lines.{Value}
use Rattle.journal_text.specs.Walk.{no_links}
use Rattle.event_text.specs.Declarations.{plain_of}
use Rattle.live_state.specs.Heard.{no_views}
use Rattle.exit_side.specs.Exits.{exit_links}
use Rattle.exit_side.proofs.LawLemmas.{stands_at_first as exits_at_first}
use Rattle.exit_laws.specs.Views.{sent_by, views_of}
use Rattle.hop_side.proofs.LawLemmas.{stands_at_first}
use Rattle.peer_side.specs.Peers.{filt_at}
use Rattle.peer_side.proofs.LinkLemmas.{no_peer}
use Rattle.router_moments.specs.Moments.{Moment, first_moment, profiled, best_of, router_links}

-- the first moment of a network, however messages are read in it
module _ (v6 : Bool) (profile : Profile) where
  abbrev start : Moment
  start = profiled (first_moment v6) profile

  -- nobody is up
  no_exit : (link : Link) → exit_links start.exits (best_of start) link ≡ None
  no_exit link = (exits_at_first profile).links (best_of start) link

  each : (link : Link) → no_links {V = Value} link ≡ router_links start link
  each (In k) = sym (no_peer (In k))
  each (Peer k s) = sym (no_peer (Peer k s))
  each (Filt k) = sym (no_peer (Filt k))
  each (Res k) = sym (stands_at_first.links (filt_at start.chains) (Res k))
  each (Read k t) = sym (no_exit (Read k t))
  each (Outf k t) = sym (no_exit (Outf k t))
  each (Adv k t) = sym (no_exit (Adv k t))
  each other = refl

  pub none_at_start : no_links {V = Value} ≡ router_links start
  none_at_start i link = each link i

  pub no_view : (j : ℕ) → views_of start.exits j ≡ tables.empty
  no_view j = ap sent_by (get-empty nat_cmp j)

  pub no_view_at_start : views_of start.exits ≡ no_views
  no_view_at_start = same_function _ _ no_view

-- IPv4's network at the first line
pub none_at_first : no_links {V = Value} ≡ router_links (first_moment false)
none_at_first = none_at_start false (plain_of false)
