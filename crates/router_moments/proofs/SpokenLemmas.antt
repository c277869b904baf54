-- `local6`: in IPv4's network routes of IPv6 are read in messages from then on, and nothing else changes. No peer was declared yet.
use Rattle.router_moments.proofs.Common.{sym, subst, ◌∙◌, ap, ◌≡◌, ℕ, ◌+◌, refl, true, false, Profile, Speaker, peer_at, DeclaredPeer, Chained, OutChained, chain_at, Moment, Exited, Stands, ExitsAt, StandsAt, ReadsOn, MaySend, AllHaveExits}
use Rattle.std.proofs.Common.{[], Option, Some, None}
use Rattle.std.specs.FinMap as tables
use Rattle.event_text.specs.FileEvents.{with_ipv6}
use Rattle.exit_side.specs.Exits.{written_by, chain_at as exit_at}
use Rattle.router_moments.specs.Moments.{spoken}

-- who reads stays
reads_on : (s : Option Speaker) (r : Option ℕ) (e : Exited) (profile : Profile) → ReadsOn s r e → ReadsOn s r (written_by profile e)
reads_on (Some me) (Some reader) e profile on = record { live = on.live; own = on.own }
reads_on (Some me) None e profile on = absurd on
reads_on None (Some reader) e profile on = absurd on
reads_on None None e profile on = tt

-- this speaker's words can be said as before
may_send : (profile : Profile) (s : Option Speaker) → MaySend profile s → MaySend (with_ipv6 profile) s
may_send profile None may = tt
may_send profile (Some me) may = record { asn = may.asn; addr = may.addr }

module _ (m : Moment) (stands : Stands m) (alone : m.declared.peers ≡ []) where
  no_peer : (k : ℕ) → peer_at k m.declared.peers ≡ None
  no_peer k = ap (peer_at k) alone

  pub no_chain_yet : (k : ℕ) → chain_at k m.chains ≡ None
  no_chain_yet k = by_chain (chain_at k m.chains) (subst (λ (o : Option DeclaredPeer). StandsAt o (chain_at k m.chains)) (no_peer k) (stands.peers.each k))
    where
      by_chain : (o : Option Chained) → StandsAt None o → o ≡ None
      by_chain None is = refl
      by_chain (Some c) is = absurd is

  pub no_exit_yet : (k : ℕ) → exit_at k m.exits ≡ None
  no_exit_yet k = by_exit m.declared.speaker (exit_at k m.exits) (subst (λ (o : Option DeclaredPeer). ExitsAt m.declared.speaker m.outgoing k o (exit_at k m.exits)) (no_peer k) (stands.exits.sessions k))
    where
      by_exit : (s : Option Speaker) (o : Option OutChained) → ExitsAt s m.outgoing k None o → o ≡ None
      by_exit s None is = refl
      by_exit None (Some c) is = absurd is
      by_exit (Some me) (Some c) is = absurd is

  pub spoken_stands : Stands (spoken m)
  spoken_stands = record {
    peers = stands.peers;
    interior = stands.interior;
    registered = stands.registered;
    hops = stands.hops;
    exits = record {
      rows = λ k c at. absurd (let none = no_chain_yet k in cc);
      each = record {
        each = λ j c at. absurd (let none = no_exit_yet j in cc);
        apart = λ j k c d at other. absurd (let none = no_exit_yet j in cc);
      };
      all = stands.exits.all;
      read = λ j c at. absurd (let none = no_exit_yet j in cc);
      profile = refl;
      sender = may_send m.declared.profile m.declared.speaker stands.exits.sender;
      sessions = stands.exits.sessions;
      one = reads_on m.declared.speaker m.reader m.exits (with_ipv6 m.declared.profile) stands.exits.one;
      external = stands.exits.external;
    };
    external = stands.external;
    waits = stands.waits;
  }

  pub spoken_exits : AllHaveExits (spoken m)
  spoken_exits k p at up = absurd (let none = no_peer k in let clash : ◌≡◌ {A = Option DeclaredPeer} None (Some p) = sym none ∙ at in cc)
