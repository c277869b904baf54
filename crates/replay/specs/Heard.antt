-- What peers have heard: the routes that each reaches by reading the octets of the lines `out J` of its session.
use Rattle.std.specs.Prelude.{◌≡◌, ℕ, true, false, List, Some}
use Rattle.std.specs.FinMap as tables
use Rattle.bgp_attr.specs.Speakers.{Speaker}
use Rattle.journal_text.specs.Lines.{Line}
use Rattle.journal_text.specs.declared.link.Link.TheVariants.{Adv}
use Rattle.journal_text.specs.Values.{attrs_rows}
use Rattle.event_text.specs.declared.declared.DeclaredPeer.{DeclaredPeer}
use Rattle.event_text.specs.Declarations.{peer_at}
use Rattle.journal_laws.specs.Peers.{neighbours}
use Rattle.live_state.specs.Lives.{LiveState}
use Rattle.live_state.specs.Decided.{sent_rows, best_of}
use Rattle.live_state.specs.Heard.{Views, no_views, Hears}
use Rattle.exit_laws.specs.Views.{views_of}
use Rattle.router_moments.specs.Moments.{Moment, router_links}
use Rattle.router_moments.specs.Peers.{is_up}

-- The lines of the whole output, from the first on, lead the peers, which had heard nothing, to what each was sent in its session.
abbrev pub AreHeard : List Line → Moment → Type 0
AreHeard out m = Hears m.declared.profile (neighbours m.declared) no_views out (views_of m.exits)

-- What a peer that is up was sent in its session are exactly the rows of its `adv.J.S`, and any other peer was sent nothing.
pub record AreSent (m : Moment) (views : Views) : Type 0 where
  pub up : (j : ℕ) (p : DeclaredPeer) → peer_at j m.declared.peers ≡ Some p → p.up ≡ true → router_links m (Adv j p.session) ≡ Some (attrs_rows (tables.get (views j)))
  pub down : (j : ℕ) → is_up (peer_at j m.declared.peers) ≡ false → views j ≡ tables.empty

-- Each peer that is up has exactly what the latest rules of its outgoing filter make of the best of the routes that are live (RFC 4271,
-- sections 9.1.3 and 9.2), decided from scratch.
abbrev pub AreBest : LiveState → Views → Type 0
AreBest l views =
    (me : Speaker) (j : ℕ) (p : DeclaredPeer) → l.declared.speaker ≡ Some me → peer_at j l.declared.peers ≡ Some p → p.up ≡ true
    → tables.get (views j) ≡ sent_rows l.declared.profile me p.words (l.outgoing j) (best_of l)
