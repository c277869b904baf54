-- `local6` in IPv4's network: nothing is said of it, and all stays but that routes of IPv6 are read in messages.
use Rattle.std.proofs.Common.{◌≡◌, ℕ, [], None, refl, ap}
use Rattle.journal_text.specs.declared.link.Link.{Link}
use Rattle.journal_text.specs.declared.link.Link.TheVariants.{In}
use Rattle.event_text.specs.declared.event.FileEvent.TheVariants.{Local6}
use Rattle.event_text.specs.Declarations.{Declaration, peer_at}
use Rattle.event_text.specs.FileEvents.{file_refusal}
use Rattle.journal_laws.specs.Peers.{neighbours, words_in, KeepsPeers}
use Rattle.router_moments.specs.Moments.{Moment, router_links, spoken}
use Rattle.router_moments.specs.Refreshes.{HasBegun}
use Rattle.router_moments.specs.Stands.{Stands}
use Rattle.router_moments.proofs.SpokenLemmas.{spoken_stands}
use Rattle.router.proofs.AloneLemmas.{begins}
use Rattle.replay.proofs.Follows.{Moves}

-- `local6` may stand only before peers
pub alone : (d : Declaration) (addr : ℕ) → file_refusal d (Local6 addr) ≡ None → d.peers ≡ []
unfolding file_refusal
alone d addr admitted = (begins d.speaker d.profile.v6 d.peers admitted).2

module _ (m : Moment) (stands : Stands m) (none : m.declared.peers ≡ []) where
  no_peer : (k : ℕ) → peer_at k m.declared.peers ≡ None
  no_peer k = ap (peer_at k) none

  no_words : (k : ℕ) → neighbours m.declared k ≡ None
  no_words k = ap words_in (no_peer k)

  links_stay : (link : Link) → router_links m link ≡ router_links (spoken m) link
  links_stay (In k) = refl
  links_stay other = refl

  keeps : KeepsPeers m.declared (spoken m).declared
  keeps = record {
    family = refl;
    words = λ k w there. there;
    profile = λ k w there. absurd (let none' = no_words k in cc);
    nobody = no_words 0;
  }

  nobody_asked : (j s : ℕ) → HasBegun j s m.declared → ⊥
  nobody_asked j s begun = absurd (let none' = no_peer j in let there = begun.1 in cc)

  pub spoken_moves : Moves m [] (spoken m)
  spoken_moves = record {
    leads = record { lawful = tt; ends = λ i link. links_stay link i };
    heard = refl;
    followed = record { stands = spoken_stands m stands none; peers = keeps; serves = λ j s since is. absurd (nobody_asked j s is.begun); printed = tt };
  }
