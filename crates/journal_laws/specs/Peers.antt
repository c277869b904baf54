-- The declared peers, by number.
use Rattle.std.specs.Prelude.{◌≡◌, ℕ, Option, Some, None}
use Rattle.bgp_attr.specs.declared.speaker.Neighbour.{Neighbour}
use Rattle.event_text.specs.declared.declared.DeclaredPeer.{DeclaredPeer}
use Rattle.event_text.specs.Declarations.{Declaration, peer_at}
use Rattle.journal_laws.specs.Printed.{Printing}

abbrev pub words_in : Option DeclaredPeer → Option Neighbour
words_in None = None
words_in (Some p) = Some p.words

-- the words of the declared peers, by number
abbrev pub neighbours : Declaration → ℕ → Option Neighbour
neighbours d k = words_in (peer_at k d.peers)

-- how the lines of a network are printed: its family, and its declared peers
abbrev pub printing : Declaration → Printing
printing d = record { v6 = d.v6; peers = neighbours d }

-- A network stays one of its family. Who is declared keeps its words, and nobody gets the number 0, which stands for no peer; and where
-- somebody was declared before, the profile is still the same
pub record KeepsPeers (before now : Declaration) : Type 0 where
  pub family : now.v6 ≡ before.v6
  pub words : (k : ℕ) (w : Neighbour) → neighbours before k ≡ Some w → neighbours now k ≡ Some w
  pub profile : (k : ℕ) (w : Neighbour) → neighbours before k ≡ Some w → now.profile ≡ before.profile
  pub nobody : neighbours now 0 ≡ None
