-- What octets of a peer say where they are an UPDATE, and what that says of a network's family.
use Rattle.std.specs.Prelude.{◌≡◌, ℕ, true, List, Some}
use Rattle.bgp_wire.specs.declared.message.Update.{Update}
use Rattle.bgp_wire.specs.declared.message.Message.TheVariants as messages
use Rattle.bgp_wire.specs.Said.{Said}
use Rattle.bgp_wire.specs.Readable.{said_of}
use Rattle.event_text.specs.declared.declared.DeclaredPeer.{DeclaredPeer}
use Rattle.event_text.specs.Declarations.{Declaration, peer_at}
use Rattle.live_state.specs.Messages.{Says}

-- Peer k is up, and these octets of it are this UPDATE.
pub record AreUpdate (d : Declaration) (k : ℕ) (octets : List ℕ) (u : Update) : Type 0 where
  pub peer : DeclaredPeer
  pub there : peer_at k d.peers ≡ Some peer
  pub up : peer.up ≡ true
  pub says : Says d.profile peer octets (messages.Update u)

-- They say this of the routes of the family that the declarations are of (RFC 4760).
pub record SayOfFamily (d : Declaration) (k : ℕ) (octets : List ℕ) (said : Said) : Type 0 where
  pub update : Update
  pub are : AreUpdate d k octets update
  pub of_family : said ≡ said_of d.profile.second update
