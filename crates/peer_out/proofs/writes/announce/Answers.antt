use Rattle.bgp_wire.specs.Lengths.{announcement_length}
use Rattle.peer_out.proofs.SentLemmas.{is_there}
use Rattle.peer_out.proofs.writes.announce.Goals as goal

pub unwrap-requires : goal.unwrap-requires
unfolding announcement_length
unwrap-requires g c = is_there c.in_ok-octets.octets _ _ c.in_ok-octets.ensures c.requires.short
