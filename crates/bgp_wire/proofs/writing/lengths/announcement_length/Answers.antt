use Rattle.std.proofs.Common.{arith}
use Rattle.bgp_wire.proofs.SpelledLengths.{length-announcement}
use Rattle.bgp_wire.proofs.writing.lengths.announcement_length.Goals as goal

pub returns : goal.returns
returns g c = omega (arith, length-announcement g.F.Family.V6 c.args.profile.as4 c.args.prefix c.args.attrs.now)
