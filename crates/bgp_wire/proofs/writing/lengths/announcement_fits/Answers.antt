use Rattle.std.proofs.Common.{arith}
use Rattle.std.proofs.lemmas.Bool.Decides.{nat_tests}
use Rattle.bgp_wire.proofs.SpelledLengths.{length-announcement}
use Rattle.bgp_wire.proofs.writing.lengths.announcement_fits.Goals as goal

pub returns-clause-room : goal.returns-clause-room
returns-clause-room g c = grind (arith, nat_tests)

pub returns-clause-fits : goal.returns-clause-fits
returns-clause-fits g c = λ as4 a is. let l = length-announcement g.F.Family.V6 as4 c.args.prefix a in grind (arith, nat_tests)
