use Rattle.bgp_wire.proofs.NoticeSizes.{notice_fits}
use Rattle.bgp_wire.proofs.laws.notices_fit.Goals as goal

pub returns : goal.returns
returns c = notice_fits
