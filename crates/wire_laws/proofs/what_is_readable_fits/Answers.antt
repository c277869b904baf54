use Rattle.wire_laws.proofs.Prepended.{readable_fits}
use Rattle.wire_laws.proofs.what_is_readable_fits.Goals as goal

pub returns : goal.returns
returns c = readable_fits
