use Rattle.std.proofs.Common.{None, Some}
use Rattle.memchr.specs.Find.{is_byte}
use Rattle.addr4.proofs.PartLemmas.{first_behind}
use Rattle.addr4.proofs.parts.far_place.Goals as goal

pub returns-in_err-at : goal.returns-in_err-at
returns-in_err-at c = rw c.from_residual.ensures (first_behind (is_byte c.args.separator) c.args.text.now c.args.near None c.requires.within c.requires.none c.in_err-at.ensures)

pub returns : goal.returns
returns c = first_behind (is_byte c.args.separator) c.args.text.now c.args.near (Some c.in_ok-at.at) c.requires.within c.requires.none c.in_ok-at.ensures
