use Rattle.std.proofs.Common.{ap}
use Rattle.std.specs.Option.{option_copied}
use Rattle.bgp_wire.proofs.writing.push_option.Goals as goal

pub push_attrs-requires : goal.push_attrs-requires
push_attrs-requires g c = c.requires c.in-Some.attrs.now (ap option_copied c.in-Some.is)
