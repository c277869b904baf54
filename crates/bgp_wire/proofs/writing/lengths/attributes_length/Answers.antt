use Rattle.std.proofs.Common.{ap, length, map, [], arith}
use Rattle.bgp_attr.specs.Attributes.{Attrs}
use Rattle.bgp_wire.specs.Spelling.{unrecognized_attribute, reflection_attributes, octets_of}
use Rattle.bgp_wire.specs.Lengths.{attributes_length}
use Rattle.bgp_wire.proofs.SpelledLengths.{length-sent}
use Rattle.bgp_wire.proofs.writing.lengths.attributes_length.Goals as goal

pub returns-clause-value : goal.returns-clause-value
unfolding attributes_length
returns-clause-value g c =
    omega (
      arith,
      length-sent g.F.Family.V6 c.args.profile.as4 c.args.attrs.now [],
      ap (λ (a : Attrs). length (octets_of (map unrecognized_attribute a.unrecognized))) c.attrs.view_is,
      ap (λ (a : Attrs). length (octets_of (reflection_attributes a.reflection))) c.attrs.view_is,
    )
