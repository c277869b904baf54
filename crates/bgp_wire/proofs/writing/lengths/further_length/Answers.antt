use Rattle.std.proofs.Common.{ap, length, arith, if◌then◌else◌, [], ◌∷◌}
use Rattle.byteorder.specs.Endian.{big_bytes}
use Rattle.bgp_attr.specs.Attributes.{Attrs}
use Rattle.bgp_wire.specs.Spelling.{spelled, optional, aggregator_value, aggregator_flags, further_attributes, octets_of}
use Rattle.bgp_wire.proofs.SpelledLengths.{length-four}
use Rattle.bgp_wire.proofs.writing.lengths.further_length.Goals as goal

pub returns-clause-value : goal.returns-clause-value
returns-clause-value g c =
    let a = c.attrs.inside in
    omega (
      arith,
      c.number_length.ensures.value 128 4,
      c.number_length-2.ensures.value 64 5,
      length-four (optional (λ n. spelled 128 4 (big_bytes 4 n)) a.med) (optional (λ n. spelled 64 5 (big_bytes 4 n)) a.local_pref) (if a.atomic then spelled 64 6 [] ∷ [] else [])
          (optional (λ g. spelled (aggregator_flags g.partial) 7 (aggregator_value c.args.as4 g)) a.aggregator),
      ap (λ (a : Attrs). length (octets_of (further_attributes c.args.as4 a))) c.attrs.view_is,
    )
