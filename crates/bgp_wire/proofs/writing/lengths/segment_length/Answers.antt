use Rattle.std.proofs.Common.{◌≡◌, ◌+◌, ◌*◌, length, replicate, ap, ◌∙◌, arith}
use Rattle.std.proofs.lemmas.List.{length-append, length-replicate}
use Rattle.bgp_attr.specs.declared.path.Segment.{Segment}
use Rattle.bgp_wire.specs.Paths.{width_of}
use Rattle.bgp_wire.proofs.SpelledLengths.{length-segment}
use Rattle.bgp_wire.proofs.writing.lengths.segment_length.Goals as goal

pub returns-clause-value : goal.returns-clause-value
returns-clause-value c =
    let s = c.segment.inside in
    let count = c.from.result + length c.as_slice-numbers.result.now in
    let all : count ≡ length c.args.segment.now.numbers =
    omega (
      arith,
      ap (λ (s : Segment). length s.numbers) c.segment.view_is,
      length-append (replicate s.times s.asn) s.numbers,
      length-replicate s.times s.asn,
      ap length c.as_slice-numbers.ensures,
      c.from.ensures,
    ) in
    ap (λ w. 2 + count * w) c.width.ensures.value ∙ length-segment (width_of c.args.as4) c.args.segment.now count all
