use Rattle.std.proofs.Common.{◌++◌, replicate, ap}
use Rattle.std.proofs.lemmas.List.Elements.{All-same}
use Rattle.bgp_attr.specs.declared.path.Segment.{Segment}
use Rattle.bgp_wire.specs.Spelling.{FitsWidth}
use Rattle.bgp_wire.proofs.SpellingLemmas.{both_fit}
use Rattle.bgp_wire.proofs.writing.path.push_segment.Goals as goal

pub push_numbers-requires : goal.push_numbers-requires
push_numbers-requires c =
    let s = c.segment.inside in
    let fits = FitsWidth c.args.as4 in
    let front = replicate s.times s.asn in
    let all = All-same fits (front ++ s.numbers) c.args.segment.now.numbers (ap (λ (s : Segment). s.numbers) c.segment.view_is) c.requires.numbers in
    All-same fits c.as_slice-numbers.result.now s.numbers c.as_slice-numbers.ensures (both_fit c.args.as4 front s.numbers all).1
