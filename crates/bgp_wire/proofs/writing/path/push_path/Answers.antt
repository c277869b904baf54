use Rattle.std.proofs.Common.{◌++◌, append_assoc, sym, ap, subst, ◌∙◌}
use Rattle.std.specs.List.{All}
use Rattle.std.proofs.lemmas.List.Elements.{All-tail}
use Rattle.bgp_wire.specs.Paths.{width_of}
use Rattle.bgp_wire.specs.Spelling.{FitsSegment, segment_octets, path_octets}
use Rattle.bgp_wire.proofs.writing.path.push_path.Goals as goal

pub segments-preserved : goal.segments-preserved
segments-preserved c =
    let width = width_of c.args.as4 in (
      ap (λ os. os ++ path_octets width c.in-Some.others) c.in_ok-push_segment.ensures
          ∙ append_assoc c.segments.out.items (segment_octets width c.in-Some.segment) (path_octets width c.in-Some.others)
          ∙ ap (λ p. c.segments.out.items ++ path_octets width p) (sym c.in-Some.ensures)
          ∙ c.segments.invariant.0,
      All-tail (FitsSegment c.args.as4) c.in-Some.segment c.in-Some.others (subst (All (FitsSegment c.args.as4)) c.in-Some.ensures c.segments.invariant.1),
    )
