use Rattle.std.proofs.Common.{◌≡◌, ◌<◌, ◌++◌, ◌∷◌, [], List, ℕ, Ok, length, subst, sym, ◌∙◌}
use Rattle.std.proofs.lemmas.Result.{err_from_is_err_and}
use Rattle.bgp_attr.specs.declared.path.Segment.{Segment}
use Rattle.bgp_wire.specs.Paths.{width_of, segment_at, path_at}
use Rattle.bgp_wire.proofs.ItemLaws.{with_front, goes_on, ends, breaks, items_break, items_step, items_end}
use Rattle.bgp_wire.proofs.PathLaws.{segment_shortens, behind_ok, behind_fails}
use Rattle.bgp_wire.proofs.ResultLemmas.{not_empty, is_empty_from}
use Rattle.bgp_wire.proofs.path.read_path.Goals as goal

pub returns-in_err-rest : goal.returns-in_err-rest
returns-in_err-rest c =
    let width = width_of c.args.as4 in
    let p = err_from_is_err_and c.from_residual.result c.from_residual.ensures.1 in
    let some : 0 < length c.segments.rest.now = not_empty c.segments.rest.now _ c.is_empty.ensures c.segments-test.true in
    let fails = behind_fails c.in_err-rest.field-0.0 c.segments.path.segments (segment_at width c.segments.rest.now) c.in_err-rest.ensures.value in
    rw (p.1, p.2)
    (breaks c.in_err-rest.field-0.0 c.segments.path.segments (path_at width c.segments.rest.now) (path_at width c.args.bytes.now) (items_break (segment_at width) c.in_err-rest.field-0.0 c.segments.rest.now some fails) c.segments.invariant.0)

first : (c : goal.In_ok-rest) → (x : Segment × List ℕ) × (segment_at (width_of c.args.as4) c.segments.rest.now ≡ Ok x) × (c.segments.path.segments ++ x.0 ∷ [] ≡ c.read_segment.new.path.segments) × (x.1 ≡ c.in_ok-rest.rest.now)
first c = behind_ok c.segments.path.segments (segment_at (width_of c.args.as4) c.segments.rest.now) c.read_segment.new.path.segments c.in_ok-rest.rest.now c.in_ok-rest.ensures.value

pub segments-smaller : goal.segments-smaller
segments-smaller c =
    let x = first c in
    subst (λ os. length os < length c.segments.rest.now) x.3 (segment_shortens (width_of c.args.as4) c.segments.rest.now x.0 x.1)

pub segments-preserved : goal.segments-preserved
segments-preserved c =
    let width = width_of c.args.as4 in
    let x = first c in
    let some : 0 < length c.segments.rest.now = not_empty c.segments.rest.now _ c.is_empty.ensures c.segments-test.true in
    let step = items_step (segment_at width) c.segments.rest.now x.0 (segment_shortens width) some x.1 in (
      sym (λ i. with_front (x.2 i) (path_at width (x.3 i))) ∙ goes_on c.segments.path.segments x.0.0 (path_at width c.segments.rest.now) (path_at width x.0.1) (path_at width c.args.bytes.now) step c.segments.invariant.0,
      c.in_ok-rest.ensures.complete,
    )

pub returns : goal.returns
returns c =
    let width = width_of c.args.as4 in
    let end = items_end (segment_at width) c.segments.rest.now (is_empty_from c.segments.rest.now _ c.is_empty.ensures c.segments-test.false) in
    rw c.finish.ensures (ends c.segments.path.segments (path_at width c.segments.rest.now) (path_at width c.args.bytes.now) end c.segments.invariant.0)
