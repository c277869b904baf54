use Rattle.std.proofs.Common.{ap, sym, ◌∙◌}
use Rattle.bgp_attr.specs.Words.{segments_after, missing_after}
use Rattle.bgp_attr.proofs.WordLaws.{same_path}
use Rattle.bgp_attr.proofs.MarkLaws.{other_paths}
use Rattle.bgp_attr.proofs.path.AsPathRow.same.Goals as goal

pub returns-then-eq : goal.returns-then-eq
returns-then-eq c =
    same_path c.as_slice.result.now c.as_slice-then-eq.result.now c.args.self.now c.args.other.now c.eq-then-eq.result c.eq-then-eq.ensures
    (ap (segments_after 0) c.as_slice.ensures.value ∙ c.self.view_is) (ap (segments_after 0) c.as_slice-then-eq.ensures.value ∙ c.other.view_is)
    (ap (missing_after 0) c.as_slice.ensures.value ∙ c.self.invariant.0) (ap (missing_after 0) c.as_slice-then-eq.ensures.value ∙ c.other.invariant.0)

pub returns-else-eq : goal.returns-else-eq
returns-else-eq c = (
  λ t. absurd (cc),
  λ same. absurd (other_paths c.self.inside.words.items c.other.inside.words.items c.args.self.now c.args.other.now c.self.inside.marks.bits c.other.inside.marks.bits
      c.self.invariant.1 c.other.invariant.1 c.self.view_is c.other.view_is c.self.invariant.0 c.other.invariant.0 (sym c.eq.ensures ∙ c.if-eq.false) same),
)
