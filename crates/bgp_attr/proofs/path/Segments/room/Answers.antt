use Rattle.std.proofs.Common.{◌≡◌, get_or, sym, ap, ◌∙◌, rules, arith}
use denote.Enum.Bare.{same_true}
use Rattle.bgp_attr.specs.contracts.path.SegmentKind.{the_type}
use Rattle.bgp_attr.specs.declared.path.SegmentKind.TheVariants.{Sequence}
use Rattle.bgp_attr.specs.Paths.{leading_room}
use Rattle.bgp_attr.specs.Words.{kind_in}
use Rattle.bgp_attr.proofs.LentLaws.{room_behind}
use Rattle.bgp_attr.proofs.path.Segments.room.Goals as goal

pub returns-in-len1-up : goal.returns-in-len1-up
returns-in-len1-up c =
    let words = c.self.inside.words.now in
    let is : kind_in (get_or words 0 0) ≡ Sequence = sym c.kind_in.ensures ∙ same_true the_type (search rules) _ _ (sym c.if-eq.ensures) in
    omega (arith, c.saturating_sub.ensures, c.from.ensures, c.count_in.ensures, room_behind words c.in-len1-up.len_at_least c.self.invariant is, ap leading_room c.self.view_is)
