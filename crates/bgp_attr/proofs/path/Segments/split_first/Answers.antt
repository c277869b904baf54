use Rattle.std.proofs.Common.{sym, ◌∙◌}
use Rattle.bgp_attr.proofs.WordLaws.{splits}
use Rattle.bgp_attr.proofs.path.Segments.split_first.Goals as goal

pub split_at-requires : goal.split_at-requires
split_at-requires c = (splits c.self.inside.words.now c.count_in.result c.in-len1-up.len_at_least c.self.invariant c.count_in.ensures).0

pub invariant_of-result : goal.invariant_of-result
invariant_of-result c = rw c.split_at.ensures.back (splits c.self.inside.words.now c.count_in.result c.in-len1-up.len_at_least c.self.invariant c.count_in.ensures).2

pub returns-in-len1-up : goal.returns-in-len1-up
returns-in-len1-up c =
    rw (c.split_at.ensures.front, c.split_at.ensures.back, c.kind_in-kind.ensures)
    (sym c.self.view_is ∙ (splits c.self.inside.words.now c.count_in.result c.in-len1-up.len_at_least c.self.invariant c.count_in.ensures).1)
