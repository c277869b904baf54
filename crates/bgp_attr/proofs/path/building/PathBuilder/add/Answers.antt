use Rattle.std.proofs.Common.{ap, ◌<◌, ◌∙◌}
use Rattle.bgp_attr.specs.Words.{missing_after}
use Rattle.bgp_attr.proofs.WordLaws.{one_more, missing-more}
use Rattle.bgp_attr.proofs.path.building.PathBuilder.add.Goals as goal

pub returns-clause-segments : goal.returns-clause-segments
returns-clause-segments c = λ front kind numbers is.
    let lacks : 0 < missing_after 0 c.self.inside.words.items = rw (ap (λ u. u.missing) c.self.view_is) c.requires in
    rw c.in_ok-push.ensures.items (one_more 0 c.self.inside.words.items c.args.asn front (record { kind = kind; numbers = numbers }) lacks (ap (λ u. u.segments) c.self.view_is ∙ is))

pub returns-clause-missing : goal.returns-clause-missing
returns-clause-missing c =
    let lacks : 0 < missing_after 0 c.self.inside.words.items = rw (ap (λ u. u.missing) c.self.view_is) c.requires in
    rw c.in_ok-push.ensures.items (missing-more 0 c.self.inside.words.items c.args.asn lacks ∙ ap (λ u. u.missing) c.self.view_is)
