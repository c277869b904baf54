use Rattle.std.proofs.Common.{◌≡◌, ◌++◌, ◌∷◌, [], ap, ◌∙◌, arith}
use Rattle.std.proofs.lemmas.List.{take_all}
use Rattle.bgp_attr.specs.Words.{segments_after, missing_after, head_of, count_in}
use Rattle.bgp_attr.proofs.WordLaws.{segments-append, missing-append, kind_of-head, count_of-head}
use Rattle.bgp_attr.proofs.path.building.PathBuilder.begin.Goals as goal

words : (c : goal.In_ok-push) → c.push.new.self.items ≡ c.self.inside.words.items ++ head_of c.args.kind c.args.count ∷ []
words c = c.in_ok-push.ensures.items ∙ (λ i. c.in_ok-reserve_exact.ensures.items i ++ c.head_of.ensures i ∷ [])

complete : (c : goal.In_ok-push) → missing_after 0 c.self.inside.words.items ≡ 0
complete c = ap (λ u. u.missing) c.self.view_is ∙ c.requires

pub returns-clause-segments : goal.returns-clause-segments
returns-clause-segments c =
    ap (segments_after 0) (words c) ∙ segments-append 0 c.self.inside.words.items (head_of c.args.kind c.args.count ∷ []) (complete c)
    ∙ (λ i. (c.self.view_is i).segments ++ record { kind = kind_of-head c.args.kind c.args.count i; numbers = take_all (count_in (head_of c.args.kind c.args.count)) [] (omega arith) i } ∷ [])

pub returns-clause-missing : goal.returns-clause-missing
returns-clause-missing c =
    ap (missing_after 0) (words c) ∙ missing-append 0 c.self.inside.words.items (head_of c.args.kind c.args.count ∷ []) (complete c) ∙ count_of-head c.args.kind c.args.count
