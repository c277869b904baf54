use Rattle.std.proofs.Common.{◌≡◌, ◌+◌, ◌-◌, Some, sym, ap, ◌∙◌, arith}
use Rattle.nexthop_known.proofs.TallyLemmas.{nothing_less, last_less, lowered_is, one_told, not_one}
use Rattle.nexthop_known.proofs.tallies.Tallies.one_less.Goals as goal

pub returns-in-None-clause-counts : goal.returns-in-None-clause-counts
returns-in-None-clause-counts g c = nothing_less c.self.inside.others c.self.inside.others c.args.self.now c.args.hop c.self.view_is c.in-None.ensures

pub returns-in-None-clause-last : goal.returns-in-None-clause-last
returns-in-None-clause-last g c = one_told c.self.inside.others c.self.inside.others c.args.self.now c.args.hop c.self.view_is _ c.in-None.ensures

pub returns-in-Some-eq0-clause-counts : goal.returns-in-Some-eq0-clause-counts
returns-in-Some-eq0-clause-counts g c =
    last_less c.self.inside.others c.remove.new.self c.args.self.now c.args.hop c.self.view_is
    (sym (ap Some c.in-Some-eq0.field-0-test) ∙ c.in-Some-eq0.ensures) c.remove.ensures.updates.0

pub returns-in-Some-eq0-clause-last : goal.returns-in-Some-eq0-clause-last
returns-in-Some-eq0-clause-last g c =
    one_told c.self.inside.others c.self.inside.others c.args.self.now c.args.hop c.self.view_is (Some 0)
    (sym (ap Some c.in-Some-eq0.field-0-test) ∙ c.in-Some-eq0.ensures)

pub returns-in-Some-clause-counts : goal.returns-in-Some-clause-counts
returns-in-Some-clause-counts g c =
    let more = c.in-Some.others-test in
    let back : (c.in-Some.others - 1) + 1 ≡ c.in-Some.others = omega (arith, more) in
    lowered_is c.self.inside.others c.put_count.new.counts c.args.self.now c.args.hop c.self.view_is c.in-Some.others (c.in-Some.others - 1)
    c.in-Some.ensures back c.put_count.ensures

pub returns-in-Some-clause-last : goal.returns-in-Some-clause-last
returns-in-Some-clause-last g c =
    not_one c.in-Some.others (λ e. let more = c.in-Some.others-test in absurd (omega (arith, more, e)))
    ∙ one_told c.self.inside.others c.self.inside.others c.args.self.now c.args.hop c.self.view_is (Some c.in-Some.others) c.in-Some.ensures
