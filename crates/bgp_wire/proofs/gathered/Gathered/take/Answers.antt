use Rattle.std.proofs.Common.{sym, ap, ◌∙◌, ◌||◌, []}
use Rattle.bgp_wire.specs.declared.attributes.Verdict.TheVariants.{Discard}
use Rattle.bgp_wire.specs.Faults.{notice}
use Rattle.bgp_wire.specs.Attributes.{attribute_of, milder}
use Rattle.bgp_wire.proofs.FoundLaws.{gathered_again, gathered_one}
use Rattle.bgp_wire.proofs.gathered.Gathered.take.Goals as goal

pub returns-clause-ok : goal.returns-clause-ok
returns-clause-ok c = λ seen kept is.
    let withdraw = ap (λ b. c.args.self.now.withdraw || b) c.is_withdraw.ensures in
    let one = gathered_one c.args.profile c.args.external seen kept (attribute_of c.args.raw.now) c.args.self.now (record { seen = c.add.new.self; found = c.take.new.self; withdraw = c.args.self.now.withdraw || c.is_withdraw.result }) c.in_ok-verdict.verdict is (sym c.has.ensures ∙ c.if-has.false) c.in_ok-verdict.ensures.0 c.in_ok-verdict.ensures.1 c.add.ensures withdraw in
    (c.in_ok-verdict.verdict, one.0, one.1)

pub returns-then-has-clause-ok : goal.returns-then-has-clause-ok
returns-then-has-clause-ok c = λ seen kept is. gathered_again c.args.profile c.args.external seen kept (attribute_of c.args.raw.now) c.args.self.now c.in_ok-milder.field-0 is (sym c.has.ensures ∙ c.if-has.true)
    (ap (λ b. milder b Discard (notice 3 1 [])) (sym c.is_revised.ensures) ∙ c.in_ok-milder.ensures)
