use Rattle.std.proofs.Common.{◌≡◌, ◌-◌, ◌/◌, ◌%◌, ◌^◌, bit_and, ap, sym, ◌∙◌}
use Rattle.std.proofs.lemmas.Nat.{and_mask}
use Rattle.std.proofs.lemmas.Bool.{eqb-true, eq-eqb}
use Rattle.addr4.proofs.FrontLemmas.{front_bit}
use Rattle.addr4.proofs.family.V4Family.bit.Goals as goal

pub returns : goal.returns
returns c =
    let x = c.args.self.0 / 2 ^ (31 - c.args.i) in
    let e = ap (λ y. y % 2) (front_bit c.args.self.0 c.args.i c.requires) in
    let low : bit_and x 1 ≡ x % 2 = and_mask x 1 in
    (λ h. e ∙ sym low ∙ eqb-true (bit_and x 1) 1 h, λ h. eq-eqb (bit_and x 1) 1 (low ∙ sym e ∙ h))
