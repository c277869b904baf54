use Rattle.std.proofs.Common.{◌≡◌, ◌-◌, ◌*◌, ◌%◌, ◌^◌, ◌<◌, ap, ◌∙◌, arith}
use Rattle.std.proofs.lemmas.Nat.{pow_below}
use Rattle.addr4.specs.Families.{in_front}
use Rattle.addr4.proofs.FrontLemmas.{front_masked}
use Rattle.addr4.proofs.family.V4Family.masked.Goals as goal

pub returns : goal.returns
returns c =
    let small : 2 ^ (32 - c.args.length) < 2 ^ 64 = pow_below (32 - c.args.length) 64 (omega arith) in
    let size : 1 * 2 ^ (32 - c.args.length) % 18446744073709551616 ≡ 2 ^ (32 - c.args.length) = omega (arith, small) in
    ap (λ s. in_front (c.args.self.0 - c.from.result % s)) size ∙ ap (λ n. in_front (c.args.self.0 - n % 2 ^ (32 - c.args.length))) c.from.ensures ∙ front_masked c.args.self.0 c.args.length c.requires
