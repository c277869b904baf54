use Rattle.std.proofs.Common.{◌≡◌, ◌-◌, ◌*◌, ◌%◌, ◌^◌, ◌<◌, ◌+◌, ◌∙◌, arith}
use Rattle.std.proofs.lemmas.Nat.{pow_below, pow_pos}
use Rattle.addr4.specs.Families.{in_front}
use Rattle.addr4.proofs.FrontLemmas.{front_ends, front_last}
use Rattle.addr4.proofs.family.V4Family.last.Goals as goal

pub overflow_cast-result : goal.overflow_cast-result
overflow_cast-result c =
    let small : 2 ^ (32 - c.args.length) < 2 ^ 64 = pow_below (32 - c.args.length) 64 (omega arith) in
    let size : 1 * 2 ^ (32 - c.args.length) % 18446744073709551616 ≡ 2 ^ (32 - c.args.length) = omega (arith, small) in
    let ends = front_ends c.args.self.0 c.args.length c.requires.short (omega arith) c.requires.masked in
    omega (arith, size, ends, c.from.ensures, pow_pos (32 - c.args.length))

pub returns : goal.returns
returns c =
    let small : 2 ^ (32 - c.args.length) < 2 ^ 64 = pow_below (32 - c.args.length) 64 (omega arith) in
    let size : 1 * 2 ^ (32 - c.args.length) % 18446744073709551616 ≡ 2 ^ (32 - c.args.length) = omega (arith, small) in
    (λ i. in_front (c.from.ensures i + (size i - 1)) + 2 ^ 96) ∙ front_last c.args.self.0 c.args.length c.requires.short
