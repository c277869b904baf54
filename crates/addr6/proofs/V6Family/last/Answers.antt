use Rattle.std.proofs.Common.{◌≡◌, ◌-◌, ◌*◌, ◌%◌, ◌^◌, ◌<◌, arith}
use Rattle.std.proofs.lemmas.Nat.{pow_below, pow_pos}
use Rattle.addr4.proofs.BlockLemmas.{block_ends}
use Rattle.addr6.proofs.V6Family.last.Goals as goal

pub overflow_add-result : goal.overflow_add-result
overflow_add-result c =
    let small : 2 ^ (128 - c.args.length) < 2 ^ 128 = pow_below (128 - c.args.length) 128 (omega (arith, c.if-length-eq0.false)) in
    let size : 1 * 2 ^ (128 - c.args.length) % 340282366920938463463374607431768211456 ≡ 2 ^ (128 - c.args.length) = omega (arith, small) in
    omega (arith, size, pow_pos (128 - c.args.length), block_ends 128 c.args.self.0 c.args.length c.requires.short (omega arith) c.requires.masked)
