use Rattle.std.proofs.Common.{◌%◌, ◌≤◌, ap, ◌∙◌, arith}
use Rattle.addr4.specs.Blocks.{width, size_of_length}
use Rattle.addr4.proofs.BlockLemmas.{masked_down, size_pos}
use Rattle.addr4.proofs.prefix.Prefix.new.Goals as goal

pub invariant_of-result : goal.invariant_of-result
invariant_of-result g c =
    let short : c.args.length ≤ g.F.Family.WIDTH = omega (arith, c.if-length-WIDTH.false, c.WIDTH.ensures) in
    let masked = ap (λ a. a % size_of_length width c.args.length) (c.from_bits.ensures ∙ c.masked.ensures) ∙ masked_down _ (size_of_length width c.args.length) (size_pos width c.args.length) in
    ((omega (arith, short, c.known.ensures.narrow), masked), short)
