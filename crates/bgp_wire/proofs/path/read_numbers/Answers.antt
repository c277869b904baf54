use Rattle.std.proofs.Common.{◌≡◌, ◌++◌, ◌∷◌, [], ◌+◌, ◌∙◌, ap, suc, drop, add-one, arith}
use Rattle.bgp_wire.specs.Paths.{width_of}
use Rattle.bgp_wire.proofs.PathLaws.{begin_numbers, read_more}
use Rattle.bgp_wire.proofs.path.read_numbers.Goals as goal

pub numbers-init : goal.numbers-init
numbers-init c = (begin_numbers (width_of c.args.as4) c.args.octets.now c.args.path.now.segments, omega (arith, c.requires.missing))

pub numbers-preserved : goal.numbers-preserved
numbers-preserved c =
    let w = width_of c.args.as4 in
    let rest : c.split_at.result.1.now ≡ drop w c.numbers.rest.now = c.split_at.ensures.back ∙ ap (λ n. drop n c.numbers.rest.now) c.width.ensures.value in
    let next : c.numbers._done + 1 ≡ suc c.numbers._done = add-one c.numbers._done in
    let more =
    read_more w c.numbers._done c.args.octets.now c.numbers.rest.now c.args.path.now.segments c.numbers.path.segments c.add.new.self.segments c.numbers.invariant.0
    (λ front kind numbers is. c.in_ok-add.ensures.segments front kind numbers is ∙ ap (λ n. front ++ record { kind = kind; numbers = numbers ++ n ∷ [] } ∷ []) c.as_number.ensures) in
    (rw (next, rest) more, omega (arith, c.in_ok-add.ensures.missing, c.numbers.invariant.1))
