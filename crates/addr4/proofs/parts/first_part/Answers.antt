use Rattle.std.proofs.Common.{ℕ, ◌+◌, ◌-◌, length, drop, length-drop, arith}
use Rattle.std.proofs.lemmas.List.{take_all}
use Rattle.addr4.proofs.PartLemmas.{parts_at, parts_alone, none_before, none_anywhere}
use Rattle.addr4.proofs.parts.first_part.Goals as goal

pub returns-in-Some : goal.returns-in-Some
returns-in-Some c =
    let text = c.args.text.now in
    let at = c.in-Some.at in
    let first = c.in-Some.ensures.0 in
    let rest = take_all (length text - (at + 1)) (drop (at + 1) text) (omega (arith, length-drop {A = ℕ})) in
    rw rest (parts_at c.args.separator text at first.high (none_before c.args.separator text at first.before) c.in-Some.ensures.1)

pub returns-in-None : goal.returns-in-None
returns-in-None c = parts_alone c.args.separator c.args.text.now (none_anywhere c.args.separator c.args.text.now c.in-None.ensures)
