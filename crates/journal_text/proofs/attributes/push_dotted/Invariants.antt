use Rattle.std.proofs.Common.{◌≡◌, ◌++◌, take}
use Rattle.addr4.specs.Texts.{dotted}
use Rattle.journal_text.proofs.attributes.push_dotted.Given as goal

abbrev pub invariant-loop-i : goal.invariant-loop-i
invariant-loop-i l = l.out.items ≡ l.fn.out.items ++ dotted (take l.i l.numbers)
