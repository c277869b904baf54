use Rattle.std.proofs.Common.{◌≡◌, ◌++◌, take}
use Rattle.journal_text.specs.Texts.{addresses_text}
use Rattle.journal_text.proofs.attributes.push_addresses.Given as goal

abbrev pub invariant-loop-i : goal.invariant-loop-i
invariant-loop-i l = l.out.items ≡ l.fn.out.items ++ addresses_text (take l.i l.addresses)
