use Rattle.std.proofs.Common.{take}
use Rattle.journal_text.specs.Texts.{text_of}
use Rattle.journal_text.specs.Kept.{IsAppended}
use Rattle.journal_text.proofs.kept.Text.push_lines.Given as goal

abbrev pub invariant-loop-line : goal.invariant-loop-line
invariant-loop-line g l = IsAppended (text_of g.F.Family.V6 l.quiet (take l.line-index l.lines)) l.fn.self l.self
