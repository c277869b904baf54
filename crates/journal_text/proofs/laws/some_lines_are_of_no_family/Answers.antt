use Rattle.std.proofs.Common.{◌≡◌, Bool, false, refl}
use Rattle.journal_text.specs.Lines.{Line}
use Rattle.journal_text.specs.Texts.{is_of_family, line_text}
use Rattle.journal_text.specs.declared.line.Line.TheVariants.{Out, Note, Work, Bound, Idle, Ignored, Absent, Refused}
use Rattle.journal_text.proofs.laws.some_lines_are_of_no_family.Goals as goal

one_text : (line : Line) → is_of_family line ≡ false → (v6 : Bool) → line_text v6 line ≡ line_text false line
unfolding line_text
one_text (Out k octets) none v6 = refl
one_text (Note k octets) none v6 = refl
one_text (Work turns) none v6 = refl
one_text (Bound turns) none v6 = refl
one_text (Idle turns) none v6 = refl
one_text Ignored none v6 = refl
one_text Absent none v6 = refl
one_text (Refused number code) none v6 = refl
one_text other none v6 = absurd (cc)

pub returns : goal.returns
returns c = one_text
