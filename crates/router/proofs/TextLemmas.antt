-- The text of the lines of both networks.
use Rattle.std.proofs.Common.{◌≡◌, Bool, true, false, List, [], ◌∷◌, ◌++◌, refl, sym, ap, ◌∙◌, append_assoc}
use Rattle.std.proofs.lemmas.List.{append-nil}
use Rattle.journal_text.specs.Lines.{Line}
use Rattle.journal_text.specs.Journals.{Journaled, with_lines, with_text, flushed}
use Rattle.journal_text.specs.Texts.{text_of as family_text, shown}
use Rattle.journal_laws.specs.FamilyLines.{FamilyLine, of_family, text_of, shown_in}
use Rattle.router_moments.specs.Moments.{Gives}
use Rattle.router.specs.Steps.{GivesSecond}

-- lines of one network have that network's text
pub of_one : (quiet v6 : Bool) (said : List Line) → text_of quiet (of_family v6 said) ≡ family_text v6 quiet said
of_one quiet v6 [] = refl
of_one quiet v6 (line ∷ said) = ap (λ t. shown v6 quiet line ++ t) (of_one quiet v6 said)

pub of_more : (quiet : Bool) (one other : List FamilyLine) → text_of quiet (one ++ other) ≡ text_of quiet one ++ text_of quiet other
of_more quiet [] other = refl
of_more quiet (line ∷ one) other = ap (λ t. shown_in quiet line ++ t) (of_more quiet one other) ∙ sym (append_assoc (shown_in quiet line) (text_of quiet one) (text_of quiet other))

-- what was said by the first, by the second, and by both
abbrev pub both_said : List Line → List Line → List FamilyLine
both_said said said6 = of_family false said ++ of_family true said6

pub of_both : (quiet : Bool) (said said6 : List Line) → text_of quiet (both_said said said6) ≡ family_text false quiet said ++ family_text true quiet said6
of_both quiet said said6 = of_more quiet (of_family false said) (of_family true said6) ∙ (ap (λ t. t ++ text_of quiet (of_family true said6)) (of_one quiet false said) ∙ ap (λ t. family_text false quiet said ++ t) (of_one quiet true said6))

-- the text with these lines of both behind it
abbrev pub behind : Journaled → List FamilyLine → Journaled
behind j said = record j { text = j.text ++ (j.pending ++ text_of j.quiet said); pending = [] }

-- what the first network said alone
pub first_said : (before now : Journaled) (said : List Line) → before.v6 ≡ false → now ≡ flushed (with_lines before said) → now ≡ behind before (of_family false said)
first_said before now said first is = is ∙ ap (λ t. record before { text = before.text ++ (before.pending ++ t); pending = [] }) (ap (λ v6. family_text v6 before.quiet said) first ∙ sym (of_one before.quiet false said))

-- and the second behind it
pub then_second : (before between now : Journaled) (all : List FamilyLine) (said6 : List Line) → between ≡ behind before all
    → now ≡ record between { text = between.text ++ (between.pending ++ family_text true between.quiet said6); pending = [] } → now ≡ behind before (all ++ of_family true said6)
then_second before between now all said6 was is =
    is ∙ (ap (λ (j : Journaled). record j { text = j.text ++ (j.pending ++ family_text true j.quiet said6); pending = [] }) was
    ∙ ap (λ t. record before { text = t; pending = [] })
    (append_assoc before.text (before.pending ++ text_of before.quiet all) (family_text true before.quiet said6)
    ∙ ap (λ t. before.text ++ t)
    (append_assoc before.pending (text_of before.quiet all) (family_text true before.quiet said6)
    ∙ ap (λ t. before.pending ++ t) (ap (λ t. text_of before.quiet all ++ t) (sym (of_one before.quiet true said6)) ∙ sym (of_more before.quiet all (of_family true said6))))))

-- the first again
pub then_first : (before between now : Journaled) (all : List FamilyLine) (said : List Line) → before.v6 ≡ false → between ≡ behind before all → now ≡ flushed (with_lines between said) → now ≡ behind before (all ++ of_family false said)
then_first before between now all said first was is =
    is ∙ (ap (λ (j : Journaled). flushed (with_lines j said)) was
    ∙ ap (λ t. record before { text = t; pending = [] })
    (append_assoc before.text (before.pending ++ text_of before.quiet all) (family_text before.v6 before.quiet said)
    ∙ ap (λ t. before.text ++ t)
    (append_assoc before.pending (text_of before.quiet all) (family_text before.v6 before.quiet said)
    ∙ ap (λ t. before.pending ++ t) (ap (λ t. text_of before.quiet all ++ t) (ap (λ v6. family_text v6 before.quiet said) first ∙ sym (of_one before.quiet false said)) ∙ sym (of_more before.quiet all (of_family false said))))))

-- a line that was pushed before others were
pub pushed_first : (before between now : Journaled) (line : Line) (said : List Line) → before.v6 ≡ false → between ≡ with_lines before (line ∷ []) → now ≡ flushed (with_lines between said) → now ≡ behind before (of_family false (line ∷ said))
pushed_first before between now line said first was is =
    is ∙ (ap (λ (j : Journaled). flushed (with_lines j said)) was
    ∙ ap (λ t. record before { text = before.text ++ t; pending = [] })
    (append_assoc before.pending (family_text before.v6 before.quiet (line ∷ [])) (family_text before.v6 before.quiet said)
    ∙ ap (λ t. before.pending ++ t)
    (ap (λ v6. family_text v6 before.quiet (line ∷ []) ++ family_text v6 before.quiet said) first
    ∙ (ap (λ t. t ++ family_text false before.quiet said) (append-nil (shown false before.quiet line))
    ∙ sym (of_one before.quiet false (line ∷ said))))))

-- what the second said in the text that it was lent
pub lent_said : (P : List Line → Type 0) (before left lent own now : Journaled) → lent ≡ record { text = before.text ++ before.pending; pending = []; quiet = before.quiet; v6 = true } → left ≡ with_text (flushed before) [] → Gives P lent own → now ≡ with_text left own.text
    → GivesSecond P before now
lent_said P before left lent own now lends lefts g is =
    let text : own.text ≡ (before.text ++ before.pending) ++ family_text true before.quiet g.0 = ap (λ (j : Journaled). j.text) g.1 ∙ ap (λ (j : Journaled). j.text ++ (j.pending ++ family_text j.v6 j.quiet g.0)) lends in
    (g.0, is ∙ (ap (λ (j : Journaled). with_text j own.text) lefts ∙ ap (λ t. record before { text = t; pending = [] }) (text ∙ append_assoc before.text before.pending (family_text true before.quiet g.0))), g.2)
