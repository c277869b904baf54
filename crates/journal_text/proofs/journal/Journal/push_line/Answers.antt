use Rattle.std.proofs.Common.{ℕ, List, [], ◌∷◌, ap, ◌∙◌}
use Rattle.journal_text.specs.Kept.{chars}
use Rattle.journal_text.specs.Texts.{text_of}
use Rattle.journal_text.specs.Journals.{Journaled, with_lines}
use Rattle.journal_text.proofs.JournalLemmas.{text_of_append}
use Rattle.journal_text.proofs.journal.Journal.push_line.Goals as goal

pub returns : goal.returns
returns g c =
    let v6 = g.F.Family.V6 in
    let J : List ℕ → Journaled = λ pending. record { text = chars c.self.inside.text; pending = pending; quiet = c.self.inside.quiet; v6 = v6 } in
    ap J (ap (text_of v6 c.self.inside.quiet) c.in_ok-push.ensures.items ∙ text_of_append v6 c.self.inside.quiet c.self.inside.pending.items (c.args.line ∷ []))
    ∙ ap (λ (j : Journaled). with_lines j (c.args.line ∷ [])) c.self.view_is
