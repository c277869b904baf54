use Rattle.std.proofs.Common.{◌≡◌, true, false, cond, ◌&&◌, [], ◌∷◌, ◌++◌, ◌+◌, take, sym, ap, subst, ◌∙◌, rules}
use Rattle.std.proofs.lemmas.List.{append-nil, take_more}
use Rattle.journal_text.specs.Lines.{Line}
use Rattle.journal_text.specs.Texts.{text_of, shown, is_entry, line_text}
use Rattle.journal_text.specs.Kept.{IsAppended}
use Rattle.journal_text.proofs.JournalLemmas.{text_of_append}
use Rattle.journal_text.proofs.KeptLemmas.{appended_then}
use Rattle.journal_text.proofs.kept.Text.push_lines.Goals as goal
use Rattle.journal_text.proofs.kept.Text.push_lines.Goals.{then-quiet, else-quiet, then-not-is_entry+in_ok-push_line, else-not-is_entry}

pub loop-line-preserved : goal.loop-line-preserved
loop-line-preserved g c =
    let v6 = g.F.Family.V6 in
    let lines = c.args.lines.now in
    let i = c.loop-line.line-index in
    let line = c.line-item.result in
    let quiet = c.args.quiet in
    let value : c.if-quiet.value ≡ (quiet && is_entry line) = elim c.if-quiet.branch [ then-quiet w ↦ search rules | else-quiet w ↦ search rules ] in
    let text : text_of v6 quiet (take (i + 1) lines) ≡ text_of v6 quiet (take i lines) ++ shown v6 quiet line =
    ap (text_of v6 quiet) (take_more lines i line c.loop-line-test.true ∙ ap (λ (x : Line). take i lines ++ x ∷ []) (sym c.line-item.is))
    ∙ (text_of_append v6 quiet (take i lines) (line ∷ []) ∙ ap (λ t. text_of v6 quiet (take i lines) ++ t) (append-nil (shown v6 quiet line))) in
    let before = text_of v6 quiet (take i lines) in
    elim c.if-not-is_entry.branch [
      | then-not-is_entry+in_ok-push_line w ↦
          let no : (quiet && is_entry line) ≡ false = search (rules, value) in
          let said : text_of v6 quiet (take (i + 1) lines) ≡ before ++ line_text v6 line = text ∙ ap (λ b. before ++ cond b [] (line_text v6 line)) no in
          subst (λ t. IsAppended t c.args.self.now c.if-not-is_entry.self) (sym said)
          (subst (λ t. IsAppended (before ++ line_text v6 line) c.args.self.now t) (sym w.self-is)
          (appended_then before (line_text v6 line) c.args.self.now c.loop-line.self w.push_line.new.self c.loop-line.invariant w.in_ok-push_line.ensures))
      | else-not-is_entry w ↦
          let yes : (quiet && is_entry line) ≡ true = search (rules, value) in
          let said : text_of v6 quiet (take (i + 1) lines) ≡ before = text ∙ (ap (λ b. before ++ cond b [] (line_text v6 line)) yes ∙ append-nil before) in
          subst (λ t. IsAppended t c.args.self.now c.if-not-is_entry.self) (sym said) (subst (λ t. IsAppended before c.args.self.now t) (sym w.self-is) c.loop-line.invariant)
    ]
