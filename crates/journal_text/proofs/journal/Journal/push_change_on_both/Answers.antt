use Rattle.std.proofs.Common.{◌≡◌, ◌++◌, List, sym, ap, ◌∙◌}
use Rattle.std.proofs.lemmas.Result.{on_ok_weaker}
use Rattle.journal_text.specs.Lines.{Entry, Value}
use Rattle.journal_text.specs.Walk.{change_entries}
use Rattle.journal_text.specs.Journals.{Journaled, with_entries}
use Rattle.journal_text.specs.Values.{valued_change}
use Rattle.journal_text.proofs.JournalLemmas.{quiet_entries, with_entries_append}
use Rattle.journal_text.proofs.journal.Journal.push_change_on_both.Goals as goal

pub returns-then-self : goal.returns-then-self
returns-then-self g c =
    quiet_entries c.args.self.now (valued_change g.R.Valued.value c.args.first c.args.change.now ++ valued_change g.R.Valued.value c.args.second c.args.change.now)
    (sym (ap (λ (j : Journaled). j.quiet) c.self.view_is) ∙ c.if-self.true)

pub returns : goal.returns
returns g c =
    let p = c.args.change.now.prefix in
    let first : List (Entry Value) = valued_change g.R.Valued.value c.args.first c.args.change.now in
    let second : List (Entry Value) = valued_change g.R.Valued.value c.args.second c.args.change.now in
    let before = c.in_ok-before.ensures.before in
    let after = c.in_ok-before.ensures.after in
    let made : c.push_values.new.self ≡ with_entries c.args.self.now first =
    c.in_ok-push_values.ensures ∙ (λ i. with_entries c.args.self.now (change_entries c.args.first p ((c.in_ok-copy_of.ensures ∙ before) i) ((c.in_ok-copy_of-2.ensures ∙ after) i))) in
    on_ok_weaker c.push_values-2.result
    (λ is. is ∙ ((λ i. with_entries (made i) (change_entries c.args.second p (before i) (after i))) ∙ with_entries_append c.args.self.now first second))
    c.push_values-2.ensures
