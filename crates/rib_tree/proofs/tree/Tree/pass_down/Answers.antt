use Rattle.std.proofs.Common.{Bool, sym, ap, subst, ◌∙◌}
use Rattle.journal_text.specs.declared.link.Link.{Link}
use Rattle.journal_text.specs.Journals.{with_entries}
use Rattle.journal_text.specs.Values.{interior_value, valued_change}
use Rattle.journal_text.proofs.JournalLemmas.{with_entries_none}
use Rattle.rib_tree.specs.Merges.{MergesInto, MergesBelow, sent_if}
use Rattle.rib_tree.proofs.MergeLemmas.{passes_nothing, passes_on}
use Rattle.rib_tree.proofs.tree.Tree.pass_down.Goals as goal

pub returns-then-not-branch : goal.returns-then-not-branch
returns-then-not-branch g c =
    let P : Bool → Type 0 = λ went. MergesInto c.args.proto c.args.self.now c.args.change (sent_if went c.merge_into.new.change) in
    passes_nothing c.args.proto c.args.self.now c.args.change c.args.journal.now (subst P c.if-not-branch.true c.in_ok-merge_into.ensures)

pub returns-then-not-branch-2 : goal.returns-then-not-branch-2
returns-then-not-branch-2 g c =
    let P : Bool → Type 0 = λ went. MergesInto c.args.proto c.args.self.now c.args.change (sent_if went c.merge_into.new.change) in
    let Q : Bool → Type 0 = λ went. MergesBelow c.args.proto c.args.self.now c.merge_into.new.change (sent_if went c.merge_below.new.change) in
    let mid_is = c.in_ok-push_change.ensures ∙ ap (λ (link : Link). with_entries c.args.journal.now (valued_change interior_value link c.merge_into.new.change)) c.merged_link.ensures in
    passes_on c.args.proto c.args.self.now c.args.change c.merge_into.new.change _ c.args.journal.now c.push_change.new.self c.push_change.new.self (subst P c.if-not-branch.false c.in_ok-merge_into.ensures)
    (subst Q c.if-not-branch-2.true c.in_ok-merge_below.ensures) mid_is (sym (with_entries_none c.push_change.new.self))

pub returns : goal.returns
returns g c =
    let P : Bool → Type 0 = λ went. MergesInto c.args.proto c.args.self.now c.args.change (sent_if went c.merge_into.new.change) in
    let Q : Bool → Type 0 = λ went. MergesBelow c.args.proto c.args.self.now c.merge_into.new.change (sent_if went c.merge_below.new.change) in
    let mid_is = c.in_ok-push_change.ensures ∙ ap (λ (link : Link). with_entries c.args.journal.now (valued_change interior_value link c.merge_into.new.change)) c.merged_link.ensures in
    passes_on c.args.proto c.args.self.now c.args.change c.merge_into.new.change _ c.args.journal.now c.push_change.new.self c.push_change-2.new.self (subst P c.if-not-branch.false c.in_ok-merge_into.ensures)
    (subst Q c.if-not-branch-2.false c.in_ok-merge_below.ensures) mid_is c.in_ok-push_change-2.ensures
