use Rattle.std.proofs.Common.{◌∷◌, sym, subst, ◌∙◌, arith}
use Rattle.loss_chain.proofs.CoverLemmas.{nothing_covers}
use Rattle.journal_text.specs.Links.{rank_of}
use Rattle.loss_chain.specs.Owners.{lost_link}
use Rattle.loss_chain.specs.Steps.{weld_entries}
use Rattle.loss_chain.specs.Stages.{tables_of, deletions_of, rows_of}
use Rattle.loss_chain.specs.Parts.{LeadsOver, lowered}
use Rattle.loss_chain.specs.declared.stage.Stage.{Stage}
use Rattle.loss_chain.proofs.PartLemmas.{leads_quietly, rising_lower}
use Rattle.loss_chain.proofs.WorkLemmas.{weld_passes, welds_if}
use Rattle.loss_chain.proofs.stage.Stage.+weld.Goals as goal

pub returns-then-not-is_empty-clause-leads : goal.returns-then-not-is_empty-clause-leads
returns-then-not-is_empty-clause-leads g t c =
    let sound = rw (c.in-Deletion.is, ← c.deref_mut.ensures.value) at c.requires.sound in
    let above = c.in_ok-weld-in-Deletion.ensures in
    let leads = rw (c.lost-link.ensures.link, c.number.ensures) at above.leads in
    let sound_above = rw (c.lost-link.ensures.link, c.number.ensures) at above.sound in
    let old = tables_of c.deref_mut.result.now in
    let new = tables_of c.weld.new.self in
    let passed = weld_passes g.R.Valued.value c.args.owner c.args.out c.in-Deletion.deletion old new (sym c.is_empty.ensures.test ∙ c.if-not-is_empty.true)
    (leads_quietly g.R.Valued.value c.args.owner c.args.out c.in-Deletion.deletion old new (weld_entries c.args.owner (lost_link c.args.owner c.in-Deletion.deletion.number) (deletions_of c.deref_mut.result.now)) sound sound_above above.rows leads) in
    let P : Stage g.row.R.Denot g.row.F.Denot → Type 0 = λ s. LeadsOver g.R.Valued.value c.args.owner c.args.out (lowered c.in-Deletion.deletion (tables_of s)) (weld_entries c.args.owner c.args.out (c.in-Deletion.deletion ∷ deletions_of s)) (lowered c.in-Deletion.deletion new) in
    rw c.in-Deletion.is (subst P c.deref_mut.ensures.value passed)

pub returns-in_ok-push_entry-in-Deletion-clause-leads : goal.returns-in_ok-push_entry-in-Deletion-clause-leads
returns-in_ok-push_entry-in-Deletion-clause-leads g t c =
    let sound = rw c.in-Deletion.is at c.requires.sound in
    rw (c.splice_out.ensures, c.in-Deletion.is)
    (welds_if g.R.Valued.value c.args.owner c.args.out c.in-Deletion.deletion (tables_of c.in-Deletion.upper.value) sound (sym c.is_empty.ensures.test ∙ c.if-not-is_empty.false) (c.is_empty.ensures.empty.0 c.if-not-is_empty.false))

pub returns-in_ok-push_entry-in-Deletion-clause-rows : goal.returns-in_ok-push_entry-in-Deletion-clause-rows
returns-in_ok-push_entry-in-Deletion-clause-rows g t c =
    rw (c.splice_out.ensures, c.in-Deletion.is) (sym (nothing_covers c.in-Deletion.deletion.rows (rows_of c.in-Deletion.upper.value) (c.is_empty.ensures.empty.0 c.if-not-is_empty.false)))

pub returns-in_ok-push_entry-in-Deletion-clause-sound : goal.returns-in_ok-push_entry-in-Deletion-clause-sound
returns-in_ok-push_entry-in-Deletion-clause-sound g t c =
    let sound = rw c.in-Deletion.is at c.requires.sound in
    let low = sound.rising.0 in
    rw c.splice_out.ensures
    (record { rising = rising_lower (rank_of c.args.out) _ (deletions_of c.in-Deletion.upper.value) (omega (arith, low)) sound.rising.1; apart = sound.apart.1 })
