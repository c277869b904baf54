use Rattle.std.proofs.Common.{Result, Ok, Err, OnOk, ap, sym, subst, ◌∙◌}
use Rattle.link_change.proofs.RowLemmas.{empty_rows}
use Rattle.loss_chain.specs.Steps.{loss_entries}
use Rattle.loss_chain.specs.Stages.{tables_of}
use Rattle.loss_chain.specs.Parts.{LeadsOver, lowered}
use Rattle.loss_chain.specs.declared.stage.Stage.{Stage}
use Rattle.loss_chain.proofs.PartLemmas.{leads_quietly}
use Rattle.loss_chain.proofs.WorkLemmas.{begins_if, begun_rows}
use Rattle.loss_chain.proofs.stage.Stage.+lose.Goals as goal

pub returns-in_ok-fresh-in-Top-clause-leads : goal.returns-in_ok-fresh-in-Top-clause-leads
returns-in_ok-fresh-in-Top-clause-leads g t c =
    rw (c.splice_in.ensures, c.in-Top.is)
    (begins_if g.R.Valued.value c.args.owner c.args.out c.args.number c.in-Top.live c.new.result (tables_of c.in_ok-fresh-in-Top.fresh.value)
    (c.new.ensures ∙ ap (λ r. record { number = c.args.number; rows = r }) c.lose-table.ensures.lost) (ap tables_of c.in_ok-fresh-in-Top.ensures.top)
    (sym c.is_empty.ensures.test ∙ c.if-is_empty.false) c.requires.above)

pub returns-in_ok-fresh-in-Top-clause-rows : goal.returns-in_ok-fresh-in-Top-clause-rows
returns-in_ok-fresh-in-Top-clause-rows g t c =
    rw (c.splice_in.ensures, c.in-Top.is)
    (begun_rows c.args.number c.in-Top.live c.new.result (tables_of c.in_ok-fresh-in-Top.fresh.value)
    (c.new.ensures ∙ ap (λ r. record { number = c.args.number; rows = r }) c.lose-table.ensures.lost) (ap tables_of c.in_ok-fresh-in-Top.ensures.top))

pub returns-in_ok-fresh-in-Top-clause-sound : goal.returns-in_ok-fresh-in-Top-clause-sound
returns-in_ok-fresh-in-Top-clause-sound g t c =
    rw (c.splice_in.ensures, c.new.ensures, c.in_ok-fresh-in-Top.ensures.top) (record { rising = (c.requires.above, tt); apart = ((λ q _. ap (λ r. r q) empty_rows), tt) })

-- what follows from three facts, where all three are said of Ok alone
with_three : {X E P Q S T : Type 0} (r : Result X E) → OnOk r P → OnOk r Q → OnOk r S → (P → Q → S → T) → OnOk r T
with_three (Ok x) p q s f = f p q s
with_three (Err e) p q s f = tt

pub returns-in-Deletion-clause-leads : goal.returns-in-Deletion-clause-leads
returns-in-Deletion-clause-leads g t c =
    let sound = rw (c.in-Deletion.is, ← c.deref_mut.ensures.value) at c.requires.sound in
    with_three c.lose.result c.lose.ensures.leads c.lose.ensures.sound c.lose.ensures.rows
    (λ led sound_then rows.
    let leads = rw (c.lost-link.ensures.link, c.number.ensures) at led in
    let sound_above = rw (c.lost-link.ensures.link, c.number.ensures) at sound_then in
    let passed = leads_quietly g.R.Valued.value c.args.owner c.args.out c.in-Deletion.deletion (tables_of c.deref_mut.result.now) (tables_of c.lose.new.self)
    (loss_entries c.args.owner c.args.number (tables_of c.deref_mut.result.now)) sound sound_above rows leads in
    let P : Stage g.row.R.Denot g.row.F.Denot → Type 0 = λ s. LeadsOver g.R.Valued.value c.args.owner c.args.out (lowered c.in-Deletion.deletion (tables_of s)) (loss_entries c.args.owner c.args.number (tables_of s)) (lowered c.in-Deletion.deletion (tables_of c.lose.new.self)) in
    rw c.in-Deletion.is (subst P c.deref_mut.ensures.value passed))
