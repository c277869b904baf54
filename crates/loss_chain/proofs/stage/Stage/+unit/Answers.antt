use Rattle.std.proofs.Common.{sym, ◌∙◌}
use Rattle.loss_chain.specs.Stages.{tables_of, rows_of}
use Rattle.loss_chain.proofs.PartLemmas.{sound_above, sound_after}
use Rattle.loss_chain.proofs.WorkLemmas.{own_sweeps, sweeps_on, sweeps_quietly, taken_over}
use Rattle.loss_chain.proofs.stage.Stage.+unit.Goals as goal

pub sweep-requires : goal.sweep-requires
sweep-requires g t c =
    let full = rw c.in-Deletion.is at c.requires.full in
    full.0

-- ---- the stage's own turn

pub returns-then-number-clause-taken : goal.returns-then-number-clause-taken
returns-then-number-clause-taken g t c =
    let sound = rw c.in-Deletion.is at c.requires.sound in
    let own = c.in_ok-change-in-Deletion.ensures in
    rw c.in-Deletion.is
    (own_sweeps g.R.Valued.value g.met.R.Valued.told c.args.owner c.args.out c.args.number c.in-Deletion.deletion c.sweep.new.deletion (tables_of c.in-Deletion.upper.value) c.in_ok-change-in-Deletion.change c.args.journal.now c.sweep.new.journal
    (sym c.number.ensures ∙ c.if-number.true) sound own.number own.rows own.least own.after own.law own.lines)

pub returns-then-number-clause-sound : goal.returns-then-number-clause-sound
returns-then-number-clause-sound g t c =
    let sound = rw c.in-Deletion.is at c.requires.sound in
    let own = c.in_ok-change-in-Deletion.ensures in
    let upper = tables_of c.in-Deletion.upper.value in
    sound_after c.args.owner c.args.out c.in-Deletion.deletion c.sweep.new.deletion upper upper sound (sound_above c.args.owner c.args.out c.in-Deletion.deletion upper sound) own.number
    (own.law (rows_of c.in-Deletion.upper.value) sound.apart.0).1

-- ---- a turn of a stage above

pub returns-in-Quiet-clause-taken : goal.returns-in-Quiet-clause-taken
returns-in-Quiet-clause-taken g t c =
    let sound = rw (c.in-Deletion.is, ← c.deref_mut.ensures.value) at c.requires.sound in
    let above = c.in_ok-unit-in-Deletion.ensures in
    let sound_above = rw (c.lost-link.ensures.link, c.number-in-Deletion.ensures) at above.sound in
    let taken = rw (c.in-Quiet.is, c.lost-link.ensures.link, c.number-in-Deletion.ensures) at above.taken in
    rw (c.in-Deletion.is, ← c.deref_mut.ensures.value)
    (sweeps_quietly g.R.Valued.value c.args.owner c.args.out c.args.number c.in-Deletion.deletion (tables_of c.deref_mut.result.now) (tables_of c.unit.new.self) c.args.journal.now c.unit.new.journal
    (λ e. c.if-number.false (c.number.ensures ∙ e)) sound sound_above taken)

pub returns-in_ok-sent-in-Sent-clause-taken : goal.returns-in_ok-sent-in-Sent-clause-taken
returns-in_ok-sent-in-Sent-clause-taken g t c =
    let sound = rw (c.in-Deletion.is, ← c.deref_mut.ensures.value) at c.requires.sound in
    let above = c.in_ok-unit-in-Deletion.ensures in
    let sound_above = rw (c.lost-link.ensures.link, c.number-in-Deletion.ensures) at above.sound in
    let taken = rw (c.in-Sent.is, c.lost-link.ensures.link, c.number-in-Deletion.ensures) at above.taken in
    let old = tables_of c.deref_mut.result.now in
    let new = tables_of c.unit.new.self in
    rw (c.taken.ensures, c.in-Deletion.is, ← c.deref_mut.ensures.value)
    (taken_over g.R.Valued.value c.args.owner c.args.out _ _ c.args.number c.in_ok-sent-in-Sent.sent c.args.journal.now c.pass_on.new.journal
    (sweeps_on g.R.Valued.value g.met.R.Valued.told c.args.owner c.args.out c.args.number c.in-Deletion.deletion c.pass_on.new.deletion old new c.in-Sent.change c.in_ok-sent-in-Sent.sent c.args.journal.now c.unit.new.journal c.pass_on.new.journal
    (λ e. c.if-number.false (c.number.ensures ∙ e)) sound sound_above c.in_ok-sent-in-Sent.ensures.number c.in_ok-sent-in-Sent.ensures.rows
    (λ p is. c.in_ok-sent-in-Sent.ensures.law (rows_of c.deref_mut.result.now) (rows_of c.unit.new.self) p is) c.in_ok-sent-in-Sent.ensures.after taken c.in_ok-sent-in-Sent.ensures.lines))

pub returns-in_ok-sent-in-Sent-clause-sound : goal.returns-in_ok-sent-in-Sent-clause-sound
returns-in_ok-sent-in-Sent-clause-sound g t c =
    let sound = rw (c.in-Deletion.is, ← c.deref_mut.ensures.value) at c.requires.sound in
    let above = c.in_ok-unit-in-Deletion.ensures in
    let sound_above = rw (c.lost-link.ensures.link, c.number-in-Deletion.ensures) at above.sound in
    let taken = rw c.in-Sent.is at above.taken in
    sound_after c.args.owner c.args.out c.in-Deletion.deletion c.pass_on.new.deletion (tables_of c.deref_mut.result.now) (tables_of c.unit.new.self) sound sound_above c.in_ok-sent-in-Sent.ensures.number
    (c.in_ok-sent-in-Sent.ensures.apart (rows_of c.deref_mut.result.now) (rows_of c.unit.new.self) taken.2.prefix taken.2.rows sound.apart.0)
