use Rattle.loss_chain.specs.Owners.{lost_link}
use Rattle.loss_chain.specs.Falls.{way_down}
use Rattle.loss_chain.specs.Stages.{rows_of, tables_of, deletions_of}
use Rattle.loss_chain.proofs.RowLemmas.{fed_kept, fed_taken}
use Rattle.loss_chain.proofs.PartLemmas.{top_falls, passes_down, passes_quietly, sound_after}
use Rattle.loss_chain.proofs.stage.Stage.+feed.Goals as goal

pub returns-in_ok-sent-in-Top-clause-lines : goal.returns-in_ok-sent-in-Top-clause-lines
returns-in_ok-sent-in-Top-clause-lines g t c =
    rw c.in-Top.is
    (top_falls g.R.Valued.value g.met.R.Valued.told c.args.owner c.args.out c.in-Top.live c.feed_top.new.live c.args.p c.in_ok-sent-in-Top.sent c.args.journal.now c.feed_top.new.journal c.in_ok-sent-in-Top.ensures.sent c.in_ok-sent-in-Top.ensures.lines)

-- ---- nothing comes from above

pub returns-in_default-clause-after : goal.returns-in_default-clause-after
returns-in_default-clause-after g t c =
    let sound = rw (c.in-Deletion.is, ← c.deref_mut.ensures.value) at c.requires in
    let above = c.in_ok-change-in-Deletion.ensures in
    let same = rw c.in_default.is at above.sent in
    rw (c.in-Deletion.is, ← c.deref_mut.ensures.value)
    (fed_kept c.args.p c.args.new c.in-Deletion.deletion (tables_of c.deref_mut.result.now) (tables_of c.feed.new.self) sound.apart.0 above.after same)

pub returns-in_default-clause-lines : goal.returns-in_default-clause-lines
returns-in_default-clause-lines g t c =
    let sound = rw (c.in-Deletion.is, ← c.deref_mut.ensures.value) at c.requires in
    let above = c.in_ok-change-in-Deletion.ensures in
    let same = rw c.in_default.is at above.sent in
    let lines = rw (c.in_default.is, c.lost-link.ensures.link, c.number.ensures) at above.lines in
    let sound_above = rw (c.lost-link.ensures.link, c.number.ensures) at above.sound in
    rw (c.in-Deletion.is, ← c.deref_mut.ensures.value)
    (passes_quietly g.R.Valued.value c.args.owner c.args.out c.in-Deletion.deletion (tables_of c.deref_mut.result.now) (tables_of c.feed.new.self) c.args.journal.now c.feed.new.journal c.args.p
    (way_down c.args.owner (lost_link c.args.owner c.in-Deletion.deletion.number) (deletions_of c.deref_mut.result.now)) sound sound_above same lines)

-- ---- a change passes

pub returns-in_ok-sent-in-Deletion-clause-sent : goal.returns-in_ok-sent-in-Deletion-clause-sent
returns-in_ok-sent-in-Deletion-clause-sent g t c =
    let change = rw c.in-Some.is at c.in_ok-change-in-Deletion.ensures.sent in
    let law = c.in_ok-sent-in-Deletion.ensures.law (rows_of c.deref_mut.result.now) (rows_of c.feed.new.self) c.args.p change in
    rw c.in-Deletion.is (rw c.deref_mut.ensures.value at law)

pub returns-in_ok-sent-in-Deletion-clause-after : goal.returns-in_ok-sent-in-Deletion-clause-after
returns-in_ok-sent-in-Deletion-clause-after g t c =
    let sound = rw (c.in-Deletion.is, ← c.deref_mut.ensures.value) at c.requires in
    let above = c.in_ok-change-in-Deletion.ensures in
    let change = rw c.in-Some.is at above.sent in
    let new_row = rw c.in-Some.is at above.new_row in
    rw (c.in-Deletion.is, ← c.deref_mut.ensures.value)
    (fed_taken c.args.p c.args.new c.in-Deletion.deletion c.pass_on.new.deletion (tables_of c.deref_mut.result.now) (tables_of c.feed.new.self) c.in-Some.change
    sound.apart.0 c.in_ok-sent-in-Deletion.ensures.number c.in_ok-sent-in-Deletion.ensures.rows change new_row above.after)

pub returns-in_ok-sent-in-Deletion-clause-lines : goal.returns-in_ok-sent-in-Deletion-clause-lines
returns-in_ok-sent-in-Deletion-clause-lines g t c =
    let sound = rw (c.in-Deletion.is, ← c.deref_mut.ensures.value) at c.requires in
    let above = c.in_ok-change-in-Deletion.ensures in
    let change = rw c.in-Some.is at above.sent in
    let lines = rw (c.in-Some.is, c.lost-link.ensures.link, c.number.ensures) at above.lines in
    let sound_above = rw (c.lost-link.ensures.link, c.number.ensures) at above.sound in
    rw (c.in-Deletion.is, ← c.deref_mut.ensures.value)
    (passes_down g.R.Valued.value g.met.R.Valued.told c.args.owner c.args.out c.in-Deletion.deletion c.pass_on.new.deletion (tables_of c.deref_mut.result.now) (tables_of c.feed.new.self)
    c.args.journal.now c.feed.new.journal c.pass_on.new.journal c.args.p (way_down c.args.owner (lost_link c.args.owner c.in-Deletion.deletion.number) (deletions_of c.deref_mut.result.now))
    c.in-Some.change c.in_ok-sent-in-Deletion.sent sound sound_above c.in_ok-sent-in-Deletion.ensures.number lines
    (c.in_ok-sent-in-Deletion.ensures.law (rows_of c.deref_mut.result.now) (rows_of c.feed.new.self) c.args.p change) c.in_ok-sent-in-Deletion.ensures.lines)

pub returns-in_ok-sent-in-Deletion-clause-sound : goal.returns-in_ok-sent-in-Deletion-clause-sound
returns-in_ok-sent-in-Deletion-clause-sound g t c =
    let sound = rw (c.in-Deletion.is, ← c.deref_mut.ensures.value) at c.requires in
    let above = c.in_ok-change-in-Deletion.ensures in
    let change = rw c.in-Some.is at above.sent in
    let sound_above = rw (c.lost-link.ensures.link, c.number.ensures) at above.sound in
    sound_after c.args.owner c.args.out c.in-Deletion.deletion c.pass_on.new.deletion (tables_of c.deref_mut.result.now) (tables_of c.feed.new.self) sound sound_above c.in_ok-sent-in-Deletion.ensures.number
    (c.in_ok-sent-in-Deletion.ensures.apart (rows_of c.deref_mut.result.now) (rows_of c.feed.new.self) c.args.p change sound.apart.0)
