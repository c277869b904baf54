use Rattle.std.proofs.Common.{◌+◌, sym, ap, ◌∙◌}
use Rattle.mrt_reader.specs.Records.{number_at}
use Rattle.mrt_reader.specs.Fields.{told_by_state}
use Rattle.mrt_reader.proofs.KeptLemmas.{state_told, message_told}
use Rattle.mrt_reader.proofs.bodies.read_news.Goals as goal

pub returns-then-is_state_change-clause-within : goal.returns-then-is_state_change-clause-within
returns-then-is_state_change-clause-within c = c.state_news.ensures.within _

pub returns-then-is_state_change-clause-told : goal.returns-then-is_state_change-clause-told
returns-then-is_state_change-clause-told c = λ whole size front.
    let at = c.short_at.ensures ∙ ap (λ k. number_at 2 (k + 14) c.args.body.now) c.interface-interface.ensures.value in
    state_told c.args.as4 c.args.header.kind c.args.header.subtype c.args.body.now whole _ (sym c.is_state_change.ensures ∙ c.if-is_state_change.true) front
    (c.state_news.ensures.told c.args.body.now ∙ ap told_by_state at)

pub returns-else-is_state_change-clause-told : goal.returns-else-is_state_change-clause-told
returns-else-is_state_change-clause-told c = λ whole size front.
    message_told c.args.as4 c.args.header.kind c.args.header.subtype c.args.header.length c.args.body.now whole _ (sym c.is_state_change.ensures ∙ c.if-is_state_change.false) size front
    (rw (← c.interface-interface.ensures.value) (c.message_news.ensures.told c.args.body.now))
