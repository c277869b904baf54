use Rattle.register_interest.proofs.MapOrderLemmas.{none_beyond, next_beyond}
use Rattle.register_interest.proofs.order.first_beyond.Goals as goal

pub returns-in-None : goal.returns-in-None
returns-in-None g c = none_beyond c.args.rows.now c.args.prefix c.range-range.result (c.range-range.ensures.in_range tt) c.in-None.ensures.steps.0

pub returns-in-Some : goal.returns-in-Some
returns-in-Some g c = next_beyond c.args.rows.now c.args.prefix c.in-Some.row.0.now c.in-Some.row.1.now c.range-range.result c.next.new.self (c.range-range.ensures.in_range tt) c.in-Some.ensures.steps
