use Rattle.register_interest.proofs.MapOrderLemmas.{none_up_to, last_up_to}
use Rattle.register_interest.proofs.order.last_to.Goals as goal

pub returns-in-None : goal.returns-in-None
returns-in-None g c = none_up_to c.args.rows.now c.args.bound c.range-range.result (c.range-range.ensures.in_range tt) c.in-None.ensures.steps.0

pub returns-in-Some : goal.returns-in-Some
returns-in-Some g c = last_up_to c.args.rows.now c.args.bound c.in-Some.row.0.now c.in-Some.row.1.now c.range-range.result c.next_back.new.self (c.range-range.ensures.in_range tt) c.in-Some.ensures.steps
