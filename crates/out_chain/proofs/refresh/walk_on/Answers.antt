use Rattle.out_chain.proofs.RefreshLemmas.{walk_is_on, walk_is_over}
use Rattle.out_chain.proofs.refresh.walk_on.Goals as goal

pub returns-in-Some : goal.returns-in-Some
returns-in-Some g c = walk_is_on c.args.sent.now c.args.place c.in-Some.field-0 c.in-Some.ensures.next

pub returns-in-None : goal.returns-in-None
returns-in-None g c = walk_is_over c.args.sent.now c.args.place c.in-None.ensures.next
