use Rattle.out_chain.proofs.TurnLemmas.{join_keeps_others, starts_leading_as, starts_standing_as}
use Rattle.out_chain.proofs.chain.OutChain.start.Goals as goal

pub returns-clause-others : goal.returns-clause-others
returns-clause-others g c = rw c.in_ok-reader.ensures.ok (join_keeps_others c.args.queue.now c.in_ok-reader.reader)

pub returns-clause-leads : goal.returns-clause-leads
returns-clause-leads g c = starts_leading_as c.new-out.result c.new.result c.new-2.result c.args.peer.now c.args.session c.in_ok-reader.reader c.args.rules c.new.ensures c.new-2.ensures

pub returns-clause-stands : goal.returns-clause-stands
returns-clause-stands g c =
    starts_standing_as c.args.profile c.args.me.now c.new-out.result c.new.result c.new-2.result c.args.peer.now c.args.session c.in_ok-reader.reader c.args.rules c.args.queue.now c.join_reader.new.self
    c.new-out.ensures c.new.ensures c.new-2.ensures c.in_ok-reader.ensures.ok c.requires.sender
