use Rattle.out_chain.proofs.TurnLemmas.{leave_keeps_others}
use Rattle.out_chain.proofs.chain.OutChain.stop.Goals as goal

pub returns-clause-others : goal.returns-clause-others
returns-clause-others g c = rw (c.drop_reader.ensures, c.into_reader.ensures) (leave_keeps_others c.args.queue.now _)
