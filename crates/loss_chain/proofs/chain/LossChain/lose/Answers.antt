use Rattle.loss_chain.specs.Stages.{tables_of}
use Rattle.loss_chain.proofs.WholeLemmas.{chain_of_sound, leads_chain, sound_of_chain}
use Rattle.loss_chain.proofs.chain.LossChain.lose.Goals as goal

pub lose-requires-clause-sound : goal.lose-requires-clause-sound
lose-requires-clause-sound g c = rw c.lowest-link.ensures.link (sound_of_chain c.args.owner (tables_of c.self.inside.lowest) (rw (← c.self.view_is) at c.requires.chain))

pub returns-clause-leads : goal.returns-clause-leads
returns-clause-leads g c =
    let leads = rw c.lowest-link.ensures.link at c.in_ok-lose.ensures.leads in
    rw (← c.self.view_is) (leads_chain g.R.Valued.value c.args.owner (tables_of c.self.inside.lowest) (tables_of c.lose.new.self) _ leads)

pub returns-clause-chain : goal.returns-clause-chain
returns-clause-chain g c = chain_of_sound _ _ c.in_ok-lose.ensures.sound
