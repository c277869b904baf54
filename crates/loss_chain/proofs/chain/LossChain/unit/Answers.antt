use Rattle.loss_chain.specs.Stages.{tables_of}
use Rattle.loss_chain.proofs.WorkLemmas.{one_after}
use Rattle.loss_chain.proofs.WholeLemmas.{chain_of_sound, sound_of_chain, taken_chain}
use Rattle.loss_chain.proofs.chain.LossChain.unit.Goals as goal

pub unit-requires-clause-sound : goal.unit-requires-clause-sound
unit-requires-clause-sound g c = rw c.lowest-link.ensures.link (sound_of_chain c.args.owner (tables_of c.self.inside.lowest) (rw (← c.self.view_is) at c.requires.chain))

pub returns-clause-taken : goal.returns-clause-taken
returns-clause-taken g c =
    let taken = rw c.lowest-link.ensures.link at c.in_ok-turn.ensures.taken in
    rw (← c.self.view_is)
    (taken_chain g.R.Valued.value c.args.owner (tables_of c.self.inside.lowest) (tables_of c.unit.new.self) c.args.number c.args.journal.now c.unit.new.journal c.in_ok-turn.turn taken)

pub returns-clause-chain : goal.returns-clause-chain
returns-clause-chain g c = chain_of_sound _ _ c.in_ok-turn.ensures.sound

pub returns-clause-one_empty : goal.returns-clause-one_empty
returns-clause-one_empty g c =
    let chain = rw (← c.self.view_is) at c.requires.chain in
    let full = rw (← c.self.view_is) at c.requires.full in
    let taken = rw c.lowest-link.ensures.link at c.in_ok-turn.ensures.taken in
    let old = tables_of c.self.inside.lowest in
    one_after g.R.Valued.value c.args.owner _ old (tables_of c.unit.new.self) c.args.number c.args.journal.now c.unit.new.journal c.in_ok-turn.turn taken (sound_of_chain c.args.owner old chain) full
