use Rattle.std.proofs.Common.{ap, sym, subst}
use Rattle.loss_chain.specs.Tables.{OneEmptyAtMost}
use Rattle.loss_chain.specs.Stages.{tables_of, deletions_of, live_of}
use Rattle.loss_chain.proofs.WorkLemmas.{one_fed}
use Rattle.loss_chain.proofs.WholeLemmas.{chain_of_sound, falls_chain, sound_of_chain}
use Rattle.loss_chain.proofs.chain.LossChain.feed.Goals as goal

pub feed-requires : goal.feed-requires
feed-requires g c = rw c.lowest-link.ensures.link (sound_of_chain c.args.owner (tables_of c.self.inside.lowest) (rw (← c.self.view_is) at c.requires.chain))

pub returns-clause-lines : goal.returns-clause-lines
returns-clause-lines g c =
    let lines = rw c.lowest-link.ensures.link at c.in_ok-sent.ensures.lines in
    rw (← c.self.view_is)
    (falls_chain g.R.Valued.value c.args.owner (tables_of c.self.inside.lowest) (tables_of c.feed.new.self) c.args.p _ c.in_ok-sent.sent c.args.journal.now c.feed.new.journal lines)

pub returns-clause-chain : goal.returns-clause-chain
returns-clause-chain g c = chain_of_sound _ _ c.in_ok-sent.ensures.sound

pub returns-clause-one_empty : goal.returns-clause-one_empty
returns-clause-one_empty g c =
    let chain = rw (← c.self.view_is) at c.requires.chain in
    let full = rw (← c.self.view_is) at c.requires.full in
    let after = ap (λ x. x.deletions) c.in_ok-sent.ensures.after in
    subst OneEmptyAtMost (sym after) (one_fed (live_of c.self.inside.lowest) (deletions_of c.self.inside.lowest) c.args.p c.args.new chain.apart full)
