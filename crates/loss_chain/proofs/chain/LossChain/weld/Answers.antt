use Rattle.std.proofs.Common.{ap, sym, subst, ◌∙◌}
use Rattle.loss_chain.specs.Tables.{NoneEmpty}
use Rattle.loss_chain.specs.Stages.{tables_of, deletions_of}
use Rattle.loss_chain.proofs.WorkLemmas.{none_welded, welded_once}
use Rattle.loss_chain.proofs.WholeLemmas.{chain_of_sound, leads_chain, sound_of_chain}
use Rattle.loss_chain.proofs.chain.LossChain.weld.Goals as goal

pub weld-requires : goal.weld-requires
weld-requires g c = rw c.lowest-link.ensures.link (record { sound = sound_of_chain c.args.owner (tables_of c.self.inside.lowest) (rw (← c.self.view_is) at c.requires.chain) })

pub returns-clause-after : goal.returns-clause-after
returns-clause-after g c =
    let one = rw (← c.self.view_is) at c.requires.one_empty in
    rw (← c.self.view_is) (c.in_ok-weld.ensures.after ∙ welded_once (tables_of c.self.inside.lowest) one)

pub returns-clause-lines : goal.returns-clause-lines
returns-clause-lines g c = rw (← c.self.view_is) (rw c.lowest-link.ensures.link at c.in_ok-weld.ensures.lines)

pub returns-clause-leads : goal.returns-clause-leads
returns-clause-leads g c =
    let leads = rw c.lowest-link.ensures.link at c.in_ok-weld.ensures.leads in
    rw (← c.self.view_is) (leads_chain g.R.Valued.value c.args.owner (tables_of c.self.inside.lowest) (tables_of c.weld.new.self) _ leads)

pub returns-clause-chain : goal.returns-clause-chain
returns-clause-chain g c = chain_of_sound _ _ c.in_ok-weld.ensures.sound

pub returns-clause-full : goal.returns-clause-full
returns-clause-full g c =
    let one = rw (← c.self.view_is) at c.requires.one_empty in
    let after = ap (λ x. x.deletions) (c.in_ok-weld.ensures.after ∙ welded_once (tables_of c.self.inside.lowest) one) in
    subst NoneEmpty (sym after) (none_welded (deletions_of c.self.inside.lowest))
