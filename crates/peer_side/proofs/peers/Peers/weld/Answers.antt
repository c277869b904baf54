use Rattle.std.proofs.Common.{◌∙◌, sym, subst}
use Rattle.journal_text.specs.Journals.{Adds}
use Rattle.peer_side.specs.Peers.{Chains}
use Rattle.peer_side.specs.Steps.{WeldsInward}
use Rattle.peer_side.proofs.PutLemmas.{read_at, lent_none, lent_put}
use Rattle.peer_side.proofs.StepLemmas.{weld_adds}
use Rattle.peer_side.proofs.peers.Peers.weld.Goals as goal

pub unreachable-requires : goal.unreachable-requires
unreachable-requires g c = lent_none c.self.inside.chains c.args.self.now c.args.number c.self.view_is c.in_default.ensures.value c.requires.there

pub weld-requires-clause-chain : goal.weld-requires-clause-chain
weld-requires-clause-chain g c = (c.requires.sound.own c.in-Some.fallen.now (sym (c.in-Some.ensures.value ∙ read_at c.self.inside.chains c.args.self.now c.args.number c.self.view_is))).chain

pub weld-requires-clause-one_empty : goal.weld-requires-clause-one_empty
weld-requires-clause-one_empty g c = (c.requires.sound.own c.in-Some.fallen.now (sym (c.in-Some.ensures.value ∙ read_at c.self.inside.chains c.args.self.now c.args.number c.self.view_is))).one_empty

pub returns : goal.returns
returns g c =
    let m = c.self.inside.chains in
    let a = c.args.self.now in
    let k = c.args.number in
    let old = c.in-Some.fallen.now in
    let new = c.weld.new.self in
    let at = sym (c.in-Some.ensures.value ∙ read_at m a k c.self.view_is) in
    subst (λ (x : Chains). Adds (WeldsInward k a x) c.args.journal.now c.weld.new.journal)
    (sym (lent_put m (c.get_mut.follows.lender new) a k old new c.self.view_is c.in-Some.ensures.value (c.get_mut.follows.holds new)))
    (weld_adds k a old new c.args.journal.now c.weld.new.journal at c.requires.sound c.in_ok-weld.ensures.after c.in_ok-weld.ensures.lines c.in_ok-weld.ensures.leads c.in_ok-weld.ensures.rows c.in_ok-weld.ensures.chain c.in_ok-weld.ensures.full)
