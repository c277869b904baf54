use Rattle.std.proofs.Common.{◌∙◌, sym, ap, subst, is_some}
use Rattle.journal_text.specs.Journals.{Adds}
use Rattle.peer_side.specs.Peers.{Chains}
use Rattle.peer_side.specs.Steps.{LosesInward}
use Rattle.peer_side.proofs.PutLemmas.{read_at, lent_none, lent_put}
use Rattle.peer_side.proofs.StepLemmas.{may_lose_here, lost_adds}
use Rattle.peer_side.proofs.peers.Peers.lose.Goals as goal

pub unreachable-requires : goal.unreachable-requires
unreachable-requires g c = lent_none c.self.inside.chains c.args.self.now c.args.number c.self.view_is c.in_default.ensures.value (ap is_some c.requires.may.at)

pub lose-requires-clause-chain : goal.lose-requires-clause-chain
lose-requires-clause-chain g c = (c.requires.sound c.args.number c.in-Some.chain.now (sym (c.in-Some.ensures.value ∙ read_at c.self.inside.chains c.args.self.now c.args.number c.self.view_is))).chain

pub lose-requires-clause-full : goal.lose-requires-clause-full
lose-requires-clause-full g c = (c.requires.sound c.args.number c.in-Some.chain.now (sym (c.in-Some.ensures.value ∙ read_at c.self.inside.chains c.args.self.now c.args.number c.self.view_is))).full

pub lose-requires-clause-room : goal.lose-requires-clause-room
lose-requires-clause-room g c =
    (may_lose_here c.args.number c.args.session c.args.self.now c.in-Some.chain.now c.requires.may (sym (c.in-Some.ensures.value ∙ read_at c.self.inside.chains c.args.self.now c.args.number c.self.view_is))).0

pub lose-requires-clause-later : goal.lose-requires-clause-later
lose-requires-clause-later g c =
    (may_lose_here c.args.number c.args.session c.args.self.now c.in-Some.chain.now c.requires.may (sym (c.in-Some.ensures.value ∙ read_at c.self.inside.chains c.args.self.now c.args.number c.self.view_is))).1

pub returns : goal.returns
returns g c =
    let m = c.self.inside.chains in
    let a = c.args.self.now in
    let k = c.args.number in
    let old = c.in-Some.chain.now in
    let new = c.lose.new.self in
    let at = sym (c.in-Some.ensures.value ∙ read_at m a k c.self.view_is) in
    let may = may_lose_here k c.args.session a old c.requires.may at in
    subst (λ (x : Chains). Adds (LosesInward k c.args.session a x) c.args.journal.now c.lose.new.journal)
    (sym (lent_put m (c.get_mut.follows.lender new) a k old new c.self.view_is c.in-Some.ensures.value (c.get_mut.follows.holds new)))
    (lost_adds a k old at c.requires.sound c.args.session new c.args.journal.now c.lose.new.journal may.0 may.1 c.in_ok-lose.ensures.after c.in_ok-lose.ensures.lines c.in_ok-lose.ensures.leads c.in_ok-lose.ensures.rows
    c.in_ok-lose.ensures.chain c.in_ok-lose.ensures.full)
