use Rattle.std.proofs.Common.{◌∙◌, sym, subst}
use Rattle.journal_text.specs.Journals.{Adds}
use Rattle.peer_side.specs.Peers.{Chains}
use Rattle.peer_side.specs.Steps.{FeedsInward}
use Rattle.peer_side.proofs.PutLemmas.{read_at, lent_none, lent_put}
use Rattle.peer_side.proofs.StepLemmas.{fed_adds}
use Rattle.peer_side.proofs.peers.Peers.feed.Goals as goal

pub unreachable-requires : goal.unreachable-requires
unreachable-requires g c = lent_none c.self.inside.chains c.args.self.now c.args.number c.self.view_is c.in_default.ensures.value c.requires.there

pub feed-requires-clause-chain : goal.feed-requires-clause-chain
feed-requires-clause-chain g c = (c.requires.sound c.args.number c.in-Some.chain.now (sym (c.in-Some.ensures.value ∙ read_at c.self.inside.chains c.args.self.now c.args.number c.self.view_is))).chain

pub feed-requires-clause-full : goal.feed-requires-clause-full
feed-requires-clause-full g c = (c.requires.sound c.args.number c.in-Some.chain.now (sym (c.in-Some.ensures.value ∙ read_at c.self.inside.chains c.args.self.now c.args.number c.self.view_is))).full

pub returns : goal.returns
returns g c =
    let m = c.self.inside.chains in
    let a = c.args.self.now in
    let k = c.args.number in
    let old = c.in-Some.chain.now in
    let new = c.feed.new.self in
    let at = sym (c.in-Some.ensures.value ∙ read_at m a k c.self.view_is) in
    let put = lent_put m (c.get_mut.follows.lender new) a k old new c.self.view_is c.in-Some.ensures.value (c.get_mut.follows.holds new) in
    subst (λ (x : Chains). Adds (FeedsInward k c.args.prefix c.args.row c.in_ok-sent.sent a x) c.args.journal.now c.feed.new.journal) (sym put)
    (fed_adds a k old at c.requires.sound c.args.prefix c.args.row c.in_ok-sent.sent new c.args.journal.now c.feed.new.journal c.in_ok-sent.ensures.sent c.in_ok-sent.ensures.after c.in_ok-sent.ensures.lines
    c.in_ok-sent.ensures.chain c.in_ok-sent.ensures.one_empty)
