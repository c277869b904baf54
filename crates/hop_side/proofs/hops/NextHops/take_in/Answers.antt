use Rattle.std.proofs.Common.{ℕ, ◌∙◌, sym, subst}
use Rattle.journal_text.specs.Journals.{Adds}
use Rattle.nexthop_resolver.specs.Registered.{KeepsOthers}
use Rattle.hop_side.specs.Resolvers.{Resolvers}
use Rattle.hop_side.specs.Steps.{TakesBelow}
use Rattle.hop_side.proofs.PutLemmas.{read_at, lent_none, lent_put}
use Rattle.hop_side.proofs.StepLemmas.{on_err, took}
use Rattle.hop_side.proofs.hops.NextHops.take_in.Goals as goal

pub unreachable-requires : goal.unreachable-requires
unreachable-requires g c = lent_none c.self.inside.resolvers c.args.self.now c.args.number c.self.view_is c.in_default.ensures.value c.requires.there

pub take_in-requires : goal.take_in-requires
take_in-requires g c = record { agrees = c.requires.agree c.args.number c.in-Some.resolver.now (sym (c.in-Some.ensures.value ∙ read_at c.self.inside.resolvers c.args.self.now c.args.number c.self.view_is)) }

pub returns-in_err-sent-clause-memory : goal.returns-in_err-sent-clause-memory
returns-in_err-sent-clause-memory g c =
    let at = sym (c.in-Some.ensures.value ∙ read_at c.self.inside.resolvers c.args.self.now c.args.number c.self.view_is) in
    on_err c.from_residual.result _ (subst (λ (n : ℕ). KeepsOthers n c.args.register.now c.take_in.new.register) (c.requires.sound c.args.number c.in-Some.resolver.now at).client c.take_in.ensures.others)

pub returns-in_err-push_sent-clause-memory : goal.returns-in_err-push_sent-clause-memory
returns-in_err-push_sent-clause-memory g c =
    let at = sym (c.in-Some.ensures.value ∙ read_at c.self.inside.resolvers c.args.self.now c.args.number c.self.view_is) in
    on_err c.from_residual-in_err-push_sent.result _ (subst (λ (n : ℕ). KeepsOthers n c.args.register.now c.take_in.new.register) (c.requires.sound c.args.number c.in-Some.resolver.now at).client c.take_in.ensures.others)

pub returns-clause-taken : goal.returns-clause-taken
returns-clause-taken g c =
    let m = c.self.inside.resolvers in
    let a = c.args.self.now in
    let k = c.args.number in
    let s = c.in-Some.resolver.now in
    let s' = c.take_in.new.self in
    let at = sym (c.in-Some.ensures.value ∙ read_at m a k c.self.view_is) in
    subst (λ (x : Resolvers). Adds (TakesBelow k c.args.change c.in_ok-sent.sent c.args.register.now c.take_in.new.register a x) c.args.journal.now c.push_sent.new.self)
    (sym (lent_put m (c.get_mut.follows.lender s') a k s s' c.self.view_is c.in-Some.ensures.value (c.get_mut.follows.holds s')))
    (took a k s s' at c.requires.sound c.args.change c.in_ok-sent.sent c.args.register.now c.take_in.new.register c.args.journal.now c.push_sent.new.self c.requires.agree
    c.in_ok-sent.ensures.taken c.in_ok-sent.ensures.keeps c.are_named.ensures c.take_in.ensures.agrees c.take_in.ensures.others c.known.ensures c.in_ok-push_sent.ensures)
