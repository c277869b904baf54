use Rattle.std.proofs.Common.{sym, subst, None, ◌≡◌}
use Rattle.exit_side.specs.Exits.{Exited, IsExits, chain_at}
use Rattle.exit_side.proofs.HeldLemmas.{held_put, seen}
use Rattle.exit_side.proofs.StepLemmas.{begins_for}
use Rattle.exit_side.proofs.exits.Exits.begin.Goals as goal

pub returns : goal.returns
returns g c =
    let v : Exited = seen c.self.inside.profile c.self.inside.queue c.self.inside.chains in
    let chain = c.in_ok-chain.chain in
    begins_for c.a_session_stands.ensures.others v c.args.me.now c.args.peer.now c.args.session c.args.rules chain c.start.new.queue (subst IsExits (sym c.self.view_is) c.requires.sound)
    (subst (λ (e : Exited). chain_at c.args.peer.now.number e ≡ None) (sym c.self.view_is) c.requires.absent)
    c.in_ok-chain.ensures.fresh c.in_ok-chain.ensures.least c.in_ok-chain.ensures.after c.in_ok-chain.ensures.joined c.in_ok-chain.ensures.others c.in_ok-chain.ensures.leads c.in_ok-chain.ensures.stands
    c.args.self.now _ c.args.journal.now c.start.new.journal c.self.view_is
    (held_put c.self.inside.profile c.self.inside.queue c.start.new.queue c.self.inside.chains c.insert.new.self c.from.result c.args.peer.now.number chain c.in_ok-insert.ensures.updates c.from.ensures)
    c.in_ok-chain.ensures.lines
