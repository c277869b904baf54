use Rattle.std.proofs.Common.{◌∙◌, sym, subst}
use Rattle.peer_side.specs.Steps.{EditsInward}
use Rattle.peer_side.proofs.PutLemmas.{read_at, lent_none, lent_put}
use Rattle.peer_side.proofs.StepLemmas.{edited_inward}
use Rattle.peer_side.proofs.peers.Peers.edit.Goals as goal

pub unreachable-requires : goal.unreachable-requires
unreachable-requires g c = lent_none c.self.inside.chains c.args.self.now c.args.number c.self.view_is c.in_default.ensures.value c.requires.there

pub returns : goal.returns
returns g c =
    let m = c.self.inside.chains in
    let a = c.args.self.now in
    let k = c.args.number in
    let at = sym (c.in-Some.ensures.value ∙ read_at m a k c.self.view_is) in
    subst (EditsInward k c.args.rules a) (sym (lent_put m (c.get_mut.follows.lender c.edit.new.self) a k c.in-Some.chain.now c.edit.new.self c.self.view_is c.in-Some.ensures.value (c.get_mut.follows.holds c.edit.new.self)))
    (edited_inward a k c.in-Some.chain.now at c.requires.sound c.args.rules c.edit.new.self c.edit.ensures.after c.edit.ensures.rows c.edit.ensures.links)
