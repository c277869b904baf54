use Rattle.router_moments.proofs.Common.{sym, ◌∙◌, ap, ℕ, Moment}
use Rattle.exit_side.specs.Exits.{chain_at as exit_at}
use Rattle.router_moments.proofs.SessionLemmas.{number_at}
use Rattle.router_network.proofs.network.Network.begin_exit.Goals as goal

pub begin-requires-clause-absent : goal.begin-requires-clause-absent
begin-requires-clause-absent g c =
    ap (λ (n : ℕ). exit_at n c.self.inside.readers.exits) (number_at c.args.number c.self.inside.above.declared.peers c.in-Some-peer.peer (sym c.in-Some-peer.ensures)) ∙ ap (λ (x : Moment). exit_at c.args.number x.exits) c.self.view_is ∙ c.requires.absent
