use Rattle.router_moments.proofs.Common.{subst, width, Moment}
use Rattle.std.specs.FinMap as tables
use Rattle.register_interest.specs.Covers.{IsCover}
use Rattle.register_interest.specs.Matches.{lent_match}
use Rattle.router_network.proofs.StepLemmas.{covered}
use Rattle.router_network.proofs.network.Network.cover.Goals as goal

pub returns : goal.returns
returns g c =
    covered c.args.self.now c.args.address (lent_match c.peek-found.result.0) c.peek-found.result.1 c.prefix_of.result c.args.journal.now c.push_line.new.self c.flush.new.self c.requires
    (subst (λ (m : Moment). IsCover width (tables.get m.registry.rows) c.args.address (lent_match c.peek-found.result.0) c.peek-found.result.1) c.self.view_is c.peek-found.ensures)
    c.prefix_of.ensures c.in_ok-push_line.ensures c.in_ok-flush.ensures.ok
