use Rattle.router_moments.proofs.Common.{sym, subst, Moment, HaveReaders}
use Rattle.router_moments.specs.Moments.{first_moment}
use Rattle.router_moments.specs.Stands.{CoreStands}
use Rattle.router_moments.proofs.CoreLemmas.{cored, first_stands, readers_of}
use Rattle.router_network.specs.Informed.{Informed}
use Rattle.router_network.proofs.KnownRows.{first_informed}
use Rattle.router_core.proofs.router.Core.new.Goals as goal

pub returns-clause-stands : goal.returns-clause-stands
returns-clause-stands g c = subst (λ (m : Moment). CoreStands (cored m 0)) (sym c.new.ensures) (first_stands g.F.Family.V6 c.a_new_tree_stands.ensures)

pub invariant_of-result : goal.invariant_of-result
invariant_of-result g c = λ _. (subst HaveReaders (sym c.new.ensures) (readers_of (first_moment g.F.Family.V6) (first_stands g.F.Family.V6 c.a_new_tree_stands.ensures).stands), subst (Informed _) (sym c.new.ensures) (first_informed g.F.Family.V6 _ c.new-2.ensures.known c.new-2.ensures.counts))
