use Rattle.router_moments.proofs.Common.{sym, subst, on_ok_weaker, Adds, Moment, HaveReaders}
use Rattle.std.proofs.Common.{Some}
use Rattle.router_moments.specs.Works.{Follows}
use Rattle.rib_exit.proofs.LawLemmas.{on_ok}
use Rattle.router_moments.proofs.RouteLemmas.{followed}
use Rattle.router_network.specs.Informed.{Informed}
use Rattle.router_network.proofs.IntReads.{int_readers}
use Rattle.router_network.proofs.KnownRows.{over_told}
use Rattle.router_network.proofs.network.Network.pass_on.Goals as goal

pub redistribute-requires-clause-known : goal.redistribute-requires-clause-known
redistribute-requires-clause-known g c = over_told c.args.change.now c.args.contests.now c.args.self.now c.inform.new.self c.requires.informed c.in_ok-inform.ensures

pub take_interior-requires-clause-readers : goal.take_interior-requires-clause-readers
take_interior-requires-clause-readers g c =
    let own = c.in_ok-redistribute.ensures.redistributes in
    subst HaveReaders (sym c.prepare.ensures) (int_readers c.args.change.now c.args.contests.now c.args.self.now c.inform.new.self c.redistribute.new.self own.0 c.requires.informed c.in_ok-inform.ensures own.2 c.requires.follow.exits)

pub take_interior-requires-clause-informed : goal.take_interior-requires-clause-informed
take_interior-requires-clause-informed g c = subst (Informed c.redistribute.new.contests) (sym c.prepare.ensures) c.in_ok-redistribute.ensures.informed

pub returns-clause-follows : goal.returns-clause-follows
returns-clause-follows g c =
    on_ok_weaker c.take_interior.result
    (λ taken. subst (λ (n : Moment). Adds (Follows (Some c.args.change.now) c.args.self.now n) c.args.journal.now c.take_interior.new.journal) (sym c.prepare.ensures)
    (followed c.args.change.now taken.0 c.args.self.now c.inform.new.self c.redistribute.new.self c.prepare.new.self c.args.journal.now c.redistribute.new.journal c.take_interior.new.journal c.in_ok-inform.ensures c.in_ok-redistribute.ensures.redistributes c.prepare.ensures taken.1))
    c.take_interior.ensures

pub returns-clause-informed : goal.returns-clause-informed
returns-clause-informed g c = on_ok c.take_interior.result _ (subst (Informed c.redistribute.new.contests) (sym c.prepare.ensures) c.in_ok-redistribute.ensures.informed)
