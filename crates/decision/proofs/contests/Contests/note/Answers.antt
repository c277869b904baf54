use Rattle.std.proofs.Common.{true, subst}
use Rattle.std.proofs.lemmas.Result.{on_ok_weaker}
use Rattle.decision.specs.Contests.{Moves, HasMove, IsNoted}
use Rattle.decision.proofs.contests.Contests.note.Goals as goal

pub come-requires : goal.come-requires
come-requires g c = subst (λ b. HasMove c.args.prefix b c.args.self.now) c.if-comes.true c.requires

pub returns-then-comes-clause-counts : goal.returns-then-comes-clause-counts
returns-then-comes-clause-counts g c =
    on_ok_weaker c.come.result (λ (noted : IsNoted c.args.prefix true c.args.self.now c.come.new.self) branch before now moves counts.
    noted.counts branch before now (subst (λ b. Moves branch c.args.prefix b before now) c.if-comes.true moves) counts)
    c.come.ensures

pub go-requires : goal.go-requires
go-requires g c = subst (λ b. HasMove c.args.prefix b c.args.self.now) c.if-comes.false c.requires

pub returns-clause-counts : goal.returns-clause-counts
returns-clause-counts g c = λ branch before now moves counts.
    c.go.ensures.counts branch before now (subst (λ b. Moves branch c.args.prefix b before now) c.if-comes.false moves) counts
