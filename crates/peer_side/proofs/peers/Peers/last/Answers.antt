use Rattle.std.proofs.Common.{◌≡◌, true, false, is_some, sym, ap, ◌∙◌}
use Rattle.peer_side.proofs.PutLemmas.{read_at, none_beyond, none_in_empty}
use Rattle.peer_side.proofs.peers.Peers.last.Goals as goal

pub returns-in-Some-clause-beyond : goal.returns-in-Some-clause-beyond
returns-in-Some-clause-beyond g c k high = none_beyond c.self.inside.chains c.args.self.now c.in-Some.number.now k c.self.view_is c.in-Some.ensures.greatest high

pub returns-in-Some-clause-there : goal.returns-in-Some-clause-there
returns-in-Some-clause-there g c some =
    ap is_some (sym (read_at c.self.inside.chains c.args.self.now c.in-Some.number.now c.self.view_is) ∙ c.in-Some.ensures.value)

pub returns-in-None-clause-beyond : goal.returns-in-None-clause-beyond
returns-in-None-clause-beyond g c k high =
    none_in_empty c.self.inside.chains c.args.self.now k c.self.view_is (λ some. absurd (let clash : false ≡ true = c.in-None.ensures.variant.1 some in cc))
