use Rattle.std.proofs.Common.{refl, sym, subst}
use Rattle.std.proofs.lemmas.Result.{on_ok_weaker}
use Rattle.exit_side.specs.Exits.{Exited, IsExits}
use Rattle.exit_side.proofs.HeldLemmas.{seen}
use Rattle.exit_side.proofs.PutLemmas.{puts_for}
use Rattle.exit_side.proofs.exits.Exits.put.Goals as goal

pub returns-clause-put : goal.returns-clause-put
returns-clause-put g c =
    let v : Exited = seen c.self.inside.profile c.self.inside.queue c.self.inside.chains in
    on_ok_weaker c.put.result
    (λ appends.
    puts_for v c.put.new.self (subst IsExits (sym c.self.view_is) c.requires.sound) c.a_session_stands.ensures.put c.args.change appends c.args.self.now _ c.self.view_is refl)
    c.put.ensures.ok
