use Rattle.router_moments.proofs.Common.{sym, subst, ◌≡◌}
use Rattle.std.proofs.Common.{Result, Err, OnOk}
use Rattle.rib_exit.proofs.LawLemmas.{on_ok}
use Rattle.router_moments.proofs.ExitTurns.{forwarded}
use Rattle.router_network.proofs.network.Network.forward.Goals as goal
use Rattle.router_network.proofs.network.Network.forward.Goals.{in-Ok, in-Err}

none_on_err : {X E : Type 0} (r : Result X E) (e : E) (P : Type 0) → r ≡ Err e → OnOk r P
none_on_err r e P is = subst (λ s. OnOk s P) (sym is) tt

pub returns : goal.returns
returns g c =
    elim c.match-take_external.branch [
      | in-Ok w ↦
          on_ok c.match-take_external.result _
          (forwarded c.args.change.now c.args.self.now _ c.take_external.new.register c.take_external.new.self _ c.args.journal.now c.push_change.new.self c.take_external.new.journal c.self.view_is c.in_ok-push_change.ensures w.in-Ok.ensures.taken)
      | in-Err w ↦ none_on_err c.match-take_external.result _ _ w.result-is
    ]
