use Rattle.router_moments.proofs.Common.{sym, ◌∙◌, ap, true, false}
use Rattle.std.proofs.Common.{append-nil}
use Rattle.live_state.proofs.UpdateLemmas.{set_has, one_more}
use Rattle.router_core.proofs.updates.push_withdrawn.Goals as goal
use Rattle.router_core.proofs.updates.push_withdrawn.Goals.{then-not-contains+in_ok-push, else-not-contains}

pub loop-prefix-preserved : goal.loop-prefix-preserved
loop-prefix-preserved g c =
    let p = c.prefix-item.result in
    let has = sym (set_has c.args.announced.now c.in_ok-staying.staying p c.in_ok-staying.ensures) ∙ sym c.contains.ensures in
    let more = one_more c.args.announced.now c.args.withdrawn.now c.loop-prefix.prefix-index p in
    elim c.if-not-contains.branch [
      | then-not-contains+in_ok-push w ↦
          ap (λ v. v.items) w.all-is ∙ w.in_ok-push.ensures.items
          ∙ more false c.args.all.now.items c.loop-prefix.all.items c.loop-prefix-test.true c.prefix-item.is (has ∙ w.if-not-contains.true) c.loop-prefix.invariant
      | else-not-contains w ↦
          ap (λ v. v.items) w.all-is ∙ sym (append-nil c.loop-prefix.all.items)
          ∙ more true c.args.all.now.items c.loop-prefix.all.items c.loop-prefix-test.true c.prefix-item.is (has ∙ w.if-not-contains.false) c.loop-prefix.invariant
    ]
