use Rattle.router_moments.proofs.Common.{◌≡◌, ◌∙◌, ap, arith, nat_tests, sym, int_rows, own_rows}
use Rattle.bgp_attr.specs.declared.speaker.Neighbour.{Neighbour}
use Rattle.router_network.proofs.ExternalRows.{of_peer}
use Rattle.router_network.proofs.above.AboveBranches.is_from.Goals as goal

pub returns-in-Some : goal.returns-in-Some
returns-in-Some g c =
    let l = c.args.self.now in
    λ same p r is.
    let told : c.peer.result.now.number ≡ c.args.number = grind (arith, nat_tests) in (
      c.in-Some.chain.now.peer,
      of_peer (own_rows l.declared.speaker l.redist (int_rows l.tree)) l.chains l.hops c.args.branch p c.in-Some.chain.now
          (sym c.in-Some.ensures) c.if-branch-eq0.false r is,
      sym (ap (λ (n : Neighbour). n.number) c.peer.ensures) ∙ told,
    )
