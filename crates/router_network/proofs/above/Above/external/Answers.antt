use Rattle.router_moments.proofs.Common.{sym, ap, ◌∙◌, ℕ, int_rows, own_rows, filt_rows, resolver_at, rows_by}
use Rattle.std.proofs.Common.{Some, is_some}
use Rattle.bgp_attr.specs.declared.speaker.Neighbour.{Neighbour}
use Rattle.rib_split.specs.Splitting.{external_of}
use Rattle.router_network.proofs.ExternalRows.{one_needed}
use Rattle.router_network.proofs.above.Above.external.Goals as goal

pub returns : goal.returns
returns g c =
    let l = c.args.self.now in
    let hop = c.in_ok-next_hop.next_hop in
    c.external_of.ensures ∙ ap (λ (peer : Neighbour). external_of (Some peer) hop) c.peer.ensures
    ∙ one_needed (own_rows l.declared.speaker l.redist (int_rows l.tree)) l.chains l.hops c.args.branch c.args.p.now c.in_ok-chain.chain.now hop
    (sym c.in_ok-chain.ensures) c.if-branch-eq0.false (sym c.in_ok-next_hop.ensures)
    (ap (λ (n : ℕ). is_some (rows_by (resolver_at n l.hops) (filt_rows c.in_ok-chain.chain.now) c.args.p.now)) (sym c.from.ensures)
    ∙ sym (c.has.ensures (filt_rows c.in_ok-chain.chain.now) (sym c.in_ok-next_hop.ensures)) ∙ c.if-not-has.false)
