use Rattle.router_moments.proofs.Common.{subst, ◌≡◌, ℕ, filt_by, filt_rows, resolver_at, rows_by, Chained}
use Rattle.std.proofs.Common.{Option, IfOk}
use Rattle.router_network.proofs.above.Above.resolved.Goals as goal

pub returns : goal.returns
returns g c =
    let l = c.args.self.now in
    subst (λ (o : Option Chained). IfOk c.asked.result (λ row. row ≡ rows_by (resolver_at c.args.branch l.hops) (filt_by o) c.args.p.now)) c.in-Some.ensures
    (subst (λ (n : ℕ). IfOk c.asked.result (λ row. row ≡ rows_by (resolver_at n l.hops) (filt_rows c.in-Some.chain.now) c.args.p.now)) c.from.ensures c.asked.ensures)
