use Rattle.router_moments.proofs.Common.{sym, subst, ℕ, key_of, router_links}
use Rattle.std.proofs.Common.{Some}
use Rattle.router_network.proofs.ShownRows.{IsCounted, none_counted, one_counted, all_counted}
use Rattle.router_network.proofs.network.Network.count_rows.Goals as goal

pub rows-init : goal.rows-init
rows-init g c = record { placed = tt; shown = none_counted (router_links c.args.self.now c.args.link) }

pub rows-preserved : goal.rows-preserved
rows-preserved g c =
    let link = router_links c.args.self.now c.args.link in
    let p = c.in-Some.p in
    record {
      placed = (c.known.ensures.masked.0, c.known.ensures.fits);
      shown =
          subst (λ (n : ℕ). IsCounted link (Some p) n) (sym c.in_ok-count.ensures)
          (one_counted (router_links c.args.self.now) c.args.link (key_of c.rows.place) p c.rows.count c.in_ok-held.held c.in-Some.ensures c.in_ok-held.ensures.counts c.rows.invariant.shown);
    }

pub returns : goal.returns
returns g c = all_counted (router_links c.args.self.now c.args.link) (key_of c.rows.place) c.rows.count c.requires.live c.in_default.ensures c.rows.invariant.shown
