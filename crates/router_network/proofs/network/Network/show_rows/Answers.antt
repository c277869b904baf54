use Rattle.router_moments.proofs.Common.{sym, subst, ℕ, on_ok_weaker, key_of, router_links}
use Rattle.std.proofs.Common.{Some}
use Rattle.router_network.proofs.ShownRows.{AreGiven, none_given, one_given, rows_end}
use Rattle.router_network.proofs.network.Network.show_rows.Goals as goal

pub rows-init : goal.rows-init
rows-init g c = record { placed = tt; given = none_given c.args.link (router_links c.args.self.now c.args.link) c.args.journal.now }

pub rows-preserved : goal.rows-preserved
rows-preserved g c =
    let link = router_links c.args.self.now c.args.link in
    let p = c.in-Some.p in
    record {
      placed = (c.known.ensures.masked.0, c.known.ensures.fits);
      given =
          subst (λ (n : ℕ). AreGiven c.args.link link (Some p) n c.args.journal.now c.show_row.new.journal) (sym c.in_ok-count.ensures)
          (one_given (router_links c.args.self.now) c.args.link (key_of c.rows.place) p c.rows.count c.in_ok-shown.shown c.args.journal.now c.rows.journal c.show_row.new.journal
          c.in-Some.ensures c.in_ok-shown.ensures.shows c.rows.invariant.given);
    }

pub returns : goal.returns
returns g c =
    on_ok_weaker c.push_line.result
    (λ last. rows_end c.args.link (router_links c.args.self.now c.args.link) (key_of c.rows.place) c.rows.count c.args.journal.now c.rows.journal c.push_line.new.self
    c.count_known.ensures c.requires.live c.in_default.ensures c.rows.invariant.given last)
    c.push_line.ensures
