use Rattle.router_moments.proofs.Common.{sym, ◌∙◌, on_ok_weaker, router_links}
use Rattle.router_network.proofs.ShownRows.{not_shown}
use Rattle.router_network.proofs.network.Network.show.Goals as goal

pub returns-then-not-live : goal.returns-then-not-live
returns-then-not-live g c =
    on_ok_weaker c.push_line.result
    (λ last. not_shown c.args.link (router_links c.args.self.now c.args.link) c.args.journal.now c.push_line.new.self (sym c.live.ensures ∙ c.if-not-live.true) last)
    c.push_line.ensures
