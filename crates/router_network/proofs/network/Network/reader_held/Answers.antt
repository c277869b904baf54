use Rattle.router_moments.proofs.Common.{sym, ◌∙◌, ap, option_copied}
use Rattle.router_moments.proofs.ExitTurns.{reader_is}
use Rattle.router_network.proofs.network.Network.reader_held.Goals as goal

pub unread-requires : goal.unread-requires
unread-requires g c = reader_is c.args.self.now _ c.self.view_is c.requires c.in_ok-reader.reader.now (sym c.as_ref.ensures.value ∙ ap option_copied c.in_ok-reader.was)
