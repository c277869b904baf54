use Rattle.std.proofs.Common.{sym, subst}
use Rattle.std.specs.Option.{ForSome}
use Rattle.peer_out.specs.Forms.{Exit}
use Rattle.peer_out.specs.Changes.{IsSentOf}
use Rattle.peer_out.proofs.peer.PeerOut.message.Goals as goal

pub message-requires-clause-sent : goal.message-requires-clause-sent
message-requires-clause-sent g c =
    let P : Exit → Type 0 = λ exit. ForSome c.args.change.now.after (IsSentOf exit.profile exit.external c.args.change.now.prefix) in
    subst P (sym c.self.view_is) c.requires
