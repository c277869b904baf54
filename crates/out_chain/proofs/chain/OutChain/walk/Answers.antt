use Rattle.out_chain.proofs.PassLemmas.{walked_may_be_said, walks_some, walks_none}
use Rattle.out_chain.proofs.chain.OutChain.walk.Goals as goal
use Rattle.out_chain.proofs.chain.OutChain.walk.Goals.{in-Sent+in_ok-send, in_default}

pub send-requires : goal.send-requires
send-requires g c =
    walked_may_be_said c.args.self.now _ c.self.view_is c.unit.new.self (g.U.Upstream.candidates c.args.best.now) (g.U.Upstream.rows c.args.best.now) c.in_ok-turn.turn c.in_ok-turn.ensures.taken
    c.in-Sent.change c.in-Sent.is c.requires.chain c.requires.heard

pub returns : goal.returns
returns g c = elim c.match-turn.branch [
  | in-Sent+in_ok-send w ↦
      rw (w.self-is, w.journal-is)
      (walks_some c.args.self.now _ c.self.view_is c.unit.new.self (g.U.Upstream.candidates c.args.best.now) (g.U.Upstream.rows c.args.best.now) c.in_ok-turn.turn c.in_ok-turn.ensures.taken
      w.send.new.self w.in-Sent.change c.args.journal.now w.send.new.journal w.in-Sent.is w.in_ok-send.ensures.after w.in_ok-send.ensures.lines w.in_ok-send.ensures.told)
  | in_default w ↦
      rw (w.self-is, w.journal-is)
      (walks_none c.args.self.now _ c.self.view_is c.unit.new.self (g.U.Upstream.candidates c.args.best.now) (g.U.Upstream.rows c.args.best.now) c.in_ok-turn.turn c.in_ok-turn.ensures.taken
      c.args.journal.now w.in_default.not-Sent)
]
