use Rattle.out_chain.proofs.PassLemmas.{passed_may_be_said, passes_none, passes_some}
use Rattle.out_chain.proofs.chain.OutChain.pass_on.Goals as goal
use Rattle.out_chain.proofs.chain.OutChain.pass_on.Goals.{in-Some+in_ok-send, in_default}

pub send-requires : goal.send-requires
send-requires g c =
    passed_may_be_said c.args.self.now _ c.self.view_is c.args.change c.in_ok-sent.sent c.in_ok-sent.ensures c.in-Some.sent c.in-Some.is c.requires.chain c.requires.differs c.requires.heard

pub returns : goal.returns
returns g c =
    let pushed = rw c.from.ensures at c.in_ok-push_change.ensures in
    elim c.match-sent.branch [
      | in-Some+in_ok-send w ↦
          rw (w.self-is, w.journal-is)
          (passes_some c.args.self.now _ c.self.view_is c.args.change c.in_ok-sent.sent c.in_ok-sent.ensures w.send.new.self w.in-Some.sent c.args.journal.now c.push_change.new.self w.send.new.journal
          w.in-Some.is pushed w.in_ok-send.ensures.after w.in_ok-send.ensures.lines w.in_ok-send.ensures.told)
      | in_default w ↦
          rw (w.self-is, w.journal-is)
          (passes_none c.args.self.now _ c.self.view_is c.args.change c.in_ok-sent.sent c.in_ok-sent.ensures c.args.journal.now c.push_change.new.self w.in_default.not-Some pushed)
    ]
