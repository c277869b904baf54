use Rattle.in_chain.specs.Chains.{Chained}
use Rattle.in_chain.proofs.FilterLemmas.{sweeps_nothing, sweeps_on_below, sweeps_quietly_below}
use Rattle.in_chain.proofs.chain.Chain.sweep.Goals as goal
use Rattle.in_chain.proofs.chain.Chain.sweep.Goals.{in-Nothing, in-Quiet, in-Sent+in_ok-push_sent-in-Sent}

pub returns-clause-taken : goal.returns-clause-taken
returns-clause-taken g c =
    let old : Chained = record { incoming = record { number = c.self.inside.number; tables = c.self.inside.stages }; me = c.self.inside.me; peer = c.self.inside.peer; filter = c.self.inside.filter } in
    let i = c.unit.new.self in
    rw (← c.self.view_is)
    (elim c.match-branch-2.branch [
      | in-Nothing w ↦
          let taken = rw w.in-Nothing.is at c.in_ok-unit.ensures.taken in
          rw (w.result-is, w.journal-is) (sweeps_nothing old i c.args.session c.args.journal.now c.unit.new.journal taken)
      | in-Quiet w ↦
          let taken = rw w.in-Quiet.is at c.in_ok-unit.ensures.taken in
          rw (w.result-is, w.journal-is) (sweeps_quietly_below old i c.args.session c.args.journal.now c.unit.new.journal taken)
      | in-Sent+in_ok-push_sent-in-Sent w ↦
          let taken = rw w.in-Sent.is at c.in_ok-unit.ensures.taken in
          rw (w.result-is, w.journal-is, w.taken.ensures)
          (sweeps_on_below old i c.args.session w.in-Sent.change w.take_in-sent.result c.args.journal.now c.unit.new.journal w.push_sent.new.self taken w.take_in-sent.ensures w.in_ok-push_sent-in-Sent.ensures)
    ])
