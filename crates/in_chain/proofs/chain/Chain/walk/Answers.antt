use Rattle.in_chain.specs.Chains.{Chained}
use Rattle.in_chain.proofs.FilterLemmas.{walks_nothing, walks_on, walks_quietly}
use Rattle.in_chain.proofs.chain.Chain.walk.Goals as goal
use Rattle.in_chain.proofs.chain.Chain.walk.Goals.{in-Nothing, in-Quiet, in-Sent+in_ok-push_change-in-Sent}

pub returns-clause-taken : goal.returns-clause-taken
returns-clause-taken g c =
    let old : Chained = record { incoming = record { number = c.self.inside.number; tables = c.self.inside.stages }; me = c.self.inside.me; peer = c.self.inside.peer; filter = c.self.inside.filter } in
    let f = c.unit.new.self in
    let walked = c.in_ok-unit.ensures.taken in
    rw (← c.self.view_is)
    (elim c.match-branch-2.branch [
      | in-Nothing w ↦
          let nothing = rw w.in-Nothing.is at walked in
          rw (w.result-is, w.journal-is) (walks_nothing old f c.args.journal.now nothing)
      | in-Quiet w ↦
          let quiet = rw w.in-Quiet.is at walked in
          rw (w.result-is, w.journal-is) (walks_quietly old f c.args.journal.now quiet)
      | in-Sent+in_ok-push_change-in-Sent w ↦
          let sent = rw w.in-Sent.is at walked in
          rw (w.result-is, w.journal-is) (walks_on old f w.in-Sent.change c.args.journal.now w.push_change.new.self sent w.in_ok-push_change-in-Sent.ensures)
    ])
