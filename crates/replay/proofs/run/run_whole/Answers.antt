use Rattle.std.proofs.Common.{arith}
use Rattle.replay.proofs.GeneratedLemmas.{plain_whole, plain_front, totalled_whole, untotalled, totalled_front, front_of_run}
use Rattle.replay.proofs.run.run_whole.Goals as goal

pub returns-then-not-totalled-clause-ok : goal.returns-then-not-totalled-clause-ok
returns-then-not-totalled-clause-ok g c = λ is. plain_whole c.args.totalled c.args.journal.now.quiet _ _ _ _ _ c.if-not-totalled.true (c.run_stream-status.ensures.ok is)

pub returns-then-not-totalled-clause-front : goal.returns-then-not-totalled-clause-front
returns-then-not-totalled-clause-front g c = λ is. plain_front c.args.totalled c.args.journal.now.quiet _ _ _ c.if-not-totalled.true (c.run_stream-status.ensures.front is)

pub returns-in-Ok-clause-ok : goal.returns-in-Ok-clause-ok
returns-in-Ok-clause-ok g c = λ is. totalled_whole c.args.totalled c.args.journal.now.quiet _ _ _ _ _ _ c.if-not-totalled.false (c.run_stream-status.ensures.ok c.in-Ok.is) (c.write_totals.ensures.ok is)

pub returns-in-Ok-clause-memory : goal.returns-in-Ok-clause-memory
returns-in-Ok-clause-memory g c = λ is. untotalled c.args.journal.now.quiet _ _ _ _ _ _ (c.run_stream-status.ensures.ok c.in-Ok.is) (c.write_totals.ensures.memory is)

pub returns-in-Ok-clause-front : goal.returns-in-Ok-clause-front
returns-in-Ok-clause-front g c = λ is. totalled_front c.args.totalled c.args.journal.now.quiet _ _ _ _ _ _ c.if-not-totalled.false (c.run_stream-status.ensures.ok c.in-Ok.is) (c.write_totals.ensures.front is)

pub returns-in-Ok-clause-write_fault : goal.returns-in-Ok-clause-write_fault
returns-in-Ok-clause-write_fault g c = λ is. omega (arith, c.run_stream-status.ensures.later, c.write_totals.ensures.write_fault is)

pub returns-in_default : goal.returns-in_default
returns-in_default g c = record {
  ok = λ is. absurd (c.in_default.not-Ok is);
  all_read = λ is. absurd (c.in_default.not-Ok is);
  refused = λ is. c.run_stream-status.ensures.refused is;
  so_far = λ is. c.run_stream-status.ensures.so_far is;
  memory = λ is. c.run_stream-status.ensures.memory is;
  front = λ is. front_of_run c.args.totalled c.args.journal.now.quiet _ _ _ (c.run_stream-status.ensures.front is);
  read_fault = λ is. c.run_stream-status.ensures.read_fault is;
  write_fault = λ is. c.run_stream-status.ensures.write_fault is;
  by_text = λ is. c.run_stream-status.ensures.by_text is;
  no_other = c.run_stream-status.ensures.no_other;
}
