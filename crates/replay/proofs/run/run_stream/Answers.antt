use Rattle.std.proofs.Common.{Bool, arith, refl, ap, subst, ◌∙◌, ⊎_elim, take, ◌++◌, Some}
use Rattle.check_run.specs.Lines.{lines_of}
use Rattle.router.specs.Networks.{networks_of}
use Rattle.replay.specs.Output.{IsOutputTo, IsRefusedOutput, IsFrontOfOutput}
use Rattle.replay.specs.Stream.{HasStepped, IsRefusedAt, IsFrontAt}
use Rattle.check_run.proofs.Known.{appends_then, consumes_then}
use Rattle.check_run.proofs.Readings.{read_nothing}
use Rattle.replay.proofs.Endings.{took_read, took_all, took_front, took_ended, of_all, of_read, ended_status, refused_status, stepped_as}
use Rattle.replay.proofs.run.run_stream.Goals as goal

pub returns-then-count-eq0-clause-ok : goal.returns-then-count-eq0-clause-ok
returns-then-count-eq0-clause-ok g c = λ is.
    let p = c.reading.invariant.progress in
    let w = c.finish.ensures.ok is p.read p.written (stepped_as _ _ _ _ _ _ _ _ c.reading.invariant.same p.stepped) in
    let bytes = c.in-Ok.ensures.bytes in
    took_all _ _ _ _ p.read (p.written ++ w.0) (λ text bytes. IsOutputTo c.args.journal.now.quiet (lines_of text) bytes (networks_of c.finish.new.stream.router) c.finish.new.stream.turns)
    (read_nothing _ _ _ p.read _ _ c.if-count-eq0.true p.consumed bytes.0) (bytes.1 c.if-count-eq0.true (omega arith))
    (appends_then _ _ _ _ _ p.appended w.1) (subst (λ (q : Bool). IsOutputTo q (lines_of p.read) (p.written ++ w.0) (networks_of c.finish.new.stream.router) c.finish.new.stream.turns) c.reading.invariant.same w.2)

pub returns-then-count-eq0-clause-refused : goal.returns-then-count-eq0-clause-refused
returns-then-count-eq0-clause-refused g c = λ is.
    let p = c.reading.invariant.progress in
    let w = c.finish.ensures.refused is p.read p.written (stepped_as _ _ _ _ _ _ _ _ c.reading.invariant.same p.stepped) in
    let bytes = c.in-Ok.ensures.bytes in
    took_all _ _ _ _ p.read (p.written ++ w.0) (IsRefusedOutput c.args.journal.now.quiet)
    (read_nothing _ _ _ p.read _ _ c.if-count-eq0.true p.consumed bytes.0) (bytes.1 c.if-count-eq0.true (omega arith))
    (appends_then _ _ _ _ _ p.appended w.1) (subst (λ (q : Bool). IsRefusedOutput q p.read (p.written ++ w.0)) c.reading.invariant.same w.2)

pub returns-then-count-eq0-clause-front : goal.returns-then-count-eq0-clause-front
returns-then-count-eq0-clause-front g c = λ is.
    let p = c.reading.invariant.progress in
    let w = c.finish.ensures.front is p.read p.written (stepped_as _ _ _ _ _ _ _ _ c.reading.invariant.same p.stepped) in
    let bytes = c.in-Ok.ensures.bytes in
    took_all _ _ _ _ p.read (p.written ++ w.0) (IsFrontOfOutput c.args.journal.now.quiet)
    (read_nothing _ _ _ p.read _ _ c.if-count-eq0.true p.consumed bytes.0) (bytes.1 c.if-count-eq0.true (omega arith))
    (appends_then _ _ _ _ _ p.appended w.1) (subst (λ (q : Bool). IsFrontOfOutput q p.read (p.written ++ w.0)) c.reading.invariant.same w.2)

pub returns-then-count-eq0-clause-memory : goal.returns-then-count-eq0-clause-memory
returns-then-count-eq0-clause-memory g c = λ is.
    took_front _ _ _ _ _ _ _ _ _ _ _ _ c.reading.invariant.progress c.in-Ok.ensures.bytes.0 (c.finish.ensures.memory is)

pub returns-in-Some-clause-refused : goal.returns-in-Some-clause-refused
returns-in-Some-clause-refused g c = λ is.
    let p = c.reading.invariant.progress in
    let w = c.in-Some.ensures.refused (ap Some is) p.read p.written (stepped_as _ _ _ _ _ _ _ _ c.reading.invariant.same p.stepped) in
    let piece = take c.in-Ok.count c.read.new.buf in
    took_read _ _ _ _ (p.read ++ piece) (p.written ++ w.0) (IsRefusedOutput c.args.journal.now.quiet)
    (consumes_then _ _ _ _ _ p.consumed c.in-Ok.ensures.bytes.0)
    (appends_then _ _ _ _ _ p.appended w.1) (subst (λ (q : Bool). IsRefusedAt q (p.read ++ piece) (p.written ++ w.0)) c.reading.invariant.same w.2)

pub returns-in-Some-clause-front : goal.returns-in-Some-clause-front
returns-in-Some-clause-front g c = λ is.
    let p = c.reading.invariant.progress in
    let w = c.in-Some.ensures.front (ap Some is) p.read p.written (stepped_as _ _ _ _ _ _ _ _ c.reading.invariant.same p.stepped) in
    let piece = take c.in-Ok.count c.read.new.buf in
    took_read _ _ _ _ (p.read ++ piece) (p.written ++ w.0) (IsFrontOfOutput c.args.journal.now.quiet)
    (consumes_then _ _ _ _ _ p.consumed c.in-Ok.ensures.bytes.0)
    (appends_then _ _ _ _ _ p.appended w.1) (subst (λ (q : Bool). IsFrontAt q (p.read ++ piece) (p.written ++ w.0)) c.reading.invariant.same w.2)

pub returns-in-Some-clause-memory : goal.returns-in-Some-clause-memory
returns-in-Some-clause-memory g c = λ is.
    took_front _ _ _ _ _ _ _ _ _ _ _ _ c.reading.invariant.progress c.in-Ok.ensures.bytes.0 (c.in-Some.ensures.memory (ap Some is))

pub reading-preserved : goal.reading-preserved
reading-preserved g c =
    let p = c.reading.invariant.progress in
    let e = c.in_default-turn.ensures in
    let w = e.goes_on refl p.read p.written (stepped_as _ _ _ _ _ _ _ _ c.reading.invariant.same p.stepped) in
    let piece = take c.in-Ok.count c.read.new.buf in
    let stepped = subst (λ (q : Bool). HasStepped q (p.read ++ piece) c.turn.new.stream.number (networks_of c.turn.new.stream.router) c.turn.new.stream.turns c.turn.new.stream.pending.items (p.written ++ w.0)) c.reading.invariant.same w.2 in
    record {
      progress = record {
        read = p.read ++ piece;
        written = p.written ++ w.0;
        consumed = consumes_then _ _ _ _ _ p.consumed c.in-Ok.ensures.bytes.0;
        appended = appends_then _ _ _ _ _ p.appended w.1;
        stepped = stepped;
      };
      ready = e.ready refl;
      empty = e.empty refl;
      same = e.quiet refl ∙ c.reading.invariant.same;
      source_later = omega (arith, c.reading.invariant.source_later, c.in-Ok.ensures.cause.later);
      sink_later = omega (arith, c.reading.invariant.sink_later, e.later);
    }

pub returns-then-count-eq0-clause-by_text : goal.returns-then-count-eq0-clause-by_text
returns-then-count-eq0-clause-by_text g c = λ is.
    let p = c.reading.invariant.progress in
    let s = stepped_as _ c.reading.journal.quiet _ _ _ _ _ _ c.reading.invariant.same p.stepped in
    let bytes = c.in-Ok.ensures.bytes in
    of_all _ _ p.read _ (read_nothing _ _ _ p.read _ _ c.if-count-eq0.true p.consumed bytes.0) (bytes.1 c.if-count-eq0.true (omega arith))
    (ended_status c.reading.journal.quiet c.finish.result p.read p.written (λ ok. let w = c.finish.ensures.ok ok p.read p.written s in (w.0, w.2.output)) (λ no'. let w = c.finish.ensures.refused no' p.read p.written s in (w.0, w.2)) is)

pub returns-in-Some-clause-by_text : goal.returns-in-Some-clause-by_text
returns-in-Some-clause-by_text g c = ⊎_elim
    (λ ok. absurd (c.in-Some.ensures.no_other.0 (ap Some ok)))
    (λ is.
    let p = c.reading.invariant.progress in
    let w = c.in-Some.ensures.refused (ap Some is) p.read p.written (stepped_as _ _ _ _ _ _ _ _ c.reading.invariant.same p.stepped) in
    of_read _ _ (p.read ++ take c.in-Ok.count c.read.new.buf) _ (consumes_then _ _ _ _ _ p.consumed c.in-Ok.ensures.bytes.0) (λ more. is ∙ refused_status _ _ _ (w.2 more)))

pub returns-in_default-clause-so_far : goal.returns-in_default-clause-so_far
returns-in_default-clause-so_far g c = λ is. took_ended _ _ _ _ _ _ _ _ _ _ c.reading.stream.short c.reading.invariant.progress c.in_default.ensures.bytes
