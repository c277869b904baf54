use Rattle.std.proofs.Common.{◌∙◌, Err, ap, arith}
use Rattle.capture_run.specs.Progress.{Progress}
use Rattle.capture_run.proofs.Converted.{begins, makes_way, one_more, gives_one, gives_end, gives_refusal, ends_done, ends_refused, ends_at_fault, ends_unwritten, ends_early}
use Rattle.capture_run.proofs.conversion.Conversion.run.Goals as goal

pub records-init : goal.records-init
records-init g c = record {
  progress = begins (g.S.Source.left c.args.source.now) (g.K.Sink.taken c.args.sink.now) c.args.self.now.reader c.args.self.now.unwritten.items c.requires.reader.0 c.requires.reader.1 c.requires.reader.2 c.requires.unwritten;
  reads = omega arith;
  writes = omega arith;
}

pub returns-in_default-clause-ended : goal.returns-in_default-clause-ended
returns-in_default-clause-ended g c =
    ends_unwritten c.args.self.now.reader.as4 (g.S.Source.left c.args.source.now) (g.S.Source.left c.records.source) (g.S.Source.left c.records.source) (g.K.Sink.taken c.args.sink.now) (g.K.Sink.taken c.records.sink) (g.K.Sink.taken c.make_way.new.sink) c.records.self.reader c.records.self.unwritten.items c.records.invariant.progress
    c.in_default.ensures.front

pub records-preserved : goal.records-preserved
records-preserved g c =
    let as4 = c.args.self.now.reader.as4 in
    let left0 = g.S.Source.left c.args.source.now in
    let left = g.S.Source.left c.records.source in
    let taken0 = g.K.Sink.taken c.args.sink.now in
    let taken = g.K.Sink.taken c.make_way.new.sink in
    let r = c.make_way.new.self.reader in
    let old = c.make_way.new.self.unwritten.items in
    let p : Progress as4 left0 left taken0 taken r old = makes_way as4 left0 left taken0 (g.K.Sink.taken c.records.sink) taken c.records.self.reader r c.records.self.unwritten.items old c.make_way.ensures.reader c.records.invariant.progress c.in-Ok.ensures.flushes in
    let s = c.read.new.self.reader in
    let now = g.S.Source.left c.read.new.source in
    let new = c.read.new.self.unwritten.items in
    let gives = c.in-Ok-Record.ensures.gives in
    record {
      progress = one_more as4 left0 left now taken0 taken r s old new gives.0 p (gives_one r s left now c.in-Ok-Record.field-0 gives.0 c.in-Ok-Record.field-0-is gives.2) gives.1;
      reads = omega (arith, c.records.invariant.reads, c.read.ensures.later);
      writes = omega (arith, c.records.invariant.writes, c.make_way.ensures.cause.later);
    }

pub returns-in-Ok-End-clause-ended : goal.returns-in-Ok-End-clause-ended
returns-in-Ok-End-clause-ended g c =
    let as4 = c.args.self.now.reader.as4 in
    let left0 = g.S.Source.left c.args.source.now in
    let left = g.S.Source.left c.records.source in
    let taken0 = g.K.Sink.taken c.args.sink.now in
    let taken = g.K.Sink.taken c.make_way.new.sink in
    let r = c.make_way.new.self.reader in
    let old = c.make_way.new.self.unwritten.items in
    let p : Progress as4 left0 left taken0 taken r old = makes_way as4 left0 left taken0 (g.K.Sink.taken c.records.sink) taken c.records.self.reader r c.records.self.unwritten.items old c.make_way.ensures.reader c.records.invariant.progress c.in-Ok.ensures.flushes in
    let s = c.read.new.self.reader in
    let now = g.S.Source.left c.read.new.source in
    let new = c.read.new.self.unwritten.items in
    let gives = c.in-Ok-End.ensures.gives in
    ends_done as4 left0 left now taken0 taken (g.K.Sink.taken c.finish.new.sink) r s old new gives.0 c.finish.result p (gives_end r s left now c.in-Ok-End.field-0 gives.0 c.in-Ok-End.field-0-is gives.2) gives.1 c.finish.ensures.finishes

pub returns-in-Ok-Refused-clause-ended : goal.returns-in-Ok-Refused-clause-ended
returns-in-Ok-Refused-clause-ended g c =
    let as4 = c.args.self.now.reader.as4 in
    let left0 = g.S.Source.left c.args.source.now in
    let left = g.S.Source.left c.records.source in
    let taken0 = g.K.Sink.taken c.args.sink.now in
    let taken = g.K.Sink.taken c.make_way.new.sink in
    let r = c.make_way.new.self.reader in
    let old = c.make_way.new.self.unwritten.items in
    let p : Progress as4 left0 left taken0 taken r old = makes_way as4 left0 left taken0 (g.K.Sink.taken c.records.sink) taken c.records.self.reader r c.records.self.unwritten.items old c.make_way.ensures.reader c.records.invariant.progress c.in-Ok.ensures.flushes in
    let s = c.read.new.self.reader in
    let now = g.S.Source.left c.read.new.source in
    let new = c.read.new.self.unwritten.items in
    let gives = c.in-Ok-Refused.ensures.gives in
    ends_refused as4 left0 left now taken0 taken (g.K.Sink.taken c.finish-in-Ok-Refused.new.sink) r c.in-Ok-Refused.field-0-0 c.in-Ok-Refused.field-0-1 old new gives.0 c.finish-in-Ok-Refused.result p
    (gives_refusal r s left now c.in-Ok-Refused.field-0 c.in-Ok-Refused.field-0-0 c.in-Ok-Refused.field-0-1 gives.0 c.in-Ok-Refused.field-0-is gives.2) gives.1 c.finish-in-Ok-Refused.ensures.finishes

pub returns-in-Err-ReadFault-clause-ended : goal.returns-in-Err-ReadFault-clause-ended
returns-in-Err-ReadFault-clause-ended g c =
    let as4 = c.args.self.now.reader.as4 in
    let left0 = g.S.Source.left c.args.source.now in
    let left = g.S.Source.left c.records.source in
    let taken0 = g.K.Sink.taken c.args.sink.now in
    let taken = g.K.Sink.taken c.make_way.new.sink in
    let r = c.make_way.new.self.reader in
    let old = c.make_way.new.self.unwritten.items in
    let p : Progress as4 left0 left taken0 taken r old = makes_way as4 left0 left taken0 (g.K.Sink.taken c.records.sink) taken c.records.self.reader r c.records.self.unwritten.items old c.make_way.ensures.reader c.records.invariant.progress c.in-Ok.ensures.flushes in
    let s = c.read.new.self.reader in
    let now = g.S.Source.left c.read.new.source in
    let new = c.read.new.self.unwritten.items in
    let is = c.in-Err-ReadFault.is ∙ ap Err c.in-Err-ReadFault.field-0-is in
    ends_at_fault as4 left0 left now taken0 taken (g.K.Sink.taken c.finish-in-Err-ReadFault.new.sink) r s old new c.finish-in-Err-ReadFault.result p (c.read.ensures.read_fault is) (c.read.ensures.same is) c.finish-in-Err-ReadFault.ensures.finishes

pub returns-in-Err-Memory-clause-ended : goal.returns-in-Err-Memory-clause-ended
returns-in-Err-Memory-clause-ended g c =
    let as4 = c.args.self.now.reader.as4 in
    let left0 = g.S.Source.left c.args.source.now in
    let left = g.S.Source.left c.records.source in
    let taken0 = g.K.Sink.taken c.args.sink.now in
    let taken = g.K.Sink.taken c.make_way.new.sink in
    let r = c.make_way.new.self.reader in
    let old = c.make_way.new.self.unwritten.items in
    let p : Progress as4 left0 left taken0 taken r old = makes_way as4 left0 left taken0 (g.K.Sink.taken c.records.sink) taken c.records.self.reader r c.records.self.unwritten.items old c.make_way.ensures.reader c.records.invariant.progress c.in-Ok.ensures.flushes in
    ends_early as4 left0 left (g.S.Source.left c.read.new.source) taken0 taken r old p
