use Rattle.std.proofs.Common.{◌≡◌, ◌∷◌, ◌++◌, ◌∙◌, [], true, false, option_map, ap}
use Rattle.check_run.specs.Lines.{after_part}
use Rattle.replay.specs.Streams.{state}
use Rattle.replay.proofs.GoingOn.{taken_more, taken_refused, as_known}
use Rattle.replay.proofs.stream.Stream.take_piece.Goals as goal

pub returns-then-not-branch-clause-goes_on : goal.returns-then-not-branch-clause-goes_on
returns-then-not-branch-clause-goes_on c =
    let quiet = c.args.journal.now.quiet in
    let refused = as_known c.loop-next.journal.quiet quiet _ false (state c.loop-next.self) _ _ _ (state c.take_part.new.self) c.loop-next.invariant.quiet c.if-not-branch.true c.in_ok-take_part.ensures.goes_on in
    taken_refused quiet (state c.args.self.now) (state c.loop-next.self) (state c.take_part.new.self) _ _ _ _ _ _ _ c.first_line.ensures.whole c.loop-next.invariant.taken refused

pub returns-then-not-branch-2-clause-goes_on : goal.returns-then-not-branch-2-clause-goes_on
returns-then-not-branch-2-clause-goes_on c =
    let quiet = c.args.journal.now.quiet in
    let taken = as_known c.loop-next.journal.quiet quiet _ true (state c.loop-next.self) _ _ _ (state c.take_part.new.self) c.loop-next.invariant.quiet c.if-not-branch.false c.in_ok-take_part.ensures.goes_on in
    let first = taken_more quiet (state c.args.self.now) (state c.loop-next.self) (state c.take_part.new.self) c.args.piece.now _ _ _ _ _ _ c.first_line.ensures.whole c.loop-next.invariant.taken taken (c.in_ok-take_part.ensures.progress c.if-not-branch.false) in
    let refused = as_known c.take_part.new.journal.quiet quiet _ false (state c.take_part.new.self) _ _ _ (state c.take_end.new.self) (c.in_ok-take_part.ensures.quiet ∙ c.loop-next.invariant.quiet) c.if-not-branch-2.true c.in_ok-take_end.ensures.goes_on in
    let end : after_part (option_map (λ r. r.now) c.first_line.result.1) ≡ (10 ∷ []) ++ c.in-Some.next.now = ap (λ o. after_part (option_map (λ r. r.now) o)) c.in-Some.is in
    taken_refused quiet (state c.args.self.now) (state c.take_part.new.self) (state c.take_end.new.self) _ _ _ _ _ _ _ end first refused

pub loop-next-preserved : goal.loop-next-preserved
loop-next-preserved c =
    let quiet = c.args.journal.now.quiet in
    let taken = as_known c.loop-next.journal.quiet quiet _ true (state c.loop-next.self) _ _ _ (state c.take_part.new.self) c.loop-next.invariant.quiet c.if-not-branch.false c.in_ok-take_part.ensures.goes_on in
    let first = taken_more quiet (state c.args.self.now) (state c.loop-next.self) (state c.take_part.new.self) c.args.piece.now _ _ _ _ _ _ c.first_line.ensures.whole c.loop-next.invariant.taken taken (c.in_ok-take_part.ensures.progress c.if-not-branch.false) in
    let same = c.in_ok-take_part.ensures.quiet ∙ c.loop-next.invariant.quiet in
    let ended = as_known c.take_part.new.journal.quiet quiet _ true (state c.take_part.new.self) _ _ _ (state c.take_end.new.self) same c.if-not-branch-2.false c.in_ok-take_end.ensures.goes_on in
    let end : after_part (option_map (λ r. r.now) c.first_line.result.1) ≡ (10 ∷ []) ++ c.in-Some.next.now = ap (λ o. after_part (option_map (λ r. r.now) o)) c.in-Some.is in
    record {
      taken = taken_more quiet (state c.args.self.now) (state c.take_part.new.self) (state c.take_end.new.self) c.args.piece.now _ _ _ _ _ _ end first ended (c.in_ok-take_end.ensures.progress c.if-not-branch-2.false);
      ready = c.in_ok-take_end.ensures.ready c.if-not-branch-2.false;
      quiet = c.in_ok-take_end.ensures.quiet ∙ same;
    }
