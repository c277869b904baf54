use Rattle.std.proofs.Common.{◌++◌, List, ℕ, ◌∙◌, ap, arith, subst, sym}
use Rattle.journal_text.specs.declared.line.Code.TheVariants.{E1}
use Rattle.router.specs.Networks.{networks_of}
use Rattle.replay.specs.Stream.{HasStepped, made}
use Rattle.replay.proofs.Pieces.{stepped_part, refused_long}
use Rattle.replay.proofs.Steps.{made_refused}
use Rattle.replay.proofs.stream.Stream.take_part.Goals as goal

pub returns-then-part-len-clause-goes_on : goal.returns-then-part-len-clause-goes_on
returns-then-part-len-clause-goes_on c = λ read taken was.
    refused_long c.args.journal.now.quiet read taken _ _ _ c.args.self.now.pending.items _ _ c.args.part.now c.requires.part (omega (arith, c.args.self.now.short, c.if-part-len.true, c.len.ensures)) was
    (ap made c.in_ok-push_line.ensures ∙ made_refused c.args.journal.now c.args.self.now.number E1)

pub returns-clause-goes_on : goal.returns-clause-goes_on
returns-clause-goes_on c = λ read taken was.
    subst (λ (p : List ℕ). HasStepped c.args.journal.now.quiet (read ++ c.args.part.now) c.args.self.now.number (networks_of c.args.self.now.router) c.args.self.now.turns p (taken ++ made c.args.journal.now)) (sym c.in_ok-extend_from_slice.ensures.items)
    (stepped_part c.args.journal.now.quiet read _ _ _ _ _ c.args.part.now c.requires.part was)
