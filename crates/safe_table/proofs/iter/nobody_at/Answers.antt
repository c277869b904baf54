use Rattle.std.proofs.Common.{sym, ◌∙◌, arith}
use Rattle.safe_table.proofs.Standing.{none_within}
use Rattle.safe_table.proofs.Keeping.{none_live}
use Rattle.safe_table.proofs.iter.nobody_at.Goals as goal

pub returns-then-is_empty : goal.returns-then-is_empty
returns-then-is_empty g c = λ t. none_live c.args.places.now.slots c.args.prefix (sym c.is_empty.ensures ∙ c.if-is_empty.true)

pub returns : goal.returns
returns g c = λ t. none_within c.args.prefix 4 c.args.places.now.slots (omega arith) (λ k less. c.loop-id.invariant k (omega arith))
