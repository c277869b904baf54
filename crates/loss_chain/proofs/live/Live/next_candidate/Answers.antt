use Rattle.std.proofs.Common.{◌≡◌, ◌∙◌, refl, ap, is_some}
use Rattle.std.specs.FinMap as tables
use Rattle.std.specs.FinMap.{get-empty}
use Rattle.addr4.specs.Prefixes.{prefix_cmp}
use Rattle.loss_chain.proofs.live.Live.next_candidate.Goals as goal

-- src/live.rt:123:13
pub returns-then-is_empty : goal.returns-then-is_empty
returns-then-is_empty g c =
    let none : c.args.self.now ≡ tables.empty = c.if-is_empty.ensures.empty.0 refl in
    λ q beyond. ap (λ m. is_some (tables.get m q)) none ∙ ap is_some (get-empty prefix_cmp q)
