use Rattle.std.proofs.Common.{◌≡◌, ◌∙◌, sym, arith}
use Rattle.nibble_trie.proofs.Words.{target_read, none_more}
use Rattle.nibble_trie.proofs.branch.Branch.is_empty.Goals as goal

pub loop-digit-preserved : goal.loop-digit-preserved
loop-digit-preserved c =
    let b = c.args.self.now in
    let digit = c.loop-digit.digit in
    let before = c.loop-digit.invariant in
    let here = c.number-sum.ensures in
    record {
      small = omega (arith, before.small, here.small);
      none = λ e. none_more b digit (target_read b digit ∙ here.nothing.0 (omega (arith, e))) (before.none (omega (arith, e)));
      zero = λ all.
          let one : c.number-sum.result ≡ 0 = here.nothing.1 (sym (target_read b digit) ∙ all digit (omega arith)) in
          let rest : c.loop-digit.sum ≡ 0 = before.zero (λ i less. all i (omega (arith, less))) in
          omega arith;
    }
