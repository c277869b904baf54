use Rattle.std.proofs.Common.{◌≡◌, ◌<◌, ◌≤◌, ◌*◌, ◌^◌, ℕ}
use Rattle.nibble_trie.specs.declared.link.Target.TheVariants.{Nothing}
use Rattle.nibble_trie.specs.Links.{target_at}
use Rattle.nibble_trie.proofs.branch.Branch.is_empty.Given as goal

abbrev pub invariant-loop-digit : goal.invariant-loop-digit
invariant-loop-digit l = record {
  small : l.sum ≤ l.digit * 2 ^ 32;
  none : l.sum ≡ 0 → (i : ℕ) → i < l.digit → target_at l.self i ≡ Nothing;
  zero : ((i : ℕ) → i < l.digit → target_at l.self i ≡ Nothing) → l.sum ≡ 0;
}
