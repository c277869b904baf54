-- The prefixes of events.
use Rattle.std.proofs.Common.{◌≡◌, ℕ, ◌+◌, ◌*◌, List, ◌++◌, append_assoc, ap, ◌∙◌, arith}
use Rattle.addr4.specs.Blocks.{masked_to, width}
use Rattle.addr4.specs.Families.{in_front}

pub block_masked : (x : ℕ) → masked_to width (in_front (167772160 + x * 65536)) 16 ≡ in_front (167772160 + x * 65536)
block_masked x = omega arith

pub host_masked : (a : ℕ) → masked_to width (in_front a) 32 ≡ in_front a
host_masked a = omega arith

-- two pieces, one behind the other
pub joined : (out a p b d once twice : List ℕ) → once ≡ out ++ (a ++ p) → twice ≡ once ++ (b ++ d) → twice ≡ out ++ (a ++ (p ++ (b ++ d)))
joined out a p b d once twice first second =
    second ∙ ap (λ l. l ++ (b ++ d)) first ∙ append_assoc out (a ++ p) (b ++ d) ∙ ap (λ l. out ++ l) (append_assoc a p (b ++ d))
