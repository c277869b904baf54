-- A state behind a draw, from products and sums that wrap.
use Rattle.std.proofs.Common.{◌≡◌, ℕ, ◌+◌, ◌*◌, ◌%◌, ◌^◌, arith}
use Rattle.event_gen.specs.Draws.{stepped}

pub wrapped : (x : ℕ) → (x * 6364136223846793005 % 2 ^ 64 + 1442695040888963407) % 2 ^ 64 ≡ stepped x
unfolding stepped
wrapped x = omega arith
