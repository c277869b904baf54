-- Pseudo-random numbers: a linear congruential generator modulo 2^64, whose high bits are drawn (D. Knuth, "The Art of Computer
-- Programming", volume 2, section 3.2.1; factor and increment are those of his MMIX).
use Rattle.std.specs.Prelude.{ℕ, ◌+◌, ◌*◌, ◌/◌, ◌%◌, ◌^◌}
use Rattle.event_gen.specs.declared.draws.Draws.{Draws}

-- the state behind a draw
unfoldable pub stepped : ℕ → ℕ
stepped x = (6364136223846793005 * x + 1442695040888963407) % 2 ^ 64

-- the number that a draw gives, which leads to this state
abbrev pub number_of : ℕ → ℕ
number_of x = x / 2 ^ 33

-- the numbers of the next four draws, those of an event
abbrev pub next_draws : ℕ → Draws
next_draws x = record {
  k = number_of (stepped x);
  a = number_of (stepped (stepped x));
  b = number_of (stepped (stepped (stepped x)));
  c = number_of (stepped (stepped (stepped (stepped x))));
}

-- the state behind them
abbrev pub behind_draws : ℕ → ℕ
behind_draws x = stepped (stepped (stepped (stepped x)))
