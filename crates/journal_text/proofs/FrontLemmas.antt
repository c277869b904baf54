-- The table of fronts: at each number stands its text.
use Rattle.std.proofs.Common.{◌≡◌, ◌<◌, ◌*◌, ◌&&◌, ℕ, zero, suc, Bool, true, cond, nat_lt, take, drop, refl}
use Rattle.std.specs.Fmt.{digits}
use Rattle.std.specs.Str.{bytes_eq}
use Rattle.std.proofs.lemmas.Bool.Decides.{Decides-below_and}
use Rattle.std.proofs.lemmas.Slice.Eq.{bytes_eq-Decides}
use Rattle.journal_text.specs.Kept.{following}
use Rattle.journal_text.specs.declared.front.TheConstants.{FRONTS}

-- how many octets a number's text has
abbrev pub width_of : ℕ → ℕ
width_of k = cond (nat_lt k 10) 7 (cond (nat_lt k 100) 8 9)

-- whether a number's text stands at its place in the table
abbrev stands_at : ℕ → Bool
stands_at k = bytes_eq (take (width_of k) (drop (9 * k) FRONTS.now)) (following k)

-- the test of the numbers below another
abbrev all_stand : ℕ → Bool
all_stand zero = true
all_stand (suc n) = stands_at n && all_stand n

all_256 : all_stand 256 ≡ true
unfolding digits
all_256 = refl

-- that it does
abbrev StandsAt : ℕ → Type 0
StandsAt k = take (width_of k) (drop (9 * k) FRONTS.now) ≡ following k

stand_below : (n : ℕ) → all_stand n ≡ true → (k : ℕ) → k < n → StandsAt k
stand_below n = (Decides-below_and stands_at StandsAt all_stand (λ k. bytes_eq-Decides _ _) refl (λ m. refl) n).0

-- the text at a number's place
pub front_at : (k : ℕ) → k < 256 → take (width_of k) (drop (9 * k) FRONTS.now) ≡ following k
front_at = stand_below 256 all_256
