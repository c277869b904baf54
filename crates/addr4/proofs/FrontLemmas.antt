-- An address of 32 bits as one of 128, whose bits come first.
use Rattle.std.proofs.Common.{◌≡◌, ℕ, ◌+◌, ◌-◌, ◌*◌, ◌/◌, ◌%◌, ◌^◌, ◌<◌, ◌≤◌, sym, ap, subst, ◌∙◌, arith}
use Rattle.std.proofs.lemmas.Nat.{shl-shr, shr-shr, pow-add, pow_pos, mod-pow-add, mod-mul-add}
use Rattle.addr4.proofs.BlockLemmas.{finer, size_splits, size_pos, block_ends}
use Rattle.addr4.specs.Blocks.{width, size_of_length, masked_to, digit_at, Shared}
use Rattle.addr4.specs.Families.{in_front, in_front_back, IsIpv4, IsIpv4Prefix}
use Rattle.addr4.specs.Prefixes.{AddressPrefix}

-- behind its first bits stand zeros
pub front_zeros : (n : ℕ) → in_front n % 2 ^ 96 ≡ 0
front_zeros n = let e : in_front n ≡ n * 2 ^ 96 + 0 = omega arith in ap (λ y. y % 2 ^ 96) e ∙ mod-mul-add n (2 ^ 96) 0 (omega arith)

pub front_shr : (n k : ℕ) → in_front n / 2 ^ (96 + k) ≡ n / 2 ^ k
front_shr n k = sym (shr-shr (in_front n) 96 k) ∙ ap (λ y. y / 2 ^ k) (in_front_back n)

pub front_bit : (n i : ℕ) → i < 32 → in_front n / 2 ^ (127 - i) ≡ n / 2 ^ (31 - i)
front_bit n i less = let e : 127 - i ≡ 96 + (31 - i) = omega arith in ap (λ k. in_front n / 2 ^ k) e ∙ front_shr n (31 - i)

pub front_digit : (n level : ℕ) → 24 ≤ level → n / 2 ^ (4 * (level - 24)) % 16 ≡ digit_at level (in_front n)
front_digit n level more =
    let e : 4 * level ≡ 96 + 4 * (level - 24) = omega arith in
    sym (ap (λ k. in_front n / 2 ^ k % 16) e ∙ ap (λ y. y % 16) (front_shr n (4 * (level - 24))))

pub front_no_digit : (n level : ℕ) → level < 24 → 0 ≡ digit_at level (in_front n)
front_no_digit n level less =
    let k = 92 - 4 * level in
    let whole : 96 ≡ k + 4 + 4 * level = omega arith in
    let split : 2 ^ (k + 4) ≡ 2 ^ k * 16 = pow-add 2 k 4 in
    let e : in_front n ≡ n * 2 ^ (k + 4) * 2 ^ (4 * level) = ap (λ j. n * 2 ^ j) whole ∙ ap (λ y. n * y) (pow-add 2 (k + 4) (4 * level)) ∙ omega arith in
    let high : in_front n / 2 ^ (4 * level) ≡ n * 2 ^ (k + 4) = ap (λ y. y / 2 ^ (4 * level)) e ∙ shl-shr (n * 2 ^ (k + 4)) (4 * level) in
    let sixteens : n * 2 ^ (k + 4) ≡ n * 2 ^ k * 16 + 0 = ap (λ y. n * y) split ∙ omega arith in
    sym (ap (λ y. y % 16) (high ∙ sixteens) ∙ mod-mul-add (n * 2 ^ k) 16 0 (omega arith))

pub front_masked : (n length : ℕ) → length ≤ 32 → in_front (n - n % 2 ^ (32 - length)) ≡ masked_to width (in_front n) length
front_masked n length most =
    let e : 128 - length ≡ 32 - length + 96 = omega arith in
    let rest : in_front n % 2 ^ (128 - length) ≡ (n % 2 ^ (32 - length)) * 2 ^ 96 =
    ap (λ k. in_front n % 2 ^ k) e ∙ mod-pow-add (in_front n) (32 - length) 96
    ∙ ap (λ y. (y % 2 ^ (32 - length)) * 2 ^ 96 + in_front n % 2 ^ 96) (in_front_back n) ∙ omega (arith, front_zeros n) in
    omega (arith, rest)

-- ---- the bits that two share
pub front_shared : (a b n : ℕ) → Shared 32 a b n → Shared width (in_front a) (in_front b) n
front_shared a b n s =
    let below : n < 32 = s.below in
    let high : 128 - n ≡ 96 + (32 - n) = omega arith in
    let low : 128 - 1 - n ≡ 96 + (32 - 1 - n) = omega arith in
    record {
      below = omega arith;
      same = ap (λ k. in_front a / 2 ^ k) high ∙ front_shr a (32 - n) ∙ s.same ∙ sym (ap (λ k. in_front b / 2 ^ k) high ∙ front_shr b (32 - n));
      differ = λ e. s.differ (sym (ap (λ k. in_front a / 2 ^ k) low ∙ front_shr a (32 - 1 - n)) ∙ e ∙ ap (λ k. in_front b / 2 ^ k) low ∙ front_shr b (32 - 1 - n));
    }

pub front_differ : (a b : ℕ) → (in_front a ≡ in_front b → ⊥) → a ≡ b → ⊥
front_differ a b differ e = differ (ap in_front e)

-- ---- the last address of a prefix
pub front_rest : (n length : ℕ) → length ≤ 32 → in_front n % 2 ^ (128 - length) ≡ (n % 2 ^ (32 - length)) * 2 ^ 96
front_rest n length most =
    let e : 128 - length ≡ 32 - length + 96 = omega arith in
    ap (λ k. in_front n % 2 ^ k) e ∙ mod-pow-add (in_front n) (32 - length) 96
    ∙ ap (λ y. (y % 2 ^ (32 - length)) * 2 ^ 96 + in_front n % 2 ^ 96) (in_front_back n) ∙ omega (arith, front_zeros n)

-- an address that a prefix begins with is a multiple of its size, and so ends within 32 bits
pub front_ends : (n length : ℕ) → length ≤ 32 → n < 2 ^ 32 → in_front n % 2 ^ (128 - length) ≡ 0 → n + 2 ^ (32 - length) ≤ 2 ^ 32
front_ends n length most fits masked =
    let pos : 0 < 2 ^ (32 - length) = pow_pos (32 - length) in
    let none : n % 2 ^ (32 - length) ≡ 0 = omega (arith, front_rest n length most, masked) in
    block_ends 32 n length most fits none

pub front_last : (n length : ℕ) → length ≤ 32 → in_front (n + (2 ^ (32 - length) - 1)) + 2 ^ 96 ≡ in_front n + 2 ^ (128 - length)
front_last n length most =
    let s = 2 ^ (32 - length) in
    let pos : 0 < s = pow_pos (32 - length) in
    let e : 128 - length ≡ 32 - length + 96 = omega arith in
    let size : 2 ^ (128 - length) ≡ s * 2 ^ 96 = ap (λ k. 2 ^ k) e ∙ pow-add 2 (32 - length) 96 in
    omega (arith, size, pos)

-- ---- back from a number of 128 bits

pub front_again : (a : ℕ) → a % 2 ^ 96 ≡ 0 → in_front (a / 2 ^ 96) ≡ a
front_again a e = omega (arith, e)

pub front_below : (a : ℕ) → a < 2 ^ 128 → a / 2 ^ 96 < 2 ^ 32
front_below a fits = omega (arith, fits)

pub front_ipv4 : (n : ℕ) → n < 2 ^ 32 → IsIpv4 (in_front n)
front_ipv4 n fits = (omega (arith, fits), front_zeros n)

pub front_prefix : (p : AddressPrefix) → IsIpv4Prefix p → IsIpv4 p.address
front_prefix p is = (
  is.fits,
  finer (2 ^ (32 - p.length)) (size_of_length width 32) p.address (size_pos width 32) (subst (λ s. p.address % s ≡ 0) (size_splits width p.length 32 is.short (omega arith)) is.masked.1),
)

pub front_behind : (n length : ℕ) → length ≤ 32 → in_front n % 2 ^ (128 - length) ≡ 0 → n % 2 ^ (32 - length) ≡ 0
front_behind n length most e = let rest = front_rest n length most in omega (arith, rest, e)
