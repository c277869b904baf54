-- The first key from an address and a length on.
use Rattle.std.proofs.Common.{◌≡◌, ℕ, ◌+◌, ◌-◌, ◌*◌, ◌%◌, ◌<◌, ◌≤◌, Option, Some, None, true, false, is_some, sym, ap, ◌∙◌, inl, inr, arith}
use Rattle.std.proofs.lemmas.Bool.{cases_eq}
use Rattle.addr4.specs.Prefixes.{AddressPrefix, ComesBefore}
use Rattle.addr4.proofs.RankLemmas.{before_is}
use Rattle.nibble_trie.specs.declared.link.Target.TheVariants.{Inner}
use Rattle.nibble_trie.specs.Keys.{IsNextOf, IsFirstOf, IsFrom, IsOfAddressFrom}
use Rattle.nibble_trie.specs.Index.{Layout, high, Lies, Fits}
use Rattle.nibble_trie.specs.Next.{FromAt, FromIn, IsStart}
use Rattle.nibble_trie.proofs.Digits.{digit_is, digits_before, high_mono, high_less, zero_high}

-- the same prefixes have the same first
pub first_same : (keys : ℕ → Option AddressPrefix) (P Q : AddressPrefix → Type 0) (r : Option ℕ) → ((p : AddressPrefix) → P p → Q p) → ((k : ℕ) (p : AddressPrefix) → keys k ≡ Some p → Q p → P p) → IsFirstOf keys P r → IsFirstOf keys Q r
first_same keys P Q None up down first = λ k p found q. first k p found (down k p found q)
first_same keys P Q (Some key) up down first = (first.0, first.1, up first.0 first.2, λ k p found q. first.3 k p found (down k p found q))

pub not_behind : (p q : AddressPrefix) → ComesBefore p q → p.address ≤ q.address
not_behind p q before = elim (before_is p q before) [ inl less ↦ omega arith | inr same ↦ omega (arith, same.0) ]

-- ---- of one address
pub next_first : (keys : ℕ → Option AddressPrefix) (a length from least : ℕ) (r : Option ℕ) → ((p : AddressPrefix) → p.address ≡ a → IsFrom from least p → length ≤ p.length) → ((p : AddressPrefix) → p.address ≡ a → length ≤ p.length → IsFrom from least p) → IsNextOf keys a length r → IsFirstOf keys (IsOfAddressFrom a from least) r
next_first keys a length from least None long far next = λ k p found s. absurd (omega (arith, next k p found s.0, long p s.0 s.1))
next_first keys a length from least (Some key) long far next = (
  next.0,
  next.1,
  (next.2, far next.0 next.2 next.3),
  λ k p found s before. elim (before_is p next.0 before) [
    | inl less ↦ absurd (omega (arith, s.0, next.2))
    | inr same ↦ absurd (omega (arith, same.1, next.4 k p found s.0 (long p s.0 s.1)))
  ],
)

-- ---- under a branch: the addresses of its place are those of its digits
module _ (keys : ℕ → Option AddressPrefix) (live : ℕ → Type 0) (heads : ℕ → Option ℕ) (layout : Layout) (at : Option (ℕ × ℕ)) (branch from least level : ℕ) (f : Fits live heads layout at (Inner branch)) (level_is : layout.level branch ≡ level) (start : IsStart layout at from least) where
  of_place : (a : ℕ) → Lies layout at a → high (layout.level branch) a ≡ layout.block branch * 16 + high (layout.level branch) a % 16
  of_place a lies = digit_is (layout.level branch) (layout.block branch) a (ap (λ n. high n a) (sym f.1) ∙ lies ∙ f.2)

  up : (p : AddressPrefix) → FromIn layout branch (high level from % 16) from least p → FromAt layout at from least p
  up p s =
      let a = p.address in
      let e : high (layout.level branch) a ≡ layout.block branch * 16 + (high (layout.level branch) a - layout.block branch * 16) = omega (arith, s.low) in
      record {
        lies = ap (λ n. high n a) f.1 ∙ digits_before (layout.level branch) (layout.block branch) (high (layout.level branch) a - layout.block branch * 16) a (omega (arith, s.low, s.top)) e ∙ sym f.2;
        from = s.from;
      }

  digits : (a : ℕ) → Lies layout at a → from ≤ a → layout.block branch * 16 + high level from % 16 ≤ high (layout.level branch) a
  digits a lies le = elim start [
    | inl zero ↦
        let none : high level from ≡ 0 = ap (high level) zero.0 ∙ zero_high level in
        omega (arith, of_place a lies)
    | inr here ↦
        let same : high (layout.level branch) from ≡ high level from = ap (λ n. high n from) level_is in
        omega (arith, of_place from here, high_mono (layout.level branch) from a le)
  ]

  down : (p : AddressPrefix) → FromAt layout at from least p → FromIn layout branch (high level from % 16) from least p
  down p s = record { low = digits p.address s.lies s.from.0; top = omega (arith, of_place p.address s.lies); from = s.from }

  pub first_inner : (r : Option ℕ) → IsFirstOf keys (FromIn layout branch (high level from % 16) from least) r → IsFirstOf keys (FromAt layout at from least) r
  first_inner r first = first_same keys (FromIn layout branch (high level from % 16) from least) (FromAt layout at from least) r up (λ k p found. down p) first

-- ---- in a branch, digit by digit
module _ (keys : ℕ → Option AddressPrefix) (layout : Layout) (branch digit from least : ℕ) where
  pub in_found : (r : Option ℕ) → digit < 16 → is_some r ≡ true → IsFirstOf keys (FromAt layout (Some (branch, digit)) from least) r → IsFirstOf keys (FromIn layout branch digit from least) r
  in_found None small some first = absurd (let x : is_some {T = ℕ} None ≡ true = some in cc)
  in_found (Some key) small some first =
      let at : high (layout.level branch) first.0.address ≡ layout.block branch * 16 + digit = first.2.lies in (
        first.0,
        first.1,
        record { low = omega arith; top = omega arith; from = first.2.from },
        λ k p found s before.
            let mono = high_mono (layout.level branch) p.address first.0.address (not_behind p first.0 before) in
            let here : high (layout.level branch) p.address ≡ layout.block branch * 16 + digit = omega (arith, s.low) in
            first.3 k p found (record { lies = here; from = s.from }) before,
      )

  -- behind the last digit
  pub in_none : 16 ≤ digit → IsFirstOf keys (FromIn layout branch digit from least) None
  in_none end = λ k p found s. absurd (omega (arith, s.low, s.top))

  module _ (start : IsStart layout (Some (branch, digit)) from least) where
    later : (p : AddressPrefix) → layout.block branch * 16 + (digit + 1) ≤ high (layout.level branch) p.address → IsFrom from least p
    later p low = elim start [
      | inl zero ↦ (omega (arith, zero.0), λ e. omega (arith, zero.1))
      | inr here ↦
          let at : high (layout.level branch) from ≡ layout.block branch * 16 + digit = here in
          let lt = high_less (layout.level branch) from p.address (omega arith) in (omega arith, λ e. absurd (omega arith))
    ]

    pub in_rest : (found r : Option ℕ) → is_some found ≡ false → IsFirstOf keys (FromAt layout (Some (branch, digit)) from least) found → IsFirstOf keys (FromIn layout branch (digit + 1) 0 0) r → IsFirstOf keys (FromIn layout branch digit from least) r
    in_rest (Some key) r none first rest = absurd (let x : is_some (Some key) ≡ false = none in cc)
    in_rest None r none first rest = first_same keys (FromIn layout branch (digit + 1) 0 0) (FromIn layout branch digit from least) r
        (λ p s. record { low = omega (arith, s.low); top = s.top; from = later p s.low })
        (λ k p found s. elim (cases_eq (high (layout.level branch) p.address) (layout.block branch * 16 + digit)) [
          | inl e ↦ absurd (first k p found (record { lies = e; from = s.from }))
          | inr n ↦ record { low = omega (arith, s.low); top = s.top; from = (omega arith, λ e. omega arith) }
        ]) rest
