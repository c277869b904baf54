-- The order of prefixes, and what a prefix covers in it.
use Rattle.std.proofs.Common.{◌≡◌, ◌⊎◌, ℕ, true, false, ◌+◌, ◌-◌, ◌*◌, ◌%◌, ◌^◌, ◌<◌, ◌≤◌, ◌∙◌, sym, ap, subst, inl, inr, arith}
use Rattle.std.proofs.lemmas.Nat.{mod-mul-add}
use Rattle.std.proofs.lemmas.Bool.{cases_lt, cases_order}
use Rattle.std.proofs.lemmas.Bool.Decides.{nat_tests}
use Rattle.std.specs.Cmp.{tied_itself}
use Rattle.std.specs.Ordering.{is_gt}
use Rattle.std.specs.BTreeMap.Range.{IsLeBy}
use Rattle.addr4.specs.Blocks.{size_of_length}
use Rattle.addr4.specs.Prefixes.{AddressPrefix, prefix_cmp, ComesBefore, IsMasked, Covers, Holds}
use Rattle.addr4.proofs.BlockLemmas.{apart, size_pos, size_splits, covers_from_holds, covers_length, covers_holds}
use Rattle.addr4.proofs.PrefixOrder.{prefixes_total, comes_after}
use Rattle.register_interest.proofs.CoverLemmas.{nested}

pub before_address : (p q : AddressPrefix) → ComesBefore p q → p.address ≤ q.address
before_address p q h = grind (arith, nat_tests, h)

pub before_length : (p q : AddressPrefix) → ComesBefore p q → p.address ≡ q.address → p.length < q.length
before_length p q h e = grind (arith, nat_tests, h, e)

pub before_by_address : (p q : AddressPrefix) → p.address < q.address → ComesBefore p q
before_by_address p q lt = grind (arith, nat_tests, lt)

pub before_by_length : (p q : AddressPrefix) → p.address ≡ q.address → p.length < q.length → ComesBefore p q
before_by_length p q e lt = grind (arith, nat_tests, e, lt)

pub cases_before : (p q : AddressPrefix) → ComesBefore p q ⊎ ((p ≡ q) ⊎ ComesBefore q p)
cases_before p q = elim (cases_order p.address q.address) [
  | inl e ↦ elim (cases_order p.length q.length) [
    | inl l ↦ inr (inl (λ i. record { address = e i; length = l i }))
    | inr o ↦ elim o [ inl less ↦ inl (before_by_length p q e less) | inr more ↦ inr (inr (before_by_length q p (sym e) more)) ]
  ]
  | inr o ↦ elim o [ inl less ↦ inl (before_by_address p q less) | inr more ↦ inr (inr (before_by_address q p more)) ]
]

pub not_itself : (p q : AddressPrefix) → ComesBefore p q → p ≡ q → ⊥
not_itself p q h e =
    let a : p.address ≡ q.address = ap (λ (x : AddressPrefix). x.address) e in
    let l : p.length ≡ q.length = ap (λ (x : AddressPrefix). x.length) e in
    let lt = before_length p q h a in omega arith

-- at or before another
pub cases_up_to : (p q : AddressPrefix) → IsLeBy prefix_cmp p q → (p ≡ q) ⊎ ComesBefore p q
cases_up_to p q h = elim (cases_before p q) [
  | inl before ↦ inr before
  | inr o ↦ elim o [
    | inl same ↦ inl same
    | inr after ↦ absurd (let clash : true ≡ false = sym (comes_after q p after) ∙ h in cc)
  ]
]

pub up_to : (p q : AddressPrefix) → (p ≡ q) ⊎ ComesBefore p q → IsLeBy prefix_cmp p q
up_to p q (inl same) = subst (λ (x : AddressPrefix). IsLeBy prefix_cmp p x) same (ap is_gt (tied_itself prefixes_total p))
up_to p q (inr before) = ap is_gt before

-- a prefix that the subnet covers is the subnet, or comes after it
pub inside : (w a : ℕ) (s q : AddressPrefix) → IsMasked w s → IsMasked w q → Covers w s q → (s ≡ q) ⊎ ComesBefore s q
inside w a s q ms mq c =
    let le = covers_length w s q ms c in
    let f = c.from in
    elim (cases_before s q) [
      | inl before ↦ inr before
      | inr o ↦ elim o [
        | inl same ↦ inl same
        | inr after ↦ absurd (let low = before_address q s after in let e : q.address ≡ s.address = omega arith in let lt = before_length q s after e in omega arith)
      ]
    ]

-- what stands between a subnet and a prefix that it covers is covered too
pub between : (w : ℕ) (s k q : AddressPrefix) → IsMasked w s → IsMasked w k → Covers w s q → ComesBefore s k → ComesBefore k q → Covers w s k
between w s k q ms mk c sk kq =
    let low = before_address s k sk in
    let high = before_address k q kq in
    let last = (covers_holds w s q c).to in
    let here : Holds w s k.address = record { from = low; to = omega arith } in
    let own : Holds w k k.address = record { from = omega arith; to = omega (arith, size_pos w k.length) } in
    elim (cases_lt k.length s.length) [
      | inl less ↦ absurd (
          let around = nested w k.address k s mk ms (omega arith) own here in
          let f = around.from in
          let e : s.address ≡ k.address = omega arith in
          let lt = before_length s k sk e in omega arith)
      | inr le ↦ covers_from_holds w s k ms mk le here
    ]

-- a prefix ends within its family
ends_within : (w : ℕ) (p : AddressPrefix) → IsMasked w p → p.address < 2 ^ w → p.address + size_of_length w p.length ≤ 2 ^ w
ends_within w p mp fits =
    let t = size_of_length w p.length in
    let z : p.length - 0 ≡ p.length = omega arith in
    let none : w ≡ w - 0 = omega arith in
    let all : 2 ^ w ≡ 2 ^ p.length * t = ap (λ n. 2 ^ n) none ∙ size_splits w 0 p.length (omega arith) mp.0 ∙ ap (λ k. 2 ^ k * t) z in
    let e : 2 ^ w ≡ 2 ^ p.length * t + 0 = omega arith in
    apart t p.address (2 ^ w) mp.1 (ap (λ y. y % t) e ∙ mod-mul-add (2 ^ p.length) t 0 (size_pos w p.length)) fits

-- the last address of an IPv4 prefix is one of 32 bits
pub last_fits : (p : AddressPrefix) (n : ℕ) → IsMasked 32 p → p.address < 2 ^ 32 → n ≡ p.length → (1 * 2 ^ (32 - n) % 18446744073709551616 ≡ 2 ^ (32 - n)) × (p.address + 2 ^ (32 - n) ≤ 2 ^ 32) × (1 ≤ 2 ^ (32 - n))
last_fits p n mp fits e =
    let s = size_of_length 32 n in
    let all : p.address + size_of_length 32 p.length ≤ 2 ^ 32 = ends_within 32 p mp fits in
    let here : p.address + s ≤ 2 ^ 32 = subst (λ (k : ℕ). p.address + size_of_length 32 k ≤ 2 ^ 32) (sym e) all in
    let one : 1 * s ≡ s = omega arith in
    (ap (λ k. k % 18446744073709551616) one ∙ (let below : s < 18446744073709551616 = omega (arith, here) in let whole : s ≡ 0 * 18446744073709551616 + s = omega arith in ap (λ k. k % 18446744073709551616) whole ∙ mod-mul-add 0 18446744073709551616 s below), here, size_pos 32 n)
