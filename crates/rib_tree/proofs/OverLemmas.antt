-- Whether a table has a row at one of the prefixes that hold an address: they ascend in the table's order.
use Rattle.std.proofs.Common.{◌≡◌, ℕ, zero, suc, ◌+◌, ◌%◌, ◌<◌, ◌≤◌, ◌||◌, Bool, true, false, Option, Some, None, is_some, nat_lt, Bor, refl, sym, ap, subst, ◌∙◌, arith, inl, inr}
use Rattle.std.specs.Option.{option_copied}
use Rattle.std.specs.FinMap as tables
use Rattle.std.specs.FinMap.{FinMap}
use Rattle.std.proofs.lemmas.Bool.{cases_lt}
use Rattle.std.proofs.lemmas.Bool.Decides.{nat_tests}
use Rattle.addr4.specs.Blocks.{width, size_of_length, masked_to}
use Rattle.addr4.specs.Prefixes.{AddressPrefix, IsMasked, ComesBefore, prefix_cmp, block}
use Rattle.addr4.proofs.BlockLemmas.{apart, from_masked, masked_at, masked_down, size_pos}
use Rattle.addr4.proofs.RankLemmas.{is_before, before_is, further}
use Rattle.link_change.specs.Rows.{IsNextCandidate, with_rows}
use Rattle.loss_chain.specs.Held.{has_row, has_over, has_within}
use Rattle.rib_route.specs.Rows.{Interior}

-- ---- the prefixes that hold an address
block_masked : (a n : ℕ) → n ≤ width → IsMasked width (block width a n)
block_masked a n le = (le, masked_down a (size_of_length width n) (size_pos width n))

-- a longer one doesn't begin before a shorter one
begins_later : (a k n : ℕ) → k ≤ n → n ≤ width → masked_to width a k ≤ masked_to width a n
begins_later a k n le top = elim (cases_lt (masked_to width a n) (masked_to width a k)) [
  | inl less ↦
      let of_k = from_masked (size_of_length width k) (masked_to width a k) a (size_pos width k) refl in
      let of_n = from_masked (size_of_length width n) (masked_to width a n) a (size_pos width n) refl in
      let masked = masked_at width (block width a k) (block width a n) (block_masked a k (omega (arith, le, top))) (block_masked a n top) le in
      absurd (omega (arith, of_k.0, of_n.1, apart (size_of_length width n) (masked_to width a n) (masked_to width a k) (masked_down a (size_of_length width n) (size_pos width n)) masked less))
  | inr more ↦ more
]

pub ascends : (a k n : ℕ) → k < n → n ≤ width → ComesBefore (block width a k) (block width a n)
ascends a k n lt top =
    let le = begins_later a k n (omega (arith, lt)) top in
    is_before (block width a k) (block width a n) (elim (cases_lt (masked_to width a k) (masked_to width a n)) [
      | inl less ↦ inl less
      | inr more ↦ inr (omega (arith, le, more), lt)
    ])

-- that of all bits of a family is the address
pub is_whole : (most a : ℕ) → a % size_of_length width most ≡ 0 → masked_to width a most ≡ a
is_whole most a rest = omega (arith, rest)

-- ---- what a table has at them
lent_or_not : {X : Type 0} (o : Option (Bor X)) → is_some o ≡ is_some (option_copied o)
lent_or_not None = refl
lent_or_not (Some x) = refl

module _ (t : FinMap prefix_cmp Interior) (a : ℕ) where
  -- none of fewer bits has a row
  abbrev pub NonePassed : ℕ → Type 0
  NonePassed n = (k : ℕ) → k < n → has_row (Some t) (block width a k) ≡ false

  -- none that comes before a prefix has a row
  abbrev pub NoneUpto : AddressPrefix → Type 0
  NoneUpto p = (k : ℕ) → k ≤ width → ComesBefore (block width a k) p → has_row (Some t) (block width a k) ≡ false

  none_to : (n : ℕ) → NonePassed (suc n) → has_within (Some t) a n ≡ false
  none_to zero none = none 0 (omega arith)
  none_to (suc n) none = ap (λ (b : Bool). b || has_within (Some t) a n) (none (suc n) (omega arith)) ∙ none_to n (λ k lt. none k (omega (arith, lt)))

  -- where all are passed, none is over the address
  pub all_passed : NonePassed (suc width) → false ≡ has_over (Some t) a
  all_passed none = sym (none_to width none)

  -- where one has a row, one is over the address
  one_to : (n m : ℕ) → m ≤ n → has_row (Some t) (block width a m) ≡ true → has_within (Some t) a n ≡ true
  one_to zero m le some = let e : m ≡ 0 = omega (arith, le) in subst (λ (k : ℕ). has_row (Some t) (block width a k) ≡ true) e some
  one_to (suc n) m le some = elim (cases_lt m (suc n)) [
    | inl lt ↦ or_true (has_row (Some t) (block width a (suc n))) (one_to n m (omega (arith, lt)) some)
    | inr ge ↦
        let e : m ≡ suc n = omega (arith, le, ge) in
        ap (λ (b : Bool). b || has_within (Some t) a n) (subst (λ (k : ℕ). has_row (Some t) (block width a k) ≡ true) e some)
  ]
    where
      or_true : (b : Bool) → has_within (Some t) a n ≡ true → (b || has_within (Some t) a n) ≡ true
      or_true true is = refl
      or_true false is = is

  -- one more is passed
  passed_by : (n : ℕ) → NonePassed n → has_row (Some t) (block width a n) ≡ false → NonePassed (n + 1)
  passed_by n passed none k lt = elim (cases_lt k n) [
    | inl less ↦ passed k less
    | inr more ↦ let e : n ≡ k = omega (arith, lt, more) in subst (λ (m : ℕ). has_row (Some t) (block width a m) ≡ false) e none
  ]

  -- one that comes before the next is passed
  pub passed_before : (n : ℕ) → n ≤ width → (p : AddressPrefix) → NonePassed n → NoneUpto p → ComesBefore (block width a n) p → NonePassed (n + 1)
  passed_before n le p passed upto before = passed_by n passed (upto n le before)

  -- the next one begins behind the address
  pub begins_behind : (p : AddressPrefix) (before : Bool) → NoneUpto p → before ≡ nat_lt a p.address → before ≡ true → false ≡ has_over (Some t) a
  begins_behind p before none told so =
      let less : a < p.address = (let lt : nat_lt a p.address ≡ true = sym told ∙ so in grind (arith, nat_tests)) in
      all_passed (λ k lt. none k (omega (arith, lt)) (is_before (block width a k) p (inl (omega (arith, less)))))

  -- those passed come before what comes behind the last of them
  pub comes_later : (n : ℕ) → n ≤ width → (p q : AddressPrefix) → p ≡ block width a n → ComesBefore p q → (k : ℕ) → k < n + 1 → ComesBefore (block width a k) q
  comes_later n le p q is before k lt = elim (cases_lt k n) [
    | inl less ↦ further (Some (block width a k)) p q (subst (ComesBefore (block width a k)) (sym is) (ascends a k n less le)) before
    | inr more ↦ let e : n ≡ k = omega (arith, lt, more) in subst (λ (m : ℕ). ComesBefore (block width a m) q) e (subst (λ (x : AddressPrefix). ComesBefore x q) is before)
  ]

  -- behind the longest of a family comes a row that is short enough for it: it begins behind the address
  pub past_all : (most : ℕ) (p : AddressPrefix) → p.length ≤ most → masked_to width a most ≡ a → ComesBefore (block width a most) p → NoneUpto p → false ≡ has_over (Some t) a
  past_all most p short whole later none =
      let less : a < p.address = elim (before_is (block width a most) p later) [ inl sooner ↦ omega (arith, sooner, whole) | inr same ↦ absurd (omega (arith, same.1, short)) ] in
      all_passed (λ k lt. none k (omega (arith, lt)) (is_before (block width a k) p (inl (omega (arith, less)))))

  -- one of them was asked for
  module _ (n : ℕ) (below : n ≤ width) (q : AddressPrefix) (is : q ≡ block width a n) (held : Option (Bor Interior)) (there : Bool) (asked : option_copied held ≡ tables.get t q) (told : there ≡ is_some held) where
    is_told : there ≡ has_row (Some t) (block width a n)
    is_told = told ∙ lent_or_not held ∙ ap (λ (o : Option Interior). is_some o) asked ∙ ap (has_row (Some t)) is

    -- it has a row
    pub is_found : there ≡ true → true ≡ has_over (Some t) a
    is_found so = sym (one_to width n (omega (arith, below)) (sym is_told ∙ so))

    -- it has none
    module _ (passed : NonePassed n) (none : there ≡ false) where
      pub one_passed : NonePassed (n + 1)
      one_passed = passed_by n passed (sym is_told ∙ none)

      by_length : (k : ℕ) → k ≤ width → (ComesBefore q (block width a k) → has_row (Some t) (block width a k) ≡ false) → has_row (Some t) (block width a k) ≡ false
      by_length k le beyond = elim (cases_lt k (n + 1)) [
        | inl less ↦ one_passed k less
        | inr more ↦ beyond (subst (λ (p : AddressPrefix). ComesBefore p (block width a k)) (sym is) (ascends a n k (omega (arith, more)) le))
      ]

      -- the next row beyond it
      pub at_next : (p : AddressPrefix) → IsNextCandidate (with_rows (tables.get t)) (Some q) (Some p) → NoneUpto p
      at_next p next k le before = by_length k le (λ beyond. next.2 (block width a k) beyond before)

      pub none_beyond : IsNextCandidate (with_rows (tables.get t)) (Some q) None → false ≡ has_over (Some t) a
      none_beyond next = all_passed (λ k lt. by_length k (omega (arith, lt)) (λ beyond. next (block width a k) beyond))
