-- The leaves of each address, one linked to the next, after a change.
use Rattle.std.proofs.Common.{◌≡◌, ◌≢◌, ◌⊎◌, ℕ, ◌+◌, ◌<◌, ◌≤◌, Option, Some, None, refl, sym, ap, subst, ◌∙◌, inl, inr, arith}
use Rattle.std.proofs.lemmas.Bool.{cases_eq, cases_lt, cases_order}
use Rattle.addr4.specs.Prefixes.{AddressPrefix}
use Rattle.addr4.proofs.HalfLemmas.{one_address_prefix}
use Rattle.nibble_trie.specs.Keys.{IsNextOf, IsChained, IsLastBelow, IsHeadOf}
use Rattle.nibble_trie.specs.Index.{with_head}
use Rattle.nibble_trie.proofs.Digits.{some_same, head_here, head_apart}

pub one_found : (keys : ℕ → Option AddressPrefix) (k : ℕ) (p q : AddressPrefix) → keys k ≡ Some p → keys k ≡ Some q → p ≡ q
one_found keys k p q a b = some_same p q (sym a ∙ b)

-- no key of the address lies from one length on to another
pub all_behind : (keys : ℕ → Option AddressPrefix) (a from length : ℕ) (link : Option ℕ) → IsNextOf keys a from link → IsNextOf keys a length link → (k : ℕ) (q : AddressPrefix) → keys k ≡ Some q → q.address ≡ a → from ≤ q.length → length ≤ q.length
all_behind keys a from length None first second k q found same le = absurd (omega (arith, first k q found same))
all_behind keys a from length (Some key) first second k q found same le =
    let e : first.0 ≡ second.0 = one_found keys key first.0 second.0 first.1 second.1 in
    omega (arith, ap (λ p. p.length) e, second.3, first.4 k q found same le)

-- there is one next
pub one_next : (keys : ℕ → Option AddressPrefix) (longer : ℕ → Option ℕ) (a from : ℕ) (x y : Option ℕ) → IsChained keys longer → IsNextOf keys a from x → IsNextOf keys a from y → x ≡ y
one_next keys longer a from None None c f g = refl
one_next keys longer a from None (Some y) c f g = absurd (omega (arith, f y g.0 g.1 g.2, g.3))
one_next keys longer a from (Some x) None c f g = absurd (omega (arith, g x f.0 f.1 f.2, f.3))
one_next keys longer a from (Some x) (Some y) c f g =
    let e : f.0 ≡ g.0 = one_address_prefix f.0 g.0 (f.2 ∙ sym g.2) (omega (arith, f.4 y g.0 g.1 g.2 g.3, g.4 x f.0 f.1 f.2 f.3)) in
    ap Some (c.single x y g.0 (f.1 ∙ ap Some e) g.1)

pub later_some : (keys : ℕ → Option AddressPrefix) (a from length key : ℕ) (q : AddressPrefix) → from ≤ length → keys key ≡ Some q → length ≤ q.length → IsNextOf keys a from (Some key) → IsNextOf keys a length (Some key)
later_some keys a from length key q le found long next =
    let e : next.0 ≡ q = one_found keys key next.0 q next.1 found in
    (next.0, next.1, next.2, omega (arith, ap (λ p. p.length) e), λ k p there same far. next.4 k p there same (omega arith))

-- a prefix that isn't there is none of its length
pub raised : (keys : ℕ → Option AddressPrefix) (p : AddressPrefix) (link : Option ℕ) → ((k : ℕ) → keys k ≡ Some p → ⊥) → IsNextOf keys p.address p.length link → IsNextOf keys p.address (p.length + 1) link
raised keys p None absent next = λ k q found same. omega (arith, next k q found same)
raised keys p (Some key) absent next = (
  next.0,
  next.1,
  next.2,
  elim (cases_eq p.length next.0.length) [
    | inl e ↦ absurd (absent key (next.1 ∙ ap Some (one_address_prefix next.0 p next.2 (sym e))))
    | inr n ↦ omega (arith, next.3)
  ],
  λ k q found same le. next.4 k q found same (omega arith),
)

-- ---- a key more
pub record Adds (keys keys' : ℕ → Option AddressPrefix) (key : ℕ) (p : AddressPrefix) : Type 0 where
  pub vacant : keys key ≡ None
  pub absent : (k : ℕ) → keys k ≡ Some p → ⊥
  pub here : keys' key ≡ Some p
  pub others : (k : ℕ) → k ≢ key → keys' k ≡ keys k

-- a link leads to a length, or to one before it
abbrev Behind : (ℕ → Option AddressPrefix) → Option ℕ → ℕ → Type 0
Behind keys None length = ⊥
Behind keys (Some k) length = (q : AddressPrefix) × (keys k ≡ Some q) × (q.length ≤ length)

module _ (keys keys' : ℕ → Option AddressPrefix) (key : ℕ) (p : AddressPrefix) (adds : Adds keys keys' key p) where
  -- what stands there now stood there, or is the new one
  pub was_there : (k : ℕ) (q : AddressPrefix) → keys' k ≡ Some q → ((k ≡ key) × (q ≡ p)) ⊎ ((k ≢ key) × (keys k ≡ Some q))
  was_there k q found = elim (cases_eq k key) [
    | inl e ↦ inl (e, one_found keys' key q p (ap keys' (sym e) ∙ found) adds.here)
    | inr n ↦ inr (n, sym (adds.others k n) ∙ found)
  ]

  pub is_there : (k : ℕ) (q : AddressPrefix) → keys k ≡ Some q → keys' k ≡ Some q
  is_there k q found = adds.others k (λ e. let none = adds.vacant in let some = ap keys (sym e) ∙ found in absurd (cc)) ∙ found

  next_kept : (a from : ℕ) (link : Option ℕ) → IsNextOf keys a from link → (p.address ≡ a → from ≤ p.length → Behind keys link p.length) → IsNextOf keys' a from link
  next_kept a from None next behind = λ k q found same. elim (was_there k q found) [
    | inl new ↦ elim (cases_lt q.length from) [
      | inl lt ↦ lt
      | inr le ↦ absurd (behind (ap (λ x. x.address) (sym new.1) ∙ same) (omega (arith, ap (λ x. x.length) new.1)))
    ]
    | inr old ↦ next k q old.1 same
  ]
  next_kept a from (Some m) next behind = (
    next.0,
    is_there m next.0 next.1,
    next.2,
    next.3,
    λ k q found same le. elim (was_there k q found) [
      | inl new ↦
          let b = behind (ap (λ x. x.address) (sym new.1) ∙ same) (omega (arith, ap (λ x. x.length) new.1)) in
          let e : b.0 ≡ next.0 = one_found keys m b.0 next.0 b.1 next.1 in
          omega (arith, ap (λ x. x.length) new.1, ap (λ x. x.length) e, b.2)
      | inr old ↦ next.4 k q old.1 same le
    ],
  )

  next_new : (from : ℕ) (link : Option ℕ) → from ≤ p.length → IsNextOf keys p.address from link → IsNextOf keys p.address p.length link → IsNextOf keys' p.address from (Some key)
  next_new from link le first second = (
    p,
    adds.here,
    refl,
    le,
    λ k q found same far. elim (was_there k q found) [
      | inl new ↦ omega (arith, ap (λ x. x.length) new.1)
      | inr old ↦ all_behind keys p.address from p.length link first second k q old.1 same far
    ],
  )

  -- the link of the new one
  next_own : (link : Option ℕ) → IsNextOf keys p.address p.length link → IsNextOf keys' p.address (p.length + 1) link
  next_own link next = next_kept p.address (p.length + 1) link (raised keys p link adds.absent next) (λ same le. absurd (omega arith))

  single_kept : (longer : ℕ → Option ℕ) → IsChained keys longer → (k l : ℕ) (q : AddressPrefix) → keys' k ≡ Some q → keys' l ≡ Some q → k ≡ l
  single_kept longer c k l q a b = elim (was_there k q a) [
    | inl x ↦ elim (was_there l q b) [
      | inl y ↦ x.0 ∙ sym y.0
      | inr y ↦ absurd (adds.absent l (y.1 ∙ ap Some x.1))
    ]
    | inr x ↦ elim (was_there l q b) [
      | inl y ↦ absurd (adds.absent k (x.1 ∙ ap Some y.1))
      | inr y ↦ c.single k l q x.1 y.1
    ]
  ]

  module _ (longer longer' : ℕ → Option ℕ) (c : IsChained keys longer) where
    -- the new one is the first of its address
    pub first_chained : (head : Option ℕ) → IsHeadOf keys p head → longer' key ≡ head → ((k : ℕ) → k ≢ key → longer' k ≡ longer k) → IsChained keys' longer'
    first_chained head is own others = record {
      linked = λ k q found. elim (was_there k q found) [
        | inl new ↦ subst (λ x. IsNextOf keys' x.address (x.length + 1) (longer' k)) (sym new.1) (subst (λ l. IsNextOf keys' p.address (p.length + 1) l) (sym (ap longer' new.0 ∙ own)) (next_own head is.1))
        | inr old ↦ subst (λ l. IsNextOf keys' q.address (q.length + 1) l) (sym (others k old.0))
            (next_kept q.address (q.length + 1) (longer k) (c.linked k q old.1) (λ same le. absurd (omega (arith, all_behind keys p.address 0 p.length head is.0 is.1 k q old.1 (sym same) (omega arith)))))
      ];
      single = single_kept longer c;
    }

    pub first_heads : (heads : ℕ → Option ℕ) → ((a : ℕ) → IsNextOf keys a 0 (heads a)) → IsHeadOf keys p (heads p.address) → (a : ℕ) → IsNextOf keys' a 0 (with_head heads p.address (Some key) a)
    first_heads heads shortest is a = elim (cases_eq a p.address) [
      | inl e ↦ subst (λ b. IsNextOf keys' b 0 (with_head heads p.address (Some key) b)) (sym e) (subst (λ l. IsNextOf keys' p.address 0 l) (sym (head_here heads p.address (Some key))) (next_new 0 (heads p.address) (omega arith) is.0 is.1))
      | inr n ↦ subst (λ l. IsNextOf keys' a 0 l) (sym (head_apart heads p.address (Some key) a n)) (next_kept a 0 (heads a) (shortest a) (λ same le. absurd (n (sym same))))
    ]

    -- the new one stands behind another
    module _ (before : ℕ) (last : IsLastBelow keys longer p.address p.length before) where
      -- what is behind a lesser one is the last below, or before it
      below_last : (from : ℕ) (link : Option ℕ) → from ≤ last.prefix.length → IsNextOf keys p.address from link → Behind keys link p.length
      below_last from None le next = absurd (omega (arith, next before last.prefix last.found last.same))
      below_last from (Some m) le next = (next.0, next.1, omega (arith, next.4 before last.prefix last.found last.same le, last.shorter))

      last_next : IsNextOf keys p.address (last.prefix.length + 1) (longer before)
      last_next = subst (λ a. IsNextOf keys a (last.prefix.length + 1) (longer before)) last.same (c.linked before last.prefix last.found)

      not_between : (k : ℕ) (q : AddressPrefix) → keys k ≡ Some q → q.address ≡ p.address → q.length < p.length → k ≢ before → q.length + 1 ≤ last.prefix.length
      not_between k q found same shorter differ = elim (cases_order q.length last.prefix.length) [
        | inl e ↦ absurd (differ (c.single k before q found (last.found ∙ ap Some (one_address_prefix last.prefix q (last.same ∙ sym same) (sym e)))))
        | inr o ↦ elim o [
          | inl lt ↦ omega arith
          | inr gt ↦ absurd (omega (arith, all_behind keys p.address (last.prefix.length + 1) p.length (longer before) last_next last.next k q found same (omega arith)))
        ]
      ]

      pub behind_chained : longer' key ≡ longer before → longer' before ≡ Some key → ((k : ℕ) → k ≢ key → k ≢ before → longer' k ≡ longer k) → IsChained keys' longer'
      behind_chained own front others = record {
        linked = λ k q found. elim (was_there k q found) [
          | inl new ↦ subst (λ x. IsNextOf keys' x.address (x.length + 1) (longer' k)) (sym new.1) (subst (λ l. IsNextOf keys' p.address (p.length + 1) l) (sym (ap longer' new.0 ∙ own)) (next_own (longer before) last.next))
          | inr old ↦ elim (cases_eq k before) [
            | inl e ↦
                let is : last.prefix ≡ q = one_found keys before last.prefix q last.found (ap keys (sym e) ∙ old.1) in
                subst (λ x. IsNextOf keys' x.address (x.length + 1) (longer' k)) is
                (subst (λ l. IsNextOf keys' last.prefix.address (last.prefix.length + 1) l) (sym (ap longer' e ∙ front))
                (subst (λ a. IsNextOf keys' a (last.prefix.length + 1) (Some key)) (sym last.same) (next_new (last.prefix.length + 1) (longer before) (omega (arith, last.shorter)) last_next last.next)))
            | inr n ↦ subst (λ l. IsNextOf keys' q.address (q.length + 1) l) (sym (others k old.0 n))
                (next_kept q.address (q.length + 1) (longer k) (c.linked k q old.1) (λ same le.
                below_last (q.length + 1) (longer k) (not_between k q old.1 (sym same) (omega arith) n) (subst (λ a. IsNextOf keys a (q.length + 1) (longer k)) (sym same) (c.linked k q old.1))))
          ]
        ];
        single = single_kept longer c;
      }

      pub behind_heads : (a : ℕ) (head : Option ℕ) → IsNextOf keys a 0 head → IsNextOf keys' a 0 head
      behind_heads a head next = next_kept a 0 head next (λ same le. below_last 0 head (omega arith) (subst (λ b. IsNextOf keys b 0 head) (sym same) next))

-- ---- a key less
pub record Removes (keys keys' : ℕ → Option AddressPrefix) (key : ℕ) (p : AddressPrefix) : Type 0 where
  pub was : keys key ≡ Some p
  pub gone : keys' key ≡ None
  pub others : (k : ℕ) → k ≢ key → keys' k ≡ keys k

module _ (keys keys' : ℕ → Option AddressPrefix) (key : ℕ) (p : AddressPrefix) (removes : Removes keys keys' key p) where
  pub stood_there : (k : ℕ) (q : AddressPrefix) → keys' k ≡ Some q → (k ≢ key) × (keys k ≡ Some q)
  stood_there k q found = elim (cases_eq k key) [
    | inl e ↦ let none = removes.gone in let some = ap keys' (sym e) ∙ found in absurd (cc)
    | inr n ↦ (n, sym (removes.others k n) ∙ found)
  ]

  next_stays : (a from : ℕ) (link : Option ℕ) → IsNextOf keys a from link → link ≢ Some key → IsNextOf keys' a from link
  next_stays a from None next differ = λ k q found same. next k q (stood_there k q found).1 same
  next_stays a from (Some m) next differ = (next.0, removes.others m (λ e. differ (ap Some e)) ∙ next.1, next.2, next.3, λ k q found same le. next.4 k q (stood_there k q found).1 same le)

  module _ (longer longer' : ℕ → Option ℕ) (c : IsChained keys longer) where
    -- another one of the address that isn't shorter is longer
    longer_than : (k : ℕ) (q : AddressPrefix) → keys k ≡ Some q → k ≢ key → q.address ≡ p.address → p.length ≤ q.length → p.length + 1 ≤ q.length
    longer_than k q found differ same le = elim (cases_eq p.length q.length) [
      | inl e ↦ absurd (differ (c.single k key q found (removes.was ∙ ap Some (one_address_prefix p q (sym same) e))))
      | inr n ↦ omega arith
    ]

    -- what led to it leads to the one behind it
    next_after : (from : ℕ) (link : Option ℕ) → IsNextOf keys p.address from (Some key) → IsNextOf keys p.address (p.length + 1) link → IsNextOf keys' p.address from link
    next_after from None first next = λ k q found same. elim (cases_lt q.length from) [
      | inl lt ↦ lt
      | inr le ↦
          let s = stood_there k q found in
          let e : first.0 ≡ p = one_found keys key first.0 p first.1 removes.was in
          absurd (omega (arith, next k q s.1 same, longer_than k q s.1 s.0 same (omega (arith, ap (λ x. x.length) e, first.4 k q s.1 same le))))
    ]
    next_after from (Some m) first next =
        let e : first.0 ≡ p = one_found keys key first.0 p first.1 removes.was in
        let apart : m ≢ key = λ same. let is : next.0 ≡ p = one_found keys key next.0 p (ap keys (sym same) ∙ next.1) removes.was in absurd (omega (arith, next.3, ap (λ x. x.length) is)) in (
          next.0,
          removes.others m apart ∙ next.1,
          next.2,
          omega (arith, next.3, first.3, ap (λ x. x.length) e),
          λ k q found same le.
              let s = stood_there k q found in
              next.4 k q s.1 same (longer_than k q s.1 s.0 same (omega (arith, ap (λ x. x.length) e, first.4 k q s.1 same le))),
        )

    single_stays : (k l : ℕ) (q : AddressPrefix) → keys' k ≡ Some q → keys' l ≡ Some q → k ≡ l
    single_stays k l q a b = c.single k l q (stood_there k q a).1 (stood_there l q b).1

    own_next : IsNextOf keys p.address (p.length + 1) (longer key)
    own_next = c.linked key p removes.was

    -- it was the first of its address
    pub first_removed : IsNextOf keys p.address 0 (Some key) → ((k : ℕ) → k ≢ key → longer' k ≡ longer k) → IsChained keys' longer'
    first_removed first others = record {
      linked = λ k q found.
          let s = stood_there k q found in
          subst (λ l. IsNextOf keys' q.address (q.length + 1) l) (sym (others k s.0)) (next_stays q.address (q.length + 1) (longer k) (c.linked k q s.1) (λ e.
          let n : IsNextOf keys q.address (q.length + 1) (Some key) = subst (λ l. IsNextOf keys q.address (q.length + 1) l) e (c.linked k q s.1) in
          let is : n.0 ≡ first.0 = one_found keys key n.0 first.0 n.1 first.1 in
          absurd (omega (arith, n.3, ap (λ x. x.length) is, first.4 k q s.1 (sym n.2 ∙ ap (λ x. x.address) is ∙ first.2) (omega arith)))));
      single = single_stays;
    }

    pub first_gone : (heads : ℕ → Option ℕ) → ((a : ℕ) → IsNextOf keys a 0 (heads a)) → heads p.address ≡ Some key → (a : ℕ) → IsNextOf keys' a 0 (with_head heads p.address (longer key) a)
    first_gone heads shortest is a = elim (cases_eq a p.address) [
      | inl e ↦ subst (λ b. IsNextOf keys' b 0 (with_head heads p.address (longer key) b)) (sym e) (subst (λ l. IsNextOf keys' p.address 0 l) (sym (head_here heads p.address (longer key))) (next_after 0 (longer key) (subst (λ l. IsNextOf keys p.address 0 l) is (shortest p.address)) own_next))
      | inr n ↦ subst (λ l. IsNextOf keys' a 0 l) (sym (head_apart heads p.address (longer key) a n)) (next_stays a 0 (heads a) (shortest a) (λ e.
          let x : IsNextOf keys a 0 (Some key) = subst (λ l. IsNextOf keys a 0 l) e (shortest a) in
          let same : x.0 ≡ p = one_found keys key x.0 p x.1 removes.was in
          n (sym x.2 ∙ ap (λ y. y.address) same)))
    ]

    -- it stood behind another
    module _ (before : ℕ) (last : IsLastBelow keys longer p.address p.length before) (leads : longer before ≡ Some key) where
      last_next' : IsNextOf keys p.address (last.prefix.length + 1) (Some key)
      last_next' = subst (λ l. IsNextOf keys p.address (last.prefix.length + 1) l) leads (subst (λ a. IsNextOf keys a (last.prefix.length + 1) (longer before)) last.same (c.linked before last.prefix last.found))

      -- only that one leads to it
      only_before : (k : ℕ) (q : AddressPrefix) → keys k ≡ Some q → longer k ≡ Some key → k ≡ before
      only_before k q found e =
          let n : IsNextOf keys q.address (q.length + 1) (Some key) = subst (λ l. IsNextOf keys q.address (q.length + 1) l) e (c.linked k q found) in
          let is : n.0 ≡ p = one_found keys key n.0 p n.1 removes.was in
          let is' : last_next'.0 ≡ p = one_found keys key last_next'.0 p last_next'.1 removes.was in
          let same : q.address ≡ p.address = sym n.2 ∙ ap (λ x. x.address) is in
          elim (cases_order q.length last.prefix.length) [
            | inl l ↦ c.single k before q found (last.found ∙ ap Some (one_address_prefix last.prefix q (last.same ∙ sym same) (sym l)))
            | inr o ↦ elim o [
              | inl lt ↦ absurd (omega (arith, last.shorter, ap (λ x. x.length) is, n.4 before last.prefix last.found (last.same ∙ sym same) (omega arith)))
              | inr gt ↦ absurd (omega (arith, n.3, ap (λ x. x.length) is, ap (λ x. x.length) is', last_next'.4 k q found same (omega arith)))
            ]
          ]

      pub behind_removed : longer' before ≡ longer key → ((k : ℕ) → k ≢ key → k ≢ before → longer' k ≡ longer k) → IsChained keys' longer'
      behind_removed front others = record {
        linked = λ k q found.
            let s = stood_there k q found in
            elim (cases_eq k before) [
              | inl e ↦
                  let is : last.prefix ≡ q = one_found keys before last.prefix q last.found (ap keys (sym e) ∙ s.1) in
                  subst (λ x. IsNextOf keys' x.address (x.length + 1) (longer' k)) is
                  (subst (λ l. IsNextOf keys' last.prefix.address (last.prefix.length + 1) l) (sym (ap longer' e ∙ front))
                  (subst (λ a. IsNextOf keys' a (last.prefix.length + 1) (longer key)) (sym last.same) (next_after (last.prefix.length + 1) (longer key) last_next' own_next)))
              | inr n ↦ subst (λ l. IsNextOf keys' q.address (q.length + 1) l) (sym (others k s.0 n)) (next_stays q.address (q.length + 1) (longer k) (c.linked k q s.1) (λ e. n (only_before k q s.1 e)))
            ];
        single = single_stays;
      }

      pub behind_gone : (a : ℕ) (head : Option ℕ) → IsNextOf keys a 0 head → IsNextOf keys' a 0 head
      behind_gone a head next = next_stays a 0 head next (λ e.
          let n : IsNextOf keys a 0 (Some key) = subst (λ l. IsNextOf keys a 0 l) e next in
          let is : n.0 ≡ p = one_found keys key n.0 p n.1 removes.was in
          absurd (omega (arith, last.shorter, ap (λ x. x.length) is, n.4 before last.prefix last.found (last.same ∙ sym (ap (λ x. x.address) is) ∙ n.2) (omega arith))))

-- ---- only values changed
pub next_same : (keys keys' : ℕ → Option AddressPrefix) (a from : ℕ) (link : Option ℕ) → ((k : ℕ) → keys' k ≡ keys k) → IsNextOf keys a from link → IsNextOf keys' a from link
next_same keys keys' a from None same next = λ k q found. next k q (sym (same k) ∙ found)
next_same keys keys' a from (Some m) same next = (next.0, same m ∙ next.1, next.2, next.3, λ k q found. next.4 k q (sym (same k) ∙ found))

pub chained_kept : (keys keys' : ℕ → Option AddressPrefix) (longer longer' : ℕ → Option ℕ) → ((k : ℕ) → keys' k ≡ keys k) → ((k : ℕ) → longer' k ≡ longer k) → IsChained keys longer → IsChained keys' longer'
chained_kept keys keys' longer longer' same links c = record {
  linked = λ k q found. subst (λ l. IsNextOf keys' q.address (q.length + 1) l) (sym (links k)) (next_same keys keys' q.address (q.length + 1) (longer k) same (c.linked k q (sym (same k) ∙ found)));
  single = λ k l q a b. c.single k l q (sym (same k) ∙ a) (sym (same l) ∙ b);
}
