-- The longest row is one for a whole subnet, and which change can change it.
use Rattle.std.proofs.Common.{◌≡◌, ℕ, zero, suc, ◌+◌, ◌-◌, ◌*◌, ◌/◌, ◌%◌, ◌<◌, ◌≤◌, cond, Option, Some, None, refl, sym, ap, ◌∙◌, subst, inl, inr, arith}
use Rattle.std.proofs.lemmas.Bool.{cases_lt, cases_eq}
use Rattle.addr4.specs.Blocks.{size_of_length, masked_to}
use Rattle.addr4.specs.Prefixes.{AddressPrefix, IsMasked, Covers, Overlaps, Holds, block}
use Rattle.addr4.proofs.BlockLemmas.{from_masked, to_masked, apart, size_pos, masked_at, covers_from_holds, masked_down}
use Rattle.addr4.proofs.PrefixOrder.{by_prefix}
use Rattle.link_change.specs.Rows.{Rows, with_row}
use Rattle.register_interest.specs.Covers.{keyed_or, longest_to, longest, IsLongest, matched, IsFree, IsCover, IsWithin, IsHit, Stands}

-- ---- blocks of an address

pub block_masked : (w a n : ℕ) → n ≤ w → IsMasked w (block w a n)
block_masked w a n le = (le, masked_down a (size_of_length w n) (size_pos w n))

pub block_holds : (w a n : ℕ) → Holds w (block w a n) a
block_holds w a n = let b = from_masked (size_of_length w n) (masked_to w a n) a (size_pos w n) refl in record { from = b.0; to = b.1 }

pub block_is : (w a : ℕ) (q : AddressPrefix) → IsMasked w q → Holds w q a → q ≡ block w a q.length
block_is w a q masked h =
    let e = to_masked (size_of_length w q.length) q.address a masked.1 h.from h.to in
    λ i. record { address = sym e i; length = q.length }

-- two prefixes of one address with so many bits are one
pub one_of_length : (w a : ℕ) (p q : AddressPrefix) → IsMasked w p → IsMasked w q → Holds w p a → Holds w q a → p.length ≡ q.length → p ≡ q
one_of_length w a p q mp mq hp hq e = block_is w a p mp hp ∙ ap (block w a) e ∙ sym (block_is w a q mq hq)

-- two prefixes of one address are nested
pub nested : (w a : ℕ) (p q : AddressPrefix) → IsMasked w p → IsMasked w q → p.length ≤ q.length → Holds w p a → Holds w q a → Covers w p q
nested w a p q mp mq le hp hq =
    let from : p.address ≤ q.address = elim (cases_lt q.address p.address) [
      | inl less ↦ absurd (let far = apart (size_of_length w q.length) q.address p.address mq.1 (masked_at w p q mp mq le) less in let l = hp.from in let h = hq.to in omega arith)
      | inr more ↦ more
    ] in
    let l = hq.from in let h = hp.to in
    covers_from_holds w p q mp mq le (record { from = from; to = omega arith })

pub overlap_of_two : (w a : ℕ) (p q : AddressPrefix) → IsMasked w p → IsMasked w q → Holds w p a → Holds w q a → Overlaps w p q
overlap_of_two w a p q mp mq hp hq = elim (cases_lt q.length p.length) [
  | inl less ↦ inr (nested w a q p mq mp (omega arith) hq hp)
  | inr le ↦ inl (nested w a p q mp mq le hp hq)
]

pub held_by_cover : (w a : ℕ) (p q : AddressPrefix) → Covers w p q → Holds w q a → Holds w p a
held_by_cover w a p q c h = let f = c.from in let t = c.to in let l = h.from in let u = h.to in record { from = omega arith; to = omega arith }

-- ---- the longest row

-- no row holds the address with at most n bits, or this one does and no longer one
abbrev IsTo : {V : Type 0} → ℕ → Rows V → ℕ → ℕ → Option (AddressPrefix × V) → Type 0
IsTo w rows a n None = (q : AddressPrefix) → IsMasked w q → Holds w q a → q.length ≤ n → rows q ≡ None
IsTo w rows a n (Some r) = IsMasked w r.0 × Holds w r.0 a × (rows r.0 ≡ Some r.1) × ((q : AddressPrefix) → IsMasked w q → Holds w q a → q.length ≤ n → r.0.length < q.length → rows q ≡ None)

none_more : {V : Type 0} (w : ℕ) (rows : Rows V) (a n : ℕ) (r : Option (AddressPrefix × V)) → rows (block w a (suc n)) ≡ None → IsTo w rows a n r → IsTo w rows a (suc n) r
none_more w rows a n None none is = λ q mq hq le. elim (cases_eq q.length (suc n)) [
  | inl e ↦ ap rows (block_is w a q mq hq ∙ ap (block w a) e) ∙ none
  | inr ne ↦ is q mq hq (omega arith)
]
none_more w rows a n (Some r) none is = (
  is.0,
  is.1,
  is.2,
  λ q mq hq le longer. elim (cases_eq q.length (suc n)) [
    | inl e ↦ ap rows (block_is w a q mq hq ∙ ap (block w a) e) ∙ none
    | inr ne ↦ is.3 q mq hq (omega arith) longer
  ],
)

step_to : {V : Type 0} (w : ℕ) (rows : Rows V) (a n : ℕ) (here : Option V) (r : Option (AddressPrefix × V)) → suc n ≤ w → rows (block w a (suc n)) ≡ here → IsTo w rows a n r → IsTo w rows a (suc n) (keyed_or (block w a (suc n)) here r)
step_to w rows a n None r le e is = none_more w rows a n r e is
step_to w rows a n (Some v) r le e is = (block_masked w a (suc n) le, block_holds w a (suc n), e, λ q mq hq short long. absurd (omega arith))

first_to : {V : Type 0} (w : ℕ) (rows : Rows V) (a : ℕ) (here : Option V) → rows (block w a 0) ≡ here → IsTo w rows a 0 (keyed_or (block w a 0) here None)
first_to w rows a None e = λ q mq hq le. let z : q.length ≡ 0 = omega arith in ap rows (block_is w a q mq hq ∙ ap (block w a) z) ∙ e
first_to w rows a (Some v) e = (block_masked w a 0 (omega arith), block_holds w a 0, e, λ q mq hq short long. absurd (omega arith))

is_to : {V : Type 0} (w : ℕ) (rows : Rows V) (a n : ℕ) → n ≤ w → IsTo w rows a n (longest_to w rows a n)
is_to w rows a zero le = first_to w rows a (rows (block w a 0)) refl
is_to w rows a (suc n) le = step_to w rows a n (rows (block w a (suc n))) (longest_to w rows a n) le refl (is_to w rows a n (omega arith))

from_to : {V : Type 0} (w : ℕ) (rows : Rows V) (a : ℕ) (r : Option (AddressPrefix × V)) → IsTo w rows a w r → IsLongest w rows a r
from_to w rows a None is = λ q mq hq. is q mq hq mq.0
from_to w rows a (Some r) is = (is.0, is.1, is.2, λ q mq hq long. is.3 q mq hq mq.0 long)

-- what is computed is the longest row
pub longest_is : {V : Type 0} (w : ℕ) (rows : Rows V) (a : ℕ) → IsLongest w rows a (longest w rows a)
unfolding longest
longest_is w rows a = from_to w rows a (longest_to w rows a w) (is_to w rows a w (omega arith))

both : {V : Type 0} {x : V} (o : Option V) → o ≡ None → o ≡ Some x → (P : Type 0) → P
both {V} {x} o none some P = absurd (let clash : None ≡ Some x = sym none ∙ some in cc)

-- and there is only one
pub one_longest : {V : Type 0} (w : ℕ) (rows : Rows V) (a : ℕ) (r t : Option (AddressPrefix × V)) → IsLongest w rows a r → IsLongest w rows a t → r ≡ t
one_longest w rows a None None is it = refl
one_longest w rows a None (Some t) is it = both (rows t.0) (is t.0 it.0 it.1) it.2 _
one_longest w rows a (Some r) None is it = both (rows r.0) (it r.0 is.0 is.1) is.2 _
one_longest w rows a (Some r) (Some t) is it = elim (cases_lt r.0.length t.0.length) [
  | inl less ↦ both (rows t.0) (is.3 t.0 it.0 it.1 less) it.2 _
  | inr le ↦ elim (cases_lt t.0.length r.0.length) [
    | inl less ↦ both (rows r.0) (it.3 r.0 is.0 is.1 less) is.2 _
    | inr ge ↦
        let e : r.0 ≡ t.0 = one_of_length w a r.0 t.0 is.0 it.0 is.1 it.1 (omega arith) in
        let v : Some r.1 ≡ Some t.1 = sym is.2 ∙ ap rows e ∙ it.2 in
        let u : r.1 ≡ t.1 = cc in
        λ i. Some (e i, u i)
  ]
]

pub longest_from : {V : Type 0} (w : ℕ) (rows : Rows V) (a : ℕ) (r : Option (AddressPrefix × V)) → IsLongest w rows a r → r ≡ longest w rows a
longest_from w rows a r is = one_longest w rows a r (longest w rows a) is (longest_is w rows a)

-- ---- one match for a subnet

also : {V : Type 0} (w : ℕ) (rows : Rows V) (s : AddressPrefix) (a b : ℕ) (r : Option (AddressPrefix × V)) → IsMasked w s → Holds w s b → IsFree w rows (matched r) s → IsLongest w rows a r → IsLongest w rows b r
also w rows s a b None ms hb free is = λ q mq hq. free q mq (overlap_of_two w b s q ms mq hb hq)
also w rows s a b (Some r) ms hb free is = (is.0, held_by_cover w b r.0 s free.0 hb, is.2, λ q mq hq long. free.1 q mq (overlap_of_two w b s q ms mq hb hq) long)

-- Each address of a subnet that is free for the match of one of them has the same longest row.
pub one_match : {V : Type 0} (w : ℕ) (rows : Rows V) (s : AddressPrefix) (a b : ℕ) → IsMasked w s → IsFree w rows (matched (longest w rows a)) s → Holds w s b → longest w rows b ≡ longest w rows a
one_match w rows s a b ms free hb = sym (longest_from w rows b (longest w rows a) (also w rows s a b (longest w rows a) ms hb free (longest_is w rows a)))

pub cover_match : {V : Type 0} (w : ℕ) (rows : Rows V) (a b : ℕ) (m : Option (AddressPrefix × V)) (s : AddressPrefix) → IsCover w rows a m s → Holds w s b → longest w rows b ≡ m
cover_match w rows a b m s is hb =
    let free : IsFree w rows (matched (longest w rows a)) s = subst (λ x. IsFree w rows (matched x) s) is.longest_is is.subnet.free in
    one_match w rows s a b is.subnet.masked free hb ∙ sym is.longest_is

pub cover_stands : {V : Type 0} (w : ℕ) (rows : Rows V) (a : ℕ) (m : Option (AddressPrefix × V)) (s : AddressPrefix) → IsCover w rows a m s → Stands w rows s (matched m)
cover_stands w rows a m s is b hb = ap matched (cover_match w rows a b m s is hb)

-- ---- which change can change the longest row

pub with_row_apart : {V : Type 0} (rows : Rows V) (p q : AddressPrefix) (new : Option V) → (q ≡ p → ⊥) → with_row rows p new q ≡ rows q
with_row_apart rows p q new ne = by_prefix q p (λ b. cond b new (rows q) ≡ rows q) (λ e. absurd (ne e)) (λ _. refl)

kept : {V : Type 0} (w : ℕ) (rows : Rows V) (p : AddressPrefix) (new : Option V) (a : ℕ) (r : Option (AddressPrefix × V)) → (Holds w p a → IsWithin p (matched r) → ⊥) → IsLongest w rows a r → IsLongest w (with_row rows p new) a r
kept w rows p new a None out is = λ q mq hq. with_row_apart rows p q new (λ e. out (subst (λ x. Holds w x a) e hq) tt) ∙ is q mq hq
kept w rows p new a (Some r) out is = (
  is.0,
  is.1,
  with_row_apart rows p r.0 new (λ e. out (subst (λ x. Holds w x a) e is.1) (let l : r.0.length ≡ p.length = ap (λ (x : AddressPrefix). x.length) e in omega arith)) ∙ is.2,
  λ q mq hq long. with_row_apart rows p q new (λ e. out (subst (λ x. Holds w x a) e hq) (let l : q.length ≡ p.length = ap (λ (x : AddressPrefix). x.length) e in omega arith)) ∙ is.3 q mq hq long,
)

-- A change at p leaves the longest row of an address that p doesn't hold, and of one whose match is longer than p.
pub change_at : {V : Type 0} (w : ℕ) (rows : Rows V) (p : AddressPrefix) (new : Option V) (a : ℕ) → (Holds w p a → IsWithin p (matched (longest w rows a)) → ⊥) → longest w (with_row rows p new) a ≡ longest w rows a
change_at w rows p new a out = sym (longest_from w (with_row rows p new) a (longest w rows a) (kept w rows p new a (longest w rows a) out (longest_is w rows a)))

-- A change that doesn't hit a subnet with its match leaves the longest row of each address of it.
pub not_hit : {V : Type 0} (w : ℕ) (rows : Rows V) (p : AddressPrefix) (new : Option V) (s : AddressPrefix) (m : Option AddressPrefix) → IsMasked w p → IsMasked w s → Stands w rows s m → (IsHit w p s m → ⊥) → (a : ℕ) → Holds w s a → longest w (with_row rows p new) a ≡ longest w rows a
not_hit w rows p new s m mp ms stands out a ha = change_at w rows p new a (λ hp within. out (overlap_of_two w a s p ms mp ha hp, subst (IsWithin p) (stands a ha) within))

pub still_stands : {V : Type 0} (w : ℕ) (rows : Rows V) (p : AddressPrefix) (new : Option V) (s : AddressPrefix) (m : Option AddressPrefix) → IsMasked w p → IsMasked w s → Stands w rows s m → (IsHit w p s m → ⊥) → Stands w (with_row rows p new) s m
still_stands w rows p new s m mp ms stands out a ha = ap matched (not_hit w rows p new s m mp ms stands out a ha) ∙ stands a ha
