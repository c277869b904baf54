-- Counts of the rows that name a next hop, and what a change of a row does to them.
use Rattle.std.proofs.Common.{◌≡◌, ◌≢◌, ◌⊎◌, ◌↔◌, ℕ, zero, suc, ◌+◌, ◌-◌, ◌<◌, ◌==◌, true, false, if◌then◌else◌, List, [], ◌∷◌, length, refl, sym, ap, ◌∙◌, subst, inl, inr, Option, Some, None, is_some, arith, eqb-true, eq-eqb}
use Rattle.std.specs.List.{Contains}
use Rattle.std.specs.Ordering.{nat_cmp}
use Rattle.std.specs.Cmp.{nat_cmp_total}
use Rattle.std.specs.FinMap.{get, insert, remove, get-empty, same_map, nat_cmp-IsAntisymmetric}
use Rattle.std.proofs.lemmas.Bool.{cases_eq}
use Rattle.addr4.specs.Prefixes.{AddressPrefix}
use Rattle.addr4.proofs.PrefixOrder.{by_prefix}
use Rattle.link_change.specs.Rows.{Rows, with_row}
use Rattle.link_change.proofs.RowLemmas.{with_row_here}
use Rattle.link_change.proofs.InOrderLemmas.{with_row_elsewhere}
use Rattle.link_change.proofs.MapLemmas.{get_at, get_apart, removed_at, removed_apart}
use Rattle.nexthop_known.specs.Counts.{Counts, counted, counted_in, one_more, one_less_of, once, Recounts, AllApart, IsCount}
use Rattle.nexthop_known.specs.Laws.{NothingIsCounted, OneMoreCounts, OneLessCounts, OneForAnother, MoreAndLess, CountsFollow, NamedIsCounted, CountedIsNamed}

-- ---- one row more, one less

once_here : (a b : ℕ) → b ≡ a → once (Some a) b ≡ 1
once_here a b e = ap (λ t. if t then 1 else 0) (eq-eqb a b (sym e))

not_same : (a b : ℕ) → b ≢ a → a == b ≡ false
not_same a b ne =
    elim (a == b) as (λ t. a == b ≡ t → t ≡ false) [
      | true ↦ λ e. absurd (ne (sym (eqb-true a b e)))
      | false ↦ λ _. refl
    ] refl

once_apart : (a b : ℕ) → b ≢ a → once (Some a) b ≡ 0
once_apart a b ne = ap (λ t. if t then 1 else 0) (not_same a b ne)

-- the count at each address, from those at it and at the others
by_address : (a : ℕ) (old new : Counts) (before after : Option ℕ) → counted new a ≡ (counted old a + once after a) - once before a
    → ((b : ℕ) → b ≢ a → once after b ≡ 0) → ((b : ℕ) → b ≢ a → once before b ≡ 0) → ((b : ℕ) → b ≢ a → get new b ≡ get old b) → Recounts before after old new
by_address a old new before after here none_after none_before same b = elim (cases_eq b a) [
  | inl e ↦ subst (λ (x : ℕ). counted new x ≡ (counted old x + once after x) - once before x) (sym e) here
  | inr ne ↦
      let c = ap counted_in (same b ne) in
      let x = none_after b ne in
      let y = none_before b ne in
      omega (arith, c, x, y)
]

pub one_more_counts : OneMoreCounts
one_more_counts counts a =
    let set = ap counted_in (get_at nat_cmp_total counts a (counted counts a)) in
    let one = once_here a a refl in
    by_address a counts (one_more counts a) None (Some a) (omega (arith, set, one)) (λ b ne. once_apart a b ne) (λ b _. refl) (λ b ne. get_apart nat_cmp_total nat_cmp-IsAntisymmetric counts a (counted counts a) b ne)

less_of : (counts : Counts) (a : ℕ) (o : Option ℕ) → get counts a ≡ o → Recounts (Some a) None counts (one_less_of counts a o)
less_of counts a None e =
    let c = ap counted_in e in
    by_address a counts counts (Some a) None (let one = once_here a a refl in omega (arith, c, one)) (λ b _. refl) (λ b ne. once_apart a b ne) (λ b _. refl)
less_of counts a (Some zero) e =
    let c = ap counted_in e in
    let gone = ap counted_in (removed_at nat_cmp_total counts a) in
    by_address a counts (remove counts a) (Some a) None (let one = once_here a a refl in omega (arith, c, gone, one)) (λ b _. refl) (λ b ne. once_apart a b ne) (λ b ne. removed_apart nat_cmp_total nat_cmp-IsAntisymmetric counts a b ne)
less_of counts a (Some (suc n)) e =
    let c = ap counted_in e in
    let set = ap counted_in (get_at nat_cmp_total counts a n) in
    by_address a counts (insert counts a n) (Some a) None (let one = once_here a a refl in omega (arith, c, set, one)) (λ b _. refl) (λ b ne. once_apart a b ne) (λ b ne. get_apart nat_cmp_total nat_cmp-IsAntisymmetric counts a n b ne)

pub one_less_counts : OneLessCounts
one_less_counts counts a = less_of counts a (get counts a) refl

pub one_for_another : OneForAnother
one_for_another old mid new before after more less a = let m = more a in let l = less a in omega (arith, m, l)

-- one more and then one less
back_at : (counts : Counts) (a : ℕ) (o : Option ℕ) → get counts a ≡ o → one_less_of (insert counts a (counted_in o)) a (Some (counted_in o)) ≡ counts
back_at counts a None e = same_map nat_cmp_total nat_cmp-IsAntisymmetric _ _ (λ q. elim (cases_eq q a) [
  | inl at ↦ subst (λ (x : ℕ). get (remove (insert counts a 0) a) x ≡ get counts x) (sym at) (removed_at nat_cmp_total (insert counts a 0) a ∙ sym e)
  | inr ne ↦ removed_apart nat_cmp_total nat_cmp-IsAntisymmetric (insert counts a 0) a q ne ∙ get_apart nat_cmp_total nat_cmp-IsAntisymmetric counts a 0 q ne
])
back_at counts a (Some n) e = same_map nat_cmp_total nat_cmp-IsAntisymmetric _ _ (λ q. elim (cases_eq q a) [
  | inl at ↦ subst (λ (x : ℕ). get (insert (insert counts a (suc n)) a n) x ≡ get counts x) (sym at) (get_at nat_cmp_total (insert counts a (suc n)) a n ∙ sym e)
  | inr ne ↦ get_apart nat_cmp_total nat_cmp-IsAntisymmetric (insert counts a (suc n)) a n q ne ∙ get_apart nat_cmp_total nat_cmp-IsAntisymmetric counts a (suc n) q ne
])

pub more_and_less : MoreAndLess
more_and_less counts a = ap (one_less_of (one_more counts a) a) (get_at nat_cmp_total counts a (counted counts a)) ∙ back_at counts a (get counts a) refl

-- ---- lists of prefixes

parted : (x q : AddressPrefix) (xs : List AddressPrefix) → Contains (x ∷ xs) q → (x ≡ q) ⊎ Contains xs q
parted x q xs (zero, lt, is) = inl is
parted x q xs (suc k, lt, is) = inr (k, omega (arith, lt), is)

behind : (x q : AddressPrefix) (xs : List AddressPrefix) → Contains xs q → Contains (x ∷ xs) q
behind x q xs c = (suc c.0, omega (arith, c.1), c.2)

front : (x q : AddressPrefix) (xs : List AddressPrefix) → x ≡ q → Contains (x ∷ xs) q
front x q xs e = (0, omega arith, e)

-- the list without one of its prefixes
record IsTakenOut (ps : List AddressPrefix) (p : AddressPrefix) : Type 0 where
  rest : List AddressPrefix
  size : length ps ≡ suc (length rest)
  apart : AllApart rest
  only : (q : AddressPrefix) → Contains rest q → Contains ps q × (q ≢ p)
  all : (q : AddressPrefix) → Contains ps q → q ≢ p → Contains rest q

take_out : (ps : List AddressPrefix) (p : AddressPrefix) → AllApart ps → Contains ps p → IsTakenOut ps p
take_out [] p apart c = absurd (omega (arith, c.1))
take_out (x ∷ xs) p apart c = elim (parted x p xs c) [
  | inl here ↦ record {
    rest = xs;
    size = refl;
    apart = apart.1;
    only = λ q d. (behind x q xs d, λ e. apart.0 (subst (λ (y : AddressPrefix). Contains xs y) (e ∙ sym here) d));
    all = λ q d ne. elim (parted x q xs d) [ inl e ↦ absurd (ne (sym e ∙ here)) | inr later ↦ later ];
  }
  | inr later ↦
      let r = take_out xs p apart.1 later in
      record {
        rest = x ∷ r.rest;
        size = ap suc r.size;
        apart = (λ d. apart.0 (r.only x d).0, r.apart);
        only = λ q d. elim (parted x q r.rest d) [
          | inl e ↦ (front x q xs e, λ is. apart.0 (subst (λ (y : AddressPrefix). Contains xs y) (sym (e ∙ is)) later))
          | inr in_rest ↦ let o = r.only q in_rest in (behind x q xs o.0, o.1)
        ];
        all = λ q d ne. elim (parted x q xs d) [ inl e ↦ front x q r.rest e | inr in_xs ↦ behind x q r.rest (r.all q in_xs ne) ];
      }
]

-- ---- the rows that name a next hop

cases_prefix : (q p : AddressPrefix) → (q ≡ p) ⊎ (q ≢ p)
cases_prefix q p = by_prefix q p (λ b. (q ≡ p) ⊎ (q ≢ p)) (λ e. inl e) (λ ne. inr ne)

at_row : (named : Rows ℕ) (p q : AddressPrefix) (after : Option ℕ) → q ≡ p → with_row named p after q ≡ after
at_row named p q after e = ap (with_row named p after) e ∙ with_row_here named p after

count_more : (named : Rows ℕ) (a n : ℕ) (p : AddressPrefix) (after : Option ℕ) → IsCount named a n → named p ≢ Some a → after ≡ Some a → IsCount (with_row named p after) a (n + 1)
count_more named a n p after is out names = record {
  list = p ∷ is.list;
  apart = (λ c. out ((is.exact p).0 c), is.apart);
  exact = λ q. elim (cases_prefix q p) [
    | inl e ↦ (λ _. at_row named p q after e ∙ names, λ _. front p q is.list (sym e))
    | inr ne ↦ (
      λ c. elim (parted p q is.list c) [ inl e ↦ absurd (ne (sym e)) | inr later ↦ with_row_elsewhere named p after q ne ∙ (is.exact q).0 later ],
      λ m. behind p q is.list ((is.exact q).1 (sym (with_row_elsewhere named p after q ne) ∙ m)),
    )
  ];
  size = let s = is.size in omega (arith, s);
}

count_less : (named : Rows ℕ) (a n : ℕ) (p : AddressPrefix) (after : Option ℕ) → IsCount named a n → named p ≡ Some a → after ≢ Some a → IsCount (with_row named p after) a (n - 1)
count_less named a n p after is names out =
    let r = take_out is.list p is.apart ((is.exact p).1 names) in
    record {
      list = r.rest;
      apart = r.apart;
      exact = λ q. elim (cases_prefix q p) [
        | inl e ↦ (λ c. absurd ((r.only q c).1 e), λ m. absurd (out (sym (at_row named p q after e) ∙ m)))
        | inr ne ↦ (
          λ c. with_row_elsewhere named p after q ne ∙ (is.exact q).0 (r.only q c).0,
          λ m. r.all q ((is.exact q).1 (sym (with_row_elsewhere named p after q ne) ∙ m)) ne,
        )
      ];
      size = let s = is.size in let t = r.size in omega (arith, s, t);
    }

count_even : (named : Rows ℕ) (a n : ℕ) (p : AddressPrefix) (after : Option ℕ) → IsCount named a n → ((named p ≡ Some a) ↔ (after ≡ Some a)) → IsCount (with_row named p after) a n
count_even named a n p after is same = record {
  list = is.list;
  apart = is.apart;
  exact = λ q. elim (cases_prefix q p) [
    | inl e ↦ (
      λ c. at_row named p q after e ∙ same.0 (ap named (sym e) ∙ (is.exact q).0 c),
      λ m. (is.exact q).1 (ap named e ∙ same.1 (sym (at_row named p q after e) ∙ m)),
    )
    | inr ne ↦ (
      λ c. with_row_elsewhere named p after q ne ∙ (is.exact q).0 c,
      λ m. (is.exact q).1 (sym (with_row_elsewhere named p after q ne) ∙ m),
    )
  ];
  size = is.size;
}

-- whether a row names it, and how often
cases_names : (o : Option ℕ) (a : ℕ) → ((o ≡ Some a) × (once o a ≡ 1)) ⊎ ((o ≢ Some a) × (once o a ≡ 0))
cases_names None a = inr (λ e. let clash : None ≡ Some a = e in cc, refl)
cases_names (Some b) a = elim (cases_eq a b) [
  | inl e ↦ inl (ap Some (sym e), once_here b a e)
  | inr ne ↦ inr (λ e. ne (let same : Some b ≡ Some a = e in let is : b ≡ a = cc in sym is), once_apart b a ne)
]

pub counts_follow : CountsFollow
counts_follow named p after old new are recounts = λ a.
    let n = counted old a in
    let r = recounts a in
    elim (cases_names (named p) a) [
      | inl was ↦ elim (cases_names after a) [
        | inl is ↦
            let k : n ≡ counted new a = let x = was.1 in let y = is.1 in omega (arith, r, x, y) in
            subst (λ (m : ℕ). IsCount (with_row named p after) a m) k (count_even named a n p after (are a) (λ _. is.0, λ _. was.0))
        | inr none ↦
            let k : n - 1 ≡ counted new a = let x = was.1 in let y = none.1 in omega (arith, r, x, y) in
            subst (λ (m : ℕ). IsCount (with_row named p after) a m) k (count_less named a n p after (are a) was.0 none.0)
      ]
      | inr out ↦ elim (cases_names after a) [
        | inl is ↦
            let k : n + 1 ≡ counted new a = let x = out.1 in let y = is.1 in omega (arith, r, x, y) in
            subst (λ (m : ℕ). IsCount (with_row named p after) a m) k (count_more named a n p after (are a) out.0 is.0)
        | inr none ↦
            let k : n ≡ counted new a = let x = out.1 in let y = none.1 in omega (arith, r, x, y) in
            subst (λ (m : ℕ). IsCount (with_row named p after) a m) k (count_even named a n p after (are a) (λ e. absurd (out.0 e), λ e. absurd (none.0 e)))
      ]
    ]

pub nothing_is_counted : NothingIsCounted
nothing_is_counted = λ a. record {
  list = [];
  apart = tt;
  exact = λ q. (λ c. absurd (omega (arith, c.1)), λ m. absurd (let clash : None ≡ Some a = m in cc));
  size = sym (ap counted_in (get-empty nat_cmp a));
}

positive : (o : Option ℕ) → 0 < counted_in o → is_some o ≡ true
positive None lt = absurd (omega (arith, lt))
positive (Some n) lt = refl

counted_some : (o : Option ℕ) → is_some o ≡ true → 0 < counted_in o
counted_some None e = absurd (let clash : false ≡ true = e in cc)
counted_some (Some n) e = omega arith

pub named_is_counted : NamedIsCounted
named_is_counted named counts q a are names =
    let c = ((are a).exact q).1 names in
    positive (get counts a) (let l = c.1 in let s = (are a).size in omega (arith, l, s))

first_of : (named : Rows ℕ) (a : ℕ) (ps : List AddressPrefix) → ((q : AddressPrefix) → Contains ps q → named q ≡ Some a) → 0 < length ps → (q : AddressPrefix) × (named q ≡ Some a)
first_of named a [] only lt = absurd (omega (arith, lt))
first_of named a (p ∷ ps) only lt = (p, only p (front p p ps refl))

pub counted_is_named : CountedIsNamed
counted_is_named named counts a are has =
    let lt = counted_some (get counts a) has in
    first_of named a (are a).list (λ q c. ((are a).exact q).0 c) (let s = (are a).size in omega (arith, lt, s))
