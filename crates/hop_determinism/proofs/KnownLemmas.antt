-- What is counted and known of next hops is one.
use Rattle.std.proofs.Common.{◌≡◌, ℕ, true, false, List, [], ◌∷◌, Option, Some, None, is_some, refl, sym, ap, ◌∙◌, arith, Decides}
use Rattle.std.specs.Cmp.{nat_cmp_total, eq_by_cmp_equiv}
use Rattle.std.specs.FinMap.{get, same_map, nat_cmp-IsAntisymmetric}
use Rattle.std.specs.List.{Contains, AllByRecursion, IsDistinct}
use Rattle.std.specs.Ordering.{eq_by_cmp}
use Rattle.std.proofs.lemmas.Bool.Decides.{Decides-like, same_from_decides}
use Rattle.std.proofs.lemmas.List.Elements.{Contains-append_right}
use Rattle.std.proofs.lemmas.Map.Made.{is_member-Decides, length-from_same_keys}
use Rattle.addr4.specs.Prefixes.{AddressPrefix, prefix_cmp}
use Rattle.addr4.proofs.PrefixOrder.{by_prefix, itself, one_prefix, prefixes_total}
use Rattle.link_change.specs.Rows.{Rows}
use Rattle.nexthop_known.specs.Hops.{Hop}
use Rattle.nexthop_known.specs.Hops.{Hops, IsMapped}
use Rattle.nexthop_known.specs.Counts.{counted, counted_in, AllApart, IsCount}
use Rattle.hop_determinism.specs.Laws.{CountsAreOne, LeastStaleIsOne}

-- ---- how many rows name a next hop
-- two prefixes are told apart by their order
told_apart : (p q : AddressPrefix) → Decides (eq_by_cmp prefix_cmp p q) (p ≡ q)
told_apart p q = (one_prefix p q, λ same. ap (eq_by_cmp prefix_cmp p) (sym same) ∙ itself p)

-- none of a list's is equal to one that it hasn't
none_equal : (p : AddressPrefix) (ps : List AddressPrefix) → (Contains ps p → ⊥) → AllByRecursion (λ q. eq_by_cmp prefix_cmp p q ≡ false) ps
none_equal p [] out = tt
none_equal p (q ∷ ps) out = (
  by_prefix p q (λ b. b ≡ false) (λ same. absurd (out (0, omega arith, sym same))) (λ _. refl),
  none_equal p ps (λ c. out (Contains-append_right (q ∷ []) ps p c)),
)

-- where no prefix stands twice, none is equal to one behind it
distinct : (ps : List AddressPrefix) → AllApart ps → IsDistinct (eq_by_cmp prefix_cmp) ps
unfolding IsDistinct
distinct [] apart = tt
distinct (p ∷ ps) apart = (none_equal p ps apart.0, distinct ps apart.1)

-- two lists without repeats, of the same rows, are as long
count_is_one : (named : Rows ℕ) (a m n : ℕ) → IsCount named a m → IsCount named a n → m ≡ n
count_is_one named a m n x y =
    sym x.size
    ∙ length-from_same_keys (eq_by_cmp_equiv prefixes_total) x.list y.list (distinct x.list x.apart) (distinct y.list y.apart) (λ q.
    same_from_decides _ _ (is_member-Decides told_apart x.list q)
    (Decides-like _ (λ c. (x.exact q).1 ((y.exact q).0 c)) (λ c. (y.exact q).1 ((x.exact q).0 c)) (is_member-Decides told_apart y.list q)))
    ∙ y.size

-- the number beside one, or none, is told by the whole
same_number : (o n : Option ℕ) → counted_in o ≡ counted_in n → o ≡ n
same_number None None e = refl
same_number None (Some n) e = absurd (omega (arith, e))
same_number (Some m) None e = absurd (omega (arith, e))
same_number (Some m) (Some n) e = let same : m ≡ n = omega (arith, e) in ap Some same

pub counts_are_one : CountsAreOne
counts_are_one named one other x y = same_map nat_cmp_total nat_cmp-IsAntisymmetric one other (λ a.
    same_number (get one a) (get other a) (count_is_one named a (counted one a) (counted other a) (x a) (y a)))

-- ---- what is known
-- both are there or neither, and then they are the same
pub same_option : {X : Type 0} (o n : Option X) → (is_some o ≡ true → is_some n ≡ true) → (is_some n ≡ true → is_some o ≡ true) → ((x y : X) → o ≡ Some x → n ≡ Some y → x ≡ y) → o ≡ n
same_option None None there back same = refl
same_option None (Some y) there back same = let clash : false ≡ true = back refl in cc
same_option (Some x) None there back same = let clash : false ≡ true = there refl in cc
same_option (Some x) (Some y) there back same = ap Some (same x y refl refl)

module _ {A : Type 0} where
  -- what was made of each known one
  pub mapped_is_one : (f : Hop A → Hop A) (old new it : Hops A) → IsMapped f old new → IsMapped f old it → new ≡ it
  mapped_is_one f old new it x y = same_map nat_cmp_total nat_cmp-IsAntisymmetric new it (λ a. x a ∙ sym (y a))

  pub least_is_one : LeastStaleIsOne A
  least_is_one hops None None x y = refl
  least_is_one hops None (Some b) x y = absurd (x b y.0.0 y.0.1 y.0.2)
  least_is_one hops (Some a) None x y = absurd (y a x.0.0 x.0.1 x.0.2)
  least_is_one hops (Some a) (Some b) x y =
      let less = x.1 b y.0.0 y.0.1 y.0.2 in
      let more = y.1 a x.0.0 x.0.1 x.0.2 in
      let same : a ≡ b = omega (arith, less, more) in
      ap Some same
