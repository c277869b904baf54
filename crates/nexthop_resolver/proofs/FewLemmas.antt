-- The known next hops are no more than the rows that name them.
use Rattle.std.proofs.Common.{◌≡◌, ◌≢◌, ℕ, zero, suc, ◌+◌, ◌-◌, ◌≤◌, Bool, true, false, cond, List, [], ◌∷◌, map, length, Option, Some, None, is_some, IsSome, unwrap_or, refl, sym, ap, ◌∙◌, arith}
use Rattle.std.proofs.lemmas.List.{length-map}
use Rattle.std.specs.List.{Contains}
use Rattle.std.specs.Option.{option_map}
use Rattle.std.specs.declared.cmp.Ordering.{Ordering}
use Rattle.std.specs.Ordering.{nat_cmp}
use Rattle.std.specs.Cmp.{IsTotalOrder, nat_cmp_total}
use Rattle.std.specs.FinMap.{FinMap, IsAntisymmetric, get, remove, empty, len, contains_key, get-empty, len-empty, len-remove, same_map, nat_cmp-IsAntisymmetric}
use Rattle.addr4.specs.Prefixes.{AddressPrefix}
use Rattle.link_change.specs.Rows.{Rows}
use Rattle.link_change.proofs.MapLemmas.{left_apart}
use Rattle.nexthop_known.proofs.CountLemmas.{counted_is_named}
use Rattle.nexthop_resolver.specs.Resolving.{named_by}
use Rattle.nexthop_resolver.specs.Laws.{KnownAreFew}
use Rattle.nexthop_resolver.proofs.AskLemmas.{some_of, none_of}

-- ---- two maps that share no key have no more together than a list that has all their keys
later : {A : Type 0} (x q : A) (rest : List A) → Contains (x ∷ rest) q → q ≢ x → Contains rest q
later x q rest (zero, lt, is) ne = absurd (ne (sym is))
later x q rest (suc i, lt, is) ne = (i, omega (arith, lt), is)

both_less : (x y : Bool) (n k n' k' most : ℕ) → (x ≡ true → y ≡ true → ⊥) → n' ≡ cond x (n - 1) n → k' ≡ cond y (k - 1) k → n' + k' ≤ most → n + k ≤ suc most
both_less true true n k n' k' most apart a b le = absurd (apart refl refl)
both_less true false n k n' k' most apart a b le = omega (arith, a, b, le)
both_less false true n k n' k' most apart a b le = omega (arith, a, b, le)
both_less false false n k n' k' most apart a b le = omega (arith, a, b, le)

module _ {K : Type 0} {R : K → K → Ordering} (total : IsTotalOrder R) (exact : IsAntisymmetric R) where
  module _ {X : Type 0} where
    abbrev pub AreIn : List K → FinMap R X → Type 0
    AreIn ks m = (k : K) → contains_key m k ≡ true → Contains ks k

    no_key : (m : FinMap R X) → AreIn [] m → len m ≡ 0
    no_key m each =
        ap len (same_map total exact m empty (λ k. none_of (get m k) (elim (contains_key m k) as (λ b. contains_key m k ≡ b → contains_key m k ≡ false) [ true ↦ λ has. absurd (let w = each k has in omega (arith, w.1)) | false ↦ λ e. e ] refl) ∙ sym (get-empty R k)))
        ∙ len-empty R X

    left_of : (m : FinMap R X) (x k : K) → contains_key (remove m x) k ≡ true → (k ≢ x) × (contains_key m k ≡ true)
    left_of m x k has = let v = some_of (get (remove m x) k) has in let w = left_apart total exact m x k v.0 v.1 in (w.0, ap is_some w.1)

    rest_in : (x : K) (ks : List K) (m : FinMap R X) → AreIn (x ∷ ks) m → AreIn ks (remove m x)
    rest_in x ks m each k has = let w = left_of m x k has in later x k ks (each k w.1) w.0

  pub few_both : {X Y : Type 0} (ks : List K) (a : FinMap R X) (b : FinMap R Y) → ((k : K) → contains_key a k ≡ true → contains_key b k ≡ true → ⊥) → AreIn ks a → AreIn ks b → len a + len b ≤ length ks
  few_both [] a b apart ina inb = let x = no_key a ina in let y = no_key b inb in omega (arith, x, y)
  few_both (k ∷ ks) a b apart ina inb =
      both_less (contains_key a k) (contains_key b k) (len a) (len b) (len (remove a k)) (len (remove b k)) (length ks) (apart k) (len-remove total a k) (len-remove total b k)
      (few_both ks (remove a k) (remove b k) (λ q x y. apart q (left_of a k q x).1 (left_of b k q y).1) (rest_in k ks a ina) (rest_in k ks b inb))

  pub few_keys : {X : Type 0} (ks : List K) (m : FinMap R X) → AreIn ks m → len m ≤ length ks
  few_keys {X} ks m each =
      let none : (k : K) → contains_key (empty {X = X} {R = R}) k ≡ false = λ k. ap is_some (get-empty R k) in
      let both = few_both {Y = X} ks m empty (λ k _ has. let clash : false ≡ true = sym (none k) ∙ has in cc) each (λ k has. absurd (let clash : false ≡ true = sym (none k) ∙ has in cc)) in
      omega (arith, both)

-- ---- each key is named at a prefix of the list
abbrev hop_at : Rows ℕ → AddressPrefix → ℕ
hop_at named p = unwrap_or (named p) 0

mapped : (named : Rows ℕ) (ps : List AddressPrefix) (q : AddressPrefix) (a : ℕ) → named q ≡ Some a → Contains ps q → Contains (map (hop_at named) ps) a
mapped named (p ∷ ps) q a at (zero, lt, is) = (zero, omega arith, ap (hop_at named) is ∙ ap (λ (o : Option ℕ). unwrap_or o 0) at)
mapped named (p ∷ ps) q a at (suc i, lt, is) = let w = mapped named ps q a at (i, omega (arith, lt), is) in (suc w.0, omega (arith, w.1), w.2)
mapped named [] q a at (i, lt, is) = absurd (omega (arith, lt))

module _ {X : Type 0} (named : Rows ℕ) where
  pub few : (ps : List AddressPrefix) (m : FinMap nat_cmp X) → ((a : ℕ) → contains_key m a ≡ true → (q : AddressPrefix) × (named q ≡ Some a) × Contains ps q) → len m ≤ length ps
  few ps m each =
      let le = few_keys nat_cmp_total nat_cmp-IsAntisymmetric (map (hop_at named) ps) m (λ a has. let w = each a has in mapped named ps w.0 a w.1 w.2) in
      let same = length-map ps (hop_at named) in
      omega (arith, le, same)

some_row : {R : Type 0} (hop : R → ℕ) (o : Option R) (a : ℕ) → option_map hop o ≡ Some a → IsSome o
some_row hop None a e = absurd (cc)
some_row hop (Some r) a e = refl

pub known_are_few : {A R : Type 0} → KnownAreFew A R
known_are_few hop upper s prefixes named counted covers =
    few (named_by hop upper) prefixes s.known (λ a has.
    let w = counted_is_named (named_by hop upper) s.counts a counted (sym (named a) ∙ has) in
    (w.0, w.1, covers w.0 (some_row hop (upper w.0) a w.1)))
