-- Maps of prefixes.
use Rattle.std.proofs.Common.{◌≡◌, Bool, true, false, cond, Option, Some, None, IsSome, is_some, refl, sym, ap, ◌∙◌}
use Rattle.std.specs.Ordering.{eq_by_cmp}
use Rattle.std.specs.FinMap.{FinMap, get, insert, remove, get-insert, get-remove, same_map}
use Rattle.addr4.specs.Prefixes.{AddressPrefix, prefix_cmp}
use Rattle.addr4.proofs.PrefixOrder.{prefixes_total, exact_prefixes, itself, one_prefix}
use Rattle.addr4.proofs.RankLemmas.{another}

module _ {X : Type 0} where
  pub get-insert_same : (m : FinMap prefix_cmp X) (p : AddressPrefix) (v : X) → get (insert m p v) p ≡ Some v
  get-insert_same m p v = get-insert prefixes_total m p v p ∙ ap (λ b. cond b (Some v) (get m p)) (itself p)

  pub get-insert_other : (m : FinMap prefix_cmp X) (p q : AddressPrefix) (v : X) → (q ≡ p → ⊥) → get (insert m p v) q ≡ get m q
  get-insert_other m p q v differ = get-insert prefixes_total m p v q ∙ ap (λ b. cond b (Some v) (get m q)) (another q p differ)

  pub get-remove_same : (m : FinMap prefix_cmp X) (p : AddressPrefix) → get (remove m p) p ≡ None
  get-remove_same m p = get-remove prefixes_total m p p ∙ ap (λ b. cond b None (get m p)) (itself p)

  pub get-remove_other : (m : FinMap prefix_cmp X) (p q : AddressPrefix) → (q ≡ p → ⊥) → get (remove m p) q ≡ get m q
  get-remove_other m p q differ = get-remove prefixes_total m p q ∙ ap (λ b. cond b None (get m q)) (another q p differ)

  twice : (b : Bool) (x y : X) (rest : Option X) → cond b (Some y) (cond b (Some x) rest) ≡ cond b (Some y) rest
  twice true x y rest = refl
  twice false x y rest = refl

  pub insert-insert : (m : FinMap prefix_cmp X) (p : AddressPrefix) (x y : X) → insert (insert m p x) p y ≡ insert m p y
  insert-insert m p x y = same_map prefixes_total exact_prefixes _ _ (λ q.
      get-insert prefixes_total (insert m p x) p y q
      ∙ ap (cond (eq_by_cmp prefix_cmp q p) (Some y)) (get-insert prefixes_total m p x q)
      ∙ twice (eq_by_cmp prefix_cmp q p) x y (get m q)
      ∙ sym (get-insert prefixes_total m p y q))

  twice_none : (b : Bool) (x : X) (rest : Option X) → cond b None (cond b (Some x) rest) ≡ cond b None rest
  twice_none true x rest = refl
  twice_none false x rest = refl

  pub remove-insert : (m : FinMap prefix_cmp X) (p : AddressPrefix) (x : X) → remove (insert m p x) p ≡ remove m p
  remove-insert m p x = same_map prefixes_total exact_prefixes _ _ (λ q.
      get-remove prefixes_total (insert m p x) p q
      ∙ ap (cond (eq_by_cmp prefix_cmp q p) None) (get-insert prefixes_total m p x q)
      ∙ twice_none (eq_by_cmp prefix_cmp q p) x (get m q)
      ∙ sym (get-remove prefixes_total m p q))

  pub remove_absent : (m : FinMap prefix_cmp X) (p : AddressPrefix) → get m p ≡ None → remove m p ≡ m
  remove_absent m p none = same_map prefixes_total exact_prefixes _ _ (λ q. elim (eq_by_cmp prefix_cmp q p) as (λ b. eq_by_cmp prefix_cmp q p ≡ b → get (remove m p) q ≡ get m q) [
    | true ↦ λ e. get-remove prefixes_total m p q ∙ ap (λ b. cond b None (get m q)) e ∙ sym (ap (get m) (one_prefix q p e) ∙ none)
    | false ↦ λ e. get-remove prefixes_total m p q ∙ ap (λ b. cond b None (get m q)) e
  ] refl)

  pub value_of_has : (o : Option X) → IsSome o → (x : X) × (o ≡ Some x)
  value_of_has None is = absurd (cc)
  value_of_has (Some x) is = (x, refl)

pub same_slot : {A : Type 0} (x y : A) → Some x ≡ Some y → x ≡ y
same_slot x y e = cc

pub set_twice : {X : Type 0} (m m1 m2 : FinMap prefix_cmp X) (p : AddressPrefix) (x y : X) → m1 ≡ insert m p x → m2 ≡ insert m1 p y → m2 ≡ insert m p y
set_twice m m1 m2 p x y e f = f ∙ ap (λ k. insert k p y) e ∙ insert-insert m p x y

pub none_of : {A : Type 0} (o : Option A) → is_some o ≡ false → o ≡ None
none_of None e = refl
none_of (Some x) e = absurd (cc)
