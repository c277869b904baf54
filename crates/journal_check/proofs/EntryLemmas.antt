-- A finite map, against a list of entries in order: comparing, and copying one by one.
use Rattle.std.proofs.Common.{◌≡◌, ℕ, ◌&&◌, Bool, true, false, cond, nat_eq, List, [], ◌∷◌, ◌++◌, Option, Some, None, refl, sym, ap, ◌∙◌}
use Rattle.std.specs.Bool.{Decides}
use Rattle.std.proofs.lemmas.Bool.Decides.{Decides-and, Decides-like, Decides-eqb}
use Rattle.std.specs.Ordering.{eq_by_cmp}
use Rattle.std.specs.declared.cmp.Ordering.{Ordering}
use Rattle.std.specs.Cmp.{IsTotalOrder, eq_by_cmp_equiv}
use Rattle.std.specs.Cmp.Lexicographic.{pointwise, pointwise_decides, bytes_decides}
use Rattle.std.specs.List.Sorted.{IsStrictlySortedBy}
use Rattle.std.specs.BTreeMap.{is_at}
use Rattle.std.specs.Map.{keys_of}
use Rattle.std.specs.FinMap.{FinMap, IsAntisymmetric, get, insert, empty, entries, from_entries, find, get-from_entries, get-insert, get-empty, same_map}
use Rattle.std.proofs.lemmas.Map.{lookup-none}
use Rattle.std.proofs.lemmas.Map.Entries.{none_past_head}
use Rattle.std.proofs.lemmas.Map.Keys.{IsDistinct-from_sorted, sorted_tail}
use Rattle.addr4.specs.Prefixes.{AddressPrefix, same_prefix}
use Rattle.addr4.proofs.HalfLemmas.{one_address_prefix}
use Rattle.link_change.proofs.MapLemmas.{find_at, entries_kept}

-- the first of two, if there is one
abbrev first_of : {X : Type 0} → Option X → Option X → Option X
first_of None b = b
first_of (Some a) b = Some a

first_alone : {X : Type 0} (a : Option X) → first_of a None ≡ a
first_alone None = refl
first_alone (Some a) = refl

one_step : {X : Type 0} (b : Bool) (v : X) (later there : Option X) → (b ≡ true → later ≡ None) → first_of later (cond b (Some v) there) ≡ first_of (cond b (Some v) later) there
one_step true v later there none = ap (λ o. first_of o (Some v)) (none refl)
one_step false v later there none = refl

module _ {K X : Type 0} {R : K → K → Ordering} where
  -- the map with these entries inserted one by one
  abbrev pub inserted : FinMap R X → List (K × X) → FinMap R X
  inserted m [] = m
  inserted m (e ∷ es) = inserted (insert m e.0 e.1) es

  pub inserted_more : (m : FinMap R X) (es : List (K × X)) (e : K × X) → inserted m (es ++ e ∷ []) ≡ insert (inserted m es) e.0 e.1
  inserted_more m [] e = refl
  inserted_more m (x ∷ es) e = inserted_more (insert m x.0 x.1) es e

  module _ (total : IsTotalOrder R) where
    none_later : (q : K) (e : K × X) (es : List (K × X)) → IsStrictlySortedBy R (keys_of (e ∷ es)) → eq_by_cmp R q e.0 ≡ true → find R q es ≡ None
    none_later q e es sorted is = find_at R es q ∙ lookup-none (is_at (R q)) es (none_past_head (eq_by_cmp_equiv total) q e es (IsDistinct-from_sorted R (keys_of (e ∷ es)) sorted) is)

    get-inserted : (m : FinMap R X) (es : List (K × X)) (q : K) → IsStrictlySortedBy R (keys_of es) → get (inserted m es) q ≡ first_of (find R q es) (get m q)
    get-inserted m [] q sorted = refl
    get-inserted m (e ∷ es) q sorted =
        get-inserted (insert m e.0 e.1) es q (sorted_tail R e.0 (keys_of es) sorted)
        ∙ (ap (first_of (find R q es)) (get-insert total m e.0 e.1 q)
        ∙ one_step (eq_by_cmp R q e.0) e.1 (find R q es) (get m q) (none_later q e es sorted))

    -- entries in order, inserted one by one, make their map
    pub inserted_all : IsAntisymmetric R → (es : List (K × X)) → IsStrictlySortedBy R (keys_of es) → inserted empty es ≡ from_entries es
    inserted_all exact es sorted = same_map total exact _ _ (λ q.
        get-inserted empty es q sorted ∙ (ap (first_of (find R q es)) (get-empty R q) ∙ (first_alone (find R q es) ∙ sym (get-from_entries total es q))))

    -- entries in order are those of their map
    pub same_entries_of : (es fs : List (K × X)) → IsStrictlySortedBy R (keys_of es) → IsStrictlySortedBy R (keys_of fs) → from_entries {R = R} es ≡ from_entries fs → es ≡ fs
    same_entries_of es fs g h same = sym (entries_kept total es g) ∙ (ap entries same ∙ entries_kept total fs h)

-- what two maps of texts are compared by
abbrev pub same_row : AddressPrefix × List ℕ → AddressPrefix × List ℕ → Bool
same_row e f = same_prefix e.0 f.0 && pointwise nat_eq e.1 f.1

prefix_decides : (p q : AddressPrefix) → Decides (same_prefix p q) (p ≡ q)
prefix_decides p q = Decides-like (same_prefix p q) (λ h. one_address_prefix p q h.0 h.1) (λ e. (ap (λ (n : AddressPrefix). n.address) e, ap (λ (n : AddressPrefix). n.length) e))
    (Decides-and (nat_eq p.address q.address) (nat_eq p.length q.length) (Decides-eqb p.address q.address) (Decides-eqb p.length q.length))

row_decides : (e f : AddressPrefix × List ℕ) → Decides (same_row e f) (e ≡ f)
row_decides e f = Decides-like (same_row e f) (λ h. λ i. (h.0 i, h.1 i)) (λ x. (ap (λ (y : AddressPrefix × List ℕ). y.0) x, ap (λ (y : AddressPrefix × List ℕ). y.1) x))
    (Decides-and (same_prefix e.0 f.0) (pointwise nat_eq e.1 f.1) (prefix_decides e.0 f.0) (bytes_decides e.1 f.1))

pub rows_decide : (es fs : List (AddressPrefix × List ℕ)) → Decides (pointwise same_row es fs) (es ≡ fs)
rows_decide es fs = pointwise_decides row_decides es fs
