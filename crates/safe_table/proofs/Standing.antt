-- Where iterators stand.
use Rattle.std.proofs.Common.{◌≡◌, ◌≢◌, ℕ, zero, suc, ◌+◌, ◌<◌, ◌≤◌, true, false, cond, List, [], ◌∷◌, get_or, length, Option, Some, None, is_some, IsSome, count_by, refl, sym, ap, subst, ◌∙◌, inl, inr, add-zero, zero-add, arith}
use Rattle.std.specs.Ordering.{nat_cmp, eq_by_cmp}
use Rattle.std.specs.Cmp.{nat_cmp_total}
use Rattle.std.specs.FinMap as map
use Rattle.std.specs.FinMap.{find, get-from_entries, get-insert, get-remove, same_map, nat_cmp-IsAntisymmetric}
use Rattle.std.proofs.lemmas.Bool.{cases_eq}
use Rattle.std.proofs.lemmas.List.Sums.{sum_by-cons, sum_by-set}
use Rattle.slab.proofs.SlabLemmas.{ContainsKey-within}
use Rattle.slab.specs.Slab.{Slab, get, slab_len, with_value, Updates, entries_from}
use Rattle.addr4.specs.Prefixes.{AddressPrefix, prefix_cmp}
use Rattle.addr4.specs.Places.{Place}
use Rattle.addr4.specs.declared.place.Place.TheVariants.{Before, At}
use Rattle.safe_table.specs.Fields.{stands_at, standing, iterators_of}

abbrev pub stand : AddressPrefix → Option Place → ℕ
stand p x = cond (stands_at p x) 1 0

pub same_standing : (p : AddressPrefix) (xs ys : List (Option Place)) → ((k : ℕ) → get_or xs k None ≡ get_or ys k None) → standing p xs ≡ standing p ys
same_standing p [] [] same = refl
same_standing p [] (y ∷ ys) same =
    let here : stand p None ≡ stand p y = ap (stand p) (same 0) in
    let rest : 0 ≡ standing p ys = same_standing p [] ys (λ k. same (suc k)) in
    omega arith
same_standing p (x ∷ xs) [] same =
    let here : stand p x ≡ stand p None = ap (stand p) (same 0) in
    let rest : standing p xs ≡ 0 = same_standing p xs [] (λ k. same (suc k)) in
    omega arith
same_standing p (x ∷ xs) (y ∷ ys) same =
    let here : stand p x ≡ stand p y = ap (stand p) (same 0) in
    let rest : standing p xs ≡ standing p ys = same_standing p xs ys (λ k. same (suc k)) in
    omega arith

pub moved_standing : (p : AddressPrefix) (key : ℕ) (xs ys : List (Option Place)) → ((k : ℕ) → k ≢ key → get_or xs k None ≡ get_or ys k None)
    → standing p ys + stand p (get_or xs key None) ≡ standing p xs + stand p (get_or ys key None)
moved_standing p zero [] [] same = refl
moved_standing p zero [] (y ∷ ys) same =
    let rest : 0 ≡ standing p ys = same_standing p [] ys (λ k. same (suc k) (λ e. absurd (cc))) in
    omega arith
moved_standing p zero (x ∷ xs) [] same =
    let rest : standing p xs ≡ 0 = same_standing p xs [] (λ k. same (suc k) (λ e. absurd (cc))) in
    omega arith
moved_standing p zero (x ∷ xs) (y ∷ ys) same =
    let rest : standing p xs ≡ standing p ys = same_standing p xs ys (λ k. same (suc k) (λ e. absurd (cc))) in
    omega arith
moved_standing p (suc key) [] [] same = refl
moved_standing p (suc key) [] (y ∷ ys) same =
    let here : stand p None ≡ stand p y = ap (stand p) (same 0 (λ e. absurd (cc))) in
    let rest : standing p ys + stand p None ≡ 0 + stand p (get_or ys key None) = moved_standing p key [] ys (λ k differ. same (suc k) (λ e. differ (cc))) in
    omega arith
moved_standing p (suc key) (x ∷ xs) [] same =
    let here : stand p x ≡ stand p None = ap (stand p) (same 0 (λ e. absurd (cc))) in
    let rest : 0 + stand p (get_or xs key None) ≡ standing p xs + stand p None = moved_standing p key xs [] (λ k differ. same (suc k) (λ e. differ (cc))) in
    omega arith
moved_standing p (suc key) (x ∷ xs) (y ∷ ys) same =
    let here : stand p x ≡ stand p y = ap (stand p) (same 0 (λ e. absurd (cc))) in
    let rest = moved_standing p key xs ys (λ k differ. same (suc k) (λ e. differ (cc))) in
    omega arith

-- no more stand at a prefix than there are
stand_le : (p : AddressPrefix) (x : Option Place) → stand p x ≤ cond (is_some x) 1 0
stand_le p None = omega arith
stand_le p (Some Before) = omega arith
stand_le p (Some (At q)) = elim (eq_by_cmp prefix_cmp p q) as (λ b. cond b 1 0 ≤ 1) [ true ↦ omega arith | false ↦ omega arith ]

pub standing_le : (p : AddressPrefix) (xs : List (Option Place)) → standing p xs ≤ count_by is_some xs
standing_le p [] = omega arith
standing_le p (x ∷ xs) = omega (arith, standing_le p xs, stand_le p x, sum_by-cons (λ o. cond (is_some o) 1 0) x xs)

-- and less where one stands elsewhere
pub standing_below : (p : AddressPrefix) (key : ℕ) (xs : List (Option Place)) (x : Place) → get_or xs key None ≡ Some x → stand p (Some x) ≡ 0 → standing p xs < count_by is_some xs
standing_below p key [] x e away = absurd (cc)
standing_below p zero (y ∷ xs) x e away =
    let here : stand p y ≡ 0 = ap (stand p) e ∙ away in
    let is : cond (is_some y) 1 0 ≡ 1 = ap (λ o. cond (is_some o) 1 0) e in
    counted (stand p y) (standing p xs) (cond (is_some y) 1 0) (count_by is_some xs) (count_by is_some (y ∷ xs)) here is (standing_le p xs) (sum_by-cons (λ o. cond (is_some o) 1 0) y xs)
  where
    counted : (a b i n m : ℕ) → a ≡ 0 → i ≡ 1 → b ≤ n → m ≡ i + n → a + b < m
    counted a b i n m h k le e = omega arith
standing_below p (suc key) (y ∷ xs) x e away = counted (stand p y) (standing p xs) (cond (is_some y) 1 0) (count_by is_some xs) (count_by is_some (y ∷ xs)) (stand_le p y) (standing_below p key xs x e away) (sum_by-cons (λ o. cond (is_some o) 1 0) y xs)
  where
    counted : (a b i n m : ℕ) → a ≤ i → b < n → m ≡ i + n → a + b < m
    counted a b i n m h lt e = omega arith

-- none stands at a prefix where none of so many does, and there are no more
pub none_within : (p : AddressPrefix) (n : ℕ) (xs : List (Option Place)) → length xs ≤ n → ((k : ℕ) → k < n → stands_at p (get_or xs k None) ≡ false) → standing p xs ≡ 0
none_within p n [] le none = refl
none_within p zero (x ∷ xs) le none = absurd (omega arith)
none_within p (suc n) (x ∷ xs) le none =
    let here : stand p x ≡ 0 = ap (λ b. cond b 1 0) (none 0 (omega arith)) in
    let rest : standing p xs ≡ 0 = none_within p n xs (omega arith) (λ k less. none (suc k) (omega (arith, less))) in
    omega arith

-- one that stands there counts
pub some_stand : (p : AddressPrefix) (key : ℕ) (xs : List (Option Place)) (x : Place) → get_or xs key None ≡ Some x → stand p (Some x) ≡ 1 → 0 < standing p xs
some_stand p key [] x e here = absurd (cc)
some_stand p zero (y ∷ xs) x e here = let one : stand p y ≡ 1 = ap (stand p) e ∙ here in omega arith
some_stand p (suc key) (y ∷ xs) x e here = omega (arith, some_stand p key xs x e here)

-- ---- the iterators as a map
find-entries_before : (first key : ℕ) (xs : List (Option Place)) → key < first → find nat_cmp key (entries_from first xs) ≡ None
find-entries_before first key [] lt = refl
find-entries_before first key (None ∷ xs) lt = find-entries_before (first + 1) key xs (omega arith)
find-entries_before first key (Some x ∷ xs) lt = rw (differ key first (omega arith)) (find-entries_before (first + 1) key xs (omega arith))
  where
    differ : (a b : ℕ) → a < b → eq_by_cmp nat_cmp a b ≡ false
    differ a b lt = grind arith

same_key : (a : ℕ) → eq_by_cmp nat_cmp a a ≡ true
same_key a = grind arith

other_key : (a b : ℕ) → a ≢ b → eq_by_cmp nat_cmp a b ≡ false
other_key a b differ = grind arith

find-entries_from : (first k : ℕ) (xs : List (Option Place)) → find nat_cmp (first + k) (entries_from first xs) ≡ get_or xs k None
find-entries_from first k [] = refl
find-entries_from first zero (None ∷ xs) = find-entries_before (first + 1) (first + 0) xs (omega arith)
find-entries_from first (suc k) (None ∷ xs) = let e : first + suc k ≡ first + 1 + k = omega arith in ap (λ n. find nat_cmp n (entries_from (first + 1) xs)) e ∙ find-entries_from (first + 1) k xs
find-entries_from first zero (Some x ∷ xs) = rw (add-zero, same_key first) refl
find-entries_from first (suc k) (Some x ∷ xs) =
    let e : first + suc k ≡ first + 1 + k = omega arith in
    rw (other_key (first + suc k) first (λ same. absurd (omega (arith, same)))) (ap (λ n. find nat_cmp n (entries_from (first + 1) xs)) e ∙ find-entries_from (first + 1) k xs)

pub get-iterators : (xs : List (Option Place)) (id : ℕ) → map.get (iterators_of xs) id ≡ get_or xs id None
get-iterators xs id = get-from_entries nat_cmp_total (entries_from 0 xs) id ∙ ap (λ n. find nat_cmp n (entries_from 0 xs)) (sym (zero-add id)) ∙ find-entries_from 0 id xs

pub iterators_insert : (old new : Slab Place) (id : ℕ) (x : Place) → Updates old new id (Some x) → iterators_of new.slots ≡ map.insert (iterators_of old.slots) id x
iterators_insert old new id x updates = same_map nat_cmp_total nat_cmp-IsAntisymmetric _ _ (λ q.
    get-iterators new.slots q ∙ at q ∙ sym (get-insert nat_cmp_total (iterators_of old.slots) id x q))
  where
    at : (q : ℕ) → get_or new.slots q None ≡ cond (eq_by_cmp nat_cmp q id) (Some x) (map.get (iterators_of old.slots) q)
    at q = elim (cases_eq q id) [
      | inl same ↦ ap (λ n. get_or new.slots n None) same ∙ updates.changed ∙ sym (ap (λ b. cond b (Some x) (map.get (iterators_of old.slots) q)) (ap (λ n. eq_by_cmp nat_cmp n id) same ∙ same_key id))
      | inr differs ↦ updates.others q differs ∙ sym (get-iterators old.slots q) ∙ sym (ap (λ b. cond b (Some x) (map.get (iterators_of old.slots) q)) (other_key q id differs))
    ]

pub iterators_remove : (old new : Slab Place) (id : ℕ) → Updates old new id None → iterators_of new.slots ≡ map.remove (iterators_of old.slots) id
iterators_remove old new id updates = same_map nat_cmp_total nat_cmp-IsAntisymmetric _ _ (λ q.
    get-iterators new.slots q ∙ at q ∙ sym (get-remove nat_cmp_total (iterators_of old.slots) id q))
  where
    at : (q : ℕ) → get_or new.slots q None ≡ cond (eq_by_cmp nat_cmp q id) None (map.get (iterators_of old.slots) q)
    at q = elim (cases_eq q id) [
      | inl same ↦ ap (λ n. get_or new.slots n None) same ∙ updates.changed ∙ sym (ap (λ b. cond b None (map.get (iterators_of old.slots) q)) (ap (λ n. eq_by_cmp nat_cmp n id) same ∙ same_key id))
      | inr differs ↦ updates.others q differs ∙ sym (get-iterators old.slots q) ∙ sym (ap (λ b. cond b None (map.get (iterators_of old.slots) q)) (other_key q id differs))
    ]

pub kept_place : (xs : List (Option Place)) (id : ℕ) → IsSome (map.get (iterators_of xs) id) → IsSome (get_or xs id None)
kept_place xs id h = subst IsSome (get-iterators xs id) h

-- an iterator that goes on is one as before
pub count_kept : (places : Slab Place) (id : ℕ) (x y : Place) → get places id ≡ Some x → slab_len (with_value places id y) ≡ slab_len places
count_kept places id x y at =
    let counts : Option Place → ℕ = λ o. cond (is_some o) 1 0 in
    let within = ContainsKey-within places id (subst IsSome (sym at) refl) in
    let one : counts (get places id) ≡ 1 = ap counts at in
    omega (arith, sum_by-set counts places.slots id (Some y) None within)

-- an iterator goes from a place to another
pub moved_by : (old new : Slab Place) (id : ℕ) (x : Place) (slot : Option Place) (q : AddressPrefix) → get old id ≡ Some x → Updates old new id slot → standing q new.slots + stand q (Some x) ≡ standing q old.slots + stand q slot
moved_by old new id x slot q at updates =
    let m = moved_standing q id old.slots new.slots (λ k differ. sym (updates.others k differ)) in
    let a : stand q (get_or old.slots id None) ≡ stand q (Some x) = ap (stand q) at in
    let b : stand q (get_or new.slots id None) ≡ stand q slot = ap (stand q) updates.changed in
    omega arith

pub live_set : (old new : Slab Place) (id : ℕ) (x : Place) → Updates old new id (Some x) → IsSome (map.get (iterators_of new.slots) id)
live_set old new id x updates = ap is_some (get-iterators new.slots id ∙ updates.changed)
