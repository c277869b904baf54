-- What a table keeps.
use Rattle.std.proofs.Common.{◌≡◌, ◌⊎◌, ℕ, zero, suc, ◌+◌, ◌-◌, ◌^◌, ◌<◌, Bool, true, false, cond, List, [], ◌∷◌, get_or, Option, Some, None, is_some, count_by, IsSome, refl, sym, ap, subst, ◌∙◌, inl, inr, arith}
use Rattle.std.specs.Prelude.{not, Result, Ok, Err, IsOk, ◌==◌}
use Rattle.std.specs.Ordering.{eq_by_cmp}
use Rattle.std.proofs.lemmas.Bool.Decides.{nat_tests}
use Rattle.std.specs.FinMap as map
use Rattle.std.specs.FinMap.{FinMap, find, get-entries, get-insert, get-remove, get-empty, len-insert, len-remove, len-empty, empty_of_len, same_map}
use Rattle.slab.specs.Slab.{Slab, get, Updates}
use Rattle.addr4.specs.Places.{key_of, IsBeyond, IsNextRow}
use Rattle.addr4.specs.Prefixes.{ComesBefore, AddressPrefix, prefix_cmp}
use Rattle.addr4.specs.Places.{Place}
use Rattle.addr4.specs.declared.place.Place.TheVariants.{Before, At}
use Rattle.addr4.proofs.PrefixOrder.{prefixes_total, exact_prefixes, itself, one_prefix}
use Rattle.addr4.proofs.RankLemmas.{another, before_is, further, one_first}
use Rattle.nibble_trie.specs.Contents.{HasKey}
use Rattle.safe_table.specs.Slots.{Slot}
use Rattle.safe_table.specs.Tables.{Rows}
use Rattle.safe_table.specs.Fields.{iterators_of, MatchPlace, standing, live_value, readers_of, with_live, live_from, live_rows, IsKept, IsSound, Leaves}
use Rattle.safe_table.proofs.Maps.{get-insert_same, get-insert_other, get-remove_same, get-remove_other, value_of_has}
use Rattle.safe_table.proofs.Standing.{moved_by, standing_below, standing_le, some_stand, stand}

-- a slot at p, and the others
by_prefix : (p q : AddressPrefix) → (q ≡ p) ⊎ (q ≡ p → ⊥)
by_prefix p q = elim (eq_by_cmp prefix_cmp q p) as (λ b. eq_by_cmp prefix_cmp q p ≡ b → (q ≡ p) ⊎ (q ≡ p → ⊥)) [
  | true ↦ λ e. inl (one_prefix q p e)
  | false ↦ λ e. inr (λ same. let t : eq_by_cmp prefix_cmp q p ≡ true = subst (λ x. eq_by_cmp prefix_cmp q x ≡ true) same (itself q) in absurd (cc))
] refl

pub stand_here : (p : AddressPrefix) → stand p (Some (At p)) ≡ 1
stand_here p = ap (λ b. cond b 1 0) (itself p)

pub stand_away : (p q : AddressPrefix) → (q ≡ p → ⊥) → stand q (Some (At p)) ≡ 0
stand_away p q differ = ap (λ b. cond b 1 0) (another q p differ)

pub dead_not : (live : Bool) → not live ≡ true → live ≡ true → ⊥
dead_not true e t = absurd (cc)
dead_not false e t = absurd (cc)

pub live_not : (live : Bool) → not live ≡ false → live ≡ true
live_not true e = refl
live_not false e = absurd (cc)

not_before_itself : (q p : AddressPrefix) → ComesBefore q p → p ≡ q → ⊥
not_before_itself q p h same =
    let a : p.address ≡ q.address = ap (λ (x : AddressPrefix). x.address) same in
    let l : p.length ≡ q.length = ap (λ (x : AddressPrefix). x.length) same in
    elim (before_is q p h) [ inl less ↦ absurd (omega arith) | inr longer ↦ absurd (omega arith) ]

pub not_err : {X E : Type 0} (r : Result X E) (e : E) → r ≡ Err e → IsOk r → ⊥
not_err (Ok x) e was ok = absurd (cc)
not_err (Err x) e was ok = absurd (cc)

-- an iterator leaves its place
abbrev pub LeftBy : Place → List (Option Place) → List (Option Place) → Type 0
LeftBy x old new = (q : AddressPrefix) → standing q new + stand q (Some x) ≡ standing q old

pub left_behind : (old new : Slab Place) (id : ℕ) (x : Place) (p : AddressPrefix) → get old id ≡ Some x → Updates old new id (Some (At p)) → LeftBy x (Some (At p) ∷ old.slots) new.slots
left_behind old new id x p at updates q = let m = moved_by old new id x (Some (At p)) q at updates in omega arith

module _ {V : Type 0} where
  get-with_live : (m : FinMap prefix_cmp V) (p : AddressPrefix) (o : Option V) (q : AddressPrefix) → map.get (with_live m p o) q ≡ cond (eq_by_cmp prefix_cmp q p) o (map.get m q)
  get-with_live m p None q = get-remove prefixes_total m p q
  get-with_live m p (Some v) q = get-insert prefixes_total m p v q

  chosen : (b : Bool) (s : Slot V) (r : Option (Slot V)) → cond b s.value (live_value r) ≡ live_value (cond b (Some s) r)
  chosen true s r = refl
  chosen false s r = refl

  get-live_from : (es : List (AddressPrefix × Slot V)) (q : AddressPrefix) → map.get (live_from es) q ≡ live_value (find prefix_cmp q es)
  get-live_from [] q = get-empty prefix_cmp q
  get-live_from (e ∷ es) q =
      get-with_live (live_from es) e.0 e.1.value q
      ∙ ap (cond (eq_by_cmp prefix_cmp q e.0) e.1.value) (get-live_from es q)
      ∙ chosen (eq_by_cmp prefix_cmp q e.0) e.1 (find prefix_cmp q es)

  -- a row is the value of what stands there
  pub get-live : (m : FinMap prefix_cmp (Slot V)) (q : AddressPrefix) → map.get (live_rows m) q ≡ live_value (map.get m q)
  get-live m q = get-live_from (map.entries m) q ∙ ap live_value (sym (get-entries m q))

  pub live-insert : (m : FinMap prefix_cmp (Slot V)) (p : AddressPrefix) (s : Slot V) → live_rows (map.insert m p s) ≡ with_live (live_rows m) p s.value
  live-insert m p s = same_map prefixes_total exact_prefixes _ _ (λ q.
      get-live (map.insert m p s) q
      ∙ ap live_value (get-insert prefixes_total m p s q)
      ∙ sym (chosen (eq_by_cmp prefix_cmp q p) s (map.get m q))
      ∙ ap (cond (eq_by_cmp prefix_cmp q p) s.value) (sym (get-live m q))
      ∙ sym (get-with_live (live_rows m) p s.value q))

  none_chosen : (b : Bool) (r : Option (Slot V)) → live_value (cond b None r) ≡ cond b None (live_value r)
  none_chosen true r = refl
  none_chosen false r = refl

  pub live-remove : (m : FinMap prefix_cmp (Slot V)) (p : AddressPrefix) → live_rows (map.remove m p) ≡ map.remove (live_rows m) p
  live-remove m p = same_map prefixes_total exact_prefixes _ _ (λ q.
      get-live (map.remove m p) q
      ∙ ap live_value (get-remove prefixes_total m p q)
      ∙ none_chosen (eq_by_cmp prefix_cmp q p) (map.get m q)
      ∙ ap (cond (eq_by_cmp prefix_cmp q p) None) (sym (get-live m q))
      ∙ sym (get-remove prefixes_total (live_rows m) p q))

  -- the rows stay where no value changes
  pub live-same : (m n : FinMap prefix_cmp (Slot V)) → ((q : AddressPrefix) → live_value (map.get m q) ≡ live_value (map.get n q)) → live_rows m ≡ live_rows n
  live-same m n same = same_map prefixes_total exact_prefixes _ _ (λ q. get-live m q ∙ same q ∙ sym (get-live n q))

  pub live-readers : (m : FinMap prefix_cmp (Slot V)) (p : AddressPrefix) (s : Slot V) (k : ℕ) → map.get m p ≡ Some s → live_rows (map.insert m p (record s { readers = k })) ≡ live_rows m
  live-readers m p s k found = live-same _ _ (λ q. ap live_value (get-insert prefixes_total m p _ q) ∙ by_case q (eq_by_cmp prefix_cmp q p) refl)
    where
      by_case : (q : AddressPrefix) (b : Bool) → eq_by_cmp prefix_cmp q p ≡ b → live_value (cond b (Some (record s { readers = k })) (map.get m q)) ≡ live_value (map.get m q)
      by_case q true e = sym (ap live_value (ap (map.get m) (one_prefix q p e) ∙ found))
      by_case q false e = refl

  pub live-gone : (m : FinMap prefix_cmp (Slot V)) (p : AddressPrefix) (s : Slot V) → map.get m p ≡ Some s → s.value ≡ None → live_rows (map.remove m p) ≡ live_rows m
  live-gone m p s found none = live-same _ _ (λ q. ap live_value (get-remove prefixes_total m p q) ∙ by_case q (eq_by_cmp prefix_cmp q p) refl)
    where
      by_case : (q : AddressPrefix) (b : Bool) → eq_by_cmp prefix_cmp q p ≡ b → live_value (cond b None (map.get m q)) ≡ live_value (map.get m q)
      by_case q true e = sym (ap live_value (ap (map.get m) (one_prefix q p e) ∙ found) ∙ none)
      by_case q false e = refl

  some_is : (s t : Slot V) → Some s ≡ Some t → s ≡ t
  some_is s t e = cc

  -- what is kept, where one slot is set and the count there is right
  pub kept_set : (m : FinMap prefix_cmp (Slot V)) (old new : List (Option Place)) (p : AddressPrefix) (s : Slot V) → IsKept m old → ((q : AddressPrefix) → (q ≡ p → ⊥) → standing q new ≡ standing q old) → s.readers ≡ standing p new → (s.value ≡ None → 0 < s.readers)
      → IsKept (map.insert m p s) new
  kept_set m old new p s kept others here earned =
      record {
        counted = λ q. elim (by_prefix p q) [
          | inl is ↦ subst (λ x. readers_of (map.get (map.insert m p s) x) ≡ standing x new) (sym is) (ap readers_of (get-insert_same m p s) ∙ here)
          | inr differ ↦ ap readers_of (get-insert_other m p q s differ) ∙ kept.counted q ∙ sym (others q differ)
        ];
        earned = λ q t found none. elim (by_prefix p q) [
          | inl is ↦
              let e : s ≡ t = some_is s t (sym (get-insert_same m p s) ∙ ap (map.get (map.insert m p s)) (sym is) ∙ found) in
              subst (λ (x : Slot V). x.value ≡ None → 0 < x.readers) e earned none
          | inr differ ↦ kept.earned q t (sym (get-insert_other m p q s differ) ∙ found) none
        ];
      }

  pub kept_removed : (m : FinMap prefix_cmp (Slot V)) (old new : List (Option Place)) (p : AddressPrefix) → IsKept m old → ((q : AddressPrefix) → (q ≡ p → ⊥) → standing q new ≡ standing q old) → standing p new ≡ 0 → IsKept (map.remove m p) new
  kept_removed m old new p kept others here =
      record {
        counted = λ q. elim (by_prefix p q) [
          | inl is ↦ subst (λ x. readers_of (map.get (map.remove m p) x) ≡ standing x new) (sym is) (ap readers_of (get-remove_same m p) ∙ sym here)
          | inr differ ↦ ap readers_of (get-remove_other m p q differ) ∙ kept.counted q ∙ sym (others q differ)
        ];
        earned = λ q t found none. elim (by_prefix p q) [
          | inl is ↦ let e : None ≡ Some t = sym (get-remove_same m p) ∙ ap (map.get (map.remove m p)) (sym is) ∙ found in absurd (cc)
          | inr differ ↦ kept.earned q t (sym (get-remove_other m p q differ) ∙ found) none
        ];
      }

  pub kept_same : (m : FinMap prefix_cmp (Slot V)) (old new : List (Option Place)) → IsKept m old → ((q : AddressPrefix) → standing q new ≡ standing q old) → IsKept m new
  kept_same m old new kept same = record { counted = λ q. kept.counted q ∙ sym (same q); earned = kept.earned }

  -- ---- the calls of a table
  pub has_live : (m : FinMap prefix_cmp (Slot V)) (p : AddressPrefix) → HasKey (live_rows m) p → HasKey m p
  has_live m p h = by_case (map.get m p) refl (subst IsSome (get-live m p) h)
    where
      by_case : (o : Option (Slot V)) → map.get m p ≡ o → IsSome (live_value o) → HasKey m p
      by_case None e is = absurd (cc)
      by_case (Some s) e is = ap is_some e

  -- a row is put where iterators stay
  pub sound_put : (m n : FinMap prefix_cmp (Slot V)) (places : List (Option Place)) (count : ℕ) (p : AddressPrefix) (v : V) (before : Option V) → IsSound m places count
      → n ≡ map.insert m p (record { value = Some v; readers = readers_of (map.get m p) }) → before ≡ live_value (map.get m p) → IsSound n places (cond (is_some before) count (count + 1))
  sound_put m n places count p v before sound e was =
      subst (λ x. IsSound x places (cond (is_some before) count (count + 1))) (sym e) (record {
        kept = kept_set m places places p _ sound.kept (λ q differ. refl) (sound.kept.counted p) (λ none. absurd (cc));
        counts = sym (
            ap map.len (live-insert m p _) ∙ len-insert prefixes_total (live_rows m) p v
            ∙ ap (λ o. cond (is_some o) (map.len (live_rows m)) (map.len (live_rows m) + 1)) (get-live m p ∙ sym was)
            ∙ (λ i. cond (is_some before) (sym sound.counts i) (ap (λ k. k + 1) (sym sound.counts) i))
            );
        few = sound.few;
      })

  pub rows_put : (m n : FinMap prefix_cmp (Slot V)) (p : AddressPrefix) (v : V) → n ≡ map.insert m p (record { value = Some v; readers = readers_of (map.get m p) }) → live_rows n ≡ map.insert (live_rows m) p v
  rows_put m n p v e = ap live_rows e ∙ live-insert m p _

  -- a row is written where it stands
  pub sound_set : (m : FinMap prefix_cmp (Slot V)) (places : List (Option Place)) (count : ℕ) (p : AddressPrefix) (s : Slot V) (v : V) → IsSound m places count → map.get m p ≡ Some s → is_some (live_value (map.get m p)) ≡ true
      → IsSound (map.insert m p (record { value = Some v; readers = s.readers })) places count
  sound_set m places count p s v sound found is =
      subst (λ k. IsSound (map.insert m p (record { value = Some v; readers = s.readers })) places k) (ap (λ b. cond b count (count + 1)) is)
      (sound_put m _ places count p v (live_value (map.get m p)) sound (ap (λ k. map.insert m p (record { value = Some v; readers = k })) (sym (ap readers_of found))) refl)

  pub rows_set : (m : FinMap prefix_cmp (Slot V)) (places : List (Option Place)) (p : AddressPrefix) (k : ℕ) (v : V) → ◌≡◌ {A = Rows V} (record { rows = live_rows (map.insert m p (record { value = Some v; readers = k })); iterators = iterators_of places }) (record { rows = map.insert (live_rows m) p v; iterators = iterators_of places })
  rows_set m places p k v = ap (λ (r : FinMap prefix_cmp V). record { rows = r; iterators = iterators_of places }) (live-insert m p _)

  -- a row is taken
  pub record Taken (m n : FinMap prefix_cmp (Slot V)) (p : AddressPrefix) : Type 0 where
    pub absent : map.get m p ≡ None → n ≡ m
    pub goes : (s : Slot V) → map.get m p ≡ Some s → s.readers ≡ 0 → n ≡ map.remove m p
    pub stays : (s : Slot V) → map.get m p ≡ Some s → 0 < s.readers → n ≡ map.insert m p (record s { value = None })

  data Case (m n : FinMap prefix_cmp (Slot V)) (p : AddressPrefix) : Type 0 where
    absent : map.get m p ≡ None → n ≡ m → Case m n p
    goes : (s : Slot V) → map.get m p ≡ Some s → s.readers ≡ 0 → n ≡ map.remove m p → Case m n p
    stays : (s : Slot V) → map.get m p ≡ Some s → 0 < s.readers → n ≡ map.insert m p (record s { value = None }) → Case m n p

  by_count : (m n : FinMap prefix_cmp (Slot V)) (p : AddressPrefix) (s : Slot V) → map.get m p ≡ Some s → Taken m n p → (k : ℕ) → s.readers ≡ k → Case m n p
  by_count m n p s found t zero e = goes s found e (t.goes s found e)
  by_count m n p s found t (suc k) e = let lt : 0 < s.readers = omega arith in stays s found lt (t.stays s found lt)

  case_of : (m n : FinMap prefix_cmp (Slot V)) (p : AddressPrefix) → Taken m n p → Case m n p
  case_of m n p t = by_case (map.get m p) refl
    where
      by_case : (o : Option (Slot V)) → map.get m p ≡ o → Case m n p
      by_case None e = absent e (t.absent e)
      by_case (Some s) e = by_count m n p s e t s.readers refl

  none_removed : (m : FinMap prefix_cmp V) (p : AddressPrefix) → map.get m p ≡ None → m ≡ map.remove m p
  none_removed m p none = same_map prefixes_total exact_prefixes _ _ (λ q. by_case q (eq_by_cmp prefix_cmp q p) refl ∙ sym (get-remove prefixes_total m p q))
    where
      by_case : (q : AddressPrefix) (b : Bool) → eq_by_cmp prefix_cmp q p ≡ b → map.get m q ≡ cond b None (map.get m q)
      by_case q true e = ap (map.get m) (one_prefix q p e) ∙ none
      by_case q false e = refl

  pub rows_taken : (m n : FinMap prefix_cmp (Slot V)) (p : AddressPrefix) → Taken m n p → live_rows n ≡ map.remove (live_rows m) p
  rows_taken m n p t = elim (case_of m n p t) [
    | absent none e ↦ ap live_rows e ∙ none_removed (live_rows m) p (get-live m p ∙ ap live_value none)
    | goes s found nobody e ↦ ap live_rows e ∙ live-remove m p
    | stays s found some e ↦ ap live_rows e ∙ live-insert m p _
  ]

  kept_taken : (m n : FinMap prefix_cmp (Slot V)) (places : List (Option Place)) (p : AddressPrefix) → IsKept m places → Taken m n p → IsKept n places
  kept_taken m n places p kept t = elim (case_of m n p t) [
    | absent none e ↦ subst (λ x. IsKept x places) (sym e) kept
    | goes s found nobody e ↦ subst (λ x. IsKept x places) (sym e) (kept_removed m places places p kept (λ q differ. refl) (sym (kept.counted p) ∙ ap readers_of found ∙ nobody))
    | stays s found some e ↦ subst (λ x. IsKept x places) (sym e) (kept_set m places places p _ kept (λ q differ. refl) (sym (ap readers_of found) ∙ kept.counted p) (λ none. some))
  ]

  pub sound_taken : (m n : FinMap prefix_cmp (Slot V)) (places : List (Option Place)) (count : ℕ) (p : AddressPrefix) (before : Option V) → IsSound m places count → Taken m n p → before ≡ live_value (map.get m p) → IsSound n places (cond (is_some before) (count - 1) count)
  sound_taken m n places count p before sound t was =
      record {
        kept = kept_taken m n places p sound.kept t;
        counts = sym (
            ap map.len (rows_taken m n p t) ∙ len-remove prefixes_total (live_rows m) p
            ∙ ap (λ o. cond (is_some o) (map.len (live_rows m) - 1) (map.len (live_rows m))) (get-live m p ∙ sym was)
            ∙ (λ i. cond (is_some before) (ap (λ k. k - 1) (sym sound.counts) i) (sym sound.counts i))
            );
        few = sound.few;
      }

  -- a row that is there counts
  pub counted_row : (m : FinMap prefix_cmp (Slot V)) (places : List (Option Place)) (count : ℕ) (p : AddressPrefix) (before : Option V) → IsSound m places count → before ≡ live_value (map.get m p) → is_some before ≡ true → 0 < count
  counted_row m places count p before sound was is = by_zero count refl
    where
      by_zero : (k : ℕ) → count ≡ k → 0 < count
      by_zero zero e =
          let empty : live_rows m ≡ map.empty = empty_of_len (live_rows m) (sym sound.counts ∙ e) in
          let none : before ≡ None = was ∙ sym (get-live m p) ∙ ap (λ x. map.get x p) empty ∙ get-empty prefix_cmp p in
          let clash : is_some {T = V} None ≡ true = ap is_some (sym none) ∙ is in absurd (cc)
      by_zero (suc k) e = omega arith

  -- no row, no key
  pub no_row : (m : FinMap prefix_cmp (Slot V)) (p : AddressPrefix) → HasKey (live_rows m) p → live_value (map.get m p) ≡ None → ⊥
  no_row m p has none = let clash : is_some {T = V} None ≡ true = ap is_some (sym (get-live m p ∙ none)) ∙ has in absurd (cc)

  pub len_of_empty : (rows : FinMap prefix_cmp V) → rows ≡ map.empty → map.len rows ≡ 0
  len_of_empty rows e = ap map.len e ∙ len-empty prefix_cmp V

  -- ---- iterators
  reader_there : (m : FinMap prefix_cmp (Slot V)) (old : List (Option Place)) (p : AddressPrefix) → IsKept m old → 0 < standing p old → (s : Slot V) × (map.get m p ≡ Some s) × (s.readers ≡ standing p old)
  reader_there m old p kept some = by_case (map.get m p) refl
    where
      by_case : (o : Option (Slot V)) → map.get m p ≡ o → (s : Slot V) × (map.get m p ≡ Some s) × (s.readers ≡ standing p old)
      by_case None e = let none : 0 ≡ standing p old = sym (ap readers_of e) ∙ kept.counted p in absurd (omega arith)
      by_case (Some s) e = (s, e, sym (ap readers_of e) ∙ kept.counted p)

  -- something stands where an iterator does
  pub has_place : (m : FinMap prefix_cmp (Slot V)) (old : List (Option Place)) (id : ℕ) (p : AddressPrefix) → IsKept m old → get_or old id None ≡ Some (At p) → HasKey m p
  has_place m old id p kept at = let r = reader_there m old p kept (some_stand p id old (At p) at (stand_here p)) in ap is_some r.1

  pub leave_ready : (m : FinMap prefix_cmp (Slot V)) (old new : List (Option Place)) (x : Place) → IsKept m old → LeftBy x old new → MatchPlace x (Unit {0}) (λ p. HasKey m p × ((s : Slot V) → map.get m p ≡ Some s → 0 < s.readers))
  leave_ready m old new Before kept left = tt
  leave_ready m old new (At p) kept left =
      let at = left p in
      let one = stand_here p in
      let r = reader_there m old p kept (omega arith) in
      (ap is_some r.1, λ s found. let e : r.0 ≡ s = some_is r.0 s (sym r.1 ∙ found) in subst (λ (x : Slot V). 0 < x.readers) e (omega (arith, r.2)))

  pub left_kept : (m n : FinMap prefix_cmp (Slot V)) (old new : List (Option Place)) (x : Place) → IsKept m old → LeftBy x old new → MatchPlace x (n ≡ m) (λ p. (s : Slot V) → map.get m p ≡ Some s → Leaves m n p s) → IsKept n new × (live_rows n ≡ live_rows m)
  left_kept m n old new Before kept left e =
      (subst (λ x. IsKept x new) (sym e) (kept_same m old new kept (λ q. let at = left q in omega arith)), ap live_rows e)
  left_kept m n old new (At p) kept left leaves =
      let at = left p in
      let one = stand_here p in
      let r = reader_there m old p kept (omega arith) in
      let others : (q : AddressPrefix) → (q ≡ p → ⊥) → standing q new ≡ standing q old = λ (q : AddressPrefix) (differ : q ≡ p → ⊥). let here = left q in let away = stand_away p q differ in omega arith in
      elim (leaves r.0 r.1) [
        | inl gone ↦ (
          subst (λ x. IsKept x new) (sym gone.0) (kept_removed m old new p kept others (omega (arith, r.2, gone.2))),
          ap live_rows gone.0 ∙ live-gone m p r.0 r.1 gone.1,
        )
        | inr less ↦ (
          subst (λ x. IsKept x new) (sym less.0) (kept_set m old new p _ kept others (omega (arith, r.2)) (λ none. more_than_one r.0.readers (omega (arith, r.2)) (less.1 none))),
          ap live_rows less.0 ∙ live-readers m p r.0 _ r.1,
        )
      ]
    where
      more_than_one : (k : ℕ) → 0 < k → (k ≡ 1 → ⊥) → 0 < k - 1
      more_than_one k some other = omega arith

  -- an iterator enters a place
  pub entered_kept : (m n : FinMap prefix_cmp (Slot V)) (old : List (Option Place)) (p : AddressPrefix) (s : Slot V) → IsKept m old → map.get m p ≡ Some s → n ≡ map.insert m p (record s { readers = s.readers + 1 }) → IsKept n (Some (At p) ∷ old)
  entered_kept m n old p s kept found e =
      let counted : s.readers ≡ standing p old = sym (ap readers_of found) ∙ kept.counted p in
      let one = stand_here p in
      subst (λ x. IsKept x (Some (At p) ∷ old)) (sym e) (kept_set m old (Some (At p) ∷ old) p _ kept (λ q differ. let away = stand_away p q differ in omega arith) (omega arith) (λ none. omega arith))

  pub readers_fit : (m : FinMap prefix_cmp (Slot V)) (old : List (Option Place)) (p : AddressPrefix) (id : ℕ) (x : Place) → IsKept m old → get_or old id None ≡ Some x → IsBeyond (key_of x) p → count_by is_some old < 2 ^ 32
      → (s : Slot V) → map.get m p ≡ Some s → s.readers + 1 < 2 ^ 32
  readers_fit m old p id x kept at le fits s found =
      let counted : s.readers ≡ standing p old = sym (ap readers_of found) ∙ kept.counted p in
      omega (arith, standing_below p id old x at (away x le))
    where
      away : (x : Place) → IsBeyond (key_of x) p → stand p (Some x) ≡ 0
      away Before le = refl
      away (At q) le = stand_away q p (λ same. not_before_itself q p le same)

  -- what first_live has so far: a prefix beyond the place, where something stands, and no row between
  pub record Reaches (m : FinMap prefix_cmp (Slot V)) (after : Option AddressPrefix) (p : AddressPrefix) : Type 0 where
    pub past : IsBeyond after p
    pub has : HasKey m p
    pub between : (q : AddressPrefix) → HasKey (live_rows m) q → IsBeyond after q → ComesBefore q p → ⊥

  none_there : (o : Option V) → (IsSome o → ⊥) → o ≡ None
  none_there None differ = refl
  none_there (Some v) differ = absurd (differ refl)

  not_none : (m : FinMap prefix_cmp (Slot V)) (q : AddressPrefix) → HasKey (live_rows m) q → map.get m q ≡ None → ⊥
  not_none m q h none = let clash : is_some {T = Slot V} None ≡ true = ap is_some (sym none) ∙ has_live m q h in absurd (cc)

  pub reaches_first : (m : FinMap prefix_cmp (Slot V)) (after : Option AddressPrefix) (p : AddressPrefix) → IsNextRow (map.get m) after (Some p) → Reaches m after p
  reaches_first m after p next = record { past = next.0; has = next.1; between = λ q has h less. not_none m q has (next.2 q h less) }

  later : (m : FinMap prefix_cmp (Slot V)) (after : Option AddressPrefix) (p q : AddressPrefix) → Reaches m after p → (HasKey (live_rows m) p → ⊥) → HasKey (live_rows m) q → IsBeyond after q → ComesBefore p q
  later m after p q r dead has h = one_first p q (λ same. dead (subst (HasKey (live_rows m)) (sym same) has)) (λ less. r.between q has h less)

  pub reaches_next : (m : FinMap prefix_cmp (Slot V)) (after : Option AddressPrefix) (p x : AddressPrefix) → Reaches m after p → (HasKey (live_rows m) p → ⊥) → IsNextRow (map.get m) (Some p) (Some x) → Reaches m after x
  reaches_next m after p x r dead next = record {
    past = further after p x r.past next.0;
    has = next.1;
    between = λ q has h less. not_none m q has (next.2 q (later m after p q r dead has h) less);
  }

  pub live_first : (m : FinMap prefix_cmp (Slot V)) (after : Option AddressPrefix) (p : AddressPrefix) → Reaches m after p → HasKey (live_rows m) p → IsNextRow (map.get (live_rows m)) after (Some p)
  live_first m after p r is = (r.past, is, λ q h less. none_there (map.get (live_rows m) q) (λ has. r.between q has h less))

  pub live_none_more : (m : FinMap prefix_cmp (Slot V)) (after : Option AddressPrefix) (p : AddressPrefix) → Reaches m after p → (HasKey (live_rows m) p → ⊥) → IsNextRow (map.get m) (Some p) None → IsNextRow (map.get (live_rows m)) after None
  live_none_more m after p r dead none q h = none_there (map.get (live_rows m) q) (λ has. not_none m q has (none q (later m after p q r dead has h)))

  pub live_none : (m : FinMap prefix_cmp (Slot V)) (after : Option AddressPrefix) → IsNextRow (map.get m) after None → IsNextRow (map.get (live_rows m)) after None
  live_none m after none q h = none_there (map.get (live_rows m) q) (λ has. not_none m q has (none q h))

  pub rows_nothing : live_rows {V = V} map.empty ≡ map.empty
  rows_nothing = live-same-empty
    where
      live-same-empty : live_rows {V = V} map.empty ≡ map.empty
      live-same-empty = same_map prefixes_total exact_prefixes _ _ (λ q. get-live map.empty q ∙ ap live_value (get-empty prefix_cmp q) ∙ sym (get-empty prefix_cmp q))

  never_some : (s : Slot V) → ◌≡◌ {A = Option (Slot V)} None (Some s) → ⊥
  never_some s e = absurd (cc)

  -- an empty table
  nothing_stands : IsKept {V = V} map.empty []
  nothing_stands = record {
    counted = λ p. ap readers_of (get-empty {X = Slot V} prefix_cmp p);
    earned = λ p s found none. absurd (never_some s (sym (get-empty {X = Slot V} prefix_cmp p) ∙ found));
  }

  pub live_nothing : (m : FinMap prefix_cmp (Slot V)) (places : List (Option Place)) → m ≡ map.empty → places ≡ [] → IsSound m places 0
  live_nothing m places e none =
      subst (λ (x : FinMap prefix_cmp (Slot V)). IsSound x places 0) (sym e) (subst (λ y. IsSound {V = V} map.empty y 0) (sym none) (record { kept = nothing_stands; counts = sym (ap map.len rows_nothing ∙ len-empty prefix_cmp V); few = omega arith }))

  -- an iterator goes on
  pub record Gone (m m1 m2 : FinMap prefix_cmp (Slot V)) (old new : List (Option Place)) : Type 0 where
    pub kept : IsKept m2 new
    pub rows : live_rows m2 ≡ live_rows m

  pub gone_on : (m m1 m2 : FinMap prefix_cmp (Slot V)) (old new : Slab Place) (id : ℕ) (x : Place) (p : AddressPrefix) → IsKept m old.slots → HasKey m p
      → ((s : Slot V) → map.get m p ≡ Some s → m1 ≡ map.insert m p (record s { readers = s.readers + 1 }))
      → get old id ≡ Some x → Updates old new id (Some (At p)) → MatchPlace x (m2 ≡ m1) (λ q. (s : Slot V) → map.get m1 q ≡ Some s → Leaves m1 m2 q s) → Gone m m1 m2 old.slots new.slots
  gone_on m m1 m2 old new id x p kept has enters at updates leaves =
      let s = value_of_has (map.get m p) has in
      let e = enters s.0 s.1 in
      let mid = entered_kept m m1 old.slots p s.0 kept s.1 e in
      let left = left_kept m1 m2 (Some (At p) ∷ old.slots) new.slots x mid (left_behind old new id x p at updates) leaves in
      record { kept = left.0; rows = left.1 ∙ ap live_rows e ∙ live-readers m p s.0 _ s.1 }

  pub ready_to_leave : (m m1 : FinMap prefix_cmp (Slot V)) (old new : Slab Place) (id : ℕ) (x : Place) (p : AddressPrefix) → IsKept m old.slots → HasKey m p
      → ((s : Slot V) → map.get m p ≡ Some s → m1 ≡ map.insert m p (record s { readers = s.readers + 1 }))
      → get old id ≡ Some x → Updates old new id (Some (At p)) → MatchPlace x (Unit {0}) (λ p. HasKey m1 p × ((s : Slot V) → map.get m1 p ≡ Some s → 0 < s.readers))
  ready_to_leave m m1 old new id x p kept has enters at updates =
      let s = value_of_has (map.get m p) has in
      leave_ready m1 (Some (At p) ∷ old.slots) new.slots x (entered_kept m m1 old.slots p s.0 kept s.1 (enters s.0 s.1)) (left_behind old new id x p at updates)

none_counted : (n : ℕ) → (n == 0) ≡ true → n ≡ 0
none_counted n e = grind (arith, nat_tests)

-- where no iterator is live, none stands at a prefix
pub none_live : (places : List (Option Place)) (p : AddressPrefix) → (count_by is_some places == 0) ≡ true → standing p places ≡ 0
none_live places p none =
    let le = standing_le p places in
    let empty : count_by is_some places ≡ 0 = none_counted (count_by is_some places) none in
    omega arith

-- where none stands at a prefix, its slot counts none
pub unread : {V : Type 0} (rows : FinMap prefix_cmp (Slot V)) (places : List (Option Place)) (p : AddressPrefix) (s : Slot V) → IsKept rows places → standing p places ≡ 0 → map.get rows p ≡ Some s → s.readers ≡ 0
unread rows places p s kept none found = ap readers_of (sym found) ∙ kept.counted p ∙ none
