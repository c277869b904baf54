-- The rows of leaves.
use Rattle.std.proofs.Common.{◌≡◌, ◌≢◌, ℕ, zero, suc, true, false, cond, List, [], ◌∷◌, get_or, Option, Some, None, option_map, refl, sym, ap, ◌∙◌, inl, inr}
use Rattle.std.proofs.lemmas.Bool.{cases_eq}
use Rattle.std.specs.Ordering.{eq_by_cmp}
use Rattle.std.specs.FinMap.{find, get-from_entries, get-insert, get-remove, same_map}
use Rattle.std.specs.FinMap as map
use Rattle.slab.specs.Slab.{Slab, get, Updates}
use Rattle.addr4.specs.Prefixes.{AddressPrefix, prefix_cmp}
use Rattle.addr4.proofs.PrefixOrder.{prefixes_total, exact_prefixes, one_prefix, itself, by_prefix}
use Rattle.nibble_trie.specs.Leaves.{Node}
use Rattle.nibble_trie.specs.Keys.{prefix_in}
use Rattle.nibble_trie.specs.View.{listing, rows_of}
use Rattle.nibble_trie.proofs.Digits.{some_same}

module _ {V : Type 0} where
  -- a slot has this prefix and value
  pub record InSlots (slots : List (Option (Node V))) (q : AddressPrefix) (v : V) : Type 0 where
    pub key : ℕ
    pub node : Node V
    pub found : get_or slots key None ≡ Some node
    pub prefix : node.prefix ≡ q
    pub value : node.value ≡ v

  behind : (slot : Option (Node V)) (rest : List (Option (Node V))) (q : AddressPrefix) (v : V) → InSlots rest q v → InSlots (slot ∷ rest) q v
  behind slot rest q v r = record { key = suc r.key; node = r.node; found = r.found; prefix = r.prefix; value = r.value }

  found_in : (slots : List (Option (Node V))) (q : AddressPrefix) (v : V) → find prefix_cmp q (listing slots) ≡ Some v → InSlots slots q v
  found_in [] q v e = absurd (cc)
  found_in (None ∷ rest) q v e = behind None rest q v (found_in rest q v e)
  found_in (Some n ∷ rest) q v e =
      elim (eq_by_cmp prefix_cmp q n.prefix) as (λ b. eq_by_cmp prefix_cmp q n.prefix ≡ b → cond b (Some n.value) (find prefix_cmp q (listing rest)) ≡ Some v → InSlots (Some n ∷ rest) q v) [
        | true ↦ λ is same. record { key = 0; node = n; found = refl; prefix = sym (one_prefix q n.prefix is); value = some_same n.value v same }
        | false ↦ λ is same. behind (Some n) rest q v (found_in rest q v same)
      ] refl e

  find_at : (slots : List (Option (Node V))) (k : ℕ) (n : Node V) → get_or slots k None ≡ Some n → ((l : ℕ) (m : Node V) → get_or slots l None ≡ Some m → m.prefix ≡ n.prefix → m.value ≡ n.value) → find prefix_cmp n.prefix (listing slots) ≡ Some n.value
  find_at [] k n at only = absurd (cc)
  find_at (None ∷ rest) zero n at only = absurd (cc)
  find_at (None ∷ rest) (suc k) n at only = find_at rest k n at (λ l m there same. only (suc l) m there same)
  find_at (Some x ∷ rest) zero n at only =
      let e : x ≡ n = some_same x n at in
      ap (λ b. cond b (Some x.value) (find prefix_cmp n.prefix (listing rest))) (ap (λ (m : Node V). eq_by_cmp prefix_cmp n.prefix m.prefix) e ∙ itself n.prefix) ∙ ap (λ (m : Node V). Some m.value) e
  find_at (Some x ∷ rest) (suc k) n at only =
      elim (eq_by_cmp prefix_cmp n.prefix x.prefix) as (λ b. eq_by_cmp prefix_cmp n.prefix x.prefix ≡ b → cond b (Some x.value) (find prefix_cmp n.prefix (listing rest)) ≡ Some n.value) [
        | true ↦ λ is. ap Some (only 0 x refl (sym (one_prefix n.prefix x.prefix is)))
        | false ↦ λ is. find_at rest k n at (λ l m there same. only (suc l) m there same)
      ] refl

  -- no prefix has two leaves
  abbrev pub IsSingle : Slab (Node V) → Type 0
  IsSingle leaves = (k l : ℕ) (p : AddressPrefix) → prefix_in leaves k ≡ Some p → prefix_in leaves l ≡ Some p → k ≡ l

  pub prefix_found : (leaves : Slab (Node V)) (k : ℕ) (n : Node V) → get leaves k ≡ Some n → prefix_in leaves k ≡ Some n.prefix
  prefix_found leaves k n found = ap (option_map (λ n. n.prefix)) found

  pub node_at : (leaves : Slab (Node V)) (k : ℕ) (p : AddressPrefix) → prefix_in leaves k ≡ Some p → (n : Node V) × (get leaves k ≡ Some n) × (n.prefix ≡ p)
  node_at leaves k p found = by (get leaves k) refl found
    where
      by : (o : Option (Node V)) → get leaves k ≡ o → option_map (λ n. n.prefix) o ≡ Some p → (n : Node V) × (get leaves k ≡ Some n) × (n.prefix ≡ p)
      by None is e = absurd (cc)
      by (Some n) is e = (n, is, some_same n.prefix p e)

  pub get-rows : (leaves : Slab (Node V)) (q : AddressPrefix) → map.get (rows_of leaves) q ≡ find prefix_cmp q (listing leaves.slots)
  get-rows leaves q = get-from_entries prefixes_total (listing leaves.slots) q

  pub row_found : (leaves : Slab (Node V)) (q : AddressPrefix) (v : V) → map.get (rows_of leaves) q ≡ Some v → InSlots leaves.slots q v
  row_found leaves q v e = found_in leaves.slots q v (sym (get-rows leaves q) ∙ e)

  pub row_at : (leaves : Slab (Node V)) (k : ℕ) (n : Node V) → IsSingle leaves → get leaves k ≡ Some n → map.get (rows_of leaves) n.prefix ≡ Some n.value
  row_at leaves k n single found = get-rows leaves n.prefix ∙ find_at leaves.slots k n found (λ l m there same.
      let e : l ≡ k = single l k n.prefix (prefix_found leaves l m there ∙ ap Some same) (prefix_found leaves k n found) in
      let is : m ≡ n = some_same m n (sym there ∙ ap (get leaves) e ∙ found) in
      ap (λ (x : Node V). x.value) is)

  -- the row of a leaf's prefix
  pub row_of : (leaves : Slab (Node V)) (k : ℕ) (n : Node V) (p : AddressPrefix) → IsSingle leaves → get leaves k ≡ Some n → n.prefix ≡ p → map.get (rows_of leaves) p ≡ Some n.value
  row_of leaves k n p single found is = ap (map.get (rows_of leaves)) (sym is) ∙ row_at leaves k n single found

  pub row_none : (leaves : Slab (Node V)) (q : AddressPrefix) → ((k : ℕ) → prefix_in leaves k ≡ Some q → ⊥) → map.get (rows_of leaves) q ≡ None
  row_none leaves q absent = by (map.get (rows_of leaves) q) refl
    where
      by : (o : Option V) → map.get (rows_of leaves) q ≡ o → o ≡ None
      by None e = refl
      by (Some v) e = let r = row_found leaves q v e in absurd (absent r.key (prefix_found leaves r.key r.node r.found ∙ ap Some r.prefix))

  -- ---- leaves of other prefixes keep their values
  pub record Keeps (old new : Slab (Node V)) (p : AddressPrefix) : Type 0 where
    pub to : (k : ℕ) (n : Node V) → get old k ≡ Some n → n.prefix ≢ p → (m : Node V) × (get new k ≡ Some m) × (m.prefix ≡ n.prefix) × (m.value ≡ n.value)
    pub from : (k : ℕ) (n : Node V) → get new k ≡ Some n → n.prefix ≢ p → (m : Node V) × (get old k ≡ Some m) × (m.prefix ≡ n.prefix) × (m.value ≡ n.value)

  rows_agree : (old new : Slab (Node V)) (p q : AddressPrefix) → IsSingle old → IsSingle new → Keeps old new p → q ≢ p → map.get (rows_of new) q ≡ map.get (rows_of old) q
  rows_agree old new p q one two keeps differ = by (map.get (rows_of old) q) refl
    where
      by : (o : Option V) → map.get (rows_of old) q ≡ o → map.get (rows_of new) q ≡ o
      by (Some v) e =
          let r = row_found old q v e in
          let m = keeps.to r.key r.node r.found (λ same. differ (sym r.prefix ∙ same)) in
          row_of new r.key m.0 q two m.1 (m.2 ∙ r.prefix) ∙ ap Some (m.3 ∙ r.value)
      by None e = row_none new q (λ k there.
          let n = node_at new k q there in
          let m = keeps.from k n.0 n.1 (λ same. differ (sym n.2 ∙ same)) in
          let some = row_of old k m.0 q one m.1 (m.2 ∙ n.2) in
          let none = sym e ∙ some in absurd (cc))

  pub rows_put : (old new : Slab (Node V)) (p : AddressPrefix) (k : ℕ) (n : Node V) (v : V) → IsSingle old → IsSingle new → Keeps old new p → get new k ≡ Some n → n.prefix ≡ p → n.value ≡ v → rows_of new ≡ map.insert (rows_of old) p v
  rows_put old new p k n v one two keeps found is value = same_map prefixes_total exact_prefixes _ _ (λ q.
      by_prefix q p (λ b. map.get (rows_of new) q ≡ cond b (Some v) (map.get (rows_of old) q))
      (λ e. row_of new k n q two found (is ∙ sym e) ∙ ap Some value)
      (λ differ. rows_agree old new p q one two keeps differ)
      ∙ sym (get-insert prefixes_total (rows_of old) p v q))

  pub rows_removed : (old new : Slab (Node V)) (p : AddressPrefix) → IsSingle old → IsSingle new → Keeps old new p → ((k : ℕ) → prefix_in new k ≡ Some p → ⊥) → rows_of new ≡ map.remove (rows_of old) p
  rows_removed old new p one two keeps gone = same_map prefixes_total exact_prefixes _ _ (λ q.
      by_prefix q p (λ b. map.get (rows_of new) q ≡ cond b None (map.get (rows_of old) q))
      (λ e. ap (map.get (rows_of new)) e ∙ row_none new p gone)
      (λ differ. rows_agree old new p q one two keeps differ)
      ∙ sym (get-remove prefixes_total (rows_of old) p q))

  -- ---- one slot changes
  pub keeps_trans : (a b c : Slab (Node V)) (p : AddressPrefix) → Keeps a b p → Keeps b c p → Keeps a c p
  keeps_trans a b c p x y = record {
    to = λ k n found differ.
        let m = x.to k n found differ in
        let l = y.to k m.0 m.1 (λ e. differ (sym m.2 ∙ e)) in
        (l.0, l.1, l.2 ∙ m.2, l.3 ∙ m.3);
    from = λ k n found differ.
        let m = y.from k n found differ in
        let l = x.from k m.0 m.1 (λ e. differ (sym m.2 ∙ e)) in
        (l.0, l.1, l.2 ∙ m.2, l.3 ∙ m.3);
  }

  -- that of the prefix
  pub keeps_at : (old new : Slab (Node V)) (p : AddressPrefix) (key : ℕ) (slot : Option (Node V)) → Updates old new key slot → ((n : Node V) → get old key ≡ Some n → n.prefix ≡ p) → ((n : Node V) → slot ≡ Some n → n.prefix ≡ p) → Keeps old new p
  keeps_at old new p key slot u was is = record {
    to = λ k n found differ. elim (cases_eq k key) [
      | inl e ↦ absurd (differ (was n (ap (get old) (sym e) ∙ found)))
      | inr apart ↦ (n, u.others k apart ∙ found, refl, refl)
    ];
    from = λ k n found differ. elim (cases_eq k key) [
      | inl e ↦ absurd (differ (is n (sym u.changed ∙ ap (get new) (sym e) ∙ found)))
      | inr apart ↦ (n, sym (u.others k apart) ∙ found, refl, refl)
    ];
  }

  -- one that keeps its prefix and value
  pub keeps_touched : (old new : Slab (Node V)) (p : AddressPrefix) (key : ℕ) (n m : Node V) → Updates old new key (Some m) → get old key ≡ Some n → m.prefix ≡ n.prefix → m.value ≡ n.value → Keeps old new p
  keeps_touched old new p key n m u found prefix value = record {
    to = λ k x there differ. elim (cases_eq k key) [
      | inl e ↦
          let is : n ≡ x = some_same n x (sym found ∙ ap (get old) (sym e) ∙ there) in
          (m, ap (get new) e ∙ u.changed, prefix ∙ ap (λ (y : Node V). y.prefix) is, value ∙ ap (λ (y : Node V). y.value) is)
      | inr apart ↦ (x, u.others k apart ∙ there, refl, refl)
    ];
    from = λ k x there differ. elim (cases_eq k key) [
      | inl e ↦
          let is : m ≡ x = some_same m x (sym u.changed ∙ ap (get new) (sym e) ∙ there) in
          (n, ap (get old) e ∙ found, sym prefix ∙ ap (λ (y : Node V). y.prefix) is, sym value ∙ ap (λ (y : Node V). y.value) is)
      | inr apart ↦ (x, sym (u.others k apart) ∙ there, refl, refl)
    ];
  }
