-- Tries after a change.
use Rattle.std.proofs.Common.{◌≡◌, ◌≢◌, ℕ, zero, suc, ◌^◌, ◌<◌, ◌≤◌, true, List, [], ◌∷◌, get_or, Option, Some, None, IsSome, is_some, option_and_then, option_map, refl, sym, ap, subst, ◌∙◌, inl, inr, arith}
use Rattle.std.proofs.lemmas.Bool.{cases_eq}
use Rattle.std.proofs.Math.Seq.{map-set_same}
use Rattle.std.specs.Prelude as list
use Rattle.std.specs.FinMap as map
use Rattle.slab.specs.Slab.{Slab, get, ContainsKey, Updates, with_value as put_value}
use Rattle.slab.proofs.SlabLemmas.{Updates-with_value}
use Rattle.std.specs.FinMap.{FinMap, same_map, get-empty}
use Rattle.addr4.specs.Places.{IsBeyond, IsNextRow}
use Rattle.addr4.proofs.HalfLemmas.{one_address_prefix}
use Rattle.addr4.proofs.PrefixOrder.{prefixes_total, exact_prefixes}
use Rattle.addr4.specs.Prefixes.{AddressPrefix, ComesBefore, prefix_cmp}
use Rattle.nibble_trie.specs.Leaves.{Node}
use Rattle.nibble_trie.specs.declared.link.Link.{Link}
use Rattle.nibble_trie.specs.declared.branch.Branch.{Branch}
use Rattle.nibble_trie.specs.declared.index.Index.{Index}
use Rattle.nibble_trie.specs.declared.reading.Gap.{Gap}
use Rattle.nibble_trie.specs.declared.reading.Gap.TheVariants.{Behind, First}
use Rattle.nibble_trie.specs.Links.{leads, leaf_of}
use Rattle.nibble_trie.specs.Keys.{prefix_in, longer_in, IsNextOf, IsChained, IsLastBelow, IsHeadOf, IsLeafOf, IsNextLeaf}
use Rattle.nibble_trie.specs.Index.{Indexes, Names, with_head}
use Rattle.nibble_trie.specs.Nodes.{HasNode, HasNodes, prefixes_of}
use Rattle.nibble_trie.specs.Contents.{Contents, LiesAt}
use Rattle.nibble_trie.specs.View.{rows_of, IsWhole, IsWayEnd, IsGapOf, Joins}
use Rattle.nibble_trie.proofs.Digits.{some_same}
use Rattle.nibble_trie.proofs.Chains.{Adds, Removes, was_there, is_there, stood_there, first_chained, first_heads, first_gone, next_same, behind_chained, behind_heads, first_removed, behind_removed, behind_gone, chained_kept}
use Rattle.nibble_trie.proofs.Rows.{prefix_found, node_at, keeps_at, keeps_touched, keeps_trans, rows_put, rows_removed, row_of, row_none, row_found}

-- the prefix of a leaf
abbrev pub IsOf : (ℕ → Option AddressPrefix) → Option ℕ → Option AddressPrefix → Type 0
IsOf keys None None = Unit {0}
IsOf keys None (Some p) = ⊥
IsOf keys (Some k) None = ⊥
IsOf keys (Some k) (Some p) = keys k ≡ Some p

-- a link to the next from a prefix's length on leads to its leaf
pub leads_to_leaf : (keys : ℕ → Option AddressPrefix) (longer : ℕ → Option ℕ) (p : AddressPrefix) (link : Option ℕ) (key : ℕ) → IsChained keys longer → IsNextOf keys p.address p.length link → keys key ≡ Some p → link ≡ Some key
leads_to_leaf keys longer p None key c next found = absurd (omega (arith, next key p found refl))
leads_to_leaf keys longer p (Some m) key c next found =
    let e : next.0 ≡ p = one_address_prefix next.0 p next.2 (omega (arith, next.3, next.4 key p found refl (omega arith))) in
    ap Some (c.single m key p (next.1 ∙ ap Some e) found)

module _ {V : Type 0} where
  pub contains : (leaves : Slab (Node V)) (key : ℕ) (n : Node V) → get leaves key ≡ Some n → ContainsKey leaves key
  contains leaves key n found = subst IsSome (sym found) refl

  pub longer_found : (leaves : Slab (Node V)) (k : ℕ) (n : Node V) → get leaves k ≡ Some n → longer_in leaves k ≡ leaf_of (leads n.longer)
  longer_found leaves k n found = ap (option_and_then (λ n. leaf_of (leads n.longer))) found

  -- ---- keys and links after one slot changed
  pub prefix_others : (old new : Slab (Node V)) (key : ℕ) (slot : Option (Node V)) → Updates old new key slot → (k : ℕ) → k ≢ key → prefix_in new k ≡ prefix_in old k
  prefix_others old new key slot u k n = ap (option_map (λ n. n.prefix)) (u.others k n)

  pub longer_others : (old new : Slab (Node V)) (key : ℕ) (slot : Option (Node V)) → Updates old new key slot → (k : ℕ) → k ≢ key → longer_in new k ≡ longer_in old k
  longer_others old new key slot u k n = ap (option_and_then (λ n. leaf_of (leads n.longer))) (u.others k n)

  pub prefix_touched : (old new : Slab (Node V)) (key : ℕ) (n m : Node V) → Updates old new key (Some m) → get old key ≡ Some n → m.prefix ≡ n.prefix → (k : ℕ) → prefix_in new k ≡ prefix_in old k
  prefix_touched old new key n m u found same k = elim (cases_eq k key) [
    | inl e ↦ ap (prefix_in new) e ∙ prefix_found new key m u.changed ∙ ap Some same ∙ sym (prefix_found old key n found) ∙ ap (prefix_in old) (sym e)
    | inr apart ↦ prefix_others old new key (Some m) u k apart
  ]

  longer_touched : (old new : Slab (Node V)) (key : ℕ) (n m : Node V) → Updates old new key (Some m) → get old key ≡ Some n → m.longer ≡ n.longer → (k : ℕ) → longer_in new k ≡ longer_in old k
  longer_touched old new key n m u found same k = elim (cases_eq k key) [
    | inl e ↦ ap (longer_in new) e ∙ longer_found new key m u.changed ∙ ap (λ l. leaf_of (leads l)) same ∙ sym (longer_found old key n found) ∙ ap (longer_in old) (sym e)
    | inr apart ↦ longer_others old new key (Some m) u k apart
  ]

  pub adds_of : (old new : Slab (Node V)) (key : ℕ) (n : Node V) → get old key ≡ None → Updates old new key (Some n) → ((k : ℕ) → prefix_in old k ≡ Some n.prefix → ⊥) → Adds (prefix_in old) (prefix_in new) key n.prefix
  adds_of old new key n vacant u absent = record { vacant = ap (option_map (λ n. n.prefix)) vacant; absent = absent; here = prefix_found new key n u.changed; others = prefix_others old new key (Some n) u }

  pub removes_of : (old new : Slab (Node V)) (key : ℕ) (p : AddressPrefix) → Updates old new key None → prefix_in old key ≡ Some p → Removes (prefix_in old) (prefix_in new) key p
  removes_of old new key p u was = record { was = was; gone = ap (option_map (λ n. n.prefix)) u.changed; others = prefix_others old new key None u }

  -- a key that is vacant is no other's
  not_vacant : (leaves : Slab (Node V)) (key k : ℕ) (p : AddressPrefix) → get leaves key ≡ None → prefix_in leaves k ≡ Some p → k ≢ key
  not_vacant leaves key k p vacant found e =
      let n = node_at leaves k p found in
      let some = sym n.1 ∙ ap (get leaves) e ∙ vacant in absurd (cc)

  -- ---- a value in the place of another
  pub joins_replaced : (old new : Slab (Node V)) (key : ℕ) (n : Node V) (p : AddressPrefix) (v : V) → IsChained (prefix_in old) (longer_in old) → get old key ≡ Some n → n.prefix ≡ p → Updates old new key (Some (record n { value = v })) → Joins old new p (Some v)
  joins_replaced old new key n p v c found is u =
      let m : Node V = record n { value = v } in
      let keys = prefix_touched old new key n m u found refl in
      let chained = chained_kept (prefix_in old) (prefix_in new) (longer_in old) (longer_in new) keys (longer_touched old new key n m u found refl) c in
      record {
        chained = chained;
        heads = λ a head next. next_same (prefix_in old) (prefix_in new) a 0 head keys next;
        keys = λ k q there. inr (sym (keys k) ∙ there);
        rows = rows_put old new p key m v c.single chained.single (keeps_at old new p key (Some m) u (λ x there. ap (λ (y : Node V). y.prefix) (some_same x n (sym there ∙ found)) ∙ is) (λ x there. ap (λ (y : Node V). y.prefix) (some_same x m (sym there)) ∙ is)) u.changed is refl;
      }

  -- ---- a leaf behind another
  pub joins_added : (old mid new : Slab (Node V)) (before key : ℕ) (b : Node V) (p : AddressPrefix) (link own : Link) (v : V) → IsChained (prefix_in old) (longer_in old) → IsLastBelow (prefix_in old) (longer_in old) p.address p.length before → get old before ≡ Some b → get old key ≡ None → ((k : ℕ) → prefix_in old k ≡ Some p → ⊥) → Updates old mid key (Some (record { prefix = p; longer = own; value = v })) → own ≡ b.longer → Updates mid new before (Some (record b { longer = link })) → leaf_of (leads link) ≡ Some key → Joins old new p (Some v)
  joins_added old mid new before key b p link own v c last found vacant absent one is two leads_to =
      let node : Node V = record { prefix = p; longer = own; value = v } in
      let after : Node V = record b { longer = link } in
      let apart : before ≢ key = not_vacant old key before b.prefix vacant (prefix_found old before b found) in
      let found' : get mid before ≡ Some b = one.others before apart ∙ found in
      let touched = prefix_touched mid new before b after two found' refl in
      let adds0 = adds_of old mid key node vacant one absent in
      let adds : Adds (prefix_in old) (prefix_in new) key p = record { vacant = adds0.vacant; absent = absent; here = touched key ∙ adds0.here; others = λ k n. touched k ∙ adds0.others k n } in
      let there : get new key ≡ Some node = two.others key (λ e. apart (sym e)) ∙ one.changed in
      let chained = behind_chained (prefix_in old) (prefix_in new) key p adds (longer_in old) (longer_in new) c before last (longer_found new key node there ∙ ap (λ l. leaf_of (leads l)) is ∙ sym (longer_found old before b found)) (longer_found new before after two.changed ∙ leads_to) (λ k n m. longer_others mid new before (Some after) two k m ∙ longer_others old mid key (Some node) one k n) in
      record {
        chained = chained;
        heads = behind_heads (prefix_in old) (prefix_in new) key p adds (longer_in old) (longer_in new) c before last;
        keys = λ k q at. elim (was_there (prefix_in old) (prefix_in new) key p adds k q at) [ inl x ↦ inl x.1 | inr x ↦ inr x.1 ];
        rows = rows_put old new p key node v c.single chained.single
            (keeps_trans old mid new p
            (keeps_at old mid p key (Some node) one (λ x at. let none = sym at ∙ vacant in absurd (cc)) (λ x at. ap (λ (y : Node V). y.prefix) (some_same x node (sym at))))
            (keeps_touched mid new p before b after two found' refl refl)) there refl refl;
      }

  -- ---- a leaf less behind another
  pub joins_removed : (old mid new : Slab (Node V)) (before key : ℕ) (b n : Node V) (p : AddressPrefix) (link : Link) → IsChained (prefix_in old) (longer_in old) → IsLastBelow (prefix_in old) (longer_in old) p.address p.length before → longer_in old before ≡ Some key → get old before ≡ Some b → get old key ≡ Some n → n.prefix ≡ p → Updates old mid before (Some (record b { longer = link })) → link ≡ n.longer → Updates mid new key None → Joins old new p None
  joins_removed old mid new before key b n p link c last leads_to found there is one same two =
      let after : Node V = record b { longer = link } in
      let touched = prefix_touched old mid before b after one found refl in
      let here : prefix_in old key ≡ Some p = prefix_found old key n there ∙ ap Some is in
      let removes0 = removes_of mid new key p two (touched key ∙ here) in
      let removes : Removes (prefix_in old) (prefix_in new) key p = record { was = here; gone = removes0.gone; others = λ k n. removes0.others k n ∙ touched k } in
      let apart : before ≢ key = λ e. absurd (omega (arith, last.shorter, ap (λ q. q.length) (some_same last.prefix p (sym last.found ∙ ap (prefix_in old) e ∙ here)))) in
      let chained = behind_removed (prefix_in old) (prefix_in new) key p removes (longer_in old) (longer_in new) c before last leads_to (longer_others mid new key None two before apart ∙ longer_found mid before after one.changed ∙ ap (λ l. leaf_of (leads l)) same ∙ sym (longer_found old key n there)) (λ k x y. longer_others mid new key None two k x ∙ longer_others old mid before (Some after) one k y) in
      record {
        chained = chained;
        heads = behind_gone (prefix_in old) (prefix_in new) key p removes (longer_in old) (longer_in new) c before last leads_to;
        keys = λ k q at. inr ((stood_there (prefix_in old) (prefix_in new) key p removes k q at).1);
        rows = rows_removed old new p c.single chained.single
            (keeps_trans old mid new p (keeps_touched old mid p before b after one found refl refl)
            (keeps_at mid new p key None two (λ x at. some_same x.prefix p (sym (prefix_found mid key x at) ∙ touched key ∙ here)) (λ x at. absurd (cc))))
            (λ k at. let s = stood_there (prefix_in old) (prefix_in new) key p removes k p at in s.0 (c.single k key p s.1 here));
      }

  -- ---- nothing changed
  pub joins_absent : (leaves : Slab (Node V)) (p : AddressPrefix) → IsChained (prefix_in leaves) (longer_in leaves) → ((k : ℕ) → prefix_in leaves k ≡ Some p → ⊥) → Joins leaves leaves p None
  joins_absent leaves p c absent = record {
    chained = c;
    heads = λ a head next. next;
    keys = λ k q at. inr at;
    rows = rows_removed leaves leaves p c.single c.single (record { to = λ k n found differ. (n, found, refl, refl); from = λ k n found differ. (n, found, refl, refl) }) absent;
  }

  -- the index may stay
  pub whole_joined : (old new : Slab (Node V)) (index : Index) (p : AddressPrefix) (value : Option V) → IsWhole old index → Joins old new p value → (p.address < 2 ^ 128) × (p.length ≤ 128) → IsWhole new index
  whole_joined old new index p value w j fits = record {
    heads = w.heads;
    indexes = w.indexes;
    shortest = λ a. j.heads a (w.heads a) (w.shortest a);
    chained = j.chained;
    small = λ k q at. elim (j.keys k q at) [
      | inl e ↦ subst (λ (x : AddressPrefix). (x.address < 2 ^ 128) × (x.length ≤ 128)) (sym e) fits
      | inr was ↦ w.small k q was
    ];
  }

  -- ---- a new first leaf
  pub first_added : (old new : Slab (Node V)) (index after : Index) (key : ℕ) (n : Node V) (w : IsWhole old index) → IsHeadOf (prefix_in old) n.prefix (w.heads n.prefix.address) → get old key ≡ None → ((k : ℕ) → prefix_in old k ≡ Some n.prefix → ⊥) → Updates old new key (Some n) → leaf_of (leads n.longer) ≡ w.heads n.prefix.address → Indexes after (with_head w.heads n.prefix.address (Some key)) → (n.prefix.address < 2 ^ 128) × (n.prefix.length ≤ 128) → IsWhole new after
  first_added old new index after key n w is vacant absent u own indexes fits =
      let adds = adds_of old new key n vacant u absent in
      record {
        heads = with_head w.heads n.prefix.address (Some key);
        indexes = indexes;
        shortest = first_heads (prefix_in old) (prefix_in new) key n.prefix adds (longer_in old) (longer_in new) w.chained w.heads w.shortest is;
        chained = first_chained (prefix_in old) (prefix_in new) key n.prefix adds (longer_in old) (longer_in new) w.chained (w.heads n.prefix.address) is (longer_found new key n u.changed ∙ own) (longer_others old new key (Some n) u);
        small = λ k q at. elim (was_there (prefix_in old) (prefix_in new) key n.prefix adds k q at) [
          | inl x ↦ subst (λ (x : AddressPrefix). (x.address < 2 ^ 128) × (x.length ≤ 128)) (sym x.1) fits
          | inr x ↦ w.small k q x.1
        ];
      }

  pub first_rows : (old new : Slab (Node V)) (index after : Index) (key : ℕ) (n : Node V) → IsWhole old index → IsWhole new after → get old key ≡ None → Updates old new key (Some n) → rows_of new ≡ map.insert (rows_of old) n.prefix n.value
  first_rows old new index after key n w w' vacant u =
      rows_put old new n.prefix key n n.value w.chained.single w'.chained.single (keeps_at old new n.prefix key (Some n) u (λ x at. let none = sym at ∙ vacant in absurd (cc)) (λ x at. ap (λ (y : Node V). y.prefix) (some_same x n (sym at)))) u.changed refl refl

  -- ---- the first leaf of an address goes
  pub first_taken : (old new : Slab (Node V)) (index after : Index) (key : ℕ) (p : AddressPrefix) (w : IsWhole old index) → prefix_in old key ≡ Some p → w.heads p.address ≡ Some key → Updates old new key None → Indexes after (with_head w.heads p.address (longer_in old key)) → IsWhole new after
  first_taken old new index after key p w found is u indexes =
      let removes = removes_of old new key p u found in
      record {
        heads = with_head w.heads p.address (longer_in old key);
        indexes = indexes;
        shortest = first_gone (prefix_in old) (prefix_in new) key p removes (longer_in old) (longer_in new) w.chained w.heads w.shortest is;
        chained = first_removed (prefix_in old) (prefix_in new) key p removes (longer_in old) (longer_in new) w.chained (subst (λ l. IsNextOf (prefix_in old) p.address 0 l) is (w.shortest p.address)) (longer_others old new key None u);
        small = λ k q at. w.small k q ((stood_there (prefix_in old) (prefix_in new) key p removes k q at).1);
      }

  pub first_removed_rows : (old new : Slab (Node V)) (index after : Index) (key : ℕ) (p : AddressPrefix) → IsWhole old index → IsWhole new after → prefix_in old key ≡ Some p → Updates old new key None → rows_of new ≡ map.remove (rows_of old) p
  first_removed_rows old new index after key p w w' found u =
      let removes = removes_of old new key p u found in
      rows_removed old new p w.chained.single w'.chained.single (keeps_at old new p key None u (λ x at. some_same x.prefix p (sym (prefix_found old key x at) ∙ found)) (λ x at. absurd (cc)))
      (λ k at. let s = stood_there (prefix_in old) (prefix_in new) key p removes k p at in s.0 (w.chained.single k key p s.1 found))

  -- ---- what calls ask of a whole trie
  pub names_of : (leaves : Slab (Node V)) (index : Index) (w : IsWhole leaves index) → Names (prefix_in leaves) w.heads
  names_of leaves index w a k e = let n : IsNextOf (prefix_in leaves) a 0 (Some k) = subst (λ l. IsNextOf (prefix_in leaves) a 0 l) e (w.shortest a) in (n.0, n.1, n.2)

  pub prefix_there : (leaves : Slab (Node V)) (k : ℕ) → ContainsKey leaves k → (p : AddressPrefix) × (prefix_in leaves k ≡ Some p)
  prefix_there leaves k has = by (get leaves k) refl has
    where
      by : (o : Option (Node V)) → get leaves k ≡ o → IsSome o → (p : AddressPrefix) × (prefix_in leaves k ≡ Some p)
      by None e h = absurd (let x : is_some {T = Node V} None ≡ true = h in cc)
      by (Some n) e h = (n.prefix, ap (option_map (λ n. n.prefix)) e)

  pub names_added : (old new : Slab (Node V)) (heads : ℕ → Option ℕ) (key : ℕ) (p : AddressPrefix) → Adds (prefix_in old) (prefix_in new) key p → Names (prefix_in old) heads → Names (prefix_in new) heads
  names_added old new heads key p adds names a k e = let n = names a k e in (n.0, is_there (prefix_in old) (prefix_in new) key p adds k n.0 n.1, n.2)

  -- what another insert leaves
  pub still_there : (old mid : Slab (Node V)) (key k : ℕ) (n : Node V) (slot : Option (Node V)) → get old key ≡ None → Updates old mid key slot → get old k ≡ Some n → get mid k ≡ Some n
  still_there old mid key k n slot vacant u found = u.others k (not_vacant old key k n.prefix vacant (prefix_found old k n found)) ∙ found

  -- capacities count for nothing
  pub whole_sized : (old new : Slab (Node V)) (branches branches' : Slab Branch) (root : Link) → new ≡ record old { capacity = new.capacity } → branches' ≡ record branches { capacity = branches'.capacity } → IsWhole old (record { root = root; branches = branches }) → IsWhole new (record { root = root; branches = branches' })
  whole_sized old new branches branches' root e f w =
      let sized : IsWhole (record old { capacity = new.capacity }) (record { root = root; branches = record branches { capacity = branches'.capacity } }) = record {
        heads = w.heads;
        indexes = record { layout = w.indexes.layout; holds = record { fits = w.indexes.holds.fits; apart = w.indexes.holds.apart; single = w.indexes.holds.single } };
        shortest = w.shortest;
        chained = record { linked = w.chained.linked; single = w.chained.single };
        small = w.small;
      } in
      subst (λ (l : Slab (Node V)). IsWhole l (record { root = root; branches = branches' })) (sym e) (subst (λ (b : Slab Branch). IsWhole (record old { capacity = new.capacity }) (record { root = root; branches = b })) (sym f) sized)

  pub gap_sized : (old new : Slab (Node V)) (branches branches' : Slab Branch) (root : Link) (p : AddressPrefix) (gap : Gap) → new ≡ record old { capacity = new.capacity } → branches' ≡ record branches { capacity = branches'.capacity } → IsGapOf old (record { root = root; branches = branches }) p gap → IsGapOf new (record { root = root; branches = branches' }) p gap
  gap_sized old new branches branches' root p (Behind before) e f at =
      subst (λ (l : Slab (Node V)). IsLastBelow (prefix_in l) (longer_in l) p.address p.length before) (sym e) (record { prefix = at.prefix; found = at.found; same = at.same; shorter = at.shorter; next = at.next })
  gap_sized old new branches branches' root p (First end head) e f at =
      let sized : IsWayEnd (record old { capacity = new.capacity }) (record { root = root; branches = record branches { capacity = branches'.capacity } }) p end head = record {
        way = λ heads layout h.
            let w = at.way heads layout (record { fits = h.fits; apart = h.apart; single = h.single }) in
            record { stands = record { place = w.stands.place; level = w.stands.level; leads = w.stands.leads; short = w.stands.short }; lies = w.lies };
        cell = at.cell;
        first = at.first;
      } in
      subst (λ (l : Slab (Node V)). IsWayEnd l (record { root = root; branches = branches' }) p end head) (sym e) (subst (λ (b : Slab Branch). IsWayEnd (record old { capacity = new.capacity }) (record { root = root; branches = b }) p end head) (sym f) sized)

  -- an empty trie
  pub whole_empty : (leaves : Slab (Node V)) (index : Index) → leaves.slots ≡ [] → Indexes index (λ _. None) → IsWhole leaves index
  whole_empty leaves index empty indexes =
      let none : (k : ℕ) → get leaves k ≡ None = λ k. ap (λ (xs : List (Option (Node V))). get_or xs k None) empty in
      let absent : (k : ℕ) (p : AddressPrefix) → prefix_in leaves k ≡ Some p → ⊥ = λ k p found. let n = node_at leaves k p found in let clash = sym n.1 ∙ none k in absurd (cc) in
      record {
        heads = λ _. None;
        indexes = indexes;
        shortest = λ a k p found. absurd (absent k p found);
        chained = record { linked = λ k p found. absurd (absent k p found); single = λ k l p found. absurd (absent k p found) };
        small = λ k p found. absurd (absent k p found);
      }

  -- ---- a value written in its place
  pub touched_joins : (leaves : Slab (Node V)) (key : ℕ) (n : Node V) (p : AddressPrefix) (v : V) → IsChained (prefix_in leaves) (longer_in leaves) → get leaves key ≡ Some n → n.prefix ≡ p → Joins leaves (put_value leaves key (record n { value = v })) p (Some v)
  touched_joins leaves key n p v c found is = joins_replaced leaves (put_value leaves key (record n { value = v })) key n p v c found is (Updates-with_value leaves key (record n { value = v }) (contains leaves key n found))

  pub touched_whole : (leaves : Slab (Node V)) (index : Index) (key : ℕ) (n : Node V) (p : AddressPrefix) (v : V) → IsWhole leaves index → get leaves key ≡ Some n → n.prefix ≡ p → IsWhole (put_value leaves key (record n { value = v })) index
  touched_whole leaves index key n p v w found is =
      whole_joined leaves (put_value leaves key (record n { value = v })) index p (Some v) w (touched_joins leaves key n p v w.chained found is) (w.small key p (prefix_found leaves key n found ∙ ap Some is))

  touched_rows : (leaves : Slab (Node V)) (index : Index) (key : ℕ) (n : Node V) (p : AddressPrefix) (v : V) → IsWhole leaves index → get leaves key ≡ Some n → n.prefix ≡ p → rows_of (put_value leaves key (record n { value = v })) ≡ map.insert (rows_of leaves) p v
  touched_rows leaves index key n p v w found is = (touched_joins leaves key n p v w.chained found is).rows

  pub touched_contents : (leaves : Slab (Node V)) (index : Index) (key : ℕ) (n : Node V) (p : AddressPrefix) (v : V) → IsWhole leaves index → get leaves key ≡ Some n → n.prefix ≡ p → ◌≡◌ {A = Contents V} (record { rows = rows_of (put_value leaves key (record n { value = v })); leaves = prefixes_of (put_value leaves key (record n { value = v })) }) (record { rows = map.insert (rows_of leaves) p v; leaves = prefixes_of leaves })
  touched_contents leaves index key n p v w found is =
      ap (λ (rows : FinMap prefix_cmp V). record { rows = rows; leaves = prefixes_of (put_value leaves key (record n { value = v })) }) (touched_rows leaves index key n p v w found is)
      ∙ ap (λ (xs : List (Option AddressPrefix)). record { rows = map.insert (rows_of leaves) p v; leaves = xs }) (map-set_same (option_map (λ (m : Node V). m.prefix)) leaves.slots key (Some (record n { value = v })) None (sym (prefix_found leaves key n found)))

  -- the leaf of a prefix
  pub leaf_node : (leaves : Slab (Node V)) (key : ℕ) (n : Node V) (p : AddressPrefix) → prefix_in leaves key ≡ Some p → get leaves key ≡ Some n → n.prefix ≡ p
  leaf_node leaves key n p leaf found = some_same n.prefix p (sym (prefix_found leaves key n found) ∙ leaf)

  -- where contracts see it
  pub lies_at : (leaves : Slab (Node V)) (key : ℕ) (p : AddressPrefix) → prefix_in leaves key ≡ Some p → LiesAt (prefixes_of leaves) key p
  lies_at leaves key p found = by leaves.slots key ∙ found
    where
      by : (slots : List (Option (Node V))) (k : ℕ) → get_or (list.map (option_map (λ (n : Node V). n.prefix)) slots) k None ≡ option_map (λ n. n.prefix) (get_or slots k None)
      by [] k = refl
      by (slot ∷ rest) zero = refl
      by (slot ∷ rest) (suc k) = by rest k

  pub must_find : (leaves : Slab (Node V)) (p : AddressPrefix) (result : Option ℕ) → IsSome (map.get (rows_of leaves) p) → IsLeafOf (prefix_in leaves) p result → IsSome result
  must_find leaves p None has absent = let clash : is_some {T = V} None ≡ true = sym (ap is_some (row_none leaves p absent)) ∙ has in absurd (cc)
  must_find leaves p (Some key) has leaf = refl

  -- ---- what stands next
  pub next_row_is : (leaves : Slab (Node V)) (after result : Option AddressPrefix) (key : Option ℕ) → IsChained (prefix_in leaves) (longer_in leaves) → IsNextLeaf (prefix_in leaves) after key → IsOf (prefix_in leaves) key result → IsNextRow (map.get (rows_of leaves)) after result
  next_row_is leaves after None None c next of = λ q beyond. row_none leaves q (λ k found. next k q found beyond)
  next_row_is leaves after (Some p) (Some key) c next of =
      let e : next.0 ≡ p = some_same next.0 p (sym next.1 ∙ of) in
      let n = node_at leaves key p of in (
        subst (IsBeyond after) e next.2,
        subst IsSome (sym (row_of leaves key n.0 p c.single n.1 n.2)) refl,
        λ q beyond before. row_none leaves q (λ k found. next.3 k q found beyond (subst (ComesBefore q) (sym e) before)),
      )
  next_row_is leaves after None (Some key) c next of = absurd of
  next_row_is leaves after (Some p) None c next of = absurd of

  -- each key has a leaf
  pub nodes_of : (leaves : Slab (Node V)) → HasNodes leaves (rows_of leaves)
  nodes_of leaves p has = by (map.get (rows_of leaves) p) refl has
    where
      by : (o : Option V) → map.get (rows_of leaves) p ≡ o → IsSome o → HasNode leaves p
      by None e h = absurd (let x : is_some {T = V} None ≡ true = h in cc)
      by (Some v) e h = let r = row_found leaves p v e in record { key = r.key; node = r.node; found = r.found; prefix = r.prefix }

  pub rows_empty : (leaves : Slab (Node V)) → leaves.slots ≡ [] → rows_of leaves ≡ map.empty
  rows_empty leaves empty = same_map prefixes_total exact_prefixes _ _ (λ q. row_none leaves q (λ k found.
      let n = node_at leaves k q found in
      let clash = sym n.1 ∙ ap (λ (xs : List (Option (Node V))). get_or xs k None) empty in absurd (cc)) ∙ sym (get-empty prefix_cmp q))

  -- the last leaf below a prefix, as the code finds it
  pub last_at : (leaves : Slab (Node V)) (first before length : ℕ) (p : AddressPrefix) → ((q : AddressPrefix) → prefix_in leaves first ≡ Some q → IsLastBelow (prefix_in leaves) (longer_in leaves) q.address length before) → ContainsKey leaves first → ((q : AddressPrefix) → prefix_in leaves first ≡ Some q → (q.address ≡ p.address) × (q.length < p.length)) → length ≡ p.length → IsLastBelow (prefix_in leaves) (longer_in leaves) p.address p.length before
  last_at leaves first before length p last has below is =
      let f = prefix_there leaves first has in
      subst (λ l. IsLastBelow (prefix_in leaves) (longer_in leaves) p.address l before) is (subst (λ a. IsLastBelow (prefix_in leaves) (longer_in leaves) a length before) (below f.0 f.1).0 (last f.0 f.1))
