-- Entries with numbers, and how many readers stand at each.
use Rattle.std.proofs.Common.{◌≡◌, ◌≢◌, ℕ, ◌+◌, ◌-◌, ◌<◌, ◌≤◌, ◌^◌, nat_eq, nat_lt, max, arith, Bool, true, false, cond, List, [], ◌∷◌, ◌++◌, length, get_or, set, drop, map, Option, Some, None, refl, sym, ap, ◌∙◌, subst}
use Rattle.std.proofs.lemmas.List.{map-append, length-map, length-append, map-set, set-append_left, get_or-set_same, get_or-set_other, get_or_append_left, get_or-map, drop_more}
use Rattle.std.proofs.Math.ListN as list
use Rattle.std.proofs.Math.Seq.{set-append_seam, get_or-append_seam, map-set_same}
use Rattle.std.proofs.lemmas.Bool.Decides.{nat_tests}
use Rattle.std.specs.List.{list_any}
use Rattle.std.specs.Ordering.{eq_by_cmp, is_eq}
use Rattle.std.specs.BTreeMap.{is_at}
use Rattle.std.specs.BTreeSet.{BTreeSet, contains}
use Rattle.addr4.specs.Prefixes.{AddressPrefix, prefix_cmp}
use Rattle.link_change.specs.Changes.{Change}
use Rattle.fanout_queue.specs.Index.{Key, key_cmp, IsFirstNumber, IsFirstStop, is_reached, lesser, stops, IsIndexed}
use Rattle.fanout_queue.specs.Entries.{Entry, Numbered, stands_at, changes_of, readers_of, numbered_of, IsKept, readers_at, unread_at, IsPlace, Enters, Leaves, first_before, IsNextBeside}
use Rattle.fanout_queue.proofs.Cases.{by_bool}
use Rattle.fanout_queue.proofs.IndexLemmas.{put_indexed, cut_indexed, more_indexed, key_below, number_here, none_numbered, none_beside, lesser_beside, none_stops, other_stops, change_stops}

pub stands_here : (n place : ℕ) → n ≡ place → stands_at n (Some place) ≡ 1
stands_here n place is = by_bool (nat_eq n place) (λ v. ◌≡◌ {A = ℕ} (cond v 1 0) 1) (λ _. refl) (λ e. absurd (grind (arith, nat_tests)))

pub stands_elsewhere : (n place : ℕ) → n ≢ place → stands_at n (Some place) ≡ 0
stands_elsewhere n place apart = by_bool (nat_eq n place) (λ v. ◌≡◌ {A = ℕ} (cond v 1 0) 0) (λ e. absurd (apart (grind (arith, nat_tests)))) (λ _. refl)

-- a place is that of the number, or it isn't
pub by_place : (n place : ℕ) (P : Type 0) → (n ≡ place → P) → (n ≢ place → P) → P
by_place n place P here apart = by_bool (nat_eq n place) (λ _. P) (λ e. here (grind (arith, nat_tests))) (λ e. apart (λ same. let f : nat_eq n place ≡ true = grind (arith, nat_tests) in let g : true ≡ false = sym f ∙ e in cc))

-- the key, and no other, is there from now on, or isn't
abbrev IsWith : BTreeSet Key → BTreeSet Key → AddressPrefix → ℕ → Bool → Type 0
IsWith old new p number there = (q : Key) → contains key_cmp new q ≡ cond (is_eq (key_cmp (p, number) q)) there (contains key_cmp old q)

module _ {R : Type 0} where
  -- ---- the count of one place is set
  pub kept_stays : (first : ℕ) (kept kept' : List (Entry R)) (index : BTreeSet Key) (indexed : ℕ) → changes_of kept' ≡ changes_of kept → IsKept first kept index indexed → IsKept first kept' index indexed
  kept_stays first kept kept' index indexed same is = record {
    keys = subst (λ (cs : List (Change R)). IsIndexed first cs index indexed) (sym same) is.keys;
    until = subst (λ (cs : List (Change R)). indexed ≤ first + length cs) (sym same) is.until;
    fits = subst (λ (cs : List (Change R)). first + length cs < 2 ^ 64) (sym same) is.fits;
  }

  pub same_changes : (kept : List (Entry R)) (i count : ℕ) (e : Entry R) → e ≡ get_or kept i e → changes_of (set kept i (record { change = e.change; readers = count })) ≡ changes_of kept
  same_changes kept i count e at = map-set_same (λ (x : Entry R). x.change) kept i (record { change = e.change; readers = count }) e (ap (λ (x : Entry R). x.change) at)

  pub count_set : (kept : List (Entry R)) (at_end i count : ℕ) (e : Entry R) → i < length kept → readers_of (set kept i (record { change = e.change; readers = count })) at_end ≡ set (readers_of kept at_end) i count
  count_set kept at_end i count e within =
      let n = length-map kept (λ (x : Entry R). x.readers) in
      ap (λ (l : List ℕ). l ++ at_end ∷ []) (map-set (λ (x : Entry R). x.readers) kept i (record { change = e.change; readers = count }))
      ∙ sym (set-append_left (map (λ (x : Entry R). x.readers) kept) (at_end ∷ []) i count (omega arith))

  pub last_set : (kept : List (Entry R)) (at_end i count : ℕ) → i ≡ length kept → readers_of kept count ≡ set (readers_of kept at_end) i count
  last_set kept at_end i count is =
      let n = length-map kept (λ (x : Entry R). x.readers) in
      sym (ap (λ k. set (readers_of kept at_end) k count) (let e : i ≡ length (map (λ (x : Entry R). x.readers) kept) = omega arith in e)
      ∙ set-append_seam (map (λ (x : Entry R). x.readers) kept) at_end [] count)

  pub counts_long : (kept : List (Entry R)) (at_end : ℕ) → length (readers_of kept at_end) ≡ length (changes_of kept) + 1
  counts_long kept at_end =
      let n = length-map kept (λ (x : Entry R). x.readers) in
      let m = length-map kept (λ (x : Entry R). x.change) in
      length-append (map (λ (x : Entry R). x.readers) kept) (at_end ∷ []) ∙ omega arith

  -- what is counted at a place, and elsewhere
  pub set_here : (m m' : Numbered R) (place count n : ℕ) → m'.first ≡ m.first → m.first ≤ place → place - m.first < length m.readers → m'.readers ≡ set m.readers (place - m.first) count → n ≡ place → readers_at m' n ≡ count
  set_here m m' place count n first from within is here =
      ap (λ (l : List ℕ). get_or l (n - m'.first) 0) is
      ∙ ap (λ k. get_or (set m.readers (place - m.first) count) k 0) (let e : n - m'.first ≡ place - m.first = omega arith in e)
      ∙ get_or-set_same m.readers (place - m.first) count 0 within

  pub set_elsewhere : (m m' : Numbered R) (place count n : ℕ) → m'.first ≡ m.first → m.first ≤ place → m.first ≤ n → m'.readers ≡ set m.readers (place - m.first) count → n ≢ place → readers_at m' n ≡ readers_at m n
  set_elsewhere m m' place count n first from low is apart =
      ap (λ (l : List ℕ). get_or l (n - m'.first) 0) is
      ∙ ap (λ k. get_or (set m.readers (place - m.first) count) k 0) (let e : n - m'.first ≡ n - m.first = omega arith in e)
      ∙ get_or-set_other m.readers (place - m.first) (n - m.first) count 0 (λ e. apart (omega arith))

  enters_by : (m m' : Numbered R) (place : ℕ) → m'.first ≡ m.first → m'.changes ≡ m.changes → m'.indexed ≡ m.indexed → m.first ≤ place → place - m.first < length m.readers → m'.readers ≡ set m.readers (place - m.first) (readers_at m place + 1) → Enters m m' place
  enters_by m m' place first changes indexed from within is = record {
    first = first;
    changes = changes;
    indexed = indexed;
    readers = λ n low. by_place n place (readers_at m' n ≡ readers_at m n + stands_at n (Some place))
        (λ here. let s = stands_here n place here in
        set_here m m' place (readers_at m place + 1) n first from within is here ∙ (let same = ap (readers_at m) here in omega arith))
        (λ apart. let s = stands_elsewhere n place apart in
        let e = set_elsewhere m m' place (readers_at m place + 1) n first from low is apart in omega arith);
  }

  leaves_by : (m m' : Numbered R) (place : ℕ) → m'.first ≡ m.first → m'.changes ≡ m.changes → m'.indexed ≡ m.indexed → m.first ≤ place → place - m.first < length m.readers → 0 < readers_at m place → m'.readers ≡ set m.readers (place - m.first) (readers_at m place - 1) → Leaves m m' place
  leaves_by m m' place first changes indexed from within some is = record {
    first = first;
    changes = changes;
    indexed = indexed;
    readers = λ n low. by_place n place (readers_at m' n + stands_at n (Some place) ≡ readers_at m n)
        (λ here. let s = stands_here n place here in
        let e = set_here m m' place (readers_at m place - 1) n first from within is here in
        let same = ap (readers_at m) here in omega arith)
        (λ apart. let s = stands_elsewhere n place apart in
        let e = set_elsewhere m m' place (readers_at m place - 1) n first from low is apart in omega arith);
  }

  -- ---- the same, of the fields
  module _ {numbered : ℕ} (first : ℕ) (kept : List (Entry R)) (at_end : ℕ) (m : Numbered R) (view : numbered_of first kept at_end numbered ≡ m) (place : ℕ) where
    count_here : (e : Entry R) → place - first < length kept → e ≡ get_or kept (place - first) e → get_or (readers_of kept at_end) (place - first) 0 ≡ e.readers
    count_here e within at =
        let n = length-map kept (λ (x : Entry R). x.readers) in
        get_or_append_left (map (λ (x : Entry R). x.readers) kept) (at_end ∷ []) 0 (place - first) (omega arith)
        ∙ get_or-map (λ (x : Entry R). x.readers) kept (place - first) e 0 within
        ∙ sym (ap (λ (x : Entry R). x.readers) at)

    count_last : place - first ≡ length kept → get_or (readers_of kept at_end) (place - first) 0 ≡ at_end
    count_last is =
        let n = length-map kept (λ (x : Entry R). x.readers) in
        ap (λ k. get_or (readers_of kept at_end) k 0) (let e : place - first ≡ length (map (λ (x : Entry R). x.readers) kept) = omega arith in e)
        ∙ get_or-append_seam (map (λ (x : Entry R). x.readers) kept) at_end [] 0

    pub place_from : IsPlace m place → first ≤ place
    place_from is = subst (λ (v : Numbered R). v.first ≤ place) (sym view) is.from

    pub place_to : IsPlace m place → place ≤ first + length kept
    place_to is =
        let n = length-map kept (λ (x : Entry R). x.change) in
        let to : place ≤ first + length (changes_of kept) = subst (λ (v : Numbered R). place ≤ v.first + length v.changes) (sym view) is.to in omega arith

    pub enters_entry : (e : Entry R) → first ≤ place → place - first < length kept → e ≡ get_or kept (place - first) e → Enters m (numbered_of first (set kept (place - first) (record { change = e.change; readers = e.readers + 1 })) at_end numbered) place
    enters_entry e from within at =
        let n = counts_long kept at_end in let k = length-map kept (λ (x : Entry R). x.change) in
        subst (λ (v : Numbered R). Enters v (numbered_of first (set kept (place - first) (record { change = e.change; readers = e.readers + 1 })) at_end numbered) place) view
        (enters_by (numbered_of first kept at_end numbered) (numbered_of first (set kept (place - first) (record { change = e.change; readers = e.readers + 1 })) at_end numbered) place refl (same_changes kept (place - first) (e.readers + 1) e at) refl from (omega arith)
        (count_set kept at_end (place - first) (e.readers + 1) e within ∙ ap (λ c. set (readers_of kept at_end) (place - first) (c + 1)) (sym (count_here e within at))))

    -- a count that has room for one more, as it is kept
    pub room_entry : (e : Entry R) → place - first < length kept → e ≡ get_or kept (place - first) e → readers_at m place + 1 < 2 ^ 64 → e.readers + 1 < 2 ^ 64
    room_entry e within at room =
        let here : readers_at m place ≡ e.readers = subst (λ (v : Numbered R). readers_at v place ≡ e.readers) view (count_here e within at) in
        omega arith

    pub enters_end : first ≤ place → place - first ≡ length kept → Enters m (numbered_of first kept (at_end + 1) numbered) place
    enters_end from is =
        let n = counts_long kept at_end in let k = length-map kept (λ (x : Entry R). x.change) in
        subst (λ (v : Numbered R). Enters v (numbered_of first kept (at_end + 1) numbered) place) view
        (enters_by (numbered_of first kept at_end numbered) (numbered_of first kept (at_end + 1) numbered) place refl refl refl from (omega arith)
        (last_set kept at_end (place - first) (at_end + 1) is ∙ ap (λ c. set (readers_of kept at_end) (place - first) (c + 1)) (sym (count_last is))))

    pub leaves_entry : (e : Entry R) → first ≤ place → place - first < length kept → 0 < readers_at m place → e ≡ get_or kept (place - first) e → Leaves m (numbered_of first (set kept (place - first) (record { change = e.change; readers = e.readers - 1 })) at_end numbered) place
    leaves_entry e from within some at =
        let n = counts_long kept at_end in let k = length-map kept (λ (x : Entry R). x.change) in
        subst (λ (v : Numbered R). Leaves v (numbered_of first (set kept (place - first) (record { change = e.change; readers = e.readers - 1 })) at_end numbered) place) view
        (leaves_by (numbered_of first kept at_end numbered) (numbered_of first (set kept (place - first) (record { change = e.change; readers = e.readers - 1 })) at_end numbered) place refl (same_changes kept (place - first) (e.readers - 1) e at) refl from (omega arith)
        (subst (λ (v : Numbered R). 0 < readers_at v place) (sym view) some)
        (count_set kept at_end (place - first) (e.readers - 1) e within ∙ ap (λ c. set (readers_of kept at_end) (place - first) (c - 1)) (sym (count_here e within at))))

    pub leaves_end : first ≤ place → place - first ≡ length kept → 0 < readers_at m place → Leaves m (numbered_of first kept (at_end - 1) numbered) place
    leaves_end from is some =
        let n = counts_long kept at_end in let k = length-map kept (λ (x : Entry R). x.change) in
        subst (λ (v : Numbered R). Leaves v (numbered_of first kept (at_end - 1) numbered) place) view
        (leaves_by (numbered_of first kept at_end numbered) (numbered_of first kept (at_end - 1) numbered) place refl refl refl from (omega arith)
        (subst (λ (v : Numbered R). 0 < readers_at v place) (sym view) some)
        (last_set kept at_end (place - first) (at_end - 1) is ∙ ap (λ c. set (readers_of kept at_end) (place - first) (c - 1)) (sym (count_last is))))

  -- ---- entries come and go
  pub end_is : {numbered : ℕ} (first : ℕ) (kept : List (Entry R)) (at_end number : ℕ) (m : Numbered R) → numbered_of first kept at_end numbered ≡ m → number ≡ m.first + length m.changes → number ≡ first + length (changes_of kept)
  end_is first kept at_end number m view is = is ∙ sym (ap (λ (v : Numbered R). v.first + length v.changes) view)

  pub put_kept : (first : ℕ) (kept kept' : List (Entry R)) (c : Change R) (readers : ℕ) (index : BTreeSet Key) (indexed : ℕ) → first + length (changes_of kept) + 1 < 2 ^ 64
      → kept' ≡ kept ++ record { change = c; readers = readers } ∷ [] → IsKept first kept index indexed → IsKept first kept' index indexed
  put_kept first kept kept' c readers index indexed fits more sound =
      let changes : changes_of kept' ≡ changes_of kept ++ c ∷ [] = ap (changes_of) more ∙ map-append (λ (x : Entry R). x.change) kept (record { change = c; readers = readers } ∷ []) in
      let n = length-append (changes_of kept) (c ∷ []) in
      let until = sound.until in
      record {
        keys = subst (λ (cs : List (Change R)). IsIndexed first cs index indexed) (sym changes) (put_indexed first (changes_of kept) c index indexed until sound.keys);
        until = subst (λ (cs : List (Change R)). indexed ≤ first + length cs) (sym changes) (omega arith);
        fits = subst (λ (cs : List (Change R)). first + length cs < 2 ^ 64) (sym changes) (omega arith);
      }

  pub cut_kept : (first : ℕ) (kept kept' rest : List (Entry R)) (e : Entry R) (index : BTreeSet Key) (indexed : ℕ) → kept ≡ e ∷ rest → kept' ≡ rest → IsKept first kept index indexed → IsKept (first + 1) kept' index indexed
  cut_kept first kept kept' rest e index indexed is same sound =
      let was : IsKept first (e ∷ rest) index indexed = subst (λ (l : List (Entry R)). IsKept first l index indexed) is sound in
      subst (λ (l : List (Entry R)). IsKept (first + 1) l index indexed) (sym same) (record {
        keys = cut_indexed first e.change (changes_of rest) index indexed was.keys;
        until = let until : indexed ≤ first + length (changes_of (e ∷ rest)) = was.until in omega arith;
        fits = let fits : first + length (changes_of (e ∷ rest)) < 2 ^ 64 = was.fits in omega arith;
      })

  pub more_kept : (first : ℕ) (kept : List (Entry R)) (index index' : BTreeSet Key) (indexed number : ℕ) (e : Entry R) → first ≤ number → indexed ≤ number → ((n : ℕ) → first ≤ n → n < number → n < indexed) → number - first < length kept
      → e ≡ get_or kept (number - first) e → IsKept first kept index indexed → IsWith index index' e.change.prefix number true → IsKept first kept index' (number + 1)
  more_kept first kept index index' indexed number e low past had inside at sound put =
      let n = length-map kept (λ (x : Entry R). x.change) in
      let same : get_or (changes_of kept) (number - first) e.change ≡ e.change = list.get_or-map (λ (x : Entry R). x.change) kept (number - first) e ∙ sym (ap (λ (x : Entry R). x.change) at) in
      record {
        keys = more_indexed first (changes_of kept) e.change index index' number indexed low past had (omega arith) sound.keys
            (subst (λ (x : Change R). IsWith index index' x.prefix number true) (sym same) put);
        until = omega arith;
        fits = sound.fits;
      }

  -- the index has nothing
  pub none_indexed : (first : ℕ) (kept : List (Entry R)) (index none : BTreeSet Key) (indexed number : ℕ) → number ≤ first → none.keys ≡ [] → IsKept first kept index indexed → IsKept first kept none number
  none_indexed first kept index none indexed number low empty sound = record {
    keys = record {
      below = λ p n from less. absurd (omega arith);
      above = λ p n from past. ap (λ (ks : List Key). list_any (is_at (key_cmp (p, n))) ks) empty;
    };
    until = omega arith;
    fits = sound.fits;
  }

  -- or what it had
  pub same_indexed : (first : ℕ) (kept : List (Entry R)) (index index' : BTreeSet Key) (indexed : ℕ) → index'.keys ≡ index.keys → IsKept first kept index indexed → IsKept first kept index' indexed
  same_indexed first kept index index' indexed same sound = record {
    keys = record {
      below = λ p n from less. ap (λ (ks : List Key). list_any (is_at (key_cmp (p, n))) ks) same ∙ sound.keys.below p n from less;
      above = λ p n from past. ap (λ (ks : List Key). list_any (is_at (key_cmp (p, n))) ks) same ∙ sound.keys.above p n from past;
    };
    until = sound.until;
    fits = sound.fits;
  }

  -- ---- what is found in the index
  module _ {numbered : ℕ} (first : ℕ) (kept : List (Entry R)) (at_end : ℕ) (index : BTreeSet Key) (indexed : ℕ) (m : Numbered R) (view : numbered_of first kept at_end numbered ≡ m) (sound : IsKept first kept index indexed) (place : ℕ) (is : IsPlace m place) where
    abbrev low : first ≤ place
    low = place_from first kept at_end m view place is

    unread_is : drop (place - first) (changes_of kept) ≡ unread_at m place
    unread_is = ap (λ (v : Numbered R). unread_at v place) view

    pub numbers_fit : (p : AddressPrefix) (n : ℕ) → contains key_cmp index (p, n) ≡ true → n < 2 ^ 64
    numbers_fit p n has = let fits = sound.fits in by_bool (nat_lt n first) (λ _. n < 2 ^ 64)
        (λ e. let before : n < first = grind (arith, nat_tests) in omega arith)
        (λ e. let from : first ≤ n = grind (arith, nat_tests) in
        let below = key_below first (changes_of kept) index indexed sound.keys p place low n from has in
        let until = sound.until in omega arith)

    pub change_found : (p : AddressPrefix) (s : ℕ) (e : Entry R) → e ≡ get_or kept (s - first) e → IsFirstNumber index p place (Some s) → Some e.change.before ≡ first_before p (unread_at m place)
    change_found p s e at number =
        ap (λ (x : Change R). Some x.before) (ap (λ (x : Entry R). x.change) at ∙ sym (list.get_or-map (λ (x : Entry R). x.change) kept (s - first) e))
        ∙ sym (ap (first_before p) (sym unread_is) ∙ number_here first (changes_of kept) index indexed sound.keys p place low s number e.change)

    -- the rest begins at the place or at the first number that the index doesn't have
    module _ (begin : ℕ) (later : begin ≡ max place indexed) where
      abbrev rest : ℕ
      rest = begin - first

      le : place - first ≤ rest
      le = omega arith

      inside : (n : ℕ) → place ≤ n → n < first + rest → n < indexed
      inside n from to = let least = low in omega arith

      pub rest_within : rest ≤ length kept
      rest_within = let until = sound.until in let to = place_to first kept at_end m view place is in let n = length-map kept (λ (x : Entry R). x.change) in omega arith

      pub rest_found : (p : AddressPrefix) (found : Option (Option R)) → IsFirstNumber index p place None → found ≡ first_before p (drop rest (changes_of kept)) → found ≡ first_before p (unread_at m place)
      rest_found p found number is = is ∙ sym (ap (first_before p) (sym unread_is) ∙ none_numbered first (changes_of kept) index indexed sound.keys p place low rest le inside number)

      module _ (after other least : Option AddressPrefix) (gone : IsNextBeside (drop rest (changes_of kept)) after other least) where
        beside_is : (result : Option AddressPrefix) → IsNextBeside (drop (place - first) (changes_of kept)) after other result → IsNextBeside (unread_at m place) after other result
        beside_is result next = subst (λ (cs : List (Change R)). IsNextBeside cs after other result) unread_is next

        -- where the index has nothing from the place on
        pub rest_beside : indexed ≤ place → IsNextBeside (unread_at m place) after other least
        rest_beside past = beside_is least (subst (λ k. IsNextBeside (drop k (changes_of kept)) after other least) (let e : rest ≡ place - first = omega arith in e) gone)

        pub none_beside_stops : IsFirstStop index (stops place least) after None → IsNextBeside (unread_at m place) after other least
        none_beside_stops stop = beside_is least (none_stops first (changes_of kept) index indexed sound.keys place rest low le inside after other least gone stop)

        pub other_beside : (key : Key) → IsFirstStop index (stops place least) after (Some key) → is_reached least key.0 ≡ true → IsNextBeside (unread_at m place) after other least
        other_beside key stop reached = beside_is least (other_stops first (changes_of kept) index indexed sound.keys place rest low le inside after other least gone key stop reached)

        pub change_beside : (key : Key) → IsFirstStop index (stops place least) after (Some key) → is_reached least key.0 ≡ false → IsNextBeside (unread_at m place) after other (Some key.0)
        change_beside key stop not_reached = beside_is (Some key.0) (change_stops first (changes_of kept) index indexed sound.keys place rest low le inside after other least gone key stop not_reached)

  -- ---- the entries are gone through
  module _ (kept : List (Entry R)) (at : ℕ) (e : Entry R) (within : at < length kept) (here : e ≡ get_or kept at e) where
    changes_from : drop at (changes_of kept) ≡ e.change ∷ drop (at + 1) (changes_of kept)
    changes_from =
        let n = length-map kept (λ (x : Entry R). x.change) in
        drop_more (changes_of kept) at e.change (omega arith)
        ∙ ap (λ (x : Change R). x ∷ drop (at + 1) (changes_of kept)) (list.get_or-map (λ (x : Entry R). x.change) kept at e ∙ sym (ap (λ (x : Entry R). x.change) here))

    pub entry_passed : (p : AddressPrefix) → eq_by_cmp prefix_cmp e.change.prefix p ≡ false → first_before p (drop at (changes_of kept)) ≡ first_before p (drop (at + 1) (changes_of kept))
    entry_passed p apart = ap (first_before p) changes_from ∙ ap (λ b. cond b (Some e.change.before) (first_before p (drop (at + 1) (changes_of kept)))) apart

    pub entry_found : (p : AddressPrefix) → eq_by_cmp prefix_cmp e.change.prefix p ≡ true → Some e.change.before ≡ first_before p (drop at (changes_of kept))
    entry_found p same = sym (ap (first_before p) changes_from ∙ ap (λ b. cond b (Some e.change.before) (first_before p (drop (at + 1) (changes_of kept)))) same)

    pub entry_beside : (next : ℕ) (after other least result : Option AddressPrefix) → next ≡ at + 1 → IsNextBeside (drop next (changes_of kept)) after other least → result ≡ lesser after e.change.prefix least → IsNextBeside (drop at (changes_of kept)) after other result
    entry_beside next after other least result behind is same =
        subst (IsNextBeside (drop at (changes_of kept)) after other) (sym same)
        (subst (λ (cs : List (Change R)). IsNextBeside cs after other (lesser after e.change.prefix least)) (sym changes_from)
        (lesser_beside e.change (drop (at + 1) (changes_of kept)) after other least (subst (λ k. IsNextBeside (drop k (changes_of kept)) after other least) behind is)))

  pub none_gone : (kept : List (Entry R)) (at : ℕ) (after other : Option AddressPrefix) → at ≡ length kept → IsNextBeside (drop at (changes_of kept)) after other other
  none_gone kept at after other end = let n = length-map kept (λ (x : Entry R). x.change) in none_beside (changes_of kept) at after other (omega arith)

  -- the change at a place is the first from there on
  pub copied_first : {numbered : ℕ} (first : ℕ) (kept : List (Entry R)) (at_end : ℕ) (m : Numbered R) (place : ℕ) (e : Entry R) (c : Change R) → numbered_of first kept at_end numbered ≡ m → m.first ≤ place → place < m.first + length m.changes
      → e ≡ get_or kept (place - first) e → c ≡ e.change → unread_at m place ≡ c ∷ drop (place + 1 - m.first) m.changes
  copied_first first kept at_end m place e c view from within at same =
      let at_first : first ≡ m.first = ap (λ (v : Numbered R). v.first) view in
      let here : get_or m.changes (place - m.first) e.change ≡ e.change =
      ap (λ (l : List (Change R)). get_or l (place - m.first) e.change) (sym (ap (λ (v : Numbered R). v.changes) view))
      ∙ list.get_or-map (λ (x : Entry R). x.change) kept (place - m.first) e
      ∙ ap (λ k. (get_or kept k e).change) (let s : place - m.first ≡ place - first = omega arith in s)
      ∙ sym (ap (λ (x : Entry R). x.change) at) in
      drop_more m.changes (place - m.first) e.change (omega arith)
      ∙ ap (λ (x : Change R). x ∷ drop (place - m.first + 1) m.changes) (here ∙ sym same)
      ∙ ap (λ k. c ∷ drop k m.changes) (let s : place - m.first + 1 ≡ place + 1 - m.first = omega arith in s)
