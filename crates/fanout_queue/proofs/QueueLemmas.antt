-- What the readers of a queue haven't taken, by their numbers.
use Rattle.std.proofs.Common.{◌≡◌, ◌≢◌, ℕ, zero, suc, ◌+◌, ◌-◌, ◌*◌, ◌<◌, ◌≤◌, ◌^◌, nat_lt, arith, cond, Bool, is_some, List, [], ◌∷◌, ◌++◌, length, get_or, drop, Option, Some, None, IsSome, IfSome, Result, IfOk, refl, sym, ap, ◌∙◌, subst}
use Rattle.std.specs.Option.{option_map, option_copied}
use Rattle.std.specs.Borrow.{Bor}
use Rattle.std.specs.List.{sum_by}
use Rattle.std.specs.Ordering.{nat_cmp, eq_by_cmp}
use Rattle.std.specs.Cmp.{nat_cmp_total}
use Rattle.std.specs.FinMap as map
use Rattle.std.specs.FinMap.{nat_cmp-IsAntisymmetric, get-empty, get-insert, get-remove, same_map}
use Rattle.std.proofs.lemmas.List.{drop-append-le, length-drop, get_or_past, get_or-drop}
use Rattle.std.proofs.lemmas.List.Sums.{sum_by-le, sum_by-cons, get_or-le-sum_by}
use Rattle.std.proofs.lemmas.Bool.Decides.{nat_tests}
use Rattle.std.proofs.lemmas.Result.{IfOk-weaker}
use Rattle.std.proofs.Math.ListN.{drop_of_length-le}
use Rattle.addr4.specs.Prefixes.{AddressPrefix}
use Rattle.addr4.specs.declared.memory.Memory.{Memory}
use Rattle.link_change.specs.Rows.{Rows}
use Rattle.link_change.specs.Changes.{Change}
use Rattle.link_change.specs.InOrder.{rows_before, with_last, changed_in}
use Rattle.fanout_queue.specs.Queues.{Queued, AppendsToAll, Takes, AllBelowRead, IsMostUnread}
use Rattle.fanout_queue.specs.Entries.{Numbered, stands_at, readers_at, first_readers, unread_at, IsPlace, Indexes, Puts, Enters, Leaves, Trims, Passes, first_before}
use Rattle.fanout_queue.specs.Readers.{unread_or_none, read_rows, row_before}
use Rattle.fanout_queue.specs.Places.{SetsPlace, AllBelowPlaced, queued_from, queued_of, IsPlaced, IsQueue}
use Rattle.fanout_queue.proofs.Cases.{by_bool, by_number, same_number, other_number, if_some}
use Rattle.fanout_queue.proofs.IndexLemmas.{or_else, first_of_rows, changed_is_first}
use Rattle.fanout_queue.proofs.EntryLemmas.{stands_here, stands_elsewhere, by_place}
use Rattle.fanout_queue.proofs.StepLemmas.{first_is, drop_twice}

-- what is lent is there where it would be copied
pub lent_or_not : {X : Type 0} (o : Option (Bor X)) → is_some o ≡ is_some (option_copied o)
lent_or_not None = refl
lent_or_not (Some x) = refl

-- ---- how many readers stand at a place
abbrev standing : ℕ → List (Option ℕ) → ℕ
standing n places = sum_by (stands_at n) places

-- a number is that of a reader, or it is behind the last one
by_reader : (places : List (Option ℕ)) (k : ℕ) (P : Type 0) → (k < length places → P) → (length places ≤ k → P) → P
by_reader places k P within past = by_bool (nat_lt k (length places)) (λ _. P) (λ e. within (grind (arith, nat_tests))) (λ e. past (grind (arith, nat_tests)))

pub one_there : (places : List (Option ℕ)) (k n : ℕ) → get_or places k None ≡ Some n → 0 < standing n places
one_there places k n at = by_reader places k (0 < standing n places)
    (λ within. let some = get_or-le-sum_by (stands_at n) places k None within in
    let one : stands_at n (get_or places k None) ≡ 1 = ap (stands_at n) at ∙ stands_here n n refl in omega arith)
    (λ past. let e : ◌≡◌ {A = Option ℕ} None (Some n) = sym (get_or_past places k None past) ∙ at in absurd (cc))

pub none_there : (places : List (Option ℕ)) (k n p : ℕ) → standing n places ≡ 0 → get_or places k None ≡ Some p → p ≢ n
none_there places k n p none at same = let some = one_there places k n (at ∙ ap Some same) in omega arith

some_there : (places : List (Option ℕ)) (n : ℕ) → 0 < standing n places → (k : ℕ) × (get_or places k None ≡ Some n)
some_there [] n some = absurd (omega arith)
some_there (None ∷ rest) n some =
    let sums = sum_by-cons (stands_at n) None rest in
    let there = some_there rest n (omega arith) in (suc there.0, there.1)
some_there (Some p ∷ rest) n some = by_place n p ((k : ℕ) × (get_or (Some p ∷ rest) k None ≡ Some n))
    (λ here. (zero, ap Some (sym here)))
    (λ apart. let s = stands_elsewhere n p apart in
    let sums = sum_by-cons (stands_at n) (Some p) rest in
    let there = some_there rest n (omega arith) in (suc there.0, there.1))

at_most_one : (n : ℕ) (o : Option ℕ) → stands_at n o ≤ 1
at_most_one n None = omega arith
at_most_one n (Some p) = by_place n p (stands_at n (Some p) ≤ 1)
    (λ here. let s = stands_here n p here in omega arith)
    (λ apart. let s = stands_elsewhere n p apart in omega arith)

few_stand : (n : ℕ) (places : List (Option ℕ)) → standing n places ≤ length places * 1
few_stand n places = sum_by-le (stands_at n) 1 places (λ k d _. at_most_one n (get_or places k d))

pub at_place : (slice places : List (Option ℕ)) (number place : ℕ) → slice ≡ places → get_or slice number None ≡ Some place → get_or places number None ≡ Some place
at_place slice places number place same at = ap (λ (l : List (Option ℕ)). get_or l number None) (sym same) ∙ at

-- of a queue without readers
abbrev none_stand : List ℕ
none_stand = 0 ∷ []

nobody_stands : (n : ℕ) → get_or none_stand n 0 ≡ 0
nobody_stands n = by_place n 0 (get_or none_stand n 0 ≡ 0) (λ e. ap (λ k. get_or none_stand k 0) e) (λ apart. get_or_past none_stand n 0 (omega arith))

module _ {R : Type 0} where
  -- ---- what a reader hasn't taken
  module _ (unread : ℕ → List (Change R)) where
    none_below : (slots : List (Option ℕ)) (k q : ℕ) → q < k → map.get (queued_from k unread slots) q ≡ None
    none_below [] k q below = get-empty nat_cmp q
    none_below (None ∷ rest) k q below = none_below rest (suc k) q (omega arith)
    none_below (Some n ∷ rest) k q below =
        get-insert nat_cmp_total (queued_from (suc k) unread rest) k (unread n) q
        ∙ ap (λ b. cond b (Some (unread n)) (map.get (queued_from (suc k) unread rest) q)) (other_number q k (λ e. omega arith))
        ∙ none_below rest (suc k) q (omega arith)

    at_from : (slots : List (Option ℕ)) (k i q : ℕ) → q ≡ k + i → map.get (queued_from k unread slots) q ≡ option_map unread (get_or slots i None)
    at_from [] k i q is = get-empty nat_cmp q ∙ ap (option_map unread) (sym (get_or_past [] i None (omega arith)))
    at_from (None ∷ rest) k zero q is = none_below rest (suc k) q (omega arith)
    at_from (None ∷ rest) k (suc i) q is = at_from rest (suc k) i q (omega arith)
    at_from (Some n ∷ rest) k zero q is =
        get-insert nat_cmp_total (queued_from (suc k) unread rest) k (unread n) q
        ∙ ap (λ b. cond b (Some (unread n)) (map.get (queued_from (suc k) unread rest) q)) (let same : q ≡ k = omega arith in ap (λ x. eq_by_cmp nat_cmp x k) same ∙ same_number k)
    at_from (Some n ∷ rest) k (suc i) q is =
        get-insert nat_cmp_total (queued_from (suc k) unread rest) k (unread n) q
        ∙ ap (λ b. cond b (Some (unread n)) (map.get (queued_from (suc k) unread rest) q)) (other_number q k (λ e. omega arith))
        ∙ at_from rest (suc k) i q (omega arith)

  pub unread_of : (entries : Numbered R) (places : List (Option ℕ)) (q : ℕ) → map.get (queued_of entries places) q ≡ option_map (unread_at entries) (get_or places q None)
  unread_of entries places q = at_from (unread_at entries) places 0 q q (omega arith)

  same_queue : (m n : Queued R) → ((q : ℕ) → map.get m q ≡ map.get n q) → m ≡ n
  same_queue m n h = same_map nat_cmp_total nat_cmp-IsAntisymmetric m n h

  -- ---- what a call says of a reader
  module _ (entries : Numbered R) (places : List (Option ℕ)) (m : Queued R) (view : queued_of entries places ≡ m) (number reader : ℕ) (same : number ≡ reader) where
    has : (place : Option ℕ) → get_or places number None ≡ place → map.get m reader ≡ option_map (unread_at entries) place
    has place at =
        ap (map.get m) (sym same) ∙ ap (λ (x : Queued R). map.get x number) (sym view) ∙ unread_of entries places number
        ∙ ap (option_map (unread_at entries)) at

    pub has_unread : (place : ℕ) → get_or places number None ≡ Some place → map.get m reader ≡ Some (unread_at entries place)
    has_unread place at = has (Some place) at

    placed_if : (o : Option ℕ) → map.get m reader ≡ option_map (unread_at entries) o → IsSome (map.get m reader) → IsSome o
    placed_if None is live = let h = subst IsSome is live in absurd (cc)
    placed_if (Some n) is live = refl

    pub live_place : IsSome (map.get m reader) → IsSome (get_or places number None)
    live_place live = placed_if (get_or places number None) (has (get_or places number None) refl) live

    pub free_is : get_or places number None ≡ None → map.get m reader ≡ None
    free_is at = has None at

  -- there is a reader of each number below one, where each has a place
  pub below_is : (entries : Numbered R) (places : List (Option ℕ)) (m : Queued R) (number : ℕ) → queued_of entries places ≡ m → AllBelowPlaced places number → AllBelowRead m number
  below_is entries places m number view least n below =
      subst IsSome (ap (λ (x : Queued R). map.get x n) view) (subst IsSome (sym (unread_of entries places n)) (still (get_or places n None) (least n below)))
    where
      still : (o : Option ℕ) → IsSome o → IsSome (option_map (unread_at entries) o)
      still None some = absurd (cc)
      still (Some place) some = refl

  -- what is kept is what the reader hasn't taken that has taken the fewest
  pub most_unread : (entries : Numbered R) (places : List (Option ℕ)) (m : Queued R) (count : ℕ) → queued_of entries places ≡ m → IsQueue entries places → count ≡ length entries.changes → IsMostUnread m count
  most_unread entries places m count view sound counts = record {
    most = λ reader unread at. at_most (get_or places reader None) unread (sym (unread_of entries places reader) ∙ ap (λ (x : Queued R). map.get x reader) view ∙ at);
    some = λ many.
        let stand = sound.counted entries.first (omega arith) in
        let first = first_is entries entries.first refl in
        let there = some_there places entries.first (by_place (first_readers entries) 0 (0 < standing entries.first places)
        (λ none. absurd (many (counts ∙ ap length (sound.needed none))))
        (λ some. omega arith)) in (
          there.0,
          drop (entries.first - entries.first) entries.changes,
          ap (λ (x : Queued R). map.get x there.0) (sym view) ∙ unread_of entries places there.0 ∙ ap (option_map (unread_at entries)) there.1,
          ap (λ k. length (drop k entries.changes)) (let e : entries.first - entries.first ≡ 0 = omega arith in e) ∙ sym counts,
        );
  }
    where
      at_most : (o : Option ℕ) (unread : List (Change R)) → option_map (unread_at entries) o ≡ Some unread → length unread ≤ count
      at_most None unread is = absurd (let e : ◌≡◌ {A = Option (List (Change R))} None (Some unread) = is in cc)
      at_most (Some place) unread is =
          let e : drop (place - entries.first) entries.changes ≡ unread = cc in
          let n = length-drop (place - entries.first) entries.changes in
          let same : length (drop (place - entries.first) entries.changes) ≡ length unread = ap length e in omega arith

  -- ---- a change is put
  nobody : (entries : Numbered R) (places : List (Option ℕ)) → IsQueue entries places → first_readers entries ≡ 0 → (k : ℕ) (o : Option ℕ) → get_or places k None ≡ o → o ≡ None
  nobody entries places sound none k None at = refl
  nobody entries places sound none k (Some p) at =
      let placed : IsPlace entries p = subst (IsPlaced entries) at (sound.placed k) in
      let from = placed.from in let to = placed.to in
      let empty : length entries.changes ≡ 0 = ap length (sound.needed none) in
      let stand = sound.counted entries.first (omega arith) in
      let first = first_is entries entries.first refl in
      absurd (none_there places k entries.first p (omega arith) at (omega arith))

  pub put_to_nobody : (entries : Numbered R) (places : List (Option ℕ)) (m : Queued R) (c : Change R) → queued_of entries places ≡ m → IsQueue entries places → first_readers entries ≡ 0 → AppendsToAll c m m
  put_to_nobody entries places m c view sound none q =
      let absent : map.get m q ≡ None = ap (λ (x : Queued R). map.get x q) (sym view) ∙ unread_of entries places q
      ∙ ap (option_map (unread_at entries)) (nobody entries places sound none q (get_or places q None) refl) in
      absent ∙ sym (ap (option_map (with_last c)) absent)

  module _ (old new : Numbered R) (places : List (Option ℕ)) (c : Change R) (puts : Puts old new c) (sound : IsQueue old places) where
    one_more : (place : Option ℕ) → IsPlaced old place → option_map (unread_at new) place ≡ option_map (with_last c) (option_map (unread_at old) place)
    one_more None placed = refl
    one_more (Some n) placed =
        let first = puts.first in let from = placed.from in let to = placed.to in
        ap Some (ap (drop (n - new.first)) puts.changes
        ∙ ap (λ k. drop k (old.changes ++ c ∷ [])) (let e : n - new.first ≡ n - old.first = omega arith in e)
        ∙ drop-append-le (n - old.first) old.changes (c ∷ []) (omega arith))

    pub put_appends : (m : Queued R) → queued_of old places ≡ m → AppendsToAll c m (queued_of new places)
    put_appends m view q =
        unread_of new places q ∙ one_more (get_or places q None) (sound.placed q)
        ∙ ap (option_map (with_last c)) (sym (unread_of old places q) ∙ ap (λ (x : Queued R). map.get x q) view)

  -- ---- places and counts change together
  module _ (old new : Numbered R) (was places : List (Option ℕ)) (number : ℕ) where
    -- the reader of this number has this from now on, and every other one what it had
    moved : (here : Option (List (Change R))) → option_map (unread_at new) (get_or places number None) ≡ here
        → ((q : ℕ) → q ≢ number → option_map (unread_at new) (get_or places q None) ≡ option_map (unread_at old) (get_or was q None))
        → (q : ℕ) → map.get (queued_of new places) q ≡ cond (eq_by_cmp nat_cmp q number) here (map.get (queued_of old was) q)
    moved here is others q =
        unread_of new places q
        ∙ by_number q number (λ b. option_map (unread_at new) (get_or places q None) ≡ cond b here (map.get (queued_of old was) q))
        (λ same. ap (λ k. option_map (unread_at new) (get_or places k None)) same ∙ is)
        (λ apart. others q apart ∙ sym (unread_of old was q))

    pub moved_on : (m : Queued R) (reader : ℕ) (unread : List (Change R)) → queued_of old was ≡ m → number ≡ reader → option_map (unread_at new) (get_or places number None) ≡ Some unread
        → ((q : ℕ) → q ≢ number → option_map (unread_at new) (get_or places q None) ≡ option_map (unread_at old) (get_or was q None)) → queued_of new places ≡ map.insert m reader unread
    moved_on m reader unread view same is others = same_queue _ _ (λ q.
        moved (Some unread) is others q ∙ sym (get-insert nat_cmp_total (queued_of old was) number unread q)
        ∙ ap (λ (x : Queued R). map.get (map.insert x number unread) q) view
        ∙ ap (λ k. map.get (map.insert m k unread) q) same)

    pub moved_out : (m : Queued R) (reader : ℕ) → queued_of old was ≡ m → number ≡ reader → get_or places number None ≡ None
        → ((q : ℕ) → q ≢ number → option_map (unread_at new) (get_or places q None) ≡ option_map (unread_at old) (get_or was q None)) → queued_of new places ≡ map.remove m reader
    moved_out m reader view same gone others = same_queue _ _ (λ q.
        moved None (ap (option_map (unread_at new)) gone) others q ∙ sym (get-remove nat_cmp_total (queued_of old was) number q)
        ∙ ap (λ (x : Queued R). map.get (map.remove x number) q) view
        ∙ ap (λ k. map.get (map.remove m k) q) same)

  -- ---- the first entries are dropped, and all readers stand behind them
  still_unread : (old new : Numbered R) → old.first ≤ new.first → new.changes ≡ drop (new.first - old.first) old.changes → (place : Option ℕ) → IsPlaced new place → option_map (unread_at new) place ≡ option_map (unread_at old) place
  still_unread old new from changes None placed = refl
  still_unread old new from changes (Some n) placed =
      let behind = placed.from in
      ap Some (ap (drop (n - new.first)) changes ∙ drop_twice (n - new.first) (new.first - old.first) (n - old.first) old.changes (omega arith))

  -- each place is one of those entries that are left
  placed_in : (old new : Numbered R) (places : List (Option ℕ)) → old.first ≤ new.first → new.first ≤ old.first + length old.changes → new.changes ≡ drop (new.first - old.first) old.changes → ((n : ℕ) → old.first ≤ n → n < new.first → standing n places ≡ 0)
      → (k : ℕ) (o : Option ℕ) → get_or places k None ≡ o → IsPlaced old o → IsPlaced new o
  placed_in old new places from to changes none k None at placed = tt
  placed_in old new places from to changes none k (Some p) at placed =
      let low = placed.from in let high = placed.to in
      let n = length-drop (new.first - old.first) old.changes in
      let len : length new.changes ≡ length (drop (new.first - old.first) old.changes) = ap length changes in
      record {
        from = by_bool (nat_lt p new.first) (λ _. new.first ≤ p)
            (λ e. let below : p < new.first = grind (arith, nat_tests) in absurd (none_there places k p p (none p low below) at refl))
            (λ e. grind (arith, nat_tests));
        to = omega arith;
      }

  -- ---- the index gets changes
  module _ (old new : Numbered R) (places : List (Option ℕ)) (indexes : Indexes old new) where
    pub indexed_same : (m : Queued R) → queued_of old places ≡ m → queued_of new places ≡ m
    indexed_same m view =
        ap (λ k. queued_from 0 (λ place. drop (place - k) new.changes) places) indexes.first
        ∙ ap (λ (cs : List (Change R)). queued_from 0 (λ place. drop (place - old.first) cs) places) indexes.changes ∙ view

    still_placed : (o : Option ℕ) → IsPlaced old o → IsPlaced new o
    still_placed None placed = tt
    still_placed (Some p) placed =
        let first = indexes.first in let from = placed.from in let to = placed.to in
        let len : length new.changes ≡ length old.changes = ap length indexes.changes in
        record { from = omega arith; to = omega arith }

    pub indexed_sound : IsQueue old places → IsQueue new places
    indexed_sound sound = record {
      placed = λ k. still_placed (get_or places k None) (sound.placed k);
      counted = λ n low.
          let first = indexes.first in
          ap (λ (l : List ℕ). get_or l (n - new.first) 0) indexes.readers ∙ ap (λ k. get_or old.readers (n - k) 0) first ∙ sound.counted n (omega arith);
      needed = λ none. indexes.changes ∙ sound.needed (ap (λ (l : List ℕ). get_or l 0 0) (sym indexes.readers) ∙ none);
    }

  -- ---- a reader joins
  module _ (old new : Numbered R) (was places : List (Option ℕ)) (number end : ℕ) (is_end : end ≡ old.first + length old.changes) (free : get_or was number None ≡ None) (sets : SetsPlace was places number (Some end)) (enters : Enters old new end) (sound : IsQueue old was) where
    same_place : (o : Option ℕ) → option_map (unread_at new) o ≡ option_map (unread_at old) o
    same_place None = refl
    same_place (Some n) = let first = enters.first in ap Some (ap (drop (n - new.first)) enters.changes ∙ ap (λ k. drop k old.changes) (let e : n - new.first ≡ n - old.first = omega arith in e))

    pub joined : (m : Queued R) → queued_of old was ≡ m → queued_of new places ≡ map.insert m number []
    joined m view = moved_on old new was places number m number [] view refl
        (ap (option_map (unread_at new)) sets.changed ∙ same_place (Some end) ∙ ap Some (drop_of_length-le old.changes (omega arith)))
        (λ q apart. ap (option_map (unread_at new)) (sets.others q apart) ∙ same_place (get_or was q None))

  -- ---- a reader leaves
  module _ (old mid new : Numbered R) (was places : List (Option ℕ)) (number place : ℕ) (at : get_or was number None ≡ Some place) (sets : SetsPlace was places number None) (leaves : Leaves old mid place) (trims : Trims mid new) (sound : IsQueue old was) where
    left_counted : (n : ℕ) → old.first ≤ n → readers_at mid n ≡ standing n places
    left_counted n low =
        let went = leaves.readers n low in let counts = sets.counts n in let stood = sound.counted n low in
        let one : stands_at n (get_or was number None) ≡ stands_at n (Some place) = ap (stands_at n) at in omega arith

    left_from : old.first ≤ new.first
    left_from = let first = leaves.first in let from = trims.drops.from in omega arith

    left_to : new.first ≤ old.first + length old.changes
    left_to = let first = leaves.first in let to = trims.drops.to in let len : length mid.changes ≡ length old.changes = ap length leaves.changes in omega arith

    left_changes : new.changes ≡ drop (new.first - old.first) old.changes
    left_changes = let first = leaves.first in trims.drops.changes ∙ ap (drop (new.first - mid.first)) leaves.changes ∙ ap (λ k. drop k old.changes) (let e : new.first - mid.first ≡ new.first - old.first = omega arith in e)

    left_placed : (k : ℕ) → IsPlaced new (get_or places k None)
    left_placed k =
        let first = leaves.first in
        placed_in old new places left_from left_to left_changes
        (λ n low below. sym (left_counted n low) ∙ trims.unneeded n (omega arith) below)
        k (get_or places k None) refl
        (by_place k number (IsPlaced old (get_or places k None))
        (λ here. subst (IsPlaced old) (sym (ap (λ j. get_or places j None) here ∙ sets.changed)) tt)
        (λ apart. subst (IsPlaced old) (sym (sets.others k apart)) (sound.placed k)))

    pub left : (m : Queued R) (reader : ℕ) → queued_of old was ≡ m → number ≡ reader → queued_of new places ≡ map.remove m reader
    left m reader view same = moved_out old new was places number m reader view same sets.changed
        (λ q apart. still_unread old new left_from left_changes (get_or places q None) (left_placed q) ∙ ap (option_map (unread_at old)) (sets.others q apart))

    pub left_sound : IsQueue new places
    left_sound = record {
      placed = left_placed;
      counted = λ n low.
          let first = leaves.first in let from = trims.drops.from in
          ap (λ (l : List ℕ). get_or l (n - new.first) 0) trims.drops.readers
          ∙ get_or-drop (new.first - mid.first) mid.readers (n - new.first) 0
          ∙ ap (λ k. get_or mid.readers k 0) (let e : new.first - mid.first + (n - new.first) ≡ n - mid.first = omega arith in e)
          ∙ left_counted n (omega arith);
      needed = trims.needed;
    }

  -- ---- a reader takes its next change
  module _ (old new : Numbered R) (was places : List (Option ℕ)) (number place : ℕ) (c : Change R) (at : get_or was number None ≡ Some place) (within : place < old.first + length old.changes) (sets : SetsPlace was places number (Some (place + 1))) (passes : Passes old new place c) (sound : IsQueue old was) where
    low : old.first ≤ place
    low = let placed : IsPlace old place = subst (IsPlaced old) at (sound.placed number) in placed.from

    passed_to : new.first ≤ old.first + length old.changes
    passed_to = let to = passes.to in omega arith

    counts_at : (n : ℕ) → standing n places + stands_at n (Some place) ≡ standing n was + stands_at n (Some (place + 1))
    counts_at n = let one = ap (stands_at n) at in let counts = sets.counts n in omega arith

    -- nobody is left at an entry that is dropped
    none_left : (n : ℕ) → old.first ≤ n → n < new.first → standing n places ≡ 0
    none_left n from below =
        let alone = passes.alone (omega arith) in
        let to = passes.to in let here = alone.0 in let one = alone.1 in
        let is : n ≡ place = omega arith in
        let stood = sound.counted place low in
        let counts = counts_at place in
        let s = stands_here place place refl in let t = stands_elsewhere place (place + 1) (λ e. omega arith) in
        ap (λ k. standing k places) is ∙ (let none : standing place places ≡ 0 = omega arith in none)

    passed_placed : (k : ℕ) → IsPlaced new (get_or places k None)
    passed_placed k = placed_in old new places passes.from passed_to passes.changes none_left k (get_or places k None) refl
        (by_place k number (IsPlaced old (get_or places k None))
        (λ here. subst (IsPlaced old) (sym (ap (λ j. get_or places j None) here ∙ sets.changed)) (let from = low in record { from = omega arith; to = omega arith }))
        (λ apart. subst (IsPlaced old) (sym (sets.others k apart)) (sound.placed k)))

    pub passed : (m : Queued R) (reader : ℕ) → queued_of old was ≡ m → number ≡ reader → queued_of new places ≡ map.insert m reader (drop (place + 1 - old.first) old.changes)
    passed m reader view same = moved_on old new was places number m reader (drop (place + 1 - old.first) old.changes) view same
        (still_unread old new passes.from passes.changes (get_or places number None) (passed_placed number) ∙ ap (option_map (unread_at old)) sets.changed)
        (λ q apart. still_unread old new passes.from passes.changes (get_or places q None) (passed_placed q) ∙ ap (option_map (unread_at old)) (sets.others q apart))

    pub passed_takes : (m : Queued R) (reader : ℕ) → queued_of old was ≡ m → number ≡ reader → Takes m (queued_of new places) reader (Some c)
    passed_takes m reader view same = (
      drop (place + 1 - old.first) old.changes,
      has_unread old was m view number reader same place at ∙ ap Some passes.taken,
      passed m reader view same,
    )

    pub passed_sound : IsQueue new places
    passed_sound = record {
      placed = passed_placed;
      counted = λ n from.
          let first = passes.from in
          let went = passes.readers n from in let counts = counts_at n in let stood = sound.counted n (omega arith) in omega arith;
      needed = λ none.
          let some : first_readers old ≢ 0 = λ e. let empty : length old.changes ≡ 0 = ap length (sound.needed e) in let from = low in omega arith in
          let still = passes.needed (omega arith) in absurd (omega arith);
    }

  -- ---- what calls ask of a place
  -- nothing is kept, and there is no reader
  abbrev fresh : Numbered R
  fresh = record { first = 0; changes = []; readers = 0 ∷ []; indexed = 0 }

  fresh_sound : IsQueue fresh []
  fresh_sound = record {
    placed = λ k. subst (IsPlaced fresh) (sym (get_or_past [] k None (omega arith))) tt;
    counted = λ n low. nobody_stands (n - 0);
    needed = λ _. refl;
  }

  pub new_sound : (entries : Numbered R) (places : List (Option ℕ)) → entries ≡ fresh → places ≡ [] → IsQueue entries places
  new_sound entries places new none = subst (λ (e : Numbered R). IsQueue e places) (sym new) (subst (IsQueue fresh) (sym none) fresh_sound)

  pub stands_there : (entries : Numbered R) (places : List (Option ℕ)) (number place : ℕ) → IsQueue entries places → get_or places number None ≡ Some place → IsPlace entries place
  stands_there entries places number place sound at = subst (IsPlaced entries) at (sound.placed number)

  pub few_there : (entries : Numbered R) (places : List (Option ℕ)) (n : ℕ) → IsQueue entries places → entries.first ≤ n → length places < 2 ^ 63 → readers_at entries n + 1 < 2 ^ 64
  few_there entries places n sound low few = let stood = sound.counted n low in let some = few_stand n places in omega arith

  pub waits : (entries : Numbered R) (places : List (Option ℕ)) (m : Queued R) (number reader place end count : ℕ) → queued_of entries places ≡ m → number ≡ reader → IsQueue entries places → get_or places number None ≡ Some place
      → end ≡ entries.first + length entries.changes → count ≡ end - place → IfSome (map.get m reader) (λ unread. count ≡ length unread)
  waits entries places m number reader place end count view same sound at is_end is =
      let placed : IsPlace entries place = stands_there entries places number place sound at in
      let from = placed.from in
      if_some (map.get m reader) (λ unread. count ≡ length unread) (unread_at entries place) (has_unread entries places m view number reader same place at)
      (let left = length-drop (place - entries.first) entries.changes in omega arith)

  -- the row that is answered is the one before the first change at the prefix, or else the one above
  pub asked_unread : (entries : Numbered R) (places : List (Option ℕ)) (m : Queued R) (number reader place : ℕ) → queued_of entries places ≡ m → number ≡ reader → get_or places number None ≡ Some place
      → (best : Rows R) (p : AddressPrefix) (found : Option (Option R)) (result : Result (Option R) Memory) → found ≡ first_before p (unread_at entries place) → IfOk result (λ row. row ≡ or_else found (best p))
      → IfOk result (λ row. IfSome (map.get m reader) (λ unread. row ≡ rows_before unread best p))
  asked_unread entries places m number reader place view same at best p found result first answered =
      IfOk-weaker result (λ row. row ≡ or_else found (best p)) (λ row. IfSome (map.get m reader) (λ unread. row ≡ rows_before unread best p))
      (λ row is. if_some (map.get m reader) (λ unread. row ≡ rows_before unread best p) (unread_at entries place) (has_unread entries places m view number reader same place at)
      (is ∙ ap (λ f. or_else f (best p)) first ∙ sym (first_of_rows best (unread_at entries place) p)))
      answered

  -- a change at the prefix isn't taken where there is a first one
  pub told_unread : (entries : Numbered R) (places : List (Option ℕ)) (m : Queued R) (number reader place : ℕ) → queued_of entries places ≡ m → number ≡ reader → get_or places number None ≡ Some place
      → (p : AddressPrefix) (found : Option (Change R)) (told : Bool) → option_map (λ change. change.before) found ≡ first_before p (unread_at entries place) → told ≡ is_some found
      → IfSome (map.get m reader) (λ unread. told ≡ changed_in unread p)
  told_unread entries places m number reader place view same at p found told first is =
      if_some (map.get m reader) (λ unread. told ≡ changed_in unread p) (unread_at entries place) (has_unread entries places m view number reader same place at)
      (is ∙ by_found found ∙ ap is_some first ∙ sym (changed_is_first (unread_at entries place) p))
    where
      by_found : (o : Option (Change R)) → is_some o ≡ is_some (option_map (λ (change : Change R). change.before) o)
      by_found None = refl
      by_found (Some change) = refl

  -- what the reader has is the row before the first change at the prefix that isn't taken, or else the best one
  pub told_first : (entries : Numbered R) (places : List (Option ℕ)) (m : Queued R) (number reader place : ℕ) → queued_of entries places ≡ m → number ≡ reader → get_or places number None ≡ Some place
      → (p : AddressPrefix) (found : Option (Change R)) → option_map (λ change. change.before) found ≡ first_before p (unread_at entries place)
      → (best : Rows R) → read_rows m reader best p ≡ row_before found (best p)
  told_first entries places m number reader place view same at p found first best =
      ap (λ (o : Option (List (Change R))). rows_before (unread_or_none o) best p) (has_unread entries places m view number reader same place at) ∙ first_of_rows best (unread_at entries place) p
      ∙ ap (λ f. or_else f (best p)) (sym first) ∙ by_found found
    where
      by_found : (o : Option (Change R)) → or_else (option_map (λ (change : Change R). change.before) o) (best p) ≡ row_before o (best p)
      by_found None = refl
      by_found (Some change) = refl

  pub joined_live : (m : Queued R) (number : ℕ) (l : List (Change R)) → IsSome (map.get (map.insert m number l) number)
  joined_live m number l = subst IsSome (sym (get-insert nat_cmp_total m number l number ∙ ap (λ b. cond b (Some l) (map.get m number)) (same_number number))) refl
