-- The index of a queue's entries, and the first one at a prefix.
use Rattle.std.proofs.Common.{◌≡◌, ℕ, zero, suc, ◌+◌, ◌-◌, ◌<◌, ◌≤◌, nat_eq, nat_le, nat_lt, arith, Bool, true, false, not, cond, ◌&&◌, ◌||◌, List, [], ◌∷◌, ◌++◌, length, get_or, drop, Option, Some, None, is_some, refl, sym, ap, ◌∙◌, subst}
use Rattle.std.specs.Ordering.{nat_cmp, eq_by_cmp, ordering_then, ordering_reverse, is_eq, is_gt, is_lt}
use Rattle.std.specs.declared.cmp.Ordering.{Ordering}
use Rattle.std.specs.declared.cmp.Ordering.TheVariants.{Less, Equal, Greater}
use Rattle.std.specs.Cmp.{ranked, nat_cmp_is, nat_eq_equiv}
use Rattle.std.specs.BTreeMap.Range.{IsLeBy, IsLtBy}
use Rattle.std.specs.BTreeSet.{BTreeSet, contains}
use Rattle.std.proofs.lemmas.Bool.Decides.{nat_tests}
use Rattle.std.proofs.Math.Seq.{drop-nil}
use Rattle.std.proofs.Math.ListN.{drop_of_length-le}
use Rattle.addr4.specs.Prefixes.{AddressPrefix, prefix_cmp, ComesBefore}
use Rattle.addr4.specs.Places.{IsBeyond}
use Rattle.addr4.proofs.PrefixOrder.{itself, by_prefix, prefixes_total, exact_prefixes}
use Rattle.link_change.specs.Rows.{Rows, Candidates, together, IsNextCandidate}
use Rattle.link_change.specs.Changes.{Change}
use Rattle.link_change.specs.InOrder.{changed_in, rows_before}
use Rattle.fanout_queue.specs.Entries.{first_before, IsNextBeside}
use Rattle.fanout_queue.specs.Index.{Key, key_cmp, is_entry, is_beyond, is_reached, lesser, stops, IsFirstKey, IsFirstNumber, IsFirstStop, IsIndexed}
use Rattle.fanout_queue.proofs.Cases.{by_bool, either_way}

-- ---- keys in order
then_equal : (o r : Ordering) → is_eq o ≡ true → ordering_then o r ≡ r
then_equal Less r e = cc
then_equal Equal r e = refl
then_equal Greater r e = cc

not_greater : (a b : ℕ) (o : Ordering) → o ≡ nat_cmp a b → a ≤ b → is_gt o ≡ false
not_greater a b Less is le = refl
not_greater a b Equal is le = refl
not_greater a b Greater is le = let h : b < a = ranked a b Greater is in absurd (omega arith)

at_most : (a b : ℕ) (o : Ordering) → o ≡ nat_cmp a b → is_gt o ≡ false → a ≤ b
at_most a b Less is low = let h : a < b = ranked a b Less is in omega arith
at_most a b Equal is low = let h : a ≡ b = ranked a b Equal is in omega arith
at_most a b Greater is low = cc

behind_it : (p : AddressPrefix) (a b : ℕ) → a ≤ b → IsLeBy key_cmp (p, a) (p, b)
behind_it p a b le = ap is_gt (then_equal (prefix_cmp p p) (nat_cmp a b) (itself p)) ∙ not_greater a b (nat_cmp a b) refl le

before_it : (p : AddressPrefix) (a b : ℕ) → a < b → IsLtBy key_cmp (p, a) (p, b)
before_it p a b less = then_equal (prefix_cmp p p) (nat_cmp a b) (itself p) ∙ sym (nat_cmp_is a b Less less)

same_at_most : (p : AddressPrefix) (a b : ℕ) → IsLeBy key_cmp (p, a) (p, b) → a ≤ b
same_at_most p a b le = at_most a b (nat_cmp a b) refl (sym (ap is_gt (then_equal (prefix_cmp p p) (nat_cmp a b) (itself p))) ∙ le)

first_less : (o r : Ordering) → is_gt (ordering_then o r) ≡ false → is_eq o ≡ false → o ≡ Less
first_less Less r le apart = refl
first_less Equal r le apart = cc
first_less Greater r le apart = cc

before_other : (p q : AddressPrefix) (a b n : ℕ) → IsLeBy key_cmp (p, a) (q, b) → eq_by_cmp prefix_cmp p q ≡ false → IsLtBy key_cmp (p, n) (q, b)
before_other p q a b n le apart = ap (λ o. ordering_then o (nat_cmp n b)) (first_less (prefix_cmp p q) (nat_cmp a b) le apart)

-- ---- the first number of a prefix
module _ (index : BTreeSet Key) (p : AddressPrefix) (from : ℕ) where
  pub no_number : IsFirstKey index (p, from) None → IsFirstNumber index p from None
  no_number first n low = first (p, n) (behind_it p from n low)

  pub other_number : (q : AddressPrefix) (s : ℕ) → IsFirstKey index (p, from) (Some (q, s)) → eq_by_cmp prefix_cmp p q ≡ false → IsFirstNumber index p from None
  other_number q s first apart n low = first.2 (p, n) (behind_it p from n low) (before_other p q from s n first.0 apart)

  pub this_number : (s : ℕ) → IsFirstKey index (p, from) (Some (p, s)) → IsFirstNumber index p from (Some s)
  this_number s first = (same_at_most p from s first.0, first.1, λ n low below. first.2 (p, n) (behind_it p from n low) (before_it p n s below))

-- ---- entries by number
here_only : (t x : Bool) (k : ℕ) → x ≡ false → (nat_eq k k && t) || x ≡ t
here_only t x k none = ap (λ b. (b && t) || x) (nat_eq_equiv.refl k) ∙ ap (λ b. t || b) none ∙ last t
  where
    last : (b : Bool) → b || false ≡ b
    last true = refl
    last false = refl

not_here : (t x : Bool) (n k : ℕ) → (n ≡ k → ⊥) → (nat_eq n k && t) || x ≡ x
not_here t x n k apart = ap (λ b. (b && t) || x) (by_bool (nat_eq n k) (λ b. b ≡ false) (λ e. absurd (apart (grind (arith, nat_tests)))) (λ _. refl))

swapped : (a b x : Bool) → a || (b || x) ≡ b || (a || x)
swapped true true x = refl
swapped true false x = refl
swapped false b x = refl

or_cond : (b x : Bool) → cond b true x ≡ b || x
or_cond true x = refl
or_cond false x = refl

both_equal : (o r : Ordering) → is_eq (ordering_then o r) ≡ (is_eq r && is_eq o)
both_equal Less Less = refl
both_equal Less Equal = refl
both_equal Less Greater = refl
both_equal Equal Less = refl
both_equal Equal Equal = refl
both_equal Equal Greater = refl
both_equal Greater Less = refl
both_equal Greater Equal = refl
both_equal Greater Greater = refl

number_at : (k n : ℕ) (o : Ordering) → o ≡ nat_cmp k n → is_eq o ≡ nat_eq n k
number_at k n Less is = let h : k < n = ranked k n Less is in sym (by_bool (nat_eq n k) (λ b. b ≡ false) (λ e. let same : n ≡ k = grind (arith, nat_tests) in absurd (omega arith)) (λ _. refl))
number_at k n Equal is = let h : k ≡ n = ranked k n Equal is in sym (ap (nat_eq n) h ∙ nat_eq_equiv.refl n)
number_at k n Greater is = let h : n < k = ranked k n Greater is in sym (by_bool (nat_eq n k) (λ b. b ≡ false) (λ e. let same : n ≡ k = grind (arith, nat_tests) in absurd (omega arith)) (λ _. refl))

or_changed : (a b : Bool) → b ≡ true → a || b ≡ true
or_changed true b e = refl
or_changed false b e = e

-- a prefix before the other one is before each that the other one isn't behind
before_reached : (q p r : AddressPrefix) → ComesBefore q p → is_reached (Some p) r ≡ true → ComesBefore q r
before_reached q p r before reached = by_order (prefix_cmp p r) refl reached
  where
    by_order : (o : Ordering) → o ≡ prefix_cmp p r → cond (is_gt o) false true ≡ true → ComesBefore q r
    by_order Less is e = prefixes_total.trans q p r before (sym is)
    by_order Equal is e = subst (ComesBefore q) (exact_prefixes p r (sym is)) before
    by_order Greater is e = absurd (let f : false ≡ true = e in cc)

-- one that isn't reached comes before the other one
reached_after : (p r : AddressPrefix) → is_reached (Some p) r ≡ false → ComesBefore r p
reached_after p r not_reached = prefixes_total.antisymm r p ∙ ap ordering_reverse (greater (prefix_cmp p r) not_reached)
  where
    greater : (o : Ordering) → cond (is_gt o) false true ≡ false → o ≡ Greater
    greater Less e = absurd (let f : true ≡ false = e in cc)
    greater Equal e = absurd (let f : true ≡ false = e in cc)
    greater Greater e = refl

-- ---- the next of some candidates, where this is the next of others
module _ (had all : Candidates) (after least : Option AddressPrefix) (next : IsNextCandidate had after least) where
  -- where they are the same beyond the place
  stays : ((q : AddressPrefix) → IsBeyond after q → all q ≡ had q) → IsNextCandidate all after least
  stays same = by_least least next
    where
      by_least : (o : Option AddressPrefix) → IsNextCandidate had after o → IsNextCandidate all after o
      by_least None is = λ q beyond. same q beyond ∙ is q beyond
      by_least (Some p) is = (is.0, same p is.0 ∙ is.1, λ q beyond before. same q beyond ∙ is.2 q beyond before)

  -- where more may come from a prefix on that it is not behind
  stays_before : (p : AddressPrefix) → is_reached least p ≡ true → ((q : AddressPrefix) → had q ≡ true → all q ≡ true) → ((q : AddressPrefix) → IsBeyond after q → ComesBefore q p → all q ≡ had q) → IsNextCandidate all after least
  stays_before p reached more same = by_least least reached next
    where
      by_least : (o : Option AddressPrefix) → is_reached o p ≡ true → IsNextCandidate had after o → IsNextCandidate all after o
      by_least None r is = absurd (let e : false ≡ true = r in cc)
      by_least (Some l) r is = (is.0, more l is.1, λ q beyond before. same q beyond (before_reached q l p before r) ∙ is.2 q beyond before)

  -- where a prefix before it comes first
  comes_first : (p : AddressPrefix) → is_reached least p ≡ false → IsBeyond after p → all p ≡ true → ((q : AddressPrefix) → IsBeyond after q → ComesBefore q p → all q ≡ had q) → IsNextCandidate all after (Some p)
  comes_first p not_reached beyond has same = (beyond, has, λ q behind before. same q behind before ∙ by_least least not_reached next q behind before)
    where
      by_least : (o : Option AddressPrefix) → is_reached o p ≡ false → IsNextCandidate had after o → (q : AddressPrefix) → IsBeyond after q → ComesBefore q p → had q ≡ false
      by_least None r is q behind before = is q behind
      by_least (Some l) r is q behind before = is.2 q behind (prefixes_total.trans q p l before (reached_after l p r))

less_is : (o : Ordering) → is_lt o ≡ true → o ≡ Less
less_is Less e = refl
less_is Equal e = cc
less_is Greater e = cc

beyond_is : (after : Option AddressPrefix) (q : AddressPrefix) → is_beyond after q ≡ true → IsBeyond after q
beyond_is None q e = tt
beyond_is (Some p) q e = less_is (prefix_cmp p q) e

is_beyond_of : (after : Option AddressPrefix) (q : AddressPrefix) → IsBeyond after q → is_beyond after q ≡ true
is_beyond_of None q beyond = refl
is_beyond_of (Some p) q beyond = ap is_lt beyond

added : (a b c : Bool) → a || c ≡ true → a || (b || c) ≡ true
added true b c e = refl
added false b c e = or_changed b c e

or_none : (a : Bool) → a || false ≡ a
or_none true = refl
or_none false = refl

-- a row that is there, or else another
abbrev pub or_else : {A : Type 0} → Option A → A → A
or_else None other = other
or_else (Some a) other = a

module _ {R : Type 0} where
  abbrev is_at : Change R → AddressPrefix → Bool
  is_at c p = eq_by_cmp prefix_cmp c.prefix p

  below_none : (es : List (Change R)) (base : ℕ) (p : AddressPrefix) (n : ℕ) → n < base → is_entry base es p n ≡ false
  below_none [] base p n below = refl
  below_none (c ∷ cs) base p n below = not_here (is_at c p) (is_entry (suc base) cs p n) n base (λ e. omega arith) ∙ below_none cs (suc base) p n (omega arith)

  at_first : (c : Change R) (cs : List (Change R)) (base : ℕ) (p : AddressPrefix) → is_entry base (c ∷ cs) p base ≡ is_at c p
  at_first c cs base p = here_only (is_at c p) (is_entry (suc base) cs p base) base (below_none cs (suc base) p base (omega arith))

  at_rest : (c : Change R) (cs : List (Change R)) (base : ℕ) (p : AddressPrefix) (n : ℕ) → base < n → is_entry base (c ∷ cs) p n ≡ is_entry (suc base) cs p n
  at_rest c cs base p n below = not_here (is_at c p) (is_entry (suc base) cs p n) n base (λ e. omega arith)

  -- where none of the entries between two numbers is at the prefix
  first_skips : (es : List (Change R)) (base k m : ℕ) (p : AddressPrefix) → k ≤ m → ((n : ℕ) → base + k ≤ n → n < base + m → is_entry base es p n ≡ false) → first_before p (drop k es) ≡ first_before p (drop m es)
  first_skips [] base k m p le none = ap (first_before p) (drop-nil k ∙ sym (drop-nil m))
  first_skips (c ∷ cs) base zero zero p le none = refl
  first_skips (c ∷ cs) base zero (suc m) p le none =
      ap (λ b. cond b (Some c.before) (first_before p cs)) (sym (at_first c cs base p) ∙ none base (omega arith) (omega arith))
      ∙ first_skips cs (suc base) zero m p (omega arith) (λ n low below. sym (at_rest c cs base p n (omega arith)) ∙ none n (omega arith) (omega arith))
  first_skips (c ∷ cs) base (suc k) zero p le none = absurd (omega arith)
  first_skips (c ∷ cs) base (suc k) (suc m) p le none =
      first_skips cs (suc base) k m p (omega arith) (λ n low below. sym (at_rest c cs base p n (omega arith)) ∙ none n (omega arith) (omega arith))

  further : (c : Change R) (cs : List (Change R)) (base n : ℕ) (d : Change R) → base < n → get_or cs (n - suc base) d ≡ get_or (c ∷ cs) (n - base) d
  further c cs base n d less = ap (λ k. get_or (c ∷ cs) k d) (let e : suc (n - suc base) ≡ n - base = omega arith in e)

  first_some : (es : List (Change R)) (base k place : ℕ) (p : AddressPrefix) (number : ℕ) (d : Change R) → place ≡ base + k → place ≤ number → is_entry base es p number ≡ true
      → ((n : ℕ) → place ≤ n → n < number → is_entry base es p n ≡ false) → first_before p (drop k es) ≡ Some (get_or es (number - base) d).before
  first_some [] base k place p number d is low has none = absurd (let e : false ≡ true = has in cc)
  first_some (c ∷ cs) base zero place p number d is low has none = by_bool (nat_eq number base) (λ _. first_before p (c ∷ cs) ≡ Some (get_or (c ∷ cs) (number - base) d).before)
      (λ e. let same : number ≡ base = grind (arith, nat_tests) in
      ap (λ b. cond b (Some c.before) (first_before p cs)) (sym (at_first c cs base p) ∙ ap (is_entry base (c ∷ cs) p) (sym same) ∙ has)
      ∙ ap (λ n. Some (get_or (c ∷ cs) n d).before) (let z : 0 ≡ number - base = omega arith in z))
      (λ e. let more : base < number = grind (arith, nat_tests) in
      ap (λ b. cond b (Some c.before) (first_before p cs)) (sym (at_first c cs base p) ∙ none base (omega arith) more)
      ∙ first_some cs (suc base) zero (suc base) p number d (omega arith) (omega arith) (sym (at_rest c cs base p number more) ∙ has) (λ n from below. sym (at_rest c cs base p n (omega arith)) ∙ none n (omega arith) below)
      ∙ ap (λ (x : Change R). Some x.before) (further c cs base number d more))
  first_some (c ∷ cs) base (suc k) place p number d is low has none =
      let more : base < number = omega arith in
      first_some cs (suc base) k place p number d (omega arith) low (sym (at_rest c cs base p number more) ∙ has) (λ n from below. sym (at_rest c cs base p n (omega arith)) ∙ none n from below)
      ∙ ap (λ (x : Change R). Some x.before) (further c cs base number d more)

  -- the entry of a number
  entry_at : (es : List (Change R)) (base number : ℕ) (p : AddressPrefix) (d : Change R) → base ≤ number → number - base < length es → is_entry base es p number ≡ is_at (get_or es (number - base) d) p
  entry_at [] base number p d low inside = absurd (omega arith)
  entry_at (c ∷ cs) base number p d low inside = by_bool (nat_eq number base) (λ _. is_entry base (c ∷ cs) p number ≡ is_at (get_or (c ∷ cs) (number - base) d) p)
      (λ e. let same : number ≡ base = grind (arith, nat_tests) in
      ap (is_entry base (c ∷ cs) p) same ∙ at_first c cs base p ∙ ap (λ n. is_at (get_or (c ∷ cs) n d) p) (let z : 0 ≡ number - base = omega arith in z))
      (λ e. let more : base < number = grind (arith, nat_tests) in
      at_rest c cs base p number more ∙ entry_at cs (suc base) number p d (omega arith) (omega arith) ∙ ap (λ (x : Change R). is_at x p) (further c cs base number d more))

  -- ---- what a lookup in the index says
  module _ (base : ℕ) (es : List (Change R)) (index : BTreeSet Key) (indexed : ℕ) (keys : IsIndexed base es index indexed) (p : AddressPrefix) (place : ℕ) (low : base ≤ place) where
    pub key_below : (n : ℕ) → base ≤ n → contains key_cmp index (p, n) ≡ true → n < indexed
    key_below n from has = by_bool (nat_lt n indexed) (λ _. n < indexed)
        (λ e. grind (arith, nat_tests))
        (λ e. let past : indexed ≤ n = grind (arith, nat_tests) in let f : true ≡ false = sym has ∙ keys.above p n from past in absurd (cc))

    -- none is found in it
    pub none_numbered : (m : ℕ) → place - base ≤ m → ((n : ℕ) → place ≤ n → n < base + m → n < indexed) → IsFirstNumber index p place None → first_before p (drop (place - base) es) ≡ first_before p (drop m es)
    none_numbered m le inside first = first_skips es base (place - base) m p le
        (λ n from to. sym (keys.below p n (omega arith) (inside n (omega arith) to)) ∙ first n (omega arith))

    module _ (s : ℕ) (first : IsFirstNumber index p place (Some s)) where
      here : is_entry base es p s ≡ true
      here = let from = first.0 in sym (keys.below p s (omega arith) (key_below s (omega arith) first.1)) ∙ first.1

      pub number_here : (d : Change R) → first_before p (drop (place - base) es) ≡ Some (get_or es (s - base) d).before
      number_here d =
          let from = first.0 in let below = key_below s (omega arith) first.1 in
          first_some es base (place - base) place p s d (omega arith) from here
          (λ n behind less. sym (keys.below p n (omega arith) (omega arith)) ∙ first.2 n behind less)

  -- ---- entries come and go
  one_more : (es : List (Change R)) (base : ℕ) (c : Change R) (p : AddressPrefix) (n : ℕ) → is_entry base (es ++ c ∷ []) p n ≡ (nat_eq n (base + length es) && is_at c p) || is_entry base es p n
  one_more [] base c p n = ap (λ k. (nat_eq n k && is_at c p) || false) (let e : base ≡ base + 0 = omega arith in e)
  one_more (x ∷ xs) base c p n =
      ap (λ b. (nat_eq n base && is_at x p) || b) (one_more xs (suc base) c p n)
      ∙ swapped (nat_eq n base && is_at x p) (nat_eq n (suc base + length xs) && is_at c p) (is_entry (suc base) xs p n)
      ∙ ap (λ k. (nat_eq n k && is_at c p) || is_entry base (x ∷ xs) p n) (let e : suc base + length xs ≡ base + length (x ∷ xs) = omega arith in e)

  key_at : (c : Change R) (k : ℕ) (p : AddressPrefix) (n : ℕ) → is_eq (key_cmp (c.prefix, k) (p, n)) ≡ (nat_eq n k && is_at c p)
  key_at c k p n = both_equal (prefix_cmp c.prefix p) (nat_cmp k n) ∙ ap (λ b. b && is_at c p) (number_at k n (nat_cmp k n) refl)

  pub put_indexed : (base : ℕ) (es : List (Change R)) (c : Change R) (index : BTreeSet Key) (indexed : ℕ) → indexed ≤ base + length es → IsIndexed base es index indexed → IsIndexed base (es ++ c ∷ []) index indexed
  put_indexed base es c index indexed until keys = record {
    below = λ p n low less. keys.below p n low less
        ∙ sym (one_more es base c p n ∙ not_here (is_at c p) (is_entry base es p n) n (base + length es) (λ e. omega arith));
    above = keys.above;
  }

  pub cut_indexed : (base : ℕ) (c : Change R) (cs : List (Change R)) (index : BTreeSet Key) (indexed : ℕ) → IsIndexed base (c ∷ cs) index indexed → IsIndexed (base + 1) cs index indexed
  cut_indexed base c cs index indexed keys = record {
    below = λ p n low less. keys.below p n (omega arith) less ∙ at_rest c cs base p n (omega arith) ∙ ap (λ k. is_entry k cs p n) (let e : suc base ≡ base + 1 = omega arith in e);
    above = λ p n low past. keys.above p n (omega arith) past;
  }

  -- the next entry's key is put into the index
  module _ (base : ℕ) (es : List (Change R)) (d : Change R) (old new : BTreeSet Key) (number : ℕ) where
    abbrev entry : Change R
    entry = get_or es (number - base) d

    abbrev PutsKey : Type 0
    PutsKey = (q : Key) → contains key_cmp new q ≡ cond (is_eq (key_cmp (entry.prefix, number) q)) true (contains key_cmp old q)

    told : PutsKey → (p : AddressPrefix) (n : ℕ) → contains key_cmp new (p, n) ≡ (nat_eq n number && is_at entry p) || contains key_cmp old (p, n)
    told put p n = put (p, n) ∙ ap (λ b. cond b true (contains key_cmp old (p, n))) (key_at entry number p n) ∙ or_cond (nat_eq n number && is_at entry p) (contains key_cmp old (p, n))

    pub more_indexed : (indexed : ℕ) → base ≤ number → indexed ≤ number → ((n : ℕ) → base ≤ n → n < number → n < indexed) → number - base < length es → IsIndexed base es old indexed → PutsKey → IsIndexed base es new (number + 1)
    more_indexed indexed low past had inside keys put = record {
      below = λ p n from less. by_bool (nat_eq n number) (λ _. contains key_cmp new (p, n) ≡ is_entry base es p n)
          (λ e. let same : n ≡ number = grind (arith, nat_tests) in
          told put p n ∙ ap (λ b. (nat_eq n number && is_at entry p) || b) (keys.above p n from (omega arith))
          ∙ ap (λ k. (nat_eq k number && is_at entry p) || false) same ∙ here_only (is_at entry p) false number refl
          ∙ sym (entry_at es base number p d low inside) ∙ ap (is_entry base es p) (sym same))
          (λ e. let before : n < number = grind (arith, nat_tests) in
          told put p n ∙ not_here (is_at entry p) (contains key_cmp old (p, n)) n number (λ same. omega arith) ∙ keys.below p n from (had n from before));
      above = λ p n from more. told put p n ∙ not_here (is_at entry p) (contains key_cmp old (p, n)) n number (λ same. omega arith) ∙ keys.above p n from (omega arith);
    }

  -- ---- whether the prefix has a change from a place on
  pub first_of_rows : (new : Rows R) (cs : List (Change R)) (p : AddressPrefix) → rows_before cs new p ≡ or_else (first_before p cs) (new p)
  first_of_rows new [] p = refl
  first_of_rows new (c ∷ cs) p =
      ap (λ b. cond b c.before (rows_before cs new p)) (either_way p c.prefix)
      ∙ elim (eq_by_cmp prefix_cmp c.prefix p) as (λ v. cond v c.before (rows_before cs new p) ≡ or_else (cond v (Some c.before) (first_before p cs)) (new p)) [
        | true ↦ refl
        | false ↦ first_of_rows new cs p
      ]

  pub changed_is_first : (cs : List (Change R)) (p : AddressPrefix) → changed_in cs p ≡ is_some (first_before p cs)
  changed_is_first [] p = refl
  changed_is_first (c ∷ cs) p =
      ap (λ b. b || changed_in cs p) (either_way p c.prefix)
      ∙ elim (eq_by_cmp prefix_cmp c.prefix p) as (λ v. v || changed_in cs p ≡ is_some (cond v (Some c.before) (first_before p cs))) [
        | true ↦ refl
        | false ↦ changed_is_first cs p
      ]

  changed_skips : (es : List (Change R)) (base k m : ℕ) (p : AddressPrefix) → k ≤ m → ((n : ℕ) → base + k ≤ n → n < base + m → is_entry base es p n ≡ false) → changed_in (drop k es) p ≡ changed_in (drop m es) p
  changed_skips es base k m p le none = changed_is_first (drop k es) p ∙ ap is_some (first_skips es base k m p le none) ∙ sym (changed_is_first (drop m es) p)

  changed_more : (es : List (Change R)) (k m : ℕ) (p : AddressPrefix) → k ≤ m → changed_in (drop m es) p ≡ true → changed_in (drop k es) p ≡ true
  changed_more [] k m p le has = absurd (let e : false ≡ true = sym (ap (λ (cs : List (Change R)). changed_in cs p) (drop-nil m)) ∙ has in cc)
  changed_more (c ∷ cs) zero zero p le has = has
  changed_more (c ∷ cs) zero (suc m) p le has = or_changed (eq_by_cmp prefix_cmp p c.prefix) (changed_in cs p) (changed_more cs zero m p (omega arith) has)
  changed_more (c ∷ cs) (suc k) zero p le has = absurd (omega arith)
  changed_more (c ∷ cs) (suc k) (suc m) p le has = changed_more cs k m p (omega arith) has

  changed_from : (es : List (Change R)) (base k place : ℕ) (p : AddressPrefix) (n : ℕ) → place ≡ base + k → place ≤ n → is_entry base es p n ≡ true → changed_in (drop k es) p ≡ true
  changed_from [] base k place p n is low has = absurd (let e : false ≡ true = has in cc)
  changed_from (c ∷ cs) base zero place p n is low has = by_bool (nat_eq n base) (λ _. changed_in (c ∷ cs) p ≡ true)
      (λ e. let same : n ≡ base = grind (arith, nat_tests) in
      ap (λ b. b || changed_in cs p) (either_way p c.prefix ∙ sym (at_first c cs base p) ∙ ap (is_entry base (c ∷ cs) p) (sym same) ∙ has))
      (λ e. let more : base < n = grind (arith, nat_tests) in
      or_changed (eq_by_cmp prefix_cmp p c.prefix) (changed_in cs p) (changed_from cs (suc base) zero (suc base) p n (omega arith) (omega arith) (sym (at_rest c cs base p n more) ∙ has)))
  changed_from (c ∷ cs) base (suc k) place p n is low has =
      changed_from cs (suc base) k place p n (omega arith) low (sym (at_rest c cs base p n (omega arith)) ∙ has)

  -- ---- the next candidate of others and of the changes from a place on
  -- one change more
  module _ (c : Change R) (cs : List (Change R)) (after least : Option AddressPrefix) (others : Candidates) where
    abbrev had : Candidates
    had = together others (changed_in cs)

    abbrev all : Candidates
    all = together others (changed_in (c ∷ cs))

    apart : (q : AddressPrefix) → eq_by_cmp prefix_cmp q c.prefix ≡ false → all q ≡ had q
    apart q e = ap (λ b. others q || (b || changed_in cs q)) e

    one_lesser : IsNextCandidate had after least → IsNextCandidate all after (lesser after c.prefix least)
    one_lesser next =
        by_bool (is_beyond after c.prefix) (λ v. IsNextCandidate all after (cond (v && not (is_reached least c.prefix)) (Some c.prefix) least))
        (λ beyond. by_bool (is_reached least c.prefix) (λ v. IsNextCandidate all after (cond (true && not v) (Some c.prefix) least))
        (λ reached. stays_before had all after least next c.prefix reached (λ q has. added (others q) (eq_by_cmp prefix_cmp q c.prefix) (changed_in cs q) has) (λ q _ before. apart q (ap is_eq before)))
        (λ not_reached. comes_first had all after least next c.prefix not_reached (beyond_is after c.prefix beyond) (or_changed (others c.prefix) (changed_in (c ∷ cs) c.prefix) (ap (λ b. b || changed_in cs c.prefix) (itself c.prefix))) (λ q _ before. apart q (ap is_eq before))))
        (λ not_beyond. stays had all after least next (λ q beyond. apart q (by_prefix q c.prefix (λ b. b ≡ false)
        (λ same. let f : true ≡ false = sym (is_beyond_of after q beyond) ∙ ap (is_beyond after) same ∙ not_beyond in absurd (cc))
        (λ _. refl))))

  pub lesser_beside : (c : Change R) (cs : List (Change R)) (after other least : Option AddressPrefix) → IsNextBeside cs after other least → IsNextBeside (c ∷ cs) after other (lesser after c.prefix least)
  lesser_beside c cs after other least is others next = one_lesser c cs after least others (is others next)

  -- none at all
  pub none_beside : (es : List (Change R)) (k : ℕ) (after other : Option AddressPrefix) → length es ≤ k → IsNextBeside (drop k es) after other other
  none_beside es k after other past = subst (λ (cs : List (Change R)). IsNextBeside cs after other other) (sym (drop_of_length-le es past))
      (λ others next. stays others (together others (changed_in {R = R} [])) after other next (λ q _. or_none (others q)))

  -- those from an index on, where others were gone through from a later one on
  module _ (base : ℕ) (es : List (Change R)) (index : BTreeSet Key) (indexed : ℕ) (keys : IsIndexed base es index indexed) (place m : ℕ) (low : base ≤ place) (le : place - base ≤ m) (inside : (n : ℕ) → place ≤ n → n < base + m → n < indexed)
      (after other least : Option AddressPrefix) (is : IsNextBeside (drop m es) after other least) where
    abbrev later : Candidates
    later = changed_in (drop m es)

    abbrev unread : Candidates
    unread = changed_in (drop (place - base) es)

    -- no entry that the index has from the place on stands where the search didn't stop
    passed : (others : Candidates) (q : AddressPrefix) → ((n : ℕ) → contains key_cmp index (q, n) ≡ true → stops place least (q, n) ≡ false) → together others unread q ≡ together others later q
    passed others q gone = ap (λ b. others q || b) (changed_skips es base (place - base) m q le (λ n from to.
        by_bool (contains key_cmp index (q, n)) (λ _. is_entry base es q n ≡ false)
        (λ e. let f : true ≡ false = sym (ap (λ b. b || is_reached least q) (let t : nat_le place n ≡ true = grind (arith, nat_tests) in t)) ∙ gone n e in absurd (cc))
        (λ e. sym (keys.below q n (omega arith) (inside n (omega arith) to)) ∙ e)))

    more : (others : Candidates) (q : AddressPrefix) → together others later q ≡ true → together others unread q ≡ true
    more others q has = by_bool (others q) (λ v. v || later q ≡ true → v || unread q ≡ true) (λ _ _. refl) (λ _ h. changed_more es (place - base) m q le h) has

    pub none_stops : IsFirstStop index (stops place least) after None → IsNextBeside (drop (place - base) es) after other least
    none_stops first others next = stays (together others later) (together others unread) after least (is others next) (λ q beyond. passed others q (λ n e. first (q, n) e beyond))

    module _ (key : Key) (first : IsFirstStop index (stops place least) after (Some key)) where
      pub other_stops : is_reached least key.0 ≡ true → IsNextBeside (drop (place - base) es) after other least
      other_stops reached others next = stays_before (together others later) (together others unread) after least (is others next) key.0 reached (more others)
          (λ q beyond before. passed others q (λ n e. first.3 (q, n) e beyond before))

      pub change_stops : is_reached least key.0 ≡ false → IsNextBeside (drop (place - base) es) after other (Some key.0)
      change_stops not_reached others next = comes_first (together others later) (together others unread) after least (is others next) key.0 not_reached first.0
          (or_changed (others key.0) (unread key.0) (let from = from_place in changed_from es base (place - base) place key.0 key.1 (omega arith) from
          (sym (keys.below key.0 key.1 (omega arith) (key_below base es index indexed keys key.0 place low key.1 (omega arith) first.1)) ∙ first.1)))
          (λ q beyond before. passed others q (λ n e. first.3 (q, n) e beyond before))
        where
          from_place : place ≤ key.1
          from_place = by_bool (nat_le place key.1) (λ v. v || is_reached least key.0 ≡ true → place ≤ key.1)
              (λ e _. grind (arith, nat_tests))
              (λ e h. let f : false ≡ true = sym not_reached ∙ h in absurd (cc))
              first.2
