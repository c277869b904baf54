-- The rows of all branches, parted at one of them.
use Rattle.std.proofs.Common.{◌≡◌, ◌≢◌, ℕ, zero, suc, ◌+◌, ◌-◌, ◌≤◌, ◌<◌, ◌⊎◌, inl, inr, Bool, true, false, not, nat_lt, cond, List, [], ◌∷◌, ◌++◌, length, map, Option, Some, None, refl, sym, ◌∙◌, ap, subst, arith, is_some}
use Rattle.std.specs.List.{filter_map, range_with_len, cons_option, insert, remove, position, position_or_len}
use Rattle.std.specs.Option.{unwrap_or}
use Rattle.std.proofs.lemmas.List.{append_assoc, length-append}
use Rattle.std.proofs.lemmas.List.Edits.{insert_end, insert-append_left, remove-append_right}
use Rattle.std.proofs.lemmas.List.Recursion.{is_position_or_len}
use Rattle.std.proofs.lemmas.List.Sums.{prefix_len-le-length}
use Rattle.std.proofs.lemmas.Bool.Decides.{nat_tests}
use Rattle.bgp_attr.specs.Routes.{Route}
use Rattle.best_path.specs.declared.candidate.Candidate.{Candidate}
use Rattle.best_path.specs.Keys.{candidate_of}
use Rattle.decision.specs.declared.lineup.Lineup.{Lineup}
use Rattle.best_path.specs.Steps.{pick}
use Rattle.best_path.proofs.LawLemmas.{none_only_of_nothing}
use Rattle.decision.specs.Lineups.{routes_of, with_own, chosen, candidate_at, number_at, key_at, made_from, IsLine, Parts}
use Rattle.decision.specs.Wins.{StandsAlone}
use Rattle.decision.specs.Contests.{OnlyWinner, HasNoOther}
use Rattle.decision.proofs.LineupLemmas.{own_at, own_elsewhere, by_number, pick_alone}
use Rattle.decision.proofs.LawLemmas.{no_row}

-- ---- ranges
range_split : (a m n : ℕ) → range_with_len a (m + n) ≡ range_with_len a m ++ range_with_len (a + m) n
range_split a zero n =
    let e : 0 + n ≡ n = omega arith in
    let f : a ≡ a + 0 = omega arith in ap (range_with_len a) e ∙ ap (λ b. range_with_len b n) f
range_split a (suc m) n =
    let e : suc m + n ≡ suc (m + n) = omega arith in
    let f : a + 1 + m ≡ a + suc m = omega arith in
    ap (range_with_len a) e ∙ ap (λ l. a ∷ l) (range_split (a + 1) m n ∙ ap (λ b. range_with_len (a + 1) m ++ range_with_len b n) f)

module _ {X : Type 0} where
  made_append : (f : ℕ → Option X) (xs ys : List ℕ) → filter_map f (xs ++ ys) ≡ filter_map f xs ++ filter_map f ys
  made_append f [] ys = refl
  made_append f (x ∷ xs) ys = ap (cons_option (f x)) (made_append f xs ys) ∙ cons_append (f x) (filter_map f xs) (filter_map f ys)
    where
      cons_append : (o : Option X) (us vs : List X) → cons_option o (us ++ vs) ≡ cons_option o us ++ vs
      cons_append None us vs = refl
      cons_append (Some y) us vs = refl

  -- what is made of a range is made of its parts
  pub made_parts : (f : ℕ → Option X) (n at : ℕ) → at < n →
      filter_map f (range_with_len 0 n) ≡ filter_map f (range_with_len 0 at) ++ cons_option (f at) (filter_map f (range_with_len (at + 1) (n - at - 1)))
  made_parts f n at below =
      let e : n ≡ at + suc (n - at - 1) = omega (arith, below) in
      let z : 0 + at ≡ at = omega arith in
      ap (λ m. filter_map f (range_with_len 0 m)) e
      ∙ ap (filter_map f) (range_split 0 at (suc (n - at - 1)))
      ∙ made_append f (range_with_len 0 at) (range_with_len (0 + at) (suc (n - at - 1)))
      ∙ ap (λ b. filter_map f (range_with_len 0 at) ++ filter_map f (range_with_len b (suc (n - at - 1)))) z

  -- the same is made of the same
  pub same_made : (f g : ℕ → Option X) (a n : ℕ) → ((b : ℕ) → a ≤ b → b < a + n → f b ≡ g b) → filter_map f (range_with_len a n) ≡ filter_map g (range_with_len a n)
  same_made f g a zero same = refl
  same_made f g a (suc n) same =
      ap (λ o. cons_option o (filter_map f (range_with_len (a + 1) n))) (same a (omega arith) (omega arith))
      ∙ ap (cons_option (g a)) (same_made f g (a + 1) n (λ b from below. same b (omega (arith, from)) (omega (arith, below))))

  pub none_made : (f : ℕ → Option X) (a n : ℕ) → ((b : ℕ) → a ≤ b → b < a + n → f b ≡ None) → filter_map f (range_with_len a n) ≡ []
  none_made f a zero none = refl
  none_made f a (suc n) none =
      ap (λ o. cons_option o (filter_map f (range_with_len (a + 1) n))) (none a (omega arith) (omega arith))
      ∙ none_made f (a + 1) n (λ b from below. none b (omega (arith, from)) (omega (arith, below)))

  -- what is put between two parts, and taken out there
  pub put_between : (xs ys : List X) (i : ℕ) (y : X) → i ≡ length xs → insert (xs ++ ys) i y ≡ xs ++ y ∷ ys
  put_between xs ys i y is =
      insert-append_left xs ys i y (omega (arith, is)) ∙ ap (λ n. insert xs n y ++ ys) is
      ∙ ap (λ l. l ++ ys) (insert_end xs y) ∙ append_assoc xs (y ∷ []) ys

  pub taken_between : (xs ys : List X) (i : ℕ) (y : X) → i ≡ length xs → remove (xs ++ y ∷ ys) i ≡ xs ++ ys
  taken_between xs ys i y is =
      remove-append_right xs (y ∷ ys) i i (sym is) (omega arith)
      ∙ ap (λ n. xs ++ remove (y ∷ ys) n) (let e : i - i ≡ 0 = omega arith in e)

-- ---- one branch's own row among those of the others
module _ {X : Type 0} (make : Option Route → ℕ → Option X) where
  -- what is made of the branches before one, and behind it
  abbrev pub front : ℕ → (ℕ → Option Route) → List X
  front branch here = made_from make here 0 branch

  abbrev pub back : ℕ → (ℕ → Option Route) → List X
  back branch here = made_from make here (branch + 1) (65 - branch - 1)

  pub own_made : (branch : ℕ) (row : Option Route) (here : ℕ → Option Route) → branch < 65 →
      made_from make (with_own branch row here) 0 65 ≡ front branch here ++ cons_option (make row branch) (back branch here)
  own_made branch row here below =
      let f : ℕ → Option X = λ b. make (with_own branch row here b) b in
      let g : ℕ → Option X = λ b. make (here b) b in
      made_parts f 65 branch below
      ∙ ap (λ l. l ++ cons_option (f branch) (filter_map f (range_with_len (branch + 1) (65 - branch - 1))))
      (same_made f g 0 branch (λ b from less. ap (λ r. make r b) (own_elsewhere branch row here b (λ same. absurd (omega (arith, less, same))))))
      ∙ ap (λ o. front branch here ++ cons_option o (filter_map f (range_with_len (branch + 1) (65 - branch - 1)))) (ap (λ r. make r branch) (own_at branch row here branch refl))
      ∙ ap (λ l. front branch here ++ cons_option (make row branch) l)
      (same_made f g (branch + 1) (65 - branch - 1) (λ b from less. ap (λ r. make r b) (own_elsewhere branch row here b (λ same. absurd (omega (arith, from, same))))))

-- ---- as many numbers as candidates
long_key : (row : Option Route) (b : ℕ) (ks : List Candidate) (ns : List ℕ) → length ks ≡ length ns → length (cons_option (key_at row b) ks) ≡ length (cons_option (number_at row b) ns)
long_key None b ks ns e = e
long_key (Some r) b ks ns e = omega (arith, e)

pub as_many_keys : (here : ℕ → Option Route) (a n : ℕ) → length (made_from key_at here a n) ≡ length (made_from number_at here a n)
as_many_keys here a zero = refl
as_many_keys here a (suc n) = long_key (here a) a (made_from key_at here (a + 1) n) (made_from number_at here (a + 1) n) (as_many_keys here (a + 1) n)

-- ---- the routes whose candidates they are
key_of_cons : (row : Option Route) (b : ℕ) (rs : List Route) (ks : List Candidate) → map candidate_of rs ≡ ks → map candidate_of (cons_option row rs) ≡ cons_option (key_at row b) ks
key_of_cons None b rs ks e = e
key_of_cons (Some r) b rs ks e = ap (λ l. candidate_of r ∷ l) e

pub keys_of : (here : ℕ → Option Route) (a n : ℕ) → map candidate_of (filter_map here (range_with_len a n)) ≡ made_from key_at here a n
keys_of here a zero = refl
keys_of here a (suc n) = key_of_cons (here a) a (filter_map here (range_with_len (a + 1) n)) (made_from key_at here (a + 1) n) (keys_of here (a + 1) n)

number_of_cons : (here : ℕ → Option Route) (row : Option Route) (b : ℕ) (rs : List Route) (ns : List ℕ) → here b ≡ row → map here ns ≡ map Some rs → map here (cons_option (number_at row b) ns) ≡ map Some (cons_option row rs)
number_of_cons here None b rs ns is e = e
number_of_cons here (Some r) b rs ns is e = ap (λ o. o ∷ map here ns) is ∙ ap (λ l. Some r ∷ l) e

pub numbers_of : (here : ℕ → Option Route) (a n : ℕ) → map here (made_from number_at here a n) ≡ map Some (filter_map here (range_with_len a n))
numbers_of here a zero = refl
numbers_of here a (suc n) = number_of_cons here (here a) a (filter_map here (range_with_len (a + 1) n)) (made_from number_at here (a + 1) n) refl (numbers_of here (a + 1) n)

-- ---- the place of a branch
abbrev pub place_in : ℕ → List ℕ → ℕ
place_in branch [] = 0
place_in branch (n ∷ ns) = cond (not (nat_lt n branch)) 0 (1 + place_in branch ns)

below_case : (branch b : ℕ) (t : Bool) (ns : List ℕ) → nat_lt b branch ≡ t → b < branch → cond (not t) 0 (1 + place_in branch ns) ≡ 1 + place_in branch ns
below_case branch b true ns e less = refl
below_case branch b false ns e less = absurd (grind (arith, nat_tests, e, less))

from_case : (branch b : ℕ) (t : Bool) (ns : List ℕ) → nat_lt b branch ≡ t → branch ≤ b → cond (not t) 0 (1 + place_in branch ns) ≡ 0
from_case branch b true ns e from = absurd (grind (arith, nat_tests, e, from))
from_case branch b false ns e from = refl

front_cons : (branch : ℕ) (row : Option Route) (b : ℕ) (ns rest : List ℕ) → b < branch → place_in branch (ns ++ rest) ≡ length ns + place_in branch rest
    → place_in branch (cons_option (number_at row b) ns ++ rest) ≡ length (cons_option (number_at row b) ns) + place_in branch rest
front_cons branch None b ns rest less e = e
front_cons branch (Some r) b ns rest less e = below_case branch b (nat_lt b branch) (ns ++ rest) refl less ∙ omega (arith, e)

front_place : (branch : ℕ) (here : ℕ → Option Route) (a n : ℕ) (rest : List ℕ) → a + n ≤ branch
    → place_in branch (made_from number_at here a n ++ rest) ≡ length (made_from number_at here a n) + place_in branch rest
front_place branch here a zero rest le = let e : place_in branch rest ≡ 0 + place_in branch rest = omega arith in e
front_place branch here a (suc n) rest le =
    front_cons branch (here a) a (made_from number_at here (a + 1) n) rest (omega (arith, le)) (front_place branch here (a + 1) n rest (omega (arith, le)))

back_cons : (branch : ℕ) (row : Option Route) (b : ℕ) (ns : List ℕ) → branch ≤ b → place_in branch ns ≡ 0 → place_in branch (cons_option (number_at row b) ns) ≡ 0
back_cons branch None b ns from e = e
back_cons branch (Some r) b ns from e = from_case branch b (nat_lt b branch) ns refl from

back_place : (branch : ℕ) (here : ℕ → Option Route) (a n : ℕ) → branch ≤ a → place_in branch (made_from number_at here a n) ≡ 0
back_place branch here a zero from = refl
back_place branch here a (suc n) from =
    back_cons branch (here a) a (made_from number_at here (a + 1) n) from (back_place branch here (a + 1) n (omega (arith, from)))

pub place_of : (branch : ℕ) (own : Option Route) (here : ℕ → Option Route) (line : Lineup) → branch < 65 → IsLine (with_own branch own here) line
    → position_or_len (λ n. not (nat_lt n branch)) line.branches.items ≡ length (made_from number_at here 0 branch)
place_of branch own here line below h =
    let front = made_from number_at here 0 branch in
    let rest = cons_option (number_at own branch) (made_from number_at here (branch + 1) (65 - branch - 1)) in
    sym (is_position_or_len (place_in branch) (λ n. not (nat_lt n branch)) refl (λ x xs. refl) line.branches.items)
    ∙ ap (place_in branch) (sym h.numbers ∙ own_made number_at branch own here below)
    ∙ front_place branch here 0 branch rest (omega arith)
    ∙ ap (λ p. length front + p) (back_cons branch own branch (made_from number_at here (branch + 1) (65 - branch - 1)) (omega arith)
    (back_place branch here (branch + 1) (65 - branch - 1) (omega arith)))
    ∙ (let e : length front + 0 ≡ length front = omega arith in e)

-- ---- a branch's own candidate leaves the line, and joins it
module _ {X : Type 0} where
  gone : (xs ys : List X) (o : Option X) (i : ℕ) → i ≡ length xs → is_some o ≡ true → remove (xs ++ cons_option o ys) i ≡ xs ++ ys
  gone xs ys None i is some = absurd (let e : false ≡ true = some in cc)
  gone xs ys (Some y) i is some = taken_between xs ys i y is

some_key : (row : Option Route) (b : ℕ) → is_some row ≡ true → is_some (key_at row b) ≡ true
some_key None b e = e
some_key (Some r) b e = refl

some_number : (row : Option Route) (b : ℕ) → is_some row ≡ true → is_some (number_at row b) ≡ true
some_number None b e = e
some_number (Some r) b e = refl

-- where the branch had a row, the line without its candidate is that of the others
pub left_line : (branch : ℕ) (own : Option Route) (here : ℕ → Option Route) (line new : Lineup) (place : ℕ) → branch < 65 → is_some own ≡ true
    → place ≡ length (made_from number_at here 0 branch) → IsLine (with_own branch own here) line
    → new.candidates.items ≡ remove line.candidates.items place → new.branches.items ≡ remove line.branches.items place
    → IsLine (with_own branch None here) new
left_line branch own here line new place below some at h keys numbers = record {
  keys = own_made key_at branch None here below
      ∙ sym (gone (front key_at branch here) (back key_at branch here) (key_at own branch) place (at ∙ sym (as_many_keys here 0 branch)) (some_key own branch some))
      ∙ ap (λ l. remove l place) (sym (own_made key_at branch own here below) ∙ h.keys) ∙ sym keys;
  numbers = own_made number_at branch None here below
      ∙ sym (gone (front number_at branch here) (back number_at branch here) (number_at own branch) place at (some_number own branch some))
      ∙ ap (λ l. remove l place) (sym (own_made number_at branch own here below) ∙ h.numbers) ∙ sym numbers;
}

-- where it had none, it is that of the others already
pub same_line : (branch : ℕ) (own : Option Route) (here : ℕ → Option Route) (line : Lineup) → own ≡ None → IsLine (with_own branch own here) line → IsLine (with_own branch None here) line
same_line branch own here line is h = subst (λ o. IsLine (with_own branch o here) line) is h

-- its own candidate at its place makes a line of all
pub joined_line : (branch : ℕ) (row : Option Route) (here : ℕ → Option Route) (candidate : Candidate) (line new : Lineup) (place : ℕ) → branch < 65
    → Some candidate ≡ candidate_at row → Parts branch here line place
    → new.candidates.items ≡ insert line.candidates.items place candidate
    → new.branches.items ≡ insert line.branches.items place branch
    → IsLine (with_own branch row here) new
joined_line branch row here candidate line new place below is h keys numbers = record {
  keys = own_made key_at branch row here below
      ∙ ap (λ o. front key_at branch here ++ cons_option o (back key_at branch here)) (sym is)
      ∙ sym (put_between (front key_at branch here) (back key_at branch here) place candidate (h.behind ∙ sym (as_many_keys here 0 branch)))
      ∙ ap (λ l. insert l place candidate) (sym (own_made key_at branch None here below) ∙ h.lined.keys) ∙ sym keys;
  numbers = own_made number_at branch row here below
      ∙ ap (λ o. front number_at branch here ++ cons_option o (back number_at branch here)) (its_number row is)
      ∙ sym (put_between (front number_at branch here) (back number_at branch here) place branch h.behind)
      ∙ ap (λ l. insert l place branch) (sym (own_made number_at branch None here below) ∙ h.lined.numbers) ∙ sym numbers;
}
  where
    its_number : (row : Option Route) → Some candidate ≡ candidate_at row → number_at row branch ≡ Some branch
    its_number None e = absurd (let f : Some candidate ≡ None = e in cc)
    its_number (Some r) e = refl

-- ---- one branch alone
module _ {X : Type 0} (make : Option Route → ℕ → Option X) (empty : (b : ℕ) → make None b ≡ None) where
  -- nothing is made of branches without rows
  pub nothing_made : (here : ℕ → Option Route) (a n : ℕ) → ((b : ℕ) → a ≤ b → b < a + n → here b ≡ None) → made_from make here a n ≡ []
  nothing_made here a n none = none_made (λ b. make (here b) b) a n (λ b from less. ap (λ r. make r b) (none b from less) ∙ empty b)

  -- where one branch below n alone may have a row, that is all
  pub one_made : (here : ℕ → Option Route) (n w : ℕ) → w < n → ((b : ℕ) → b < n → b ≢ w → here b ≡ None) → made_from make here 0 n ≡ cons_option (make (here w) w) []
  one_made here n w below none =
      made_parts (λ b. make (here b) b) n w below
      ∙ ap (λ l. l ++ cons_option (make (here w) w) (made_from make here (w + 1) (n - w - 1))) (nothing_made here 0 w (λ b from less. none b (omega (arith, less, below)) (λ same. absurd (omega (arith, less, same)))))
      ∙ ap (cons_option (make (here w) w)) (nothing_made here (w + 1) (n - w - 1) (λ b from less. none b (omega (arith, less, from, below)) (λ same. absurd (omega (arith, from, same)))))

-- ---- the place of a branch is one of the line
long_gone : {X : Type 0} → (xs ys : List X) (o : Option X) → is_some o ≡ true → length xs < length (xs ++ cons_option o ys)
long_gone xs ys None some = absurd (let e : false ≡ true = some in cc)
long_gone xs ys (Some y) some = omega (arith, length-append xs (y ∷ ys))

pub place_within : (branch : ℕ) (own : Option Route) (here : ℕ → Option Route) (line : Lineup) (place : ℕ) → branch < 65 → is_some own ≡ true
    → place ≡ length (made_from number_at here 0 branch) → IsLine (with_own branch own here) line
    → (place < length line.candidates.items) × (place < length line.branches.items)
place_within branch own here line place below some at h =
    let keys = long_gone (front key_at branch here) (back key_at branch here) (key_at own branch) (some_key own branch some) in
    let numbers = long_gone (front number_at branch here) (back number_at branch here) (number_at own branch) (some_number own branch some) in (
      omega (arith, at, as_many_keys here 0 branch, keys, ap length (sym (own_made key_at branch own here below) ∙ h.keys)),
      omega (arith, at, numbers, ap length (sym (own_made number_at branch own here below) ∙ h.numbers)),
    )

-- the place is one of the others' line, or its end
long_front : {X : Type 0} → (xs ys : List X) → length xs ≤ length (xs ++ ys)
long_front xs ys = omega (arith, length-append xs ys)

pub place_fits : (branch : ℕ) (here : ℕ → Option Route) (line : Lineup) (place : ℕ) → branch < 65 → Parts branch here line place
    → (place ≤ length line.candidates.items) × (place ≤ length line.branches.items)
place_fits branch here line place below h =
    let keys = long_front (front key_at branch here) (back key_at branch here) in
    let numbers = long_front (front number_at branch here) (back number_at branch here) in (
      omega (arith, h.behind, as_many_keys here 0 branch, keys, ap length (sym (own_made key_at branch None here below) ∙ h.lined.keys)),
      omega (arith, h.behind, numbers, ap length (sym (own_made number_at branch None here below) ∙ h.lined.numbers)),
    )

-- no more candidates than branches
few_cons : {X : Type 0} → (o : Option X) (xs : List X) (n : ℕ) → length xs ≤ n → length (cons_option o xs) ≤ n + 1
few_cons None xs n h = omega (arith, h)
few_cons (Some x) xs n h = omega (arith, h)

few_made : (here : ℕ → Option Route) (a n : ℕ) → length (made_from key_at here a n) ≤ n
few_made here a zero = omega arith
few_made here a (suc n) = omega (arith, few_cons (key_at (here a) a) (made_from key_at here (a + 1) n) n (few_made here (a + 1) n))

pub few_keys : (here : ℕ → Option Route) (line : Lineup) → IsLine here line → length line.candidates.items ≤ 65
few_keys here line h = omega (arith, ap length h.keys, few_made here 0 65)

-- ---- where nothing is made of them, no branch has a row
none_of_number : (row : Option Route) (b : ℕ) (ns : List ℕ) → cons_option (number_at row b) ns ≡ [] → (row ≡ None) × (ns ≡ [])
none_of_number None b ns e = (refl, e)
none_of_number (Some r) b ns e = absurd (let f : b ∷ ns ≡ [] = e in cc)

no_number : (here : ℕ → Option Route) (a n : ℕ) → made_from number_at here a n ≡ [] → (b : ℕ) → a ≤ b → b < a + n → here b ≡ None
no_number here a zero e b from below = absurd (omega (arith, from, below))
no_number here a (suc n) e b from below =
    let both = none_of_number (here a) a (made_from number_at here (a + 1) n) e in
    by_number b a (λ t. here b ≡ None) (λ same. ap here same ∙ both.0)
    (λ differ. no_number here (a + 1) n both.1 b (omega (arith, from, differ)) (omega (arith, below)))

-- and where one number is, no other branch has one
one_cons : (row : Option Route) (b w : ℕ) (ns : List ℕ) → cons_option (number_at row b) ns ≡ w ∷ [] → ((row ≡ None) × (ns ≡ w ∷ [])) ⊎ ((b ≡ w) × (ns ≡ []))
one_cons None b w ns e = inl (refl, e)
one_cons (Some r) b w ns e = inr (let f : b ∷ ns ≡ w ∷ [] = e in let first : b ≡ w = cc in let rest : ns ≡ [] = cc in (first, rest))

one_number : (here : ℕ → Option Route) (a n w : ℕ) → made_from number_at here a n ≡ w ∷ [] → (b : ℕ) → a ≤ b → b < a + n → b ≢ w → here b ≡ None
one_number here a zero w e b from below other = absurd (omega (arith, from, below))
one_number here a (suc n) w e b from below other =
    elim (one_cons (here a) a w (made_from number_at here (a + 1) n) e) [
      | inl k ↦ by_number b a (λ t. here b ≡ None) (λ same. ap here same ∙ k.0)
          (λ differ. one_number here (a + 1) n w k.1 b (omega (arith, from, differ)) (omega (arith, below)) other)
      | inr k ↦ by_number b a (λ t. here b ≡ None) (λ same. absurd (other (same ∙ k.0)))
          (λ differ. no_number here (a + 1) n k.1 b (omega (arith, from, differ)) (omega (arith, below)))
    ]

-- so where at most one candidate is left, no branch but the winner has a row
abbrev Listed : List ℕ → Option ℕ → Type 0
Listed numbers winner = (only b : ℕ) → numbers ≡ only ∷ [] → winner ≡ Some b → b ≡ only

winner_listed : (here : ℕ → Option Route) (w b : ℕ) (winner : Option ℕ) → Listed (w ∷ []) winner → chosen here winner ≡ pick (routes_of 65 here)
    → b ≡ w → b < 65 → winner ≢ Some b → here b ≡ None
winner_listed here w b None listed best same below other = no_row 65 here (none_only_of_nothing (routes_of 65 here) (sym best)) b below
winner_listed here w b (Some n) listed best same below other = absurd (other (ap Some (listed w n refl refl ∙ sym same)))

left_only : (here : ℕ → Option Route) (numbers : List ℕ) (winner : Option ℕ) → made_from number_at here 0 65 ≡ numbers → length numbers < 2 → Listed numbers winner
    → chosen here winner ≡ pick (routes_of 65 here) → OnlyWinner here winner
left_only here [] winner e few listed best b below other = no_number here 0 65 e b (omega arith) (omega (arith, below))
left_only here (w ∷ []) winner e few listed best b below other =
    by_number b w (λ t. here b ≡ None) (λ same. winner_listed here w b winner listed best same below other)
    (λ differ. one_number here 0 65 w e b (omega arith) (omega (arith, below)) differ)
left_only here (w ∷ v ∷ ns) winner e few listed best b below other = absurd (omega (arith, few))

pub only_left : (here : ℕ → Option Route) (line : Lineup) (winner : Option ℕ) → IsLine here line → Listed line.branches.items winner
    → chosen here winner ≡ pick (routes_of 65 here) → length line.branches.items < 2 → OnlyWinner here winner
only_left here line winner h listed best few = left_only here line.branches.items winner h.numbers few listed best

pub few_of : (n : ℕ) (short : Bool) → short ≡ nat_lt n 2 → short ≡ true → n < 2
few_of n short e is = let f : nat_lt n 2 ≡ true = sym e ∙ is in grind (arith, nat_tests, f)

-- ---- without one branch's own row
without_own : (branch : ℕ) (own : Option Route) (here : ℕ → Option Route) → HasNoOther branch here → (b : ℕ) → b < 65 → b ≢ branch → with_own branch own here b ≡ None
without_own branch own here none b below differ = own_elsewhere branch own here b differ ∙ none b below differ

-- whatever the branch has is the best where no other one has a row
pub alone_best : (branch : ℕ) (here : ℕ → Option Route) → branch < 65 → HasNoOther branch here → StandsAlone branch here
alone_best branch here below none = λ own.
    pick_alone own
    ∙ sym (ap pick (one_made (λ row _. row) (λ _. refl) (with_own branch own here) 65 branch below (without_own branch own here none)
    ∙ ap (λ o. cons_option o []) (own_at branch own here branch refl)))

-- ---- one branch alone may have a row before a change: none, or that of the change
pub no_other : (branch : ℕ) (own : Option Route) (here : ℕ → Option Route) (winner : Option ℕ) → OnlyWinner (with_own branch own here) winner
    → ((b : ℕ) → b < 65 → b ≢ branch → winner ≢ Some b) → HasNoOther branch here
no_other branch own here winner only others = λ b below differ. sym (own_elsewhere branch own here b differ) ∙ only b below (others b below differ)

-- or that of another one, which has none either
pub no_third : (branch number : ℕ) (own : Option Route) (here : ℕ → Option Route) → OnlyWinner (with_own branch own here) (Some number) → here number ≡ None
    → HasNoOther branch here
no_third branch number own here only none = λ b below differ.
    by_number b number (λ t. here b ≡ None) (λ same. ap here same ∙ none)
    (λ third. sym (own_elsewhere branch own here b differ) ∙ only b below (λ e. third (sym (let f : number ≡ b = cc in f))))

-- or one: its candidate is the line
pub other_line : (branch number : ℕ) (own : Option Route) (here : ℕ → Option Route) (route : Route) (line : Lineup) → number < 65 → number ≢ branch
    → here number ≡ Some route → OnlyWinner (with_own branch own here) (Some number)
    → line.candidates.items ≡ candidate_of route ∷ [] → line.branches.items ≡ number ∷ [] → IsLine (with_own branch own here) line
other_line branch number own here route line small differ is only keys numbers =
    let none : (b : ℕ) → b < 65 → b ≢ number → with_own branch own here b ≡ None = λ b below third. only b below (λ e. third (sym (let f : number ≡ b = cc in f))) in
    let there : with_own branch own here number ≡ Some route = own_elsewhere branch own here number differ ∙ is in
    record {
      keys = one_made key_at (λ _. refl) (with_own branch own here) 65 number small none ∙ ap (λ r. cons_option (key_at r number) []) there ∙ sym keys;
      numbers = one_made number_at (λ _. refl) (with_own branch own here) 65 number small none ∙ ap (λ r. cons_option (number_at r number) []) there ∙ sym numbers;
    }

-- ---- the first place, or the end
pub or_end : {X : Type 0} → (p : X → Bool) (xs : List X) → unwrap_or (position p xs) (length xs) ≡ position_or_len p xs
or_end p xs = by (nat_lt (position_or_len p xs) (length xs)) refl
  where
    by : (t : Bool) → nat_lt (position_or_len p xs) (length xs) ≡ t → unwrap_or (cond t (Some (position_or_len p xs)) None) (length xs) ≡ position_or_len p xs
    by true e = refl
    by false e = let past = prefix_len-le-length (λ x. not (p x)) xs in grind (arith, nat_tests, e, past)

pub not_some : {X : Type 0} → (o : Option X) → is_some o ≡ false → o ≡ None
not_some None e = refl
not_some (Some x) e = absurd (let f : true ≡ false = e in cc)
