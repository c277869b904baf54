-- Branches in their order, and the row of one of them.
use Rattle.std.proofs.Common.{◌≡◌, ◌≢◌, ℕ, zero, suc, ◌+◌, ◌<◌, Bool, true, false, not, ◌==◌, if◌then◌else◌, List, [], ◌∷◌, ◌++◌, length, map, slice_get, Option, Some, None, Bor, refl, sym, ◌∙◌, ap, subst, arith, add-one}
use Rattle.std.specs.List.{filter_map, range_with_len, cons_option}
use Rattle.std.proofs.lemmas.List.{append-nil}
use Rattle.std.specs.Option.{option_copied, option_eq}
use Rattle.std.proofs.Math.Dec.{eqb}
use Rattle.std.proofs.lemmas.Bool.{eqb-true, eq-eqb}
use Rattle.std.specs.Slice.{IsItemAt}
use Rattle.std.proofs.lemmas.Option.{slice_get_past, slice_get-get_or}
use Rattle.std.proofs.lemmas.List.Elements.{filter_map-append}
use Rattle.std.proofs.lemmas.Bool.Decides.{nat_tests}
use Rattle.bgp_attr.specs.Routes.{Route}
use Rattle.best_path.specs.Steps.{pick}
use Rattle.best_path.proofs.LawLemmas.{one_is_its_own_best}
use Rattle.decision.specs.Lineups.{routes_of, with_own, chosen, candidate_at}

-- ---- numbers in their order
pub range_more : (a n : ℕ) → range_with_len a (suc n) ≡ range_with_len a n ++ (a + n) ∷ []
range_more a zero = let e : a ≡ a + 0 = omega arith in ap (λ v. v ∷ []) e
range_more a (suc n) =
    let e : a + 1 + n ≡ a + suc n = omega arith in
    ap (λ l. a ∷ l) (range_more (a + 1) n ∙ ap (λ v. range_with_len (a + 1) n ++ v ∷ []) e)

pub numbers_more : (n : ℕ) → range_with_len 0 (n + 1) ≡ range_with_len 0 n ++ n ∷ []
numbers_more n =
    let e : 0 + n ≡ n = omega arith in
    rw add-one (range_more 0 n ∙ ap (λ v. range_with_len 0 n ++ v ∷ []) e)

-- ---- the routes of one branch more
pub routes_more : (n : ℕ) (here : ℕ → Option Route) → routes_of (n + 1) here ≡ routes_of n here ++ cons_option (here n) []
routes_more n here = ap (filter_map here) (numbers_more n) ∙ filter_map-append here (range_with_len 0 n) (n ∷ [])

pub routes_without : (n : ℕ) (here : ℕ → Option Route) → here n ≡ None → routes_of (n + 1) here ≡ routes_of n here
routes_without n here is =
    routes_more n here ∙ ap (λ r. routes_of n here ++ cons_option r []) is ∙ append-nil (routes_of n here)

pub routes_none : (n : ℕ) (here : ℕ → Option Route) → ((b : ℕ) → b < n → here b ≡ None) → routes_of n here ≡ []
routes_none zero here none = refl
routes_none (suc n) here none =
    let e : suc n ≡ n + 1 = omega arith in
    ap (λ m. routes_of m here) e ∙ routes_without n here (none n (omega arith)) ∙ routes_none n here (λ b below. none b (omega arith))

pub same_routes : (n : ℕ) (here other : ℕ → Option Route) → ((b : ℕ) → b < n → here b ≡ other b) → routes_of n here ≡ routes_of n other
same_routes zero here other same = refl
same_routes (suc n) here other same =
    let e : suc n ≡ n + 1 = omega arith in
    ap (λ m. routes_of m here) e ∙ routes_more n here
    ∙ ap (λ l. l ++ cons_option (here n) []) (same_routes n here other (λ b below. same b (omega (arith, below))))
    ∙ ap (λ r. routes_of n other ++ cons_option r []) (same n (omega arith))
    ∙ sym (routes_more n other) ∙ ap (λ m. routes_of m other) (sym e)

-- ---- candidates
pub no_candidate : (row : Option Route) → None ≡ candidate_at row → row ≡ None
no_candidate None e = refl
no_candidate (Some route) e = cc

-- ---- the winner
pub chosen_at : (here : ℕ → Option Route) (branches : List ℕ) (routes : List Route) (place : ℕ) → map here branches ≡ map Some routes
    → place < length routes → chosen here (slice_get branches place) ≡ slice_get routes place
chosen_at here [] [] place is h = absurd (omega (arith, h))
chosen_at here [] (r ∷ rs) place is h = absurd (let e : [] ≡ Some r ∷ map Some rs = is in cc)
chosen_at here (b ∷ bs) [] place is h = absurd (omega (arith, h))
chosen_at here (b ∷ bs) (r ∷ rs) zero is h = let e : here b ∷ map here bs ≡ Some r ∷ map Some rs = is in let f : here b ≡ Some r = cc in f
chosen_at here (b ∷ bs) (r ∷ rs) (suc place) is h =
    let e : here b ∷ map here bs ≡ Some r ∷ map Some rs = is in
    let f : map here bs ≡ map Some rs = cc in chosen_at here bs rs place f (omega (arith, h))

-- of one number alone it is this one
pub one_listed : (only b place : ℕ) → slice_get (only ∷ []) place ≡ Some b → b ≡ only
one_listed only b zero is = let e : Some only ≡ Some b = is in let f : only ≡ b = cc in sym f
one_listed only b (suc place) is = absurd (let e : None ≡ Some b = is in cc)

-- the element that `get` lends
pub copied_item : {X : Type 0} → (xs : List X) (i : ℕ) (lent : Option (Bor X)) → IsItemAt xs i lent → option_copied lent ≡ slice_get xs i
copied_item xs i None h = sym (slice_get_past xs i h.3)
copied_item xs i (Some x) h = ap Some h.1 ∙ sym (slice_get-get_or xs i x.now h.3.0)

-- ---- winners are compared
pub same_winner : (a b : Option ℕ) → true ≡ option_eq eqb a b → a ≡ b
same_winner None None h = refl
same_winner None (Some n) h = absurd (let e : true ≡ false = h in cc)
same_winner (Some m) None h = absurd (let e : true ≡ false = h in cc)
same_winner (Some m) (Some n) h = ap Some (eqb-true m n (sym h))

other_number : (a : Option ℕ) (m n : ℕ) → true ≡ not (option_eq eqb a (Some n)) → a ≡ Some m → m ≢ n
other_number a m n h is same =
    let e : option_eq eqb a (Some n) ≡ true = ap (λ v. option_eq eqb v (Some n)) is ∙ eq-eqb m n same in
    let f : true ≡ false = h ∙ ap not e in cc

pub other_winner : (a : Option ℕ) (n : ℕ) → true ≡ not (option_eq eqb a (Some n)) → a ≢ Some n
other_winner a n h is = other_number a n n h is refl

-- ---- one branch's own row
by_number_case : (b n : ℕ) (P : Bool → Type 0) (test : Bool) → (b == n) ≡ test → (b ≡ n → P true) → (b ≢ n → P false) → P (b == n)
by_number_case b n P true e here elsewhere = subst P (sym e) (here (grind (arith, nat_tests, e)))
by_number_case b n P false e here elsewhere = subst P (sym e) (elsewhere (λ same. grind (arith, nat_tests, e)))

-- by cases whether it is this branch
pub by_number : (b n : ℕ) (P : Bool → Type 0) → (b ≡ n → P true) → (b ≢ n → P false) → P (b == n)
by_number b n P here elsewhere = by_number_case b n P (b == n) refl here elsewhere

pub own_elsewhere : (branch : ℕ) (own : Option Route) (here : ℕ → Option Route) (b : ℕ) → b ≢ branch → with_own branch own here b ≡ here b
own_elsewhere branch own here b differ = by_number b branch (λ t. (if t then own else here b) ≡ here b) (λ same. absurd (differ same)) (λ _. refl)

pub own_at : (branch : ℕ) (own : Option Route) (here : ℕ → Option Route) (b : ℕ) → b ≡ branch → with_own branch own here b ≡ own
own_at branch own here b is = by_number b branch (λ t. (if t then own else here b) ≡ own) (λ _. refl) (λ differ. absurd (differ is))

-- a winner other than the branch has the same row, whatever the branch has
pub chosen_beside : (branch : ℕ) (own new : Option Route) (here : ℕ → Option Route) (winner : Option ℕ) → winner ≢ Some branch
    → chosen (with_own branch own here) winner ≡ chosen (with_own branch new here) winner
chosen_beside branch own new here None differ = refl
chosen_beside branch own new here (Some b) differ =
    own_elsewhere branch own here b (λ same. differ (ap Some same)) ∙ sym (own_elsewhere branch new here b (λ same. differ (ap Some same)))

-- one row alone is the best
pub pick_alone : (row : Option Route) → row ≡ pick (cons_option row [])
pick_alone None = refl
pick_alone (Some r) = sym (one_is_its_own_best r)
