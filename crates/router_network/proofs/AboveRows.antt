-- What stands above `best` is that of the moment, and what `Best` lends is what was lent to it.
use Rattle.router_moments.proofs.Common.{sym, subst, refl, ap, ◌≡◌, ◌∙◌, ℕ, zero, suc, Bool, true, false, ◌||◌, list_any, range_with_len, candidates_of, Candidates, Route, Rows, best_rows, Interior, int_rows, int_candidates, own_of, AddressPrefix, Chains, Moment, no_table}
use Rattle.std.proofs.Common.{None, is_some}
use Rattle.link_change.specs.Rows.{together, with_rows}
use Rattle.decision.specs.Branches.{best_candidates}
use Rattle.decision.specs.Contests.{Knows, Counts}
use Rattle.router_moments.specs.Bests.{lent_candidates}
use Rattle.router_network.specs.declared.above.Above.{Above}
use Rattle.router_network.specs.Informed.{Contested, Informed, branch_rows, branch_candidates, counted_over, rows_above, counted_above}
use Rattle.router_network.proofs.BranchRows.{lent_are, counted_are, own_covered}

-- what stands above `best` at a moment
pub record IsAbove {F : Type 0} (a : Above F) (m : Moment) : Type 0 where
  pub declared : a.declared ≡ m.declared
  pub tree : a.tree ≡ m.tree
  pub redist : a.redist ≡ m.redist
  pub chains : a.chains ≡ m.chains
  pub hops : a.hops ≡ m.hops

-- a moment that has this above `best`, as that of a network has what stands there
abbrev pub with_above : {F : Type 0} → Above F → Moment → Moment
with_above a v = record v { declared = a.declared; tree = a.tree; redist = a.redist; chains = a.chains; hops = a.hops }

pub above_of : {F : Type 0} (a : Above F) (v m : Moment) → with_above a v ≡ m → IsAbove a m
above_of a v m view = subst (IsAbove a) view (record { declared = refl; tree = refl; redist = refl; chains = refl; hops = refl })

-- its best rows and its candidates
abbrev pub best_above : {F : Type 0} → Above F → Rows Route
best_above a = best_rows (rows_above a)

abbrev pub candidates_above : {F : Type 0} → Above F → Candidates
candidates_above a = together (best_candidates (counted_above a)) (int_candidates a.tree)

-- ---- where a walk goes
-- what this speaker has of its own stands where an interior route is: so beside the peers' candidates those of `int` are all
module _ (own : Rows Route) (int : Rows Interior) (a : Chains) (covered : (q : AddressPrefix) → int q ≡ None → own q ≡ None) where
  abbrev all_but_own : AddressPrefix → Bool → Bool
  all_but_own q here = here || list_any (λ b. lent_candidates (with_rows int) a b q) (range_with_len 1 64)

  -- the same but for those of this speaker
  same_rest : (q : AddressPrefix) → with_rows own q ≡ with_rows int q → (b : ℕ) → lent_candidates (with_rows own) a b q ≡ lent_candidates (with_rows int) a b q
  same_rest q same zero = same
  same_rest q same (suc b) = refl

  none_beside : (t : Bool) → (t || false) ≡ t
  none_beside true = refl
  none_beside false = refl

  all_beside : (t : Bool) → (t || true) ≡ true
  all_beside true = refl
  all_beside false = refl

  together_at : (q : AddressPrefix) (t : Bool) → with_rows int q ≡ t → together (best_candidates (lent_candidates (with_rows own) a)) (with_rows int) q ≡ best_candidates (lent_candidates (with_rows int) a) q
  unfolding best_candidates
  together_at q true is =
      ap (λ t. best_candidates (lent_candidates (with_rows own) a) q || t) is ∙ all_beside (best_candidates (lent_candidates (with_rows own) a) q) ∙ sym (ap (all_but_own q) is)
  together_at q false is =
      let none : with_rows own q ≡ false = ap is_some (covered q (no_table (int q) is)) in
      ap (λ t. best_candidates (lent_candidates (with_rows own) a) q || t) is ∙ none_beside (best_candidates (lent_candidates (with_rows own) a) q)
      ∙ ap (λ (f : ℕ → Bool). list_any f (range_with_len 0 65)) (λ i b. same_rest q (none ∙ sym is) b i)

  pub walked_are : together (best_candidates (counted_over own a)) (with_rows int) ≡ best_candidates (lent_candidates (with_rows int) a)
  walked_are i q = together_at q (with_rows int q) refl i

-- the rows are those of the moment
module _ {F : Type 0} (a : Above F) (m : Moment) (is : IsAbove a m) where
  pub rows_are : rows_above a ≡ branch_rows m
  rows_are = lent_are m a.declared a.tree a.redist a.chains a.hops is.declared is.tree is.redist is.chains is.hops

  pub candidates_are : counted_above a ≡ branch_candidates m
  candidates_are = counted_are m a.declared a.tree a.redist a.chains is.declared is.tree is.redist is.chains

  walks_are : candidates_above a ≡ candidates_of m
  walks_are =
      ap (λ (c : ℕ → Candidates). together (best_candidates c) (int_candidates a.tree)) candidates_are ∙ ap (λ (t : _). together (best_candidates (branch_candidates m)) (int_candidates t)) is.tree
      ∙ walked_are (own_of m) (int_rows m.tree) m.chains (own_covered m.declared.speaker m.redist (int_rows m.tree))

-- and of one that is the same
module _ {F : Type 0} (a a' : Above F) (m : Moment) (same : a ≡ a') (is : IsAbove a' m) where
  pub best_rows_are : best_above a ≡ best_rows (branch_rows m)
  best_rows_are = ap (λ (x : Above F). best_above x) same ∙ ap best_rows (rows_are a' m is)

  pub best_candidates_are : candidates_above a ≡ candidates_of m
  best_candidates_are = ap (λ (x : Above F). candidates_above x) same ∙ walks_are a' m is

-- The state knows what stands above, and its candidates are counted.
pub record IsKnown {F : Type 0} (contests : Contested) (a : Above F) : Type 0 where
  pub knows : Knows contests (rows_above a)
  pub counts : Counts contests (counted_above a)

pub known_above : {F : Type 0} (contests : Contested) (a : Above F) (v m : Moment) → with_above a v ≡ m → Informed contests m → IsKnown contests a
known_above contests a v m view i =
    let is = above_of a v m view in
    record { knows = subst (Knows contests) (sym (rows_are a m is)) i.knows; counts = subst (Counts contests) (sym (candidates_are a m is)) i.counts }
