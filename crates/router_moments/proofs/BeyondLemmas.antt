-- How many rows of the tree, and of `ebgp` and `ibgp`, lie beyond a place, and where they stand.
use Rattle.std.proofs.Common.{◌≡◌, ℕ, ◌+◌, ◌-◌, ◌<◌, ◌≤◌, Bool, true, false, ◌||◌, cond, zero, suc, List, [], ◌∷◌, ◌++◌, length, Option, Some, None, is_some, refl, sym, ap, ◌∙◌, arith}
use Rattle.std.specs.List.{Contains}
use Rattle.std.specs.FinMap as tables
use Rattle.std.specs.FinMap.{FinMap, get, remove, contains_key, get-remove, len-remove, get-empty, len-empty, same_map}
use Rattle.std.specs.Ordering.{eq_by_cmp}
use Rattle.addr4.specs.Prefixes.{AddressPrefix, prefix_cmp}
use Rattle.addr4.specs.Places.{IsBeyond}
use Rattle.addr4.proofs.PrefixOrder.{prefixes_total, exact_prefixes, itself}
use Rattle.link_change.specs.Rows.{Rows, with_rows}
use Rattle.link_region.proofs.RegionLemmas.{by_bool}
use Rattle.pass_core.specs.Left.{CountsBeyond}
use Rattle.loss_chain.specs.Tables.{tables_beyond}
use Rattle.loss_chain.specs.Laws.{Lists}
use Rattle.loss_chain.proofs.BeyondLemmas.{listed_within, listed_most, listed_further, listed_fewer, listed_counts, like, joined, table_listed, tables_listed, swept_beyond, welded_beyond}
use Rattle.rib_route.specs.declared.Proto.{Proto}
use Rattle.rib_route.specs.declared.Proto.TheVariants.{Connected, Static, Ospf, Rip}
use Rattle.rib_route.specs.Rows.{Interior}
use Rattle.rib_merge.specs.Merging.{row_of_both, merged}
use Rattle.rib_tree.specs.Branches.{Branch, org_rows}
use Rattle.rib_tree.specs.Trees.{Treed, branch_of, put_branch, low_rows, dyn_rows, int_candidates, tree_count, interior_distance}
use Rattle.rib_tree.specs.BranchSteps.{swept_branch, welded_branch}
use Rattle.rib_tree.specs.Steps.{swept_tree, welded_tree}
use Rattle.rib_exit.specs.RibExits.{RibExit}
use Rattle.rib_exit.specs.Exits.{ext_candidates}
use Rattle.router_moments.specs.Phases.{tree_beyond, external_beyond}

-- ---- the tree
-- a merged row is one of both
either : (a b : Option Interior) → is_some (row_of_both interior_distance a b) ≡ true → (is_some a || is_some b) ≡ true
either None b is = is
either (Some x) b is = refl

merged_listed : {ps qs : List AddressPrefix} {m n : ℕ} {a b : Option AddressPrefix → ℕ} (left right : Rows Interior) → Lists ps m a (with_rows left) → Lists qs n b (with_rows right)
    → Lists (ps ++ qs) (m + n) (λ place. a place + b place) (with_rows (merged interior_distance left right))
merged_listed left right x y = like (joined x y) refl (λ place. refl) (λ q. either (left q) (right q))

pub tree_listed : (t : Treed) → (prefixes : List AddressPrefix) × Lists prefixes (tree_count t) (tree_beyond t) (int_candidates t)
tree_listed t =
    let c = tables_listed t.connected.tables in
    let s = tables_listed t.statics.tables in
    let o = tables_listed t.ospf.tables in
    let r = tables_listed t.rip.tables in
    ((c.0 ++ s.0) ++ (o.0 ++ r.0), like (merged_listed (low_rows t) (dyn_rows t) (merged_listed (org_rows t.connected) (org_rows t.statics) c.1 s.1) (merged_listed (org_rows t.ospf) (org_rows t.rip) o.1 r.1)) (omega arith) (λ place. omega arith) (λ q is. is))

abbrev pub tree_keys : Treed → List AddressPrefix
tree_keys t = (tree_listed t).0

pub tree_length : (t : Treed) → length (tree_keys t) ≡ tree_count t
tree_length t = (tree_listed t).1.all

pub has_tree_key : (t : Treed) (p : AddressPrefix) → int_candidates t p ≡ true → Contains (tree_keys t) p
has_tree_key t p is = (tree_listed t).1.stands p is

pub tree_most : (t : Treed) (place : Option AddressPrefix) → tree_beyond t place ≤ tree_beyond t None
tree_most t place = listed_most (tree_listed t).1 place

pub tree_within : (t : Treed) (place : Option AddressPrefix) → tree_beyond t place ≤ tree_count t
tree_within t place = listed_within (tree_listed t).1 place

pub tree_further : (t : Treed) (place : Option AddressPrefix) (p : AddressPrefix) → IsBeyond place p → tree_beyond t (Some p) ≤ tree_beyond t place
tree_further t place p h = listed_further (tree_listed t).1 place p h

pub tree_fewer : (t : Treed) (place : Option AddressPrefix) (p : AddressPrefix) → IsBeyond place p → int_candidates t p ≡ true → tree_beyond t (Some p) < tree_beyond t place
tree_fewer t place p h is = listed_fewer (tree_listed t).1 place p h is

-- the candidates of `int` are counted
pub tree_counted : (t : Treed) → CountsBeyond (int_candidates t) (tree_beyond t)
tree_counted t = listed_counts (tree_listed t).1

-- a turn of a stage leaves no more
put_beyond : (place : Option AddressPrefix) (proto : Proto) (b : Branch) (t : Treed) → tables_beyond place b.tables ≤ tables_beyond place (branch_of proto t).tables → tree_beyond (put_branch proto b t) place ≤ tree_beyond t place
put_beyond place Connected b t less = omega (arith, less)
put_beyond place Static b t less = omega (arith, less)
put_beyond place Ospf b t less = omega (arith, less)
put_beyond place Rip b t less = omega (arith, less)

pub sweep_beyond : (place : Option AddressPrefix) (proto : Proto) (n : ℕ) (p : AddressPrefix) (t : Treed) → tree_beyond (welded_tree proto (swept_tree proto n p t)) place ≤ tree_beyond t place
sweep_beyond place proto n p t =
    let swept = swept_tree proto n p t in
    let first = put_beyond place proto (swept_branch n p (branch_of proto t)) t (swept_beyond place n p (branch_of proto t).tables) in
    let second = put_beyond place proto (welded_branch (branch_of proto swept)) swept (welded_beyond place (branch_of proto swept).tables) in
    omega (arith, first, second)

-- ---- two tables that share no prefix have no more rows together than a list that has all their prefixes
none_of : {A : Type 0} (o : Option A) → (is_some o ≡ true → ⊥) → o ≡ None
none_of None never = refl
none_of (Some x) never = absurd (never refl)

later : (x q : AddressPrefix) (rest : List AddressPrefix) → Contains (x ∷ rest) q → (x ≡ q → ⊥) → Contains rest q
later x q rest (zero, lt, is) ne = absurd (ne is)
later x q rest (suc i, lt, is) ne = (i, omega (arith, lt), is)

both_less : (x y : Bool) (n k n' k' most : ℕ) → (x ≡ true → y ≡ true → ⊥) → n' ≡ cond x (n - 1) n → k' ≡ cond y (k - 1) k → n' + k' ≤ most → n + k ≤ suc most
both_less true true n k n' k' most apart a b le = absurd (apart refl refl)
both_less true false n k n' k' most apart a b le = omega (arith, a, b, le)
both_less false true n k n' k' most apart a b le = omega (arith, a, b, le)
both_less false false n k n' k' most apart a b le = omega (arith, a, b, le)

module _ {V : Type 0} where
  abbrev AreIn : List AddressPrefix → FinMap prefix_cmp V → Type 0
  AreIn ps t = (q : AddressPrefix) → contains_key t q ≡ true → Contains ps q

  no_key : (t : FinMap prefix_cmp V) → AreIn [] t → tables.len t ≡ 0
  no_key t each = ap (λ (m : FinMap prefix_cmp V). tables.len m) (same_map prefixes_total exact_prefixes t tables.empty (λ q. none_of (get t q) (λ has. let w = each q has in omega (arith, w.1)) ∙ sym (get-empty prefix_cmp q))) ∙ len-empty prefix_cmp V

  still : (t : FinMap prefix_cmp V) (p q : AddressPrefix) → contains_key (remove t p) q ≡ true → (contains_key t q ≡ true) × (p ≡ q → ⊥)
  still t p q has = by_bool (eq_by_cmp prefix_cmp q p) (λ b. eq_by_cmp prefix_cmp q p ≡ b → is_some (cond b None (get t q)) ≡ true → (contains_key t q ≡ true) × (p ≡ q → ⊥))
      (λ _ _ clash. absurd (cc))
      (λ _ apart there. (there, λ same. let met : eq_by_cmp prefix_cmp q p ≡ true = ap (eq_by_cmp prefix_cmp q) same ∙ itself q in absurd (cc)))
      refl (ap is_some (sym (get-remove prefixes_total t p q)) ∙ has)

  rest_in : (p : AddressPrefix) (ps : List AddressPrefix) (t : FinMap prefix_cmp V) → AreIn (p ∷ ps) t → AreIn ps (remove t p)
  rest_in p ps t each q has = let w = still t p q has in later p q ps (each q w.0) w.1

  pub few_both : (ps : List AddressPrefix) (a b : FinMap prefix_cmp V) → ((q : AddressPrefix) → contains_key a q ≡ true → contains_key b q ≡ true → ⊥) → AreIn ps a → AreIn ps b → tables.len a + tables.len b ≤ length ps
  few_both [] a b apart ina inb = let x = no_key a ina in let y = no_key b inb in omega (arith, x, y)
  few_both (p ∷ ps) a b apart ina inb =
      both_less (contains_key a p) (contains_key b p) (tables.len a) (tables.len b) (tables.len (remove a p)) (tables.len (remove b p)) (length ps) (apart p) (len-remove prefixes_total a p) (len-remove prefixes_total b p)
      (few_both ps (remove a p) (remove b p) (λ q x y. apart q (still a p q x).0 (still b p q y).0) (rest_in p ps a ina) (rest_in p ps b inb))

-- ---- the candidates of `ext` are counted
pub external_counted : (x : RibExit) → CountsBeyond (ext_candidates x) (external_beyond x)
external_counted x = listed_counts (joined (table_listed x.splitter.ebgp) (table_listed x.splitter.ibgp))
