-- Which of the tree's tasks hold up a prefix, and where they are listed.
use Rattle.std.proofs.Common.{◌≡◌, ℕ, ◌+◌, ◌-◌, ◌<◌, ◌≤◌, ◌||◌, Bool, true, false, cond, List, [], ◌∷◌, ◌++◌, length, drop, get_or, map, Option, Some, None, option_map, is_some, zero, suc, nat_lt, refl, sym, ap, subst, ◌∙◌, arith, inl}
use Rattle.std.specs.List.{AllByRecursion, Contains, find, list_any}
use Rattle.std.specs.Option.{option_or}
use Rattle.std.specs.FinMap as tables
use Rattle.std.specs.FinMap.{FinMap}
use Rattle.std.proofs.lemmas.Bool.Decides.{nat_tests}
use Rattle.std.proofs.lemmas.List.{at_drop_more}
use Rattle.std.proofs.lemmas.List.Folds.{find-append}
use Rattle.std.proofs.lemmas.List.Elements.{Contains-append_left, Contains-append_right}
use Rattle.addr4.specs.Prefixes.{AddressPrefix, prefix_cmp, block}
use Rattle.addr4.proofs.RankLemmas.{is_before}
use Rattle.addr4.specs.Blocks.{width}
use Rattle.journal_text.specs.declared.link.Task.{Task}
use Rattle.journal_text.specs.declared.link.Task.TheVariants.{Rdel}
use Rattle.link_change.specs.Rows.{IsNextCandidate, with_rows}
use Rattle.loss_chain.specs.Held.{has_row, has_over, has_within}
use Rattle.loss_chain.specs.Lost.{Lost}
use Rattle.loss_chain.specs.Steps.{table_of}
use Rattle.loss_chain.specs.Tables.{AreRising}
use Rattle.loss_chain.proofs.ListLemmas.{all_so}
use Rattle.loss_chain.proofs.TableLemmas.{other_by, table_here}
use Rattle.loss_chain.proofs.HeldLemmas.{live_where_none_is_lost, no_stage_has, no_stage_has_over, stage_is_listed}
use Rattle.rib_route.specs.declared.Proto.{Proto}
use Rattle.rib_route.specs.declared.Proto.TheVariants.{Connected, Static, Ospf, Rip}
use Rattle.rib_route.specs.Rows.{Interior}
use Rattle.rib_tree.specs.BranchSteps.{branch_tasks, table_holds_up}
use Rattle.rib_tree.specs.Steps.{tree_holds_up}
use Rattle.rib_tree.specs.Trees.{Treed, branch_of, IsTree, tree_tasks}
use Rattle.rib_tree.specs.Laws.{NoneHeldUpWithoutWork, WorkIsListed, OrgWhereNoneIsLost}

pub none_held_up_without_work : NoneHeldUpWithoutWork
none_held_up_without_work t (Rdel proto n) p a idle =
    (no_stage_has (table_of n (branch_of proto t).tables.deletions) p idle, no_stage_has_over (table_of n (branch_of proto t).tables.deletions) a idle)
none_held_up_without_work t other p a idle = (refl, refl)

-- a task of a branch is one of the tree
of_branch : (t : Treed) (task : Task) (proto : Proto) → Contains (branch_tasks (branch_of proto t)) task → Contains (tree_tasks t) task
of_branch t task Connected there = Contains-append_left (branch_tasks t.connected) (branch_tasks t.statics ++ (branch_tasks t.ospf ++ branch_tasks t.rip)) task there
of_branch t task Static there =
    Contains-append_right (branch_tasks t.connected) (branch_tasks t.statics ++ (branch_tasks t.ospf ++ branch_tasks t.rip)) task
    (Contains-append_left (branch_tasks t.statics) (branch_tasks t.ospf ++ branch_tasks t.rip) task there)
of_branch t task Ospf there =
    Contains-append_right (branch_tasks t.connected) (branch_tasks t.statics ++ (branch_tasks t.ospf ++ branch_tasks t.rip)) task
    (Contains-append_right (branch_tasks t.statics) (branch_tasks t.ospf ++ branch_tasks t.rip) task (Contains-append_left (branch_tasks t.ospf) (branch_tasks t.rip) task there))
of_branch t task Rip there =
    Contains-append_right (branch_tasks t.connected) (branch_tasks t.statics ++ (branch_tasks t.ospf ++ branch_tasks t.rip)) task
    (Contains-append_right (branch_tasks t.statics) (branch_tasks t.ospf ++ branch_tasks t.rip) task (Contains-append_right (branch_tasks t.ospf) (branch_tasks t.rip) task there))

pub work_is_listed : WorkIsListed
work_is_listed t tree (Rdel proto n) works =
    of_branch t (Rdel proto n) proto
    (subst (λ (q : Proto). Contains (branch_tasks (branch_of proto t)) (Rdel q n)) (tree.placed proto) (stage_is_listed (λ (k : ℕ). Rdel (branch_of proto t).proto k) n (branch_of proto t).tables.deletions works))
work_is_listed t tree other works = absurd (let clash : false ≡ true = works in cc)

pub org_where_none_is_lost : OrgWhereNoneIsLost
org_where_none_is_lost t tree proto q none = live_where_none_is_lost (branch_of proto t).tables.live (branch_of proto t).tables.deletions q (tree.each proto).chain.rising none

-- ---- a table whose least prefix comes behind an address
no_more : (a x : ℕ) → a - x ≤ a
no_more a x = omega arith

-- where no prefix up to an address has a row, none has that holds it
none_within : (t : FinMap prefix_cmp Interior) (a n : ℕ) → ((q : AddressPrefix) → q.address ≤ a → is_some (tables.get t q) ≡ false) → has_within (Some t) a n ≡ false
none_within t a zero none = none (block width a 0) (no_more a _)
none_within t a (suc n) none = ap (λ (b : Bool). b || has_within (Some t) a n) (none (block width a (suc n)) (no_more a _)) ∙ none_within t a n none

-- a table without rows
pub none_at_all : (t : FinMap prefix_cmp Interior) (p : AddressPrefix) (addresses : List ℕ) → IsNextCandidate (with_rows (tables.get t)) None None → table_holds_up (Some t) p addresses ≡ false
none_at_all t p addresses next = ap (λ (b : Bool). b || list_any (has_over (Some t)) addresses) (next p tt) ∙ none_any addresses
  where
    none_any : (xs : List ℕ) → list_any (has_over (Some t)) xs ≡ false
    none_any [] = refl
    none_any (a ∷ xs) = ap (λ (b : Bool). b || list_any (has_over (Some t)) xs) (none_within t a width (λ q _. next q tt)) ∙ none_any xs

-- one whose least prefix begins behind an address
module _ (t : FinMap prefix_cmp Interior) (a : ℕ) (p : AddressPrefix) (before : Bool) (next : IsNextCandidate (with_rows (tables.get t)) None (Some p)) (told : before ≡ nat_lt a p.address) (so : before ≡ true) where
  none_upto : (q : AddressPrefix) → q.address ≤ a → is_some (tables.get t q) ≡ false
  none_upto q upto =
      let less : a < p.address = (let lt : nat_lt a p.address ≡ true = sym told ∙ so in grind (arith, nat_tests)) in
      next.2 q tt (is_before q p (inl (omega (arith, upto, less))))

  pub none_at : (q : AddressPrefix) → q.address ≡ a → false ≡ has_row (Some t) q
  none_at q at = sym (none_upto q (omega (arith, at)))

-- ---- one address after the other
module _ {X : Type 0} (f : X → Bool) (xs : List X) (i : ℕ) (x : X) (below : i < length xs) (is : x ≡ get_or xs i x) (so : list_any f xs ≡ list_any f (drop i xs)) where
  stepped : list_any f xs ≡ (f x || list_any f (drop (i + 1) xs))
  stepped = so ∙ at_drop_more (list_any f) xs i x below ∙ ap (λ (y : X). f y || list_any f (drop (i + 1) xs)) (sym is)

  pub any_passed : f x ≡ false → list_any f xs ≡ list_any f (drop (i + 1) xs)
  any_passed none = stepped ∙ ap (λ (b : Bool). b || list_any f (drop (i + 1) xs)) none

  pub any_found : f x ≡ true → true ≡ list_any f xs
  any_found some = sym (stepped ∙ ap (λ (b : Bool). b || list_any f (drop (i + 1) xs)) some)

-- ---- the first stage
-- each loss has a table of its own
own_tables : (ds : List (Lost Interior)) → AreRising ds → AllByRecursion (λ d. table_of d.number ds ≡ Some d.rows) ds
own_tables [] rising = tt
own_tables (d ∷ ds) rising = (table_here d.number d ds refl, later ds rising.0 (own_tables ds rising.1))
  where
    later : (xs : List (Lost Interior)) → AllByRecursion (λ x. d.number < x.number) xs → AllByRecursion (λ x. table_of x.number ds ≡ Some x.rows) xs → AllByRecursion (λ x. table_of x.number (d ∷ ds) ≡ Some x.rows) xs
    later [] less all = tt
    later (x ∷ xs) less all =
        (ap (λ (b : Bool). cond b (Some d.rows) (table_of x.number ds)) (other_by d.number x.number (λ same. let lt : d.number < x.number = less.0 in omega arith)) ∙ all.0, later xs less.1 all.1)

-- the first one of which something is told gives the first task of which it is
found_made : {A : Type 0} (task : A → Task) (f : A → Bool) (g : Task → Bool) (xs : List A) → AllByRecursion (λ a. g (task a) ≡ f a) xs → option_map task (find f xs) ≡ find g (map task xs)
found_made task f g [] same = refl
found_made task f g (x ∷ xs) same = by_test (f x) (found_made task f g xs same.1) ∙ ap (λ (b : Bool). cond b (Some (task x)) (find g (map task xs))) (sym same.0)
  where
    by_test : (b : Bool) → option_map task (find f xs) ≡ find g (map task xs) → option_map task (cond b (Some x) (find f xs)) ≡ cond b (Some (task x)) (find g (map task xs))
    by_test true rest = refl
    by_test false rest = rest

module _ (t : Treed) (tree : IsTree t) (p : AddressPrefix) (addresses : List ℕ) where
  -- the first task of a protocol
  abbrev pub loss_in : Proto → Option Task
  loss_in proto = option_map (λ d. Rdel (branch_of proto t).proto d.number) (find (λ d. table_holds_up (Some d.rows) p addresses) (branch_of proto t).tables.deletions)

  abbrev held : List Task → Option Task
  held = find (tree_holds_up t p addresses)

  of_one : (proto : Proto) → loss_in proto ≡ find (tree_holds_up t p addresses) (branch_tasks (branch_of proto t))
  of_one proto =
      found_made (λ (d : Lost Interior). Rdel (branch_of proto t).proto d.number) (λ d. table_holds_up (Some d.rows) p addresses) (tree_holds_up t p addresses) (branch_of proto t).tables.deletions
      (all_so (λ (d : Lost Interior). table_of d.number (branch_of proto t).tables.deletions ≡ Some d.rows) (λ (d : Lost Interior). tree_holds_up t p addresses (Rdel (branch_of proto t).proto d.number) ≡ table_holds_up (Some d.rows) p addresses)
      (λ d is. ap (λ (q : Proto). tree_holds_up t p addresses (Rdel q d.number)) (tree.placed proto) ∙ ap (λ (o : Option (FinMap prefix_cmp Interior)). table_holds_up o p addresses) is)
      (branch_of proto t).tables.deletions (own_tables (branch_of proto t).tables.deletions (tree.each proto).chain.rising))

  pub first_of_tree : (a b c d cd bcd all : Option Task) → a ≡ loss_in Connected → b ≡ loss_in Static → c ≡ loss_in Ospf → d ≡ loss_in Rip → cd ≡ option_or c d → bcd ≡ option_or b cd → all ≡ option_or a bcd
      → all ≡ find (tree_holds_up t p addresses) (tree_tasks t)
  first_of_tree a b c d cd bcd all at bt ct dt two three four =
      four ∙ ap (λ (o : Option Task). option_or o bcd) (at ∙ of_one Connected)
      ∙ ap (option_or (held (branch_tasks t.connected))) (three ∙ ap (λ (o : Option Task). option_or o cd) (bt ∙ of_one Static)
      ∙ ap (option_or (held (branch_tasks t.statics))) (two ∙ ap (λ (o : Option Task). option_or o d) (ct ∙ of_one Ospf) ∙ ap (option_or (held (branch_tasks t.ospf))) (dt ∙ of_one Rip)
      ∙ sym (find-append (tree_holds_up t p addresses) (branch_tasks t.ospf) (branch_tasks t.rip)))
      ∙ sym (find-append (tree_holds_up t p addresses) (branch_tasks t.statics) (branch_tasks t.ospf ++ branch_tasks t.rip)))
      ∙ sym (find-append (tree_holds_up t p addresses) (branch_tasks t.connected) (branch_tasks t.statics ++ (branch_tasks t.ospf ++ branch_tasks t.rip)))
