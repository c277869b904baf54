-- Where no stage of a loss has work, links have the live rows.
use Rattle.std.proofs.Common.{◌≡◌, ℕ, ◌==◌, Bool, true, false, cond, List, [], ◌∷◌, ◌++◌, map, Option, Some, None, is_some, refl, arith}
use Rattle.std.proofs.lemmas.Bool.Decides.{nat_tests}
use Rattle.std.specs.List.{AllByRecursion}
use Rattle.std.specs.Option.{option_or}
use Rattle.std.specs.FinMap as tables
use Rattle.std.specs.FinMap.{FinMap}
use Rattle.addr4.specs.Prefixes.{prefix_cmp}
use Rattle.link_change.specs.Rows.{is_empty_map}
use Rattle.journal_text.specs.declared.link.Task.{Task}
use Rattle.journal_text.specs.declared.link.Task.TheVariants as tasks
use Rattle.loss_chain.specs.Lost.{Lost}
use Rattle.loss_chain.specs.declared.owner.Owner.TheVariants.{Origin}
use Rattle.loss_chain.specs.Steps.{table_of, oldest_of, first_task}
use Rattle.loss_chain.specs.Tables.{rows_below, rows_above, NoneEmpty, lost_count}
use Rattle.loss_chain.proofs.ListLemmas.{all_both}
use Rattle.rib_route.specs.declared.Proto.{Proto}
use Rattle.rib_route.specs.declared.Proto.TheVariants.{Connected, Static, Ospf, Rip}
use Rattle.rib_route.specs.Rows.{Interior}
use Rattle.rib_tree.specs.BranchSteps.{branch_tasks}
use Rattle.rib_tree.specs.Trees.{Treed, branch_of, tree_tasks}

-- of all tasks of the tree, branch by branch
pub all_tree : (P : Task → Type 0) (t : Treed) → ((proto : Proto) → AllByRecursion P (branch_tasks (branch_of proto t))) → AllByRecursion P (tree_tasks t)
all_tree P t each =
    all_both P (branch_tasks t.connected) _ (each Connected) (all_both P (branch_tasks t.statics) _ (each Static) (all_both P (branch_tasks t.ospf) _ (each Ospf) (each Rip)))

-- ---- the first task
first_of_four : (p q r s : Proto) (a b c d : List (Lost Interior))
    → option_or (option_or (option_or (oldest_of (Origin p) a) (oldest_of (Origin q) b)) (oldest_of (Origin r) c)) (oldest_of (Origin s) d)
    ≡ first_task (map (λ l. tasks.Rdel p l.number) a ++ (map (λ l. tasks.Rdel q l.number) b ++ (map (λ l. tasks.Rdel r l.number) c ++ map (λ l. tasks.Rdel s l.number) d)))
first_of_four p q r s (l ∷ a) b c d = refl
first_of_four p q r s [] (l ∷ b) c d = refl
first_of_four p q r s [] [] (l ∷ c) d = refl
first_of_four p q r s [] [] [] (l ∷ d) = refl
first_of_four p q r s [] [] [] [] = refl

-- the first task of the tree is that of the first branch that has one
pub first_of_branches : (t : Treed) (a b c d ab abc all : Option Task) → a ≡ oldest_of (Origin t.connected.proto) t.connected.tables.deletions → b ≡ oldest_of (Origin t.statics.proto) t.statics.tables.deletions
    → c ≡ oldest_of (Origin t.ospf.proto) t.ospf.tables.deletions → d ≡ oldest_of (Origin t.rip.proto) t.rip.tables.deletions → ab ≡ option_or a b → abc ≡ option_or ab c → all ≡ option_or abc d → all ≡ first_task (tree_tasks t)
first_of_branches t a b c d ab abc all at bt ct dt two three four =
    let first = first_of_four t.connected.proto t.statics.proto t.ospf.proto t.rip.proto t.connected.tables.deletions t.statics.tables.deletions t.ospf.tables.deletions t.rip.tables.deletions in
    cc

-- nor where none has a row
pub no_rows_left : {R : Type 0} (ds : List (Lost R)) → NoneEmpty ds → lost_count ds ≡ 0 → ds ≡ []
no_rows_left [] full none = refl
no_rows_left (d ∷ ds) full none =
    let some : is_empty_map d.rows ≡ false = full.0 in
    let zero_len : tables.len d.rows ≡ 0 = omega arith in
    absurd (let contra : is_empty_map d.rows ≡ true = grind (arith, nat_tests) in cc)

-- where that of a loss has none, no link leads into it
pub no_link : {R : Type 0} (live : FinMap prefix_cmp R) (n : ℕ) (ds : List (Lost R)) → is_some (table_of n ds) ≡ false → rows_above live n ds ≡ None
no_link live n [] none = refl
no_link live n (d ∷ ds) none = by_test (d.number == n) none (λ e. no_link live n ds e)
  where
    by_test : (t : Bool) → is_some (cond t (Some d.rows) (table_of n ds)) ≡ false → (is_some (table_of n ds) ≡ false → rows_above live n ds ≡ None)
        → cond t (Some (rows_below live ds)) (rows_above live n ds) ≡ None
    by_test true some later = absurd (let clash : true ≡ false = some in cc)
    by_test false e later = later e

-- ---- the links of these protocols
module _ (t : Treed) where
  -- no stage of a protocol has work, and of none of these protocols
  abbrev pub Rests : Proto → Type 0
  Rests proto = (n : ℕ) → is_some (table_of n (branch_of proto t).tables.deletions) ≡ false
