-- The links of a tree beside those of others, when the links of one branch change, and then those below it.
use Rattle.std.proofs.Common.{◌≡◌, ℕ, List, ◌++◌, Option, Some, None, refl, sym, ap, subst, ◌∙◌}
use Rattle.std.specs.Option.{option_map}
use Rattle.addr4.specs.Prefixes.{AddressPrefix}
use Rattle.rib_route.specs.declared.Proto.{Proto}
use Rattle.rib_route.specs.declared.Proto.TheVariants.{Connected, Static, Ospf, Rip}
use Rattle.rib_route.specs.Rows.{Interior}
use Rattle.link_change.specs.Rows.{Rows}
use Rattle.link_change.specs.Changes.{IsSent}
use Rattle.link_change.specs.Changes.{Change}
use Rattle.link_change.proofs.RowLemmas.{same_function}
use Rattle.journal_text.specs.declared.link.Link.TheVariants.{Org, Lost, Low, Dyn, Int}
use Rattle.journal_text.specs.Lines.{Value}
use Rattle.journal_text.specs.Lines.{Entry}
use Rattle.journal_text.specs.Values.{interior_rows, interior_value}
use Rattle.journal_text.specs.Walk.{Links, with_link, Leads}
use Rattle.journal_text.proofs.WalkLemmas.{with_link_same, leads_append, leads_sent}
use Rattle.loss_chain.specs.declared.owner.Owner.TheVariants.{Origin}
use Rattle.loss_chain.specs.Tables.{rows_above, beside_chain}
use Rattle.loss_chain.specs.Falls.{LeadsTables}
use Rattle.rib_tree.specs.Branches.{Branch, org_rows, LeadsBranch}
use Rattle.rib_tree.specs.Trees.{Treed, branch_of, put_branch, low_rows, dyn_rows, int_rows, beside_tree}
use Rattle.rib_tree.specs.Falls.{merge_below, LeadsTree}
use Rattle.rib_tree.specs.Merges.{rows_into, sent_entries}
use Rattle.rib_tree.proofs.BranchLemmas.{put_same, chosen, into_kept, int_kept}

-- the rows of an `org.PROTO`, and those into the stage of a loss
abbrev org_link : Branch → Option (Rows Value)
org_link b = Some (interior_rows (org_rows b))

abbrev lost_link : ℕ → Branch → Option (Rows Value)
lost_link n b = option_map interior_rows (rows_above b.tables.live n b.tables.deletions)

-- a tree's links, with those of this branch in the place of the protocol's
abbrev rebranched : Links Value → Proto → Treed → Branch → Links Value
rebranched others proto t b = beside_chain interior_value (Origin proto) (beside_tree others t) b.tables

-- those of its own branch change nothing
own_branch : (others : Links Value) (proto : Proto) (t : Treed) → rebranched others proto t (branch_of proto t) ≡ beside_tree others t
own_branch others proto t =
    let b = branch_of proto t in
    same_function _ _ (λ link. elim link as (λ l. rebranched others proto t b l ≡ beside_tree others t l) [
      | Org other ↦ chosen org_link None proto other b t ∙ ap (λ (x : Treed). org_link (branch_of other x)) (put_same proto t)
      | Lost other n ↦ chosen (lost_link n) None proto other b t ∙ ap (λ (x : Treed). lost_link n (branch_of other x)) (put_same proto t)
      | _ ↦ refl
    ])

-- with the rows of the merged links too they are those of the tree with this branch
all_set : (others : Links Value) (proto : Proto) (b : Branch) (t : Treed)
    → with_link (with_link (with_link (rebranched others proto t b) Low (Some (interior_rows (low_rows (put_branch proto b t))))) Dyn (Some (interior_rows (dyn_rows (put_branch proto b t))))) Int (Some (interior_rows (int_rows (put_branch proto b t))))
    ≡ beside_tree others (put_branch proto b t)
all_set others proto b t =
    let new = put_branch proto b t in
    same_function _ _ (λ link. elim link as (λ l. with_link (with_link (with_link (rebranched others proto t b) Low (Some (interior_rows (low_rows new)))) Dyn (Some (interior_rows (dyn_rows new)))) Int (Some (interior_rows (int_rows new))) l ≡ beside_tree others new l) [
      | Org other ↦ chosen org_link None proto other b t
      | Lost other n ↦ chosen (lost_link n) None proto other b t
      | _ ↦ refl
    ])

-- of the merged links the one below the protocol's alone need be set
links_set : (others : Links Value) (proto : Proto) (b : Branch) (t : Treed)
    → with_link (with_link (rebranched others proto t b) (merge_below proto) (Some (interior_rows (rows_into proto (put_branch proto b t))))) Int (Some (interior_rows (int_rows (put_branch proto b t))))
    ≡ beside_tree others (put_branch proto b t)
links_set others Connected b t =
    let low = with_link (rebranched others Connected t b) Low (Some (interior_rows (low_rows (put_branch Connected b t)))) in
    ap (λ (l : Links Value). with_link l Int (Some (interior_rows (int_rows (put_branch Connected b t))))) (sym (with_link_same low Dyn (Some (interior_rows (dyn_rows t))) refl)) ∙ all_set others Connected b t
links_set others Static b t =
    let low = with_link (rebranched others Static t b) Low (Some (interior_rows (low_rows (put_branch Static b t)))) in
    ap (λ (l : Links Value). with_link l Int (Some (interior_rows (int_rows (put_branch Static b t))))) (sym (with_link_same low Dyn (Some (interior_rows (dyn_rows t))) refl)) ∙ all_set others Static b t
links_set others Ospf b t =
    ap (λ (l : Links Value). with_link (with_link l Dyn (Some (interior_rows (dyn_rows (put_branch Ospf b t))))) Int (Some (interior_rows (int_rows (put_branch Ospf b t)))))
    (sym (with_link_same (rebranched others Ospf t b) Low (Some (interior_rows (low_rows t))) refl)) ∙ all_set others Ospf b t
links_set others Rip b t =
    ap (λ (l : Links Value). with_link (with_link l Dyn (Some (interior_rows (dyn_rows (put_branch Rip b t))))) Int (Some (interior_rows (int_rows (put_branch Rip b t)))))
    (sym (with_link_same (rebranched others Rip t b) Low (Some (interior_rows (low_rows t))) refl)) ∙ all_set others Rip b t

-- ---- what leads on

middle_is : (others : Links Value) (proto : Proto) (b : Branch) (t : Treed) → rebranched others proto t b (merge_below proto) ≡ Some (interior_rows (rows_into proto t))
middle_is others Connected b t = refl
middle_is others Static b t = refl
middle_is others Ospf b t = refl
middle_is others Rip b t = refl

last_is : (others : Links Value) (proto : Proto) (b : Branch) (t : Treed) (x : Option (Rows Value)) → with_link (rebranched others proto t b) (merge_below proto) x Int ≡ Some (interior_rows (int_rows t))
last_is others Connected b t x = refl
last_is others Static b t x = refl
last_is others Ospf b t x = refl
last_is others Rip b t x = refl

-- what both merges send
merges_lead : (others : Links Value) (proto : Proto) (b : Branch) (t : Treed) (p : AddressPrefix) (middle sent : Option (Change Interior))
    → IsSent (rows_into proto t) (rows_into proto (put_branch proto b t)) p middle → IsSent (int_rows t) (int_rows (put_branch proto b t)) p sent
    → Leads (rebranched others proto t b) (sent_entries (merge_below proto) middle ++ sent_entries Int sent) (beside_tree others (put_branch proto b t))
merges_lead others proto b t p middle sent into is =
    let new = put_branch proto b t in
    let first = rebranched others proto t b in
    let second = with_link first (merge_below proto) (Some (interior_rows (rows_into proto new))) in
    let third = with_link second Int (Some (interior_rows (int_rows new))) in
    let a = leads_sent interior_value (λ a b e. cc) first (merge_below proto) (rows_into proto t) (rows_into proto new) p middle (middle_is others proto b t) into in
    let z = leads_sent interior_value (λ a b e. cc) second Int (int_rows t) (int_rows new) p sent (last_is others proto b t (Some (interior_rows (rows_into proto new)))) is in
    let P : Links Value → Type 0 = λ l. Leads first (sent_entries (merge_below proto) middle ++ sent_entries Int sent) l in
    subst P (links_set others proto b t) (leads_append first second third (sent_entries (merge_below proto) middle) (sent_entries Int sent) a z)

-- the branch names its links by its own protocol
as_placed : (proto : Proto) (b : Branch) (t : Treed) (entries : List (Entry Value)) → (branch_of proto t).proto ≡ proto → LeadsBranch (branch_of proto t) entries b → LeadsTables interior_value (Origin proto) (branch_of proto t).tables entries b.tables
as_placed proto b t entries placed leads = subst (λ (k : Proto). LeadsTables interior_value (Origin k) (branch_of proto t).tables entries b.tables) placed leads

-- entries of the branch, and then what both merges send
pub leads_all : (proto : Proto) (b : Branch) (t : Treed) (p : AddressPrefix) (middle sent : Option (Change Interior)) (entries : List (Entry Value)) → (branch_of proto t).proto ≡ proto
    → LeadsBranch (branch_of proto t) entries b → IsSent (rows_into proto t) (rows_into proto (put_branch proto b t)) p middle → IsSent (int_rows t) (int_rows (put_branch proto b t)) p sent
    → LeadsTree t (entries ++ (sent_entries (merge_below proto) middle ++ sent_entries Int sent)) (put_branch proto b t)
leads_all proto b t p middle sent entries placed leads into is others =
    let P : Links Value → Type 0 = λ l. Leads l entries (rebranched others proto t b) in
    leads_append (beside_tree others t) (rebranched others proto t b) (beside_tree others (put_branch proto b t)) entries (sent_entries (merge_below proto) middle ++ sent_entries Int sent)
    (subst P (own_branch others proto t) (as_placed proto b t entries placed leads (beside_tree others t))) (merges_lead others proto b t p middle sent into is)

-- where the rows of the protocol's link stay the same, nothing need be set
none_set : (others : Links Value) (proto : Proto) (b : Branch) (t : Treed) → org_rows b ≡ org_rows (branch_of proto t) → rebranched others proto t b ≡ beside_tree others (put_branch proto b t)
none_set others proto b t rows =
    let into = into_kept proto b t rows in
    let whole = int_kept proto b t into in
    let x = Some (interior_rows (rows_into proto (put_branch proto b t))) in
    let y = Some (interior_rows (int_rows (put_branch proto b t))) in
    let first = rebranched others proto t b in
    let second = with_link first (merge_below proto) x in
    sym (with_link_same first (merge_below proto) x (middle_is others proto b t ∙ ap (λ (r : Rows Interior). Some (interior_rows r)) (sym into)))
    ∙ sym (with_link_same second Int y (last_is others proto b t x ∙ ap (λ (r : Rows Interior). Some (interior_rows r)) (sym whole)))
    ∙ links_set others proto b t

-- entries of the branch alone, where the rows of its link stay the same
pub leads_kept : (proto : Proto) (b : Branch) (t : Treed) (entries : List (Entry Value)) → (branch_of proto t).proto ≡ proto
    → LeadsBranch (branch_of proto t) entries b → org_rows b ≡ org_rows (branch_of proto t) → LeadsTree t entries (put_branch proto b t)
leads_kept proto b t entries placed leads rows others =
    let P : Links Value → Type 0 = λ l. Leads l entries (rebranched others proto t b) in
    let Q : Links Value → Type 0 = λ l. Leads (beside_tree others t) entries l in
    subst Q (none_set others proto b t rows) (subst P (own_branch others proto t) (as_placed proto b t entries placed leads (beside_tree others t)))
