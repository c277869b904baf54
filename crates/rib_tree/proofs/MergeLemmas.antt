-- What the two merges below a protocol's link make of a change on it.
use Rattle.std.proofs.Common.{◌≡◌, true, false, is_some, [], ◌∷◌, ◌++◌, Option, Some, None, refl, sym, ap, subst, ◌∙◌}
use Rattle.addr4.specs.Prefixes.{AddressPrefix}
use Rattle.rib_route.specs.declared.Proto.{Proto}
use Rattle.rib_route.specs.declared.Proto.TheVariants.{Connected, Static, Ospf, Rip}
use Rattle.rib_route.specs.Rows.{Interior}
use Rattle.rib_merge.specs.declared.merge.Side.{Side}
use Rattle.rib_merge.specs.Merging.{merged_on, MergesOn}
use Rattle.rib_merge.proofs.MergeLemmas.{alone, merges_on}
use Rattle.link_change.specs.Rows.{Rows}
use Rattle.link_change.specs.Changes.{IsSent}
use Rattle.link_change.specs.Changes.{Change}
use Rattle.journal_text.specs.Values.{interior_value}
use Rattle.journal_text.specs.declared.link.Link.TheVariants.{Int}
use Rattle.journal_text.specs.Journals.{Journaled, with_entries}
use Rattle.journal_text.proofs.JournalLemmas.{with_entries_none}
use Rattle.rib_tree.specs.Branches.{Branch, org_rows}
use Rattle.rib_tree.specs.Merges.{sent_entries}
use Rattle.rib_tree.specs.Trees.{Treed, branch_of, put_branch, int_rows, interior_distance}
use Rattle.rib_tree.specs.Falls.{merge_below}
use Rattle.rib_tree.specs.Merges.{partner_of, side_of, side_below, rows_into, rows_beside, DifferAt, MergesInto, MergesBelow, IsPassedDown}
use Rattle.rib_tree.proofs.BranchLemmas.{int_kept}
use Rattle.journal_text.proofs.FallLemmas.{and_then, goes_on, goes_out}

-- ---- the rows below are merged ones

into_is : (proto : Proto) (t : Treed) → merged_on interior_distance (side_of proto) (org_rows (branch_of proto t)) (org_rows (branch_of (partner_of proto) t)) ≡ rows_into proto t
into_is Connected t = refl
into_is Static t = refl
into_is Ospf t = refl
into_is Rip t = refl

int_is : (proto : Proto) (t : Treed) → merged_on interior_distance (side_below proto) (rows_into proto t) (rows_beside proto t) ≡ int_rows t
int_is Connected t = refl
int_is Static t = refl
int_is Ospf t = refl
int_is Rip t = refl

-- what the other links have stays

partner_put : (proto : Proto) (b : Branch) (t : Treed) → branch_of (partner_of proto) (put_branch proto b t) ≡ branch_of (partner_of proto) t
partner_put Connected b t = refl
partner_put Static b t = refl
partner_put Ospf b t = refl
partner_put Rip b t = refl

beside_put : (proto : Proto) (b : Branch) (t : Treed) → rows_beside proto (put_branch proto b t) ≡ rows_beside proto t
beside_put Connected b t = refl
beside_put Static b t = refl
beside_put Ospf b t = refl
beside_put Rip b t = refl

partner_stays : (proto : Proto) (old new : Treed) → DifferAt proto old new → org_rows (branch_of (partner_of proto) new) ≡ org_rows (branch_of (partner_of proto) old)
partner_stays proto old new differ = ap (λ (t : Treed). org_rows (branch_of (partner_of proto) t)) differ ∙ ap org_rows (partner_put proto (branch_of proto new) old)

beside_stays : (proto : Proto) (old new : Treed) → DifferAt proto old new → rows_beside proto new ≡ rows_beside proto old
beside_stays proto old new differ = ap (rows_beside proto) differ ∙ beside_put proto (branch_of proto new) old

-- ---- one merge

between : (a b c d : Rows Interior) (p : AddressPrefix) (sent : Option (Change Interior)) → a ≡ c → b ≡ d → IsSent a b p sent → IsSent c d p sent
between a b c d p sent first second is =
    let P : Rows Interior → Type 0 = λ r. IsSent r b p sent in
    let Q : Rows Interior → Type 0 = λ r. IsSent c r p sent in
    subst Q second (subst P first is)

pub merges_into : (proto : Proto) (new : Treed) (change : Change Interior) (other : Option Interior) (sent : Option (Change Interior)) → other ≡ org_rows (branch_of (partner_of proto) new) change.prefix
    → MergesOn interior_distance (side_of proto) change other sent → MergesInto proto new change sent
merges_into proto new change other sent is law old p differ org =
    let others = org_rows (branch_of (partner_of proto) new) in
    between _ _ (rows_into proto old) (rows_into proto new) p sent
    (ap (merged_on interior_distance (side_of proto) (org_rows (branch_of proto old))) (partner_stays proto old new differ) ∙ into_is proto old)
    (into_is proto new)
    (law (org_rows (branch_of proto old)) (org_rows (branch_of proto new)) others p (sym is) org)

pub merges_below : (proto : Proto) (new : Treed) (change : Change Interior) (other : Option Interior) (sent : Option (Change Interior)) → other ≡ rows_beside proto new change.prefix
    → MergesOn interior_distance (side_below proto) change other sent → MergesBelow proto new change sent
merges_below proto new change other sent is law old p differ into =
    between _ _ (int_rows old) (int_rows new) p sent
    (ap (merged_on interior_distance (side_below proto) (rows_into proto old)) (beside_stays proto old new differ) ∙ int_is proto old)
    (int_is proto new)
    (law (rows_into proto old) (rows_into proto new) (rows_beside proto new) p (sym is) into)

-- where the other side has no row, a lawful change goes on as it came
pub goes_alone : (side : Side) (change : Change Interior) (other : Option Interior) → is_some other ≡ false → MergesOn interior_distance side change other (Some change)
goes_alone side change (Some row) none = absurd (let e : true ≡ false = none in cc)
goes_alone side change None none =
    λ own now others p at sent.
    merges_on interior_distance side change None change.before change.after (Some change) (alone interior_distance side change.before) (alone interior_distance side change.after)
    (refl, refl, refl, sent.1.1) own now others p at sent

-- ---- both

-- the first one sends nothing
pub passes_nothing : (proto : Proto) (new : Treed) (change : Change Interior) (now : Journaled) → MergesInto proto new change None → IsPassedDown proto new change now now None
passes_nothing proto new change now law old p differ org =
    let into = law old p differ org in
    let put : rows_into proto (put_branch proto (branch_of proto new) old) ≡ rows_into proto old = ap (rows_into proto) (sym differ) ∙ into in
    let rows = ap int_rows differ ∙ int_kept proto (branch_of proto new) old put in
    ([], sym (with_entries_none now), record { middle = None; into = into; rows = rows; lines = refl; down = tt })

-- it sends this change, and the second one that
pub passes_on : (proto : Proto) (new : Treed) (change middle : Change Interior) (sent : Option (Change Interior)) (before mid now : Journaled) → MergesInto proto new change (Some middle) → MergesBelow proto new middle sent
    → mid ≡ with_entries before (sent_entries (merge_below proto) (Some middle)) → now ≡ with_entries mid (sent_entries Int sent) → IsPassedDown proto new change before now sent
passes_on proto new change middle sent before mid now law next mid_is now_is old p differ org =
    let into = law old p differ org in
    let rows = next old p differ into in
    let es = sent_entries (merge_below proto) (Some middle) in
    let last = sent_entries Int sent in (
      es ++ last,
      and_then before mid now es last mid_is now_is,
      record {
        middle = Some middle;
        into = into;
        rows = rows;
        lines = refl;
        down = goes_on p (merge_below proto ∷ []) (Int ∷ []) middle es last sent (goes_out interior_value (merge_below proto) (rows_into proto old) (rows_into proto new) p (Some middle) into) (goes_out interior_value Int (int_rows old) (int_rows new) p sent rows);
      },
    )
