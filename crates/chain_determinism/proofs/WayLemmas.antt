-- The links of ways are different: those of losses by their numbers, the others by their kinds.
use Rattle.std.proofs.Common.{◌≡◌, ℕ, ◌≤◌, ◌==◌, nat_lt, Bool, true, false, if◌then◌else◌, List, [], ◌∷◌, ◌++◌, refl, sym, ap, subst, ◌∙◌, arith, append_assoc}
use Rattle.std.specs.List.{AllByRecursion, IsDistinct}
use Rattle.std.proofs.lemmas.Bool.Decides.{nat_tests}
use Rattle.std.proofs.lemmas.Map.Keys.{IsDistinct-head, IsDistinct-tail, IsDistinct-cons}
use Rattle.rib_route.specs.declared.Proto.{Proto}
use Rattle.rib_route.specs.declared.Proto.TheVariants.{Connected, Static, Ospf, Rip}
use Rattle.journal_text.specs.Links.{same_link, rank_of}
use Rattle.journal_text.specs.declared.link.Link.{Link}
use Rattle.journal_text.specs.declared.link.Link.TheVariants.{Filt, Int}
use Rattle.journal_text.proofs.LinkLemmas.{same_link-no}
use Rattle.loss_chain.specs.Lost.{Lost}
use Rattle.loss_chain.specs.declared.owner.Owner.{Owner}
use Rattle.loss_chain.specs.declared.owner.Owner.TheVariants.{Peer, Origin}
use Rattle.loss_chain.specs.Owners.{lowest_link, lost_link, is_owned}
use Rattle.loss_chain.specs.Falls.{way_down, way_from}
use Rattle.loss_chain.specs.Parts.{IsRisingFrom}
use Rattle.loss_chain.specs.Tables.{Tables, IsLossChain}
use Rattle.loss_chain.proofs.ListLemmas.{all_both, all_so}
use Rattle.loss_chain.proofs.OwnerLemmas.{owns_lowest, owns_lost, rising_at}
use Rattle.loss_chain.proofs.PartLemmas.{below_lost}
use Rattle.loss_chain.proofs.WholeLemmas.{sound_of_chain}
use Rattle.rib_tree.specs.Trees.{branch_of}
use Rattle.rib_tree.specs.Falls.{merge_below}
use Rattle.chain_determinism.specs.Fronts.{AreDifferent}
use Rattle.chain_determinism.specs.Laws.{FeedsPassOnce, SweepsPassOnce, RoutesPassOnce, LossesPassOnce}

-- no link at all
no_link : AreDifferent []
unfolding IsDistinct
no_link = tt

-- one link alone
one_link : (link : Link) → AreDifferent (link ∷ [])
one_link link = IsDistinct-cons same_link link [] tt no_link

-- links of which this is true, and behind them such of which it is not
told_apart : (test : Link → Bool) (xs ys : List Link) → AllByRecursion (λ x. test x ≡ true) xs → AllByRecursion (λ y. test y ≡ false) ys → AreDifferent xs → AreDifferent ys → AreDifferent (xs ++ ys)
told_apart test [] ys all none first second = second
told_apart test (x ∷ xs) ys all none first second = IsDistinct-cons same_link x (xs ++ ys)
    (all_both (λ y. same_link x y ≡ false) xs ys (IsDistinct-head same_link x xs first) (all_so (λ y. test y ≡ false) (λ y. same_link x y ≡ false) other ys none))
    (told_apart test xs ys all.1 none (IsDistinct-tail same_link x xs first) second)
  where
    other : (y : Link) → test y ≡ false → same_link x y ≡ false
    other y is = same_link-no x y (λ same. let clash : true ≡ false = sym all.0 ∙ ap test same ∙ is in cc)

-- the last links of a way
last_links : (xs ys : List Link) → AreDifferent (xs ++ ys) → AreDifferent ys
last_links [] ys different = different
last_links (x ∷ xs) ys different = last_links xs ys (IsDistinct-tail same_link x (xs ++ ys) different)

module _ {R : Type 0} (o : Owner) where
  -- a way down is one of the owner's links,
  all_owned : (out : Link) (ds : List (Lost R)) → is_owned o out ≡ true → AllByRecursion (λ link. is_owned o link ≡ true) (way_down o out ds)
  all_owned out [] own = (own, tt)
  all_owned out (d ∷ ds) own = all_both (λ link. is_owned o link ≡ true) (way_down o (lost_link o d.number) ds) (out ∷ []) (all_owned (lost_link o d.number) ds (owns_lost o d.number)) (own, tt)

  -- none of them below its last one,
  none_below : (out : Link) (ds : List (Lost R)) → IsRisingFrom (rank_of out) ds → AllByRecursion (λ link. rank_of out ≤ rank_of link) (way_down o out ds)
  none_below out [] rising = (omega arith, tt)
  none_below out (d ∷ ds) rising =
      let link = lost_link o d.number in
      let higher = below_lost o out d.number rising.0 in
      all_both (λ link. rank_of out ≤ rank_of link) (way_down o link ds) (out ∷ [])
      (all_so (λ l. rank_of link ≤ rank_of l) (λ l. rank_of out ≤ rank_of l) (λ l above. omega (arith, above, higher)) (way_down o link ds) (none_below link ds (rising_at o d.number ds rising.1)))
      (omega arith, tt)

  -- and no two of them the same
  down_different : (out : Link) (ds : List (Lost R)) → IsRisingFrom (rank_of out) ds → AreDifferent (way_down o out ds)
  down_different out [] rising = one_link out
  down_different out (d ∷ ds) rising =
      let link = lost_link o d.number in
      let higher = below_lost o out d.number rising.0 in
      told_apart (λ l. nat_lt (rank_of out) (rank_of l)) (way_down o link ds) (out ∷ [])
      (all_so (λ l. rank_of link ≤ rank_of l) (λ l. nat_lt (rank_of out) (rank_of l) ≡ true) (λ l above. grind (arith, nat_tests)) (way_down o link ds) (none_below link ds (rising_at o d.number ds rising.1)))
      (grind (arith, nat_tests), tt)
      (down_different link ds (rising_at o d.number ds rising.1)) (one_link out)

  -- a way from a stage is the end of the way down
  ends_way : (number : ℕ) (out : Link) (ds : List (Lost R)) → (above : List Link) × (way_down o out ds ≡ above ++ way_from o number out ds)
  ends_way number out [] = (out ∷ [], refl)
  ends_way number out (d ∷ ds) =
      let link = lost_link o d.number in
      elim (d.number == number) as (λ b. (above : List Link) × (way_down o link ds ++ out ∷ [] ≡ above ++ (if b then out ∷ [] else way_from o number link ds ++ out ∷ []))) [
        | true ↦ (way_down o link ds, refl)
        | false ↦
            let rest = ends_way number link ds in
            (rest.0, ap (λ (way : List Link). way ++ out ∷ []) rest.1 ∙ append_assoc rest.0 (way_from o number link ds) (out ∷ []))
      ]

  -- the whole chain, and what is below it
  chain_different : (t : Tables R) (below : List Link) → IsLossChain t → AllByRecursion (λ link. is_owned o link ≡ false) below → AreDifferent below → AreDifferent (way_down o (lowest_link o) t.deletions ++ below)
  chain_different t below chain others different =
      told_apart (is_owned o) (way_down o (lowest_link o) t.deletions) below (all_owned (lowest_link o) t.deletions (owns_lowest o)) others
      (down_different (lowest_link o) t.deletions (sound_of_chain o t chain).rising) different

  -- so with the part of the chain from the stage of a loss down
  part_different : (number : ℕ) (t : Tables R) (below : List Link) → IsLossChain t → AllByRecursion (λ link. is_owned o link ≡ false) below → AreDifferent below → AreDifferent (way_from o number (lowest_link o) t.deletions ++ below)
  part_different number t below chain others different =
      let ends = ends_way number (lowest_link o) t.deletions in
      let whole : AreDifferent ((ends.0 ++ way_from o number (lowest_link o) t.deletions) ++ below) =
      subst (λ (way : List Link). AreDifferent (way ++ below)) ends.1 (chain_different t below chain others different) in
      last_links ends.0 (way_from o number (lowest_link o) t.deletions ++ below)
      (subst AreDifferent (append_assoc ends.0 (way_from o number (lowest_link o) t.deletions) below) whole)

-- ---- of a peer
-- from the live routes down to `filt.K`
pub feeds_pass_once : FeedsPassOnce
feeds_pass_once c chain = chain_different (Peer c.incoming.number) c.incoming.tables (Filt c.incoming.number ∷ []) chain (refl, tt) (one_link (Filt c.incoming.number))

-- from the stage of a session down to it
pub sweeps_pass_once : SweepsPassOnce
sweeps_pass_once session c chain = part_different (Peer c.incoming.number) session c.incoming.tables (Filt c.incoming.number ∷ []) chain (refl, tt) (one_link (Filt c.incoming.number))

-- ---- of the tree
-- the link that a protocol's rows are merged into is none of the protocol's own, nor `int`
merge_apart : (proto : Proto) → (is_owned (Origin proto) (merge_below proto) ≡ false) × (same_link (merge_below proto) Int ≡ false)
merge_apart Connected = (refl, refl)
merge_apart Static = (refl, refl)
merge_apart Ospf = (refl, refl)
merge_apart Rip = (refl, refl)

-- the two merges below a protocol
merges_differ : (proto : Proto) → AreDifferent (merge_below proto ∷ Int ∷ [])
merges_differ proto = IsDistinct-cons same_link (merge_below proto) (Int ∷ []) ((merge_apart proto).1, tt) (one_link Int)

-- from the live routes of a protocol down to `int`
pub routes_pass_once : RoutesPassOnce
routes_pass_once proto t tree =
    chain_different (Origin proto) (branch_of proto t).tables (merge_below proto ∷ Int ∷ []) (tree.each proto).chain ((merge_apart proto).0, (refl, tt)) (merges_differ proto)

-- from the stage of a loss down to it
pub losses_pass_once : LossesPassOnce
losses_pass_once proto n t tree =
    part_different (Origin proto) n (branch_of proto t).tables (merge_below proto ∷ Int ∷ []) (tree.each proto).chain ((merge_apart proto).0, (refl, tt)) (merges_differ proto)
