-- How entries that lead on from the links of the stages above lead on from those of the stage below them.
use Rattle.std.proofs.Common.{◌≡◌, ℕ, ◌<◌, ◌≤◌, ◌+◌, List, [], ◌∷◌, ◌++◌, Option, Some, None, refl, sym, ap, subst, ◌∙◌, arith}
use Rattle.std.specs.FinMap as map
use Rattle.std.specs.FinMap.{FinMap}
use Rattle.addr4.specs.Prefixes.{AddressPrefix, prefix_cmp}
use Rattle.link_change.specs.Rows.{Rows, no_rows}
use Rattle.link_change.proofs.RowLemmas.{empty_rows}
use Rattle.link_change.specs.Changes.{IsSent}
use Rattle.link_change.specs.Changes.{Change}
use Rattle.loss_chain.specs.Lost.{Lost}
use Rattle.loss_chain.specs.Covering.{covered, AreApart}
use Rattle.loss_chain.proofs.CoverLemmas.{covered_nothing, nothing_covers}
use Rattle.journal_text.specs.declared.link.Link.{Link}
use Rattle.journal_text.specs.Lines.{Value}
use Rattle.journal_text.specs.Lines.{Entry}
use Rattle.journal_text.specs.declared.entry.Entry.TheVariants.{Begin, Weld}
use Rattle.journal_text.specs.Links.{rank_of}
use Rattle.journal_text.specs.Journals.{Journaled, with_entries, Adds}
use Rattle.journal_text.specs.Walk.{Links, with_link, Leads}
use Rattle.journal_text.proofs.LinkLemmas.{same_link-no}
use Rattle.journal_text.proofs.FallLemmas.{and_then, cut_before, goes_on, goes_out}
use Rattle.journal_text.proofs.WalkLemmas.{with_link_here, with_link_apart, with_link_same, with_link_swap, with_link_twice, leads_append, leads_over}
use Rattle.loss_chain.specs.declared.owner.Owner.{Owner}
use Rattle.loss_chain.specs.Owners.{lost_link}
use Rattle.journal_text.specs.Values.{valued, sent_entries}
use Rattle.loss_chain.specs.Tables.{Tables, rows_below, lowest_rows}
use Rattle.loss_chain.specs.Parts.{links_over, lowered, IsRisingFrom, IsSound, IsClearAbove, LeadsOver, FallsOver}
use Rattle.loss_chain.proofs.OwnerLemmas.{rank_lost, rising_at, rising_after}

below_apart : (a b : Link) → rank_of a < rank_of b → a ≡ b → ⊥
below_apart a b h e = let f : rank_of a ≡ rank_of b = ap rank_of e in omega (arith, f, h)

-- the link of a loss is above those below its number
pub below_lost : (o : Owner) (out : Link) (n : ℕ) → rank_of out ≤ n → rank_of out < rank_of (lost_link o n)
below_lost o out n h = let rank = rank_lost o n in omega (arith, h, rank)

module _ {R : Type 0} where
  pub rising_lower : (low high : ℕ) (ds : List (Lost R)) → low ≤ high → IsRisingFrom high ds → IsRisingFrom low ds
  rising_lower low high [] h rising = tt
  rising_lower low high (d ∷ ds) h rising = let step = rising.0 in (omega (arith, h, step), rising.1)

  pub sound_after : (o : Owner) (out : Link) (d d' : Lost R) (t t' : Tables R) → IsSound out (lowered d t) → IsSound (lost_link o d.number) t' → d'.number ≡ d.number → AreApart (map.get d'.rows) (lowest_rows t') → IsSound out (lowered d' t')
  sound_after o out d d' t t' sound sound' same apart =
      let low = sound.rising.0 in
      let P : ℕ → Type 0 = λ n. IsRisingFrom (n + 1) t'.deletions in
      record { rising = (omega (arith, low, same), subst P (sym same) (rising_after o d.number t'.deletions sound'.rising)); apart = (apart, sound'.apart) }

  -- what is above a stage is sound
  pub sound_above : (o : Owner) (out : Link) (d : Lost R) (t : Tables R) → IsSound out (lowered d t) → IsSound (lost_link o d.number) t
  sound_above o out d t sound = record { rising = rising_at o d.number t.deletions sound.rising.1; apart = sound.apart.1 }

-- ---- the links of a part

module _ {R : Type 0} (value : R → Value) (o : Owner) where
  -- a link below those of a part may be set before or after them
  outside : (others : Links Value) (link : Link) (x : Option (Rows Value)) (out : Link) (live : FinMap prefix_cmp R) (ds : List (Lost R)) → rank_of link < rank_of out → IsRisingFrom (rank_of out) ds
      → links_over value o (with_link others link x) out live ds ≡ with_link (links_over value o others out live ds) link x
  outside others link x out live [] h rising = with_link_swap others link out x (Some (valued value (map.get live))) (same_link-no link out (below_apart link out h))
  outside others link x out live (d ∷ ds) h rising =
      let step = rising.0 in
      let rank = rank_lost o d.number in
      ap (λ (l : Links Value). with_link l out (Some (valued value (rows_below live (d ∷ ds))))) (outside others link x (lost_link o d.number) live ds (omega (arith, step, h, rank)) (rising_at o d.number ds rising.1))
      ∙ with_link_swap (links_over value o others (lost_link o d.number) live ds) link out x (Some (valued value (rows_below live (d ∷ ds)))) (same_link-no link out (below_apart link out h))

  -- the links of a part, beside the link `out` below it with its rows
  abbrev pub Below : Links Value → Link → Rows R → Link → FinMap prefix_cmp R → List (Lost R) → Links Value
  Below others out rows link live ds = with_link (links_over value o others link live ds) out (Some (valued value rows))

  clear_further : (out link : Link) (others : Links Value) (x : Option (Rows Value)) → rank_of out < rank_of link → IsClearAbove o out others → IsClearAbove o link (with_link others out x)
  clear_further out link others x h clear number above =
      with_link_apart others out (lost_link o number) x (below_apart out (lost_link o number) (omega (arith, h, above))) ∙ clear number (omega (arith, h, above))

  in_frame : (out link : Link) (live live' : FinMap prefix_cmp R) (ds ds' : List (Lost R)) (entries : List (Entry Value)) → rank_of out < rank_of link → IsRisingFrom (rank_of link) ds → IsRisingFrom (rank_of link) ds'
      → ((others : Links Value) → IsClearAbove o link others → Leads (links_over value o others link live ds) entries (links_over value o others link live' ds'))
      → (others : Links Value) (rows : Rows R) → IsClearAbove o out others → Leads (Below others out rows link live ds) entries (Below others out rows link live' ds')
  in_frame out link live live' ds ds' entries h was is leads others rows clear =
      let x : Option (Rows Value) = Some (valued value rows) in
      let inside = leads (with_link others out x) (clear_further out link others x h clear) in
      let P : Links Value → Type 0 = λ l. Leads l entries (links_over value o (with_link others out x) link live' ds') in
      let Q : Links Value → Type 0 = λ l. Leads (Below others out rows link live ds) entries l in
      subst Q (outside others out x link live' ds' h is) (subst P (outside others out x link live ds h was) inside)

  -- entries of the stages above, where the rows below stay the same
  pub leads_quietly : (out : Link) (d : Lost R) (t t' : Tables R) (entries : List (Entry Value))
      → IsSound out (lowered d t) → IsSound (lost_link o d.number) t' → lowest_rows t' ≡ lowest_rows t
      → LeadsOver value o (lost_link o d.number) t entries t' → LeadsOver value o out (lowered d t) entries (lowered d t')
  leads_quietly out d t t' entries sound sound' same leads others clear =
      let link = lost_link o d.number in
      let framed = in_frame out link t.live t'.live t.deletions t'.deletions entries (below_lost o out d.number sound.rising.0) (rising_at o d.number t.deletions sound.rising.1) sound'.rising leads others (lowest_rows (lowered d t)) clear in
      let P : Rows R → Type 0 = λ r. Leads (links_over value o others out t.live (d ∷ t.deletions)) entries (Below others out (covered (map.get d.rows) r) link t'.live t'.deletions) in
      subst P (sym same) framed

  pub passes_quietly : (out : Link) (d : Lost R) (t t' : Tables R) (before now : Journaled) (p : AddressPrefix) (way : List Link)
      → IsSound out (lowered d t) → IsSound (lost_link o d.number) t' → lowest_rows t' ≡ lowest_rows t
      → Adds (FallsOver value o (lost_link o d.number) t t' p way None) before now
      → Adds (FallsOver value o out (lowered d t) (lowered d t') p (way ++ out ∷ []) None) before now
  passes_quietly out d t t' before now p way sound sound' same (entries, now_is, fall) = (
    entries,
    now_is,
    record { leads = leads_quietly out d t t' entries sound sound' same fall.leads; down = cut_before p way (out ∷ []) entries fall.down },
  )

  -- ---- splices

  -- the links above the one out of a part
  abbrev LinksAbove : Links Value → FinMap prefix_cmp R → List (Lost R) → Links Value
  LinksAbove others live [] = others
  LinksAbove others live (d ∷ ds) = links_over value o others (lost_link o d.number) live ds

  links_split : (others : Links Value) (out : Link) (live : FinMap prefix_cmp R) (ds : List (Lost R)) → links_over value o others out live ds ≡ with_link (LinksAbove others live ds) out (Some (valued value (rows_below live ds)))
  links_split others out live [] = refl
  links_split others out live (d ∷ ds) = refl

  pub own_link : (others : Links Value) (out : Link) (live : FinMap prefix_cmp R) (ds : List (Lost R)) → links_over value o others out live ds out ≡ Some (valued value (rows_below live ds))
  own_link others out live ds = ap (λ (l : Links Value). l out) (links_split others out live ds) ∙ with_link_here (LinksAbove others live ds) out (Some (valued value (rows_below live ds)))

  -- a link below those of a part is none of them
  lower_link : (others : Links Value) (link out : Link) (live : FinMap prefix_cmp R) (ds : List (Lost R)) → rank_of link < rank_of out → IsRisingFrom (rank_of out) ds → links_over value o others out live ds link ≡ others link
  lower_link others link out live [] h rising = with_link_apart others out link (Some (valued value (map.get live))) (λ e. below_apart link out h (sym e))
  lower_link others link out live (d ∷ ds) h rising =
      let step = rising.0 in
      let rank = rank_lost o d.number in
      with_link_apart (links_over value o others (lost_link o d.number) live ds) out link (Some (valued value (rows_below live (d ∷ ds)))) (λ e. below_apart link out h (sym e))
      ∙ lower_link others link (lost_link o d.number) live ds (omega (arith, step, h, rank)) (rising_at o d.number ds rising.1)

  above_clear : (others : Links Value) (out : Link) (live : FinMap prefix_cmp R) (ds : List (Lost R)) → IsRisingFrom (rank_of out) ds → others out ≡ None → LinksAbove others live ds out ≡ None
  above_clear others out live [] rising none = none
  above_clear others out live (d ∷ ds) rising none = lower_link others out (lost_link o d.number) live ds (below_lost o out d.number rising.0) (rising_at o d.number ds rising.1) ∙ none

  -- the link of a loss begins, between the top and its deletion stage
  pub begins : (out : Link) (number : ℕ) (live : FinMap prefix_cmp R) → rank_of out ≤ number
      → LeadsOver value o out (record { live = live; deletions = [] }) (Begin (lost_link o number) ∷ []) (record { live = map.empty; deletions = record { number = number; rows = live } ∷ [] })
  begins out number live h others clear =
      let link = lost_link o number in
      let above = below_lost o out number h in
      let apart : (out ≡ link) → ⊥ = below_apart out link above in
      let none : valued value (map.get {R = prefix_cmp} (map.empty {X = R})) ≡ no_rows = ap (valued value) empty_rows in
      let bare : covered (map.get live) (map.get {R = prefix_cmp} (map.empty {X = R})) ≡ map.get live = ap (covered (map.get live)) empty_rows ∙ covered_nothing (map.get live) in
      record {
        lawful = (with_link_apart others out link (Some (valued value (map.get live))) apart ∙ clear number above, tt);
        ends = with_link_swap others out link (Some (valued value (map.get live))) (Some no_rows) (same_link-no out link apart)
            ∙ ap (λ (r : Rows Value). with_link (with_link others link (Some r)) out (Some (valued value (map.get live)))) (sym none)
            ∙ ap (λ (r : Rows R). with_link (with_link others link (Some (valued value (map.get {R = prefix_cmp} (map.empty {X = R}))))) out (Some (valued value r))) (sym bare);
      }

  -- the link between an empty deletion stage and the stage above it is welded into the one below
  pub welds : (out : Link) (d : Lost R) (t : Tables R) → IsSound out (lowered d t) → d.rows ≡ map.empty → LeadsOver value o out (lowered d t) (Weld (lost_link o d.number) out ∷ []) t
  welds out d t sound none others clear =
      let link = lost_link o d.number in
      let higher = below_lost o out d.number sound.rising.0 in
      let apart : (out ≡ link) → ⊥ = below_apart out link higher in
      let rows = lowest_rows t in
      let above = links_over value o others link t.live t.deletions in
      let bare = above_clear others link t.live t.deletions (rising_at o d.number t.deletions sound.rising.1) (clear d.number higher) in
      let below = nothing_covers d.rows rows none in
      let own : above link ≡ Some (valued value rows) = own_link others link t.live t.deletions in
      let x : Option (Rows Value) = Some (valued value (covered (map.get d.rows) rows)) in
      record {
        lawful = (
          (
            λ e. apart (sym e),
            (
              valued value rows,
              with_link_apart above out link x apart ∙ own,
              with_link_here above out x ∙ ap (λ (r : Rows R). Some (valued value r)) below,
            ),
          ),
          tt,
        );
        ends = with_link_swap above out link x None (same_link-no out link apart)
            ∙ ap (λ (l : Links Value). with_link (with_link l link None) out x) (links_split others link t.live t.deletions)
            ∙ ap (λ (l : Links Value). with_link l out x) (with_link_twice (LinksAbove others t.live t.deletions) link (Some (valued value rows)) None ∙ with_link_same (LinksAbove others t.live t.deletions) link None bare)
            ∙ ap (λ (r : Rows R). with_link (LinksAbove others t.live t.deletions) out (Some (valued value r))) below
            ∙ sym (links_split others out t.live t.deletions);
      }

-- ---- what a stage sends

module _ {R : Type 0} (value : R → Value) (one : (a b : R) → value a ≡ value b → a ≡ b) where
  -- the row at the top is set
  pub top_falls : (o : Owner) (out : Link) (live live' : FinMap prefix_cmp R) (p : AddressPrefix) (sent : Option (Change R)) (before now : Journaled) → IsSent (map.get live) (map.get live') p sent → now ≡ with_entries before (sent_entries value out sent)
      → Adds (FallsOver value o out (record { live = live; deletions = [] }) (record { live = live'; deletions = [] }) p (out ∷ []) sent) before now
  top_falls o out live live' p sent before now is now_is =
      (sent_entries value out sent, now_is, record { leads = λ others clear. leads_over value one others out (map.get live) (map.get live') p sent is; down = goes_out value out (map.get live) (map.get live') p sent is })

  -- what a stage sends of its own
  pub own_falls : (o : Owner) (out : Link) (d d' : Lost R) (t : Tables R) (change : Change R) → d'.number ≡ d.number → IsSent (lowest_rows (lowered d t)) (lowest_rows (lowered d' t)) change.prefix (Some change)
      → FallsOver value o out (lowered d t) (lowered d' t) change.prefix (out ∷ []) (Some change) (sent_entries value out (Some change))
  own_falls o out d d' t change same is = record {
    leads = λ others clear.
        let own = leads_over value one (links_over value o others (lost_link o d.number) t.live t.deletions) out (lowest_rows (lowered d t)) (lowest_rows (lowered d' t)) change.prefix (Some change) is in
        let P : ℕ → Type 0 = λ n. Leads (links_over value o others out t.live (d ∷ t.deletions)) (sent_entries value out (Some change)) (Below value o others out (lowest_rows (lowered d' t)) (lost_link o n) t.live t.deletions) in
        subst P (sym same) own;
    down = goes_out value out (lowest_rows (lowered d t)) (lowest_rows (lowered d' t)) change.prefix (Some change) is;
  }

  -- the entries of the stages above, and then what this stage sends
  pub passes_down : (o : Owner) (out : Link) (d d' : Lost R) (t t' : Tables R) (before mid now : Journaled) (p : AddressPrefix) (way : List Link) (change : Change R) (sent : Option (Change R))
      → IsSound out (lowered d t) → IsSound (lost_link o d.number) t' → d'.number ≡ d.number
      → Adds (FallsOver value o (lost_link o d.number) t t' p way (Some change)) before mid
      → IsSent (lowest_rows (lowered d t)) (lowest_rows (lowered d' t')) p sent → now ≡ with_entries mid (sent_entries value out sent)
      → Adds (FallsOver value o out (lowered d t) (lowered d' t') p (way ++ out ∷ []) sent) before now
  passes_down o out d d' t t' before mid now p way change sent sound sound' same_d (entries, mid_is, fall) is now_is = (
    entries ++ sent_entries value out sent,
    and_then before mid now entries (sent_entries value out sent) mid_is now_is,
    record {
      leads = λ others clear.
          let link = lost_link o d.number in
          let framed = in_frame value o out link t.live t'.live t.deletions t'.deletions entries (below_lost o out d.number sound.rising.0) (rising_at o d.number t.deletions sound.rising.1) sound'.rising fall.leads others (lowest_rows (lowered d t)) clear in
          let own = leads_over value one (links_over value o others link t'.live t'.deletions) out (lowest_rows (lowered d t)) (lowest_rows (lowered d' t')) p sent is in
          let P : ℕ → Type 0 = λ n. Leads (links_over value o others out t.live (d ∷ t.deletions)) (entries ++ sent_entries value out sent) (Below value o others out (lowest_rows (lowered d' t')) (lost_link o n) t'.live t'.deletions) in
          subst P (sym same_d) (leads_append _ _ _ entries (sent_entries value out sent) framed own);
      down = goes_on p way (out ∷ []) change entries (sent_entries value out sent) sent fall.down (goes_out value out (lowest_rows (lowered d t)) (lowest_rows (lowered d' t')) p sent is);
    },
  )
