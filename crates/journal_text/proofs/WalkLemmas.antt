-- Links that are set, walks one after the other, and the entry of one change.
use Rattle.std.proofs.Common.{◌≡◌, Bool, true, false, cond, List, [], ◌∷◌, ◌++◌, Option, Some, None, IsSome, refl, sym, ap, subst, ◌∙◌}
use Rattle.std.specs.Option.{option_map}
use Rattle.addr4.specs.Prefixes.{AddressPrefix, prefix_cmp}
use Rattle.std.specs.Ordering.{eq_by_cmp}
use Rattle.link_change.specs.Rows.{Rows, no_rows, with_row}
use Rattle.link_change.specs.Changes.{IsSent}
use Rattle.link_change.specs.Changes.{Change}
use Rattle.link_change.proofs.RowLemmas.{same_function}
use Rattle.journal_text.specs.declared.link.Link.{Link}
use Rattle.journal_text.specs.Lines.{Entry}
use Rattle.journal_text.specs.declared.entry.Entry.TheVariants.{Begin, Inherit}
use Rattle.journal_text.specs.Lines.{Value}
use Rattle.journal_text.specs.Links.{same_link}
use Rattle.journal_text.specs.Walk.{Links, with_link, after, IsLawful, fold_links, Leads, change_entries}
use Rattle.journal_text.specs.Values.{valued, valued_change, sent_entries}
use Rattle.journal_text.proofs.LinkLemmas.{same_link-refl, same_link-yes, same_link-no}

swap_cond : {A : Type 0} (p r : Bool) (x y z : A) → (p ≡ true → r ≡ true → ⊥) → cond r y (cond p x z) ≡ cond p x (cond r y z)
swap_cond true true x y z h = absurd (h refl refl)
swap_cond true false x y z h = refl
swap_cond false true x y z h = refl
swap_cond false false x y z h = refl

never_both : (a b q : Link) → same_link a b ≡ false → same_link q a ≡ true → same_link q b ≡ true → ⊥
never_both a b q apart qa qb =
    let a_is_b : a ≡ b = sym (same_link-yes q a qa) ∙ same_link-yes q b qb in
    let yes : same_link a b ≡ true = subst (λ (l : Link). same_link a l ≡ true) a_is_b (same_link-refl a) in
    let contra : true ≡ false = sym yes ∙ apart in
    cc

module _ {V : Type 0} where
  -- two links may be set in either order
  pub with_link_swap : (links : Links V) (a b : Link) (x y : Option (Rows V)) → same_link a b ≡ false → with_link (with_link links a x) b y ≡ with_link (with_link links b y) a x
  with_link_swap links a b x y apart = same_function _ _ (λ q. swap_cond (same_link q a) (same_link q b) x y (links q) (never_both a b q apart))

  pub with_link_here : (links : Links V) (link : Link) (rows : Option (Rows V)) → with_link links link rows link ≡ rows
  with_link_here links link rows = ap (λ b. cond b rows (links link)) (same_link-refl link)

  pub with_link_apart : (links : Links V) (link q : Link) (rows : Option (Rows V)) → (link ≡ q → ⊥) → with_link links link rows q ≡ links q
  with_link_apart links link q rows apart = ap (λ b. cond b rows (links q)) (same_link-no q link (λ e. apart (sym e)))

  -- to set what is there changes nothing
  pub with_link_same : (links : Links V) (link : Link) (rows : Option (Rows V)) → links link ≡ rows → with_link links link rows ≡ links
  with_link_same links link rows is = same_function _ _ (λ q.
      elim (same_link q link) as (λ b. same_link q link ≡ b → cond b rows (links q) ≡ links q) [
        | true ↦ λ e. sym is ∙ ap links (sym (same_link-yes q link e))
        | false ↦ λ _. refl
      ] refl)

  pub with_link_twice : (links : Links V) (link : Link) (x y : Option (Rows V)) → with_link (with_link links link x) link y ≡ with_link links link y
  with_link_twice links link x y = same_function _ _ (λ q. elim (same_link q link) as (λ b. cond b y (cond b x (links q)) ≡ cond b y (links q)) [ true ↦ refl | false ↦ refl ])

  pub leads_nowhere : (a b : Links V) → a ≡ b → Leads a [] b
  leads_nowhere a b is = record { lawful = tt; ends = is }

  lawful_append : (a : Links V) (xs ys : List (Entry V)) → IsLawful a xs → IsLawful (fold_links a xs) ys → IsLawful a (xs ++ ys)
  lawful_append a [] ys p q = q
  lawful_append a (x ∷ xs) ys p q = (p.0, lawful_append (after a x) xs ys p.1 q)

  fold_append : (a : Links V) (xs ys : List (Entry V)) → fold_links a (xs ++ ys) ≡ fold_links (fold_links a xs) ys
  fold_append a [] ys = refl
  fold_append a (x ∷ xs) ys = fold_append (after a x) xs ys

  pub leads_append : (a b c : Links V) (xs ys : List (Entry V)) → Leads a xs b → Leads b ys c → Leads a (xs ++ ys) c
  leads_append a b c xs ys p q = record {
    lawful = lawful_append a xs ys p.lawful (subst (λ (l : Links V). IsLawful l ys) (sym p.ends) q.lawful);
    ends = fold_append a xs ys ∙ ap (λ (l : Links V). fold_links l ys) p.ends ∙ q.ends;
  }

  -- a change that is lawful on a live link
  pub leads_change : (links : Links V) (link : Link) (rows : Rows V) (p : AddressPrefix) (old new : Option V) → links link ≡ Some rows → rows p ≡ old → (new ≡ old → ⊥)
      → Leads links (change_entries link p old new) (with_link links link (Some (with_row rows p new)))
  leads_change links link rows p None None live at differ = absurd (differ refl)
  leads_change links link rows p None (Some new) live at differ = record {
    lawful = ((rows, live, at), tt);
    ends = ap (λ (o : Option (Rows V)). with_link links link (option_map (λ rows. with_row rows p (Some new)) o)) live;
  }
  leads_change links link rows p (Some old) None live at differ = record {
    lawful = ((rows, live, at), tt);
    ends = ap (λ (o : Option (Rows V)). with_link links link (option_map (λ rows. with_row rows p None) o)) live;
  }
  leads_change links link rows p (Some old) (Some new) live at differ = record {
    lawful = (((rows, live, at), λ same. differ (ap Some (sym same))), tt);
    ends = ap (λ (o : Option (Rows V)). with_link links link (option_map (λ rows. with_row rows p (Some new)) o)) live;
  }

  pub leads_begin : (links : Links V) (link : Link) → links link ≡ None → Leads links (Begin link ∷ []) (with_link links link (Some no_rows))
  leads_begin links link free = record { lawful = (free, tt); ends = refl }

  pub leads_inherit : (links : Links V) (link from : Link) (rows : Rows V) → links link ≡ None → links from ≡ Some rows → Leads links (Inherit link from ∷ []) (with_link links link (Some rows))
  leads_inherit links link from rows free live = record {
    lawful = ((free, subst (λ (o : Option (Rows V)). IsSome o) (sym live) refl), tt);
    ends = ap (with_link links link) live;
  }

-- rows of one type as values, where no two rows have one value
module _ {R : Type 0} (value : R → Value) (one : (a b : R) → value a ≡ value b → a ≡ b) where
  one_value : (a b : Option R) → option_map value a ≡ option_map value b → a ≡ b
  one_value None None e = refl
  one_value None (Some b) e = cc
  one_value (Some a) None e = cc
  one_value (Some a) (Some b) e = let same : value a ≡ value b = cc in ap Some (one a b same)

  values_set : (rows : Rows R) (p : AddressPrefix) (row : Option R) → valued value (with_row rows p row) ≡ with_row (valued value rows) p (option_map value row)
  values_set rows p row = same_function _ _ (λ q.
      elim (eq_by_cmp prefix_cmp q p) as (λ b. option_map value (cond b row (rows q)) ≡ cond b (option_map value row) (option_map value (rows q))) [ true ↦ refl | false ↦ refl ])

  -- the entry of a lawful change leads on
  pub values_lead : (links : Links Value) (link : Link) (old new : Rows R) (p : AddressPrefix) (change : Change R) → links link ≡ Some (valued value old) → IsSent old new p (Some change)
      → Leads links (valued_change value link change) (with_link links link (Some (valued value new)))
  values_lead links link old new p change live sent =
      let at : valued value old change.prefix ≡ option_map value change.before = ap (option_map value) sent.1.0 in
      let lead = leads_change links link (valued value old) change.prefix (option_map value change.before) (option_map value change.after) live at (λ e. sent.1.1 (one_value change.after change.before e)) in
      let is : with_row (valued value old) change.prefix (option_map value change.after) ≡ valued value new = sym (values_set old change.prefix change.after) ∙ ap (valued value) (sym sent.2) in
      subst (λ (rows : Rows Value). Leads links (valued_change value link change) (with_link links link (Some rows))) is lead

  -- what a stage sends leads on from the rows of its link to the new ones
  pub leads_sent : (links : Links Value) (link : Link) (old new : Rows R) (p : AddressPrefix) (sent : Option (Change R)) → links link ≡ Some (valued value old) → IsSent old new p sent
      → Leads links (sent_entries value link sent) (with_link links link (Some (valued value new)))
  leads_sent links link old new p None live is =
      leads_nowhere _ _ (sym (with_link_same links link (Some (valued value new)) (live ∙ ap (λ (r : Rows R). Some (valued value r)) (sym is))))
  leads_sent links link old new p (Some change) live is = values_lead links link old new p change live is

  -- the same where the link's rows are set before
  pub leads_over : (links : Links Value) (link : Link) (old new : Rows R) (p : AddressPrefix) (sent : Option (Change R)) → IsSent old new p sent
      → Leads (with_link links link (Some (valued value old))) (sent_entries value link sent) (with_link links link (Some (valued value new)))
  leads_over links link old new p sent is =
      let step = leads_sent (with_link links link (Some (valued value old))) link old new p sent (with_link_here links link (Some (valued value old))) is in
      let P : Links Value → Type 0 = λ l. Leads (with_link links link (Some (valued value old))) (sent_entries value link sent) l in
      subst P (with_link_twice links link (Some (valued value old)) (Some (valued value new))) step
