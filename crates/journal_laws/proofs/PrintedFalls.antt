-- Entries at one prefix, on links of which each is written once: what they hold stood before them, or stands behind them.
use Rattle.std.proofs.Common.{◌≡◌, Bool, true, false, cond, List, [], ◌∷◌, Option, Some, None, IfSome, option_map, refl, sym, ap, subst, ◌∙◌, inl, inr, arith}
use Rattle.std.specs.Ordering.{eq_by_cmp}
use Rattle.std.specs.List.{AllByRecursion}
use Rattle.addr4.specs.Families.{IsPrefixOf}
use Rattle.addr4.specs.Prefixes.{AddressPrefix, prefix_cmp}
use Rattle.addr4.proofs.PrefixOrder.{itself}
use Rattle.link_change.specs.Rows.{Rows, with_row}
use Rattle.journal_text.specs.Falls.{IsChangeOn, IsWhole, IsCut}
use Rattle.journal_text.specs.Links.{same_link}
use Rattle.journal_text.specs.Names.{IsNamed}
use Rattle.journal_text.specs.Walk.{Links, IsLawful, HasRow, with_row_on, fold_links}
use Rattle.journal_text.specs.Lines.{Entry}
use Rattle.journal_text.specs.declared.entry.Entry.TheVariants.{Add, Delete, Replace}
use Rattle.journal_text.specs.declared.line.Line.TheVariants.{Journal}
use Rattle.journal_text.specs.declared.link.Link.{Link}
use Rattle.journal_text.specs.Lines.{Value}
use Rattle.journal_text.proofs.LinkLemmas.{same_link-refl}
use Rattle.journal_laws.specs.Printed.{Printing, IsPrinted, IsPrintable}
use Rattle.journal_laws.specs.Laws.{AreEachOnce, HasPrintable, FallsArePrinted, ChangesArePrinted}

-- ---- single entries

add_printed : (printing : Printing) (link : Link) (p : AddressPrefix) (new : Value) → IsNamed link → IsPrefixOf printing.v6 p → IsPrintable printing new → IsPrinted printing (Journal (Add link p new))
add_printed printing link p new named prefix is = record { short = record { ranges = (named, prefix, is.well_told.ranges); values = (is.short, tt); octets = omega arith }; told = (is.well_told.told, tt) }

delete_printed : (printing : Printing) (link : Link) (p : AddressPrefix) (old : Value) → IsNamed link → IsPrefixOf printing.v6 p → IsPrintable printing old → IsPrinted printing (Journal (Delete link p old))
delete_printed printing link p old named prefix was = record { short = record { ranges = (named, prefix, was.well_told.ranges); values = (was.short, tt); octets = omega arith }; told = (was.well_told.told, tt) }

replace_printed : (printing : Printing) (link : Link) (p : AddressPrefix) (old new : Value) → IsNamed link → IsPrefixOf printing.v6 p → IsPrintable printing old → IsPrintable printing new → IsPrinted printing (Journal (Replace link p old new))
replace_printed printing link p old new named prefix was is = record {
  short = record { ranges = (named, prefix, was.well_told.ranges, is.well_told.ranges); values = (was.short, (is.short, tt)); octets = omega arith };
  told = (was.well_told.told, (is.well_told.told, tt));
}

pub changes_printed : ChangesArePrinted
changes_printed printing link p None None named prefix was is = tt
changes_printed printing link p None (Some new) named prefix was is = (add_printed printing link p new named prefix is, tt)
changes_printed printing link p (Some old) None named prefix was is = (delete_printed printing link p old named prefix was, tt)
changes_printed printing link p (Some old) (Some new) named prefix was is = (replace_printed printing link p old new named prefix was is, tt)

-- ---- a way

-- changes at the prefix, on these links from the first on
abbrev IsDown : AddressPrefix → List Link → List (Entry Value) → Type 0
IsDown p way [] = Unit {0}
IsDown p [] (e ∷ es) = ⊥
IsDown p (link ∷ way) (e ∷ es) = IsChangeOn link p e × IsDown p way es

whole_down : (p : AddressPrefix) (way : List Link) (es : List (Entry Value)) → IsWhole p way es → IsDown p way es
whole_down p way [] down = tt
whole_down p [] (e ∷ es) down = absurd down
whole_down p (link ∷ way) (e ∷ es) down = (down.0, whole_down p way es down.1)

cut_down : (p : AddressPrefix) (way : List Link) (es : List (Entry Value)) → IsCut p way es → IsDown p way es
cut_down p way [] down = tt
cut_down p [] (e ∷ es) down = absurd down
cut_down p (link ∷ way) (e ∷ es) down = (down.0, cut_down p way es down.1)

-- ---- other links stay

set_other : (links : Links Value) (link j k : Link) (q : AddressPrefix) (row : Option Value) → j ≡ k → same_link link k ≡ false → with_row_on links j q row link ≡ links link
set_other links link j k q row is apart = ap (λ (b : Bool). cond b (option_map (λ (rows : Rows Value). with_row rows q row) (links j)) (links link)) (ap (same_link link) is ∙ apart)

others_stay : (link : Link) (p : AddressPrefix) (way : List Link) (es : List (Entry Value)) (links : Links Value) → IsDown p way es → AllByRecursion (λ k. same_link link k ≡ false) way → fold_links links es link ≡ links link
others_stay link p way [] links down apart = refl
others_stay link p [] (e ∷ es) links down apart = absurd down
others_stay link p (k ∷ way) (Add j q new ∷ es) links down apart = others_stay link p way es (with_row_on links j q (Some new)) down.1 apart.1 ∙ set_other links link j k q (Some new) down.0.0 apart.0
others_stay link p (k ∷ way) (Delete j q old ∷ es) links down apart = others_stay link p way es (with_row_on links j q None) down.1 apart.1 ∙ set_other links link j k q None down.0.0 apart.0
others_stay link p (k ∷ way) (Replace j q old new ∷ es) links down apart = others_stay link p way es (with_row_on links j q (Some new)) down.1 apart.1 ∙ set_other links link j k q (Some new) down.0.0 apart.0
others_stay link p (k ∷ way) (e ∷ es) links down apart = absurd down.0

-- ---- the rows at the prefix

module _ (printing : Printing) (p : AddressPrefix) where
  -- a row is set that can be printed, or none
  set_printable : (links : Links Value) (j : Link) (q : AddressPrefix) (row : Option Value) → HasPrintable printing p links → IfSome row (IsPrintable printing) → HasPrintable printing p (with_row_on links j q row)
  set_printable links j q row has new link rows value at is = by_link (same_link link j) at
    where
      by_row : (b : Bool) (was : Option Value) → (was ≡ Some value → IsPrintable printing value) → cond b row was ≡ Some value → IsPrintable printing value
      by_row true was old here = subst (λ (o : Option Value). IfSome o (IsPrintable printing)) here new
      by_row false was old here = old here

      by_rows : (o : Option (Rows Value)) → links j ≡ o → option_map (λ (r : Rows Value). with_row r q row) o ≡ Some rows → IsPrintable printing value
      by_rows None live at = absurd (cc)
      by_rows (Some r) live at =
          let same : with_row r q row ≡ rows = cc in
          by_row (eq_by_cmp prefix_cmp p q) (r p) (has j r value live) (ap (λ (f : Rows Value). f p) same ∙ is)

      by_link : (b : Bool) → cond b (option_map (λ (r : Rows Value). with_row r q row) (links j)) (links link) ≡ Some rows → IsPrintable printing value
      by_link true at = by_rows (links j) refl at
      by_link false at = has link rows value at is

  -- the row that was set on a link stands there at the end
  new_stands : (links : Links Value) (j k : Link) (q : AddressPrefix) (new : Value) (row : Option Value) (way : List Link) (es : List (Entry Value)) → HasRow links j q row → j ≡ k → q ≡ p → IsDown p way es → AllByRecursion (λ l. same_link k l ≡ false) way
      → HasPrintable printing p (fold_links (with_row_on links j q (Some new)) es) → IsPrintable printing new
  new_stands links j k q new row way es has on at down apart then =
      let here : with_row_on links j q (Some new) j ≡ Some (with_row has.0 q (Some new)) =
      ap (λ (b : Bool). cond b (option_map (λ (r : Rows Value). with_row r q (Some new)) (links j)) (links j)) (same_link-refl j) ∙ ap (option_map (λ (r : Rows Value). with_row r q (Some new))) has.1 in
      let stays = others_stay j p way es (with_row_on links j q (Some new)) down (subst (λ (x : Link). AllByRecursion (λ l. same_link x l ≡ false) way) (sym on) apart) in
      then j (with_row has.0 q (Some new)) new (stays ∙ here) (ap (λ (b : Bool). cond b (Some new) (has.0 p)) (ap (eq_by_cmp prefix_cmp p) at ∙ itself p))

  old_stood : (links : Links Value) (j : Link) (q : AddressPrefix) (old : Value) → HasRow links j q (Some old) → q ≡ p → HasPrintable printing p links → IsPrintable printing old
  old_stood links j q old has at before = before j has.0 old has.1 (ap has.0 (sym at) ∙ has.2)

  each_printed : (way : List Link) (es : List (Entry Value)) (links : Links Value) → IsPrefixOf printing.v6 p → AreEachOnce way → IsDown p way es → IsLawful links es → HasPrintable printing p links → HasPrintable printing p (fold_links links es)
      → AllByRecursion (λ e. IsPrinted printing (Journal e)) es
  each_printed way [] links prefix once down lawful before then = tt
  each_printed [] (e ∷ es) links prefix once down lawful before then = absurd down
  each_printed (k ∷ way) (Add j q new ∷ es) links prefix once down lawful before then =
      let on = down.0 in
      let is = new_stands links j k q new None way es lawful.0 on.0 on.1 down.1 once.1 then in (
        add_printed printing j q new (subst IsNamed (sym on.0) once.0) (subst (IsPrefixOf printing.v6) (sym on.1) prefix) is,
        each_printed way es (with_row_on links j q (Some new)) prefix once.2 down.1 lawful.1 (set_printable links j q (Some new) before is) then,
      )
  each_printed (k ∷ way) (Delete j q old ∷ es) links prefix once down lawful before then =
      let on = down.0 in (
        delete_printed printing j q old (subst IsNamed (sym on.0) once.0) (subst (IsPrefixOf printing.v6) (sym on.1) prefix) (old_stood links j q old lawful.0 on.1 before),
        each_printed way es (with_row_on links j q None) prefix once.2 down.1 lawful.1 (set_printable links j q None before tt) then,
      )
  each_printed (k ∷ way) (Replace j q old new ∷ es) links prefix once down lawful before then =
      let on = down.0 in
      let is = new_stands links j k q new (Some old) way es lawful.0.0 on.0 on.1 down.1 once.1 then in (
        replace_printed printing j q old new (subst IsNamed (sym on.0) once.0) (subst (IsPrefixOf printing.v6) (sym on.1) prefix) (old_stood links j q old lawful.0.0 on.1 before) is,
        each_printed way es (with_row_on links j q (Some new)) prefix once.2 down.1 lawful.1 (set_printable links j q (Some new) before is) then,
      )
  each_printed (k ∷ way) (e ∷ es) links prefix once down lawful before then = absurd down.0

pub falls_printed : FallsArePrinted
falls_printed printing p way es old new prefix once down leads before then =
    each_printed printing p way es old prefix once (elim down as (λ _. IsDown p way es) [ inl whole ↦ whole_down p way es whole | inr cut ↦ cut_down p way es cut ]) leads.lawful before
    (subst (HasPrintable printing p) (sym leads.ends) then)
