-- The walk over texts goes with the walk over values.
use Rattle.std.proofs.Common.{◌≡◌, ℕ, Bool, true, false, cond, List, [], ◌∷◌, Option, Some, None, option_map, refl, sym, ap, subst, ◌∙◌}
use Rattle.std.specs.Prelude.{IsSome}
use Rattle.std.specs.List.{AllByRecursion}
use Rattle.std.specs.Ordering.{eq_by_cmp}
use Rattle.addr4.specs.Prefixes.{AddressPrefix, prefix_cmp}
use Rattle.link_change.specs.Rows.{Rows, no_rows, with_row}
use Rattle.link_change.proofs.RowLemmas.{same_function}
use Rattle.journal_text.specs.Links.{same_link}
use Rattle.journal_text.specs.Texts.{value_text}
use Rattle.journal_text.specs.Walk.{Links, with_link, with_row_on, HasRow, Demands, after, IsLawful, fold_links}
use Rattle.journal_text.specs.declared.link.Link.{Link}
use Rattle.journal_text.specs.Lines.{Value}
use Rattle.journal_text.specs.Lines.{Entry}
use Rattle.journal_text.specs.declared.entry.Entry.TheVariants.{Begin, Inherit, Add, Delete, Replace, Asked, Weld, End}
use Rattle.journal_check.specs.Laws.{texts_of}
use Rattle.journal_laws.specs.Printed.{Printing, IsWellTold, values_of}
use Rattle.journal_laws.specs.TextLinks.{text_rows, text_links, text_entries}
use Rattle.journal_laws.specs.Laws.{TextsAreWalked}
use Rattle.journal_laws.proofs.ValueTexts.{values_told}

chosen : {A B : Type 0} (f : A → B) (b : Bool) (x y : Option A) → option_map f (cond b x y) ≡ cond b (option_map f x) (option_map f y)
chosen f true x y = refl
chosen f false x y = refl

-- ---- what an entry makes of the links

rows_set : (v6 : Bool) (rows : Rows Value) (p : AddressPrefix) (row : Option Value) → text_rows v6 (with_row rows p row) ≡ with_row (text_rows v6 rows) p (option_map (value_text v6) row)
rows_set v6 rows p row = same_function _ _ (λ q. chosen (value_text v6) (eq_by_cmp prefix_cmp q p) row (rows q))

link_set : (v6 : Bool) (links : Links Value) (link : Link) (rows : Option (Rows Value)) → text_links v6 (with_link links link rows) ≡ with_link (text_links v6 links) link (option_map (text_rows v6) rows)
link_set v6 links link rows = same_function _ _ (λ q. chosen (text_rows v6) (same_link q link) rows (links q))

row_set : (v6 : Bool) (links : Links Value) (link : Link) (p : AddressPrefix) (row : Option Value) → text_links v6 (with_row_on links link p row) ≡ with_row_on (text_links v6 links) link p (option_map (value_text v6) row)
row_set v6 links link p row = link_set v6 links link (option_map (λ rows. with_row rows p row) (links link)) ∙ ap (with_link (text_links v6 links) link) (by (links link))
  where
    by : (o : Option (Rows Value)) → option_map (text_rows v6) (option_map (λ rows. with_row rows p row) o) ≡ option_map (λ rows. with_row rows p (option_map (value_text v6) row)) (option_map (text_rows v6) o)
    by None = refl
    by (Some rows) = ap (λ (r : Rows (List ℕ)). Some r) (rows_set v6 rows p row)

pub after_texts : (v6 : Bool) (links : Links Value) (entry : Entry Value) → after (text_links v6 links) (texts_of v6 entry) ≡ text_links v6 (after links entry)
after_texts v6 links (Begin link) = sym (link_set v6 links link (Some no_rows))
after_texts v6 links (Inherit link from) = sym (link_set v6 links link (links from))
after_texts v6 links (Add link p new) = sym (row_set v6 links link p (Some new))
after_texts v6 links (Delete link p old) = sym (row_set v6 links link p None)
after_texts v6 links (Replace link p old new) = sym (row_set v6 links link p (Some new))
after_texts v6 links (Asked link p row) = refl
after_texts v6 links (Weld upper lower) = sym (link_set v6 links upper None)
after_texts v6 links (End link) = sym (link_set v6 links link None)

-- ---- what an entry demands of them

some_mapped : {A B : Type 0} (f : A → B) (o : Option A) → IsSome o → IsSome (option_map f o)
some_mapped f (Some x) is = is
some_mapped f None is = is

row_texts : (v6 : Bool) (links : Links Value) (link : Link) (p : AddressPrefix) (row : Option Value) → HasRow links link p row → HasRow (text_links v6 links) link p (option_map (value_text v6) row)
row_texts v6 links link p row has = (text_rows v6 has.0, ap (option_map (text_rows v6)) has.1, ap (option_map (value_text v6)) has.2)

demand_texts : (printing : Printing) (links : Links Value) (entry : Entry Value) → AllByRecursion (IsWellTold printing) (values_of entry) → Demands links entry → Demands (text_links printing.v6 links) (texts_of printing.v6 entry)
demand_texts printing links (Begin link) exact h = ap (option_map (text_rows printing.v6)) h
demand_texts printing links (Inherit link from) exact h = (ap (option_map (text_rows printing.v6)) h.0, some_mapped (text_rows printing.v6) (links from) h.1)
demand_texts printing links (Add link p new) exact h = row_texts printing.v6 links link p None h
demand_texts printing links (Delete link p old) exact h = row_texts printing.v6 links link p (Some old) h
demand_texts printing links (Replace link p old new) exact h = (row_texts printing.v6 links link p (Some old) h.0, λ same. h.1 (values_told printing old new exact.0 exact.1.0 same))
demand_texts printing links (Asked link p row) exact h = row_texts printing.v6 links link p row h
demand_texts printing links (Weld upper lower) exact h = (h.0, (text_rows printing.v6 h.1.0, ap (option_map (text_rows printing.v6)) h.1.1, ap (option_map (text_rows printing.v6)) h.1.2))
demand_texts printing links (End link) exact h = some_mapped (text_rows printing.v6) (links link) h

-- ---- walks

pub lawful_texts : (printing : Printing) (links : Links Value) (entries : List (Entry Value)) → AllByRecursion (λ e. AllByRecursion (IsWellTold printing) (values_of e)) entries → IsLawful links entries → IsLawful (text_links printing.v6 links) (text_entries printing.v6 entries)
lawful_texts printing links [] exact lawful = tt
lawful_texts printing links (e ∷ entries) exact lawful = (
  demand_texts printing links e exact.0 lawful.0,
  subst (λ (l : Links (List ℕ)). IsLawful l (text_entries printing.v6 entries)) (sym (after_texts printing.v6 links e)) (lawful_texts printing (after links e) entries exact.1 lawful.1),
)

fold_texts : (v6 : Bool) (links : Links Value) (entries : List (Entry Value)) → fold_links (text_links v6 links) (text_entries v6 entries) ≡ text_links v6 (fold_links links entries)
fold_texts v6 links [] = refl
fold_texts v6 links (e ∷ entries) = ap (λ (l : Links (List ℕ)). fold_links l (text_entries v6 entries)) (after_texts v6 links e) ∙ fold_texts v6 (after links e) entries

pub texts_walked : TextsAreWalked
texts_walked printing links entries exact lawful = record { lawful = lawful_texts printing links entries exact lawful; ends = fold_texts printing.v6 links entries }
