-- A walk over texts that is lawful is lawful over the values.
use Rattle.std.proofs.Common.{◌≡◌, ℕ, Bool, true, false, cond, List, [], ◌∷◌, Option, Some, None, option_map, refl, sym, ap, subst, ◌∙◌}
use Rattle.std.specs.Prelude.{IsSome}
use Rattle.std.specs.List.{AllByRecursion}
use Rattle.std.specs.Ordering.{eq_by_cmp}
use Rattle.addr4.specs.Prefixes.{AddressPrefix, prefix_cmp}
use Rattle.link_change.specs.Rows.{Rows, no_rows, with_row}
use Rattle.link_change.proofs.RowLemmas.{same_function}
use Rattle.journal_text.specs.Links.{same_link}
use Rattle.journal_text.specs.Texts.{value_text}
use Rattle.journal_text.specs.Walk.{Links, no_links, with_link, with_row_on, HasRow, HaveSameRows, Demands, after, IsLawful}
use Rattle.journal_text.specs.declared.link.Link.{Link}
use Rattle.journal_text.specs.Lines.{Value}
use Rattle.journal_text.specs.Lines.{Entry}
use Rattle.journal_text.specs.declared.entry.Entry.TheVariants.{Begin, Inherit, Add, Delete, Replace, Asked, Weld, End}
use Rattle.journal_check.specs.Laws.{texts_of}
use Rattle.journal_laws.specs.Printed.{Printing, IsWellTold, answer_values, values_of}
use Rattle.journal_laws.specs.TextLinks.{text_rows, text_links, text_entries}
use Rattle.journal_laws.specs.Laws.{TextsTellWalks}
use Rattle.journal_laws.proofs.Spans.{some_same, not_some}
use Rattle.journal_laws.proofs.ValueTexts.{values_told}
use Rattle.journal_laws.proofs.TextWalks.{after_texts, lawful_texts}

-- ---- rows that their texts tell

-- each row is told by its text
abbrev AreExactRows : Printing → Rows Value → Type 0
AreExactRows printing rows = (p : AddressPrefix) (value : Value) → rows p ≡ Some value → IsWellTold printing value

abbrev AreExactLinks : Printing → Links Value → Type 0
AreExactLinks printing links = (link : Link) (rows : Rows Value) → links link ≡ Some rows → AreExactRows printing rows

abbrev IsExactIfAny : Printing → Option Value → Type 0
IsExactIfAny printing o = (value : Value) → o ≡ Some value → IsWellTold printing value

no_values : (printing : Printing) → IsExactIfAny printing None
no_values printing value e = absurd (not_some value e)

one_value : (printing : Printing) (x : Value) → IsWellTold printing x → IsExactIfAny printing (Some x)
one_value printing x h value e = subst (IsWellTold printing) (some_same x value e) h

answer_value : (printing : Printing) (row : Option Value) → AllByRecursion (IsWellTold printing) (answer_values row) → IsExactIfAny printing row
answer_value printing None h = no_values printing
answer_value printing (Some x) h = one_value printing x h.0

row_told : (printing : Printing) (a b : Option Value) → IsExactIfAny printing a → IsExactIfAny printing b → option_map (value_text printing.v6) a ≡ option_map (value_text printing.v6) b → a ≡ b
row_told printing None None ha hb e = refl
row_told printing None (Some y) ha hb e = absurd (not_some (value_text printing.v6 y) e)
row_told printing (Some x) None ha hb e = absurd (not_some (value_text printing.v6 x) (sym e))
row_told printing (Some x) (Some y) ha hb e = ap (λ (v : Value). Some v) (values_told printing x y (ha x refl) (hb y refl) (some_same (value_text printing.v6 x) (value_text printing.v6 y) e))

rows_told : (printing : Printing) (a b : Rows Value) → AreExactRows printing a → AreExactRows printing b → text_rows printing.v6 a ≡ text_rows printing.v6 b → a ≡ b
rows_told printing a b ha hb e = same_function a b (λ q. row_told printing (a q) (b q) (ha q) (hb q) (ap (λ (r : Rows (List ℕ)). r q) e))

-- ---- what an entry demands

mapped_some : {A B : Type 0} (f : A → B) (o : Option A) (y : B) → option_map f o ≡ Some y → (x : A) × (o ≡ Some x) × (f x ≡ y)
mapped_some f None y e = absurd (not_some y e)
mapped_some f (Some x) y e = (x, refl, some_same (f x) y e)

mapped_none : {A B : Type 0} (f : A → B) (o : Option A) → option_map f o ≡ None → o ≡ None
mapped_none f None e = refl
mapped_none f (Some x) e = absurd (not_some (f x) (sym e))

mapped_is_some : {A B : Type 0} (f : A → B) (o : Option A) → IsSome (option_map f o) → IsSome o
mapped_is_some f (Some x) is = is
mapped_is_some f None is = is

row_back : (printing : Printing) (links : Links Value) (link : Link) (p : AddressPrefix) (row : Option Value) → AreExactLinks printing links → IsExactIfAny printing row → HasRow (text_links printing.v6 links) link p (option_map (value_text printing.v6) row) → HasRow links link p row
row_back printing links link p row exact h has =
    let s = mapped_some (text_rows printing.v6) (links link) has.0 has.1 in
    (s.0, s.1, row_told printing (s.0 p) row (exact link s.0 s.1 p) h (ap (λ (r : Rows (List ℕ)). r p) s.2 ∙ has.2))

same_back : (printing : Printing) (links : Links Value) (upper lower : Link) → AreExactLinks printing links → HaveSameRows (text_links printing.v6 links) upper lower → HaveSameRows links upper lower
same_back printing links upper lower exact has =
    let u = mapped_some (text_rows printing.v6) (links upper) has.0 has.1 in
    let l = mapped_some (text_rows printing.v6) (links lower) has.0 has.2 in
    (u.0, u.1, l.1 ∙ ap (λ (r : Rows Value). Some r) (rows_told printing l.0 u.0 (exact lower l.0 l.1) (exact upper u.0 u.1) (l.2 ∙ sym u.2)))

demand_back : (printing : Printing) (links : Links Value) (entry : Entry Value) → AreExactLinks printing links → AllByRecursion (IsWellTold printing) (values_of entry) → Demands (text_links printing.v6 links) (texts_of printing.v6 entry) → Demands links entry
demand_back printing links (Begin link) exact values h = mapped_none (text_rows printing.v6) (links link) h
demand_back printing links (Inherit link from) exact values h = (mapped_none (text_rows printing.v6) (links link) h.0, mapped_is_some (text_rows printing.v6) (links from) h.1)
demand_back printing links (Add link p new) exact values h = row_back printing links link p None exact (no_values printing) h
demand_back printing links (Delete link p old) exact values h = row_back printing links link p (Some old) exact (one_value printing old values.0) h
demand_back printing links (Replace link p old new) exact values h = (row_back printing links link p (Some old) exact (one_value printing old values.0) h.0, λ same. h.1 (ap (value_text printing.v6) same))
demand_back printing links (Asked link p row) exact values h = row_back printing links link p row exact (answer_value printing row values) h
demand_back printing links (Weld upper lower) exact values h = (h.0, same_back printing links upper lower exact h.1)
demand_back printing links (End link) exact values h = mapped_is_some (text_rows printing.v6) (links link) h

-- ---- what it makes of the links

link_exact : (printing : Printing) (links : Links Value) (link : Link) (rows : Option (Rows Value)) → AreExactLinks printing links → ((r : Rows Value) → rows ≡ Some r → AreExactRows printing r) → AreExactLinks printing (with_link links link rows)
link_exact printing links link rows exact here q r is = by (same_link q link) is
  where
    by : (b : Bool) → cond b rows (links q) ≡ Some r → AreExactRows printing r
    by true e = here r e
    by false e = exact q r e

with_row_exact : (printing : Printing) (rows : Rows Value) (p : AddressPrefix) (row : Option Value) → AreExactRows printing rows → IsExactIfAny printing row → AreExactRows printing (with_row rows p row)
with_row_exact printing rows p row exact here q value is = by (eq_by_cmp prefix_cmp q p) is
  where
    by : (b : Bool) → cond b row (rows q) ≡ Some value → IsWellTold printing value
    by true e = here value e
    by false e = exact q value e

row_exact : (printing : Printing) (links : Links Value) (link : Link) (p : AddressPrefix) (row : Option Value) → AreExactLinks printing links → IsExactIfAny printing row → AreExactLinks printing (with_row_on links link p row)
row_exact printing links link p row exact here =
    link_exact printing links link (option_map (λ rows. with_row rows p row) (links link)) exact (λ r is.
    let s = mapped_some (λ (rows : Rows Value). with_row rows p row) (links link) r is in
    subst (AreExactRows printing) s.2 (with_row_exact printing s.0 p row (exact link s.0 s.1) here))

no_link : (printing : Printing) (r : Rows Value) → ◌≡◌ {A = Option (Rows Value)} None (Some r) → AreExactRows printing r
no_link printing r e = absurd (not_some r e)

empty_exact : (printing : Printing) (r : Rows Value) → ◌≡◌ {A = Option (Rows Value)} (Some no_rows) (Some r) → AreExactRows printing r
empty_exact printing r e = subst (AreExactRows printing) (some_same no_rows r e) (λ p value is. absurd (not_some value is))

after_exact : (printing : Printing) (links : Links Value) (entry : Entry Value) → AreExactLinks printing links → AllByRecursion (IsWellTold printing) (values_of entry) → AreExactLinks printing (after links entry)
after_exact printing links (Begin link) exact values = link_exact printing links link (Some no_rows) exact (empty_exact printing)
after_exact printing links (Inherit link from) exact values = link_exact printing links link (links from) exact (exact from)
after_exact printing links (Add link p new) exact values = row_exact printing links link p (Some new) exact (one_value printing new values.0)
after_exact printing links (Delete link p old) exact values = row_exact printing links link p None exact (no_values printing)
after_exact printing links (Replace link p old new) exact values = row_exact printing links link p (Some new) exact (one_value printing new values.1.0)
after_exact printing links (Asked link p row) exact values = exact
after_exact printing links (Weld upper lower) exact values = link_exact printing links upper None exact (no_link printing)
after_exact printing links (End link) exact values = link_exact printing links link None exact (no_link printing)

-- ---- walks

lawful_back : (printing : Printing) (links : Links Value) (entries : List (Entry Value)) → AreExactLinks printing links → AllByRecursion (λ e. AllByRecursion (IsWellTold printing) (values_of e)) entries → IsLawful (text_links printing.v6 links) (text_entries printing.v6 entries) → IsLawful links entries
lawful_back printing links [] exact values lawful = tt
lawful_back printing links (e ∷ entries) exact values lawful = (
  demand_back printing links e exact values.0 lawful.0,
  lawful_back printing (after links e) entries (after_exact printing links e exact values.0) values.1
      (subst (λ (l : Links (List ℕ)). IsLawful l (text_entries printing.v6 entries)) (after_texts printing.v6 links e) lawful.1),
)

nothing_exact : (printing : Printing) → AreExactLinks printing no_links
nothing_exact printing link rows is = absurd (not_some rows is)

pub walks_told : TextsTellWalks
walks_told printing entries exact = (lawful_texts printing no_links entries exact, lawful_back printing no_links entries (nothing_exact printing) exact)
