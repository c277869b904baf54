-- The walk's links, as the maps change.
use Rattle.std.proofs.Common.{◌≡◌, ℕ, ◌&&◌, Bool, true, false, cond, nat_eq, List, Option, Some, None, option_map, refl, sym, ap, ◌∙◌, arith}
use Rattle.std.proofs.lemmas.Bool.Decides.{nat_tests}
use Rattle.std.proofs.lemmas.Grind.{common_steps}
use Rattle.std.specs.Ordering.{nat_cmp, eq_by_cmp, is_eq, ordering_then}
use Rattle.std.specs.declared.cmp.Ordering.{Ordering}
use Rattle.std.specs.declared.cmp.Ordering.TheVariants.{Less, Equal, Greater}
use Rattle.std.specs.FinMap as map
use Rattle.std.specs.FinMap.{get-insert, get-remove, get-empty}
use Rattle.addr4.specs.Prefixes.{AddressPrefix}
use Rattle.link_change.specs.Rows.{Rows, no_rows, with_row}
use Rattle.link_change.proofs.RowLemmas.{same_function, empty_rows}
use Rattle.journal_text.specs.Links.{same_link, kind_of, owner_of, number_of}
use Rattle.journal_text.specs.Walk.{Links, no_links, with_link, with_row_on}
use Rattle.journal_text.specs.declared.link.Link.{Link}
use Rattle.journal_text.proofs.LinkLemmas.{same_link-yes}
use Rattle.journal_check.specs.Maps.{key_of, key_cmp, LinkMap, RowMap, links_of}
use Rattle.journal_check.proofs.KeyLemmas.{keys_total}

tie_then : (a b : Ordering) → is_eq (ordering_then a b) ≡ (is_eq a && is_eq b)
tie_then Less b = refl
tie_then Equal b = refl
tie_then Greater b = refl

tied_numbers : (x y : ℕ) → is_eq (nat_cmp x y) ≡ nat_eq x y
tied_numbers x y = grind (arith, common_steps, nat_tests)

-- the keys of two links tie where the links are the same
pub keys_tie : (a b : Link) → eq_by_cmp key_cmp (key_of a) (key_of b) ≡ same_link a b
keys_tie a b =
    tie_then (nat_cmp (kind_of a) (kind_of b)) (ordering_then (nat_cmp (owner_of a) (owner_of b)) (nat_cmp (number_of a) (number_of b)))
    ∙ (λ i. tied_numbers (kind_of a) (kind_of b) i && ((tie_then (nat_cmp (owner_of a) (owner_of b)) (nat_cmp (number_of a) (number_of b)) ∙ (λ j. tied_numbers (owner_of a) (owner_of b) j && tied_numbers (number_of a) (number_of b) j)) i))

mapped_choice : {A B : Type 0} (f : A → B) (b : Bool) (x y : Option A) → option_map f (cond b x y) ≡ cond b (option_map f x) (option_map f y)
mapped_choice f true x y = refl
mapped_choice f false x y = refl

pub links_put : (m : LinkMap) (link : Link) (rows : RowMap) → links_of (map.insert m (key_of link) rows) ≡ with_link (links_of m) link (Some (map.get rows))
links_put m link rows = same_function _ _ (λ (q : Link).
    ap (option_map map.get) (get-insert keys_total m (key_of link) rows (key_of q))
    ∙ (mapped_choice map.get (eq_by_cmp key_cmp (key_of q) (key_of link)) (Some rows) (map.get m (key_of q))
    ∙ ap (λ b. cond b (Some (map.get rows)) (links_of m q)) (keys_tie q link)))

pub links_taken : (m : LinkMap) (link : Link) → links_of (map.remove m (key_of link)) ≡ with_link (links_of m) link None
links_taken m link = same_function _ _ (λ (q : Link).
    ap (option_map map.get) (get-remove keys_total m (key_of link) (key_of q))
    ∙ (mapped_choice map.get (eq_by_cmp key_cmp (key_of q) (key_of link)) None (map.get m (key_of q))
    ∙ ap (λ b. cond b None (links_of m q)) (keys_tie q link)))

pub links_begin : links_of map.empty ≡ no_links
links_begin = same_function _ _ (λ (q : Link). ap (option_map map.get) (get-empty key_cmp (key_of q)))

-- the link begins without rows
pub begun : (m n : LinkMap) (link : Link) (rows : RowMap) → rows ≡ map.empty → n ≡ map.insert m (key_of link) rows → links_of n ≡ with_link (links_of m) link (Some no_rows)
begun m n link rows none is = ap links_of is ∙ (links_put m link rows ∙ ap (λ (r : Rows (List ℕ)). with_link (links_of m) link (Some r)) (ap map.get none ∙ empty_rows))

-- the link begins with the rows of another
pub inherited : (m n : LinkMap) (link from : Link) (rows copy : RowMap) → Some rows ≡ map.get m (key_of from) → copy ≡ rows → n ≡ map.insert m (key_of link) copy → links_of n ≡ with_link (links_of m) link (links_of m from)
inherited m n link from rows copy has same is =
    ap links_of is ∙ (links_put m link copy ∙ ap (with_link (links_of m) link) (ap (λ r. Some (map.get r)) same ∙ ap (option_map map.get) has))

pub inherited_none : (m n : LinkMap) (link from : Link) → map.get m (key_of from) ≡ None → n ≡ map.remove m (key_of link) → links_of n ≡ with_link (links_of m) link (links_of m from)
inherited_none m n link from none is = ap links_of is ∙ (links_taken m link ∙ ap (with_link (links_of m) link) (sym (ap (option_map map.get) none)))

-- a row of a link that is live is set, or taken out
pub row_set : (m n : LinkMap) (link : Link) (rows now : RowMap) (p : AddressPrefix) (row : Option (List ℕ)) → Some rows ≡ map.get m (key_of link) → map.get now ≡ with_row (map.get rows) p row → n ≡ map.insert m (key_of link) now
    → links_of n ≡ with_row_on (links_of m) link p row
row_set m n link rows now p row has set put =
    ap links_of put ∙ (links_put m link now
    ∙ ap (with_link (links_of m) link) (ap (λ (r : Rows (List ℕ)). Some r) set ∙ ap (λ (f : Option (Rows (List ℕ))). option_map (λ rs. with_row rs p row) f) (ap (option_map map.get) has)))

not_live : (links : Links (List ℕ)) (link q : Link) → links link ≡ None → links q ≡ with_link links link None q
not_live links link q none = by_same (same_link q link) refl
  where
    by_same : (same : Bool) → same_link q link ≡ same → links q ≡ cond same None (links q)
    by_same true is = ap links (same_link-yes q link is) ∙ none
    by_same false is = refl

-- a link that isn't live has no row
pub row_unset : (m n : LinkMap) (link : Link) (p : AddressPrefix) (row : Option (List ℕ)) → n ≡ m → map.get m (key_of link) ≡ None → links_of n ≡ with_row_on (links_of m) link p row
row_unset m n link p row same none =
    let gone : links_of m link ≡ None = ap (option_map map.get) none in
    ap links_of same ∙ (same_function _ _ (λ (q : Link). not_live (links_of m) link q gone)
    ∙ ap (with_link (links_of m) link) (sym (ap (λ (f : Option (Rows (List ℕ))). option_map (λ rs. with_row rs p row) f) gone)))
