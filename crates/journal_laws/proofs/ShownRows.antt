-- The rows of a link, one after the other, and lines that are pushed and flushed.
use Rattle.std.proofs.Common.{◌≡◌, ◌⊎◌, ℕ, List, [], ◌∷◌, ◌++◌, map, Option, Some, None, refl, sym, ap, subst, ◌∙◌, inl, inr, append-nil, append_assoc}
use Rattle.std.specs.Prelude.{IsSome, Contains}
use Rattle.std.specs.List.{AllByRecursion}
use Rattle.std.specs.List.Sorted.{IsStrictlySortedBy}
use Rattle.std.specs.Ordering.{ordering_reverse}
use Rattle.std.specs.declared.cmp.Ordering.{Ordering}
use Rattle.std.specs.declared.cmp.Ordering.TheVariants.{Less, Equal, Greater}
use Rattle.std.proofs.lemmas.List.{map-append}
use Rattle.std.proofs.lemmas.List.Elements.{Contains-push, Contains-append_left}
use Rattle.addr4.specs.Prefixes.{AddressPrefix, prefix_cmp, ComesBefore}
use Rattle.addr4.specs.Places.{IsBeyond, beyond}
use Rattle.addr4.proofs.PrefixOrder.{prefixes_total, exact_prefixes}
use Rattle.addr4.proofs.RankLemmas.{further}
use Rattle.loss_chain.proofs.ListLemmas.{all_appended}
use Rattle.link_change.specs.Rows.{Rows, Candidates, IsNextCandidate, CoversRows}
use Rattle.journal_text.specs.Lines.{Value}
use Rattle.journal_text.specs.Lines.{Line}
use Rattle.journal_text.specs.Journals.{Journaled, with_lines, flushed}
use Rattle.journal_text.specs.Texts.{text_of}
use Rattle.journal_text.proofs.JournalLemmas.{text_of_append}

-- a prefix lies beyond the place, or is listed
abbrev IsAhead : Option AddressPrefix → List (AddressPrefix × Value) → AddressPrefix → Type 0
IsAhead place listed q = IsBeyond place q ⊎ Contains (map (λ r. r.0) listed) q

-- these are all rows up to a place
pub record IsShown (rows : Rows Value) (place : Option AddressPrefix) (listed : List (AddressPrefix × Value)) : Type 0 where
  pub order : IsStrictlySortedBy prefix_cmp (map (λ r. r.0) listed)
  pub before : (p : AddressPrefix) → IsBeyond place p → AllByRecursion (λ q. ComesBefore q p) (map (λ r. r.0) listed)
  pub each : AllByRecursion (λ r. rows r.0 ≡ Some r.1) listed
  pub rest : (q : AddressPrefix) → IsSome (rows q) → IsBeyond place q ⊎ Contains (map (λ r. r.0) listed) q

pub none_shown : (rows : Rows Value) → IsShown rows None []
unfolding IsStrictlySortedBy
none_shown rows = record { order = tt; before = λ p _. tt; each = tt; rest = λ q _. inl tt }

sorted_push : (ks : List AddressPrefix) (p : AddressPrefix) → IsStrictlySortedBy prefix_cmp ks → AllByRecursion (λ q. ComesBefore q p) ks → IsStrictlySortedBy prefix_cmp (ks ++ p ∷ [])
unfolding IsStrictlySortedBy
sorted_push [] p sorted before = (tt, tt)
sorted_push (k ∷ ks) p sorted before = (all_appended (λ q. prefix_cmp k q ≡ Less) (λ q. prefix_cmp k q ≡ Less) (λ q less. less) ks p sorted.0 before.0, sorted_push ks p sorted.1 before.1)

prefixes_push : (listed : List (AddressPrefix × Value)) (p : AddressPrefix) (v : Value) → map (λ r. r.0) (listed ++ (p, v) ∷ []) ≡ map (λ r. r.0) listed ++ p ∷ []
prefixes_push listed p v = map-append (λ r. r.0) listed ((p, v) ∷ [])

module _ (candidates : Candidates) (rows : Rows Value) (covers : CoversRows candidates rows) where
  -- one row more, at the next candidate
  pub one_shown : (place : Option AddressPrefix) (listed : List (AddressPrefix × Value)) (p : AddressPrefix) (v : Value) → IsNextCandidate candidates place (Some p) → rows p ≡ Some v → IsShown rows place listed
      → IsShown rows (Some p) (listed ++ (p, v) ∷ [])
  one_shown place listed p v next row is = record {
    order = subst (IsStrictlySortedBy prefix_cmp) push (sorted_push ks p is.order (is.before p next.0));
    before = λ q beyond. subst (AllByRecursion (λ k. ComesBefore k q)) push (all_appended (λ k. ComesBefore k q) (λ k. ComesBefore k q) (λ k less. less) ks p (is.before q (further place p q next.0 beyond)) beyond);
    each = all_appended (λ r. rows r.0 ≡ Some r.1) (λ r. rows r.0 ≡ Some r.1) (λ r is. is) listed (p, v) is.each row;
    rest = λ q some. by_rest q some (is.rest q some);
  }
    where
      ks : List AddressPrefix
      ks = map (λ r. r.0) listed

      push : ks ++ p ∷ [] ≡ map (λ r. r.0) (listed ++ (p, v) ∷ [])
      push = sym (prefixes_push listed p v)

      by_order : (q : AddressPrefix) (o : Ordering) → prefix_cmp q p ≡ o → IsSome (rows q) → IsBeyond place q → IsAhead (Some p) (listed ++ (p, v) ∷ []) q
      by_order q Less e some beyond = let none : rows q ≡ None = covers q (next.2 q beyond e) in absurd (cc)
      by_order q Equal e some beyond = inr (subst (λ ks. Contains ks q) push (subst (λ k. Contains (ks ++ k ∷ []) q) (exact_prefixes q p e) (Contains-push ks q)))
      by_order q Greater e some beyond = inl (prefixes_total.antisymm p q ∙ ap ordering_reverse e)

      by_rest : (q : AddressPrefix) → IsSome (rows q) → IsBeyond place q ⊎ Contains ks q → IsAhead (Some p) (listed ++ (p, v) ∷ []) q
      by_rest q some (inl beyond) = by_order q (prefix_cmp q p) refl some beyond
      by_rest q some (inr there) = inr (subst (λ ks. Contains ks q) push (Contains-append_left ks (p ∷ []) q there))

  -- none more, where the next candidate has no row
  pub none_more : (place : Option AddressPrefix) (listed : List (AddressPrefix × Value)) (p : AddressPrefix) → IsNextCandidate candidates place (Some p) → rows p ≡ None → IsShown rows place listed
      → IsShown rows (Some p) listed
  none_more place listed p next none is = record {
    order = is.order;
    before = λ q beyond. is.before q (further place p q next.0 beyond);
    each = is.each;
    rest = λ q some. by_rest q some (is.rest q some);
  }
    where
      by_order : (q : AddressPrefix) (o : Ordering) → prefix_cmp q p ≡ o → IsSome (rows q) → IsBeyond place q → IsAhead (Some p) listed q
      by_order q Less e some beyond = let none : rows q ≡ None = covers q (next.2 q beyond e) in absurd (cc)
      by_order q Equal e some beyond = let here : rows q ≡ None = ap rows (exact_prefixes q p e) ∙ none in absurd (cc)
      by_order q Greater e some beyond = inl (prefixes_total.antisymm p q ∙ ap ordering_reverse e)

      by_rest : (q : AddressPrefix) → IsSome (rows q) → IsBeyond place q ⊎ Contains (map (λ r. r.0) listed) q → IsAhead (Some p) listed q
      by_rest q some (inl beyond) = by_order q (prefix_cmp q p) refl some beyond
      by_rest q some (inr there) = inr there

  -- where no candidate is left, these are all rows
  pub none_left : (place : Option AddressPrefix) (listed : List (AddressPrefix × Value)) → IsNextCandidate candidates place None → IsShown rows place listed → (q : AddressPrefix) → IsSome (rows q) → Contains (map (λ r. r.0) listed) q
  none_left place listed none is q some = by_rest (is.rest q some)
    where
      by_rest : IsBeyond place q ⊎ Contains (map (λ r. r.0) listed) q → Contains (map (λ r. r.0) listed) q
      by_rest (inl beyond) = let no : rows q ≡ None = covers q (none q beyond) in absurd (cc)
      by_rest (inr there) = there

-- ---- lines that are pushed, and flushed
abbrev text_with : Journaled → List ℕ → Journaled
text_with j text = record { text = text; pending = []; quiet = j.quiet; v6 = j.v6 }

pub flushed_join : (j : Journaled) (a b : List Line) → flushed (with_lines (flushed (with_lines j a)) b) ≡ flushed (with_lines j (a ++ b))
flushed_join j a b = ap (text_with j)
    (append_assoc j.text (j.pending ++ text_of j.v6 j.quiet a) (text_of j.v6 j.quiet b)
    ∙ ap (λ (t : List ℕ). j.text ++ t) (append_assoc j.pending (text_of j.v6 j.quiet a) (text_of j.v6 j.quiet b) ∙ ap (λ (t : List ℕ). j.pending ++ t) (sym (text_of_append j.v6 j.quiet a b))))

pub flushed_none : (j : Journaled) → flushed j ≡ flushed (with_lines j [])
flushed_none j = ap (λ (t : List ℕ). text_with j (j.text ++ t)) (sym (append-nil j.pending))

pub with_none : (j : Journaled) → j ≡ with_lines j []
with_none j = ap (λ pending. record { text = j.text; pending = pending; quiet = j.quiet; v6 = j.v6 }) (sym (append-nil j.pending))
