-- Messages that go down one way and then another.
use Rattle.std.proofs.Common.{◌≡◌, List, [], ◌∷◌, ◌++◌, Option, Some, None, refl, ap, ◌∙◌}
use Rattle.std.specs.Option.{option_map}
use Rattle.addr4.specs.Prefixes.{AddressPrefix}
use Rattle.link_change.specs.Rows.{Rows}
use Rattle.link_change.specs.Changes.{IsSent}
use Rattle.link_change.specs.Changes.{Change}
use Rattle.journal_text.specs.declared.link.Link.{Link}
use Rattle.journal_text.specs.Lines.{Value}
use Rattle.journal_text.specs.Values.{sent_entries}
use Rattle.journal_text.specs.Lines.{Entry}
use Rattle.journal_text.specs.Falls.{IsWhole, IsCut, GoesDown}
use Rattle.journal_text.specs.Journals.{Journaled, with_entries}
use Rattle.journal_text.specs.Walk.{change_entries}
use Rattle.journal_text.proofs.JournalLemmas.{with_entries_append}

pub and_then : (j mid now : Journaled) (xs ys : List (Entry Value)) → mid ≡ with_entries j xs → now ≡ with_entries mid ys → now ≡ with_entries j (xs ++ ys)
and_then j mid now xs ys first second = second ∙ ap (λ (m : Journaled). with_entries m ys) first ∙ with_entries_append j xs ys

whole_append : (p : AddressPrefix) (xs ys : List Link) (es fs : List (Entry Value)) → IsWhole p xs es → IsWhole p ys fs → IsWhole p (xs ++ ys) (es ++ fs)
whole_append p [] ys [] fs h k = k
whole_append p [] ys (e ∷ es) fs h k = absurd h
whole_append p (x ∷ xs) ys [] fs h k = absurd h
whole_append p (x ∷ xs) ys (e ∷ es) fs h k = (h.0, whole_append p xs ys es fs h.1 k)

cut_append : (p : AddressPrefix) (xs ys : List Link) (es fs : List (Entry Value)) → IsWhole p xs es → IsCut p ys fs → IsCut p (xs ++ ys) (es ++ fs)
cut_append p [] ys [] fs h k = k
cut_append p [] ys (e ∷ es) fs h k = absurd h
cut_append p (x ∷ xs) ys [] fs h k = absurd h
cut_append p (x ∷ xs) ys (e ∷ es) fs h k = (h.0, cut_append p xs ys es fs h.1 k)

-- what goes no further than a way goes no further than a longer one
pub cut_before : (p : AddressPrefix) (xs ys : List Link) (es : List (Entry Value)) → IsCut p xs es → IsCut p (xs ++ ys) es
cut_before p [] ys es h = absurd h
cut_before p (x ∷ xs) ys [] h = tt
cut_before p (x ∷ xs) ys (e ∷ es) h = (h.0, cut_before p xs ys es h.1)

-- a change that came down so far goes on by what comes of it below
pub goes_on : {R S : Type 0} (p : AddressPrefix) (way below : List Link) (change : Change R) (es last : List (Entry Value)) (sent : Option (Change S))
    → GoesDown p way (Some change) es → GoesDown p below sent last → GoesDown p (way ++ below) sent (es ++ last)
goes_on p way below change es last None down is = cut_append p way below es last down.1 is
goes_on p way below change es last (Some next) down is = (is.0, whole_append p way below es last down.1 is.1)

-- the entry of a change is one change at its prefix
one_entry : {R : Type 0} (value : R → Value) (out : Link) (at p : AddressPrefix) (before after : Option R) → at ≡ p → (after ≡ before → ⊥) → IsWhole p (out ∷ []) (change_entries out at (option_map value before) (option_map value after))
one_entry value out at p None None e differ = absurd (differ refl)
one_entry value out at p None (Some new) e differ = ((refl, e), tt)
one_entry value out at p (Some old) None e differ = ((refl, e), tt)
one_entry value out at p (Some old) (Some new) e differ = ((refl, e), tt)

pub goes_out : {R : Type 0} (value : R → Value) (out : Link) (old new : Rows R) (p : AddressPrefix) (sent : Option (Change R)) → IsSent old new p sent → GoesDown p (out ∷ []) sent (sent_entries value out sent)
goes_out value out old new p None is = tt
goes_out value out old new p (Some change) is = (is.0, one_entry value out change.prefix p change.before change.after is.0 is.1.1)
