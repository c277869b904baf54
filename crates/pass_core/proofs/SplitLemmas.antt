-- Rows that are made in two ways, beyond a place and up to it.
use Rattle.std.proofs.Common.{◌≡◌, ◌⊎◌, inl, inr, Bool, true, false, cond, Option, Some, None, refl, sym, ap, ◌∙◌}
use Rattle.std.specs.Ordering.{is_lt, is_eq, ordering_reverse}
use Rattle.std.specs.declared.cmp.Ordering.{Ordering}
use Rattle.std.specs.declared.cmp.Ordering.TheVariants.{Less, Equal, Greater}
use Rattle.addr4.specs.Prefixes.{AddressPrefix, prefix_cmp, ComesBefore}
use Rattle.addr4.specs.Places.{IsBeyond}
use Rattle.addr4.proofs.PrefixOrder.{by_prefix, itself, prefixes_total, exact_prefixes}
use Rattle.link_change.specs.Rows.{Rows, with_row, Candidates, IsNextCandidate, CoversRows, computed_rows}
use Rattle.link_change.proofs.RowLemmas.{same_function}
use Rattle.link_change.proofs.ChangeLemmas.{change_sent}
use Rattle.pass_core.specs.Passed.{is_beyond}
use Rattle.pass_core.specs.Split.{split, MakesNone}
use Rattle.pass_core.specs.Laws.{SplitBegins, SplitBeyond, SplitBehind, SplitSteps, SplitSends, SplitEnds}

-- ---- the order of prefixes
lesser : (o : Ordering) → (o ≡ Less) ⊎ (is_lt o ≡ false)
lesser Less = inl refl
lesser Equal = inr refl
lesser Greater = inr refl

pub sides : (place : Option AddressPrefix) (q : AddressPrefix) → IsBeyond place q ⊎ (is_beyond place q ≡ false)
sides None q = inl tt
sides (Some p) q = lesser (prefix_cmp p q)

pub beyond_so : (place : Option AddressPrefix) (q : AddressPrefix) → IsBeyond place q → is_beyond place q ≡ true
beyond_so None q h = refl
beyond_so (Some p) q h = ap is_lt h

-- before it, at it or behind it
three_ways : (q p : AddressPrefix) → ComesBefore q p ⊎ ((q ≡ p) ⊎ ComesBefore p q)
three_ways q p = by (prefix_cmp q p) refl
  where
    by : (o : Ordering) → prefix_cmp q p ≡ o → ComesBefore q p ⊎ ((q ≡ p) ⊎ ComesBefore p q)
    by Less e = inl e
    by Equal e = inr (inl (exact_prefixes q p e))
    by Greater e = inr (inr (prefixes_total.antisymm p q ∙ ap ordering_reverse e))

-- what lies beyond a prefix beyond the place lies beyond the place
further : (place : Option AddressPrefix) (p q : AddressPrefix) → IsBeyond place p → ComesBefore p q → IsBeyond place q
further None p q h k = tt
further (Some l) p q h k = prefixes_total.trans l p q h k

not_both : (b : Bool) → b ≡ true → b ≡ false → ⊥
not_both b h k = let e : true ≡ false = sym h ∙ k in cc

not_beyond_so : (place : Option AddressPrefix) (q : AddressPrefix) → (IsBeyond place q → ⊥) → is_beyond place q ≡ false
not_beyond_so place q h = by (sides place q)
  where
    by : IsBeyond place q ⊎ (is_beyond place q ≡ false) → is_beyond place q ≡ false
    by (inl beyond) = absurd (h beyond)
    by (inr e) = e

-- a prefix isn't beyond itself
pub at_itself : (p : AddressPrefix) → is_beyond (Some p) p ≡ false
at_itself p = by (sides (Some p) p)
  where
    by : IsBeyond (Some p) p ⊎ (is_beyond (Some p) p ≡ false) → is_beyond (Some p) p ≡ false
    by (inl less) = absurd (let e : false ≡ true = sym (ap is_eq less) ∙ itself p in cc)
    by (inr e) = e

module _ {A B : Type 0} (in_force fresh : AddressPrefix → Option A → Option B) where
  pub split_beyond : (place : Option AddressPrefix) (q : AddressPrefix) (row : Option A) → is_beyond place q ≡ true → split in_force fresh place q row ≡ in_force q row
  split_beyond place q row e = ap (λ b. cond b (in_force q row) (fresh q row)) e

  pub split_behind : (place : Option AddressPrefix) (q : AddressPrefix) (row : Option A) → is_beyond place q ≡ false → split in_force fresh place q row ≡ fresh q row
  split_behind place q row e = ap (λ b. cond b (in_force q row) (fresh q row)) e

  module _ (old_none : MakesNone in_force) (new_none : MakesNone fresh) (candidates : Candidates) (upper : Rows A) (covers : CoversRows candidates upper) where
    split_none : (place : Option AddressPrefix) (q : AddressPrefix) → split in_force fresh place q None ≡ None
    split_none place q = elim (is_beyond place q) as (λ b. cond b (in_force q None) (fresh q None) ≡ None) [ true ↦ old_none q | false ↦ new_none q ]

    -- where no candidate is, no row is below, wherever the walk stands
    bare : (place : Option AddressPrefix) (q : AddressPrefix) → candidates q ≡ false → split in_force fresh place q (upper q) ≡ None
    bare place q none = ap (split in_force fresh place q) (covers q none) ∙ split_none place q

    -- a step changes the row at the candidate alone
    step_at : (place : Option AddressPrefix) (p q : AddressPrefix) → IsNextCandidate candidates place (Some p) → (q ≡ p → ⊥)
        → IsBeyond place q ⊎ (is_beyond place q ≡ false) → IsBeyond (Some p) q ⊎ (is_beyond (Some p) q ≡ false)
        → split in_force fresh (Some p) q (upper q) ≡ split in_force fresh place q (upper q)
    step_at place p q least apart (inl beyond) (inl past) =
        split_beyond (Some p) q (upper q) (beyond_so (Some p) q past) ∙ sym (split_beyond place q (upper q) (beyond_so place q beyond))
    step_at place p q least apart (inl beyond) (inr e) =
        let none = between (three_ways q p) in bare (Some p) q none ∙ sym (bare place q none)
      where
        between : ComesBefore q p ⊎ ((q ≡ p) ⊎ ComesBefore p q) → candidates q ≡ false
        between (inl before) = least.2 q beyond before
        between (inr (inl same)) = absurd (apart same)
        between (inr (inr after)) = absurd (not_both (is_beyond (Some p) q) (beyond_so (Some p) q after) e)
    step_at place p q least apart (inr e) (inl past) =
        absurd (not_both (is_beyond place q) (beyond_so place q (further place p q least.0 past)) e)
    step_at place p q least apart (inr e) (inr behind) =
        split_behind (Some p) q (upper q) behind ∙ sym (split_behind place q (upper q) e)

    pub steps : (place : Option AddressPrefix) (p : AddressPrefix) → IsNextCandidate candidates place (Some p)
        → computed_rows (split in_force fresh (Some p)) upper ≡ with_row (computed_rows (split in_force fresh place) upper) p (fresh p (upper p))
    steps place p least = same_function _ _ (λ q.
        by_prefix q p (λ b. split in_force fresh (Some p) q (upper q) ≡ cond b (fresh p (upper p)) (split in_force fresh place q (upper q)))
        (λ same. ap (λ k. split in_force fresh (Some p) k (upper k)) same ∙ split_behind (Some p) p (upper p) (at_itself p))
        (λ apart. step_at place p q least apart (sides place q) (sides (Some p) q)))

    end_at : (place : Option AddressPrefix) (q : AddressPrefix) → IsNextCandidate candidates place None → IsBeyond place q ⊎ (is_beyond place q ≡ false)
        → split in_force fresh place q (upper q) ≡ fresh q (upper q)
    end_at place q least (inl beyond) = let none = least q beyond in bare place q none ∙ sym (ap (fresh q) (covers q none) ∙ new_none q)
    end_at place q least (inr e) = split_behind place q (upper q) e

    pub ends : (place : Option AddressPrefix) → IsNextCandidate candidates place None → computed_rows (split in_force fresh place) upper ≡ computed_rows fresh upper
    ends place least = same_function _ _ (λ q. end_at place q least (sides place q))

pub split_begins : {A B : Type 0} → SplitBegins A B
split_begins in_force fresh upper = refl

pub split_is_in_force : {A B : Type 0} → SplitBeyond A B
split_is_in_force in_force fresh place upper q beyond = split_beyond in_force fresh place q (upper q) (beyond_so place q beyond)

pub split_is_fresh : {A B : Type 0} → SplitBehind A B
split_is_fresh in_force fresh place upper q behind = split_behind in_force fresh place q (upper q) (not_beyond_so place q behind)

pub split_steps : {A B : Type 0} → SplitSteps A B
split_steps in_force fresh candidates upper place p old_none new_none covers least = steps in_force fresh old_none new_none candidates upper covers place p least

pub split_sends : {A B : Type 0} → SplitSends A B
split_sends in_force fresh candidates upper place p sent old_none new_none covers least is =
    change_sent _ _ p (in_force p (upper p)) (fresh p (upper p)) sent
    (split_beyond in_force fresh place p (upper p) (beyond_so place p least.0))
    (steps in_force fresh old_none new_none candidates upper covers place p least) is

pub split_ends : {A B : Type 0} → SplitEnds A B
split_ends in_force fresh candidates upper place old_none new_none covers least = ends in_force fresh old_none new_none candidates upper covers place least
