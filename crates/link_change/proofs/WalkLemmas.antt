-- A walk over some of the candidates of another: it goes on from candidate to candidate of the other until it finds one of its own.
use Rattle.std.proofs.Common.{◌≡◌, Bool, true, false, Option, Some, None, refl, ap, ◌∙◌}
use Rattle.std.specs.Ordering.{ordering_reverse}
use Rattle.std.specs.declared.cmp.Ordering.{Ordering}
use Rattle.std.specs.declared.cmp.Ordering.TheVariants.{Less, Equal, Greater}
use Rattle.addr4.specs.Prefixes.{AddressPrefix, prefix_cmp, ComesBefore}
use Rattle.addr4.specs.Places.{IsBeyond}
use Rattle.addr4.proofs.PrefixOrder.{prefixes_total, exact_prefixes}
use Rattle.addr4.proofs.RankLemmas.{further}
use Rattle.link_change.specs.Rows.{Candidates, IsNextCandidate}

module _ (all own : Candidates) (none_else : (q : AddressPrefix) → all q ≡ false → own q ≡ false) where
  -- none is left
  pub none_more : (place : Option AddressPrefix) → IsNextCandidate all place None → IsNextCandidate own place None
  none_more place next q more = none_else q (next q more)

  -- the next one is its own
  pub one_found : (place : Option AddressPrefix) (p : AddressPrefix) → IsNextCandidate all place (Some p) → own p ≡ true → IsNextCandidate own place (Some p)
  one_found place p next is = (next.0, is, λ q more less. none_else q (next.2 q more less))

  -- it isn't, so the walk goes on
  module _ (place : Option AddressPrefix) (p : AddressPrefix) (next : IsNextCandidate all place (Some p)) (none : own p ≡ false) where
    by_order : (q : AddressPrefix) → IsBeyond place q → (ComesBefore p q → own q ≡ false) → (o : Ordering) → prefix_cmp q p ≡ o → own q ≡ false
    by_order q more later Less e = none_else q (next.2 q more e)
    by_order q more later Equal e = ap own (exact_prefixes q p e) ∙ none
    by_order q more later Greater e = later (prefixes_total.antisymm p q ∙ ap ordering_reverse e)

    pub goes_on : (result : Option AddressPrefix) → IsNextCandidate own (Some p) result → IsNextCandidate own place result
    goes_on None is = λ q more. by_order q more (λ later. is q later) (prefix_cmp q p) refl
    goes_on (Some r) is = (further place p r next.0 is.0, is.1, λ q more less. by_order q more (λ later. is.2 q later less) (prefix_cmp q p) refl)
