-- A walk over what the forwarding side has: it goes on from candidate to candidate until there is a row that forwarding needs.
use Rattle.router_moments.proofs.Common.{ℕ, read_rows, sym, ◌∙◌, ap, ◌≡◌, refl, true, false, Bool, AddressPrefix, Route, Rows, Candidates, IsNextCandidate, CoversRows}
use Rattle.std.proofs.Common.{Option, Some, None, is_some, Bor}
use Rattle.std.specs.Option.{option_copied}
use Rattle.link_change.specs.Rows.{with_rows}
use Rattle.link_change.proofs.WalkLemmas as walk
use Rattle.rib_route.specs.Rows.{External}
use Rattle.rib_split.specs.Splitting.{external_row}
use Rattle.fanout_queue.specs.Queues.{Queued}
use Rattle.router_moments.specs.Moments.{read_rows_by}

-- those of the reader, where there is one
pub read_by_one : (queued : Queued Route) (reader : Option (Bor ℕ)) (r : Bor ℕ) (best : Rows Route) → reader ≡ Some r → read_rows_by queued (option_copied reader) best ≡ read_rows queued r.now best
read_by_one queued reader r best is = ap (λ (o : Option (Bor ℕ)). read_rows_by queued (option_copied o) best) is

module _ (rows : Rows Route) where
  -- the prefixes where forwarding needs something
  abbrev pub needed : Candidates
  needed = with_rows (λ q. external_row (rows q))

  -- whether it does at the prefix that was asked for
  pub tested : (q : AddressPrefix) (row : Option External) (found b : Bool) → row ≡ external_row (rows q) → found ≡ is_some row → found ≡ b → needed q ≡ b
  tested q row found b at is test = ap is_some (sym at) ∙ sym is ∙ test

  module _ (candidates : Candidates) (covers : CoversRows candidates rows) where
    not_needed : (q : AddressPrefix) → candidates q ≡ false → needed q ≡ false
    not_needed q none = ap (λ (row : Option Route). is_some (external_row row)) (covers q none)

    -- none is left
    pub none_more : (place : Option AddressPrefix) → IsNextCandidate candidates place None → IsNextCandidate needed place None
    none_more = walk.none_more candidates needed not_needed

    -- there is one at the next candidate
    pub one_found : (place : Option AddressPrefix) (p : AddressPrefix) → IsNextCandidate candidates place (Some p) → needed p ≡ true → IsNextCandidate needed place (Some p)
    one_found = walk.one_found candidates needed not_needed

    -- there is none, so the walk goes on
    pub goes_on : (place : Option AddressPrefix) (p : AddressPrefix) → IsNextCandidate candidates place (Some p) → needed p ≡ false → (result : Option AddressPrefix)
        → IsNextCandidate needed (Some p) result → IsNextCandidate needed place result
    goes_on = walk.goes_on candidates needed not_needed
