-- What every reader hasn't taken leads from the rows that it has to the best ones, and readers stay.
use Rattle.std.proofs.Common.{◌≡◌, ◌≢◌, ℕ, cond, List, [], ◌∷◌, ◌++◌, Option, Some, None, IsSome, refl, sym, ap, ◌∙◌, subst}
use Rattle.std.specs.Option.{option_map}
use Rattle.std.specs.Cmp.{nat_cmp_total}
use Rattle.std.specs.FinMap as map
use Rattle.std.specs.FinMap.{get-insert, get-remove}
use Rattle.addr4.specs.Prefixes.{AddressPrefix}
use Rattle.link_change.specs.Rows.{Rows}
use Rattle.link_change.specs.Changes.{IsSent}
use Rattle.link_change.specs.Changes.{Change}
use Rattle.link_change.specs.InOrder.{ChangesLead, rows_before, with_last}
use Rattle.fanout_queue.specs.Queues.{Queued, AppendsToAll, Takes, AllLead, KeepsReaders}
use Rattle.fanout_queue.specs.Readers.{unread_or_none, read_rows, ReaderLeads, KeepsOtherReaders}
use Rattle.fanout_queue.proofs.Cases.{by_number, other_number}
use Rattle.link_change.proofs.InOrderLemmas.{put_keeps_before, put_leads, take_leads}

module _ {R : Type 0} where
  abbrev Lead : Rows R → List (Change R) → Type 0
  Lead best unread = ChangesLead (rows_before unread best) unread best

  put_one : (best best' : Rows R) (p : AddressPrefix) (c : Change R) (o : Option (List (Change R))) (unread : List (Change R)) → IsSent best best' p (Some c) → option_map (with_last c) o ≡ Some unread
      → ((u : List (Change R)) → o ≡ Some u → Lead best u) → Lead best' unread
  put_one best best' p c None unread sent is leads = absurd (let e : ◌≡◌ {A = Option (List (Change R))} None (Some unread) = is in cc)
  put_one best best' p c (Some u) unread sent is leads =
      let same : u ++ c ∷ [] ≡ unread = cc in
      subst (Lead best') same
      (subst (λ (r : Rows R). ChangesLead r (u ++ c ∷ []) best') (sym (put_keeps_before best best' p c u sent))
      (put_leads (rows_before u best) best best' p c u sent (leads u refl)))

  pub put_keeps_leading : (old new : Queued R) (best best' : Rows R) (p : AddressPrefix) (c : Change R) → AppendsToAll c old new → IsSent best best' p (Some c) → AllLead old best → AllLead new best'
  put_keeps_leading old new best best' p c appends sent all reader unread at =
      put_one best best' p c (map.get old reader) unread sent (sym (appends reader) ∙ at) (all reader)

  -- one reader has this from now on
  with_one : (queued : Queued R) (best : Rows R) (reader : ℕ) (rest : List (Change R)) → AllLead queued best → Lead best rest → AllLead (map.insert queued reader rest) best
  with_one queued best reader rest all leads q unread at =
      by_number q reader (λ v. cond v (Some rest) (map.get queued q) ≡ Some unread → Lead best unread)
      (λ _ is. let same : rest ≡ unread = cc in subst (Lead best) same leads)
      (λ _ is. all q unread is)
      (sym (get-insert nat_cmp_total queued reader rest q) ∙ at)

  pub take_keeps_leading : (old new : Queued R) (best : Rows R) (reader : ℕ) (result : Option (Change R)) → Takes old new reader result → AllLead old best → AllLead new best
  take_keeps_leading old new best reader None takes all = subst (λ (m : Queued R). AllLead m best) (sym takes.1) all
  take_keeps_leading old new best reader (Some c) takes all =
      subst (λ (m : Queued R). AllLead m best) (sym takes.2)
      (with_one old best reader takes.0 all (take_leads best c takes.0 (all reader (c ∷ takes.0) takes.1)))

  pub join_keeps_leading : (queued : Queued R) (best : Rows R) (reader : ℕ) → AllLead queued best → AllLead (map.insert queued reader []) best
  join_keeps_leading queued best reader all = with_one queued best reader [] all refl

  pub drop_keeps_leading : (queued : Queued R) (best : Rows R) (reader : ℕ) → AllLead queued best → AllLead (map.remove queued reader) best
  drop_keeps_leading queued best reader all q unread at =
      by_number q reader (λ v. cond v None (map.get queued q) ≡ Some unread → Lead best unread)
      (λ _ is. absurd (let e : ◌≡◌ {A = Option (List (Change R))} None (Some unread) = is in cc))
      (λ _ is. all q unread is)
      (sym (get-remove nat_cmp_total queued reader q) ∙ at)

  -- ---- readers stay
  some_more : (c : Change R) (o : Option (List (Change R))) → IsSome o → IsSome (option_map (with_last c) o)
  some_more c None live = absurd (cc)
  some_more c (Some u) live = refl

  pub put_keeps_readers : (old new : Queued R) (c : Change R) → AppendsToAll c old new → KeepsReaders old new
  put_keeps_readers old new c appends reader live = subst IsSome (sym (appends reader)) (some_more c (map.get old reader) live)

  keeps_with : (queued : Queued R) (reader : ℕ) (rest : List (Change R)) → KeepsReaders queued (map.insert queued reader rest)
  keeps_with queued reader rest q live = subst IsSome (sym (get-insert nat_cmp_total queued reader rest q))
      (by_number q reader (λ v. IsSome (cond v (Some rest) (map.get queued q))) (λ _. refl) (λ _. live))

  pub take_keeps_readers : (old new : Queued R) (reader : ℕ) (result : Option (Change R)) → Takes old new reader result → KeepsReaders old new
  take_keeps_readers old new reader None takes = subst (KeepsReaders old) (sym takes.1) (λ q live. live)
  take_keeps_readers old new reader (Some c) takes = subst (KeepsReaders old) (sym takes.2) (keeps_with old reader takes.0)

  pub join_keeps_readers : (queued : Queued R) (reader : ℕ) → KeepsReaders queued (map.insert queued reader [])
  join_keeps_readers queued reader = keeps_with queued reader []

  pub drop_keeps_others : (queued : Queued R) (reader other : ℕ) → other ≢ reader → IsSome (map.get queued other) → IsSome (map.get (map.remove queued reader) other)
  drop_keeps_others queued reader other apart live =
      subst IsSome (sym (get-remove nat_cmp_total queued reader other ∙ ap (λ b. cond b None (map.get queued other)) (other_number other reader apart))) live

  -- ---- one reader
  pub each_reader_leads : (queued : Queued R) (best : Rows R) (reader : ℕ) → AllLead queued best → ReaderLeads queued reader best
  each_reader_leads queued best reader all =
      elim (map.get queued reader) as (λ o. map.get queued reader ≡ o → ChangesLead (rows_before (unread_or_none o) best) (unread_or_none o) best) [
        | None ↦ λ _. refl
        | Some unread ↦ λ at. all reader unread at
      ] refl

  kept_read : (best best' : Rows R) (p : AddressPrefix) (c : Change R) (o : Option (List (Change R))) → IsSent best best' p (Some c) → IsSome o
      → rows_before (unread_or_none (option_map (with_last c) o)) best' ≡ rows_before (unread_or_none o) best
  kept_read best best' p c None sent live = absurd (cc)
  kept_read best best' p c (Some u) sent live = put_keeps_before best best' p c u sent

  pub put_keeps_read : (old new : Queued R) (best best' : Rows R) (p : AddressPrefix) (c : Change R) (reader : ℕ) → AppendsToAll c old new → IsSent best best' p (Some c)
      → IsSome (map.get old reader) → read_rows new reader best' ≡ read_rows old reader best
  put_keeps_read old new best best' p c reader appends sent live =
      ap (λ (o : Option (List (Change R))). rows_before (unread_or_none o) best') (appends reader) ∙ kept_read best best' p c (map.get old reader) sent live

  pub take_keeps_others : (old new : Queued R) (reader : ℕ) (result : Option (Change R)) → Takes old new reader result → KeepsOtherReaders reader old new
  take_keeps_others old new reader None takes other apart = ap (λ (m : Queued R). map.get m other) takes.1
  take_keeps_others old new reader (Some c) takes other apart =
      ap (λ (m : Queued R). map.get m other) takes.2 ∙ get-insert nat_cmp_total old reader takes.0 other
      ∙ ap (λ b. cond b (Some takes.0) (map.get old other)) (other_number other reader apart)
