-- What readers of `best` have can be printed, and stays so where a change of `best` joins the queue, and where the forwarding side takes one.
use Rattle.router_moments.proofs.Common.{sym, subst, ◌∙◌, ap, ◌≡◌, ℕ, refl, ◌≢◌, AddressPrefix, Route, Profile, ArePrintableExits, AreBestRows, Exited, with_queue, Queued, Takes, unread_by, IsPrefixOf, Printing, IsSent, Rows, Change, Queues, read_rows_by}
use Rattle.std.proofs.Common.{Option, Some, None}
use Rattle.link_change.proofs.RowLemmas.{with_row_here}
use Rattle.exit_laws.specs.Printable.{IsBestChange}
use Rattle.exit_laws.proofs.KeptLemmas.{rows_read, queue_taken, with_unread, put_is_printed}

module _ (profile : Profile) (printing : Printing) where
  -- the rows that the forwarding side has
  pub read_are : (e : Exited) (reader : Option ℕ) (best : Rows Route) → ArePrintableExits profile printing e → AreBestRows profile printing best → AreBestRows profile printing (read_rows_by e.queue reader best)
  read_are e None best exits are p row at = absurd (cc)
  read_are e (Some r) best exits are p row at = rows_read profile printing (unread_by e.queue r) best (exits.unread r) are p row at

  -- ---- a change of `best` joins the queue, if one came
  prefix_of_one : (p : AddressPrefix) (before after : Option Route) → after ≢ before → ((r : Route) → before ≡ Some r → IsPrefixOf printing.v6 p) → ((r : Route) → after ≡ Some r → IsPrefixOf printing.v6 p) → IsPrefixOf printing.v6 p
  prefix_of_one p None None differs was is = absurd (differs refl)
  prefix_of_one p (Some r) after differs was is = was r refl
  prefix_of_one p None (Some r) differs was is = is r refl

  best_change : (old new : Rows Route) (p : AddressPrefix) (change : Change Route) → AreBestRows profile printing old → AreBestRows profile printing new → IsSent old new p (Some change) → IsBestChange profile printing change
  best_change old new p change before after is =
      let was = λ (r : Route) (r_is : change.before ≡ Some r). before change.prefix r (is.1.0 ∙ r_is) in
      let then = λ (r : Route) (r_is : change.after ≡ Some r). after change.prefix r (ap (λ (rows : Rows Route). rows change.prefix) is.2 ∙ with_row_here old change.prefix change.after ∙ r_is) in
      record { prefix = prefix_of_one change.prefix change.before change.after is.1.1 (λ r r_is. (was r r_is).prefix) (λ r r_is. (then r r_is).prefix); before = was; after = then }

  pub queued_printable : (old new : Rows Route) (p : AddressPrefix) (best : Option (Change Route)) (e e' : Exited) → AreBestRows profile printing old → AreBestRows profile printing new → IsSent old new p best → Queues best e e' → ArePrintableExits profile printing e → ArePrintableExits profile printing e'
  queued_printable old new p None e e' before after is queues exits = subst (ArePrintableExits profile printing) (sym queues) exits
  queued_printable old new p (Some change) e e' before after is queues exits = put_is_printed profile printing change e e' (best_change old new p change before after is) exits queues

  -- ---- the forwarding side takes a change
  pub taken_printable : (m : Exited) (queue : Queued Route) (r : ℕ) (change : Change Route) → Takes m.queue queue r (Some change) → ArePrintableExits profile printing m → ArePrintableExits profile printing (with_queue queue m)
  taken_printable m queue r change takes exits = with_unread profile printing queue m (queue_taken profile printing m.queue queue r (Some change) exits.unread takes) exits
