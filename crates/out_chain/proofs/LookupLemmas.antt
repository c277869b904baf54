-- Lookups on the links of a session.
use Rattle.std.proofs.Common.{◌≡◌, ℕ, ◌==◌, ◌&&◌, List, Option, Some, None, IfSome, IsSome, sym, ap, subst, ◌∙◌}
use Rattle.std.specs.Option.{option_map}
use Rattle.std.specs.FinMap as tables
use Rattle.addr4.specs.Prefixes.{AddressPrefix}
use Rattle.bgp_attr.specs.Attributes.{Attrs}
use Rattle.bgp_attr.specs.Routes.{Route}
use Rattle.link_change.specs.Rows.{Rows}
use Rattle.link_change.specs.InOrder.{rows_before}
use Rattle.link_change.specs.Changes.{Change}
use Rattle.pass_core.specs.Turns.{passed}
use Rattle.fanout_queue.specs.Queues.{Queued}
use Rattle.fanout_queue.specs.Readers.{unread_or_none, read_rows}
use Rattle.journal_text.specs.declared.link.Link.{Link}
use Rattle.journal_text.specs.declared.link.Link.TheVariants.{Read, Outf, Adv}
use Rattle.journal_text.specs.Lines.{Value}
use Rattle.journal_text.specs.Walk.{HasRow}
use Rattle.journal_text.specs.Values.{route_value, attrs_value, route_rows, attrs_rows}
use Rattle.out_chain.specs.Chains.{OutChained, made_by, outf_rows, out_links}
use Rattle.out_chain.proofs.SessionLinks.{has_row}

read_of : (unread : Option (List (Change Route))) (best : Rows Route) (p : AddressPrefix) (row : Option Route) → IsSome unread → IfSome unread (λ u. row ≡ rows_before u best p)
    → row ≡ rows_before (unread_or_none unread) best p
read_of None best p row live at = absurd (cc)
read_of (Some u) best p row live at = at

-- the chain is seen as v, and known as m
module _ (queued : Queued Route) (best : Rows Route) (m v : OutChained) (same : v ≡ m) (live : IsSome (tables.get queued m.reader)) (link : Link)
    (own : IsSome (out_links m (read_rows queued m.reader best) link)) (p : AddressPrefix) where
  abbrev read : Rows Route
  read = read_rows queued m.reader best

  found : (row : Option Route) → IfSome (tables.get queued v.reader) (λ u. row ≡ rows_before u best p) → row ≡ read_rows queued m.reader best p
  found row at =
      read_of (tables.get queued m.reader) best p row live
      (subst (λ (c : OutChained). IfSome (tables.get queued c.reader) (λ u. row ≡ rows_before u best p)) same at)

  pub asked_read : (k t : ℕ) (row : Option Route) (value : Option Value) → link ≡ Read k t → IfSome (tables.get queued v.reader) (λ u. row ≡ rows_before u best p) → value ≡ option_map route_value row
      → HasRow (out_links m (read_rows queued m.reader best)) link p value
  asked_read k t row value is at shown =
      subst (λ l. HasRow (out_links m read) l p value) (sym is)
      (has_row (k == m.peer.number && t == m.session) (route_rows read) p value (subst (λ l. IsSome (out_links m read l)) is own)
      (shown ∙ ap (option_map route_value) (found row at)))

  pub asked_outf : (k t : ℕ) (row : Option Route) (sent : Option Attrs) (value : Option Value) → link ≡ Outf k t → IfSome (tables.get queued v.reader) (λ u. row ≡ rows_before u best p)
      → sent ≡ passed (made_by v) v.filter p row → value ≡ option_map attrs_value sent → HasRow (out_links m (read_rows queued m.reader best)) link p value
  asked_outf k t row sent value is at made shown =
      let made_is : sent ≡ passed (made_by m) m.filter p row = subst (λ (c : OutChained). sent ≡ passed (made_by c) c.filter p row) same made in
      subst (λ l. HasRow (out_links m read) l p value) (sym is)
      (has_row (k == m.peer.number && t == m.session) (attrs_rows (outf_rows m read)) p value (subst (λ l. IsSome (out_links m read l)) is own)
      (shown ∙ ap (option_map attrs_value) (made_is ∙ ap (passed (made_by m) m.filter p) (found row at))))

  pub asked_adv : (k t : ℕ) (sent : Option Attrs) (value : Option Value) → link ≡ Adv k t → sent ≡ tables.get v.sent p → value ≡ option_map attrs_value sent
      → HasRow (out_links m (read_rows queued m.reader best)) link p value
  asked_adv k t sent value is at shown =
      let at_is : sent ≡ tables.get m.sent p = subst (λ (c : OutChained). sent ≡ tables.get c.sent p) same at in
      subst (λ l. HasRow (out_links m read) l p value) (sym is)
      (has_row (k == m.peer.number && t == m.session) (attrs_rows (tables.get m.sent)) p value (subst (λ l. IsSome (out_links m read l)) is own)
      (shown ∙ ap (option_map attrs_value) at_is))
