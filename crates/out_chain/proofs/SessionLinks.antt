-- The links of a session beside others: how they begin, change and end.
use Rattle.std.proofs.Common.{◌≡◌, ℕ, ◌==◌, ◌&&◌, Bool, true, false, cond, [], ◌∷◌, ◌++◌, Option, Some, None, IsSome, refl, sym, subst}
use Rattle.std.proofs.lemmas.Bool.{eq-eqb}
use Rattle.addr4.specs.Prefixes.{AddressPrefix}
use Rattle.bgp_attr.specs.Attributes.{Attrs}
use Rattle.bgp_attr.specs.Routes.{Route}
use Rattle.link_change.specs.Rows.{Rows, no_rows}
use Rattle.link_change.specs.Changes.{IsSent}
use Rattle.link_change.specs.Changes.{Change}
use Rattle.link_change.proofs.RowLemmas.{same_function}
use Rattle.journal_text.specs.declared.link.Link.TheVariants.{Best, Read, Outf, Adv}
use Rattle.journal_text.specs.Lines.{Value}
use Rattle.journal_text.specs.declared.entry.Entry.TheVariants.{Inherit, Begin}
use Rattle.journal_text.specs.Walk.{Links, Leads, no_links, with_link}
use Rattle.journal_text.specs.Values.{route_rows, attrs_rows, route_value, attrs_value, sent_entries}
use Rattle.journal_text.proofs.WalkLemmas.{leads_append, leads_inherit, leads_begin, leads_sent}
use Rattle.out_chain.specs.Chains.{session_links, beside_out}
use Rattle.out_chain.specs.Steps.{start_entries}

itself : (n : ℕ) → (n == n) ≡ true
itself n = eq-eqb n n refl

-- ---- two tests, of the peer's number and of the session's
here : {A : Type 0} (a b : Bool) (x y z : A) → a ≡ true → b ≡ true → cond a (cond (a && b) x y) z ≡ x
here true true x y z h k = refl
here true false x y z h k = absurd (let clash : false ≡ true = k in cc)
here false b x y z h k = absurd (let clash : false ≡ true = h in cc)

free_here : {A : Type 0} (a : Bool) (x z : A) → a ≡ true → cond a x z ≡ x
free_here true x z h = refl
free_here false x z h = absurd (let clash : false ≡ true = h in cc)

set : {A : Type 0} (a b : Bool) (new x y z : A) → cond (a && b) new (cond a (cond (a && b) x y) z) ≡ cond a (cond (a && b) new y) z
set true true new x y z = refl
set true false new x y z = refl
set false b new x y z = refl

begun : {A : Type 0} (a b : Bool) (new y z : A) → cond (a && b) new (cond a y z) ≡ cond a (cond (a && b) new y) z
begun true true new y z = refl
begun true false new y z = refl
begun false b new y z = refl

module _ (others : Links Value) (j s : ℕ) where
  at_read : (r o a : Rows Value) → beside_out j others (session_links j s r o a) (Read j s) ≡ Some r
  at_read r o a = here (j == j) (s == s) (Some r) None (others (Read j s)) (itself j) (itself s)

  at_outf : (r o a : Rows Value) → beside_out j others (session_links j s r o a) (Outf j s) ≡ Some o
  at_outf r o a = here (j == j) (s == s) (Some o) None (others (Outf j s)) (itself j) (itself s)

  at_adv : (r o a : Rows Value) → beside_out j others (session_links j s r o a) (Adv j s) ≡ Some a
  at_adv r o a = here (j == j) (s == s) (Some a) None (others (Adv j s)) (itself j) (itself s)

  set_read : (r new o a : Rows Value) → with_link (beside_out j others (session_links j s r o a)) (Read j s) (Some new) ≡ beside_out j others (session_links j s new o a)
  set_read r new o a = same_function _ _ (λ link.
      elim link as (λ l. with_link (beside_out j others (session_links j s r o a)) (Read j s) (Some new) l ≡ beside_out j others (session_links j s new o a) l) [
        | Read k t ↦ set (k == j) (t == s) (Some new) (Some r) None (others (Read k t))
        | _ ↦ refl
      ])

  set_outf : (r o new a : Rows Value) → with_link (beside_out j others (session_links j s r o a)) (Outf j s) (Some new) ≡ beside_out j others (session_links j s r new a)
  set_outf r o new a = same_function _ _ (λ link.
      elim link as (λ l. with_link (beside_out j others (session_links j s r o a)) (Outf j s) (Some new) l ≡ beside_out j others (session_links j s r new a) l) [
        | Outf k t ↦ set (k == j) (t == s) (Some new) (Some o) None (others (Outf k t))
        | _ ↦ refl
      ])

  set_adv : (r o a new : Rows Value) → with_link (beside_out j others (session_links j s r o a)) (Adv j s) (Some new) ≡ beside_out j others (session_links j s r o new)
  set_adv r o a new = same_function _ _ (λ link.
      elim link as (λ l. with_link (beside_out j others (session_links j s r o a)) (Adv j s) (Some new) l ≡ beside_out j others (session_links j s r o new) l) [
        | Adv k t ↦ set (k == j) (t == s) (Some new) (Some a) None (others (Adv k t))
        | _ ↦ refl
      ])

  -- ---- one change of each link
  read_leads : (old new : Rows Route) (o a : Rows Value) (p : AddressPrefix) (sent : Option (Change Route)) → IsSent old new p sent
      → Leads (beside_out j others (session_links j s (route_rows old) o a)) (sent_entries route_value (Read j s) sent) (beside_out j others (session_links j s (route_rows new) o a))
  read_leads old new o a p sent is =
      let from = beside_out j others (session_links j s (route_rows old) o a) in
      let P : Links Value → Type 0 = λ l. Leads from (sent_entries route_value (Read j s) sent) l in
      subst P (set_read (route_rows old) (route_rows new) o a)
      (leads_sent route_value (λ x y e. cc) from (Read j s) old new p sent (at_read (route_rows old) o a) is)

  outf_leads : (old new : Rows Attrs) (r a : Rows Value) (p : AddressPrefix) (sent : Option (Change Attrs)) → IsSent old new p sent
      → Leads (beside_out j others (session_links j s r (attrs_rows old) a)) (sent_entries attrs_value (Outf j s) sent) (beside_out j others (session_links j s r (attrs_rows new) a))
  outf_leads old new r a p sent is =
      let from = beside_out j others (session_links j s r (attrs_rows old) a) in
      let P : Links Value → Type 0 = λ l. Leads from (sent_entries attrs_value (Outf j s) sent) l in
      subst P (set_outf r (attrs_rows old) (attrs_rows new) a)
      (leads_sent attrs_value (λ x y e. cc) from (Outf j s) old new p sent (at_outf r (attrs_rows old) a) is)

  adv_leads : (old new : Rows Attrs) (r o : Rows Value) (p : AddressPrefix) (sent : Option (Change Attrs)) → IsSent old new p sent
      → Leads (beside_out j others (session_links j s r o (attrs_rows old))) (sent_entries attrs_value (Adv j s) sent) (beside_out j others (session_links j s r o (attrs_rows new)))
  adv_leads old new r o p sent is =
      let from = beside_out j others (session_links j s r o (attrs_rows old)) in
      let P : Links Value → Type 0 = λ l. Leads from (sent_entries attrs_value (Adv j s) sent) l in
      subst P (set_adv r o (attrs_rows old) (attrs_rows new))
      (leads_sent attrs_value (λ x y e. cc) from (Adv j s) old new p sent (at_adv r o (attrs_rows old)) is)

  -- all three, one below the other
  pub goes_down : (read read' : Rows Route) (outf outf' adv adv' : Rows Attrs) (p q : AddressPrefix) (first : Option (Change Route)) (sent : Option (Change Attrs))
      → IsSent read read' p first → IsSent outf outf' q sent → IsSent adv adv' q sent
      → Leads (beside_out j others (session_links j s (route_rows read) (attrs_rows outf) (attrs_rows adv)))
      (sent_entries route_value (Read j s) first ++ (sent_entries attrs_value (Outf j s) sent ++ sent_entries attrs_value (Adv j s) sent))
      (beside_out j others (session_links j s (route_rows read') (attrs_rows outf') (attrs_rows adv')))
  goes_down read read' outf outf' adv adv' p q first sent r o a =
      leads_append _ _ _ (sent_entries route_value (Read j s) first) (sent_entries attrs_value (Outf j s) sent ++ sent_entries attrs_value (Adv j s) sent)
      (read_leads read read' (attrs_rows outf) (attrs_rows adv) p first r)
      (leads_append _ _ _ (sent_entries attrs_value (Outf j s) sent) (sent_entries attrs_value (Adv j s) sent)
      (outf_leads outf outf' (route_rows read') (attrs_rows adv) q sent o)
      (adv_leads adv adv' (route_rows read') (attrs_rows outf') q sent a))

  -- ---- a session begins
  abbrev without : Links Value
  without = beside_out j others no_links

  abbrev first : Rows Value → Links Value
  first r = with_link without (Read j s) (Some r)

  abbrev second : Rows Value → Links Value
  second r = with_link (first r) (Outf j s) (Some no_rows)

  all_begun : (r : Rows Value) → with_link (second r) (Adv j s) (Some no_rows) ≡ beside_out j others (session_links j s r no_rows no_rows)
  all_begun r = same_function _ _ (λ link.
      elim link as (λ l. with_link (second r) (Adv j s) (Some no_rows) l ≡ beside_out j others (session_links j s r no_rows no_rows) l) [
        | Read k t ↦ begun (k == j) (t == s) (Some r) None (others (Read k t))
        | Outf k t ↦ begun (k == j) (t == s) (Some no_rows) None (others (Outf k t))
        | Adv k t ↦ begun (k == j) (t == s) (Some no_rows) None (others (Adv k t))
        | _ ↦ refl
      ])

  pub begins : (r : Rows Value) → others Best ≡ Some r → Leads without (start_entries j s) (beside_out j others (session_links j s r no_rows no_rows))
  begins r best =
      let P : Links Value → Type 0 = λ l. Leads without (start_entries j s) l in
      subst P (all_begun r)
      (leads_append without (first r) (with_link (second r) (Adv j s) (Some no_rows)) (Inherit (Read j s) Best ∷ []) (Begin (Outf j s) ∷ Begin (Adv j s) ∷ [])
      (leads_inherit without (Read j s) Best r (free_here (j == j) None (others (Read j s)) (itself j)) best)
      (leads_append (first r) (second r) (with_link (second r) (Adv j s) (Some no_rows)) (Begin (Outf j s) ∷ []) (Begin (Adv j s) ∷ [])
      (leads_begin (first r) (Outf j s) (free_here (j == j) None (others (Outf j s)) (itself j)))
      (leads_begin (second r) (Adv j s) (free_here (j == j) None (others (Adv j s)) (itself j)))))
  -- ---- and ends

-- ---- a link's row
pub has_row : (b : Bool) (rows : Rows Value) (p : AddressPrefix) (row : Option Value) → IsSome (cond b (Some rows) None) → row ≡ rows p
    → (found : Rows Value) × (cond b (Some rows) None ≡ Some found) × (found p ≡ row)
has_row true rows p row live at = (rows, refl, sym at)
has_row false rows p row live at = absurd (cc)
