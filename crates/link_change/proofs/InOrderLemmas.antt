-- Changes that are applied in order.
use Rattle.std.proofs.Common.{◌≡◌, Bool, true, false, cond, List, [], ◌∷◌, ◌++◌, Option, Some, refl, sym, ap, ◌∙◌, subst}
use Rattle.std.specs.Ordering.{eq_by_cmp}
use Rattle.addr4.specs.Prefixes.{AddressPrefix, prefix_cmp}
use Rattle.addr4.proofs.PrefixOrder.{by_prefix, itself}
use Rattle.link_change.specs.Rows.{Rows, with_row}
use Rattle.link_change.specs.Changes.{IsSent}
use Rattle.link_change.specs.InOrder.{ChangesLead, rows_before, with_last, changes_at, changed_in, RowLeads, row_before}
use Rattle.link_change.specs.Laws.{BeforeIsOld, BeforeIsFirst, UnchangedStays, BeforeIsCovered, LeadAtEach, FirstHere, FirstElsewhere, LastHere, LastElsewhere, PutKeepsBefore, PutLeads, PutLeadsRow, TakeSends, TakeLeads, TakeSendsHere, TakeLeadsHere}
use Rattle.link_change.specs.Changes.{Change}
use Rattle.link_change.proofs.RowLemmas.{same_function, with_row_here, with_row_same, not_first, not_second}

module _ {V : Type 0} where
  -- at another prefix the row is the one that was there
  pub with_row_elsewhere : (rows : Rows V) (p : AddressPrefix) (row : Option V) (q : AddressPrefix) → (q ≡ p → ⊥) → with_row rows p row q ≡ rows q
  with_row_elsewhere rows p row q apart = by_prefix q p (λ b. cond b row (rows q) ≡ rows q) (λ same. absurd (apart same)) (λ _. refl)

  cond_twice : (b : Bool) (x y z : Option V) → cond b x (cond b y z) ≡ cond b x z
  cond_twice true x y z = refl
  cond_twice false x y z = refl

  -- the row that was set last is the one that stands
  pub with_row_twice : (rows : Rows V) (p : AddressPrefix) (one other : Option V) → with_row (with_row rows p one) p other ≡ with_row rows p other
  with_row_twice rows p one other = same_function _ _ (λ q. cond_twice (eq_by_cmp prefix_cmp q p) other one (rows q))

module _ {R : Type 0} where
  -- a change is undone by the row before it
  pub undone : (old new : Rows R) (p : AddressPrefix) (c : Change R) → IsSent old new p (Some c) → with_row new c.prefix c.before ≡ old
  undone old new p c sent =
      ap (λ rows. with_row rows c.prefix c.before) sent.2 ∙ with_row_twice old c.prefix c.after c.before
      ∙ with_row_same old c.prefix c.before sent.1.0

  -- ---- the rows before
  pub before_is_old : BeforeIsOld R
  before_is_old old new [] leads = leads
  before_is_old old new (c ∷ cs) leads =
      ap (λ rows. with_row rows c.prefix c.before) (before_is_old (with_row old c.prefix c.after) new cs leads.1)
      ∙ with_row_twice old c.prefix c.after c.before ∙ with_row_same old c.prefix c.before leads.0.0

  -- ---- the changes at a prefix
  pub first_here : FirstHere R
  first_here c cs = ap (λ b. cond b (c ∷ changes_at c.prefix cs) (changes_at c.prefix cs)) (itself c.prefix)

  pub first_elsewhere : FirstElsewhere R
  first_elsewhere c cs q apart =
      by_prefix c.prefix q (λ b. cond b (c ∷ changes_at q cs) (changes_at q cs) ≡ changes_at q cs)
      (λ same. absurd (apart (sym same))) (λ _. refl)

  appended_cond : (b : Bool) (x c : Change R) (xs : List (Change R)) → cond b (x ∷ xs) xs ++ c ∷ [] ≡ cond b (x ∷ xs ++ c ∷ []) (xs ++ c ∷ [])
  appended_cond true x c xs = refl
  appended_cond false x c xs = refl

  pub last_here : LastHere R
  last_here c [] = first_here c []
  last_here c (x ∷ xs) =
      ap (λ (l : List (Change R)). cond (eq_by_cmp prefix_cmp x.prefix c.prefix) (x ∷ l) l) (last_here c xs)
      ∙ sym (appended_cond (eq_by_cmp prefix_cmp x.prefix c.prefix) x c (changes_at c.prefix xs))

  pub last_elsewhere : LastElsewhere R
  last_elsewhere c [] q apart = first_elsewhere c [] q apart
  last_elsewhere c (x ∷ xs) q apart =
      ap (λ (l : List (Change R)). cond (eq_by_cmp prefix_cmp x.prefix q) (x ∷ l) l) (last_elsewhere c xs q apart)

  pub before_is_first : BeforeIsFirst R
  before_is_first new [] p = refl
  before_is_first new (c ∷ cs) p =
      by_prefix p c.prefix (λ b. cond b c.before (rows_before cs new p) ≡ row_before (changes_at p (c ∷ cs)) (new p))
      (λ same. sym (ap (λ l. row_before l (new p))
      (ap (λ q. changes_at q (c ∷ cs)) same ∙ first_here c cs)))
      (λ apart. before_is_first new cs p ∙ sym (ap (λ l. row_before l (new p)) (first_elsewhere c cs p apart)))

  pub unchanged_stays : UnchangedStays R
  unchanged_stays new [] p none = refl
  unchanged_stays new (c ∷ cs) p none =
      ap (λ b. cond b c.before (rows_before cs new p)) (not_first (eq_by_cmp prefix_cmp p c.prefix) (changed_in cs p) none)
      ∙ unchanged_stays new cs p (not_second (eq_by_cmp prefix_cmp p c.prefix) (changed_in cs p) none)

  pub before_is_covered : BeforeIsCovered R
  before_is_covered candidates new cs covers q none =
      unchanged_stays new cs q (not_second (candidates q) (changed_in cs q) none)
      ∙ covers q (not_first (candidates q) (changed_in cs q) none)

  -- ---- prefix by prefix
  -- what the first leaves at its prefix, and elsewhere
  leads_here : (old new : Rows R) (c : Change R) (cs : List (Change R)) → ((p : AddressPrefix) → RowLeads (old p) (changes_at p (c ∷ cs)) (new p))
      → RowLeads (old c.prefix) (c ∷ changes_at c.prefix cs) (new c.prefix)
  leads_here old new c cs each = subst (λ l. RowLeads (old c.prefix) l (new c.prefix)) (first_here c cs) (each c.prefix)

  rest_leads : (old new : Rows R) (c : Change R) (cs : List (Change R)) → ((p : AddressPrefix) → RowLeads (old p) (changes_at p (c ∷ cs)) (new p))
      → (p : AddressPrefix) → RowLeads (with_row old c.prefix c.after p) (changes_at p cs) (new p)
  rest_leads old new c cs each p =
      by_prefix p c.prefix (λ b. RowLeads (cond b c.after (old p)) (changes_at p cs) (new p))
      (λ same. subst (λ q. RowLeads c.after (changes_at q cs) (new q)) (sym same) (leads_here old new c cs each).2)
      (λ apart. subst (λ l. RowLeads (old p) l (new p)) (first_elsewhere c cs p apart) (each p))

  all_lead : (old new : Rows R) (cs : List (Change R)) → ((p : AddressPrefix) → RowLeads (old p) (changes_at p cs) (new p)) → ChangesLead old cs new
  all_lead old new [] each = same_function _ _ each
  all_lead old new (c ∷ cs) each =
      let first = leads_here old new c cs each in
      ((first.0, first.1), all_lead (with_row old c.prefix c.after) new cs (rest_leads old new c cs each))

  each_leads : (old new : Rows R) (cs : List (Change R)) (p : AddressPrefix) → ChangesLead old cs new → RowLeads (old p) (changes_at p cs) (new p)
  each_leads old new [] p leads = ap (λ rows. rows p) leads
  each_leads old new (c ∷ cs) p leads =
      let rest = each_leads (with_row old c.prefix c.after) new cs p leads.1 in
      by_prefix c.prefix p (λ b. RowLeads (old p) (cond b (c ∷ changes_at p cs) (changes_at p cs)) (new p))
      (λ same.
      let here : with_row old c.prefix c.after p ≡ c.after = ap (with_row old c.prefix c.after) (sym same) ∙ with_row_here old c.prefix c.after in
      (ap old (sym same) ∙ leads.0.0, leads.0.1, subst (λ row. RowLeads row (changes_at p cs) (new p)) here rest))
      (λ apart.
      subst (λ row. RowLeads row (changes_at p cs) (new p))
      (with_row_elsewhere old c.prefix c.after p (λ same. apart (sym same))) rest)

  pub lead_at_each : LeadAtEach R
  lead_at_each old new cs = (λ leads. λ p. each_leads old new cs p leads, all_lead old new cs)

  -- ---- one more
  pub put_keeps_before : PutKeepsBefore R
  put_keeps_before new now p c [] sent = undone new now p c sent
  put_keeps_before new now p c (x ∷ xs) sent = ap (λ rows. with_row rows x.prefix x.before) (put_keeps_before new now p c xs sent)

  pub put_leads : PutLeads R
  put_leads old new now p c [] sent leads = let on_old = subst (λ (rows : Rows R). IsSent rows now p (Some c)) leads sent in (on_old.1, on_old.2)
  put_leads old new now p c (x ∷ xs) sent leads = (leads.0, put_leads (with_row old x.prefix x.after) new now p c xs sent leads.1)

  row_more : (old new : Option R) (cs : List (Change R)) (c : Change R) → RowLeads old cs new → new ≡ c.before → (c.after ≡ c.before → ⊥)
      → RowLeads old (cs ++ c ∷ []) c.after
  row_more old new [] c leads at differ = (sym leads ∙ at, differ, refl)
  row_more old new (x ∷ xs) c leads at differ = (leads.0, leads.1, row_more x.after new xs c leads.2 at differ)

  pub put_leads_row : PutLeadsRow R
  put_leads_row new now p c cs sent leads =
      let rows = ap (λ (r : Rows R). r p) (put_keeps_before new now p c cs sent) in
      let here = subst (λ q. changes_at q (with_last c cs) ≡ with_last c (changes_at q cs)) sent.0 (last_here c cs) in
      let after : now p ≡ c.after = ap (λ (r : Rows R). r p) sent.2 ∙ ap (with_row new c.prefix c.after) (sym sent.0) ∙ with_row_here new c.prefix c.after in
      subst (λ row. RowLeads (rows_before (with_last c cs) now p) (changes_at p (with_last c cs)) row) (sym after)
      (subst (λ l. RowLeads (rows_before (with_last c cs) now p) l c.after) (sym here)
      (subst (λ row. RowLeads row (with_last c (changes_at p cs)) c.after) (sym rows)
      (row_more (rows_before cs new p) (new p) (changes_at p cs) c leads (ap new (sym sent.0) ∙ sent.1.0) sent.1.1)))

  -- ---- one fewer
  taken : (new : Rows R) (c : Change R) (cs : List (Change R)) → ChangesLead (rows_before (c ∷ cs) new) (c ∷ cs) new
      → rows_before cs new ≡ with_row (rows_before (c ∷ cs) new) c.prefix c.after
  taken new c cs leads = before_is_old (with_row (rows_before (c ∷ cs) new) c.prefix c.after) new cs leads.1

  pub take_sends : TakeSends R
  take_sends new c cs leads = (refl, leads.0, taken new c cs leads)

  pub take_leads : TakeLeads R
  take_leads new c cs leads = subst (λ (rows : Rows R). ChangesLead rows cs new) (sym (taken new c cs leads)) leads.1

  row_is_old : (old new : Option R) (cs : List (Change R)) → RowLeads old cs new → row_before cs new ≡ old
  row_is_old old new [] leads = leads
  row_is_old old new (c ∷ cs) leads = sym leads.0

  -- what is known at the prefix of the first
  module _ (new : Rows R) (c : Change R) (cs : List (Change R)) (leads : RowLeads (rows_before (c ∷ cs) new c.prefix) (changes_at c.prefix (c ∷ cs)) (new c.prefix)) where
    at_first : RowLeads (rows_before (c ∷ cs) new c.prefix) (c ∷ changes_at c.prefix cs) (new c.prefix)
    at_first = subst (λ l. RowLeads (rows_before (c ∷ cs) new c.prefix) l (new c.prefix)) (first_here c cs) leads

    left_there : rows_before cs new c.prefix ≡ c.after
    left_there = before_is_first new cs c.prefix ∙ row_is_old c.after (new c.prefix) (changes_at c.prefix cs) at_first.2

  pub take_sends_here : TakeSendsHere R
  take_sends_here new c cs leads =
      let first = at_first new c cs leads in (
        refl,
        (first.0, first.1),
        sym (with_row_twice (rows_before cs new) c.prefix c.before c.after
            ∙ with_row_same (rows_before cs new) c.prefix c.after (left_there new c cs leads)),
      )

  pub take_leads_here : TakeLeadsHere R
  take_leads_here new c cs leads =
      subst (λ row. RowLeads row (changes_at c.prefix cs) (new c.prefix)) (sym (left_there new c cs leads)) (at_first new c cs leads).2
