-- From the links of the tree, of `red` with the decision over it, and of the external routes, to those of the router.
use Rattle.router_moments.proofs.Common.{sym, subst, ◌∙◌, ap, ◌≡◌, ℕ, refl, List, true, false, ◌++◌, suc, zero, AddressPrefix, Route, Speaker, best_rows, Resolvers, PeerRows, ComesOn, leads_append, leads_sent, route_value, route_rows, Leads, Links, with_link, Entry, Link, Fib, Value, IsSent, Rows, Change, joined, with_side, Sides, LeadsIn, Decided, Redistributed, InteriorRoutes, Forward, Passed, passed_rows, Chains, redistributed, Protos, Interior, tree_leads, LeadsTree, int_rows, Treed, tree_links, own_rows, all_at, best_links, best_entries, own_links, own_entries, resolved_at, Moment, router_links, with_tree, parts, tree_by}
use Rattle.std.proofs.Common.{◌==◌, Option, Some}
use Rattle.journal_text.specs.declared.link.Link.TheVariants.{Red, Ebgp, Ibgp, Ext}
use Rattle.rib_exit.specs.Exits.{is_exit_link}
use Rattle.rib_exit.specs.Steps.{LeadsExit}
use Rattle.rib_exit.proofs.LawLemmas.{leads_anywhere}
use Rattle.router_moments.proofs.BestLemmas.{best_leads}
use Rattle.router_moments.proofs.RegionLemmas.{interior_set}

-- ---- the region of the external routes
pub exit_leads : (old new : Links Value) (entries : List (Entry Value)) → LeadsExit old entries new → LeadsIn Forward old entries new
exit_leads old new entries leads sides is = leads_anywhere old new (joined sides) (joined (with_side sides Forward new)) entries leads (record { was = was; is = then; same = same })
  where
    was : (link : Link) → is_exit_link link ≡ true → joined sides link ≡ old link
    was Ebgp at = ap (λ (l : Links Value). l Ebgp) is
    was Ibgp at = ap (λ (l : Links Value). l Ibgp) is
    was Ext at = ap (λ (l : Links Value). l Ext) is
    was Fib at = ap (λ (l : Links Value). l Fib) is
    was other at = absurd (let clash : false ≡ true = at in cc)

    then : (link : Link) → is_exit_link link ≡ true → joined (with_side sides Forward new) link ≡ new link
    then Ebgp at = refl
    then Ibgp at = refl
    then Ext at = refl
    then Fib at = refl
    then other at = absurd (let clash : false ≡ true = at in cc)

    same : (link : Link) → is_exit_link link ≡ false → joined (with_side sides Forward new) link ≡ joined sides link
    same Ebgp at = absurd (let clash : true ≡ false = at in cc)
    same Ibgp at = absurd (let clash : true ≡ false = at in cc)
    same Ext at = absurd (let clash : true ≡ false = at in cc)
    same Fib at = absurd (let clash : true ≡ false = at in cc)
    same other at = refl

-- ---- the region of `red`
pub own_leads : (s : Option Speaker) (me : Speaker) (old new : Rows Route) (p : AddressPrefix) (own : Option (Change Route)) → s ≡ Some me → IsSent old new p own → LeadsIn Redistributed (own_links s old) (own_entries own) (own_links s new)
own_leads s me old new p own since sent sides is =
    subst (λ (l : Links Value). Leads (joined sides) (own_entries own) l) (λ i link. each link i)
    (leads_sent route_value (λ a b e. cc) (joined sides) Red old new p own (ap (λ (l : Links Value). l Red) is ∙ ap (λ (x : Option Speaker). own_links x old Red) since) sent)
  where
    each : (link : Link) → with_link (joined sides) Red (Some (route_rows new)) link ≡ joined (with_side sides Redistributed (own_links s new)) link
    each Red = ap (λ (x : Option Speaker). own_links x new Red) (sym since)
    each other = refl

-- ---- a change of `red`, and the decision
pub own_rows_are : (s : Option Speaker) (me : Speaker) (passed : Passed Protos) (int : Rows Interior) → s ≡ Some me → own_rows s passed int ≡ passed_rows (redistributed me) passed int
own_rows_are s me passed int since = ap (λ (x : Option Speaker). own_rows x passed int) since

-- a change of branch 0, beside `res.K` that stay
pub own_comes : (own : Option (Change Route)) (old new : Rows Route) (a : Chains) (h h' : Resolvers) (p : AddressPrefix) → IsSent old new p own → ((j : ℕ) → resolved_at a h' j ≡ resolved_at a h j) → ComesOn 0 p own (all_at old a h) (all_at new a h')
own_comes own old new a h h' p sent same = record { here = sent; others = others }
  where
    others : (j : ℕ) → (j == 0) ≡ false → all_at new a h' j ≡ all_at old a h j
    others zero other = absurd (let clash : true ≡ false = other in cc)
    others (suc k) other = same (suc k)

-- from whatever rows of the branches the change led to these
abbrev pub DecidesTo : ℕ → Option (Change Route) → Option (Change Route) → PeerRows → Type 0
DecidesTo k sent best now = (before : PeerRows) (p : AddressPrefix) → ComesOn k p sent before now → IsSent (best_rows before) (best_rows now) p best

-- what both say, in their regions
pub leads_own : (s : Option Speaker) (me : Speaker) (old new was is : Rows Route) (p : AddressPrefix) (own best : Option (Change Route)) (sides : Sides) → s ≡ Some me → IsSent old new p own → IsSent was is p best → sides Redistributed ≡ own_links s old → sides Decided ≡ best_links s was
    → Leads (joined sides) (own_entries own ++ best_entries best) (joined (with_side (with_side sides Redistributed (own_links s new)) Decided (best_links s is)))
leads_own s me old new was is p own best sides since sent chosen red decided =
    leads_append (joined sides) (joined (with_side sides Redistributed (own_links s new))) (joined (with_side (with_side sides Redistributed (own_links s new)) Decided (best_links s is))) (own_entries own) (best_entries best)
    (own_leads s me old new p own since sent sides red) (best_leads s me was is p best since chosen (with_side sides Redistributed (own_links s new)) decided)

-- ---- the region of the tree
module _ (m : Moment) (me : Speaker) (since : m.declared.speaker ≡ Some me) (t : Treed) where
  tree_at : (t : Treed) → tree_by m.declared.speaker t ≡ tree_links t
  tree_at t i link = tree_by (since i) t link

  in_tree : (entries : List (Entry Value)) → LeadsTree m.tree entries t → LeadsIn InteriorRoutes (tree_by m.declared.speaker m.tree) entries (tree_by m.declared.speaker t)
  in_tree entries leads =
      subst (λ (l : Links Value). LeadsIn InteriorRoutes l entries (tree_by m.declared.speaker t)) (sym (tree_at m.tree))
      (subst (λ (l : Links Value). LeadsIn InteriorRoutes (tree_links m.tree) entries l) (sym (tree_at t)) (tree_leads m.tree t entries leads))

  -- before what is below follows
  pub leads_down : (entries : List (Entry Value)) → LeadsTree m.tree entries t → Leads (router_links m) entries (joined (with_side (parts m) InteriorRoutes (tree_by m.declared.speaker t)))
  leads_down entries leads = in_tree entries leads (parts m) refl

  -- where the rows of `int` stay
  pub leads_above : (entries : List (Entry Value)) → LeadsTree m.tree entries t → int_rows t ≡ int_rows m.tree → Leads (router_links m) entries (router_links (with_tree m t))
  leads_above entries leads same = subst (λ (s : Sides). Leads (router_links m) entries (joined s)) (interior_set m t same) (leads_down entries leads)
