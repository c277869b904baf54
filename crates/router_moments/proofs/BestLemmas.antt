-- What follows a change of `res.K`: what is decided, and what its entries lead to.
use Rattle.router_moments.proofs.Common.{sym, subst, ◌∙◌, ap, ◌≡◌, ℕ, refl, List, true, arith, ◌≤◌, cond, ◌<◌, suc, zero, nat_eq, nat_lt, nat_tests, itself, AddressPrefix, Route, Speaker, best_is_a_branchs, best_rows, Declaration, Exited, resolver_at, Resolvers, rows_by, PeerRows, ComesOn, leads_sent, Journaled, Adds, with_entries, route_value, route_rows, Leads, Links, with_link, Entry, Link, Best, Value, IsSent, Rows, no_rows, Change, joined, with_side, LeadsIn, Decided, same_by, Passed, chain_at, Chains, filt_at, filt_by, Protos, int_rows, Treed, int_candidates, own_rows, all_at, best_at, best_links, best_entries, Queues, lent_rows, resolved_at, Moment, best_of, own_of, with_exits, candidates_of, Decides}
use Rattle.std.proofs.Common.{[], Option, Some, None}
use Rattle.journal_text.proofs.JournalLemmas.{with_entries_none}
use Rattle.link_region.proofs.RegionLemmas.{by_bool}
use Rattle.loss_chain.proofs.TableLemmas.{equal_by, other_by}
use Rattle.decision.specs.Branches.{AllRows, best_candidates, Decides as DecidesOver}
use Rattle.decision.proofs.LawLemmas.{best_is_of_its_prefix}
use Rattle.router_moments.specs.Bests.{lent_candidates, DecidesOn}
use Rattle.router_moments.specs.Works.{JoinsQueue}

-- ---- the branches that there may be
same_best : (rows other : AllRows) → ((b : ℕ) → b < 65 → rows b ≡ other b) → best_rows rows ≡ best_rows other
same_best rows other same i p = best_is_of_its_prefix rows other p (λ b low. ap (λ (r : Rows Route). r p) (same b low)) i

-- where the rows of each `res.K` stay
pub same_all : (own : Rows Route) (a a' : Chains) (h h' : Resolvers) → ((j : ℕ) → resolved_at a' h' j ≡ resolved_at a h j) → best_at own a' h' ≡ best_at own a h
same_all own a a' h h' same = ap best_rows (λ i j. each j i)
  where
    each : (j : ℕ) → all_at own a' h' j ≡ all_at own a h j
    each zero = refl
    each (suc k) = same (suc k)

-- so where those of each `filt.K` do
pub best_quiet : (own : Rows Route) (a a' : Chains) (h : Resolvers) → ((j : ℕ) → filt_at a' j ≡ filt_at a j) → best_at own a' h ≡ best_at own a h
best_quiet own a a' h quiet = same_all own a a' h h (λ j. ap (λ (rows : Rows Route). rows_by (resolver_at j h) rows) (quiet j))

is_low : (b : ℕ) → b < 65 → nat_lt b 65 ≡ true
is_low b low = grind (arith, nat_tests)

lent_here : (own : Rows Route) (a : Chains) (h : Resolvers) (b : ℕ) → b < 65 → lent_rows own a h b ≡ all_at own a h b
lent_here own a h zero low = refl
lent_here own a h (suc b) low = ap (λ t. rows_by (resolver_at (suc b) h) (filt_by (cond t (chain_at (suc b) a) None))) (is_low (suc b) low)

-- what is lent has the same best rows
pub lent_is : (own : Rows Route) (a : Chains) (h : Resolvers) → best_rows (lent_rows own a h) ≡ best_at own a h
lent_is own a h = same_best (lent_rows own a h) (all_at own a h) (lent_here own a h)

-- ---- the parts of the router that are lent
module _ (m : Moment) (d : Declaration) (t : Treed) (s : Passed Protos) (a : Chains) (h : Resolvers) (declared : d ≡ m.declared) (tree : t ≡ m.tree) (redist : s ≡ m.redist) (chains : a ≡ m.chains) (hops : h ≡ m.hops) where
  abbrev lent_own : Rows Route
  lent_own = own_rows d.speaker s (int_rows t)

  pub own_is : lent_own ≡ own_of m
  own_is = ap (λ (x : Declaration). own_rows x.speaker s (int_rows t)) declared ∙ ap (λ (x : Treed). own_rows m.declared.speaker s (int_rows x)) tree ∙ ap (λ (x : Passed Protos). own_rows m.declared.speaker x (int_rows m.tree)) redist

  all_is : all_at lent_own a h ≡ all_at (own_of m) m.chains m.hops
  all_is = ap (λ (x : Rows Route). all_at x a h) own_is ∙ ap (λ (x : Chains). all_at (own_of m) x h) chains ∙ ap (all_at (own_of m) m.chains) hops

  pub lent_best : best_rows (lent_rows lent_own a h) ≡ best_of m
  lent_best = lent_is lent_own a h ∙ ap best_rows all_is

  pub lent_at : best_candidates (lent_candidates (int_candidates t) a) ≡ candidates_of m
  lent_at = ap (λ (x : Treed). best_candidates (lent_candidates (int_candidates x) a)) tree ∙ ap (λ (x : Chains). best_candidates (lent_candidates (int_candidates m.tree) x)) chains

-- where no branch has a row
pub best_none : (rows : AllRows) → ((b : ℕ) → rows b ≡ no_rows) → best_rows rows ≡ no_rows
best_none rows none i p = by_row (best_rows rows p) refl i
  where
    by_row : (o : Option Route) → best_rows rows p ≡ o → best_rows rows p ≡ None
    by_row None is = is
    by_row (Some r) is = let b = best_is_a_branchs rows p r is in absurd (let clash : None ≡ Some r = sym (ap (λ (x : Rows Route). x p) (none b.0)) ∙ b.2 in cc)

-- ---- what is decided
-- the same rows, where nothing came
pub comes_none : (k : ℕ) (p : AddressPrefix) (before now : PeerRows) → ComesOn k p None before now → now ≡ before
comes_none k p before now comes i j = each j i
  where
    each : (j : ℕ) → now j ≡ before j
    each j = by_bool (nat_eq j k) (λ b. now j ≡ before j) (λ e. subst (λ (n : ℕ). now n ≡ before n) (sym (equal_by j k e)) comes.here) (λ e. comes.others j e)

-- a change of `best`, if one came, joins the queue
pub joins_none : (sent : Option (Change Route)) (m : Moment) (j : Journaled) → sent ≡ None → Adds (JoinsQueue sent m m) j j
joins_none sent m j is = subst (λ (o : Option (Change Route)). Adds (JoinsQueue o m m) j j) (sym is) ([], sym (with_entries_none j), record { lines = refl; queued = refl; after = refl })

pub joins_some : (sent : Option (Change Route)) (change : Change Route) (m v : Moment) (e : Exited) (before j : Journaled) → v ≡ m → sent ≡ Some change → j ≡ with_entries before (best_entries (Some change)) → Queues (Some change) v.exits e
    → Adds (JoinsQueue sent m (with_exits v e)) before j
joins_some sent change m v e before j view is pushed queued =
    subst (λ (n : Moment). Adds (JoinsQueue sent n (with_exits v e)) before j) view
    (subst (λ (o : Option (Change Route)). Adds (JoinsQueue o v (with_exits v e)) before j) (sym is) (best_entries (Some change), pushed, record { lines = refl; queued = queued; after = refl }))

pub decides_none : (k : ℕ) (sent : Option (Change Route)) (m : Moment) (j : Journaled) → sent ≡ None → Adds (Decides k sent m m) j j
decides_none k sent m j is = (
  [],
  sym (with_entries_none j),
  record {
    decided = record {
      best = None;
      lines = refl;
      decides = λ before p comes. ap best_rows (comes_none k p before (all_at (own_of m) m.chains m.hops) (subst (λ (s : Option (Change Route)). ComesOn k p s before (all_at (own_of m) m.chains m.hops)) is comes));
    };
    queued = refl;
    after = refl;
  },
)

-- over the rows that are lent, what leads leads for those of all branches
leads_by : (k : ℕ) (own : Rows Route) (a : Chains) (h : Resolvers) (change : Change Route) (best : Option (Change Route)) → k ≤ 64 → DecidesOver k (lent_rows own a h) change best → (was : PeerRows) (p : AddressPrefix) → ComesOn k p (Some change) was (all_at own a h)
    → IsSent (best_rows was) (best_rows (all_at own a h)) p best
leads_by k own a h change best small decides was p comes =
    subst (λ (r : Rows Route). IsSent r (best_rows (all_at own a h)) p best) (same_best former was former_is)
    (subst (λ (r : Rows Route). IsSent (best_rows former) r p best) (lent_is own a h)
    (decides former p (λ b other. ap (λ t. cond t (was k) (lent_rows own a h b)) (other_by b k other))
    (subst (λ (r : Rows Route). IsSent r (lent_rows own a h k) p (Some change)) (sym (ap (λ t. cond t (was k) (lent_rows own a h k)) (same_by k k refl)))
    (subst (λ (r : Rows Route). IsSent (was k) r p (Some change)) (sym (lent_here own a h k (omega (arith, small)))) comes.here))))
  where
    -- the old rows of its branch, beside the rows that are lent
    former : AllRows
    former b = cond (nat_eq b k) (was k) (lent_rows own a h b)

    former_is : (b : ℕ) → b < 65 → former b ≡ was b
    former_is b few = by_bool (nat_eq b k) (λ t. cond t (was k) (lent_rows own a h b) ≡ was b) (λ e. ap was (sym (equal_by b k e))) (λ e. lent_here own a h b few ∙ comes.others b e)

pub decides_some : (k : ℕ) (sent : Option (Change Route)) (change : Change Route) (best : Option (Change Route)) (m m' : Moment) (d : Declaration) (t : Treed) (s : Passed Protos) (a : Chains) (h : Resolvers) (before now : Journaled) → k ≤ 64 → sent ≡ Some change
    → d ≡ m.declared → t ≡ m.tree → s ≡ m.redist → a ≡ m.chains → h ≡ m.hops → DecidesOver k (lent_rows (own_rows d.speaker s (int_rows t)) a h) change best → Adds (JoinsQueue best m m') before now → Adds (Decides k sent m m') before now
decides_some k sent change best m m' d t s a h before now small is declared tree redist chains hops decides joins = (
  joins.0,
  joins.1,
  record {
    decided = record {
      best = best;
      lines = joins.2.lines;
      decides = subst (λ (o : Option (Change Route)). LeadsTo o (all_at (own_of m) m.chains m.hops)) (sym is) (subst (LeadsTo (Some change)) (all_is m d t s a h declared tree redist chains hops) (leads_by k (own_rows d.speaker s (int_rows t)) a h change best small decides));
    };
    queued = joins.2.queued;
    after = joins.2.after;
  },
)
  where
    LeadsTo : Option (Change Route) → PeerRows → Type 0
    LeadsTo o now = (was : PeerRows) (p : AddressPrefix) → ComesOn k p o was now → IsSent (best_rows was) (best_rows now) p best

-- ---- the region of `best`
pub best_leads : (s : Option Speaker) (me : Speaker) (old new : Rows Route) (p : AddressPrefix) (best : Option (Change Route)) → s ≡ Some me → IsSent old new p best → LeadsIn Decided (best_links s old) (best_entries best) (best_links s new)
best_leads s me old new p best since sent sides is =
    subst (λ (l : Links Value). Leads (joined sides) (best_entries best) l) (λ i link. each link i)
    (leads_sent route_value (λ a b e. cc) (joined sides) Best old new p best (ap (λ (l : Links Value). l Best) is ∙ ap (λ (x : Option Speaker). best_links x old Best) since) sent)
  where
    each : (link : Link) → with_link (joined sides) Best (Some (route_rows new)) link ≡ joined (with_side sides Decided (best_links s new)) link
    each Best = ap (λ (x : Option Speaker). best_links x new Best) (sym since)
    each other = refl

-- of nothing nothing is decided
pub best_of_none : (k : ℕ) (passed : Option (Change Route)) (now : PeerRows) (entries : List (Entry Value)) (d : DecidesOn k passed now entries) → passed ≡ None → d.best ≡ None
best_of_none k passed now entries d none = by_best d.best refl
  where
    nowhere : AddressPrefix
    nowhere = record { address = 0; length = 0 }

    sent : IsSent (best_rows now) (best_rows now) nowhere d.best
    sent = d.decides now nowhere (record { here = subst (λ (s : Option (Change Route)). IsSent (now k) (now k) nowhere s) (sym none) refl; others = λ j e. refl })

    by_best : (o : Option (Change Route)) → d.best ≡ o → o ≡ None
    by_best None is = refl
    by_best (Some c) is =
        let x : IsSent (best_rows now) (best_rows now) nowhere (Some c) = subst (IsSent (best_rows now) (best_rows now) nowhere) is sent in
        absurd (x.1.1 (sym (ap (λ b. cond b c.after (best_rows now c.prefix)) (itself c.prefix)) ∙ sym (ap (λ (rows : Rows Route). rows c.prefix) x.2) ∙ x.1.0))
