-- The rows and candidates of all branches, as they are lent to the decision: what a step of the router moves, and what it leaves.
use Rattle.router_moments.proofs.Common.{sym, subst, ◌∙◌, ap, ◌≡◌, ℕ, refl, true, arith, false, Bool, ◌≤◌, cond, ◌<◌, suc, zero, nat_eq, ◌≢◌, nat_tests, no_table, AddressPrefix, Route, Speaker, Declaration, resolver_at, Resolvers, rows_by, PeerRows, res_at, ComesOn, IsSent, Rows, no_rows, CoversRows, Candidates, Change, Resolving, Metric, Passed, Protos, redistributed, function_at, Chained, chain_at, Chains, filt_at, filt_by, put_chain, Interior, int_rows, Treed, own_rows, lent_rows, Moment, own_of}
use Rattle.std.proofs.Common.{Option, Some, None, nat_lt}
use Rattle.link_region.proofs.RegionLemmas.{by_bool}
use Rattle.loss_chain.proofs.TableLemmas.{equal_by, other_by}
use Rattle.in_chain.proofs.CandidateLemmas.{candidates_cover_rows}
use Rattle.peer_side.proofs.PutLemmas.{put_here, put_other}
use Rattle.router_moments.specs.Bests.{lent_candidates, candidates_by}
use Rattle.router_network.specs.Informed.{rows_over, branch_rows, branch_candidates, counted_over}

is_low : (b : ℕ) → b < 65 → nat_lt b 65 ≡ true
is_low b low = grind (arith, nat_tests)

-- ---- rows over those of each `filt.K`
filt_cond : (t : Bool) (o : Option Chained) → filt_by (cond t o None) ≡ cond t (filt_by o) no_rows
filt_cond true o = refl
filt_cond false o = refl

pub lent_over : (own : Rows Route) (a : Chains) (h : Resolvers) → lent_rows own a h ≡ rows_over own (filt_at a) h
lent_over own a h i b = each b i
  where
    each : (b : ℕ) → lent_rows own a h b ≡ rows_over own (filt_at a) h b
    each zero = refl
    each (suc b) = ap (rows_by (resolver_at (suc b) h)) (filt_cond (nat_lt (suc b) 65) (chain_at (suc b) a))

-- where the rows of each `filt.K` stay
pub quiet_rows : (own : Rows Route) (a a' : Chains) (h : Resolvers) → ((j : ℕ) → filt_at a' j ≡ filt_at a j) → lent_rows own a' h ≡ lent_rows own a h
quiet_rows own a a' h quiet = lent_over own a' h ∙ ap (λ (u : PeerRows). rows_over own u h) (λ i j. quiet j i) ∙ sym (lent_over own a h)

-- where the rows of each `res.K` stay, over whatever rows
pub reached_rows : (own : Rows Route) (a : Chains) (h h' : Resolvers) → ((u : PeerRows) → res_at h' u ≡ res_at h u) → lent_rows own a h' ≡ lent_rows own a h
reached_rows own a h h' same i b = each b i
  where
    each : (b : ℕ) → lent_rows own a h' b ≡ lent_rows own a h b
    each zero = refl
    each (suc b) = ap (λ (r : PeerRows). r (suc b)) (same (λ k. filt_by (cond (nat_lt k 65) (chain_at k a) None)))

-- or where they do over those of each `filt.K`
no_rows_below : (o : Option (Resolving Metric)) → rows_by o no_rows ≡ no_rows
no_rows_below None = refl
no_rows_below (Some s) = refl

pub resolved_rows : (own : Rows Route) (a : Chains) (h h' : Resolvers) → ((j : ℕ) → res_at h' (filt_at a) j ≡ res_at h (filt_at a) j) → lent_rows own a h' ≡ lent_rows own a h
resolved_rows own a h h' same = lent_over own a h' ∙ (λ i b. each b i) ∙ sym (lent_over own a h)
  where
    each : (b : ℕ) → rows_over own (filt_at a) h' b ≡ rows_over own (filt_at a) h b
    each zero = refl
    each (suc b) = by_bool (nat_lt (suc b) 65) (λ t. rows_by (resolver_at (suc b) h') (cond t (filt_at a (suc b)) no_rows) ≡ rows_by (resolver_at (suc b) h) (cond t (filt_at a (suc b)) no_rows))
        (λ _. same (suc b)) (λ _. no_rows_below (resolver_at (suc b) h') ∙ sym (no_rows_below (resolver_at (suc b) h)))

over_here : (own : Rows Route) (u : PeerRows) (h : Resolvers) (k : ℕ) → k ≢ 0 → k ≤ 64 → rows_over own u h k ≡ res_at h u k
over_here own u h zero peer small = absurd (peer refl)
over_here own u h (suc k) peer small = ap (λ t. rows_by (resolver_at (suc k) h) (cond t (u (suc k)) no_rows)) (is_low (suc k) (omega (arith, small)))

-- a change of a `res.K` comes among all branches
pub over_comes : (own : Rows Route) (u u' : PeerRows) (h h' : Resolvers) (k : ℕ) (p : AddressPrefix) (sent : Option (Change Route)) → k ≢ 0 → k ≤ 64 → ComesOn k p sent (res_at h u) (res_at h' u') → ComesOn k p sent (rows_over own u h) (rows_over own u' h')
over_comes own u u' h h' k p sent peer small comes = record { here = here; others = others }
  where
    here : IsSent (rows_over own u h k) (rows_over own u' h' k) p sent
    here = subst (λ (r : Rows Route). IsSent r (rows_over own u' h' k) p sent) (sym (over_here own u h k peer small))
        (subst (λ (r : Rows Route). IsSent (res_at h u k) r p sent) (sym (over_here own u' h' k peer small)) comes.here)

    others : (j : ℕ) → nat_eq j k ≡ false → rows_over own u' h' j ≡ rows_over own u h j
    others zero e = refl
    others (suc j) e = by_bool (nat_lt (suc j) 65) (λ t. rows_by (resolver_at (suc j) h') (cond t (u' (suc j)) no_rows) ≡ rows_by (resolver_at (suc j) h) (cond t (u (suc j)) no_rows))
        (λ _. comes.others (suc j) e) (λ _. no_rows_below (resolver_at (suc j) h') ∙ sym (no_rows_below (resolver_at (suc j) h)))

-- a change of branch 0 does
pub own_moves : (own own' : Rows Route) (a : Chains) (h : Resolvers) (p : AddressPrefix) (sent : Option (Change Route)) → IsSent own own' p sent → ComesOn 0 p sent (lent_rows own a h) (lent_rows own' a h)
own_moves own own' a h p sent is = record { here = is; others = others }
  where
    others : (j : ℕ) → nat_eq j 0 ≡ false → lent_rows own' a h j ≡ lent_rows own a h j
    others zero e = absurd (let clash : true ≡ false = e in cc)
    others (suc j) e = refl

-- ---- the parts of the router that are lent
module _ (m : Moment) (d : Declaration) (t : Treed) (s : Passed Protos) (a : Chains) (h : Resolvers) (declared : d ≡ m.declared) (tree : t ≡ m.tree) (redist : s ≡ m.redist) (chains : a ≡ m.chains) (hops : h ≡ m.hops) where
  pub lent_are : lent_rows (own_rows d.speaker s (int_rows t)) a h ≡ branch_rows m
  lent_are =
      ap (λ (x : Declaration). lent_rows (own_rows x.speaker s (int_rows t)) a h) declared ∙ ap (λ (x : Treed). lent_rows (own_rows m.declared.speaker s (int_rows x)) a h) tree
      ∙ ap (λ (x : Passed Protos). lent_rows (own_rows m.declared.speaker x (int_rows m.tree)) a h) redist ∙ ap (λ (x : Chains). lent_rows (own_of m) x h) chains ∙ ap (lent_rows (own_of m) m.chains) hops

module _ (m : Moment) (d : Declaration) (t : Treed) (s : Passed Protos) (a : Chains) (declared : d ≡ m.declared) (tree : t ≡ m.tree) (redist : s ≡ m.redist) (chains : a ≡ m.chains) where
  pub counted_are : counted_over (own_rows d.speaker s (int_rows t)) a ≡ branch_candidates m
  counted_are =
      ap (λ (x : Declaration). counted_over (own_rows x.speaker s (int_rows t)) a) declared ∙ ap (λ (x : Treed). counted_over (own_rows m.declared.speaker s (int_rows x)) a) tree
      ∙ ap (λ (x : Passed Protos). counted_over (own_rows m.declared.speaker x (int_rows m.tree)) a) redist ∙ ap (counted_over (own_of m)) chains

-- ---- rows stand at candidates
pub own_covered : (s : Option Speaker) (passed : Passed Protos) (int : Rows Interior) (q : AddressPrefix) → int q ≡ None → own_rows s passed int q ≡ None
own_covered None passed int q none = refl
own_covered (Some me) passed int q none = subst (λ (o : Option Interior). redistributed me (function_at passed q) q o ≡ None) (sym none) refl

res_covered : (o : Option (Resolving Metric)) (upper : Rows Route) (q : AddressPrefix) → upper q ≡ None → rows_by o upper q ≡ None
res_covered None upper q none = refl
res_covered (Some s) upper q none = ap (λ (r : Option Route). rows_by (Some s) (λ _. r) q) none

filt_covered : (o : Option Chained) (q : AddressPrefix) → candidates_by o q ≡ false → filt_by o q ≡ None
filt_covered None q none = refl
filt_covered (Some c) q none = candidates_cover_rows c q none

pub lent_covered : (own : Rows Route) (a : Chains) (h : Resolvers) (b : ℕ) → CoversRows (counted_over own a b) (lent_rows own a h b)
lent_covered own a h zero q none = no_table (own q) none
lent_covered own a h (suc b) q none = res_covered (resolver_at (suc b) h) _ q (filt_covered (cond (nat_lt (suc b) 65) (chain_at (suc b) a) None) q none)

-- ---- candidates
pub candidates_here : (int : Candidates) (a : Chains) (k : ℕ) → k ≢ 0 → k ≤ 64 → lent_candidates int a k ≡ candidates_by (chain_at k a)
candidates_here int a zero peer small = absurd (peer refl)
candidates_here int a (suc k) peer small = ap (λ t. candidates_by (cond t (chain_at (suc k) a) None)) (is_low (suc k) (omega (arith, small)))

-- of the branches but one, whose chain became another
pub candidates_beside : (int : Candidates) (a : Chains) (k : ℕ) (c : Chained) (b : ℕ) → b ≢ k → lent_candidates int (put_chain k c a) b ≡ lent_candidates int a b
candidates_beside int a k c zero apart = refl
candidates_beside int a k c (suc b) apart = ap (λ (o : Option Chained). candidates_by (cond (nat_lt (suc b) 65) o None)) (put_other k c a (suc b) (other_by (suc b) k apart))

-- where the candidates of that one stay, all do
pub candidates_kept : (int : Candidates) (a : Chains) (k : ℕ) (c : Chained) → candidates_by (Some c) ≡ candidates_by (chain_at k a) → lent_candidates int (put_chain k c a) ≡ lent_candidates int a
candidates_kept int a k c same i b = each b i
  where
    by_low : (t : Bool) (o o' : Option Chained) → candidates_by o' ≡ candidates_by o → candidates_by (cond t o' None) ≡ candidates_by (cond t o None)
    by_low true o o' is = is
    by_low false o o' is = refl

    here : (j : ℕ) → j ≡ k → candidates_by (chain_at j (put_chain k c a)) ≡ candidates_by (chain_at j a)
    here j e = ap (λ (n : ℕ). candidates_by (chain_at n (put_chain k c a))) e ∙ ap candidates_by (put_here k c a) ∙ same ∙ sym (ap (λ (n : ℕ). candidates_by (chain_at n a)) e)

    each : (b : ℕ) → lent_candidates int (put_chain k c a) b ≡ lent_candidates int a b
    each zero = refl
    each (suc b) = by_bool (nat_eq (suc b) k) (λ _. lent_candidates int (put_chain k c a) (suc b) ≡ lent_candidates int a (suc b))
        (λ e. by_low (nat_lt (suc b) 65) (chain_at (suc b) a) (chain_at (suc b) (put_chain k c a)) (here (suc b) (equal_by (suc b) k e)))
        (λ e. ap (λ (o : Option Chained). candidates_by (cond (nat_lt (suc b) 65) o None)) (put_other k c a (suc b) e))
