-- The first task that holds up a prefix.
use Rattle.std.proofs.Common.{◌≡◌, ℕ, ◌≤◌, Bool, cond, List, [], ◌∷◌, ◌++◌, length, map, true, false, Option, Some, refl, sym, ap, subst, ◌∙◌}
use Rattle.std.specs.List.{AllByRecursion, find, flat_map}
use Rattle.std.specs.Option.{option_or}
use Rattle.std.specs.List.Sorted.{IsStrictlySortedBy}
use Rattle.std.specs.BTreeMap.{BTreeMap}
use Rattle.std.specs.Ordering.{nat_cmp}
use Rattle.std.specs.Map.{keys_of}
use Rattle.std.specs.FinMap as tables
use Rattle.std.specs.Cmp.{nat_cmp_total}
use Rattle.addr4.specs.Prefixes.{AddressPrefix}
use Rattle.bgp_attr.specs.Attributes.{Attrs}
use Rattle.link_change.proofs.MapLemmas.{all_entries, all_values, entries_in, read_in}
use Rattle.journal_text.specs.declared.link.Task.{Task}
use Rattle.journal_text.specs.declared.link.Task.TheVariants.{Del, Fin}
use Rattle.loss_chain.specs.Lost.{Lost}
use Rattle.in_chain.specs.Chains.{Chained}
use Rattle.in_chain.specs.Steps.{chain_lags}
use Rattle.peer_side.specs.Peers.{Chains, chain_at, chain_tasks, deletion_tasks, filter_tasks, lags_in, peer_lags, first_lost, first_walking, HaveFew, IsPeers}

find_both : (W : Task → Bool) (xs ys : List Task) → find W (xs ++ ys) ≡ option_or (find W xs) (find W ys)
find_both W [] ys = refl
find_both W (x ∷ xs) ys = by_first (W x) (find_both W xs ys)
  where
    by_first : (b : Bool) → find W (xs ++ ys) ≡ option_or (find W xs) (find W ys) → cond b (Some x) (find W (xs ++ ys)) ≡ option_or (cond b (Some x) (find W xs)) (find W ys)
    by_first true e = refl
    by_first false e = e

find_alike : (V W : Task → Bool) (xs : List Task) → AllByRecursion (λ t. V t ≡ W t) xs → find V xs ≡ find W xs
find_alike V W [] all = refl
find_alike V W (x ∷ xs) all = ap (λ (b : Bool). cond b (Some x) (find V xs)) all.0 ∙ ap (λ (o : Option Task). cond (W x) (Some x) o) (find_alike V W xs all.1)

-- a task of a chain holds up what that of the peer does
alike : (a : Chains) → IsPeers a → (p : AddressPrefix) (k : ℕ) (c : Chained) → chain_at k a ≡ Some c → (task : Task) → lags_in task (chain_at c.incoming.number a) p ≡ chain_lags c task p
alike a peers p k c at task = ap (λ (o : Option Chained). lags_in task o p) (ap (λ (n : ℕ). chain_at n a) (peers k c at).number ∙ at)

each_stage : (a : Chains) → IsPeers a → (p : AddressPrefix) → AllByRecursion (λ c. AllByRecursion (λ t. peer_lags a t p ≡ chain_lags c t p) (chain_tasks c)) (tables.values a)
each_stage a peers p = all_values nat_cmp_total (λ c. AllByRecursion (λ t. peer_lags a t p ≡ chain_lags c t p) (chain_tasks c)) a (λ k c at. of_stages k c at c.incoming.tables.deletions)
  where
    of_stages : (k : ℕ) (c : Chained) → chain_at k a ≡ Some c → (ds : List (Lost Attrs)) → AllByRecursion (λ t. peer_lags a t p ≡ chain_lags c t p) (map (λ d. Del c.incoming.number d.number) ds)
    of_stages k c at [] = tt
    of_stages k c at (d ∷ ds) = (alike a peers p k c at (Del c.incoming.number d.number), of_stages k c at ds)

lost_among : (W : Task → Bool) (p : AddressPrefix) (cs : List Chained) → AllByRecursion (λ c. AllByRecursion (λ t. W t ≡ chain_lags c t p) (chain_tasks c)) cs → find W (flat_map chain_tasks cs) ≡ first_lost p cs
lost_among W p [] all = refl
lost_among W p (c ∷ cs) all = find_both W (chain_tasks c) (flat_map chain_tasks cs)
    ∙ ap (λ (o : Option Task). option_or o (find W (flat_map chain_tasks cs))) (find_alike W (λ t. chain_lags c t p) (chain_tasks c) all.0)
    ∙ ap (λ (o : Option Task). option_or (find (λ t. chain_lags c t p) (chain_tasks c)) o) (lost_among W p cs all.1)

pub first_stage_held : (a : Chains) (p : AddressPrefix) (cs : List Chained) → IsPeers a → cs ≡ tables.values a → first_lost p cs ≡ find (λ t. peer_lags a t p) (deletion_tasks a)
first_stage_held a p cs peers is = ap (first_lost p) is ∙ sym (lost_among (λ t. peer_lags a t p) p (tables.values a) (each_stage a peers p))

each_walk : (a : Chains) → IsPeers a → (p : AddressPrefix) → AllByRecursion (λ c. peer_lags a (Fin c.incoming.number) p ≡ chain_lags c (Fin c.incoming.number) p) (tables.values a)
each_walk a peers p = all_values nat_cmp_total (λ c. peer_lags a (Fin c.incoming.number) p ≡ chain_lags c (Fin c.incoming.number) p) a (λ k c at. alike a peers p k c at (Fin c.incoming.number))

walk_among : (W : Task → Bool) (p : AddressPrefix) (cs : List Chained) → AllByRecursion (λ c. W (Fin c.incoming.number) ≡ chain_lags c (Fin c.incoming.number) p) cs
    → find W (map (λ c. Fin c.incoming.number) cs) ≡ first_walking p cs
walk_among W p [] all = refl
walk_among W p (c ∷ cs) all = ap (λ (b : Bool). cond b (Some (Fin c.incoming.number)) (find W (map (λ d. Fin d.incoming.number) cs))) all.0
    ∙ ap (λ (o : Option Task). cond (chain_lags c (Fin c.incoming.number) p) (Some (Fin c.incoming.number)) o) (walk_among W p cs all.1)

pub first_walk_held : (a : Chains) (p : AddressPrefix) (cs : List Chained) → IsPeers a → cs ≡ tables.values a → first_walking p cs ≡ find (λ t. peer_lags a t p) (filter_tasks a)
first_walk_held a p cs peers is = ap (first_walking p) is ∙ sym (walk_among (λ t. peer_lags a t p) p (tables.values a) (each_walk a peers p))

-- ---- at most so many stages stand in each chain
abbrev Entries : Type 0
Entries = List (ℕ × Chained)

abbrev pub AllFew : Entries → Type 0
AllFew es = AllByRecursion (λ x. length x.1.incoming.tables.deletions ≤ 16) es

pub all_few : (m : BTreeMap ℕ Chained) → IsStrictlySortedBy nat_cmp (keys_of m.entries) → HaveFew m → AllFew m.entries
all_few m sorted have = subst AllFew (sym (entries_in nat_cmp_total m (tables.from_entries m.entries) sorted refl))
    (all_entries nat_cmp_total (λ k c. length c.incoming.tables.deletions ≤ 16) (tables.from_entries m.entries) (λ k c at. have k c (sym (read_in nat_cmp_total m (tables.from_entries m.entries) k refl) ∙ at)))
