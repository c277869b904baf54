-- Where no task holds up a prefix, and where none has work.
use Rattle.router_moments.proofs.Common.{sym, ◌∙◌, ap, ◌≡◌, ℕ, refl, List, true, arith, false, Bool, cond, ◌&&◌, ◌||◌, AllByRecursion, list_any, Contains, option_or, AddressPrefix, Attrs, Route, Chained, Best, Fib, Adv, Task, Rows, Change, table_of, same_some, is_unread, Walked, chain_at, has_turn_in, Rule, Interior, int_rows, first_held, next_hop_at, holds_up_at, is_over, held_in, FirstHeldTells, RowsAtRestAreExact, live_state, Moment, best_of, router_links, all_phases, unread_if, Tells, Stands, AllHaveExits, phase_of, has_work, next_task, phase_tasks, Phase}
use Rattle.std.proofs.Common.{◌==◌, [], ◌∷◌, Option, Some, None, is_some}
use Rattle.std.specs.List.{All, find, flat_map}
use Rattle.std.specs.FinMap as tables
use Rattle.std.proofs.lemmas.List.Folds.{find-append}
use Rattle.std.proofs.lemmas.List.Elements.{All-contains, All-from_recursion}
use Rattle.link_change.specs.InOrder.{changed_in}
use Rattle.link_change.proofs.RowLemmas.{same_function}
use Rattle.pass_core.proofs.TurnLemmas.{none_lags_without_a_walk}
use Rattle.loss_chain.proofs.ListLemmas.{made_is_listed}
use Rattle.loss_chain.specs.Lost.{Lost}
use Rattle.link_region.proofs.RegionLemmas.{by_bool}
use Rattle.nexthop_resolver.proofs.MoveLemmas.{clash_some}
use Rattle.journal_text.specs.declared.link.Task.TheVariants as tasks
use Rattle.live_state.specs.Decided.{from_scratch}
use Rattle.peer_side.specs.Laws as peers
use Rattle.hop_side.specs.Laws as hops
use Rattle.exit_side.specs.Laws as exits
use Rattle.exit_side.proofs.RefreshLemmas.{refresh_is_listed}
use Rattle.rib_exit.specs.Laws as external
use Rattle.rib_tree.specs.Laws as losses
use Rattle.router_moments.specs.declared.tasks.Phase.TheVariants as phases
use Rattle.router_moments.specs.Turns.{IsSettled}
use Rattle.router_moments.specs.Holding.{peer_numbers, is_over_hop, idle_tasks}
use Rattle.router_moments.specs.Scratch.{row_in, is_spliced, IsExact}
use Rattle.router_moments.specs.Laws.{OnlyWorkHoldsUp}
use Rattle.router_moments.proofs.CountLemmas.{each_phase}

-- ---- a task without work holds up nothing
none_changed : (u : List (Change Route)) (p : AddressPrefix) → is_unread u ≡ false → changed_in u p ≡ false
none_changed [] p none = refl
none_changed (x ∷ u) p none = absurd (let clash : true ≡ false = none in cc)

none_any : (f : ℕ → Bool) (xs : List ℕ) → ((k : ℕ) → f k ≡ false) → list_any f xs ≡ false
none_any f [] none = refl
none_any f (x ∷ xs) none = ap (λ (b : Bool). b || list_any f xs) (none x) ∙ none_any f xs none

pub only_work : losses.NoneHeldUpWithoutWork → peers.NoneHeldUpWithoutWork → hops.NoneHeldUpWithoutWork → exits.NoneHeldUpWithoutWork → external.NoneHeldUpWithoutWork → OnlyWorkHoldsUp
only_work of_tree of_peers of_hops of_exits of_external m (tasks.Rdel proto n) p none =
    ap (λ (b : Bool). b || is_over_hop (tasks.Rdel proto n) m p) (of_tree m.tree (tasks.Rdel proto n) p 0 none).0
    ∙ none_any (λ k. is_over m.tree (tasks.Rdel proto n) (next_hop_at m k p)) peer_numbers (λ k. not_over (next_hop_at m k p))
  where
    not_over : (o : Option ℕ) → is_over m.tree (tasks.Rdel proto n) o ≡ false
    not_over None = refl
    not_over (Some hop) = (of_tree m.tree (tasks.Rdel proto n) p hop none).1
only_work of_tree of_peers of_hops of_exits of_external m tasks.Red p none = none_lags_without_a_walk m.redist p (int_rows m.tree p) none
only_work of_tree of_peers of_hops of_exits of_external m (tasks.Del k s) p none = of_peers m.chains (tasks.Del k s) p none
only_work of_tree of_peers of_hops of_exits of_external m (tasks.Fin k) p none = of_peers m.chains (tasks.Fin k) p none
only_work of_tree of_peers of_hops of_exits of_external m (tasks.Nh k) p none = of_hops m.hops k p (next_hop_at m k p) none
only_work of_tree of_peers of_hops of_exits of_external m tasks.ReadRib p none = none_changed (unread_if m.exits.queue m.reader) p none
only_work of_tree of_peers of_hops of_exits of_external m (tasks.Out k) p none = of_exits m.exits (best_of m) k p none
only_work of_tree of_peers of_hops of_exits of_external m tasks.Ext p none = of_external m.rib p none
only_work of_tree of_peers of_hops of_exits of_external m (tasks.Ref k) p none = refl

-- nor does one of a phase where none has work
pub none_held : OnlyWorkHoldsUp → (r : Phase) (m : Moment) (p : AddressPrefix) → next_task r m ≡ None → held_in r m p ≡ None
none_held only r m p = each (phase_tasks r m)
  where
    each : (ts : List Task) → find (λ t. has_work t m) ts ≡ None → find (λ t. holds_up_at t m p) ts ≡ None
    each [] none = refl
    each (t ∷ ts) none = by_bool (has_work t m) (λ b. cond b (Some t) (find (λ x. has_work x m) ts) ≡ None → find (λ x. holds_up_at x m p) (t ∷ ts) ≡ None)
        (λ _ some. absurd (cc)) (λ idle rest. ap (λ (b : Bool). cond b (Some t) (find (λ x. holds_up_at x m p) ts)) (only m t p idle) ∙ each ts rest) none

-- ---- a task with work is one of its phase
listed : losses.WorkIsListed → peers.StagesAreListed → peers.WalksAreListed → hops.WorkIsListed → exits.WorkIsListed → (m : Moment) → Stands m → (task : Task) → has_work task m ≡ true → Contains (phase_tasks (phase_of task) m) task
listed of_tree of_stages of_walks of_hops of_exits m stands (tasks.Rdel proto n) some = of_tree m.tree stands.interior.tree (tasks.Rdel proto n) some
listed of_tree of_stages of_walks of_hops of_exits m stands tasks.Red some = (0, omega arith, refl)
listed of_tree of_stages of_walks of_hops of_exits m stands (tasks.Del k s) some = of_stages m.chains k s some
listed of_tree of_stages of_walks of_hops of_exits m stands (tasks.Fin k) some = of_walks m.chains k some
listed of_tree of_stages of_walks of_hops of_exits m stands (tasks.Nh k) some = made_is_listed (λ k. tasks.Nh k) (tables.keys m.hops) k (of_hops m.hops k some)
listed of_tree of_stages of_walks of_hops of_exits m stands tasks.ReadRib some = (0, omega arith, refl)
listed of_tree of_stages of_walks of_hops of_exits m stands (tasks.Out k) some = made_is_listed (λ k. tasks.Out k) (tables.keys m.exits.chains) k (of_exits m.exits k some)
listed of_tree of_stages of_walks of_hops of_exits m stands tasks.Ext some = (0, omega arith, refl)
listed of_tree of_stages of_walks of_hops of_exits m stands (tasks.Ref k) some = made_is_listed (λ k. tasks.Ref k) (tables.keys m.exits.chains) k (refresh_is_listed m.exits k some)

-- ---- the first one that is found
found_so : (f : Task → Bool) (ts : List Task) (t : Task) → find f ts ≡ Some t → f t ≡ true
found_so f [] t found = absurd (cc)
found_so f (x ∷ xs) t found = by_bool (f x) (λ b. cond b (Some x) (find f xs) ≡ Some t → f t ≡ true)
    (λ is same. let e : x ≡ t = cc in sym (ap f e) ∙ is) (λ _ rest. found_so f xs t rest) found

none_so : (f : Task → Bool) (ts : List Task) → find f ts ≡ None → All (λ t. f t ≡ false) ts
none_so f ts none = All-from_recursion (λ t. f t ≡ false) ts (each ts none)
  where
    each : (ts : List Task) → find f ts ≡ None → AllByRecursion (λ t. f t ≡ false) ts
    each [] none = tt
    each (x ∷ xs) none = by_bool (f x) (λ b. cond b (Some x) (find f xs) ≡ None → (f x ≡ false) × AllByRecursion (λ t. f t ≡ false) xs)
        (λ _ some. absurd (cc)) (λ is rest. (is, each xs rest)) none

-- what no task of an idle does, none of a phase does
none_in : (m : Moment) (p : AddressPrefix) (rs : List Phase) → find (λ task. holds_up_at task m p) (flat_map (λ r. phase_tasks r m) rs) ≡ None → AllByRecursion (λ r. held_in r m p ≡ None) rs
none_in m p [] none = tt
none_in m p (r ∷ rs) none =
    let both = neither (held_in r m p) (find (λ task. holds_up_at task m p) (flat_map (λ s. phase_tasks s m) rs))
    (sym (find-append (λ task. holds_up_at task m p) (phase_tasks r m) (flat_map (λ s. phase_tasks s m) rs)) ∙ none) in
    (both.0, none_in m p rs both.1)
  where
    neither : (a b : Option Task) → option_or a b ≡ None → (a ≡ None) × (b ≡ None)
    neither None b e = (refl, e)
    neither (Some t) b e = absurd (cc)

pub first_held_tells : RowsAtRestAreExact → OnlyWorkHoldsUp → losses.WorkIsListed → peers.StagesAreListed → peers.WalksAreListed → hops.WorkIsListed → exits.WorkIsListed → FirstHeldTells
first_held_tells exact only of_tree of_stages of_walks of_hops of_exits m stands all p = by_first (first_held m p) refl
  where
    worked : (task : Task) → holds_up_at task m p ≡ true → has_work task m ≡ true
    worked task holds = by_bool (has_work task m) (λ b. b ≡ true) (λ _. refl) (λ idle. absurd (let clash : true ≡ false = sym holds ∙ only m task p idle in cc))

    nothing : first_held m p ≡ None → (task : Task) → holds_up_at task m p ≡ false
    nothing none task = by_bool (has_work task m) (λ _. holds_up_at task m p ≡ false)
        (λ works. All-contains (λ t. holds_up_at t m p ≡ false) (phase_tasks (phase_of task) m) task
        (none_so (λ t. holds_up_at t m p) (phase_tasks (phase_of task) m) (each_phase (λ r. held_in r m p ≡ None) (none_in m p all_phases none) (phase_of task)))
        (listed of_tree of_stages of_walks of_hops of_exits m stands task works))
        (λ idle. only m task p idle)

    by_first : (o : Option Task) → first_held m p ≡ o → Tells m p o
    by_first None at =
        let none : (task : Task) → holds_up_at task m p ≡ false = nothing at in
        record {
          first = sym at;
          works = tt;
          none = none;
          settled = record { best = exact m stands all Best p (λ task _. none task); fib = exact m stands all Fib p (λ task _. none task); sent = λ j s. exact m stands all (Adv j s) p (λ task _. none task) };
        }
    by_first (Some task) at = record { first = sym at; works = worked task (found_so (λ t. holds_up_at t m p) (idle_tasks m) task at); none = tt; settled = tt }

-- ---- where no task has work
no_second : (a : Bool) → (a && false) ≡ false
no_second true = refl
no_second false = refl

no_work : (m : Moment) → IsSettled m → (task : Task) → has_work task m ≡ false
no_work m settled (tasks.Del k s) = of_chain (chain_at k m.chains) refl
  where
    of_chain : (o : Option Chained) → chain_at k m.chains ≡ o → has_turn_in (tasks.Del k s) o ≡ false
    of_chain None at = refl
    of_chain (Some c) at = ap (λ (ds : List (Lost Attrs)). k == c.incoming.number && is_some (table_of s ds)) (settled phases.Del k c at) ∙ no_second (k == c.incoming.number)
no_work m settled (tasks.Fin k) = of_chain (chain_at k m.chains) refl
  where
    of_chain : (o : Option Chained) → chain_at k m.chains ≡ o → has_turn_in (tasks.Fin k) o ≡ false
    of_chain None at = refl
    of_chain (Some c) at = ap (λ (w : Option (Walked (List Rule))). k == c.incoming.number && is_some w) (settled phases.Fin k c at) ∙ no_second (k == c.incoming.number)
no_work m settled (tasks.Nh k) = settled phases.Nh k
no_work m settled (tasks.Rdel proto n) = ap (λ (ds : List (Lost Interior)). is_some (table_of n ds)) (settled phases.Rdel proto)
no_work m settled tasks.ReadRib = ap is_unread (settled phases.ReadRib)
no_work m settled (tasks.Out k) = settled phases.Out k
no_work m settled tasks.Red = ap is_some (settled phases.Red)
no_work m settled tasks.Ext = settled phases.Ext
no_work m settled (tasks.Ref k) = settled phases.Ref k

-- two links with the same row at each prefix are the same
rows_everywhere : {V : Type 0} (a b : Option (Rows V)) → ((p : AddressPrefix) → row_in a p ≡ row_in b p) → a ≡ b
rows_everywhere None None same = refl
rows_everywhere None (Some r) same = absurd (clash_some (r (record { address = 0; length = 0 })) ⊥ (same (record { address = 0; length = 0 })))
rows_everywhere (Some r) None same = absurd (clash_some (r (record { address = 0; length = 0 })) ⊥ (sym (same (record { address = 0; length = 0 }))))
rows_everywhere {V} (Some r) (Some s) same = ap (λ (rows : Rows V). Some rows) (same_function r s (λ p. same_some (r p) (s p) (same p)))

pub settled_is_exact : RowsAtRestAreExact → OnlyWorkHoldsUp → (m : Moment) → Stands m → AllHaveExits m → IsSettled m → IsExact m
settled_is_exact law only m stands all settled link =
    rows_everywhere (router_links m link) (from_scratch (live_state m) link) (λ p. law m stands all link p (λ task holds. kept task (is_spliced link) p))
  where
    kept : (task : Task) (b : Bool) (p : AddressPrefix) → cond b (has_work task m) (holds_up_at task m p) ≡ false
    kept task true p = no_work m settled task
    kept task false p = only m task p (no_work m settled task)
