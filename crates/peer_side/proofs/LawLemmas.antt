-- Which of the peers' tasks hold up a prefix, and where they are listed.
use Rattle.std.proofs.Common.{◌≡◌, ℕ, Bool, true, false, ◌&&◌, ◌==◌, Option, Some, None, is_some, refl, sym, subst, ◌∙◌}
use Rattle.std.specs.List.{Contains}
use Rattle.std.proofs.lemmas.Bool.{and_parts}
use Rattle.std.proofs.lemmas.Map.Views.{Contains-from_lookup, tells_apart}
use Rattle.std.proofs.lemmas.Map.Made.{Contains-values_of}
use Rattle.std.specs.Ordering.{nat_cmp}
use Rattle.std.specs.FinMap as tables
use Rattle.std.specs.FinMap.{get-entries, nat_cmp-IsAntisymmetric}
use Rattle.addr4.specs.Prefixes.{AddressPrefix}
use Rattle.link_change.proofs.MapLemmas.{find_at}
use Rattle.journal_text.specs.declared.link.Task.{Task}
use Rattle.journal_text.specs.declared.link.Task.TheVariants.{Del, Fin}
use Rattle.pass_core.specs.Turns.{row_lags}
use Rattle.pass_core.proofs.TurnLemmas.{none_lags_without_a_walk}
use Rattle.loss_chain.specs.Steps.{table_of}
use Rattle.loss_chain.specs.Held.{has_row}
use Rattle.loss_chain.proofs.HeldLemmas.{no_stage_has, stage_is_listed}
use Rattle.loss_chain.proofs.ListLemmas.{made_is_listed, flat_is_listed}
use Rattle.loss_chain.proofs.TableLemmas.{equal_by}
use Rattle.in_chain.specs.Chains.{Chained}
use Rattle.in_chain.specs.Incomings.{in_rows}
use Rattle.in_chain.specs.Steps.{has_turn, chain_lags}
use Rattle.peer_side.specs.Peers.{Chains, chain_at, peer_of, has_turn_in, lags_in, chain_tasks, deletion_tasks, filter_tasks}
use Rattle.peer_side.specs.Laws.{NoneHeldUpWithoutWork, StagesAreListed, WalksAreListed}

-- ---- without work
less_by : (a b c : Bool) → (b ≡ false → c ≡ false) → (a && b) ≡ false → (a && c) ≡ false
less_by true b c less none = less none
less_by false b c less none = refl

of_chain : (c : Chained) (task : Task) (p : AddressPrefix) → has_turn c task ≡ false → chain_lags c task p ≡ false
of_chain c (Del k s) p idle =
    less_by (k == c.incoming.number) (is_some (table_of s c.incoming.tables.deletions)) (has_row (table_of s c.incoming.tables.deletions) p) (no_stage_has (table_of s c.incoming.tables.deletions) p) idle
of_chain c (Fin k) p idle =
    less_by (k == c.incoming.number) (is_some c.filter.walk) (row_lags c.filter p (in_rows c.incoming p)) (none_lags_without_a_walk c.filter p (in_rows c.incoming p)) idle
of_chain c other p idle = refl

by_chain : (task : Task) (p : AddressPrefix) (o : Option Chained) → has_turn_in task o ≡ false → lags_in task o p ≡ false
by_chain task p None idle = refl
by_chain task p (Some c) idle = of_chain c task p idle

pub none_held_up_without_work : NoneHeldUpWithoutWork
none_held_up_without_work a task p idle = by_chain task p (chain_at (peer_of task) a) idle

-- ---- with work
chain_is_listed : (a : Chains) (k : ℕ) (c : Chained) → chain_at k a ≡ Some c → Contains (tables.values a) c
chain_is_listed a k c at =
    Contains-values_of (tables.entries a) k c (Contains-from_lookup (tells_apart nat_cmp-IsAntisymmetric) k c (tables.entries a) (sym (find_at nat_cmp (tables.entries a) k) ∙ sym (get-entries a k) ∙ at))

pub stages_are_listed : StagesAreListed
stages_are_listed a k s works = by_peer (chain_at k a) refl works
  where
    by_peer : (o : Option Chained) → chain_at k a ≡ o → has_turn_in (Del k s) o ≡ true → Contains (deletion_tasks a) (Del k s)
    by_peer None at there = absurd (let clash : false ≡ true = there in cc)
    by_peer (Some c) at there =
        let both = and_parts (k == c.incoming.number) (is_some (table_of s c.incoming.tables.deletions)) there in
        flat_is_listed chain_tasks (tables.values a) c (Del k s) (chain_is_listed a k c at)
        (subst (λ (j : ℕ). Contains (chain_tasks c) (Del j s)) (sym (equal_by k c.incoming.number both.0)) (stage_is_listed (λ (n : ℕ). Del c.incoming.number n) s c.incoming.tables.deletions both.1))

pub walks_are_listed : WalksAreListed
walks_are_listed a k works = by_peer (chain_at k a) refl works
  where
    by_peer : (o : Option Chained) → chain_at k a ≡ o → has_turn_in (Fin k) o ≡ true → Contains (filter_tasks a) (Fin k)
    by_peer None at there = absurd (let clash : false ≡ true = there in cc)
    by_peer (Some c) at there =
        let both = and_parts (k == c.incoming.number) (is_some c.filter.walk) there in
        subst (λ (j : ℕ). Contains (filter_tasks a) (Fin j)) (sym (equal_by k c.incoming.number both.0))
        (made_is_listed (λ (x : Chained). Fin x.incoming.number) (tables.values a) c (chain_is_listed a k c at))
