-- The first task that has work.
use Rattle.std.proofs.Common.{◌≡◌, ℕ, Bool, true, ◌&&◌, cond, List, [], ◌∷◌, ◌++◌, map, Option, Some, None, is_some, refl, sym, ap, ◌∙◌, arith}
use Rattle.std.specs.Prelude.{IfNone}
use Rattle.std.specs.List.{AllByRecursion, find, flat_map, sum_by}
use Rattle.std.specs.FinMap as tables
use Rattle.std.specs.Cmp.{nat_cmp_total}
use Rattle.std.proofs.lemmas.List.Sums.{sum_by-cons}
use Rattle.bgp_attr.specs.Attributes.{Attrs}
use Rattle.link_change.proofs.MapLemmas.{all_values}
use Rattle.journal_text.specs.declared.link.Task.{Task}
use Rattle.journal_text.specs.declared.link.Task.TheVariants.{Del, Fin}
use Rattle.loss_chain.specs.Lost.{Lost}
use Rattle.loss_chain.specs.Tables.{lost_count}
use Rattle.loss_chain.specs.declared.owner.Owner.TheVariants.{Peer}
use Rattle.loss_chain.specs.Steps.{first_task, oldest_of, table_of}
use Rattle.loss_chain.proofs.ListLemmas.{all_so, all_made, all_flat}
use Rattle.loss_chain.proofs.TableLemmas.{same_by, all_tables}
use Rattle.link_region.proofs.RegionLemmas.{by_bool}
use Rattle.in_chain.specs.Chains.{Chained, turns_left}
use Rattle.in_chain.specs.Laws.{TurnsAreLeft}
use Rattle.peer_side.specs.Peers.{Chains, chain_at, chain_tasks, deletion_tasks, filter_tasks, first_walk, has_turn_in, has_peer_work, lost_of, lost_in, left_in, IsPeers}

-- ---- the stages
pub all_working : (W : Task → Bool) (ts : List Task) → AllByRecursion (λ t. W t ≡ true) ts → find W ts ≡ first_task ts
all_working W [] all = refl
all_working W (t ∷ ts) all = ap (λ (b : Bool). cond b (Some t) (find W ts)) all.0

-- each stage that stands has work
stages_work : (a : Chains) → IsPeers a → AllByRecursion (λ t. has_peer_work a t ≡ true) (deletion_tasks a)
stages_work a peers = all_flat Works chain_tasks (tables.values a) (all_values nat_cmp_total (λ c. AllByRecursion Works (chain_tasks c)) a of_chain)
  where
    Works : Task → Type 0
    Works t = has_peer_work a t ≡ true

    of_chain : (k : ℕ) (c : Chained) → chain_at k a ≡ Some c → AllByRecursion Works (chain_tasks c)
    of_chain k c at =
        let here : chain_at c.incoming.number a ≡ Some c = ap (λ (n : ℕ). chain_at n a) (peers k c at).number ∙ at in
        all_made Works (λ (d : Lost Attrs). Del c.incoming.number d.number) c.incoming.tables.deletions
        (all_so (λ d. is_some (table_of d.number c.incoming.tables.deletions) ≡ true) (λ d. Works (Del c.incoming.number d.number))
        (λ d there. ap (has_turn_in (Del c.incoming.number d.number)) here ∙ ap (λ (b : Bool). b && is_some (table_of d.number c.incoming.tables.deletions)) (same_by c.incoming.number c.incoming.number refl) ∙ there)
        c.incoming.tables.deletions (all_tables c.incoming.tables.deletions))

pub first_stage : (a : Chains) (cs : List Chained) → IsPeers a → cs ≡ tables.values a → first_task (flat_map chain_tasks cs) ≡ find (has_peer_work a) (deletion_tasks a)
first_stage a cs peers is = ap (λ (l : List Chained). first_task (flat_map chain_tasks l)) is ∙ sym (all_working (has_peer_work a) (deletion_tasks a) (stages_work a peers))

pub first_none : {A : Type 0} (f : A → Task) (xs : List A) (rest : List Task) → first_task (map f xs ++ rest) ≡ None → (xs ≡ []) × (first_task rest ≡ None)
first_none f [] rest e = (refl, e)
first_none f (x ∷ xs) rest e = absurd (cc)

-- a chain's own answer is that of its tasks, before those of the others
pub oldest_found : (n : ℕ) (ds : List (Lost Attrs)) (rest : List Task) (t : Task) → oldest_of (Peer n) ds ≡ Some t → first_task (map (λ d. Del n d.number) ds ++ rest) ≡ Some t
oldest_found n [] rest t e = absurd (cc)
oldest_found n (d ∷ ds) rest t e = e

pub oldest_none : (n : ℕ) (ds : List (Lost Attrs)) (rest : List Task) → oldest_of (Peer n) ds ≡ None → first_task (map (λ d. Del n d.number) ds ++ rest) ≡ first_task rest
oldest_none n [] rest e = refl
oldest_none n (d ∷ ds) rest e = absurd (cc)

no_stage : (cs : List Chained) → first_task (flat_map chain_tasks cs) ≡ None → sum_by lost_of cs ≡ 0
no_stage [] e = refl
no_stage (c ∷ cs) e =
    let here = first_none (λ (d : Lost Attrs). Del c.incoming.number d.number) c.incoming.tables.deletions (flat_map chain_tasks cs) e in
    let none : lost_of c ≡ 0 = ap lost_count here.0 in
    let rest = no_stage cs here.1 in
    let all = sum_by-cons lost_of c cs in
    omega (arith, none, rest, all)

pub none_lost : (a : Chains) (cs : List Chained) (first : Option Task) → cs ≡ tables.values a → first ≡ first_task (flat_map chain_tasks cs) → IfNone first (lost_in a ≡ 0)
none_lost a cs None is e = ap (sum_by lost_of) (sym is) ∙ no_stage cs (sym e)
none_lost a cs (Some task) is e = tt

-- ---- the walks
-- a filter's walk has work while it is on
walks_work : (a : Chains) → IsPeers a → AllByRecursion (λ c. has_peer_work a (Fin c.incoming.number) ≡ is_some c.filter.walk) (tables.values a)
walks_work a peers = all_values nat_cmp_total (λ c. has_peer_work a (Fin c.incoming.number) ≡ is_some c.filter.walk) a (λ k c at.
    let here : chain_at c.incoming.number a ≡ Some c = ap (λ (n : ℕ). chain_at n a) (peers k c at).number ∙ at in
    ap (has_turn_in (Fin c.incoming.number)) here ∙ ap (λ (b : Bool). b && is_some c.filter.walk) (same_by c.incoming.number c.incoming.number refl))

walk_among : (W : Task → Bool) (cs : List Chained) → AllByRecursion (λ c. W (Fin c.incoming.number) ≡ is_some c.filter.walk) cs → find W (map (λ c. Fin c.incoming.number) cs) ≡ first_walk cs
walk_among W [] all = refl
walk_among W (c ∷ cs) all = ap (λ (b : Bool). cond b (Some (Fin c.incoming.number)) (find W (map (λ d. Fin d.incoming.number) cs))) all.0
    ∙ ap (λ (o : Option Task). cond (is_some c.filter.walk) (Some (Fin c.incoming.number)) o) (walk_among W cs all.1)

pub first_on : (a : Chains) (cs : List Chained) → IsPeers a → cs ≡ tables.values a → first_walk cs ≡ find (has_peer_work a) (filter_tasks a)
first_on a cs peers is = ap first_walk is ∙ sym (walk_among (has_peer_work a) (tables.values a) (walks_work a peers))

no_walk : TurnsAreLeft → (cs : List Chained) → first_walk cs ≡ None → sum_by turns_left cs ≡ 0
no_walk law [] e = refl
no_walk law (c ∷ cs) e = by_bool (is_some c.filter.walk) (λ b. cond b (Some (Fin c.incoming.number)) (first_walk cs) ≡ None → sum_by turns_left (c ∷ cs) ≡ 0)
    (λ _ some. absurd (cc))
    (λ off none.
    let here : turns_left c ≡ 0 = (law c).1 off in
    let rest = no_walk law cs none in
    let all = sum_by-cons turns_left c cs in
    omega (arith, here, rest, all)) e

pub none_left : TurnsAreLeft → (a : Chains) (cs : List Chained) (first : Option Task) → cs ≡ tables.values a → first ≡ first_walk cs → IfNone first (left_in a ≡ 0)
none_left law a cs None is e = ap (sum_by turns_left) (sym is) ∙ no_walk law cs (sym e)
none_left law a cs (Some task) is e = tt
