-- The next task of a phase.
use Rattle.router_moments.proofs.Common.{sym, subst, ◌∙◌, ap, ◌≡◌, ℕ, refl, List, true, false, Bool, ◌++◌, ◌≤◌, cond, ◌<◌, take, ◌||◌, AllByRecursion, list_any, range_with_len, AddressPrefix, Attrs, Route, Chained, Task, Change, table_of, is_unread, Walked, chain_at, Protos, Proto, Connected, Static, Ospf, Rip, Interior, Branch, Treed, branch_of, next_hop_at, holds_up_at, is_over, held_in, Moment, best_of, counts, beyonds, unread_if, best_beyond, Stands, phase_of, has_work, next_task, phase_tasks, Phase}
use Rattle.std.proofs.Common.{length, [], ◌∷◌, map, Option, Some, None, is_some}
use Rattle.std.specs.Prelude.{IfNone, option_map}
use Rattle.hop_side.specs.Resolvers.{Beyonds, has_hop_work, hop_holds_up, left_in}
use Rattle.std.specs.List.{find}
use Rattle.std.specs.FinMap as tables
use Rattle.journal_text.specs.declared.link.Task.TheVariants as tasks
use Rattle.loss_chain.specs.Lost.{Lost}
use Rattle.loss_chain.specs.Steps.{first_task}
use Rattle.loss_chain.proofs.ListLemmas.{all_any, all_so, all_made, all_flat}
use Rattle.loss_chain.proofs.TableLemmas.{all_tables}
use Rattle.link_region.proofs.RegionLemmas.{by_bool}
use Rattle.peer_side.specs.Peers.{chain_tasks, has_peer_work, peer_lags}
use Rattle.peer_side.proofs.TaskLemmas.{all_working, first_none}
use Rattle.rib_tree.specs.BranchSteps.{branch_tasks}
use Rattle.rib_tree.specs.Steps.{tree_holds_up, tree_lags, tree_over}
use Rattle.rib_tree.specs.Trees.{tree_tasks}
use Rattle.rib_tree.proofs.RestLemmas.{all_tree}
use Rattle.router_moments.specs.declared.tasks.Phase.TheVariants.{Rdel, Red, Del, Fin, Nh, ReadRib, Out, Ext, Ref}
use Rattle.rib_exit.specs.Exits.{has_ext_work}
use Rattle.exit_side.specs.Exits.{has_exit_work, exit_holds_up, left_in as exits_left_in, has_refresh, refreshes_left}
use Rattle.router_moments.proofs.CountLemmas.{over_none}
use Rattle.router_moments.specs.Holding.{peer_numbers}
use Rattle.router_moments.proofs.HeldLemmas.{AreUpTo, all_hops}

-- ---- each task is of its phase: a line for each phase
pub all_of_phase : (r : Phase) (m : Moment) → AllByRecursion (λ t. phase_of t ≡ r) (phase_tasks r m)
all_of_phase Rdel m = all_tree (λ t. phase_of t ≡ Rdel) m.tree (λ proto. all_made (λ t. phase_of t ≡ Rdel) (λ (d : Lost Interior). tasks.Rdel (branch_of proto m.tree).proto d.number) (branch_of proto m.tree).tables.deletions (all_any _ (λ d. refl) (branch_of proto m.tree).tables.deletions))
all_of_phase Red m = (refl, tt)
all_of_phase Del m = all_flat (λ t. phase_of t ≡ Del) chain_tasks (tables.values m.chains) (all_any (λ c. AllByRecursion (λ t. phase_of t ≡ Del) (chain_tasks c))
    (λ c. all_made (λ t. phase_of t ≡ Del) (λ (d : Lost Attrs). tasks.Del c.incoming.number d.number) c.incoming.tables.deletions (all_any _ (λ d. refl) c.incoming.tables.deletions)) (tables.values m.chains))
all_of_phase Fin m = all_made (λ t. phase_of t ≡ Fin) (λ (c : Chained). tasks.Fin c.incoming.number) (tables.values m.chains) (all_any _ (λ c. refl) (tables.values m.chains))
all_of_phase Nh m = all_made (λ t. phase_of t ≡ Nh) (λ (k : ℕ). tasks.Nh k) (tables.keys m.hops) (all_any _ (λ k. refl) (tables.keys m.hops))
all_of_phase ReadRib m = (refl, tt)
all_of_phase Out m = all_made (λ t. phase_of t ≡ Out) (λ (k : ℕ). tasks.Out k) (tables.keys m.exits.chains) (all_any _ (λ k. refl) (tables.keys m.exits.chains))
all_of_phase Ext m = (refl, tt)
all_of_phase Ref m = all_made (λ t. phase_of t ≡ Ref) (λ (k : ℕ). tasks.Ref k) (tables.keys m.exits.chains) (all_any _ (λ k. refl) (tables.keys m.exits.chains))

-- ---- the first that has work
at_work : (m : Moment) (P : Task → Type 0) (ts : List Task) (task : Task) → AllByRecursion P ts → find (λ t. has_work t m) ts ≡ Some task → (has_work task m ≡ true) × P task
at_work m P [] task all e = absurd (cc)
at_work m P (t ∷ ts) task all e =
    by_bool (has_work t m) (λ b. cond b (Some t) (find (λ x. has_work x m) ts) ≡ Some task → (has_work task m ≡ true) × P task)
    (λ w some. let same : t ≡ task = cc in subst (λ (x : Task). (has_work x m ≡ true) × P x) same (w, all.0)) (λ _ rest. at_work m P ts task all.1 rest) e

pub next_works : (r : Phase) (m : Moment) (task : Task) → next_task r m ≡ Some task → (has_work task m ≡ true) × (phase_of task ≡ r)
next_works r m task e = at_work m (λ t. phase_of t ≡ r) (phase_tasks r m) task (all_of_phase r m) e

-- ---- by the part that has the tasks
found_same : (f g : Task → Bool) (ts : List Task) → AllByRecursion (λ t. f t ≡ g t) ts → find f ts ≡ find g ts
found_same f g [] all = refl
found_same f g (t ∷ ts) all = ap (λ (b : Bool). cond b (Some t) (find f ts)) all.0 ∙ ap (λ (o : Option Task). cond (g t) (Some t) o) (found_same f g ts all.1)

-- a task of a phase of the peers
abbrev pub IsOfPeers : Phase → Type 0
IsOfPeers Del = Unit {0}
IsOfPeers Fin = Unit {0}
IsOfPeers other = ⊥

-- what is told of the tasks of peers, is told of those of such a phase
module _ (f g : Task → Bool) (losses : (k s : ℕ) → f (tasks.Del k s) ≡ g (tasks.Del k s)) (walks : (k : ℕ) → f (tasks.Fin k) ≡ g (tasks.Fin k)) (s : Phase) (peers : IsOfPeers s) where
  of_peers : (t : Task) → phase_of t ≡ s → f t ≡ g t
  of_peers (tasks.Del k n) is = losses k n
  of_peers (tasks.Fin k) is = walks k
  of_peers other is = absurd (subst IsOfPeers (sym is) peers)

  found_of_peers : (v : Moment) → find f (phase_tasks s v) ≡ find g (phase_tasks s v)
  found_of_peers v = found_same f g (phase_tasks s v) (all_so (λ t. phase_of t ≡ s) (λ t. f t ≡ g t) of_peers (phase_tasks s v) (all_of_phase s v))

pub next_of_peers : (s r : Phase) (m v : Moment) (first : Option Task) → IsOfPeers s → r ≡ s → v ≡ m → first ≡ find (has_peer_work v.chains) (phase_tasks s v) → first ≡ next_task r m
next_of_peers s r m v first peers is view found =
    found ∙ found_of_peers (has_peer_work v.chains) (λ t. has_work t v) (λ k n. refl) (λ k. refl) s peers v ∙ ap (next_task s) view ∙ ap (λ (e : Phase). next_task e m) (sym is)

pub held_of_peers : (s r : Phase) (m v : Moment) (p : AddressPrefix) (first : Option Task) → IsOfPeers s → r ≡ s → v ≡ m → first ≡ find (λ t. peer_lags v.chains t p) (phase_tasks s v) → first ≡ held_in r m p
held_of_peers s r m v p first peers is view found =
    found ∙ found_of_peers (λ t. peer_lags v.chains t p) (λ t. holds_up_at t v p) (λ k n. refl) (λ k. refl) s peers v ∙ ap (λ (n : Moment). held_in s n p) view ∙ ap (λ (e : Phase). held_in e m p) (sym is)

-- ---- the next hops
-- the first number of which something is told gives the first task of which it is
found_by : (task : ℕ → Task) (f : ℕ → Bool) (g : Task → Bool) (ks : List ℕ) → ((k : ℕ) → g (task k) ≡ f k) → option_map task (find f ks) ≡ find g (map task ks)
found_by task f g [] same = refl
found_by task f g (k ∷ ks) same = by_test (f k) (found_by task f g ks same) ∙ ap (λ (b : Bool). cond b (Some (task k)) (find g (map task ks))) (sym (same k))
  where
    by_test : (b : Bool) → option_map task (find f ks) ≡ find g (map task ks) → option_map task (cond b (Some k) (find f ks)) ≡ cond b (Some (task k)) (find g (map task ks))
    by_test true rest = refl
    by_test false rest = rest

pub next_of_hops : (r : Phase) (m v : Moment) (first : Option ℕ) (task : Option Task) → r ≡ Nh → v ≡ m → first ≡ find (has_hop_work v.hops) (tables.keys v.hops) → task ≡ option_map (λ k. tasks.Nh k) first → task ≡ next_task r m
next_of_hops r m v first task is view found made =
    made ∙ ap (option_map (λ k. tasks.Nh k)) found ∙ found_by (λ k. tasks.Nh k) (has_hop_work v.hops) (λ t. has_work t v) (tables.keys v.hops) (λ k. refl) ∙ ap (next_task Nh) view ∙ ap (λ (e : Phase). next_task e m) (sym is)

pub held_of_hops : (r : Phase) (m v : Moment) (p : AddressPrefix) (first : Option ℕ) (task : Option Task) → r ≡ Nh → v ≡ m → first ≡ find (λ k. hop_holds_up v.hops k p (next_hop_at v k p)) (tables.keys v.hops) → task ≡ option_map (λ k. tasks.Nh k) first → task ≡ held_in r m p
held_of_hops r m v p first task is view found made =
    made ∙ ap (option_map (λ k. tasks.Nh k)) found ∙ found_by (λ k. tasks.Nh k) (λ k. hop_holds_up v.hops k p (next_hop_at v k p)) (λ t. holds_up_at t v p) (tables.keys v.hops) (λ k. refl)
    ∙ ap (λ (n : Moment). held_in Nh n p) view ∙ ap (λ (e : Phase). held_in e m p) (sym is)

pub none_of_hops : (r : Phase) (m v : Moment) (first : Option ℕ) (task : Option Task) → r ≡ Nh → v ≡ m → IfNone first ((bs : Beyonds) → left_in bs v.hops ≡ 0) → task ≡ option_map (λ k. tasks.Nh k) first → IfNone task (counts m r ≡ 0)
none_of_hops r m v None task is view none made =
    subst (λ (o : Option Task). IfNone o (counts m r ≡ 0)) (sym made) (ap (counts m) is ∙ ap (λ (n : Moment). counts n Nh) (sym view) ∙ none (beyonds v.chains))
none_of_hops r m v (Some k) task is view none made = subst (λ (o : Option Task). IfNone o (counts m r ≡ 0)) (sym made) tt

-- ---- what reads `best`
pub next_of_exits : (r : Phase) (m v : Moment) (first : Option ℕ) (task : Option Task) → r ≡ Out → v ≡ m → first ≡ find (has_exit_work v.exits) (tables.keys v.exits.chains) → task ≡ option_map (λ k. tasks.Out k) first → task ≡ next_task r m
next_of_exits r m v first task is view found made =
    made ∙ ap (option_map (λ k. tasks.Out k)) found ∙ found_by (λ k. tasks.Out k) (has_exit_work v.exits) (λ t. has_work t v) (tables.keys v.exits.chains) (λ k. refl) ∙ ap (next_task Out) view ∙ ap (λ (e : Phase). next_task e m) (sym is)

pub held_of_exits : (r : Phase) (m v : Moment) (p : AddressPrefix) (first : Option ℕ) (task : Option Task) → r ≡ Out → v ≡ m → first ≡ find (λ k. exit_holds_up v.exits (best_of m) k p) (tables.keys v.exits.chains) → task ≡ option_map (λ k. tasks.Out k) first → task ≡ held_in r m p
held_of_exits r m v p first task is view found made =
    made ∙ ap (option_map (λ k. tasks.Out k)) (found ∙ ap (λ (n : Moment). find (λ k. exit_holds_up n.exits (best_of m) k p) (tables.keys n.exits.chains)) view)
    ∙ found_by (λ k. tasks.Out k) (λ k. exit_holds_up m.exits (best_of m) k p) (λ t. holds_up_at t m p) (tables.keys m.exits.chains) (λ k. refl) ∙ ap (λ (e : Phase). held_in e m p) (sym is)

pub none_of_exits : (r : Phase) (m v : Moment) (first : Option ℕ) (task : Option Task) → r ≡ Out → v ≡ m → IfNone first ((beyond : Option AddressPrefix → ℕ) → exits_left_in beyond v.exits ≡ 0) → task ≡ option_map (λ k. tasks.Out k) first → IfNone task (counts m r ≡ 0)
none_of_exits r m v None task is view none made =
    subst (λ (o : Option Task). IfNone o (counts m r ≡ 0)) (sym made) (ap (counts m) is ∙ ap (λ (n : Moment). counts n Out) (sym view) ∙ none (best_beyond v.chains v.tree))
none_of_exits r m v (Some k) task is view none made = subst (λ (o : Option Task). IfNone o (counts m r ≡ 0)) (sym made) tt

-- ---- refreshes, which hold up nothing
pub next_of_refreshes : (r : Phase) (m v : Moment) (first : Option ℕ) (task : Option Task) → r ≡ Ref → v ≡ m → first ≡ find (has_refresh v.exits) (tables.keys v.exits.chains) → task ≡ option_map (λ k. tasks.Ref k) first → task ≡ next_task r m
next_of_refreshes r m v first task is view found made =
    made ∙ ap (option_map (λ k. tasks.Ref k)) found ∙ found_by (λ k. tasks.Ref k) (has_refresh v.exits) (λ t. has_work t v) (tables.keys v.exits.chains) (λ k. refl) ∙ ap (next_task Ref) view ∙ ap (λ (e : Phase). next_task e m) (sym is)

pub none_of_refreshes : (r : Phase) (m v : Moment) (first : Option ℕ) (task : Option Task) → r ≡ Ref → v ≡ m → IfNone first (refreshes_left v.exits ≡ 0) → task ≡ option_map (λ k. tasks.Ref k) first → IfNone task (counts m r ≡ 0)
none_of_refreshes r m v None task is view none made =
    subst (λ (o : Option Task). IfNone o (counts m r ≡ 0)) (sym made) (ap (counts m) is ∙ ap (λ (n : Moment). counts n Ref) (sym view) ∙ none)
none_of_refreshes r m v (Some k) task is view none made = subst (λ (o : Option Task). IfNone o (counts m r ≡ 0)) (sym made) tt

pub held_of_refreshes : (r : Phase) (m : Moment) (p : AddressPrefix) → r ≡ Ref → None ≡ held_in r m p
held_of_refreshes r m p is = none (tables.keys m.exits.chains) ∙ ap (λ (e : Phase). held_in e m p) (sym is)
  where
    none : (ks : List ℕ) → None ≡ find (λ t. holds_up_at t m p) (map (λ k. tasks.Ref k) ks)
    none [] = refl
    none (k ∷ ks) = none ks

pub none_of_reader : (r : Phase) (m : Moment) (task : Option Task) → r ≡ ReadRib → task ≡ next_task ReadRib m → IfNone task (counts m r ≡ 0)
none_of_reader r m task is next = subst (λ (o : Option Task). IfNone o (counts m r ≡ 0)) (sym next) (by_unread (unread_if m.exits.queue m.reader) refl)
  where
    by_unread : (u : List (Change Route)) → unread_if m.exits.queue m.reader ≡ u → IfNone (cond (is_unread u) (Some tasks.ReadRib) None) (counts m r ≡ 0)
    by_unread [] at = ap (counts m) is ∙ ap (λ (l : List (Change Route)). length l) at
    by_unread (x ∷ u) at = tt

-- ---- the phases of one task
pub next_of_one : (s r : Phase) (m : Moment) (task : Option Task) → r ≡ s → task ≡ next_task s m → task ≡ next_task r m
next_of_one s r m task is next = next ∙ ap (λ (e : Phase). next_task e m) (sym is)

pub none_of_own : (r : Phase) (m : Moment) (task : Option Task) → r ≡ Red → task ≡ next_task Red m → IfNone task (counts m r ≡ 0)
none_of_own r m task is next = subst (λ (o : Option Task). IfNone o (counts m r ≡ 0)) (sym next) (by_walk m.redist.walk refl)
  where
    by_walk : (w : Option (Walked Protos)) → m.redist.walk ≡ w → IfNone (cond (is_some w) (Some tasks.Red) None) (counts m r ≡ 0)
    by_walk None off = ap (counts m) is ∙ over_none Red m off
    by_walk (Some w) on = tt

pub none_of_external : (r : Phase) (m : Moment) (task : Option Task) → r ≡ Ext → task ≡ next_task Ext m → IfNone task (counts m r ≡ 0)
none_of_external r m task is next = subst (λ (o : Option Task). IfNone o (counts m r ≡ 0)) (sym next) (by_work (has_ext_work m.rib) refl)
  where
    by_work : (b : Bool) → has_ext_work m.rib ≡ b → IfNone (cond b (Some tasks.Ext) None) (counts m r ≡ 0)
    by_work false none = ap (counts m) is ∙ over_none Ext m none
    by_work true some = tt

-- ---- the stages of the tree
-- each stage that stands has work
next_loss : (m : Moment) → Stands m → next_task Rdel m ≡ first_task (tree_tasks m.tree)
next_loss m stands = all_working (λ t. has_work t m) (tree_tasks m.tree) (all_tree Works m.tree (λ proto. all_made Works (λ (d : Lost Interior). tasks.Rdel (branch_of proto m.tree).proto d.number) (branch_of proto m.tree).tables.deletions
    (subst (λ (k : Proto). AllByRecursion (λ (d : Lost Interior). is_some (table_of d.number (branch_of k m.tree).tables.deletions) ≡ true) (branch_of proto m.tree).tables.deletions) (sym (stands.interior.tree.placed proto)) (all_tables (branch_of proto m.tree).tables.deletions))))
  where
    Works : Task → Type 0
    Works t = has_work t m ≡ true

-- where none stands, no row is lost
no_loss : (m : Moment) → first_task (tree_tasks m.tree) ≡ None → counts m Rdel ≡ 0
no_loss m e =
    let t : Treed = m.tree in
    let a = first_none (task t.connected) t.connected.tables.deletions (branch_tasks t.statics ++ (branch_tasks t.ospf ++ branch_tasks t.rip)) e in
    let b = first_none (task t.statics) t.statics.tables.deletions (branch_tasks t.ospf ++ branch_tasks t.rip) a.1 in
    let c = first_none (task t.ospf) t.ospf.tables.deletions (branch_tasks t.rip) b.1 in
    over_none Rdel m (λ proto. elim proto as (λ k. (branch_of k t).tables.deletions ≡ []) [ Connected ↦ a.0 | Static ↦ b.0 | Ospf ↦ c.0 | Rip ↦ last t.rip.tables.deletions c.1 ])
  where
    task : Branch → Lost Interior → Task
    task b d = tasks.Rdel b.proto d.number

    last : (ds : List (Lost Interior)) → first_task (map (task m.tree.rip) ds) ≡ None → ds ≡ []
    last [] e = refl
    last (x ∷ xs) e = absurd (cc)

pub next_of_tree : (r : Phase) (m v : Moment) (first : Option Task) → r ≡ Rdel → v ≡ m → Stands m → first ≡ first_task (tree_tasks v.tree) → first ≡ next_task r m
next_of_tree r m v first is view stands found = found ∙ ap (λ (n : Moment). first_task (tree_tasks n.tree)) view ∙ sym (next_loss m stands) ∙ ap (λ (e : Phase). next_task e m) (sym is)

pub none_of_tree : (r : Phase) (m v : Moment) (first : Option Task) → r ≡ Rdel → v ≡ m → first ≡ first_task (tree_tasks v.tree) → IfNone first (counts m r ≡ 0)
none_of_tree r m v None is view found = ap (counts m) is ∙ no_loss m (ap (λ (n : Moment). first_task (tree_tasks n.tree)) (sym view) ∙ sym found)
none_of_tree r m v (Some task) is view found = tt

-- those that hold up a prefix
any_made : (f : Option ℕ → Bool) (g : ℕ → Option ℕ) (ks : List ℕ) → list_any f (map g ks) ≡ list_any (λ k. f (g k)) ks
any_made f g [] = refl
any_made f g (k ∷ ks) = ap (λ (b : Bool). f (g k) || b) (any_made f g ks)

abbrev IsOfTree : Phase → Type 0
IsOfTree Rdel = Unit {0}
IsOfTree other = ⊥

pub held_of_tree : (m v : Moment) (p : AddressPrefix) (hops : List ℕ) (count n : ℕ) (first : Option Task) → v ≡ m → ((k : ℕ) → k < 65 → n ≤ k → chain_at k m.chains ≡ None) → AreUpTo m p hops count n → first ≡ find (tree_holds_up v.tree p (take count hops)) (tree_tasks v.tree) → first ≡ held_in Rdel m p
unfolding peer_numbers
held_of_tree m v p hops count n first view none upto found =
    found ∙ ap (λ (x : Moment). find (tree_holds_up x.tree p (take count hops)) (tree_tasks x.tree)) view
    ∙ found_same (tree_holds_up m.tree p (take count hops)) (λ t. holds_up_at t m p) (tree_tasks m.tree)
    (all_so (λ t. phase_of t ≡ Rdel) (λ t. tree_holds_up m.tree p (take count hops) t ≡ holds_up_at t m p) each (tree_tasks m.tree) (all_of_phase Rdel m))
  where
    each : (t : Task) → phase_of t ≡ Rdel → tree_holds_up m.tree p (take count hops) t ≡ holds_up_at t m p
    each (tasks.Rdel proto loss) of =
        ap (λ (b : Bool). tree_lags m.tree (tasks.Rdel proto loss) p || b)
        (all_hops m p hops count n upto none (tree_over m.tree (tasks.Rdel proto loss)) ∙ any_made (is_over m.tree (tasks.Rdel proto loss)) (λ k. next_hop_at m k p) (range_with_len 0 65))
    each other of = absurd (subst IsOfTree (sym of) tt)

pub held_of_losses : (r : Phase) (m : Moment) (p : AddressPrefix) (first : Option Task) → r ≡ Rdel → first ≡ held_in Rdel m p → first ≡ held_in r m p
held_of_losses r m p first is held = held ∙ ap (λ (e : Phase). held_in e m p) (sym is)
