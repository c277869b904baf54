-- A turn of a task leaves no choice, and is one of a task that has work: a line for each task.
use Rattle.router_moments.proofs.Common.{sym, ◌∙◌, ap, ◌≡◌, ℕ, List, true, Line, Task, with_exits, has_work, Moment, best_of, candidates_of, Stands, IsTurn, is_unread, unread_if, filt_rows, filt_candidates}
use Rattle.std.proofs.Common.{Option, is_some}
use Rattle.journal_text.specs.declared.link.Task.TheVariants.{Del, Fin, Nh, ReadRib, Out, Rdel, Red, Ext, Ref}
use Rattle.router_determinism.specs.Parts.{PartsAreOne}
use Rattle.router_moments.specs.Turns.{IsOutTurn, IsRefreshTurn}
use Rattle.router_determinism.proofs.OneFalls.{peer_turn_is_one, hop_turn_is_one}
use Rattle.router_determinism.proofs.OneRoutes.{route_turn_is_one, own_turn_is_one, read_turn_is_one, external_turn_is_one}

-- ---- the exits
out_turn_is_one : PartsAreOne → (k : ℕ) (m : Moment) (said other : List Line) (m1 m2 : Moment) → Stands m → IsOutTurn k m said m1 → IsOutTurn k m other m2 → (said ≡ other) × (m1 ≡ m2)
out_turn_is_one laws k m said other m1 m2 stands t u =
    let one = laws.exits.turn k (candidates_of m) (best_of m) t.sent u.sent m.exits m1.exits m2.exits said other t.turn u.turn in
    (one.2, t.after ∙ ap (with_exits m) one.1 ∙ sym u.after)

refresh_turn_is_one : PartsAreOne → (k : ℕ) (m : Moment) (said other : List Line) (m1 m2 : Moment) → IsRefreshTurn k m said m1 → IsRefreshTurn k m other m2 → (said ≡ other) × (m1 ≡ m2)
refresh_turn_is_one laws k m said other m1 m2 t u =
    let one = laws.exits.resend k m.exits m1.exits m2.exits said other t.turn u.turn in
    (one.1, t.after ∙ ap (with_exits m) one.0 ∙ sym u.after)

-- ---- a line for each task
pub turn_is_one : PartsAreOne → (task : Task) (m : Moment) (said other : List Line) (m1 m2 : Moment) → Stands m → IsTurn task m said m1 → IsTurn task m other m2 → (said ≡ other) × (m1 ≡ m2)
turn_is_one laws (Del k s) m said other m1 m2 stands t u = peer_turn_is_one laws.hops laws.weld laws.exits.put laws.turn (Del k s) m said other m1 m2 stands t u
turn_is_one laws (Fin k) m said other m1 m2 stands t u = peer_turn_is_one laws.hops laws.weld laws.exits.put laws.turn (Fin k) m said other m1 m2 stands t u
turn_is_one laws (Nh k) m said other m1 m2 stands t u = hop_turn_is_one laws.hops laws.weld laws.exits.put k m said other m1 m2 stands t u
turn_is_one laws ReadRib m said other m1 m2 stands t u = read_turn_is_one laws.exits.take laws.external m said other m1 m2 stands t u
turn_is_one laws (Out k) m said other m1 m2 stands t u = out_turn_is_one laws k m said other m1 m2 stands t u
turn_is_one laws (Rdel proto n) m said other m1 m2 stands t u = route_turn_is_one laws.hops laws.reached laws.exits.put laws.interior laws.row laws.sweep proto n m said other m1 m2 stands t u
turn_is_one laws Red m said other m1 m2 stands t u = own_turn_is_one laws.hops laws.reached laws.exits.put laws.interior m said other m1 m2 t u
turn_is_one laws Ext m said other m1 m2 stands t u = external_turn_is_one laws.external_turn m said other m1 m2 t u
turn_is_one laws (Ref k) m said other m1 m2 stands t u = refresh_turn_is_one laws k m said other m1 m2 t u

pub turn_has_work : PartsAreOne → (task : Task) (m : Moment) (said : List Line) (m1 : Moment) → IsTurn task m said m1 → has_work task m ≡ true
turn_has_work laws (Del k s) m said m1 t = laws.work (Del k s) t.0 m.chains t.1.fallen t.1.entries t.1.part
turn_has_work laws (Fin k) m said m1 t = laws.work (Fin k) t.0 m.chains t.1.fallen t.1.entries t.1.part
turn_has_work laws (Nh k) m said m1 t = laws.hops.work k (filt_candidates t.chain) (filt_rows t.chain) m.registry m1.registry m.hops m1.hops t.sent t.entries t.turn
turn_has_work laws ReadRib m said m1 t = ap (λ (o : Option ℕ). is_unread (unread_if m.exits.queue o)) t.reads ∙ laws.exits.unread m.exits.queue m1.exits.queue t.reader t.change t.takes
turn_has_work laws (Out k) m said m1 t = laws.exits.work k (candidates_of m) (best_of m) t.sent m.exits m1.exits said t.turn
turn_has_work laws (Rdel proto n) m said m1 t = ap is_some t.stands
turn_has_work laws Red m said m1 t = ap is_some t.walks.on
turn_has_work laws Ext m said m1 t = laws.external_work _ t.fib m.registry m1.registry m.rib m1.rib t.entries t.turn
turn_has_work laws (Ref k) m said m1 t = laws.exits.refresh k m.exits m1.exits said t.turn
