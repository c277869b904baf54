-- Who asked for all routes again is served on by each turn of background work.
use Rattle.router_moments.proofs.Common.{sym, subst, ◌∙◌, ap, ◌≡◌, ℕ, refl, List, ◌++◌, Journaled, Line, Link, Task, LiveState, AddressPrefix, Proto, int_rows, Treed, RunsFirst, Moment, best_of, with_tree, Stands, Turns, IsTurn, FallsRoute, RunsPhase, RunsAll, TakesTurn, Done, Taken, Phase}
use Rattle.std.proofs.Common.{[], ◌∷◌, Option, append_assoc}
use Rattle.journal_text.specs.declared.link.Task.TheVariants.{Del, Fin, Nh, ReadRib, Out, Rdel, Red, Ext, Ref}
use Rattle.exit_laws.specs.Served.{ServesOn as ServesExits}
use Rattle.exit_laws.proofs.ServedLemmas.{turn_serves, resend_serves, others_serve}
use Rattle.router_moments.specs.declared.tasks.Done.TheVariants.{Nothing}
use Rattle.router_moments.specs.Moments.{candidates_of}
use Rattle.router_moments.specs.Works.{Comes}
use Rattle.router_moments.specs.Refreshes.{HasBegun, IsServedAt, ServesOn}
use Rattle.router_moments.proofs.QueueLemmas.{queue_chains}
use Rattle.router_moments.proofs.TurnLaws.{turn_works}
use Rattle.router_moments.proofs.TurnWalks.{turns_along, phase_along, phases_along, first_along, below_same}

-- ---- steps
-- what the exits serve, where the sessions are the same
pub serves_by : (m m' : Moment) (said : List Line) → m'.declared ≡ m.declared → ServesExits m.exits said m'.exits → ServesOn m said m'
serves_by m m' said same exits j s since is = record { begun = subst (HasBegun j s) (sym same) is.begun; served = exits j s since is.served }

pub serves_nowhere : (m m' : Moment) (said : List Line) → said ≡ [] → m' ≡ m → ServesOn m said m'
serves_nowhere m m' said none same = serves_by m m' said (ap (λ (x : Moment). x.declared) same) (others_serve m.exits m'.exits said (ap (λ (x : Moment). x.exits.chains) same))

pub serves_then : (a b c : Moment) (xs ys said : List Line) → ServesOn a xs b → ServesOn b ys c → said ≡ xs ++ ys → ServesOn a said c
serves_then a b c xs ys said f g is j s since was =
    subst (IsServedAt j s c) (append_assoc since xs ys ∙ ap (λ (ls : List Line). since ++ ls) (sym is)) (g j s (since ++ xs) (f j s since was))

-- ---- a turn: a line for each task
pub route_chains : (m : Moment) (new : Treed) (proto : Proto) (p : AddressPrefix) (way : List Link) (said : List Line) (m' : Moment) → FallsRoute m new proto p way said m' → m'.exits.chains ≡ m.exits.chains
route_chains m new proto p way said m' f = ap (λ (x : Moment). x.exits.chains) f.after ∙ below_same f.sent (int_rows new) (with_tree m new) f.followed f.below f.below_int

exits_serve : (task : Task) (m : Moment) (said : List Line) (m' : Moment) → Stands m → IsTurn task m said m' → ServesExits m.exits said m'.exits
exits_serve (Del k s) m said m' stands t = others_serve m.exits m'.exits said (queue_chains m.exits m'.exits t.1.decided.best t.1.queued)
exits_serve (Fin k) m said m' stands t = others_serve m.exits m'.exits said (queue_chains m.exits m'.exits t.1.decided.best t.1.queued)
exits_serve (Nh k) m said m' stands t = others_serve m.exits m'.exits said (queue_chains m.exits m'.exits t.decided.best t.queued)
exits_serve ReadRib m said m' stands t = others_serve m.exits m'.exits said (ap (λ (x : Moment). x.exits.chains) t.after)
exits_serve (Out k) m said m' stands t = turn_serves k (candidates_of m) (best_of m) t.sent m.exits m'.exits said stands.exits.each t.turn
exits_serve (Rdel proto n) m said m' stands t = others_serve m.exits m'.exits said (route_chains m _ proto t.prefix _ said m' t.falls)
exits_serve Red m said m' stands t = others_serve m.exits m'.exits said (queue_chains m.exits m'.exits t.decided.best t.queued)
exits_serve Ext m said m' stands t = others_serve m.exits m'.exits said (ap (λ (x : Moment). x.exits.chains) t.after)
exits_serve (Ref k) m said m' stands t = resend_serves k m.exits m'.exits said stands.exits.each t.turn

pub task_serves : (task : Task) (m : Moment) (said : List Line) (m' : Moment) → Stands m → IsTurn task m said m' → ServesOn m said m'
task_serves task m said m' stands t = serves_by m m' said (ap (λ (l : LiveState). l.declared) (turn_works task m said m' stands t).keeps.live) (exits_serve task m said m' stands t)

-- what a turn came to
pub turn_comes : (task : Task) (m m' : Moment) (before now : Journaled) (done : Done) → Stands m → TakesTurn task m m' before now done → Comes task m m' before now done
turn_comes task m m' before now Nothing stands t = t
turn_comes task m m' before now Taken stands t = (t.0, t.1, record { turn = t.2; work = turn_works task m t.0 m' stands t.2; serves = task_serves task m t.0 m' stands t.2 })

-- ---- many turns
pub turns_serve : (n : ℕ) (task : Task) (m : Moment) (said : List Line) (m' : Moment) → Stands m → Turns n task m said m' → ServesOn m said m'
turns_serve = turns_along ServesOn serves_nowhere serves_then task_serves

pub phase_serves : (phase : Phase) (m : Moment) (said : List Line) (turns : ℕ) (m' : Moment) → Stands m → RunsPhase phase m said turns m' → ServesOn m said m'
phase_serves = phase_along ServesOn serves_nowhere serves_then task_serves

pub phases_serve : (phases : List Phase) (m : Moment) (said : List Line) (turns : ℕ) (m' : Moment) → Stands m → RunsAll phases m said turns m' → ServesOn m said m'
phases_serve = phases_along ServesOn serves_nowhere serves_then task_serves

pub first_serves : (task : Option Task) (m : Moment) (said : List Line) (m' : Moment) → Stands m → RunsFirst task m said m' → ServesOn m said m'
first_serves = first_along ServesOn serves_nowhere serves_then task_serves

-- a line that nothing stands behind
pub just_said : (m : Moment) (line : Line) → ServesOn m (line ∷ []) m
just_said m line = serves_by m m (line ∷ []) refl (others_serve m.exits m.exits (line ∷ []) refl)

-- all phases, between the lines that announce them and count their turns
pub idle_serves : (m m' : Moment) (first last : Line) (inner : List Line) (phases : List Phase) (turns : ℕ) → Stands m → RunsAll phases m inner turns m' → ServesOn m (first ∷ (inner ++ last ∷ [])) m'
idle_serves m m' first last inner phases turns stands runs =
    serves_then m m m' (first ∷ []) (inner ++ last ∷ []) (first ∷ (inner ++ last ∷ [])) (just_said m first)
    (serves_then m m' m' inner (last ∷ []) (inner ++ last ∷ []) (phases_serve phases m inner turns m' stands runs) (just_said m' last) refl) refl
