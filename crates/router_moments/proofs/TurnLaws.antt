-- What turns do, from the relation alone: one of each task, and so many of a task, or of the tasks of a phase.
use Rattle.router_moments.proofs.Common.{subst, ℕ, List, arith, ◌+◌, ◌++◌, suc, zero, Line, Task, RunsFirst, live_state, Moment, Stands, phase_of, Turns, IsTurn, RunsPhase, Runs, Keeps, IsWork, Phase}
use Rattle.std.proofs.Common.{[]}
use Rattle.journal_text.specs.declared.link.Task.TheVariants as tasks
use Rattle.router_moments.proofs.WorkLemmas.{work_as, work_none, work_join}
use Rattle.router_moments.proofs.NextLemmas.{next_works}
use Rattle.router_moments.proofs.PeerTurns.{peer_works}
use Rattle.router_moments.proofs.HopTurns.{hop_works}
use Rattle.router_moments.proofs.ExitTurns.{read_works, exit_works}
use Rattle.router_moments.proofs.RouteTurns.{route_works}
use Rattle.router_moments.proofs.OwnTurns.{own_works}
use Rattle.router_moments.proofs.ExternalTurns.{external_works}
use Rattle.router_moments.proofs.RefreshTurns.{refresh_works}
use Rattle.router_moments.proofs.KeepLemmas.{keeps_as, keeps_none}
use Rattle.std.specs.Prelude.{Option, Some, None}

-- ---- one turn: a line for each task
pub turn_works : (task : Task) (m : Moment) (said : List Line) (m' : Moment) → Stands m → IsTurn task m said m' → IsWork (phase_of task) 1 m m' said
turn_works (tasks.Del k s) m said m' stands t = peer_works (tasks.Del k s) m said m' stands t
turn_works (tasks.Fin k) m said m' stands t = peer_works (tasks.Fin k) m said m' stands t
turn_works (tasks.Nh k) m said m' stands t = hop_works k m said m' stands t
turn_works tasks.ReadRib m said m' stands t = read_works m said m' stands t
turn_works (tasks.Out k) m said m' stands t = exit_works k m said m' stands t
turn_works (tasks.Rdel proto n) m said m' stands t = route_works proto n m said m' stands t
turn_works tasks.Red m said m' stands t = own_works m said m' stands t
turn_works tasks.Ext m said m' stands t = external_works m said m' stands t
turn_works (tasks.Ref k) m said m' stands t = refresh_works k m said m' stands t

-- ---- many turns
pub turns_work : (n : ℕ) (task : Task) (m : Moment) (said : List Line) (m' : Moment) → Stands m → Turns n task m said m' → IsWork (phase_of task) n m m' said
turns_work zero task m said m' stands t = work_as (phase_of task) 0 0 m m m' [] said (omega arith) t.1 t.0 (work_none (phase_of task) m stands)
turns_work (suc n) task m said m' stands t =
    let first = turn_works task m t.0 t.2 stands t.3 in
    work_as (phase_of task) (1 + n) (suc n) m m' m' (t.0 ++ t.1) said (omega arith) (λ _. m') t.5 (work_join (phase_of task) 1 n m t.2 m' t.0 t.1 first (turns_work n task t.2 t.1 m' first.keeps.stands t.4))

pub runs_work : (r : Phase) (n : ℕ) (m : Moment) (said : List Line) (turns : ℕ) (m' : Moment) → Stands m → Runs r n m said turns m' → IsWork r turns m m' said
runs_work r zero m said turns m' stands u = work_as r 0 turns m m m' [] said u.1 u.2 u.0 (work_none r m stands)
runs_work r (suc n) m said turns m' stands u =
    let first = runs_work r n m u.0 u.2 u.4 stands u.5 in
    let last = subst (λ (e : Phase). IsWork e u.3 u.4 m' u.1) (next_works r u.4 u.6.0 u.6.1).1 (turns_work u.3 u.6.0 u.4 u.1 m' first.keeps.stands u.6.2.0) in
    work_as r (u.2 + u.3) turns m m' m' (u.0 ++ u.1) said u.8 (λ _. m') u.7 (work_join r u.2 u.3 m u.4 m' u.0 u.1 first last)

pub phase_works : (r : Phase) (m : Moment) (said : List Line) (turns : ℕ) (m' : Moment) → Stands m → RunsPhase r m said turns m' → IsWork r turns m m' said
phase_works r m said turns m' stands p = runs_work r p.count m said turns m' stands p.runs

-- the stage that has to go first
pub first_works : (task : Option Task) (m : Moment) (said : List Line) (m' : Moment) → Stands m → RunsFirst task m said m' → Keeps (live_state m) m m' said
first_works None m said m' stands r = keeps_as (live_state m) m m m' [] said r.1 r.0 (keeps_none m stands)
first_works (Some task) m said m' stands r = (turns_work r.0 task m said m' stands r.1.0).keeps
