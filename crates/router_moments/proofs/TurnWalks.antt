-- What each turn keeps, many turns keep: of a task, of a phase, and of all phases. So the same peers have exits.
use Rattle.router_moments.proofs.Common.{sym, subst, ◌∙◌, ap, ◌≡◌, ℕ, List, ◌++◌, suc, zero, true, AddressPrefix, Attrs, Route, Queued, OutChained, peer_at, Declaration, Exited, OutChains, with_exit, Entry, Line, Link, Task, Value, Rows, Change, Proto, Interior, int_rows, Treed, RunsFirst, Moment, with_tree, Stands, AllHaveExits, Turns, IsTurn, BelowInt, FallsRoute, RunsPhase, Runs, IsPeerTurn, RunsAll, FeedsAll, HaveSameExits, Phase}
use Rattle.std.proofs.Common.{[], ◌∷◌, Option, Some, None, is_some}
use Rattle.std.specs.FinMap as tables
use Rattle.journal_text.specs.declared.link.Task.TheVariants.{Del, Fin, Nh, ReadRib, Out, Rdel, Red, Ext, Ref}
use Rattle.exit_side.specs.Exits.{chain_at as exit_at}
use Rattle.router_moments.proofs.QueueLemmas.{queue_chains}
use Rattle.router_moments.proofs.TurnLaws.{turn_works, runs_work, phase_works}
use Rattle.exit_laws.proofs.ViewLemmas.{put_here, put_other}
use Rattle.exit_side.proofs.SwapLemmas.{by_number}

-- ---- of any relation between moments
module _ (G : Moment → List Line → Moment → Type 0) (nowhere : (m m' : Moment) (said : List Line) → said ≡ [] → m' ≡ m → G m said m') (then : (a b c : Moment) (xs ys said : List Line) → G a xs b → G b ys c → said ≡ xs ++ ys → G a said c)
    (turn : (task : Task) (m : Moment) (said : List Line) (m' : Moment) → Stands m → IsTurn task m said m' → G m said m') where
  pub turns_along : (n : ℕ) (task : Task) (m : Moment) (said : List Line) (m' : Moment) → Stands m → Turns n task m said m' → G m said m'
  turns_along zero task m said m' stands t = nowhere m m' said t.0 t.1
  turns_along (suc n) task m said m' stands t = then m t.2 m' t.0 t.1 said (turn task m t.0 t.2 stands t.3) (turns_along n task t.2 t.1 m' (turn_works task m t.0 t.2 stands t.3).keeps.stands t.4) t.5

  runs_along : (phase : Phase) (n : ℕ) (m : Moment) (said : List Line) (turns : ℕ) (m' : Moment) → Stands m → Runs phase n m said turns m' → G m said m'
  runs_along phase zero m said turns m' stands r = nowhere m m' said r.0 r.2
  runs_along phase (suc n) m said turns m' stands r =
      then m r.4 m' r.0 r.1 said (runs_along phase n m r.0 r.2 r.4 stands r.5) (turns_along r.3 r.6.0 r.4 r.1 m' (runs_work phase n m r.0 r.2 r.4 stands r.5).keeps.stands r.6.2.0) r.7

  pub phase_along : (phase : Phase) (m : Moment) (said : List Line) (turns : ℕ) (m' : Moment) → Stands m → RunsPhase phase m said turns m' → G m said m'
  phase_along phase m said turns m' stands r = runs_along phase r.count m said turns m' stands r.runs

  pub phases_along : (phases : List Phase) (m : Moment) (said : List Line) (turns : ℕ) (m' : Moment) → Stands m → RunsAll phases m said turns m' → G m said m'
  phases_along [] m said turns m' stands r = nowhere m m' said r.0 r.2
  phases_along (phase ∷ later) m said turns m' stands r =
      then m r.4 m' r.0 r.1 said (phase_along phase m r.0 r.2 r.4 stands r.5) (phases_along later r.4 r.1 r.3 m' (phase_works phase m r.0 r.2 r.4 stands r.5).keeps.stands r.6) r.7

  pub first_along : (task : Option Task) (m : Moment) (said : List Line) (m' : Moment) → Stands m → RunsFirst task m said m' → G m said m'
  first_along None m said m' stands r = nowhere m m' said r.0 r.1
  first_along (Some task) m said m' stands r = turns_along r.0 task m said m' stands r.1.0

-- ---- the same peers have exits
chains_same : (m m' : Moment) → m'.exits.chains ≡ m.exits.chains → HaveSameExits m m'
chains_same m m' same k = ap (λ (a : OutChains). is_some (tables.get a k)) same

abbrev pub SameAlong : Moment → List Line → Moment → Type 0
SameAlong m said m' = HaveSameExits m m'

same_nowhere : (m m' : Moment) (said : List Line) → said ≡ [] → m' ≡ m → SameAlong m said m'
same_nowhere m m' said none same k = ap (λ (x : Moment). is_some (exit_at k x.exits)) same

same_then : (a b c : Moment) (xs ys said : List Line) → SameAlong a xs b → SameAlong b ys c → said ≡ xs ++ ys → SameAlong a said c
same_then a b c xs ys said f g is k = g k ∙ f k

peer_same : (task : Task) (m : Moment) (said : List Line) (m' : Moment) → IsPeerTurn task m said m' → SameAlong m said m'
peer_same task m said m' t = chains_same m m' (queue_chains m.exits m'.exits t.1.decided.best t.1.queued)

-- what follows a change of `int` joins the queue
pub below_same : (sent : Option (Change Interior)) (int : Rows Interior) (m m' : Moment) (entries : List (Entry Value)) → BelowInt sent int m m' entries → m'.exits.chains ≡ m.exits.chains
below_same None int m m' entries b = ap (λ (x : Moment). x.exits.chains) b.0
below_same (Some change) int m m' entries b = queue_chains m.exits m'.exits b.0.own.decided.best b.0.own.queued

pub route_same : (m : Moment) (new : Treed) (proto : Proto) (p : AddressPrefix) (way : List Link) (said : List Line) (m' : Moment) → FallsRoute m new proto p way said m' → HaveSameExits m m'
route_same m new proto p way said m' f = chains_same m m' (ap (λ (x : Moment). x.exits.chains) f.after ∙ below_same f.sent (int_rows new) (with_tree m new) f.followed f.below f.below_int)

-- where the chain of one that has an exit became another
pub same_put : (j : ℕ) (c : OutChained) (queue : Queued Route) (e : Exited) → is_some (exit_at j e) ≡ true → (i : ℕ) → is_some (exit_at i (with_exit j c queue e)) ≡ is_some (exit_at i e)
same_put j c queue e there i = by_number i j (λ _. is_some (exit_at i (with_exit j c queue e)) ≡ is_some (exit_at i e))
    (λ is. subst (λ (n : ℕ). is_some (exit_at n (with_exit j c queue e)) ≡ is_some (exit_at n e)) (sym is) (ap is_some (put_here j c queue e) ∙ sym there)) (λ differ. ap is_some (put_other j i c queue e differ))

pub turn_same : (task : Task) (m : Moment) (said : List Line) (m' : Moment) → Stands m → IsTurn task m said m' → SameAlong m said m'
turn_same (Del k s) m said m' stands t = peer_same (Del k s) m said m' t
turn_same (Fin k) m said m' stands t = peer_same (Fin k) m said m' t
turn_same (Nh k) m said m' stands t = chains_same m m' (queue_chains m.exits m'.exits t.decided.best t.queued)
turn_same ReadRib m said m' stands t = chains_same m m' (ap (λ (x : Moment). x.exits.chains) t.after)
turn_same (Out k) m said m' stands t = λ j. ap (λ (e : Exited). is_some (exit_at j e)) t.turn.after ∙ same_put k t.turn.taken m'.exits.queue m.exits (ap is_some t.turn.at) j
turn_same (Rdel proto n) m said m' stands t = route_same m _ proto t.prefix _ said m' t.falls
turn_same Red m said m' stands t = chains_same m m' (queue_chains m.exits m'.exits t.decided.best t.queued)
turn_same Ext m said m' stands t = chains_same m m' (ap (λ (x : Moment). x.exits.chains) t.after)
turn_same (Ref k) m said m' stands t = λ j. ap (λ (e : Exited). is_some (exit_at j e)) t.turn.after ∙ same_put k t.turn.taken m.exits.queue m.exits (ap is_some t.turn.there) j

pub turns_same : (n : ℕ) (task : Task) (m : Moment) (said : List Line) (m' : Moment) → Stands m → Turns n task m said m' → HaveSameExits m m'
turns_same = turns_along SameAlong same_nowhere same_then turn_same

pub phase_same : (phase : Phase) (m : Moment) (said : List Line) (turns : ℕ) (m' : Moment) → Stands m → RunsPhase phase m said turns m' → HaveSameExits m m'
phase_same = phase_along SameAlong same_nowhere same_then turn_same

pub phases_same : (phases : List Phase) (m : Moment) (said : List Line) (turns : ℕ) (m' : Moment) → Stands m → RunsAll phases m said turns m' → HaveSameExits m m'
phases_same = phases_along SameAlong same_nowhere same_then turn_same

pub first_same : (task : Option Task) (m : Moment) (said : List Line) (m' : Moment) → Stands m → RunsFirst task m said m' → HaveSameExits m m'
first_same = first_along SameAlong same_nowhere same_then turn_same

pub all_have_on : (m m' : Moment) → m'.declared ≡ m.declared → HaveSameExits m m' → AllHaveExits m → AllHaveExits m'
all_have_on m m' declared same all k p at up = same k ∙ all k p (ap (λ (d : Declaration). peer_at k d.peers) (sym declared) ∙ at) up

pub feeds_same : (k : ℕ) (cs : List (AddressPrefix × Option Attrs)) (m : Moment) (said : List Line) (m' : Moment) → FeedsAll k cs m said m' → HaveSameExits m m'
feeds_same k [] m said m' f = same_nowhere m m' said f.0 f.1
feeds_same k (c ∷ cs) m said m' f = same_then m f.2 m' f.0 f.1 said (chains_same m f.2 (queue_chains m.exits f.2.exits f.3.1.decided.best f.3.1.queued)) (feeds_same k cs f.2 f.1 m' f.4) f.5
