-- Turns one after the other: of a task, of a phase, and of all phases.
use Rattle.router_moments.proofs.Common.{sym, subst, ◌∙◌, ap, ◌≡◌, ℕ, refl, List, true, arith, false, ◌+◌, ◌++◌, ◌≤◌, ◌<◌, suc, zero, take, get_or, take_more, AllByRecursion, known_in, Journaled, flushed, Line, Task, LiveState, rows_in, tree_count, RowsAtRestAreExact, live_state, Moment, Gives, most_unread, bound_of, counts, all_phases, beyonds, fin_sends, most_of, own_sends, nh_sends, earlier, Stands, AllHaveExits, phase_of, Turns, IsTurn, has_work, RunsPhase, Runs, RunsAll, next_task, Keeps, TakesTurn, IsWork, AddsNoRows, HasDrained, RunsOut, Taken, Phase}
use Rattle.std.proofs.Common.{[], ◌∷◌, length, drop, Some, None, append_assoc}
use Rattle.std.proofs.lemmas.List.{append-nil, drop_more, take_all}
use Rattle.loss_chain.proofs.ListLemmas.{all_appended}
use Rattle.std.specs.FinMap as tables
use Rattle.in_chain.proofs.TurnLemmas.{turns_are_bounded as bounded_turns, turns_are_left}
use Rattle.router_moments.specs.declared.tasks.Phase.TheVariants.{Rdel, Red, Del, Fin, ReadRib, Out}
use Rattle.rib_exit.specs.Exits.{known_in as external_known}
use Rattle.router_moments.specs.Phases.{left_from, reading_of, sends_from_red, sends_from_del, sends_from_fin}
use Rattle.router_moments.specs.Turns.{IsOver, IsSettled}
use Rattle.router_moments.specs.Works.{HaveDrained, AllHaveDrained}
use Rattle.router_moments.proofs.KeepLemmas.{keeps_none, keeps_on, gives_join, gives_none, gives_so}
use Rattle.router_moments.proofs.MostLemmas.{capped, external_capped, refreshes_capped, sends_below, own_sends_below, fin_sends_below, few_exits}
use Rattle.router_moments.proofs.ReadingLemmas.{reading_less, readers_within, announced_fits}
use Rattle.router_moments.proofs.CountLemmas.{each_phase, counts_below, changes_below, over_none, none_over}
use Rattle.router_moments.proofs.SpendLemmas.{same_rows}
use Rattle.router_moments.proofs.NextLemmas.{next_works}
use Rattle.router_moments.proofs.SettledLemmas.{settled_is_exact}
use Rattle.router_moments.proofs.TurnWalks.{phases_same, all_have_on}
use Rattle.router_moments.proofs.ServedTurns.{phase_serves}
use Rattle.router_moments.specs.Laws.{OnlyWorkHoldsUp}
use Rattle.router_moments.proofs.WorkLemmas.{rows_then}
use Rattle.router_moments.proofs.TurnLaws.{turn_works, turns_work, runs_work, phase_works}

-- ---- turns of a task
turns_more : (n : ℕ) (task : Task) (m between m' : Moment) (xs ys : List Line) → Turns n task m xs between → IsTurn task between ys m' → Turns (suc n) task m (xs ++ ys) m'
turns_more zero task m between m' xs ys none turn =
    (ys, [], m', subst (λ (x : Moment). IsTurn task x ys m') none.1 turn, (refl, refl), ap (λ (l : List Line). l ++ ys) none.0 ∙ sym (append-nil ys))
turns_more (suc n) task m between m' xs ys t turn =
    (t.0, t.1 ++ ys, t.2, t.3, turns_more n task t.2 between m' t.1 ys t.4 turn, ap (λ (l : List Line). l ++ ys) t.5 ∙ append_assoc t.0 t.1 ys)

abbrev pub HaveGiven : Task → ℕ → Moment → Moment → Journaled → Journaled → Type 0
HaveGiven task n m m' before now = Gives (λ said. Turns n task m said m') before now

pub given_none : (task : Task) (m : Moment) (before j : Journaled) → j ≡ flushed before → HaveGiven task 0 m m before j
given_none task m before j is = gives_none (λ said. Turns 0 task m said m) before j (refl, refl) is

pub given_more : (task : Task) (n : ℕ) (m between m' : Moment) (before j now : Journaled) → HaveGiven task n m between before j → TakesTurn task between m' j now Taken → HaveGiven task (n + 1) m m' before now
given_more task n m between m' before j now g u = let one : suc n ≡ n + 1 = omega arith in gives_join (λ said. Turns n task m said between) (λ said. IsTurn task between said m') (λ said. Turns (n + 1) task m said m')
    (λ xs ys p q. subst (λ (k : ℕ). Turns k task m (xs ++ ys) m') one (turns_more n task m between m' xs ys p q)) before j now g u

-- where a turn may be taken
pub given_stands : (task : Task) (n : ℕ) (m m' : Moment) (before now : Journaled) → Stands m → HaveGiven task n m m' before now → Stands m'
given_stands task n m m' before now stands g = (turns_work n task m g.0 m' stands g.2).keeps.stands

-- a turn brings the end nearer
pub turn_less : (task : Task) (m m' : Moment) (before now : Journaled) → Stands m → TakesTurn task m m' before now Taken → counts m' (phase_of task) < counts m (phase_of task)
turn_less task m m' before now stands g = let falls = (turn_works task m g.0 m' stands g.2).falls in omega (arith, falls)

-- ---- tasks of a phase
abbrev pub HaveGivenOf : Phase → ℕ → Moment → Moment → Journaled → Journaled → Type 0
HaveGivenOf r turns m now before j = Gives (λ said. (count : ℕ) × Runs r count m said turns now) before j

pub phase_none : (r : Phase) (m : Moment) (before j : Journaled) → j ≡ flushed before → HaveGivenOf r 0 m m before j
phase_none r m before j is = gives_none (λ said. (count : ℕ) × Runs r count m said 0 m) before j (0, (refl, refl, refl)) is

pub phase_more : (r : Phase) (task : Task) (turns n : ℕ) (m at now : Moment) (before j j' : Journaled) → HaveGivenOf r turns m at before j → Some task ≡ next_task r at → Gives (HasDrained task at n now) j j'
    → HaveGivenOf r (turns + n) m now before j'
phase_more r task turns n m at now before j j' g next d = gives_join (λ said. (count : ℕ) × Runs r count m said turns at) (HasDrained task at n now) (λ said. (count : ℕ) × Runs r count m said (turns + n) now)
    (λ xs ys p q. (suc p.0, (xs, ys, turns, n, at, p.1, (task, sym next, (q.taken, q.ended)), refl, refl))) before j j' g d

-- where a task may run
pub phase_stands : (r : Phase) (turns : ℕ) (m now : Moment) (before j : Journaled) → Stands m → HaveGivenOf r turns m now before j → Stands now
phase_stands r turns m now before j stands g = (runs_work r g.2.0 m g.0 turns now stands g.2.1).keeps.stands

-- a task with work takes a turn at least
pub phase_less : (r : Phase) (task : Task) (n : ℕ) (at now : Moment) (j j' : Journaled) → Stands at → Some task ≡ next_task r at → Gives (HasDrained task at n now) j j' → counts now r < counts at r
phase_less r task n at now j j' stands next d = by_turns n (subst (λ (e : Phase). IsWork e n at now d.0) works.1 (turns_work n task at d.0 now stands d.2.taken)) d.2.taken
  where
    works : (has_work task at ≡ true) × (phase_of task ≡ r)
    works = next_works r at task (sym next)

    by_turns : (n : ℕ) → IsWork r n at now d.0 → Turns n task at d.0 now → counts now r < counts at r
    by_turns zero work taken = absurd (let same : has_work task at ≡ false = sym (ap (has_work task) taken.1) ∙ d.2.ended in let on = works.0 in cc)
    by_turns (suc n) work taken = let falls = work.falls in omega (arith, falls)

pub phase_done : (r : Phase) (m now : Moment) (turns : ℕ) (before j : Journaled) → HaveGivenOf r turns m now before j → None ≡ next_task r now → counts now r ≡ 0 → Gives (RunsOut r m turns now) before j
phase_done r m now turns before j g none gone = gives_so (λ said. (count : ℕ) × Runs r count m said turns now) (RunsOut r m turns now) (λ xs p. record { runs = record { count = p.0; runs = p.1; none = sym none }; none = gone }) before j g

-- what all of it comes to
pub phase_drained : (r : Phase) (m now : Moment) (turns : ℕ) (said : List Line) → Stands m → RunsOut r m turns now said → HaveDrained r m turns now said
phase_drained r m now turns said stands out =
    let work = phase_works r m said turns now stands out.runs in
    record {
      runs = out.runs;
      work = work;
      most = let falls = work.falls in let below = counts_below bounded_turns m r stands in omega (arith, falls, below);
      rises = let unread = work.unread in let below = changes_below m r stands in omega (arith, unread, below);
      over = none_over turns_are_left r now work.keeps.stands out.none;
      serves = phase_serves r m said turns now stands out.runs;
    }

-- ---- all phases, whatever the table is
-- how many turns the phases that are left take at most
abbrev pub rest_from : List Phase → Moment → ℕ
rest_from [] m = 0
rest_from (r ∷ rs) m = left_from r m

-- what was done before phase i
pub record Idling (i turns : ℕ) (m now : Moment) (said : List Line) : Type 0 where
  pub runs : RunsAll (take i all_phases) m said turns now
  pub keeps : Keeps (live_state m) m now said
  pub rows : AddsNoRows m now
  pub within : turns + rest_from (drop i all_phases) now ≤ left_from Rdel m
  pub over : AllByRecursion (λ e. counts now e ≡ 0) (take i all_phases)

runs_push : (rs : List Phase) (r : Phase) (n k : ℕ) (m at now : Moment) (xs ys : List Line) → RunsAll rs m xs n at → RunsPhase r at ys k now → RunsAll (rs ++ r ∷ []) m (xs ++ ys) (n + k) now
runs_push [] r n k m at now xs ys a p = (
  ys,
  [],
  k,
  0,
  now,
  subst (λ (x : Moment). RunsPhase r x ys k now) a.2 p,
  (refl, refl, refl),
  ap (λ (l : List Line). l ++ ys) a.0 ∙ sym (append-nil ys),
  (let none = a.1 in omega (arith, none)),
)
runs_push (e ∷ rs) r n k m at now xs ys a p = (
  a.0,
  a.1 ++ ys,
  a.2,
  a.3 + k,
  a.4,
  a.5,
  runs_push rs r a.3 k a.4 at now a.1 ys a.6 p,
  ap (λ (l : List Line). l ++ ys) a.7 ∙ append_assoc a.0 a.1 ys,
  (let sum = a.8 in omega (arith, sum)),
)

-- a line for each phase: the earlier ones,
earlier_are : (i : ℕ) (x : Phase) → i < length all_phases → earlier (get_or all_phases i x) ≡ take i all_phases
earlier_are zero x within = refl
earlier_are (suc zero) x within = refl
earlier_are (suc (suc zero)) x within = refl
earlier_are (suc (suc (suc zero))) x within = refl
earlier_are (suc (suc (suc (suc zero)))) x within = refl
earlier_are (suc (suc (suc (suc (suc zero))))) x within = refl
earlier_are (suc (suc (suc (suc (suc (suc zero)))))) x within = refl
earlier_are (suc (suc (suc (suc (suc (suc (suc zero))))))) x within = refl
earlier_are (suc (suc (suc (suc (suc (suc (suc (suc zero)))))))) x within = refl
earlier_are (suc (suc (suc (suc (suc (suc (suc (suc (suc i))))))))) x within = absurd (omega (arith, within))

-- how many turns readers take is no more with fewer changes to come
read_less : (m : Moment) (sends sends' : ℕ) → sends' ≤ sends → reading_of m sends' ≤ reading_of m sends
read_less m sends sends' less =
    reading_less (tables.len m.exits.chains) (tables.len m.exits.chains) (most_unread m.exits) (most_unread m.exits) (rows_in m.chains + tree_count m.tree) (rows_in m.chains + tree_count m.tree) sends sends' (omega arith) (omega arith) (omega (arith, less))

-- and how many turns an idle takes from the next one on, where this one is over
next_less : (i : ℕ) (x : Phase) (m : Moment) → i < length all_phases → Stands m → IsOver (get_or all_phases i x) m → rest_from (drop (i + 1) all_phases) m ≤ left_from (get_or all_phases i x) m
next_less zero x m within stands over = let read = read_less m (counts m Rdel + sends_from_red m) (sends_from_red m) (omega arith) in omega (arith, read)
next_less (suc zero) x m within stands over = let read = read_less m (sends_from_red m) (sends_from_del m) (omega arith) in omega (arith, read)
next_less (suc (suc zero)) x m within stands over = let read = read_less m (sends_from_del m) (sends_from_fin m) (omega arith) in omega (arith, read)
next_less (suc (suc (suc zero))) x m within stands over =
    let hops = capped m stands in
    let sends = sends_below m stands in
    let read = read_less m (sends_from_fin m) (nh_sends (beyonds m.chains) m.hops) (omega (arith, sends)) in
    omega (arith, hops, read)
next_less (suc (suc (suc (suc zero)))) x m within stands over =
    let reader : counts m ReadRib ≤ most_unread m.exits = counts_below bounded_turns m ReadRib stands in
    let exits = counts_below bounded_turns m Out stands in
    let all = readers_within (tables.len m.exits.chains) (most_unread m.exits) (rows_in m.chains + tree_count m.tree) (nh_sends (beyonds m.chains) m.hops) (counts m ReadRib) (counts m Out) reader exits in
    omega (arith, all)
next_less (suc (suc (suc (suc (suc zero))))) x m within stands over = let external = external_capped m stands over in omega (arith, external)
next_less (suc (suc (suc (suc (suc (suc zero)))))) x m within stands over = let refreshes = refreshes_capped m stands over in omega (arith, refreshes)
next_less (suc (suc (suc (suc (suc (suc (suc zero))))))) x m within stands over = omega arith
next_less (suc (suc (suc (suc (suc (suc (suc (suc zero)))))))) x m within stands over = omega arith
next_less (suc (suc (suc (suc (suc (suc (suc (suc (suc i))))))))) x m within stands over = absurd (omega (arith, within))

-- all of these are still over
over_more : (m m' : Moment) (es : List Phase) → AllByRecursion (λ e. counts m' e ≤ counts m e) es → AllByRecursion (λ e. counts m e ≡ 0) es → AllByRecursion (λ e. counts m' e ≡ 0) es
over_more m m' [] less over = tt
over_more m m' (e ∷ es) less over = (let p = less.0 in let q = over.0 in omega (arith, p, q), over_more m m' es less.1 over.1)

-- the announced bound is above the turns of the first phase on
bounds_fit : (m : Moment) → Stands m → left_from Rdel m ≤ bound_of m
bounds_fit m stands =
    let a = counts_below bounded_turns m Rdel stands in
    let b = counts_below bounded_turns m Red stands in
    let c = counts_below bounded_turns m Del stands in
    let d = counts_below bounded_turns m Fin stands in
    let count = stands.peers.count in
    let own = own_sends_below m in
    let walks = fin_sends_below m.chains in
    let few = few_exits m stands in
    announced_fits (counts m Rdel) (counts m Red) (counts m Del) (counts m Fin) (most_of m) (own_sends m) (fin_sends m.chains) (tables.len m.exits.chains) (most_unread m.exits) (rows_in m.chains) (tree_count m.tree) (length m.declared.peers)
    (known_in m.hops + external_known m.rib) a b c (omega (arith, d, count)) (omega (arith, count)) own walks (omega (arith, few, count))

pub idling_none : (m : Moment) (before j : Journaled) → Stands m → j ≡ flushed before → Gives (Idling 0 0 m m) before j
idling_none m before j stands is = gives_none (Idling 0 0 m m) before j (record { runs = (refl, refl, refl); keeps = keeps_none m stands; rows = same_rows m m refl refl; within = omega arith; over = tt }) is

pub idling_more : (i turns n : ℕ) (x : Phase) (m at now : Moment) (before j j' : Journaled) → i < length all_phases → Gives (Idling i turns m at) before j → Gives (RunsOut (get_or all_phases i x) at n now) j j'
    → Gives (Idling (i + 1) (turns + n) m now) before j'
idling_more i turns n z m at now before j j' within g d = gives_join (Idling i turns m at) (RunsOut r at n now) (Idling (i + 1) (turns + n) m now) (λ xs ys x out. both xs ys x (phase_drained r at now n ys x.keeps.stands out)) before j j' g d
  where
    r : Phase
    r = get_or all_phases i z

    both : (xs ys : List Line) → Idling i turns m at xs → HaveDrained r at n now ys → Idling (i + 1) (turns + n) m now (xs ++ ys)
    both xs ys x y =
        let first : take i all_phases ++ r ∷ [] ≡ take (i + 1) all_phases = sym (take_more all_phases i z within) in
        let rest : drop i all_phases ≡ r ∷ drop (i + 1) all_phases = drop_more all_phases i z within in
        let less : AllByRecursion (λ e. counts now e ≤ counts at e) (take i all_phases) = subst (λ (l : List Phase). AllByRecursion (λ e. counts now e ≤ counts at e) l) (earlier_are i z within) y.work.earlier in
        let was : turns + left_from r at ≤ left_from Rdel m = subst (λ (l : List Phase). turns + rest_from l at ≤ left_from Rdel m) rest x.within in
        let left = y.work.left in
        let next = next_less i z now within y.work.keeps.stands y.over in
        record {
          runs = subst (λ (l : List Phase). RunsAll l m (xs ++ ys) (turns + n) now) first (runs_push (take i all_phases) r turns n m at now xs ys x.runs y.runs);
          keeps = keeps_on m at now xs ys (live_state m) refl x.keeps y.work.keeps;
          rows = rows_then m at now x.rows y.work.rows;
          within = omega (arith, was, left, next);
          over = subst (λ (l : List Phase). AllByRecursion (λ e. counts now e ≡ 0) l) first
              (all_appended (λ e. counts now e ≡ 0) (λ e. counts now e ≡ 0) (λ e none. none) (take i all_phases) r (over_more at now (take i all_phases) less x.over) (over_none r now y.over));
        }

pub idling_done : RowsAtRestAreExact → OnlyWorkHoldsUp → (i turns : ℕ) (m now : Moment) (before j : Journaled) → Stands m → AllHaveExits m → length all_phases ≤ i → Gives (Idling i turns m now) before j → Gives (AllHaveDrained m turns now) before j
idling_done exact only i turns m now before j stands exits past g = gives_so (Idling i turns m now) (AllHaveDrained m turns now) (λ xs x.
    let all : take i all_phases ≡ all_phases = take_all i all_phases past in
    let over = subst (λ (l : List Phase). AllByRecursion (λ e. counts now e ≡ 0) l) all x.over in
    let settled : IsSettled now = λ r. none_over turns_are_left r now x.keeps.stands (each_phase (λ e. counts now e ≡ 0) over r) in
    let within = x.within in
    let fits = bounds_fit m stands in
    record {
      runs = subst (λ (l : List Phase). RunsAll l m xs turns now) all x.runs;
      keeps = x.keeps;
      most = omega (arith, within, fits);
      rows = x.rows;
      settled = settled;
      exact = settled_is_exact exact only now x.keeps.stands (all_have_on m now (ap (λ (l : LiveState). l.declared) x.keeps.live) (phases_same all_phases m xs turns now stands (subst (λ (l : List Phase). RunsAll l m xs turns now) all x.runs)) exits) settled;
    }) before j g
