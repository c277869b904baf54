-- Many turns leave no choice: so many of a task, a task to its end, a phase, and all of them.
use Rattle.router_moments.proofs.Common.{same_Some, sym, subst, ◌∙◌, ap, ◌≡◌, ℕ, zero, suc, ◌+◌, ◌-◌, ◌<◌, ◌≤◌, ◌⊎◌, inl, inr, arith, refl, List, ◌++◌, Bool, true, false, Line, Task, Moment, Stands, Turns, Runs, RunsPhase, RunsAll, RunsFirst, has_work, next_task}
use Rattle.router_moments.specs.declared.tasks.Phase.{Phase}
use Rattle.std.proofs.Common.{[], ◌∷◌, Option, Some, None}
use Rattle.std.proofs.lemmas.Bool.{cases_order}
use Rattle.router_moments.specs.Turns.{Drains}
use Rattle.router_moments.proofs.TurnLaws.{turn_works, runs_work, phase_works}
use Rattle.router_determinism.specs.Parts.{PartsAreOne}
use Rattle.router_determinism.proofs.OneTurns.{turn_is_one, turn_has_work}

-- what was said, and where it led, are one
abbrev pub One : List Line → Moment → List Line → Moment → Type 0
One said m other n = (said ≡ other) × (m ≡ n)

module _ (laws : PartsAreOne) where
  -- ---- of a task
  -- as many turns
  pub turns_are_one : (n : ℕ) (task : Task) (m : Moment) (said other : List Line) (m1 m2 : Moment) → Stands m → Turns n task m said m1 → Turns n task m other m2 → One said m1 other m2
  turns_are_one zero task m said other m1 m2 stands t u = (t.0 ∙ sym u.0, t.1 ∙ sym u.1)
  turns_are_one (suc n) task m said other m1 m2 stands t u =
      let first = turn_is_one laws task m t.0 u.0 t.2 u.2 stands t.3 u.3 in
      let rest = turns_are_one n task t.2 t.1 u.1 m1 m2 (turn_works task m t.0 t.2 stands t.3).keeps.stands t.4 (subst (λ (b : Moment). Turns n task b u.1 m2) (sym first.1) u.4) in
      (t.5 ∙ ap (λ (l : List Line). l ++ t.1) first.0 ∙ ap (λ (l : List Line). u.0 ++ l) rest.0 ∙ sym u.5, rest.1)

  -- a task without work takes no turn
  none_without : (n : ℕ) (task : Task) (m : Moment) (said : List Line) (m1 : Moment) → has_work task m ≡ false → Turns n task m said m1 → n ≡ 0
  none_without zero task m said m1 rests t = refl
  none_without (suc n) task m said m1 rests t = absurd (let clash : true ≡ false = sym (turn_has_work laws task m t.0 t.2 t.3) ∙ rests in cc)

  -- Turns up to where no work is left, or to the most that may be taken, are as many.
  pub as_many : (a b : ℕ) (most : ℕ) (task : Task) (m : Moment) (said other : List Line) (m1 m2 : Moment) → Stands m → Turns a task m said m1 → Turns b task m other m2 → a ≤ most → b ≤ most
      → (a ≡ most) ⊎ (has_work task m1 ≡ false) → (b ≡ most) ⊎ (has_work task m2 ≡ false) → a ≡ b
  as_many zero b most task m said other m1 m2 stands t u low high ends also = by ends
    where
      by : (0 ≡ most) ⊎ (has_work task m1 ≡ false) → 0 ≡ b
      by (inl full) = omega (arith, full, high)
      by (inr rests) = sym (none_without b task m other m2 (ap (has_work task) (sym t.1) ∙ rests) u)
  as_many (suc a) zero most task m said other m1 m2 stands t u low high ends also = by also
    where
      by : (0 ≡ most) ⊎ (has_work task m2 ≡ false) → suc a ≡ 0
      by (inl full) = omega (arith, full, low)
      by (inr rests) = none_without (suc a) task m said m1 (ap (has_work task) (sym u.1) ∙ rests) t
  as_many (suc a) (suc b) zero task m said other m1 m2 stands t u low high ends also = omega (arith, low)
  as_many (suc a) (suc b) (suc most) task m said other m1 m2 stands t u low high ends also =
      let first = turn_is_one laws task m t.0 u.0 t.2 u.2 stands t.3 u.3 in
      ap suc (as_many a b most task t.2 t.1 u.1 m1 m2 (turn_works task m t.0 t.2 stands t.3).keeps.stands t.4 (subst (λ (x : Moment). Turns b task x u.1 m2) (sym first.1) u.4)
      (omega (arith, low)) (omega (arith, high)) (less a most (has_work task m1) ends) (less b most (has_work task m2) also))
    where
      less : (n : ℕ) (full : ℕ) (work : Bool) → (suc n ≡ suc full) ⊎ (work ≡ false) → (n ≡ full) ⊎ (work ≡ false)
      less n full work (inl same) = inl (omega (arith, same))
      less n full work (inr rests) = inr rests

  -- a task to its end
  pub drain_is_one : (task : Task) (m : Moment) (said other : List Line) (a b : ℕ) (m1 m2 : Moment) → Stands m → Drains task m said a m1 → Drains task m other b m2 → (a ≡ b) × (said ≡ other) × (m1 ≡ m2)
  drain_is_one task m said other a b m1 m2 stands t u =
      let count : a ≡ b = as_many a b (a + b) task m said other m1 m2 stands t.0 u.0 (omega arith) (omega arith) (inr t.1) (inr u.1) in
      let same = turns_are_one b task m said other m1 m2 stands (subst (λ (n : ℕ). Turns n task m said m1) count t.0) u.0 in
      (count, same.0, same.1)

  -- ---- of a phase
  -- as many tasks of it, each to its end
  runs_are_one : (phase : Phase) (n : ℕ) (m : Moment) (said other : List Line) (a b : ℕ) (m1 m2 : Moment) → Stands m → Runs phase n m said a m1 → Runs phase n m other b m2 → (a ≡ b) × (said ≡ other) × (m1 ≡ m2)
  runs_are_one phase zero m said other a b m1 m2 stands t u = (t.1 ∙ sym u.1, t.0 ∙ sym u.0, t.2 ∙ sym u.2)
  runs_are_one phase (suc n) m said other a b m1 m2 stands t u =
      let early = runs_are_one phase n m t.0 u.0 t.2 u.2 t.4 u.4 stands t.5 u.5 in
      let task : u.6.0 ≡ t.6.0 = same_Some u.6.0 t.6.0 (sym u.6.1 ∙ ap (next_task phase) (sym early.2) ∙ t.6.1) in
      let drains : Drains t.6.0 t.4 u.1 u.3 m2 = subst (λ (x : Moment). Drains t.6.0 x u.1 u.3 m2) (sym early.2) (subst (λ (x : Task). Drains x u.4 u.1 u.3 m2) task u.6.2) in
      let late = drain_is_one t.6.0 t.4 t.1 u.1 t.3 u.3 m1 m2 (runs_work phase n m t.0 t.2 t.4 stands t.5).keeps.stands t.6.2 drains in (
        t.8 ∙ ap (λ (x : ℕ). x + t.3) early.0 ∙ ap (λ (x : ℕ). u.2 + x) late.0 ∙ sym u.8,
        t.7 ∙ ap (λ (l : List Line). l ++ t.1) early.1 ∙ ap (λ (l : List Line). u.0 ++ l) late.1 ∙ sym u.7,
        late.2,
      )

  -- Of fewer tasks than another one, the next that is run has work.
  goes_on : (phase : Phase) (a more : ℕ) (m : Moment) (said : List Line) (turns : ℕ) (m1 : Moment) → Runs phase (suc (a + more)) m said turns m1
      → (first : List Line) × (early : ℕ) × (between : Moment) × (task : Task) × Runs phase a m first early between × (next_task phase between ≡ Some task)
  goes_on phase a zero m said turns m1 r = (r.0, r.2, r.4, r.6.0, subst (λ (n : ℕ). Runs phase n m r.0 r.2 r.4) (let same : a + 0 ≡ a = omega arith in same) r.5, r.6.1)
  goes_on phase a (suc more) m said turns m1 r =
      goes_on phase a more m r.0 r.2 r.4 (subst (λ (n : ℕ). Runs phase n m r.0 r.2 r.4) (let same : a + suc more ≡ suc (a + more) = omega arith in same) r.5)

  -- Tasks up to where none of the phase has work are not fewer than others.
  no_fewer : (phase : Phase) (a b : ℕ) (m : Moment) (said other : List Line) (turns more : ℕ) (m1 m2 : Moment) → Stands m → Runs phase a m said turns m1 → next_task phase m1 ≡ None → Runs phase b m other more m2 → a < b → ⊥
  no_fewer phase a b m said other turns more m1 m2 stands t over u fewer =
      let longer : suc (a + (b - suc a)) ≡ b = omega (arith, fewer) in
      let next = goes_on phase a (b - suc a) m other more m2 (subst (λ (n : ℕ). Runs phase n m other more m2) (sym longer) u) in
      let same = runs_are_one phase a m said next.0 turns next.1 m1 next.2 stands t next.4 in
      let clash : None ≡ Some next.3 = sym over ∙ ap (next_task phase) same.2 ∙ next.5 in cc

  -- a phase to its end
  pub phase_is_one : (phase : Phase) (m : Moment) (said other : List Line) (a b : ℕ) (m1 m2 : Moment) → Stands m → RunsPhase phase m said a m1 → RunsPhase phase m other b m2 → (a ≡ b) × (said ≡ other) × (m1 ≡ m2)
  phase_is_one phase m said other a b m1 m2 stands t u =
      runs_are_one phase u.count m said other a b m1 m2 stands (subst (λ (n : ℕ). Runs phase n m said a m1) count t.runs) u.runs
    where
      count : t.count ≡ u.count
      count = elim (cases_order t.count u.count) [
        | inl same ↦ same
        | inr (inl fewer) ↦ absurd (no_fewer phase t.count u.count m said other a b m1 m2 stands t.runs t.none u.runs fewer)
        | inr (inr more) ↦ absurd (no_fewer phase u.count t.count m other said b a m2 m1 stands u.runs u.none t.runs more)
      ]

  -- one phase after the other
  pub phases_are_one : (phases : List Phase) (m : Moment) (said other : List Line) (a b : ℕ) (m1 m2 : Moment) → Stands m → RunsAll phases m said a m1 → RunsAll phases m other b m2 → (a ≡ b) × (said ≡ other) × (m1 ≡ m2)
  phases_are_one [] m said other a b m1 m2 stands t u = (t.1 ∙ sym u.1, t.0 ∙ sym u.0, t.2 ∙ sym u.2)
  phases_are_one (phase ∷ later) m said other a b m1 m2 stands t u =
      let first = phase_is_one phase m t.0 u.0 t.2 u.2 t.4 u.4 stands t.5 u.5 in
      let rest = phases_are_one later t.4 t.1 u.1 t.3 u.3 m1 m2 (phase_works phase m t.0 t.2 t.4 stands t.5).keeps.stands t.6 (subst (λ (x : Moment). RunsAll later x u.1 u.3 m2) (sym first.2) u.6) in (
        t.8 ∙ ap (λ (x : ℕ). x + t.3) first.0 ∙ ap (λ (x : ℕ). u.2 + x) rest.0 ∙ sym u.8,
        t.7 ∙ ap (λ (l : List Line). l ++ t.1) first.1 ∙ ap (λ (l : List Line). u.0 ++ l) rest.1 ∙ sym u.7,
        rest.2,
      )

  -- the stage that has to go first, if there is one
  pub first_is_one : (task : Option Task) (m : Moment) (said other : List Line) (m1 m2 : Moment) → Stands m → RunsFirst task m said m1 → RunsFirst task m other m2 → One said m1 other m2
  first_is_one None m said other m1 m2 stands t u = (t.0 ∙ sym u.0, t.1 ∙ sym u.1)
  first_is_one (Some task) m said other m1 m2 stands t u =
      let one = drain_is_one task m said other t.0 u.0 m1 m2 stands t.1 u.1 in
      (one.1, one.2)
