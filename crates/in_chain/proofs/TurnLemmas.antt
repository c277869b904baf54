-- How many turns a walk has left.
use Rattle.std.proofs.Common.{◌≡◌, ℕ, ◌<◌, ◌≤◌, ◌+◌, ◌*◌, true, false, List, Option, Some, None, IsSome, is_some, refl, sym, subst, arith}
use Rattle.addr4.specs.Prefixes.{AddressPrefix}
use Rattle.bgp_attr.specs.Attributes.{Attrs}
use Rattle.bgp_attr.specs.Speakers.{Speaker}
use Rattle.bgp_attr.specs.declared.speaker.Neighbour.{Neighbour}
use Rattle.filter_bank.specs.Filtered.{filtered}
use Rattle.link_change.specs.Rows.{IsNextCandidate, with_rows}
use Rattle.policy_rules.specs.Rules.{Rule}
use Rattle.pass_core.specs.Passed.{Passed, Walked, function_at, walk_of_waiting, walk_stepped, after_walk}
use Rattle.pass_core.specs.Turns.{walked_on}
use Rattle.loss_chain.specs.Tables.{Tables, lowest_rows, tables_count, tables_beyond}
use Rattle.loss_chain.proofs.BeyondLemmas.{listed_within, listed_fewer, listed_counts, tables_listed}
use Rattle.in_chain.specs.Chains.{waiting_turns, walk_turns}
use Rattle.in_chain.specs.Laws.{TurnsAreBounded, TurnsAreLeft, CandidatesAreCounted, FilteredRowsAreFew}

within : (place : Option AddressPrefix) (t : Tables Attrs) → tables_beyond place t ≤ tables_count t
within place t = listed_within (tables_listed t).1 place

-- the turn that ends a walk
ended_turns : (t : Tables Attrs) (place : Option AddressPrefix) (waiting : Option (List Rule)) → walk_turns t (walk_of_waiting waiting) < tables_beyond place t + 1 + waiting_turns (tables_count t) waiting
ended_turns t place None = omega arith
ended_turns t place (Some rules) = let all = within None t in omega (arith, all)

pub fewer_turns : (t : Tables Attrs) (s new : Passed (List Rule)) (w : Walked (List Rule)) (next : Option AddressPrefix) → s.walk ≡ Some w → new ≡ walked_on next s → IsNextCandidate (with_rows (lowest_rows t)) w.place next
    → walk_turns t new.walk < walk_turns t s.walk
fewer_turns t s new w None on is least =
    let P : Passed (List Rule) → Type 0 = λ n. walk_turns t n.walk < walk_turns t s.walk in
    let Q : Option (Walked (List Rule)) → Type 0 = λ o. walk_turns t (after_walk s.in_force o).walk < walk_turns t o in
    subst P (sym is) (subst Q (sym on) (ended_turns t w.place w.waiting))
fewer_turns t s new w (Some p) on is least =
    let P : Passed (List Rule) → Type 0 = λ n. walk_turns t n.walk < walk_turns t s.walk in
    let Q : Option (Walked (List Rule)) → Type 0 = λ o. walk_turns t (walk_stepped o p) < walk_turns t o in
    let step = listed_fewer (tables_listed t).1 w.place p least.0 least.1 in
    subst P (sym is) (subst Q (sym on) (omega (arith, step)))

-- ---- laws
waiting_bounded : (rows : ℕ) (waiting : Option (List Rule)) → waiting_turns rows waiting ≤ rows + 1
waiting_bounded rows None = omega arith
waiting_bounded rows (Some rules) = omega arith

walk_bounded : (t : Tables Attrs) (walk : Option (Walked (List Rule))) → walk_turns t walk ≤ 2 * (tables_count t + 1)
walk_bounded t None = omega arith
walk_bounded t (Some w) = let left = within w.place t in let more = waiting_bounded (tables_count t) w.waiting in omega (arith, left, more)

pub turns_are_bounded : TurnsAreBounded
turns_are_bounded c = walk_bounded c.incoming.tables c.filter.walk

walk_left : (t : Tables Attrs) (walk : Option (Walked (List Rule))) → (is_some walk ≡ true → 0 < walk_turns t walk) × (is_some walk ≡ false → walk_turns t walk ≡ 0)
walk_left t None = (λ e. absurd (let clash : false ≡ true = e in cc), λ _. refl)
walk_left t (Some w) = (λ _. omega arith, λ e. absurd (let clash : true ≡ false = e in cc))

pub turns_are_left : TurnsAreLeft
turns_are_left c = walk_left c.incoming.tables c.filter.walk

pub candidates_are_counted : CandidatesAreCounted
candidates_are_counted c = (listed_counts (tables_listed c.incoming.tables).1, within None c.incoming.tables)

-- a row of `filt.K` stands where `in.K` has one
judged_there : (me : Speaker) (peer : Neighbour) (rules : List Rule) (p : AddressPrefix) (o : Option Attrs) → IsSome (filtered me peer rules p o) → IsSome o
judged_there me peer rules p None there = there
judged_there me peer rules p (Some a) there = refl

pub filtered_rows_are_few : FilteredRowsAreFew
filtered_rows_are_few c =
    let all = tables_listed c.incoming.tables in
    let few = all.1.all in
    (all.0, omega (arith, few), λ q there. all.1.stands q (judged_there c.me c.peer (function_at c.filter q) q (lowest_rows c.incoming.tables q) there))
