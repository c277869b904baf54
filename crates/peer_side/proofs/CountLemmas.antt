-- What a turn of a chain's stage and a weld leave of its counts.
use Rattle.std.proofs.Common.{◌≡◌, ℕ, ◌+◌, ◌*◌, ◌≤◌, List, [], ◌∷◌, length, Option, Some, None, arith}
use Rattle.std.specs.FinMap as tables
use Rattle.std.specs.FinMap.{FinMap}
use Rattle.std.proofs.lemmas.List.Sums.{sum_by-cons, sum_by-le-sum_by}
use Rattle.std.specs.List.{sum_by}
use Rattle.addr4.specs.Prefixes.{AddressPrefix, prefix_cmp}
use Rattle.bgp_attr.specs.Attributes.{Attrs}
use Rattle.link_change.proofs.MapLemmas.{values_length}
use Rattle.policy_rules.specs.Rules.{Rule}
use Rattle.pass_core.specs.Passed.{Walked}
use Rattle.loss_chain.specs.Tables.{Tables, tables_count, tables_beyond}
use Rattle.loss_chain.specs.Steps.{table_of}
use Rattle.loss_chain.proofs.TurnLemmas.{welded_rows, swept_rows as swept_rows_of}
use Rattle.loss_chain.proofs.BeyondLemmas.{swept_beyond, welded_beyond}
use Rattle.in_chain.specs.Chains.{Chained, row_count, IsChain, waiting_turns, walk_turns, turns_left}
use Rattle.in_chain.specs.Steps.{swept, welded}
use Rattle.in_chain.specs.Laws.{TurnsAreBounded}
use Rattle.peer_side.specs.Peers.{Chains, lost_of, lost_in, left_in, rows_in}

pub swept_rows : (s : ℕ) (c : Chained) (p : AddressPrefix) (a : Attrs) (t : FinMap prefix_cmp Attrs) → IsChain c → table_of s c.incoming.tables.deletions ≡ Some t → tables.get t p ≡ Some a → lost_of (swept s p c) + 1 ≡ lost_of c
swept_rows s c p a t chain stands at = swept_rows_of s p t a c.incoming.tables.deletions chain.rising stands at

pub weld_rows : (c : Chained) → lost_of (welded c) ≡ lost_of c
weld_rows c = welded_rows c.incoming.tables.deletions

waiting_more : (a b : ℕ) (waiting : Option (List Rule)) → a ≤ b → waiting_turns a waiting ≤ waiting_turns b waiting
waiting_more a b None most = omega arith
waiting_more a b (Some rules) most = omega (arith, most)

-- no more turns of the filter's walk, where no more rows lie beyond its place
fewer_turns : (t u : Tables Attrs) (walk : Option (Walked (List Rule))) → tables_count t ≤ tables_count u → ((place : Option AddressPrefix) → tables_beyond place t ≤ tables_beyond place u) → walk_turns t walk ≤ walk_turns u walk
fewer_turns t u None less beyond = omega arith
fewer_turns t u (Some w) less beyond =
    let a = beyond w.place in
    let b = waiting_more (tables_count t) (tables_count u) w.waiting less in
    omega (arith, a, b)

pub swept_turns : (s : ℕ) (c : Chained) (p : AddressPrefix) → lost_of (swept s p c) ≤ lost_of c → turns_left (swept s p c) ≤ turns_left c
swept_turns s c p less = fewer_turns (swept s p c).incoming.tables c.incoming.tables c.filter.walk (omega (arith, less)) (λ place. swept_beyond place s p c.incoming.tables)

pub weld_turns : (c : Chained) → turns_left (welded c) ≤ turns_left c
weld_turns c = let same = weld_rows c in fewer_turns (welded c).incoming.tables c.incoming.tables c.filter.walk (omega (arith, same)) (λ place. welded_beyond place c.incoming.tables)

-- ---- how many turns walks take at most, and how many rows are lost
left_among : TurnsAreBounded → (cs : List Chained) → sum_by turns_left cs ≤ 2 * (sum_by row_count cs + length cs)
left_among law [] = omega arith
left_among law (c ∷ cs) =
    let here = law c in
    let rest = left_among law cs in
    let turns = sum_by-cons turns_left c cs in
    let rows = sum_by-cons row_count c cs in
    omega (arith, here, rest, turns, rows)

pub left_below : TurnsAreBounded → (a : Chains) → left_in a ≤ 2 * (rows_in a + tables.len a)
left_below law a = let all = left_among law (tables.values a) in let size = values_length a in omega (arith, all, size)

pub lost_below : (a : Chains) → lost_in a ≤ rows_in a
lost_below a = sum_by-le-sum_by lost_of row_count (tables.values a) (λ c. omega arith)
