-- What the decision's state knows of a moment, between two steps and within one.
use Rattle.std.specs.Prelude.{◌≡◌, ◌≢◌, ◌<◌, ℕ, zero, suc, nat_lt, Bool, true, false, cond, Option, Some, None, IsSome}
use Rattle.std.specs.FinMap as tables
use Rattle.std.specs.FinMap.{FinMap}
use Rattle.addr4.specs.Prefixes.{AddressPrefix, prefix_cmp}
use Rattle.bgp_attr.specs.Routes.{Route}
use Rattle.link_change.specs.Rows.{Rows, Candidates, no_rows, with_rows}
use Rattle.link_change.specs.Changes.{IsSent}
use Rattle.link_change.specs.Changes.{Change}
use Rattle.decision.specs.Contests.{Contest}
use Rattle.decision.specs.Branches.{AllRows}
use Rattle.decision.specs.Contests.{Knows, Counts}
use Rattle.hop_side.specs.Resolvers.{Resolvers, PeerRows, AllCounted, resolver_at, rows_by}
use Rattle.hop_side.specs.Steps.{ComesOn}
use Rattle.peer_side.specs.Peers.{Chains, filt_at}
use Rattle.rib_route.specs.Rows.{Interior}
use Rattle.rib_tree.specs.Trees.{int_rows}
use Rattle.router_moments.specs.Bests.{own_rows, lent_rows, lent_candidates}
use Rattle.router_moments.specs.Moments.{Moment, own_of}
use Rattle.router_network.specs.Reads.{ReadOver}
use Rattle.router_network.specs.declared.above.Above.{Above}

-- what is kept at each prefix
abbrev pub Contested : Type 0
Contested = FinMap prefix_cmp Contest

-- ---- between two steps
-- the rows of all branches, as they are lent to the decision
abbrev pub branch_rows : Moment → AllRows
branch_rows m = lent_rows (own_of m) m.chains m.hops

-- The candidates that it counts: the rows of this speaker's own, and the peers' candidates. Where nothing is redistributed an interior
-- route is a candidate of a walk, but isn't counted.
abbrev pub counted_over : Rows Route → Chains → ℕ → Candidates
counted_over own a = lent_candidates (with_rows own) a

abbrev pub branch_candidates : Moment → ℕ → Candidates
branch_candidates m = counted_over (own_of m) m.chains

-- The state knows the rows of all branches, and their candidates are counted.
pub record Informed (contests : Contested) (m : Moment) : Type 0 where
  pub knows : Knows contests (branch_rows m)
  pub counts : Counts contests (branch_candidates m)

-- the rows of all branches of what stands above `best`, and their candidates
abbrev pub own_above : {F : Type 0} → Above F → Rows Route
own_above a = own_rows a.declared.speaker a.redist (int_rows a.tree)

abbrev pub rows_above : {F : Type 0} → Above F → AllRows
rows_above a = lent_rows (own_above a) a.chains a.hops

abbrev pub counted_above : {F : Type 0} → Above F → ℕ → Candidates
counted_above a = counted_over (own_above a) a.chains

-- whatever candidates were counted are counted then
abbrev pub KeepsCounts : Contested → Contested → Type 0
KeepsCounts contests contests' = (candidates : ℕ → Candidates) → Counts contests candidates → Counts contests' candidates

-- ---- within a step
-- the state keeps the prefix of a change, if there is one
abbrev pub KeepsPrefix : {R : Type 0} → Option (Change R) → Contested → Type 0
KeepsPrefix {R} sent contests = (change : Change R) → sent ≡ Some change → IsSome (tables.get contests change.prefix)

-- The state knows the rows of all branches before a change of branch k, which came if one did.
pub record KnowsBut (k : ℕ) (sent : Option (Change Route)) (contests : Contested) (m : Moment) : Type 0 where
  pub before : AllRows
  pub prefix : AddressPrefix
  pub comes : ComesOn k prefix sent before (branch_rows m)
  pub knows : Knows contests before
  pub there : KeepsPrefix sent contests

-- the rows of all branches over these of all `filt.K`, this speaker's own first
abbrev pub rows_over : Rows Route → PeerRows → Resolvers → AllRows
rows_over own uppers h zero = own
rows_over own uppers h (suc b) = rows_by (resolver_at (suc b) h) (cond (nat_lt (suc b) 65) (uppers (suc b)) no_rows)

-- The same behind a fall in the chain of peer k: the state knows the rows over those of all `filt.K` before it.
pub record KnowsAbove (k : ℕ) (sent : Option (Change Route)) (contests : Contested) (m : Moment) : Type 0 where
  pub uppers : PeerRows
  pub prefix : AddressPrefix
  pub comes : ComesOn k prefix sent uppers (filt_at m.chains)
  pub counted : AllCounted uppers m.hops
  pub knows : Knows contests (rows_over (own_of m) uppers m.hops)
  pub there : KeepsPrefix sent contests
  pub peer : k ≢ 0

-- Behind a change of `red`, if one came: the state knows the rows over this speaker's own before it, and counted those.
pub record KnowsOwn (sent : Option (Change Route)) (contests : Contested) (m : Moment) : Type 0 where
  pub own : Rows Route
  pub prefix : AddressPrefix
  pub comes : IsSent own (own_of m) prefix sent
  pub knows : Knows contests (lent_rows own m.chains m.hops)
  pub counts : Counts contests (counted_over own m.chains)

-- this speaker's own rows over these of `int`
abbrev pub own_over : Rows Interior → Moment → Rows Route
own_over int m = own_rows m.declared.speaker m.redist int

-- And behind a change of `int`, if one came: the state knows the rows over those of `int` before it, and counted this speaker's own over
-- these.
pub record KnowsOver (sent : Option (Change Interior)) (contests : Contested) (m : Moment) : Type 0 where
  pub int : Rows Interior
  pub prefix : AddressPrefix
  pub comes : IsSent int (int_rows m.tree) prefix sent
  pub knows : Knows contests (lent_rows (own_over int m) m.chains m.hops)
  pub counts : Counts contests (counted_over (own_over int m) m.chains)

-- and the forwarding side has what it has of the best routes over these
pub record InformedOver (sent : Option (Change Interior)) (contests : Contested) (m : Moment) : Type 0 where
  pub over : KnowsOver sent contests m
  pub read : ReadOver over.int m

-- ---- candidates that come and go
-- Whether branch k has a candidate at a prefix changed from the one to the other, and no other candidate came or went.
pub record Shifts (k : ℕ) (p : AddressPrefix) (had has : Bool) (before now : ℕ → Candidates) : Type 0 where
  pub small : k < 65
  pub was : before k p ≡ had
  pub is : now k p ≡ has
  pub others : (b : ℕ) → b ≢ k → now b p ≡ before b p
  pub elsewhere : (b : ℕ) (q : AddressPrefix) → q ≢ p → now b q ≡ before b q

-- the same of one that went, if one did
abbrev pub ShiftsAt : Option AddressPrefix → ℕ → (ℕ → Candidates) → (ℕ → Candidates) → Type 0
ShiftsAt None k before now = now ≡ before
ShiftsAt (Some p) k before now = Shifts k p true false before now

-- where one came, it was counted already; where one went, it still is
abbrev pub shifted : Bool → (ℕ → Candidates) → (ℕ → Candidates) → ℕ → Candidates
shifted has before now = cond has now before

-- some candidates that are counted shift so
pub record HasShift (p : AddressPrefix) (had has : Bool) (contests : Contested) : Type 0 where
  pub branch : ℕ
  pub before : ℕ → Candidates
  pub now : ℕ → Candidates
  pub shifts : Shifts branch p had has before now
  pub counts : Counts contests before

-- and those that shifted are counted but for one that went
pub record HasShifted (p : AddressPrefix) (had has : Bool) (contests : Contested) : Type 0 where
  pub branch : ℕ
  pub before : ℕ → Candidates
  pub now : ℕ → Candidates
  pub shifts : Shifts branch p had has before now
  pub counts : Counts contests (shifted has before now)
