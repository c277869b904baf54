-- What contracts see of the peers' side: the chain of each peer, by the peer's number.
use Rattle.std.specs.Prelude.{◌≡◌, ℕ, ◌<◌, ◌≤◌, ◌==◌, length, Bool, false, is_some, if◌then◌else◌, List, [], ◌∷◌, map, Option, Some, None}
use Rattle.std.specs.List.{AllByRecursion, find, flat_map, sum_by}
use Rattle.std.specs.Option.{option_or}
use Rattle.std.specs.Ordering.{nat_cmp}
use Rattle.std.specs.BTreeMap.{BTreeMap, get}
use Rattle.std.specs.FinMap as tables
use Rattle.std.specs.FinMap.{FinMap}
use Rattle.addr4.specs.Prefixes.{AddressPrefix, prefix_cmp}
use Rattle.bgp_attr.specs.Attributes.{Attrs}
use Rattle.bgp_attr.specs.Routes.{Route}
use Rattle.link_change.specs.Rows.{Rows, Candidates, no_rows}
use Rattle.policy_rules.specs.Rules.{Rule}
use Rattle.pass_core.specs.Passed.{present}
use Rattle.journal_text.specs.Links.{owner_of}
use Rattle.journal_text.specs.Walk.{Links}
use Rattle.journal_text.specs.declared.link.Link.{Link}
use Rattle.journal_text.specs.declared.link.Link.TheVariants.{In, Filt}
use Rattle.journal_text.specs.declared.link.Task.{Task}
use Rattle.journal_text.specs.declared.link.Task.TheVariants.{Del, Fin, Nh, Out, Ref}
use Rattle.journal_text.specs.Lines.{Entry}
use Rattle.journal_text.specs.declared.entry.Entry.TheVariants.{Begin}
use Rattle.journal_text.specs.Lines.{Value}
use Rattle.loss_chain.specs.Tables.{NoneEmpty, OneEmptyAtMost, lost_count}
use Rattle.in_chain.specs.Chains.{Chained, links_of, filt_rows, candidates_of, row_count, turns_left, IsChain}
use Rattle.in_chain.specs.Incomings.{overdue_of}
use Rattle.in_chain.specs.Steps.{has_turn, chain_lags}

abbrev pub Chains : Type 0
Chains = FinMap nat_cmp Chained

-- the chain of a peer
abbrev pub chain_at : ℕ → Chains → Option Chained
chain_at k a = tables.get a k

-- with this chain for a peer
abbrev pub put_chain : ℕ → Chained → Chains → Chains
put_chain k c a = tables.insert a k c

-- ---- links
abbrev pub links_by : Option Chained → Links Value
links_by None link = None
links_by (Some c) link = links_of c link

-- the live links of all chains
abbrev pub peer_links : Chains → Links Value
peer_links a link = links_by (chain_at (owner_of link) a) link

abbrev pub candidates_by : Option Chained → Link → Candidates
candidates_by None link q = false
candidates_by (Some c) link q = candidates_of c link q

-- where walks and lists of a link's rows go
abbrev pub peer_candidates : Chains → Link → Candidates
peer_candidates a link = candidates_by (chain_at (owner_of link) a) link

abbrev pub filt_by : Option Chained → Rows Route
filt_by None = no_rows
filt_by (Some c) = filt_rows c

-- the rows of `filt.K`
abbrev pub filt_at : Chains → ℕ → Rows Route
filt_at a k = filt_by (chain_at k a)

-- what is written where a peer's links begin
abbrev pub begin_entries : ℕ → List (Entry Value)
begin_entries k = Begin (In k) ∷ Begin (Filt k) ∷ []

-- ---- what the events alone make of a chain
-- what is live in it
abbrev pub routes_of : Option Chained → FinMap prefix_cmp Attrs
routes_of None = tables.empty
routes_of (Some c) = c.incoming.tables.live

-- the latest rules of its filter
abbrev pub rules_of : Option Chained → List Rule
rules_of None = []
rules_of (Some c) = present c.filter

-- ---- what holds between two calls
-- A chain stands under its peer's number; its lost tables are apart from each other and from the live routes, none is empty, and at
-- most 16 stand.
pub record IsPeer (k : ℕ) (c : Chained) : Type 0 where
  pub number : c.incoming.number ≡ k
  pub chain : IsChain c
  pub full : NoneEmpty c.incoming.tables.deletions
  pub few : length c.incoming.tables.deletions ≤ 16

abbrev pub IsPeers : Chains → Type 0
IsPeers a = (k : ℕ) (c : Chained) → chain_at k a ≡ Some c → IsPeer k c

-- ---- what holds between a fall and its weld
-- a chain of which a fall emptied one stage at most
pub record IsFallen (k : ℕ) (c : Chained) : Type 0 where
  pub number : c.incoming.number ≡ k
  pub chain : IsChain c
  pub one_empty : OneEmptyAtMost c.incoming.tables.deletions
  pub few : length c.incoming.tables.deletions ≤ 16

-- the fall was in the chain of peer k, and the other chains stand
pub record IsPeersBut (k : ℕ) (a : Chains) : Type 0 where
  pub own : (c : Chained) → chain_at k a ≡ Some c → IsFallen k c
  pub others : (j : ℕ) (c : Chained) → (j == k) ≡ false → chain_at j a ≡ Some c → IsPeer j c

-- the lost sessions of a chain are earlier than this one
abbrev pub AreBefore : ℕ → Chained → Type 0
AreBefore s c = AllByRecursion (λ d. d.number < s) c.incoming.tables.deletions

-- ---- tasks
-- the peer whose task it is
abbrev pub peer_of : Task → ℕ
peer_of (Del k s) = k
peer_of (Fin k) = k
peer_of (Nh k) = k
peer_of (Out k) = k
peer_of (Ref k) = k
peer_of other = 0

abbrev pub has_turn_in : Task → Option Chained → Bool
has_turn_in task None = false
has_turn_in task (Some c) = has_turn c task

-- whether a task of a peer has work
abbrev pub has_peer_work : Chains → Task → Bool
has_peer_work a task = has_turn_in task (chain_at (peer_of task) a)

abbrev pub lags_in : Task → Option Chained → AddressPrefix → Bool
lags_in task None p = false
lags_in task (Some c) p = chain_lags c task p

-- whether a task of a peer holds up a prefix
abbrev pub peer_lags : Chains → Task → AddressPrefix → Bool
peer_lags a task = lags_in task (chain_at (peer_of task) a)

-- the deletion stages of a chain, the earliest session first
abbrev pub chain_tasks : Chained → List Task
chain_tasks c = map (λ d. Del c.incoming.number d.number) c.incoming.tables.deletions

-- all deletion stages, by peer, then session
abbrev pub deletion_tasks : Chains → List Task
deletion_tasks a = flat_map chain_tasks (tables.values a)

-- the filters' walks, by peer
abbrev pub filter_tasks : Chains → List Task
filter_tasks a = map (λ c. Fin c.incoming.number) (tables.values a)

-- the first stage that holds up a prefix, and the first walk
abbrev pub first_lost : AddressPrefix → List Chained → Option Task
first_lost p [] = None
first_lost p (c ∷ cs) = option_or (find (λ task. chain_lags c task p) (chain_tasks c)) (first_lost p cs)

-- in each chain at most so many stages stand
abbrev pub HaveFew : BTreeMap ℕ Chained → Type 0
HaveFew m = (k : ℕ) (c : Chained) → get nat_cmp m k ≡ Some c → length c.incoming.tables.deletions ≤ 16

abbrev pub first_walking : AddressPrefix → List Chained → Option Task
first_walking p [] = None
first_walking p (c ∷ cs) = if chain_lags c (Fin c.incoming.number) p then Some (Fin c.incoming.number) else first_walking p cs

-- the walk of the first filter that has one
abbrev pub first_walk : List Chained → Option Task
first_walk [] = None
first_walk (c ∷ cs) = if is_some c.filter.walk then Some (Fin c.incoming.number) else first_walk cs

abbrev pub overdue_by : Option Chained → Option Task
overdue_by None = None
overdue_by (Some c) = overdue_of c.incoming

-- the stage of a peer that has to go before a session of it may be lost
abbrev pub overdue_at : ℕ → Chains → Option Task
overdue_at k a = overdue_by (chain_at k a)

-- ---- counts
abbrev pub lost_of : Chained → ℕ
lost_of c = lost_count c.incoming.tables.deletions

-- how many rows all `in.K` have
abbrev pub rows_in : Chains → ℕ
rows_in a = sum_by row_count (tables.values a)

-- how many of them are of lost sessions
abbrev pub lost_in : Chains → ℕ
lost_in a = sum_by lost_of (tables.values a)

-- how many turns the walks of all filters take
abbrev pub left_in : Chains → ℕ
left_in a = sum_by turns_left (tables.values a)
