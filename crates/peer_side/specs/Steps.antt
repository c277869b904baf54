-- What each call makes of the peers' chains, and what it keeps.
use Rattle.std.specs.Prelude.{◌≡◌, ℕ, ◌+◌, ◌<◌, ◌≤◌, ◌==◌, false, List, Option, Some, None}
use Rattle.addr4.specs.Prefixes.{AddressPrefix}
use Rattle.bgp_attr.specs.Attributes.{Attrs}
use Rattle.bgp_attr.specs.Routes.{Route}
use Rattle.link_change.specs.Changes.{IsSent}
use Rattle.link_change.specs.Changes.{Change}
use Rattle.link_change.specs.Turns.{Turn}
use Rattle.link_change.specs.declared.turn.Turn.TheVariants.{Nothing, Quiet, Sent}
use Rattle.policy_rules.specs.Rules.{Rule}
use Rattle.pass_core.specs.Passed.{present}
use Rattle.journal_text.specs.declared.link.Link.TheVariants.{In}
use Rattle.journal_text.specs.declared.link.Task.{Task}
use Rattle.journal_text.specs.declared.link.Task.TheVariants.{Del, Fin}
use Rattle.journal_text.specs.Lines.{Entry}
use Rattle.journal_text.specs.Lines.{Value}
use Rattle.journal_text.specs.Journals.{Journaled, Adds}
use Rattle.loss_chain.specs.declared.owner.Owner.TheVariants as owners
use Rattle.loss_chain.specs.Steps.{weld_entries}
use Rattle.in_chain.specs.Chains.{Chained, filt_rows}
use Rattle.in_chain.specs.Falls.{Falls, way_of_feed}
use Rattle.in_chain.specs.Incomings.{loss_entries, overdue_of}
use Rattle.in_chain.specs.Steps.{fed, lost, welded, refiltered, Turned}
use Rattle.link_region.specs.declared.regions.Region.TheVariants.{Inward}
use Rattle.link_region.specs.Regions.{LeadsIn}
use Rattle.peer_side.specs.Peers.{Chains, chain_at, put_chain, peer_links, filt_at, IsPeers, IsPeersBut, AreBefore, peer_of, has_peer_work, lost_in, left_in}

-- ---- what each call does
-- the weld of the stage of a chain that a fall emptied, if any
abbrev pub chain_weld_entries : Chained → List (Entry Value)
chain_weld_entries c = weld_entries (owners.Peer c.incoming.number) (In c.incoming.number) c.incoming.tables.deletions

-- One prefix is announced or withdrawn in the chain of peer k: the fall down to `filt.K`.
pub record FeedsPeer (k : ℕ) (p : AddressPrefix) (row : Option Attrs) (sent : Option (Change Route)) (a a' : Chains) (entries : List (Entry Value)) : Type 0 where
  pub chain : Chained
  pub at : chain_at k a ≡ Some chain
  pub falls : Falls chain (fed chain p row) p (way_of_feed chain.incoming) sent entries
  pub rows : IsSent (filt_rows chain) (filt_rows (fed chain p row)) p sent
  pub after : a' ≡ put_chain k (fed chain p row) a

-- The stage of the chain of peer k that a fall emptied goes, if there is one.
pub record WeldsPeer (k : ℕ) (a a' : Chains) (entries : List (Entry Value)) : Type 0 where
  pub chain : Chained
  pub at : chain_at k a ≡ Some chain
  pub lines : entries ≡ chain_weld_entries chain
  pub after : a' ≡ put_chain k (welded chain) a

-- Session s of peer k is lost: its routes, if there are any, go to a stage of their own.
pub record LosesPeer (k s : ℕ) (a a' : Chains) (entries : List (Entry Value)) : Type 0 where
  pub chain : Chained
  pub at : chain_at k a ≡ Some chain
  pub lines : entries ≡ loss_entries s chain.incoming
  pub after : a' ≡ put_chain k (lost s chain) a

-- The incoming filter of peer k has these rules from now on; they hold nowhere yet.
pub record EditsPeer (k : ℕ) (rules : List Rule) (a a' : Chains) : Type 0 where
  pub chain : Chained
  pub at : chain_at k a ≡ Some chain
  pub after : a' ≡ put_chain k (refiltered rules chain) a

-- One turn of a task of a peer: of the deletion stage of a session, or of the walk of a filter.
pub record TurnsPeer (task : Task) (sent : Option (Change Route)) (a a' : Chains) (entries : List (Entry Value)) : Type 0 where
  pub chain : Chained
  pub at : chain_at (peer_of task) a ≡ Some chain
  pub turned_chain : Chained
  pub turned : Turned chain turned_chain task sent entries
  pub after : a' ≡ put_chain (peer_of task) turned_chain a

-- session s of peer k may be lost
pub record MayLose (k s : ℕ) (a : Chains) : Type 0 where
  pub chain : Chained
  pub at : chain_at k a ≡ Some chain
  pub room : overdue_of chain.incoming ≡ None
  pub later : AreBefore s chain

-- ---- what each call keeps
-- whatever the other regions have, the entries lead from the old links to the new ones
pub record StepsInward (a a' : Chains) (entries : List (Entry Value)) : Type 0 where
  pub leads : LeadsIn Inward (peer_links a) entries (peer_links a')
  pub sound : IsPeers a'

-- a fall in the chain of peer k, which may leave a stage to be welded
pub record FallsInward (k : ℕ) (a a' : Chains) (entries : List (Entry Value)) : Type 0 where
  pub leads : LeadsIn Inward (peer_links a) entries (peer_links a')
  pub sound : IsPeersBut k a'

-- a change, if there is one, came out on `filt.K` of peer k at a prefix; the rows of every other `filt.K` stay
pub record Changes (k : ℕ) (p : AddressPrefix) (sent : Option (Change Route)) (a a' : Chains) : Type 0 where
  pub rows : IsSent (filt_at a k) (filt_at a' k) p sent
  pub others : (j : ℕ) → (j == k) ≡ false → filt_at a' j ≡ filt_at a j

pub record FeedsInward (k : ℕ) (p : AddressPrefix) (row : Option Attrs) (sent : Option (Change Route)) (a a' : Chains) (entries : List (Entry Value)) : Type 0 where
  pub feeds : FeedsPeer k p row sent a a' entries
  pub fall : FallsInward k a a' entries
  pub changes : Changes k p sent a a'
  pub before : (s : ℕ) → AreBefore s feeds.chain → AreBefore s (fed feeds.chain p row)

pub record LosesInward (k s : ℕ) (a a' : Chains) (entries : List (Entry Value)) : Type 0 where
  pub loses : LosesPeer k s a a' entries
  pub step : StepsInward a a' entries
  pub quiet : (j : ℕ) → filt_at a' j ≡ filt_at a j
  pub before : AreBefore (s + 1) (lost s loses.chain)

pub record EditsInward (k : ℕ) (rules : List Rule) (a a' : Chains) : Type 0 where
  pub edits : EditsPeer k rules a a'
  pub links : peer_links a' ≡ peer_links a
  pub quiet : (j : ℕ) → filt_at a' j ≡ filt_at a j
  pub sound : IsPeers a'

-- What a turn leaves of a chain: whose it is, what is live, the latest rules; and that the lost sessions are earlier than one.
pub record Leaves (c c' : Chained) : Type 0 where
  pub me : c'.me ≡ c.me
  pub peer : c'.peer ≡ c.peer
  pub live : c'.incoming.tables.live ≡ c.incoming.tables.live
  pub rules : present c'.filter ≡ present c.filter
  pub before : (s : ℕ) → AreBefore s c → AreBefore s c'

-- a turn brings the end of its task nearer: fewer rows are lost, or fewer turns of walks are left
abbrev pub Nears : Task → Chains → Chains → Type 0
Nears (Del k s) a a' = (lost_in a' + 1 ≡ lost_in a) × (left_in a' ≤ left_in a)
Nears (Fin k) a a' = (lost_in a' ≡ lost_in a) × (left_in a' < left_in a)
Nears other a a' = ⊥

-- A weld is a quiet step: no row of `filt.K` changes, and no task has more to do.
pub record WeldsInward (k : ℕ) (a a' : Chains) (entries : List (Entry Value)) : Type 0 where
  pub welds : WeldsPeer k a a' entries
  pub step : StepsInward a a' entries
  pub quiet : (j : ℕ) → filt_at a' j ≡ filt_at a j
  pub before : (s : ℕ) → AreBefore s welds.chain → AreBefore s (welded welds.chain)
  pub lost : lost_in a' ≡ lost_in a
  pub left : left_in a' ≤ left_in a

pub record TakesInward (task : Task) (sent : Option (Change Route)) (a a' : Chains) (entries : List (Entry Value)) : Type 0 where
  pub turn : TurnsPeer task sent a a' entries
  pub fall : FallsInward (peer_of task) a a' entries
  pub changes : (p : AddressPrefix) × Changes (peer_of task) p sent a a'
  pub leaves : Leaves turn.chain turn.turned_chain
  pub nearer : Nears task a a'

-- what a turn came to
abbrev pub ComesInward : Task → Chains → Chains → Journaled → Journaled → Turn Route → Type 0
ComesInward task a a' before now Nothing = (has_peer_work a task ≡ false) × (a' ≡ a) × (now ≡ before)
ComesInward task a a' before now Quiet = Adds (TakesInward task None a a') before now
ComesInward task a a' before now (Sent change) = Adds (TakesInward task (Some change) a a') before now
