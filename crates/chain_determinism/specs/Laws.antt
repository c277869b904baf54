-- Laws of the peers' chains and of the tree of interior routes: what their steps do leaves no choice.
use Rattle.std.specs.Prelude.{◌≡◌, ℕ, true, List, Option, Some}
use Rattle.std.specs.FinMap as map
use Rattle.std.specs.FinMap.{FinMap}
use Rattle.addr4.specs.Prefixes.{AddressPrefix, prefix_cmp}
use Rattle.bgp_attr.specs.Attributes.{Attrs}
use Rattle.bgp_attr.specs.Routes.{Route}
use Rattle.link_change.specs.Rows.{Rows}
use Rattle.link_change.specs.Changes.{IsSent}
use Rattle.link_change.specs.Changes.{Change}
use Rattle.policy_rules.specs.Rules.{Rule}
use Rattle.journal_text.specs.Walk.{Links, Leads}
use Rattle.journal_text.specs.Falls.{GoesDown}
use Rattle.journal_text.specs.declared.link.Link.{Link}
use Rattle.journal_text.specs.declared.link.Task.{Task}
use Rattle.journal_text.specs.Lines.{Entry}
use Rattle.journal_text.specs.Lines.{Value}
use Rattle.loss_chain.specs.Covering.{IsLeastRow}
use Rattle.loss_chain.specs.Lost.{Lost}
use Rattle.loss_chain.specs.Steps.{table_of}
use Rattle.in_chain.specs.Chains.{Chained, IsChain}
use Rattle.in_chain.specs.Falls.{way_of_feed, way_of_sweep}
use Rattle.peer_side.specs.Peers.{Chains, IsPeers, has_peer_work}
use Rattle.peer_side.specs.Steps.{FeedsInward, LosesInward, WeldsInward, EditsInward, TakesInward}
use Rattle.rib_route.specs.declared.Proto.{Proto}
use Rattle.rib_route.specs.Rows.{Interior}
use Rattle.rib_tree.specs.Trees.{Treed, IsTree, int_rows}
use Rattle.rib_tree.specs.Falls.{FallsTree, way_of_route, way_of_sweep as way_of_loss}
use Rattle.chain_determinism.specs.Fronts.{IsFront, AreDifferent}

-- ---- falls, over any links
-- Changes at a prefix on the first of some links that are all different are one, where they lead from the same rows to the same.
abbrev pub FrontIsOne : Type 0
FrontIsOne =
    (p : AddressPrefix) (way : List Link) (old new : Links Value) (one other : List (Entry Value)) → AreDifferent way
    → IsFront p way one → IsFront p way other → Leads old one new → Leads old other new → one ≡ other

-- So is what goes down such a way, whatever comes out at its end.
abbrev pub FallIsOne : Type 0 → Type 0
FallIsOne R =
    (p : AddressPrefix) (way : List Link) (old new : Links Value) (sent other_sent : Option (Change R)) (one other : List (Entry Value)) → AreDifferent way
    → GoesDown p way sent one → GoesDown p way other_sent other → Leads old one new → Leads old other new → one ≡ other

-- ---- the ways
-- No way down a chain passes a link twice,
abbrev pub FeedsPassOnce : Type 0
FeedsPassOnce = (c : Chained) → IsChain c → AreDifferent (way_of_feed c.incoming)

abbrev pub SweepsPassOnce : Type 0
SweepsPassOnce = (session : ℕ) (c : Chained) → IsChain c → AreDifferent (way_of_sweep session c.incoming)

-- and none down the tree.
abbrev pub RoutesPassOnce : Type 0
RoutesPassOnce = (proto : Proto) (t : Treed) → IsTree t → AreDifferent (way_of_route proto t)

abbrev pub LossesPassOnce : Type 0
LossesPassOnce = (proto : Proto) (n : ℕ) (t : Treed) → IsTree t → AreDifferent (way_of_loss proto n t)

-- ---- the rows of stages
-- The least row of a table is one: where it stands, and what it is.
abbrev pub LeastRowIsOne : Type 0 → Type 0
LeastRowIsOne R = (rows : Rows R) (p q : AddressPrefix) (one other : Option R) → IsLeastRow rows p one → IsLeastRow rows q other → (p ≡ q) × (one ≡ other)

-- So the row that a turn of the stage of a loss takes is one.
abbrev pub StageRowIsOne : Type 0 → Type 0
StageRowIsOne R =
    (number : ℕ) (ds : List (Lost R)) (table other_table : FinMap prefix_cmp R) (p q : AddressPrefix) (row other_row : R)
    → table_of number ds ≡ Some table → table_of number ds ≡ Some other_table → IsLeastRow (map.get table) p (Some row) → IsLeastRow (map.get other_table) q (Some other_row)
    → (table ≡ other_table) × (p ≡ q) × (row ≡ other_row)

-- ---- the peers' chains
-- A prefix that is announced or withdrawn leaves no choice: what comes out, the chains after it, and the entries.
abbrev pub FeedIsOne : Type 0
FeedIsOne =
    (k : ℕ) (p : AddressPrefix) (row : Option Attrs) (sent other_sent : Option (Change Route)) (a one other : Chains) (entries other_entries : List (Entry Value)) → IsPeers a
    → FeedsInward k p row sent a one entries → FeedsInward k p row other_sent a other other_entries
    → (sent ≡ other_sent) × (one ≡ other) × (entries ≡ other_entries)

-- Nor does a turn of a task of a peer.
abbrev pub TurnIsOne : Type 0
TurnIsOne =
    (task : Task) (sent other_sent : Option (Change Route)) (a one other : Chains) (entries other_entries : List (Entry Value)) → IsPeers a
    → TakesInward task sent a one entries → TakesInward task other_sent a other other_entries
    → (sent ≡ other_sent) × (one ≡ other) × (entries ≡ other_entries)

-- Nor does the weld of the stage that a fall emptied,
abbrev pub WeldIsOne : Type 0
WeldIsOne =
    (k : ℕ) (a one other : Chains) (entries other_entries : List (Entry Value)) → WeldsInward k a one entries → WeldsInward k a other other_entries
    → (one ≡ other) × (entries ≡ other_entries)

-- nor the loss of a session,
abbrev pub LossIsOne : Type 0
LossIsOne =
    (k s : ℕ) (a one other : Chains) (entries other_entries : List (Entry Value)) → LosesInward k s a one entries → LosesInward k s a other other_entries
    → (one ≡ other) × (entries ≡ other_entries)

-- nor an edit of the filter.
abbrev pub EditIsOne : Type 0
EditIsOne = (k : ℕ) (rules : List Rule) (a one other : Chains) → EditsInward k rules a one → EditsInward k rules a other → one ≡ other

-- A turn is one of a task that has work.
abbrev pub TurnsHaveWork : Type 0
TurnsHaveWork =
    (task : Task) (sent : Option (Change Route)) (a a' : Chains) (entries : List (Entry Value)) → TakesInward task sent a a' entries → has_peer_work a task ≡ true

-- ---- the tree of interior routes
-- What a change of a route sends down the tree to `int` is one, and so are its entries,
abbrev pub RouteFallIsOne : Type 0
RouteFallIsOne =
    (proto : Proto) (p : AddressPrefix) (old new : Treed) (sent other_sent : Option (Change Interior)) (entries other_entries : List (Entry Value)) → IsTree old
    → FallsTree old new p (way_of_route proto old) sent entries → IsSent (int_rows old) (int_rows new) p sent
    → FallsTree old new p (way_of_route proto old) other_sent other_entries → IsSent (int_rows old) (int_rows new) p other_sent
    → (sent ≡ other_sent) × (entries ≡ other_entries)

-- and the same of a row that the stage of a loss takes.
abbrev pub LossFallIsOne : Type 0
LossFallIsOne =
    (proto : Proto) (n : ℕ) (p : AddressPrefix) (old new : Treed) (sent other_sent : Option (Change Interior)) (entries other_entries : List (Entry Value)) → IsTree old
    → FallsTree old new p (way_of_loss proto n old) sent entries → IsSent (int_rows old) (int_rows new) p sent
    → FallsTree old new p (way_of_loss proto n old) other_sent other_entries → IsSent (int_rows old) (int_rows new) p other_sent
    → (sent ≡ other_sent) × (entries ≡ other_entries)
