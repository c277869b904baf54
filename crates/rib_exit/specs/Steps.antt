-- What each call makes of the RIB's exit, and what it keeps.
use Rattle.std.specs.Prelude.{◌≡◌, ◌⊎◌, ℕ, ◌+◌, ◌≤◌, false, List, [], ◌∷◌, Option, Some, None}
use Rattle.std.specs.Option.{option_or}
use Rattle.addr4.specs.Prefixes.{AddressPrefix}
use Rattle.bgp_attr.specs.Routes.{Route}
use Rattle.link_change.specs.Rows.{Rows}
use Rattle.link_change.specs.Changes.{IsSent}
use Rattle.link_change.specs.Changes.{Change}
use Rattle.link_change.specs.Turns.{Turn}
use Rattle.link_change.specs.declared.turn.Turn.TheVariants.{Nothing, Quiet, Sent}
use Rattle.rib_route.specs.Rows.{Interior}
use Rattle.rib_route.specs.Rows.{External}
use Rattle.rib_route.specs.Rows.{FibRow}
use Rattle.register_interest.specs.Interests.{Interest}
use Rattle.register_interest.specs.Interests.{without}
use Rattle.register_interest.specs.Registers.{Registry, KeepsAnswers, AllStand as MatchesStand}
use Rattle.nexthop_known.specs.Hops.{Hop}
use Rattle.pass_core.specs.Left.{CountsBeyond}
use Rattle.nexthop_resolver.specs.Ways.{Way}
use Rattle.nexthop_resolver.specs.Kept.{external_hop, over, way_of}
use Rattle.nexthop_resolver.specs.Registered.{KeepsOthers, told_of}
use Rattle.nexthop_resolver.specs.Takes.{Keeps, Invalidates}
use Rattle.nexthop_resolver.specs.Reached.{reached_hop as hop_reached, IsReached}
use Rattle.nexthop_resolver.specs.Turns.{Turned}
use Rattle.rib_split.specs.Splits.{Split}
use Rattle.rib_split.specs.declared.split.Split.TheVariants.{Neither, One, Moved}
use Rattle.rib_split.specs.Splitting.{Parted, split_rows, first_on, Splits}
use Rattle.rib_split.specs.Laws.{merged_links}
use Rattle.journal_text.specs.declared.link.Link.TheVariants.{Ebgp, Ibgp, Ext, Fib}
use Rattle.journal_text.specs.Lines.{Entry}
use Rattle.journal_text.specs.declared.entry.Entry.TheVariants.{Begin}
use Rattle.journal_text.specs.Lines.{Value}
use Rattle.journal_text.specs.Walk.{Links, Leads}
use Rattle.journal_text.specs.Journals.{Journaled, Adds}
use Rattle.journal_text.specs.Values.{fib_value, sent_entries}
use Rattle.rib_exit.specs.RibExits.{RibExit}
use Rattle.rib_exit.specs.Exits.{ext_rows, ext_candidates, fib_over, exit_links, beside, IsExit, AgreesWith, StandsOver, has_ext_work, known_in, left_in}
use Rattle.rib_exit.specs.Passing.{Caused, fall_entries}

-- ---- what a step leads to
-- Whatever other links there are, the entries lead by the rules of the journal from the old four links to the new ones.
abbrev pub LeadsExit : Links Value → List (Entry Value) → Links Value → Type 0
LeadsExit old entries new = (others : Links Value) → Leads (beside others old) entries (beside others new)

-- the entry of what comes out on `fib`
abbrev pub fib_entries : Option (Change FibRow) → List (Entry Value)
fib_entries = sent_entries fib_value Fib

-- what is written where the four links begin
abbrev pub begin_entries : List (Entry Value)
begin_entries = Begin Ebgp ∷ Begin Ibgp ∷ Begin Ext ∷ Begin Fib ∷ []

-- what the exit and the register keep
pub record KeepsAgreed (was is : Registry Interior) (e' : RibExit) : Type 0 where
  pub sound : IsExit e'
  pub agree : AgreesWith e' is
  pub others : KeepsOthers 0 was is
  pub stands : MatchesStand is

-- ---- what a change of the best routes makes
-- What each part of it causes on `ext`: nothing, or the change of the merged rows, as the two links are before the part and after it.
abbrev pub CausesOn : AddressPrefix → Split → Option (Change External) → Option (Change External) → Parted → Parted → Type 0
CausesOn p Neither first second old new = (first ≡ None) × (second ≡ None)
CausesOn p (One link change) first second old new = IsSent (merged_links old) (merged_links new) p first × (second ≡ None)
CausesOn p (Moved link add delete) first second old new =
    IsSent (merged_links old) (merged_links (first_on link old new)) p first × IsSent (merged_links (first_on link old new)) (merged_links new) p second

-- From these best routes to those, beside these rows of `int`: what the splitter sends leads from their rows on `ebgp` and
-- `ibgp` to the new ones; each of the two parts causes what it does to `ext`, and only that a change of `fib`; both together
-- change `ext` and `fib` once at most; and the lines lead on.
pub record FallsOn (p : AddressPrefix) (int : Rows Interior) (split : Split) (first second : Caused) (was : Registry Interior) (e e' : RibExit) (entries : List (Entry Value)) (best now : Rows Route) : Type 0 where
  pub splits : Splits (split_rows best) (split_rows now) p split
  pub causes : CausesOn p split first.ext second.ext (split_rows best) (split_rows now)
  pub ext : IsSent (ext_rows e) (ext_rows e') p (option_or first.ext second.ext)
  pub fib : IsSent (fib_over e int) (fib_over e' int) p (option_or first.fib second.fib)
  pub once : (first.ext ≡ None) ⊎ (second.ext ≡ None)
  pub first_by : first.ext ≡ None → first.fib ≡ None
  pub second_by : second.ext ≡ None → second.fib ≡ None
  pub keeps : Keeps (told_of way_of was) e.forwarding e'.forwarding
  pub leads : LeadsExit (exit_links e int) entries (exit_links e' int)
  pub stands : StandsOver now e'

-- The splitter takes the change in; its parts go down one after the other.
pub record TakesExternal (change : Change Route) (int : Rows Interior) (sent : Option (Change FibRow)) (was is : Registry Interior) (e e' : RibExit) (entries : List (Entry Value)) : Type 0 where
  pub split : Split
  pub first : Caused
  pub second : Caused
  pub lines : entries ≡ fall_entries split first second
  pub comes : sent ≡ option_or first.fib second.fib
  pub agreed : KeepsAgreed was is e'
  pub goes : (best now : Rows Route) (p : AddressPrefix) → StandsOver best e → IsSent best now p (Some change) → FallsOn p int split first second was e e' entries best now

-- ---- what a change of the interior routes makes
-- from these rows of `int` to those
pub record FollowsOn (p : AddressPrefix) (sent : Option (Change FibRow)) (e : RibExit) (entries : List (Entry Value)) (int now : Rows Interior) : Type 0 where
  pub fib : IsSent (fib_over e int) (fib_over e now) p sent
  pub leads : LeadsExit (exit_links e int) entries (exit_links e now)

-- Nothing is kept of it: the rows of `fib` are those that the new rows of `int` make.
pub record TakesInterior (change : Change Interior) (sent : Option (Change FibRow)) (e : RibExit) (entries : List (Entry Value)) : Type 0 where
  pub lines : entries ≡ fib_entries sent
  pub goes : (int now : Rows Interior) (p : AddressPrefix) → IsSent int now p (Some change) → FollowsOn p sent e entries int now

-- ---- what a turn makes
-- The task takes a turn: a walk goes to its next candidate or ends, else the least stale next hop is asked for, else a walk
-- begins. What comes of the external rows comes together with these rows of `int`. Fewer turns are left, and as many next hops
-- are known.
pub record TurnsExit (int : Rows Interior) (sent : Option (Change FibRow)) (was is : Registry Interior) (e e' : RibExit) (entries : List (Entry Value)) : Type 0 where
  pub resolved : Option (Change FibRow)
  pub turned : Turned external_hop over (ext_candidates e) (ext_rows e) way_of was is e.forwarding e'.forwarding resolved
  pub rows : e'.splitter ≡ e.splitter
  pub lines : entries ≡ fib_entries sent
  pub fib : (p : AddressPrefix) × IsSent (fib_over e int) (fib_over e' int) p sent
  pub leads : LeadsExit (exit_links e int) entries (exit_links e' int)
  pub agreed : KeepsAgreed was is e'
  pub stands : (best : Rows Route) → StandsOver best e → StandsOver best e'
  pub fewer : (beyond : Option AddressPrefix → ℕ) → CountsBeyond (ext_candidates e) beyond → left_in beyond e' + 1 ≤ left_in beyond e
  pub known : known_in e' ≡ known_in e

-- what a turn came to
abbrev pub ComesOut : Rows Interior → Registry Interior → Registry Interior → RibExit → RibExit → Journaled → Journaled → Turn FibRow → Type 0
ComesOut int was is e e' before now Nothing = (has_ext_work e ≡ false) × (e' ≡ e) × (is ≡ was) × (now ≡ before)
ComesOut int was is e e' before now Quiet = Adds (TurnsExit int None was is e e') before now
ComesOut int was is e e' before now (Sent change) = Adds (TurnsExit int (Some change) was is e e') before now

-- ---- what interests make that the register gave up
-- an answer of the exit, stale where it came with one of these
abbrev pub reached_hop : List Interest → Hop Way → Hop Way
reached_hop out = hop_reached out 0

-- no row changes, whatever `int` has, and as many next hops are known
pub record StaysQuiet (e e' : RibExit) : Type 0 where
  pub rows : e'.splitter ≡ e.splitter
  pub fib : (int : Rows Interior) → fib_over e' int ≡ fib_over e int
  pub links : (int : Rows Interior) → exit_links e' int ≡ exit_links e int
  pub stands : (best : Rows Route) → StandsOver best e → StandsOver best e'
  pub known : known_in e' ≡ known_in e

-- The answers that came with one subnet are stale.
pub record Stales (subnet : AddressPrefix) (e e' : RibExit) : Type 0 where
  pub stale : Invalidates subnet e.forwarding e'.forwarding
  pub sound : IsExit e'
  pub stays : StaysQuiet e e'

-- Where the register gave these up with a change of the interior routes, and the exit agreed with it before, it does again.
pub record ReachesExit (out : List Interest) (e e' : RibExit) : Type 0 where
  pub reaches : IsReached out 0 e.forwarding e'.forwarding
  pub sound : IsExit e'
  pub stays : StaysQuiet e e'
  pub agree : (was is : Registry Interior) → AgreesWith e was → is.interests ≡ without was.interests out → KeepsAnswers was is → AgreesWith e' is
