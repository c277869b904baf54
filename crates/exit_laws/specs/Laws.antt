-- Laws of what peers hear, and of the lines that the exits say.
use Rattle.std.specs.Prelude.{◌≡◌, ℕ, ◌==◌, false, List, [], ◌++◌, Option, Some, None}
use Rattle.std.specs.List.{AllByRecursion}
use Rattle.std.specs.FinMap as tables
use Rattle.addr4.specs.Prefixes.{AddressPrefix}
use Rattle.bgp_attr.specs.Attributes.{Attrs}
use Rattle.bgp_attr.specs.Routes.{Route}
use Rattle.bgp_attr.specs.Speakers.{Speaker}
use Rattle.bgp_attr.specs.declared.speaker.Neighbour.{Neighbour}
use Rattle.bgp_attr.specs.declared.speaker.Profile.{Profile}
use Rattle.link_change.specs.Rows.{Rows, Candidates}
use Rattle.link_change.specs.Changes.{Change}
use Rattle.policy_rules.specs.Rules.{Rule}
use Rattle.fanout_queue.specs.Queues.{Queued, Takes}
use Rattle.fanout_queue.specs.Readers.{unread_by}
use Rattle.journal_text.specs.Names.{IsNamed}
use Rattle.journal_text.specs.Values.{attrs_rows, route_value, valued_change}
use Rattle.journal_text.specs.Walk.{Links, change_entries}
use Rattle.journal_text.specs.Lines.{Entry}
use Rattle.journal_text.specs.declared.link.Link.{Link}
use Rattle.journal_text.specs.declared.link.Link.TheVariants.{Adv}
use Rattle.journal_text.specs.Lines.{Line}
use Rattle.journal_text.specs.Lines.{Value}
use Rattle.journal_laws.specs.Printed.{Printing, IsPrinted}
use Rattle.journal_laws.specs.Peers.{neighbours, printing, KeepsPeers}
use Rattle.event_text.specs.Declarations.{Declaration}
use Rattle.link_region.specs.declared.regions.Region.{Region}
use Rattle.link_region.specs.declared.regions.Region.TheVariants.{Outward}
use Rattle.link_region.specs.Regions.{region_number, LeadsIn}
use Rattle.out_chain.specs.Chains.{OutChained}
use Rattle.exit_side.specs.Exits.{Exited, chain_at, with_queue, exit_links, IsExits, AllStand, refreshed_exits}
use Rattle.exit_side.specs.Steps.{BeginsExit, EndsExit, EditsExit, PutsExit, TurnsExit, ResendsExit}
use Rattle.live_state.specs.Lives.{with_routes}
use Rattle.live_state.specs.Heard.{Views, Hears}
use Rattle.exit_laws.specs.Views.{views_of, AreDeclared, AreUnheard, entry_lines}
use Rattle.exit_laws.specs.Printable.{AreBestRows, IsBestChange, ArePrintableExits}

-- ---- the walk
-- What is heard of some lines and then of others is heard of both, one after the other;
abbrev pub HearingJoins : Type 0
HearingJoins =
    (profile : Profile) (peers : ℕ → Option Neighbour) (a b c : Views) (xs ys : List Line) → Hears profile peers a xs b → Hears profile peers b ys c
    → Hears profile peers a (xs ++ ys) c

-- there is one thing alone to be heard of lines;
abbrev pub HearingIsOne : Type 0
HearingIsOne = (profile : Profile) (peers : ℕ → Option Neighbour) (v a b : Views) (lines : List Line) → Hears profile peers v lines a → Hears profile peers v lines b → a ≡ b

-- it is the same where more peers were declared since;
abbrev pub HearingStays : Type 0
HearingStays =
    (before now : Declaration) (v v' : Views) (lines : List Line) → KeepsPeers before now → Hears before.profile (neighbours before) v lines v'
    → Hears now.profile (neighbours now) v lines v'

-- and of lines by which nobody hears anything, nothing is heard.
abbrev pub NothingIsHeard : Type 0
NothingIsHeard = (profile : Profile) (peers : ℕ → Option Neighbour) (v : Views) (lines : List Line) → AreUnheard lines → Hears profile peers v lines v

-- Such are the lines of entries that lead the links of any other region on, whatever the peers' outgoing links are,
abbrev pub OthersAreUnheard : Type 0
OthersAreUnheard =
    (region : Region) (old new : Links Value) (entries : List (Entry Value)) → (region_number Outward == region_number region) ≡ false
    → LeadsIn region old entries new → AreUnheard (entry_lines entries)

-- and those of the change of a row, on any link.
abbrev pub ChangesAreUnheard : Type 0
ChangesAreUnheard =
    (link : Link) (p : AddressPrefix) (before after : Option Value) → AreUnheard (entry_lines (change_entries link p before after))

-- ---- the steps
-- What a peer that is up has heard are the rows of its `adv.J.S`.
abbrev pub HeardIsSent : Type 0
HeardIsSent =
    (e : Exited) (best : Rows Route) (j : ℕ) (c : OutChained) → IsExits e → chain_at j e ≡ Some c
    → exit_links e best (Adv j c.session) ≡ Some (attrs_rows (tables.get (views_of e j)))

-- Where a session begins, its peer has heard nothing yet;
abbrev pub BeginningIsHeard : Type 0
BeginningIsHeard =
    (profile : Profile) (peers : ℕ → Option Neighbour) (me : Speaker) (peer : Neighbour) (session : ℕ) (rules : List Rule) (e e' : Exited) (entries : List (Entry Value))
    → BeginsExit me peer session rules e e' entries → Hears profile peers (views_of e) (entry_lines entries) (views_of e')

-- where it ends, nothing is left of what it has heard;
abbrev pub EndIsHeard : Type 0
EndIsHeard =
    (profile : Profile) (peers : ℕ → Option Neighbour) (j : ℕ) (e e' : Exited) (entries : List (Entry Value)) → EndsExit j e e' entries
    → Hears profile peers (views_of e) (entry_lines entries) (views_of e')

-- and a turn of its exit leads from what it was sent before to what it was sent then, by the octets of the turn's lines.
abbrev pub TurnIsHeard : Type 0
TurnIsHeard =
    (profile : Profile) (peers : ℕ → Option Neighbour) (j : ℕ) (candidates : Candidates) (best : Rows Route) (sent : Option (Change Attrs)) (e e' : Exited) (said : List Line)
    → AreDeclared profile peers e → TurnsExit j candidates best sent e e' said → Hears profile peers (views_of e) said (views_of e')

-- The same of any views in which the peer has heard what it was sent: those of the others stay.
abbrev pub TurnIsHeardFrom : Type 0
TurnIsHeardFrom =
    (profile : Profile) (peers : ℕ → Option Neighbour) (j : ℕ) (candidates : Candidates) (best : Rows Route) (sent : Option (Change Attrs)) (e e' : Exited) (said : List Line) (v : Views)
    → AreDeclared profile peers e → (turn : TurnsExit j candidates best sent e e' said) → v j ≡ turn.chain.sent
    → Hears profile peers v said (with_routes v j turn.taken.sent)

-- New rules, and a change that joins the queue, leave what was sent.
abbrev pub EditKeepsViews : Type 0
EditKeepsViews = (j : ℕ) (rules : List Rule) (e e' : Exited) → EditsExit j rules e e' → views_of e' ≡ views_of e

abbrev pub PutKeepsViews : Type 0
PutKeepsViews = (change : Change Route) (e e' : Exited) → PutsExit change e e' → views_of e' ≡ views_of e

-- So do a refresh, and the turns of its walk:
abbrev pub RefreshKeepsViews : Type 0
RefreshKeepsViews = (j : ℕ) (e : Exited) → views_of (refreshed_exits j e) ≡ views_of e

abbrev pub ResendKeepsViews : Type 0
ResendKeepsViews = (j : ℕ) (e e' : Exited) (said : List Line) → ResendsExit j e e' said → views_of e' ≡ views_of e

-- what such a turn announces the peer has already, by the octets.
abbrev pub ResendIsHeard : Type 0
ResendIsHeard =
    (profile : Profile) (peers : ℕ → Option Neighbour) (j : ℕ) (best : Rows Route) (e e' : Exited) (said : List Line) → AreDeclared profile peers e → IsExits e → AllStand best e
    → ResendsExit j e e' said → Hears profile peers (views_of e) said (views_of e')

-- ---- what is printed
abbrev pub ArePrinted : Printing → List Line → Type 0
ArePrinted printing said = AllByRecursion (IsPrinted printing) said

-- the lines can be printed, and so can what stands in the exits then
pub record PrintsOn (profile : Profile) (printing : Printing) (e' : Exited) (said : List Line) : Type 0 where
  pub lines : ArePrinted printing said
  pub exits : ArePrintableExits profile printing e'

-- Where a session begins, whose links can be named; where it ends; and with each turn, where the rows of `best` can be printed:
abbrev pub BeginningIsPrinted : Type 0
BeginningIsPrinted =
    (profile : Profile) (printing : Printing) (me : Speaker) (peer : Neighbour) (session : ℕ) (rules : List Rule) (e e' : Exited) (entries : List (Entry Value))
    → IsNamed (Adv peer.number session) → ArePrintableExits profile printing e → BeginsExit me peer session rules e e' entries
    → PrintsOn profile printing e' (entry_lines entries)

abbrev pub EndIsPrinted : Type 0
EndIsPrinted =
    (profile : Profile) (printing : Printing) (j : ℕ) (e e' : Exited) (entries : List (Entry Value)) → ArePrintableExits profile printing e
    → EndsExit j e e' entries → PrintsOn profile printing e' (entry_lines entries)

abbrev pub TurnIsPrinted : Type 0
TurnIsPrinted =
    (profile : Profile) (printing : Printing) (j : ℕ) (candidates : Candidates) (best : Rows Route) (sent : Option (Change Attrs)) (e e' : Exited) (said : List Line)
    → e.profile ≡ profile → AreBestRows profile printing best → ArePrintableExits profile printing e
    → TurnsExit j candidates best sent e e' said → PrintsOn profile printing e' said

-- so it is with new rules,
abbrev pub EditIsPrinted : Type 0
EditIsPrinted =
    (profile : Profile) (printing : Printing) (j : ℕ) (rules : List Rule) (e e' : Exited) → ArePrintableExits profile printing e → EditsExit j rules e e'
    → ArePrintableExits profile printing e'

-- with a refresh, and a turn of its walk,
abbrev pub RefreshIsPrinted : Type 0
RefreshIsPrinted =
    (profile : Profile) (printing : Printing) (j : ℕ) (e : Exited) → ArePrintableExits profile printing e → ArePrintableExits profile printing (refreshed_exits j e)

abbrev pub ResendIsPrinted : Type 0
ResendIsPrinted =
    (profile : Profile) (printing : Printing) (j : ℕ) (best : Rows Route) (e e' : Exited) (said : List Line) → IsExits e → AllStand best e
    → ArePrintableExits profile printing e → ResendsExit j e e' said → PrintsOn profile printing e' said

-- with a change of such rows that joins the queue,
abbrev pub PutIsPrinted : Type 0
PutIsPrinted =
    (profile : Profile) (printing : Printing) (change : Change Route) (e e' : Exited) → IsBestChange profile printing change → ArePrintableExits profile printing e
    → PutsExit change e e' → ArePrintableExits profile printing e'

-- with a reader that is no peer's, who joins, or takes a change, whose entry can be printed,
abbrev pub JoinIsPrinted : Type 0
JoinIsPrinted =
    (profile : Profile) (printing : Printing) (reader : ℕ) (e : Exited) → ArePrintableExits profile printing e
    → ArePrintableExits profile printing (with_queue (tables.insert e.queue reader []) e)

abbrev pub TakeIsPrinted : Type 0
TakeIsPrinted =
    (profile : Profile) (printing : Printing) (link : Link) (reader : ℕ) (change : Change Route) (e : Exited) (queue : Queued Route) → IsNamed link
    → ArePrintableExits profile printing e
    → Takes e.queue queue reader (Some change) → PrintsOn profile printing (with_queue queue e) (entry_lines (valued_change route_value link change))

-- and where more peers were declared since.
abbrev pub PrintingStays : Type 0
PrintingStays =
    (profile : Profile) (before now : Declaration) (e : Exited) → KeepsPeers before now → ArePrintableExits profile (printing before) e
    → ArePrintableExits profile (printing now) e

-- Where no peer is up, and no reader has a change to take, all that stands in the exits can be printed, whatever the
-- profile of the network is.
abbrev pub EmptyIsPrinted : Type 0
EmptyIsPrinted =
    (profile : Profile) (printing : Printing) (e : Exited) → profile.second ≡ printing.v6 → ((j : ℕ) → chain_at j e ≡ None) → ((reader : ℕ) → unread_by e.queue reader ≡ [])
    → ArePrintableExits profile printing e
