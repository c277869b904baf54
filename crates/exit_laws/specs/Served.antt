-- What a peer is told that asks for all routes again (RFC 2918): since then, each row of its `adv.J.S` is announced once more, or the walk of
-- the refresh has yet to come to it.
use Rattle.std.specs.Prelude.{◌≡◌, ◌≢◌, ◌⊎◌, ℕ, false, List, [], ◌++◌, Option, Some, None}
use Rattle.std.specs.FinMap as tables
use Rattle.addr4.specs.Prefixes.{AddressPrefix}
use Rattle.addr4.specs.Places.{IsBeyond}
use Rattle.bgp_attr.specs.Attributes.{Attrs}
use Rattle.bgp_attr.specs.Routes.{Route}
use Rattle.bgp_attr.specs.Speakers.{Speaker}
use Rattle.bgp_attr.specs.declared.speaker.Neighbour.{Neighbour}
use Rattle.link_change.specs.Rows.{Rows, Candidates}
use Rattle.link_change.specs.Changes.{Change}
use Rattle.policy_rules.specs.Rules.{Rule}
use Rattle.journal_text.specs.Lines.{Entry}
use Rattle.journal_text.specs.Lines.{Line}
use Rattle.journal_text.specs.Lines.{Value}
use Rattle.out_chain.specs.Chains.{OutChained}
use Rattle.exit_side.specs.Exits.{Exited, chain_at, IsExits, refreshed_exits, has_refresh}
use Rattle.exit_side.specs.Steps.{BeginsExit, EndsExit, EditsExit, TurnsExit, ResendsExit}
use Rattle.live_state.specs.Refreshes.{IsAnnounced}
use Rattle.exit_laws.specs.Views.{views_of}

-- ---- the lines since
-- the walk of a refresh has yet to come to the prefix
abbrev pub LiesAhead : Option (Option AddressPrefix) → AddressPrefix → Type 0
LiesAhead None p = ⊥
LiesAhead (Some place) p = IsBeyond place p

-- Each row that was sent is announced in the lines since the refresh, or the walk has yet to come to it.
abbrev pub IsToldAgain : ℕ → OutChained → List Line → Type 0
IsToldAgain j c since =
    (p : AddressPrefix) (attrs : Attrs) → tables.get c.sent p ≡ Some attrs
    → LiesAhead c.refresh p ⊎ IsAnnounced c.exit.profile c.exit.external j since p attrs

-- so it is in session s of peer j, if this is up
abbrev pub IsServed : ℕ → ℕ → Exited → List Line → Type 0
IsServed j s e since = (c : OutChained) → chain_at j e ≡ Some c → c.session ≡ s → IsToldAgain j c since

-- ---- a refresh
-- A peer that asks for all routes is served from now on, whatever it was told before.
abbrev pub ServingBegins : Type 0
ServingBegins = (j s : ℕ) (e : Exited) → IsServed j s (refreshed_exits j e) []

-- Where no walk is on, each row that was sent is announced in the lines since: all that the peer has.
abbrev pub ServingEnds : Type 0
ServingEnds =
    (j : ℕ) (e : Exited) (since : List Line) (c : OutChained) → chain_at j e ≡ Some c → IsServed j c.session e since → has_refresh e j ≡ false
    → (p : AddressPrefix) (attrs : Attrs) → tables.get (views_of e j) p ≡ Some attrs → IsAnnounced c.exit.profile c.exit.external j since p attrs

-- ---- steps
-- whoever was served is served on, with these lines among those since
abbrev pub ServesOn : Exited → List Line → Exited → Type 0
ServesOn e said e' = (j s : ℕ) (since : List Line) → IsServed j s e since → IsServed j s e' (since ++ said)

-- A turn of an exit says each change in its own message;
abbrev pub TurnServes : Type 0
TurnServes =
    (k : ℕ) (candidates : Candidates) (best : Rows Route) (sent : Option (Change Attrs)) (e e' : Exited) (said : List Line) → IsExits e
    → TurnsExit k candidates best sent e e' said → ServesOn e said e'

-- a turn of the walk announces the row to which it goes;
abbrev pub ResendServes : Type 0
ResendServes = (k : ℕ) (e e' : Exited) (said : List Line) → IsExits e → ResendsExit k e e' said → ServesOn e said e'

-- a further refresh begins the walk anew, and new rules leave it, whatever is said;
abbrev pub RefreshServes : Type 0
RefreshServes = (k : ℕ) (e : Exited) (said : List Line) → ServesOn e said (refreshed_exits k e)

abbrev pub EditServes : Type 0
EditServes = (k : ℕ) (rules : List Rule) (e e' : Exited) (said : List Line) → EditsExit k rules e e' → ServesOn e said e'

-- where the chains stay, so does it;
abbrev pub OthersServe : Type 0
OthersServe = (e e' : Exited) (said : List Line) → e'.chains ≡ e.chains → ServesOn e said e'

-- where a session ends nothing is left to be served, and where one begins, it is another one.
abbrev pub EndServes : Type 0
EndServes = (k : ℕ) (e e' : Exited) (entries : List (Entry Value)) (said : List Line) → EndsExit k e e' entries → ServesOn e said e'

abbrev pub BeginServes : Type 0
BeginServes =
    (me : Speaker) (peer : Neighbour) (session : ℕ) (rules : List Rule) (e e' : Exited) (entries : List (Entry Value)) (said : List Line)
    → BeginsExit me peer session rules e e' entries → (j s : ℕ) (since : List Line) → (peer.number ≡ j → session ≢ s) → IsServed j s e since
    → IsServed j s e' (since ++ said)
