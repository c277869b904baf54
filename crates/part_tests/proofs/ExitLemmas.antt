-- Steps of exits over rows of `best` that a cache keeps: what is claimed of both is kept.
use Rattle.std.proofs.Common.{◌≡◌, ◌≢◌, ℕ, Some, None, refl, sym, ap, subst, ◌∙◌}
use Rattle.std.specs.Option.{ForSome}
use Rattle.std.specs.FinMap as tables
use Rattle.std.specs.FinMap.{FinMap, get-empty}
use Rattle.addr4.specs.Prefixes.{AddressPrefix, prefix_cmp}
use Rattle.bgp_attr.specs.Attributes.{Attrs}
use Rattle.bgp_attr.specs.Routes.{Route}
use Rattle.bgp_attr.specs.declared.speaker.Profile.{Profile}
use Rattle.link_change.specs.Rows.{Rows, Candidates, with_row}
use Rattle.link_change.specs.Changes.{Change, IsSent}
use Rattle.link_change.specs.Turns.{Turn}
use Rattle.link_change.specs.declared.turn.Turn.TheVariants.{Nothing, Quiet, Sent}
use Rattle.cache_stage.specs.Caches.{CachesOn}
use Rattle.journal_text.specs.Journals.{Journaled}
use Rattle.peer_out.specs.Changes.{MayBeHeard}
use Rattle.out_chain.specs.Chains.{RowsMayBeHeard}
use Rattle.exit_side.specs.Exits.{Exited, IsExits, AllStand}
use Rattle.exit_side.specs.Steps.{PutsExit, ComesOut}

-- what holds of the exits over these rows, between two steps
pub record AreReady (written : Profile) (best : Rows Route) (e : Exited) : Type 0 where
  pub sound : IsExits e
  pub stand : AllStand best e
  pub profile : e.profile ≡ written

-- no row is there
abbrev pub no_rows : FinMap prefix_cmp Route
no_rows = tables.empty

pub none_heard : (profile : Profile) → RowsMayBeHeard profile (tables.get no_rows)
none_heard profile p r is = absurd (let clash : Some r ≡ None = sym is ∙ get-empty prefix_cmp p in cc)

-- a change that the cache takes in leads from the rows that it kept to those that it keeps
pub kept_on : (best now : FinMap prefix_cmp Route) (change sent : Change Route) → CachesOn best now change sent → tables.get best change.prefix ≡ change.before → change.after ≢ change.before
    → IsSent (tables.get best) (tables.get now) change.prefix (Some sent)
kept_on best now change sent caches before differs = (caches (tables.get best) (with_row (tables.get best) change.prefix change.after) change.prefix (refl, (before, differs), refl) refl).0

-- it joins the queue
pub put_ready : (profile : Profile) (best now : Rows Route) (p : AddressPrefix) (change : Change Route) (e e' : Exited) → PutsExit change e e' → IsSent best now p (Some change)
    → ForSome change.after (λ r. MayBeHeard profile r.attrs) → AreReady profile best e → AreReady profile now e'
put_ready profile best now p change e e' puts sent heard ready = record {
  sound = puts.sound;
  stand = puts.stand best now p sent (subst (λ (w : Profile). ForSome change.after (λ (r : Route). MayBeHeard w r.attrs)) (sym ready.profile) heard) ready.stand;
  profile = ap (λ (x : Exited). x.profile) puts.after ∙ ready.profile;
}

-- and a peer's exit takes a turn
pub turn_ready : (profile : Profile) (j : ℕ) (candidates : Candidates) (best : Rows Route) (e e' : Exited) (before now : Journaled) (turn : Turn Attrs)
    → ComesOut j candidates best e e' before now turn → AreReady profile best e → AreReady profile best e'
turn_ready profile j candidates best e e' before now Nothing came ready = subst (AreReady profile best) (sym came.1) ready
turn_ready profile j candidates best e e' before now Quiet came ready = record { sound = came.2.sound; stand = came.2.stand; profile = ap (λ (x : Exited). x.profile) came.2.after ∙ ready.profile }
turn_ready profile j candidates best e e' before now (Sent change) came ready = record { sound = came.2.sound; stand = came.2.stand; profile = ap (λ (x : Exited). x.profile) came.2.after ∙ ready.profile }
