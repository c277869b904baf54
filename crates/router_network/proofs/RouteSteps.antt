-- What each event of the interior routes comes to.
use Rattle.router_moments.proofs.Common.{sym, subst, ◌≡◌, ℕ, refl, true, false, Bool, AddressPrefix, RouteAdd, RouteDel, Journaled, flushed, with_lines, no_table, Proto, Interior, branch_of, DropsRouteIf, live_state, Moment, Gives, Stands, Pushes, HasStepped}
use Rattle.std.proofs.Common.{[], ◌∷◌, Some, None, Result, is_some}
use Rattle.std.specs.Result.{IfOk}
use Rattle.std.specs.FinMap as tables
use Rattle.link_change.proofs.RowLemmas.{remove_absent}
use Rattle.journal_text.specs.declared.line.Line.TheVariants as lines
use Rattle.live_state.specs.Lives.{interior_fed}
use Rattle.router_moments.specs.Works.{SetsRoute}
use Rattle.live_state.proofs.AdmittedLemmas.{live_as_it_was}
use Rattle.router_moments.proofs.KeepLemmas.{gives_pushed, ignores}
use Rattle.router_moments.proofs.RouteLemmas.{routed}
use Rattle.std.specs.Prelude.{IsSome}

-- ---- `route add` and `route del`
pub route_added : (p : AddressPrefix) (row : Interior) (m m' : Moment) (before j now : Journaled) → Stands m → IsSome m.declared.speaker → Pushes (λ said. SetsRoute m row.proto p (Some row) said m') before j
    → now ≡ flushed j → Gives (HasStepped m (RouteAdd p row) 0 m') before now
route_added p row m m' before j now stands since u is = gives_pushed (λ said. SetsRoute m row.proto p (Some row) said m') (HasStepped m (RouteAdd p row) 0 m') (λ xs f. record {
  block = (refl, f);
  live = interior_fed (live_state m) row.proto (tables.insert (branch_of row.proto m.tree).tables.live p row);
  after = refl;
  keeps = routed m row.proto p (Some row) xs m' stands since f;
}) before j now u is

pub route_dropped : (proto : Proto) (p : AddressPrefix) (m m' : Moment) (before j now : Journaled) → Stands m → IsSome m.declared.speaker → is_some (tables.get (branch_of proto m.tree).tables.live p) ≡ true → Pushes (λ said. SetsRoute m proto p None said m') before j
    → now ≡ flushed j → Gives (HasStepped m (RouteDel proto p) 0 m') before now
route_dropped proto p m m' before j now stands since has u is = gives_pushed (λ said. SetsRoute m proto p None said m') (HasStepped m (RouteDel proto p) 0 m') (λ xs f. record {
  block = subst (λ (b : Bool). DropsRouteIf b proto p m xs 0 m') (sym has) (refl, f);
  live = interior_fed (live_state m) proto (tables.remove (branch_of proto m.tree).tables.live p);
  after = refl;
  keeps = routed m proto p None xs m' stands since f;
}) before j now u is

pub nothing_dropped : {X : Type 0} (result : Result ℕ X) (proto : Proto) (p : AddressPrefix) (m : Moment) (before now : Journaled) → Stands m → is_some (tables.get (branch_of proto m.tree).tables.live p) ≡ false
    → IfOk result (λ turns. (turns ≡ 0) × (now ≡ flushed (with_lines before (lines.Ignored ∷ [])))) → IfOk result (λ turns. Gives (HasStepped m (RouteDel proto p) turns m) before now)
nothing_dropped result proto p m before now stands has told = ignores result m (RouteDel proto p) before now stands
    (subst (λ (b : Bool). DropsRouteIf b proto p m (lines.Ignored ∷ []) 0 m) (sym has) (refl, refl, refl))
    (live_as_it_was (live_state m) proto (tables.remove (branch_of proto m.tree).tables.live p) (remove_absent (branch_of proto m.tree).tables.live p (no_table (tables.get (branch_of proto m.tree).tables.live p) has))) told
