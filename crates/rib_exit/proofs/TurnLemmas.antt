-- A turn of the task.
use Rattle.std.proofs.Common.{◌≡◌, Option, Some, None, refl, sym, ap, subst, ◌∙◌}
use Rattle.addr4.specs.Prefixes.{AddressPrefix}
use Rattle.bgp_attr.specs.Routes.{Route}
use Rattle.link_change.specs.Rows.{Rows, Candidates, with_rows}
use Rattle.link_change.specs.Changes.{IsSent}
use Rattle.link_change.specs.Turns.{IsTurned, taken_turn}
use Rattle.link_change.specs.Changes.{Change}
use Rattle.link_change.specs.Turns.{Turn}
use Rattle.link_change.specs.declared.turn.Turn.TheVariants as turns
use Rattle.rib_route.specs.Rows.{Interior}
use Rattle.rib_route.specs.Rows.{External}
use Rattle.rib_route.specs.Rows.{FibRow}
use Rattle.register_interest.specs.Registers.{Registry, AllStand as MatchesStand}
use Rattle.nexthop_known.specs.Counts.{Counts, AreCounted}
use Rattle.nexthop_resolver.specs.Ways.{Way}
use Rattle.nexthop_resolver.specs.Kept.{external_hop, over, way_of, same_way}
use Rattle.nexthop_resolver.specs.Resolving.{Resolving, AreNamed, named_by}
use Rattle.nexthop_resolver.specs.Registered.{Agrees, KeepsOthers}
use Rattle.nexthop_resolver.specs.Turns.{Rests, Turned, IsTurn}
use Rattle.nexthop_resolver.proofs.TurnLemmas as resolver
use Rattle.nexthop_resolver.proofs.AlikeLemmas.{tells_ways}
use Rattle.nexthop_resolver.proofs.LeftLemmas.{turns_fall, rests_idle}
use Rattle.rib_split.specs.Splitting.{external_row}
use Rattle.rib_split.specs.Tables.{kept_rows}
use Rattle.ext_int.specs.Fibs.{resolved_rows, fib_table, FollowsInt, FollowsTurn, TakesTurn}
use Rattle.ext_int.proofs.FibLemmas.{turn_leads}
use Rattle.journal_text.specs.Journals.{Journaled, with_entries, Adds}
use Rattle.journal_text.proofs.JournalLemmas.{with_entries_none}
use Rattle.rib_exit.specs.RibExits.{RibExit}
use Rattle.rib_exit.specs.Exits.{ext_rows, ext_candidates, IsExit, StandsOver}
use Rattle.rib_exit.specs.Steps.{fib_entries, TakesInterior, TurnsExit, ComesOut}
use Rattle.rib_exit.proofs.LinkLemmas.{fib_leads}
use Rattle.rib_exit.proofs.FallLemmas.{agreed}
use Rattle.rib_exit.proofs.LentLemmas.{ext_lent, candidates_lent}

-- ---- over the routes that are lent
pub takes_lent : (int : Rows Interior) (was is : Registry Interior) (e : RibExit) (hops' : Resolving Way) (turn : Turn FibRow) (best : Rows Route) → StandsOver best e
    → TakesTurn int (with_rows (λ q. external_row (best q))) (λ q. external_row (best q)) was is e.forwarding hops' turn → TakesTurn int (ext_candidates e) (ext_rows e) was is e.forwarding hops' turn
takes_lent int was is e hops' turn best stands t =
    subst (λ (c : Candidates). TakesTurn int c (ext_rows e) was is e.forwarding hops' turn) (candidates_lent e best stands)
    (subst (λ (r : Rows External). TakesTurn int (with_rows (λ q. external_row (best q))) r was is e.forwarding hops' turn) (ext_lent e best stands) t)

-- a change of the interior routes
pub follows_lent : (e : RibExit) (change : Change Interior) (sent : Option (Change FibRow)) (best : Rows Route) → StandsOver best e
    → FollowsInt (resolved_rows e.forwarding (λ q. external_row (best q))) change sent → FollowsInt (resolved_rows e.forwarding (ext_rows e)) change sent
follows_lent e change sent best stands follows =
    subst (λ (r : Rows External). FollowsInt (resolved_rows e.forwarding r) change sent) (ext_lent e best stands) follows

pub takes_interior : (e : RibExit) (change : Change Interior) (sent : Option (Change FibRow)) (before after : Journaled) → FollowsInt (resolved_rows e.forwarding (ext_rows e)) change sent
    → after ≡ with_entries before (fib_entries sent) → Adds (TakesInterior change sent e) before after
takes_interior e change sent before after follows line = (
  fib_entries sent,
  line,
  record {
    lines = refl;
    goes = λ int now p is. record {
      fib = follows int now p is;
      leads = λ others. fib_leads others (kept_rows e.splitter) e.forwarding e.forwarding int now p sent (follows int now p is);
    };
  },
)

module _ (int : Rows Interior) (was is : Registry Interior) (e : RibExit) (hops' : Resolving Way) where
  abbrev e' : RibExit
  e' = record { splitter = e.splitter; forwarding = hops' }

  abbrev Turns : Option (Change FibRow) → Type 0
  Turns resolved = Turned external_hop over (ext_candidates e) (ext_rows e) way_of was is e.forwarding hops' resolved

  abbrev Takes : Turn FibRow → Type 0
  Takes turn = TakesTurn int (ext_candidates e) (ext_rows e) was is e.forwarding hops' turn

  -- ---- what came out
  abbrev IsInner : Turn FibRow → Type 0
  IsInner inner = IsTurn external_hop over (ext_candidates e) (ext_rows e) way_of was is e.forwarding hops' inner

  nothing_by : (inner turn : Turn FibRow) → IsInner inner → FollowsTurn int inner turn → turn ≡ turns.Nothing → Rests e.forwarding × (hops' ≡ e.forwarding) × (is ≡ was)
  nothing_by turns.Nothing turn r follows none = r
  nothing_by turns.Quiet turn r follows none = absurd (let clash : turns.Quiet ≡ turns.Nothing = sym follows ∙ none in cc)
  nothing_by (turns.Sent change) turn r follows none = not_taken follows.0 (sym follows.1 ∙ none)
    where
      not_taken : (sent : Option (Change FibRow)) → taken_turn sent ≡ turns.Nothing → Rests e.forwarding × (hops' ≡ e.forwarding) × (is ≡ was)
      not_taken None same = absurd (let clash : turns.Quiet ≡ turns.Nothing = same in cc)
      not_taken (Some c) same = absurd (let clash : turns.Sent c ≡ turns.Nothing = same in cc)

  never_nothing : (sent : Option (Change FibRow)) → taken_turn sent ≡ turns.Nothing → ⊥
  never_nothing None same = let clash : turns.Quiet ≡ turns.Nothing = same in cc
  never_nothing (Some c) same = let clash : turns.Sent c ≡ turns.Nothing = same in cc

  taken_by : (sent : Option (Change FibRow)) (inner turn : Turn FibRow) → IsInner inner → FollowsTurn int inner turn → turn ≡ taken_turn sent → (resolved : Option (Change FibRow)) × Turns resolved
  taken_by sent turns.Nothing turn r follows taken = absurd (never_nothing sent (sym taken ∙ follows))
  taken_by sent turns.Quiet turn r follows taken = (None, r)
  taken_by sent (turns.Sent change) turn r follows taken = (Some change, r)

  turned_rows : (sent : Option (Change FibRow)) → IsTurned (fib_table e.forwarding int (ext_rows e)) (fib_table hops' int (ext_rows e)) (taken_turn sent)
      → (p : AddressPrefix) × IsSent (fib_table e.forwarding int (ext_rows e)) (fib_table hops' int (ext_rows e)) p sent
  turned_rows None led = (record { address = 0; length = 0 }, led)
  turned_rows (Some change) led = (change.prefix, led)

  led_by : (turn : Turn FibRow) → Takes turn → IsTurned (fib_table e.forwarding int (ext_rows e)) (fib_table hops' int (ext_rows e)) turn
  led_by turn t =
      turn_leads int _ _ t.inner turn (resolver.turn_leads external_hop over (ext_candidates e) (ext_rows e) way_of was is e.forwarding hops' t.inner t.resolves) t.follows

  module _ (sound : IsExit e) (named : AreNamed hops'.counts hops'.known) (here : Agrees way_of hops'.client hops'.known is) (others : KeepsOthers e.forwarding.client was is) (stand : MatchesStand is) (before : Journaled) where
    taken : (sent : Option (Change FibRow)) (now : Journaled) (turn : Turn FibRow) → Takes turn → turn ≡ taken_turn sent → now ≡ with_entries before (fib_entries sent)
        → Adds (TurnsExit int sent was is e e') before now
    taken sent now turn t came lines =
        let inner = taken_by sent t.inner turn t.resolves t.follows came in
        let led = turned_rows sent (subst (λ (x : Turn FibRow). IsTurned (fib_table e.forwarding int (ext_rows e)) (fib_table hops' int (ext_rows e)) x) came (led_by turn t)) in (
          fib_entries sent,
          lines,
          record {
            resolved = inner.0;
            turned = inner.1;
            rows = refl;
            lines = refl;
            fib = led;
            leads = λ links. fib_leads links (kept_rows e.splitter) e.forwarding hops' int int led.0 sent led.1;
            agreed = agreed int was is e e.splitter hops' sound (resolver.turned_client external_hop over (ext_candidates e) (ext_rows e) way_of was is e.forwarding hops' inner.0 inner.1) named here others stand;
            stands = λ best stands. record {
              links = stands.links;
              counted = subst (λ (n : Counts). AreCounted (named_by external_hop (ext_rows e)) n) (sym (resolver.turned_counts external_hop over (ext_candidates e) (ext_rows e) way_of was is e.forwarding hops' inner.0 inner.1)) stands.counted;
            };
            fewer = λ beyond counts.
                turns_fall external_hop over (ext_candidates e) (ext_rows e) way_of was is same_way beyond tells_ways counts e.forwarding hops' inner.0 inner.1;
            known = resolver.turned_known external_hop over (ext_candidates e) (ext_rows e) way_of was is e.forwarding hops' inner.0 inner.1;
          },
        )

    pub rests_out : (turn : Turn FibRow) → Takes turn → turn ≡ turns.Nothing → ComesOut int was is e e' before before turns.Nothing
    rests_out turn t none =
        let r = nothing_by t.inner turn t.resolves t.follows none in
        (rests_idle same_way e.forwarding tells_ways r.0, ap (λ (s : Resolving Way). record { splitter = e.splitter; forwarding = s }) r.1, r.2, refl)

    pub quiet_out : (turn : Turn FibRow) → Takes turn → turn ≡ turns.Quiet → ComesOut int was is e e' before before turns.Quiet
    quiet_out turn t quiet = taken None before turn t quiet (sym (with_entries_none before))

    pub sent_out : (turn : Turn FibRow) → Takes turn → (change : Change FibRow) (now : Journaled) → turn ≡ turns.Sent change → now ≡ with_entries before (fib_entries (Some change))
        → ComesOut int was is e e' before now (turns.Sent change)
    sent_out turn t change now out lines = taken (Some change) now turn t out lines
