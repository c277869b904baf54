-- What a turn makes of a resolver is one, and it has work before.
use Rattle.std.proofs.Common.{◌≡◌, ℕ, true, Option, Some, None, refl, sym, ap, ◌∙◌, subst, inl, inr, is_some}
use Rattle.std.specs.FinMap.{get}
use Rattle.std.specs.Option.{option_map}
use Rattle.addr4.specs.Prefixes.{AddressPrefix}
use Rattle.link_change.specs.Rows.{Rows, Candidates}
use Rattle.link_change.specs.Changes.{Change}
use Rattle.link_change.specs.Turns.{Turn}
use Rattle.link_change.specs.declared.turn.Turn.TheVariants.{Nothing, Quiet, Sent}
use Rattle.rib_route.specs.Rows.{Interior}
use Rattle.register_interest.specs.Registers.{Registry}
use Rattle.pass_core.specs.Passed.{Passed, Walked}
use Rattle.nexthop_known.specs.Hops.{Hops, staled, settled}
use Rattle.nexthop_resolver.specs.Resolving.{Resolving, Answers, fresh_by, walk_to, passes, begun, resolved}
use Rattle.nexthop_resolver.specs.Registered.{Renews}
use Rattle.nexthop_resolver.specs.Reached.{reached_hop}
use Rattle.nexthop_resolver.specs.Turns.{KnownAfter, Rests, HasWork, Steps, Turned, IsTurn}
use Rattle.nexthop_resolver.proofs.WorkLemmas.{stale_work, never_both}
use Rattle.nexthop_resolver.proofs.LeftLemmas.{busy_is}
use Rattle.nexthop_resolver.proofs.MoveLemmas.{same_some, clash_some}
use Rattle.stage_determinism.proofs.OneLemmas.{walk_is_one}
use Rattle.hop_determinism.specs.Laws.{InvalidatedIsOne, StaleIsOne, TurnedHasWork}
use Rattle.hop_determinism.proofs.KnownLemmas.{mapped_is_one, least_is_one}
use Rattle.hop_determinism.proofs.ResolverLemmas.{same_parts, renews_is_one}

module _ {A : Type 0} where
  -- ---- where answers become stale
  pub invalidated_is_one : InvalidatedIsOne A
  invalidated_is_one s old new it x y =
      same_parts new it (x.client ∙ sym y.client) (x.counts ∙ sym y.counts) (mapped_is_one (staled s) old.known new.known it.known x.known y.known) (x.walk ∙ sym y.walk)

  pub stale_is_one : StaleIsOne A
  stale_is_one out k old new it x y =
      same_parts new it (x.client ∙ sym y.client) (x.counts ∙ sym y.counts) (mapped_is_one (reached_hop out k) old.known new.known it.known x.known y.known) (x.walk ∙ sym y.walk)

  -- ---- a step of the walk
  -- the place of a walk, as the walk of functions tells it
  place_in : (fresh : Answers A) (walk : Option (Option AddressPrefix)) → option_map (λ (w : Walked (Answers A)). w.place) (walk_to fresh walk) ≡ walk
  place_in fresh None = refl
  place_in fresh (Some place) = refl

  -- a walk is on
  on_walk : (s : Resolving A) (w : Walked (Answers A)) → (passes s).walk ≡ Some w → s.walk ≡ Some w.place
  on_walk s w on = sym (place_in (fresh_by s.known) s.walk) ∙ ap (option_map (λ (w : Walked (Answers A)). w.place)) on

  -- so it isn't off
  not_off : (s : Resolving A) (w : Walked (Answers A)) (P : Type 0) → (passes s).walk ≡ Some w → s.walk ≡ None → P
  not_off s w P on off = absurd (let clash : None ≡ Some w.place = sym off ∙ on_walk s w on in cc)

  -- the walk is one where that of functions is
  same_walk : (s t : Resolving A) → passes s ≡ passes t → s.walk ≡ t.walk
  same_walk s t same =
      sym (place_in (fresh_by s.known) s.walk) ∙ ap (λ (p : Passed (Answers A)). option_map (λ (w : Walked (Answers A)). w.place) p.walk) same ∙ place_in (fresh_by t.known) t.walk

  -- what is known when the walk goes on, or is over
  after_is_one : (walk : Option (Option AddressPrefix)) (old new it : Hops A) → KnownAfter walk old new → KnownAfter walk old it → new ≡ it
  after_is_one (Some place) old new it x y = x ∙ sym y
  after_is_one None old new it x y = mapped_is_one settled old new it x y

module _ {A R L : Type 0} (hop : R → ℕ) (made : R → A → Option L) (candidates : Candidates) (upper : Rows R) where
  -- the walk goes on or ends
  step_is_one : (old new it : Resolving A) (sent other : Option (Change L)) → Steps hop made candidates upper old new sent → Steps hop made candidates upper old it other → (new ≡ it) × (sent ≡ other)
  step_is_one old new it sent other x y =
      let same = walk_is_one (resolved hop made) candidates upper (passes old) (passes new) (passes it) sent other x.walks y.walks in
      let walk = same_walk new it same.0 in
      let known = after_is_one it.walk old.known new.known it.known (subst (λ w. KnownAfter w old.known new.known) walk x.known) y.known in
      (same_parts new it (x.client ∙ sym y.client) (x.counts ∙ sym y.counts) known walk, same.1)

  -- where a turn is taken there was work
  turned_work : (kept : Option (AddressPrefix × Interior) → A) (was is : Registry Interior) (old new : Resolving A) (sent : Option (Change L)) → Turned hop made candidates upper kept was is old new sent → HasWork old
  turned_work kept was is old new sent (inl x) = inl (ap is_some (on_walk old x.steps.walks.walk x.steps.walks.on))
  turned_work kept was is old new sent (inr (inl x)) = stale_work old (Some x.next_hop) true x.least refl refl
  turned_work kept was is old new sent (inr (inr x)) = inr (inr x.differs)

  module _ (kept : Option (AddressPrefix × Interior) → A) (was is it : Registry Interior) (old new then_new : Resolving A) where
    abbrev One : Registry Interior → Resolving A → Option (Change L) → Type 0
    One r s sent = Turned hop made candidates upper kept was r old s sent

    -- the kinds of turns exclude each other
    pub turned_is_one : (sent other : Option (Change L)) → One is new sent → One it then_new other → (new ≡ then_new) × (sent ≡ other)
    turned_is_one sent other (inl x) (inl y) = step_is_one old new then_new sent other x.steps y.steps
    turned_is_one sent other (inl x) (inr (inl y)) = not_off old x.steps.walks.walk _ x.steps.walks.on y.off
    turned_is_one sent other (inl x) (inr (inr y)) = not_off old x.steps.walks.walk _ x.steps.walks.on y.off
    turned_is_one sent other (inr (inl x)) (inl y) = not_off old y.steps.walks.walk _ y.steps.walks.on x.off
    turned_is_one sent other (inr (inr x)) (inl y) = not_off old y.steps.walks.walk _ y.steps.walks.on x.off
    turned_is_one sent other (inr (inl x)) (inr (inr y)) = absurd (y.none_stale x.next_hop x.least.0.0 x.least.0.1 x.least.0.2)
    turned_is_one sent other (inr (inr x)) (inr (inl y)) = absurd (x.none_stale y.next_hop y.least.0.0 y.least.0.1 y.least.0.2)
    turned_is_one sent other (inr (inr x)) (inr (inr y)) = step_is_one (begun old) new then_new sent other x.steps y.steps
    turned_is_one sent other (inr (inl x)) (inr (inl y)) =
        let hop_is = same_some x.next_hop y.next_hop (least_is_one (get old.known) (Some x.next_hop) (Some y.next_hop) x.least y.least) in
        let known = renews_is_one kept was old.known new.known then_new.known y.next_hop (subst (λ (a : ℕ). Renews kept was old.known new.known a) hop_is x.renews) y.renews in
        (same_parts new then_new (x.client ∙ sym y.client) (x.counts ∙ sym y.counts) known (x.walk ∙ sym y.walk), x.none_sent ∙ sym y.none_sent)

    -- at rest none is taken
    not_at_rest : (r : Registry Interior) (s : Resolving A) (sent : Option (Change L)) (P : Type 0) → Rests old → One r s sent → P
    not_at_rest r s sent P rests x = absurd (never_both old (turned_work kept was r old s sent x) rests)

    pub turn_is_one : (turn other : Turn L) → IsTurn hop made candidates upper kept was is old new turn → IsTurn hop made candidates upper kept was it old then_new other → (new ≡ then_new) × (turn ≡ other)
    turn_is_one Nothing Nothing x y = (x.1 ∙ sym y.1, refl)
    turn_is_one Nothing Quiet x y = not_at_rest it then_new None _ x.0 y
    turn_is_one Nothing (Sent d) x y = not_at_rest it then_new (Some d) _ x.0 y
    turn_is_one Quiet Nothing x y = not_at_rest is new None _ y.0 x
    turn_is_one (Sent c) Nothing x y = not_at_rest is new (Some c) _ y.0 x
    turn_is_one Quiet Quiet x y = ((turned_is_one None None x y).0, refl)
    turn_is_one Quiet (Sent d) x y = clash_some d _ (turned_is_one None (Some d) x y).1
    turn_is_one (Sent c) Quiet x y = clash_some c _ (sym (turned_is_one (Some c) None x y).1)
    turn_is_one (Sent c) (Sent d) x y = let same = turned_is_one (Some c) (Some d) x y in (same.0, ap Sent (same_some c d same.1))

pub turned_has_work : {A R L : Type 0} → TurnedHasWork A R L
turned_has_work alike tells hop made candidates upper kept was is old new sent x = sym (busy_is alike true old tells (turned_work hop made candidates upper kept was is old new sent x))
