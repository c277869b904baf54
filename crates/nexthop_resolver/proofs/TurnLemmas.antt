-- One turn of a resolver's task.
use Rattle.std.proofs.Common.{◌≡◌, ℕ, ◌+◌, Bool, true, false, cond, refl, sym, ap, ◌∙◌, subst, inl, inr, Option, Some, None, is_some, Result, Ok, Err, IfOk, OnErr}
use Rattle.std.specs.Option.{option_map}
use Rattle.std.specs.FinMap.{get, insert, len-insert, nat_cmp-IsAntisymmetric}
use Rattle.std.specs.FinMap as map
use Rattle.std.proofs.lemmas.Bool.{cases_eq}
use Rattle.std.specs.Cmp.{nat_cmp_total}
use Rattle.addr4.specs.Prefixes.{AddressPrefix}
use Rattle.link_change.specs.Rows.{Rows, Candidates, IsNextCandidate, CoversRows}
use Rattle.link_change.specs.Changes.{IsChangeOf}
use Rattle.link_change.specs.Turns.{IsTurned, taken_turn}
use Rattle.link_change.specs.Changes.{Change}
use Rattle.link_change.specs.Turns.{Turn}
use Rattle.link_change.specs.declared.turn.Turn.TheVariants.{Nothing, Quiet, Sent}
use Rattle.link_change.proofs.RowLemmas.{same_function}
use Rattle.link_change.proofs.MapLemmas.{get_at, get_apart}
use Rattle.rib_route.specs.Rows.{Interior}
use Rattle.register_interest.specs.Registers.{Registry}
use Rattle.pass_core.specs.Passed.{Passed, finished, function_at}
use Rattle.pass_core.specs.Turns as turns
use Rattle.pass_core.specs.Turns.{passed, passed_rows, rows_by}
use Rattle.pass_core.proofs.SplitLemmas.{at_itself, beyond_so}
use Rattle.pass_core.proofs.TurnLemmas as walks
use Rattle.nexthop_known.specs.Hops.{Hop}
use Rattle.nexthop_known.specs.Hops.{Hops, settled, renewed, IsMapped, IsLeastStale, IsDiffering, IsRenewed}
use Rattle.nexthop_known.specs.Counts.{Counts}
use Rattle.nexthop_known.proofs.AgreeLemmas.{settled_agrees}
use Rattle.nexthop_resolver.specs.Resolving.{Resolving, Answers, in_force_by, fresh_by, walk_to, passes, at_place, begun, goes_on, resolved, res_rows}
use Rattle.nexthop_resolver.specs.Registered.{answer_of, interest_of, Agrees, Renews}
use Rattle.nexthop_resolver.specs.Turns.{KnownAfter, Steps, IsStep, Asks, Turned, IsTurn}
use Rattle.nexthop_resolver.proofs.MoveLemmas.{mapped_len}
use Rattle.nexthop_resolver.proofs.RowLemmas.{makes_none}

module _ {A : Type 0} where
  settled_force : (o : Option (Hop A)) → option_map (λ h. h.in_force) (option_map settled o) ≡ option_map (λ h. h.fresh) o
  settled_force None = refl
  settled_force (Some h) = refl

  -- as many are known
  as_many_after : (walk : Option (Option AddressPrefix)) (old new : Hops A) → KnownAfter walk old new → map.len new ≡ map.len old
  as_many_after (Some place) old new is = ap (λ (m : Hops A). map.len m) is
  as_many_after None old new is = mapped_len settled old new is

  -- when the fresh answers come into force they are those in force
  pub settled_answers : (old new : Hops A) → IsMapped settled old new → in_force_by new ≡ fresh_by old
  settled_answers old new mapped = same_function _ _ (λ a. ap (option_map (λ h. h.in_force)) (mapped a) ∙ settled_force (get old a))

  -- a fresh answer leaves the one in force
  kept_force : (o : Option (Hop A)) (s : AddressPrefix) (x : A) → is_some o ≡ true → option_map (λ h. h.in_force) (Some (renewed s x o)) ≡ option_map (λ h. h.in_force) o
  kept_force None s x e = absurd (let clash : false ≡ true = e in cc)
  kept_force (Some h) s x e = refl

  pub renewed_answers : (old new : Hops A) (a : ℕ) (s : AddressPrefix) (x : A) → is_some (get old a) ≡ true → IsRenewed old new a s x → in_force_by new ≡ in_force_by old
  renewed_answers old new a s x known is = same_function _ _ (λ b. elim (cases_eq b a) [
    | inl e ↦
        ap (option_map (λ h. h.in_force)) (ap (λ (m : Hops A). get m b) is ∙ ap (get (insert old a (renewed s x (get old a)))) e ∙ get_at nat_cmp_total old a (renewed s x (get old a)))
        ∙ kept_force (get old a) s x known ∙ ap (in_force_by old) (sym e)
    | inr ne ↦ ap (option_map (λ h. h.in_force)) (ap (λ (m : Hops A). get m b) is ∙ get_apart nat_cmp_total nat_cmp-IsAntisymmetric old a (renewed s x (get old a)) b ne)
  ])

  -- without a walk only the answers in force count
  pub off_passes : (s : Resolving A) → s.walk ≡ None → passes s ≡ record { in_force = in_force_by s.known; walk = None }
  off_passes s off = λ i. record { in_force = in_force_by s.known; walk = walk_to (fresh_by s.known) (off i) }

module _ {A R L : Type 0} (hop : R → ℕ) (made : R → A → Option L) (candidates : Candidates) (upper : Rows R) (covers : CoversRows candidates upper) where
  -- ---- a step of the walk
  module _ (client : ℕ) (counts : Counts) (known : Hops A) (place : Option AddressPrefix) where
    abbrev on : Option (Option AddressPrefix) → Hops A → Resolving A
    on walk k = record { client = client; counts = counts; known = k; walk = walk }

    pub steps_on : (p : AddressPrefix) (before after : Option L) (sent : Option (Change L)) → IsNextCandidate candidates place (Some p)
        → before ≡ goes_on hop made (in_force_by known) (upper p) → after ≡ goes_on hop made (fresh_by known) (upper p) → IsChangeOf p before after sent
        → Steps hop made candidates upper (on (Some place) known) (on (Some (Some p)) known) sent
    steps_on p before after sent next b a is =
        let old = on (Some place) known in
        let now = on (Some (Some p)) known in
        let was : before ≡ passed (resolved hop made) (passes old) p (upper p) =
        b ∙ ap (λ (f : Answers A). goes_on hop made f (upper p)) (sym (in_force_beyond p next)) in
        let then_is : after ≡ passed (resolved hop made) (passes now) p (upper p) =
        a ∙ ap (λ (f : Answers A). goes_on hop made f (upper p)) (sym (ap (λ t. cond t (in_force_by known) (fresh_by known)) (at_itself p))) in
        record {
          walks = walks.step_of_a_walk (resolved hop made) (passes old) (record { next = fresh_by known; place = place; waiting = None }) candidates upper p sent
              (makes_none hop made) covers refl next
              (subst (λ o. IsChangeOf p o (passed (resolved hop made) (passes now) p (upper p)) sent) was (subst (λ o. IsChangeOf p before o sent) then_is is));
          known = refl;
          counts = refl;
          client = refl;
        }
      where
        in_force_beyond : (p : AddressPrefix) → IsNextCandidate candidates place (Some p) → function_at (passes (on (Some place) known)) p ≡ in_force_by known
        in_force_beyond p next = ap (λ t. cond t (in_force_by known) (fresh_by known)) (beyond_so place p next.0)

    pub ends_walk : (known' : Hops A) → IsNextCandidate candidates place None → IsMapped settled known known'
        → Steps hop made candidates upper (on (Some place) known) (on None known') None
    ends_walk known' next mapped =
        let old = on (Some place) known in
        let after : passes (on None known') ≡ finished (passes old) = λ i. record { in_force = settled_answers known known' mapped i; walk = None } in
        record {
          walks = subst (λ (s : Passed (Answers A)). turns.Walks (resolved hop made) candidates upper (passes old) s None) (sym after)
              (walks.end_of_a_walk (resolved hop made) (passes old) (record { next = fresh_by known; place = place; waiting = None }) candidates upper
              (makes_none hop made) covers refl next);
          known = mapped;
          counts = refl;
          client = refl;
        }

module _ {A R L : Type 0} (hop : R → ℕ) (made : R → A → Option L) (candidates : Candidates) (upper : Rows R) where
  pub step_taken : (old new : Resolving A) (sent : Option (Change L)) → Steps hop made candidates upper old new sent → IsStep hop made candidates upper old new (taken_turn sent)
  step_taken old new None s = s
  step_taken old new (Some change) s = s

  module _ (kept : Option (AddressPrefix × Interior) → A) (was is : Registry Interior) where
    pub asks_turn : (client : ℕ) (counts : Counts) (known known' : Hops A) (walk : Option (Option AddressPrefix)) (a : ℕ) → walk ≡ None → IsLeastStale (get known) (Some a)
        → Renews kept was known known' a
        → Turned hop made candidates upper kept was is (record { client = client; counts = counts; known = known; walk = walk }) (record { client = client; counts = counts; known = known'; walk = walk }) None
    asks_turn client counts known known' walk a off least renews =
        inr (inl (record { off = off; next_hop = a; least = least; renews = renews; walk = off; counts = refl; client = refl; none_sent = refl }))

    pub begins_turn : (old new : Resolving A) (turn : Turn L) → old.walk ≡ None → IsLeastStale (get old.known) None → IsDiffering (get old.known)
        → IsStep hop made candidates upper (at_place old None) new turn → is ≡ was → IsTurn hop made candidates upper kept was is old new turn
    begins_turn old new Nothing off none differs step silent = absurd step
    begins_turn old new Quiet off none differs step silent =
        inr (inr (record { off = off; none_stale = none; differs = differs; steps = step; nothing_asked = silent }))
    begins_turn old new (Sent change) off none differs step silent =
        inr (inr (record { off = off; none_stale = none; differs = differs; steps = step; nothing_asked = silent }))

    pub begins_ok : {E : Type 0} (old new : Resolving A) (result : Result (Turn L) E) → old.walk ≡ None → IsLeastStale (get old.known) None → IsDiffering (get old.known)
        → IfOk result (IsStep hop made candidates upper (at_place old None) new) → is ≡ was → IfOk result (IsTurn hop made candidates upper kept was is old new)
    begins_ok old new (Ok turn) off none differs step silent = begins_turn old new turn off none differs step silent
    begins_ok old new (Err e) off none differs step silent = tt

    -- ---- and the register is agreed with still
    known_agrees : (client : ℕ) (walk : Option (Option AddressPrefix)) (old new : Hops A) → KnownAfter walk old new → Agrees kept client old is → Agrees kept client new is
    known_agrees client (Some place) old new known agree = subst (λ (k : Hops A). Agrees kept client k is) (sym known) agree
    known_agrees client None old new known agree = settled_agrees (answer_of kept is) (interest_of client is) old new agree known

    step_agrees : (old new : Resolving A) (sent : Option (Change L)) → Steps hop made candidates upper old new sent → Agrees kept old.client old.known is
        → Agrees kept new.client new.known is
    step_agrees old new sent s agree = subst (λ (c : ℕ). Agrees kept c new.known is) (sym s.client) (known_agrees old.client new.walk old.known new.known s.known agree)

    pub agrees_after : {E : Type 0} (old new : Resolving A) (place : Option AddressPrefix) (result : Result (Turn L) E)
        → IfOk result (IsStep hop made candidates upper (at_place old place) new) → OnErr result (new ≡ old) → Agrees kept old.client old.known is
        → Agrees kept new.client new.known is
    agrees_after old new place (Ok Nothing) step memory agree = absurd step
    agrees_after old new place (Ok Quiet) step memory agree = step_agrees (at_place old place) new None step agree
    agrees_after old new place (Ok (Sent change)) step memory agree = step_agrees (at_place old place) new (Some change) step agree
    agrees_after old new place (Err e) step memory agree = subst (λ (s : Resolving A). Agrees kept s.client s.known is) (sym memory) agree

    -- ---- what a turn sends leads on
    step_leads : (old new : Resolving A) (sent : Option (Change L)) → Steps hop made candidates upper old new sent
        → IsTurned (res_rows hop made old upper) (res_rows hop made new upper) (taken_turn sent)
    step_leads old new None s = walks.a_walk_leads (resolved hop made) candidates upper (passes old) (passes new) Quiet s.walks
    step_leads old new (Some change) s = walks.a_walk_leads (resolved hop made) candidates upper (passes old) (passes new) (Sent change) s.walks

    begun_rows : (s : Resolving A) → s.walk ≡ None → res_rows hop made (begun s) upper ≡ res_rows hop made s upper
    begun_rows s off = ap (λ (f : Passed (Answers A)). passed_rows (resolved hop made) f upper) (sym (off_passes s off))

    asked_rows : (old new : Resolving A) (sent : Option (Change L)) → Asks hop made candidates upper kept was is old new sent
        → res_rows hop made new upper ≡ res_rows hop made old upper
    asked_rows old new sent asks =
        let force = renewed_answers old.known new.known asks.next_hop asks.renews.0 (answer_of kept was asks.next_hop) (ap is_some asks.least.0.1) asks.renews.1 in
        ap (λ (f : Passed (Answers A)). passed_rows (resolved hop made) f upper)
        (off_passes new asks.walk ∙ (λ i. record { in_force = force i; walk = None }) ∙ sym (off_passes old asks.off))

    turned_leads : (old new : Resolving A) (sent : Option (Change L)) → Turned hop made candidates upper kept was is old new sent
        → IsTurned (res_rows hop made old upper) (res_rows hop made new upper) (taken_turn sent)
    turned_leads old new sent (inl goes) = step_leads old new sent goes.steps
    turned_leads old new sent (inr (inl asks)) =
        subst (λ o. IsTurned (res_rows hop made old upper) (res_rows hop made new upper) (taken_turn o)) (sym asks.none_sent) (asked_rows old new sent asks)
    turned_leads old new sent (inr (inr begins)) =
        subst (λ (rows : Rows L). IsTurned rows (res_rows hop made new upper) (taken_turn sent)) (begun_rows old begins.off) (step_leads (begun old) new sent begins.steps)

    pub turn_leads : (old new : Resolving A) (turn : Turn L) → IsTurn hop made candidates upper kept was is old new turn
        → IsTurned (res_rows hop made old upper) (res_rows hop made new upper) turn
    turn_leads old new Nothing t = ap (λ s. res_rows hop made s upper) t.1
    turn_leads old new Quiet t = turned_leads old new None t
    turn_leads old new (Sent change) t = turned_leads old new (Some change) t

    -- ---- what a turn keeps
    pub turned_client : (old new : Resolving A) (sent : Option (Change L)) → Turned hop made candidates upper kept was is old new sent → new.client ≡ old.client
    turned_client old new sent (inl goes) = goes.steps.client
    turned_client old new sent (inr (inl asks)) = asks.client
    turned_client old new sent (inr (inr begins)) = begins.steps.client

    pub turned_counts : (old new : Resolving A) (sent : Option (Change L)) → Turned hop made candidates upper kept was is old new sent → new.counts ≡ old.counts
    turned_counts old new sent (inl goes) = goes.steps.counts
    turned_counts old new sent (inr (inl asks)) = asks.counts
    turned_counts old new sent (inr (inr begins)) = begins.steps.counts

    pub turned_known : (old new : Resolving A) (sent : Option (Change L)) → Turned hop made candidates upper kept was is old new sent → map.len new.known ≡ map.len old.known
    turned_known old new sent (inl goes) = as_many_after new.walk old.known new.known goes.steps.known
    turned_known old new sent (inr (inl asks)) =
        ap (λ (m : Hops A). map.len m) asks.renews.1 ∙ len-insert nat_cmp_total old.known asks.next_hop _
        ∙ ap (λ (b : Bool). cond b (map.len old.known) (map.len old.known + 1)) (ap is_some asks.least.0.1)
    turned_known old new sent (inr (inr begins)) = as_many_after new.walk old.known new.known begins.steps.known
