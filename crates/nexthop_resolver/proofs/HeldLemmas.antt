-- Where no next hop holds up a prefix, the row there goes on by the present answer.
use Rattle.std.proofs.Common.{◌≡◌, ◌≢◌, ℕ, Bool, true, false, not, ◌||◌, ◌&&◌, cond, Option, Some, None, is_some, refl, sym, ap, ◌∙◌}
use Rattle.std.specs.Option.{option_map}
use Rattle.std.proofs.lemmas.Bool.{and_right, or_parts, or_from}
use Rattle.std.specs.FinMap as map
use Rattle.std.specs.FinMap.{get}
use Rattle.addr4.specs.Prefixes.{AddressPrefix}
use Rattle.rib_route.specs.Rows.{Interior}
use Rattle.register_interest.specs.Registers.{Registry}
use Rattle.nexthop_known.specs.Hops.{Hop}
use Rattle.nexthop_known.specs.Hops.{Hops, is_stale_at}
use Rattle.nexthop_known.proofs.CountLemmas.{named_is_counted}
use Rattle.pass_core.specs.Passed.{is_beyond, function_of, function_at}
use Rattle.nexthop_resolver.specs.Resolving.{Resolving, in_force_by, fresh_by, walk_to, passes, is_in_force, made_by, goes_on, named_by}
use Rattle.nexthop_resolver.specs.Registered.{Agrees, answer_of}
use Rattle.nexthop_resolver.specs.Left.{TellsAlike, differs_at, hop_lags}
use Rattle.nexthop_resolver.specs.Laws.{ExactUnlessHeldUp, NoneHeldUpAtRest}
use Rattle.nexthop_resolver.proofs.AskLemmas.{some_of}

not_false : (b : Bool) → not b ≡ false → b ≡ true
not_false true e = refl
not_false false e = absurd (let clash : true ≡ false = e in cc)

module _ {A : Type 0} (alike : A → A → Bool) (tells : TellsAlike alike) where
  same_of : (h : Hop A) → differs_at alike (Some h) ≡ false → h.fresh ≡ h.in_force
  same_of h e = (tells h.fresh h.in_force).0 (not_false (alike h.fresh h.in_force) e)

  -- the answer that holds at the prefix is the fresh one
  fresh_holds : (known : Hops A) (walk : Option (Option AddressPrefix)) (q : AddressPrefix) (a : ℕ) (x : A) (h : Hop A) → get known a ≡ Some h → h.fresh ≡ x → (is_in_force walk q && differs_at alike (Some h)) ≡ false
      → function_of (in_force_by known) (walk_to (fresh_by known) walk) q a ≡ Some x
  fresh_holds known None q a x h at fresh none = ap (option_map (λ (y : Hop A). y.in_force)) at ∙ ap (λ (y : A). Some y) (sym (same_of h none) ∙ fresh)
  fresh_holds known (Some place) q a x h at fresh none = by_place (is_beyond place q) none
    where
      by_place : (b : Bool) → (b && differs_at alike (Some h)) ≡ false → (cond b (in_force_by known) (fresh_by known)) a ≡ Some x
      by_place true e = ap (option_map (λ (y : Hop A). y.in_force)) at ∙ ap (λ (y : A). Some y) (sym (same_of h e) ∙ fresh)
      by_place false e = ap (option_map (λ (y : Hop A). y.fresh)) at ∙ ap (λ (y : A). Some y) fresh

  -- and that is the present one
  answer_at : (kept : Option (AddressPrefix × Interior) → A) (r : Registry Interior) (s : Resolving A) (q : AddressPrefix) (a : ℕ) → Agrees kept s.client s.known r → map.contains_key s.known a ≡ true
      → hop_lags alike s q (Some a) ≡ false → function_at (passes s) q a ≡ Some (answer_of kept r a)
  answer_at kept r s q a agree known none =
      let h = some_of (get s.known a) known in
      by_came h.0 h.1 h.0.came refl (or_parts (is_stale_at (get s.known a)) (is_in_force s.walk q && differs_at alike (get s.known a)) none)
    where
      by_came : (h : Hop A) → get s.known a ≡ Some h → (c : Option AddressPrefix) → h.came ≡ c → (is_stale_at (get s.known a) ≡ false) × ((is_in_force s.walk q && differs_at alike (get s.known a)) ≡ false)
          → function_at (passes s) q a ≡ Some (answer_of kept r a)
      by_came h at None came neither =
          let stale : is_stale_at (get s.known a) ≡ true = ap (λ (o : Option (Hop A)). is_stale_at o) at ∙ ap (λ (c : Option AddressPrefix). not (is_some c)) came in
          let clash : true ≡ false = sym stale ∙ neither.0 in
          absurd (cc)
      by_came h at (Some t) came neither =
          fresh_holds s.known s.walk q a (answer_of kept r a) h at (agree.present a h t at came).answered
          (sym (ap (λ (o : Option (Hop A)). is_in_force s.walk q && differs_at alike o) at) ∙ neither.1)

pub exact_unless_held_up : {A R L : Type 0} → ExactUnlessHeldUp A R L
exact_unless_held_up {A} {R} {L} alike tells hop made kept upper r s q agree named counted none = by_row (upper q) refl none
  where
    by_row : (o : Option R) → upper q ≡ o → hop_lags alike s q (option_map hop o) ≡ false
        → goes_on hop made (function_at (passes s) q) o ≡ goes_on hop made (λ (a : ℕ). Some (answer_of kept r a)) o
    by_row None at e = refl
    by_row (Some row) at e =
        ap (made_by hop made row)
        (answer_at alike tells kept r s q (hop row) agree (named (hop row) ∙ named_is_counted (named_by hop upper) s.counts q (hop row) counted (ap (option_map hop) at)) e)

-- where there is nothing to do
pub none_held_up_at_rest : {A : Type 0} → NoneHeldUpAtRest A
none_held_up_at_rest {A} alike tells s q None rests = refl
none_held_up_at_rest {A} alike tells s q (Some a) rests = by_hop (get s.known a) refl
  where
    there : (c : Option AddressPrefix) → c ≢ None → not (is_some c) ≡ false
    there None ne = absurd (ne refl)
    there (Some t) ne = refl

    by_hop : (o : Option (Hop A)) → get s.known a ≡ o → (is_stale_at o || (is_in_force s.walk q && differs_at alike o)) ≡ false
    by_hop None at = and_right (is_in_force s.walk q) false refl
    by_hop (Some h) at =
        or_from (not (is_some h.came)) (is_in_force s.walk q && not (alike h.fresh h.in_force)) (there h.came (rests.none_stale a h at))
        (and_right (is_in_force s.walk q) (not (alike h.fresh h.in_force)) (ap not ((tells h.fresh h.in_force).1 (rests.settled_all a h at))))
