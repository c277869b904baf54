-- Next hops become stale with a change of `int` alone: neither with a change from above, nor in their own turns.
use Rattle.router_moments.proofs.Common.{sym, subst, ◌∙◌, ap, ◌≡◌, ℕ, refl, List, true, arith, false, ◌+◌, Bool, ◌≤◌, cond, nat_eq, not, inr, inl, nat_cmp_total, nat_cmp-IsAntisymmetric, AddressPrefix, Route, resolver_at, Resolvers, put_resolver, Entry, Value, sum_replaced, Rows, Candidates, Change, is_stale_at, stale_count, Hop, metric_of, Resolving, Metric, Registry, RibExit, Interior, Moment, Resolves, Phase}
use Rattle.std.proofs.Common.{Option, Some, None, is_some}
use Rattle.std.specs.Option.{option_map}
use Rattle.std.specs.FinMap as tables
use Rattle.std.specs.FinMap.{retain_keys, get-retain_keys}
use Rattle.std.proofs.lemmas.Bool.{cases_eq}
use Rattle.link_change.proofs.MapLemmas.{get_at, get_apart}
use Rattle.nexthop_known.specs.Hops.{Hops, settled}
use Rattle.nexthop_resolver.specs.Registered.{Renews, told_of}
use Rattle.nexthop_resolver.specs.Takes.{KeepsOrLearns}
use Rattle.nexthop_resolver.specs.Turns.{KnownAfter, Turned}
use Rattle.hop_side.proofs.PutLemmas.{by_bool, equal_by, put_here, put_other}
use Rattle.router_moments.specs.declared.tasks.Phase.TheVariants as phases
use Rattle.router_moments.specs.Phases.{is_stale_by, stale_in, stale_of}
use Rattle.router_moments.specs.Works.{NoneGoesStale, MakesNoneStale}
use Rattle.router_moments.proofs.KnownLemmas.{fewer_keys}

-- ---- what is known of next hops, by one that asks
module _ {A : Type 0} where
  -- what is stale then was stale before
  abbrev pub StaleBefore : Hops A → Hops A → Type 0
  StaleBefore old new = (a : ℕ) → is_stale_at (tables.get new a) ≡ true → is_stale_at (tables.get old a) ≡ true

  pub as_before : (old new : Hops A) → new ≡ old → StaleBefore old new
  as_before old new same a stale = subst (λ (h : Hops A). is_stale_at (tables.get h a) ≡ true) same stale

  -- a change from above: what it makes known isn't stale
  pub kept_or_learnt : (kept : Option (AddressPrefix × Interior) → A) (r : Registry Interior) (old new : Hops A) → KeepsOrLearns (told_of kept r) old new → StaleBefore old new
  kept_or_learnt kept r old new keeps a stale = by_hop (tables.get new a) refl stale
    where
      by_hop : (o : Option (Hop A)) → tables.get new a ≡ o → is_stale_at o ≡ true → is_stale_at (tables.get old a) ≡ true
      by_hop None at was = absurd (let clash : false ≡ true = was in cc)
      by_hop (Some h) at was = elim (keeps a h at) as (λ _. is_stale_at (tables.get old a) ≡ true) [
        | inl same ↦ ap (λ (o : Option (Hop A)). is_stale_at o) same ∙ was
        | inr learnt ↦ absurd (let clash : false ≡ true = sym (ap (λ (c : Option AddressPrefix). not (is_some c)) learnt.is_told.came) ∙ was in cc)
      ]

  -- the step of a walk, and its end
  settled_stale : (o : Option (Hop A)) → is_stale_at (option_map settled o) ≡ is_stale_at o
  settled_stale None = refl
  settled_stale (Some h) = refl

  stepped : (walk : Option (Option AddressPrefix)) (old new : Hops A) → KnownAfter walk old new → StaleBefore old new
  stepped None old new mapped a stale = sym (settled_stale (tables.get old a)) ∙ sym (ap (λ (o : Option (Hop A)). is_stale_at o) (mapped a)) ∙ stale
  stepped (Some place) old new same a stale = as_before old new same a stale

  -- one that is asked for again isn't stale then
  renewed : (kept : Option (AddressPrefix × Interior) → A) (r : Registry Interior) (old new : Hops A) (b : ℕ) → Renews kept r old new b → StaleBefore old new
  renewed kept r old new b is a stale = elim (cases_eq a b) as (λ _. is_stale_at (tables.get old a) ≡ true) [
    | inl same ↦ absurd (let clash : false ≡ true = sym (ap (λ (o : Option (Hop A)). is_stale_at o) (ap (tables.get new) same ∙ ap (λ (h : Hops A). tables.get h b) is.1 ∙ get_at nat_cmp_total old b _)) ∙ stale in cc)
    | inr apart ↦ ap (λ (o : Option (Hop A)). is_stale_at o) (sym (ap (λ (h : Hops A). tables.get h a) is.1 ∙ get_apart nat_cmp_total nat_cmp-IsAntisymmetric old b _ a apart)) ∙ stale
  ]

  pub turned : {R L : Type 0} (hop : R → ℕ) (made : R → A → Option L) (candidates : Candidates) (upper : Rows R) (kept : Option (AddressPrefix × Interior) → A) (was is : Registry Interior) (old new : Resolving A) (sent : Option (Change L))
      → Turned hop made candidates upper kept was is old new sent → StaleBefore old.known new.known
  turned hop made candidates upper kept was is old new sent (inl goes) = stepped new.walk old.known new.known goes.steps.known
  turned hop made candidates upper kept was is old new sent (inr (inl asks)) = renewed kept was old.known new.known asks.next_hop asks.renews
  turned hop made candidates upper kept was is old new sent (inr (inr begins)) = stepped new.walk old.known new.known begins.steps.known

  -- ---- so no more are stale
  stale_ones : Hops A → Hops A
  stale_ones hops = retain_keys hops (λ a. is_stale_at (tables.get hops a))

  is_one : (hops : Hops A) (a : ℕ) → is_some (tables.get (stale_ones hops) a) ≡ is_stale_at (tables.get hops a)
  unfolding stale_ones
  is_one hops a =
      ap is_some (get-retain_keys hops (λ b. is_stale_at (tables.get hops b)) a (λ x e. ap (λ b. is_stale_at (tables.get hops b)) (sym (nat_cmp-IsAntisymmetric a x e)))) ∙ by_hop (tables.get hops a)
    where
      by_test : (h : Hop A) (b : Bool) → is_some (cond b (Some h) None) ≡ b
      by_test h true = refl
      by_test h false = refl

      by_hop : (o : Option (Hop A)) → is_some (cond (is_stale_at o) o None) ≡ is_stale_at o
      by_hop None = refl
      by_hop (Some h) = by_test h (is_stale_at (Some h))

  pub no_more : (old new : Hops A) → StaleBefore old new → stale_count new ≤ stale_count old
  unfolding stale_ones
  no_more old new before = fewer_keys (stale_ones new) (stale_ones old) (λ a one. is_one old a ∙ before a (sym (is_one new a) ∙ one))

-- ---- all resolvers
pub record AllBefore (h h' : Resolvers) : Type 0 where
  pub peers : (k a : ℕ) → is_stale_by (resolver_at k h') a ≡ true → is_stale_by (resolver_at k h) a ≡ true
  pub fewer : stale_in h' ≤ stale_in h

pub all_as_before : (h h' : Resolvers) → h' ≡ h → AllBefore h h'
all_as_before h h' same = record {
  peers = λ k a stale. subst (λ (x : Resolvers). is_stale_by (resolver_at k x) a ≡ true) same stale;
  fewer = let e : stale_in h' ≡ stale_in h = ap stale_in same in omega (arith, e);
}

-- where one becomes another
pub put_before : (k : ℕ) (h h' : Resolvers) (resolver taken : Resolving Metric) → resolver_at k h ≡ Some resolver → h' ≡ put_resolver k taken h → StaleBefore resolver.known taken.known → AllBefore h h'
put_before k h h' resolver taken at after before = record {
  peers = λ j a stale. by_number j a (subst (λ (x : Resolvers). is_stale_by (resolver_at j x) a ≡ true) after stale);
  fewer = let one = no_more resolver.known taken.known before in let sum = replaced in omega (arith, one, sum);
}
  where
    by_number : (j a : ℕ) → is_stale_by (resolver_at j (put_resolver k taken h)) a ≡ true → is_stale_by (resolver_at j h) a ≡ true
    by_number j a = by_bool (nat_eq j k) (λ _. is_stale_by (resolver_at j (put_resolver k taken h)) a ≡ true → is_stale_by (resolver_at j h) a ≡ true)
        (λ same stale.
        let here : is_stale_by (resolver_at j (put_resolver k taken h)) a ≡ is_stale_at (tables.get taken.known a) = ap (λ (n : ℕ). is_stale_by (resolver_at n (put_resolver k taken h)) a) (equal_by j k same) ∙ ap (λ (o : Option (Resolving Metric)). is_stale_by o a) (put_here k taken h) in
        ap (λ (n : ℕ). is_stale_by (resolver_at n h) a) (equal_by j k same) ∙ ap (λ (o : Option (Resolving Metric)). is_stale_by o a) at ∙ before a (sym here ∙ stale))
        (λ other stale. ap (λ (o : Option (Resolving Metric)). is_stale_by o a) (sym (put_other k taken h j other)) ∙ stale)

    replaced : stale_in h' + stale_of resolver ≡ stale_in h + stale_of taken
    replaced = subst (λ (x : Resolvers). stale_in x + stale_of resolver ≡ stale_in h + stale_of taken) (sym after) (sum_replaced nat_cmp_total stale_of h k taken resolver at)

-- a change on `filt.K`, or none
pub resolved : (k : ℕ) (sent passed : Option (Change Route)) (r r' : Registry Interior) (h h' : Resolvers) (entries : List (Entry Value)) → Resolves k sent passed r r' h h' entries → AllBefore h h'
resolved k None passed r r' h h' entries t = all_as_before h h' t.2
resolved k (Some change) passed r r' h h' entries t = put_before k h h' t.resolver t.taken t.at t.after (kept_or_learnt metric_of r t.resolver.known t.taken.known t.keeps.hops)

-- ---- a moment
pub none_goes_stale : (m m' : Moment) → AllBefore m.hops m'.hops → StaleBefore m.rib.forwarding.known m'.rib.forwarding.known → NoneGoesStale m m'
none_goes_stale m m' hops rib = record { peers = hops.peers; external = rib; fewer = hops.fewer; fewer_external = no_more m.rib.forwarding.known m'.rib.forwarding.known rib }

-- where nothing changes of next hops
pub none_as_before : (m m' : Moment) → m'.hops ≡ m.hops → m'.rib ≡ m.rib → NoneGoesStale m m'
none_as_before m m' hops rib = none_goes_stale m m' (all_as_before m.hops m'.hops hops) (as_before m.rib.forwarding.known m'.rib.forwarding.known (ap (λ (x : RibExit). x.forwarding.known) rib))

none_then : (a b c : Moment) → NoneGoesStale a b → NoneGoesStale b c → NoneGoesStale a c
none_then a b c x y = record {
  peers = λ k n stale. x.peers k n (y.peers k n stale);
  external = λ n stale. x.external n (y.external n stale);
  fewer = let p = x.fewer in let q = y.fewer in omega (arith, p, q);
  fewer_external = let p = x.fewer_external in let q = y.fewer_external in omega (arith, p, q);
}

-- ---- a phase
pub makes_none : (r : Phase) (m m' : Moment) → NoneGoesStale m m' → MakesNoneStale r m m'
makes_none phases.Rdel m m' none = tt
makes_none other m m' none = none

pub stale_then : (r : Phase) (a b c : Moment) → MakesNoneStale r a b → MakesNoneStale r b c → MakesNoneStale r a c
stale_then phases.Rdel a b c x y = tt
stale_then other a b c x y = none_then a b c x y
