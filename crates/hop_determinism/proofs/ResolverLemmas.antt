-- What a resolver and its register become is one: by a change from above, and by what a client asks.
use Rattle.std.proofs.Common.{◌≡◌, ◌⊎◌, ℕ, true, Option, Some, sym, ap, ◌∙◌, subst, inl, inr, arith}
use Rattle.std.specs.Cmp.{nat_cmp_total}
use Rattle.std.specs.FinMap.{get, insert, same_map, nat_cmp-IsAntisymmetric}
use Rattle.std.proofs.lemmas.Bool.{cases_eq}
use Rattle.addr4.specs.Prefixes.{AddressPrefix, Holds}
use Rattle.addr4.proofs.BlockLemmas.{size_pos}
use Rattle.link_change.specs.Changes.{IsSent}
use Rattle.register_interest.specs.Width.{width}
use Rattle.rib_route.specs.Rows.{Interior}
use Rattle.register_interest.specs.Covers.{longest, matched}
use Rattle.register_interest.specs.Interests.{Interest}
use Rattle.register_interest.specs.Registers.{Registry, AllStand}
use Rattle.register_interest.proofs.InterestLemmas.{interests_total, exact_interests}
use Rattle.nexthop_known.specs.Hops.{Hop}
use Rattle.nexthop_known.specs.Hops.{Hops, renewed}
use Rattle.nexthop_known.specs.Counts.{Counts}
use Rattle.nexthop_resolver.specs.Resolving.{Resolving, AreNamed, named_by, res_rows}
use Rattle.nexthop_resolver.specs.Registered.{interest_of, told_of, answer_of, Agrees}
use Rattle.nexthop_resolver.specs.Takes.{IsNew, KeepsOrLearns}
use Rattle.nexthop_resolver.proofs.MoveLemmas.{same_some, clash_some}
use Rattle.stage_determinism.proofs.OneLemmas.{sent_is_one}
use Rattle.hop_determinism.specs.Laws.{ClientsRegisterIsOne, ToldIsOne, RenewsIsOne, KeptIsOne, TakesInIsOne}
use Rattle.hop_determinism.proofs.RegisterLemmas.{largest_is_one}
use Rattle.hop_determinism.proofs.KnownLemmas.{same_option, counts_are_one}

-- ---- the register of a client
module _ {R : Type 0} where
  -- the first address of a subnet tells the match that is recorded
  recorded : (r : Registry R) (k : Interest) (m : Option AddressPrefix) → AllStand r → get r.interests k ≡ Some m → m ≡ matched (longest width (get r.rows) k.subnet.address)
  recorded r k m stand at =
      let first : Holds width k.subnet k.subnet.address = record { from = omega arith; to = omega (arith, size_pos width k.subnet.length) } in
      sym ((stand k m at).1 k.subnet.address first)

module _ {A : Type 0} (kept : Option (AddressPrefix × Interior) → A) (client : ℕ) (known : Hops A) where
  -- an interest is that of a known next hop, and so is one of each register that agrees
  interest_stays : (is it : Registry Interior) → Agrees kept client known is → Agrees kept client known it → (s : AddressPrefix) → interest_of client is s ≡ true → interest_of client it s ≡ true
  interest_stays is it agree other s has = let w = agree.wanted s has in (other.present w.0 w.1 s w.2 w.3).kept

pub clients_register_is_one : {A : Type 0} → ClientsRegisterIsOne A
clients_register_is_one kept client known was is it x stand agree y stand' agree' =
    let ints = same_map interests_total exact_interests is.interests it.interests each in
    λ i. record { rows = rows i; interests = ints i }
  where
    rows : is.rows ≡ it.rows
    rows = x.rows ∙ sym y.rows

    own : (s : AddressPrefix) → get is.interests (record { subnet = s; client = client }) ≡ get it.interests (record { subnet = s; client = client })
    own s = same_option _ _ (interest_stays kept client known is it agree agree' s) (interest_stays kept client known it is agree' agree s) (λ m n at there.
        recorded is _ m stand at ∙ ap (λ r. matched (longest width (get r) s.address)) rows ∙ sym (recorded it _ n stand' there))

    each : (k : Interest) → get is.interests k ≡ get it.interests k
    each k = elim (cases_eq k.client client) [
      | inl e ↦
          let is_own : k ≡ record { subnet = k.subnet; client = client } = λ i. record { subnet = k.subnet; client = e i } in
          subst (λ (q : Interest). get is.interests q ≡ get it.interests q) (sym is_own) (own k.subnet)
      | inr ne ↦ x.interests k ne ∙ sym (y.interests k ne)
    ]

-- ---- what is told of next hops
module _ {A : Type 0} where
  -- resolvers with the same parts are one
  pub same_parts : (s t : Resolving A) → s.client ≡ t.client → s.counts ≡ t.counts → s.known ≡ t.known → s.walk ≡ t.walk → s ≡ t
  same_parts s t client counts known walk = λ i. record { client = client i; counts = counts i; known = known i; walk = walk i }

  pub told_is_one : ToldIsOne A
  told_is_one kept rows a h g x y =
      let s = largest_is_one rows a x.subnet y.subnet x.largest y.largest in
      let force = x.in_force ∙ sym y.in_force in
      let fresh = x.fresh ∙ sym y.fresh in
      let came = x.came ∙ ap Some s ∙ sym y.came in
      λ i. record { in_force = force i; fresh = fresh i; came = came i }

  pub renews_is_one : RenewsIsOne A
  renews_is_one kept was old new it a x y =
      let s = largest_is_one (get was.rows) a x.0 y.0 x.2 y.2 in
      x.1 ∙ ap (λ t. insert old a (renewed t (answer_of kept was a) (get old a))) s ∙ sym y.1

  -- a next hop that stays known has its answers, and one that is new those that it was told
  one_hop : (kept : Option (AddressPrefix × Interior) → A) (was : Registry Interior) (old : Hops A) (a : ℕ) (h g : Hop A) → (get old a ≡ Some h) ⊎ IsNew (told_of kept was) old a h → (get old a ≡ Some g) ⊎ IsNew (told_of kept was) old a g → h ≡ g
  one_hop kept was old a h g (inl at) (inl there) = same_some h g (sym at ∙ there)
  one_hop kept was old a h g (inl at) (inr new) = clash_some h _ (sym new.unknown ∙ at)
  one_hop kept was old a h g (inr new) (inl there) = clash_some g _ (sym new.unknown ∙ there)
  one_hop kept was old a h g (inr new) (inr too) = told_is_one kept (get was.rows) a h g new.is_told too.is_told

  -- exactly those that are counted are known
  known_is_one : (kept : Option (AddressPrefix × Interior) → A) (was : Registry Interior) (counts : Counts) (old new it : Hops A) → KeepsOrLearns (told_of kept was) old new → AreNamed counts new → KeepsOrLearns (told_of kept was) old it → AreNamed counts it
      → new ≡ it
  known_is_one kept was counts old new it x named y named' = same_map nat_cmp_total nat_cmp-IsAntisymmetric new it (λ a.
      same_option (get new a) (get it a) (λ has. named' a ∙ sym (named a) ∙ has) (λ has. named a ∙ sym (named' a) ∙ has) (λ h g at there. one_hop kept was old a h g (x a h at) (y a g there)))

  pub kept_is_one : KeptIsOne A
  kept_is_one kept was named old new it x counted are_named y counted' are_named' =
      let counts = counts_are_one named new.counts it.counts counted counted' in
      let known = known_is_one kept was new.counts old.known new.known it.known x.hops are_named y.hops (subst (λ (c : Counts). AreNamed c it.known) (sym counts) are_named') in
      same_parts new it (x.client ∙ sym y.client) counts known (x.walk ∙ sym y.walk)

pub takes_in_is_one : {A R L : Type 0} → TakesInIsOne A R L
takes_in_is_one {A} hop made kept was upper now p change old new it sent other counted led takes keeps named takes' keeps' named' =
    let x = takes upper now p counted led in
    let y = takes' upper now p counted led in
    let same = kept_is_one kept was (named_by hop now) old new it keeps x.counted named keeps' y.counted named' in (
      same,
      sent_is_one (res_rows hop made old upper) (res_rows hop made it now) p p sent other
          (subst (λ (s : Resolving A). IsSent (res_rows hop made old upper) (res_rows hop made s now) p sent) same x.sent_is) y.sent_is,
    )
