-- Interests that the register gave up, and a resolver whose answers came with some of them.
use Rattle.std.proofs.Common.{◌≡◌, ℕ, ◌++◌, Bool, true, false, ◌&&◌, ◌||◌, cond, List, [], ◌∷◌, Option, Some, None, is_some, MatchBool, nat_eq, refl, sym, ap, subst, ◌∙◌}
use Rattle.std.proofs.Math.Bool.{or-false}
use Rattle.std.proofs.lemmas.List.Folds.{list_any-append}
use Rattle.std.specs.Option.{option_map}
use Rattle.std.specs.FinMap.{get, len}
use Rattle.addr4.specs.Prefixes.{AddressPrefix}
use Rattle.link_change.specs.Rows.{Rows}
use Rattle.rib_route.specs.Rows.{Interior}
use Rattle.register_interest.specs.Interests.{Interest}
use Rattle.register_interest.specs.Interests.{without}
use Rattle.register_interest.specs.Registers.{Registry, KeepsAnswers}
use Rattle.nexthop_known.specs.Hops.{Hop}
use Rattle.nexthop_known.specs.Hops.{is_with, staled}
use Rattle.nexthop_resolver.specs.Resolving.{Resolving, AreNamed, res_rows}
use Rattle.nexthop_resolver.specs.Registered.{Agrees}
use Rattle.nexthop_resolver.specs.Takes.{Invalidates}
use Rattle.nexthop_resolver.specs.Reached.{is_listed, reached_hop, IsReached, IsReachedBy}
use Rattle.nexthop_resolver.proofs.MoveLemmas.{by_bool, mapped_there, mapped_len}
use Rattle.nexthop_resolver.proofs.RowLemmas.{mapping_keeps_rows}
use Rattle.nexthop_resolver.proofs.AgreeLemmas as agree

-- ---- one interest more
abbrev more : List Interest → Interest → List Interest
more out i = out ++ i ∷ []

listed_more : (out : List Interest) (i : Interest) (k : ℕ) (came : Option AddressPrefix) → is_listed (more out i) k came ≡ (is_listed out k came || (nat_eq i.client k && is_with i.subnet came))
listed_more out i k came = list_any-append (λ (j : Interest). nat_eq j.client k && is_with j.subnet came) out (i ∷ []) ∙ ap (λ (b : Bool). is_listed out k came || b) (or-false (nat_eq i.client k && is_with i.subnet came))

module _ {A : Type 0} where
  module _ (out : List Interest) (i : Interest) (k : ℕ) where
    -- the hop with this subnet, or stale
    abbrev came_where : Hop A → Bool → Hop A
    came_where h stale = record { in_force = h.in_force; fresh = h.fresh; came = cond stale None h.came }

    hop_more : (h : Hop A) (own : Bool) → nat_eq i.client k ≡ own → came_where h (is_listed out k h.came || (own && is_with i.subnet h.came)) ≡ reached_hop (more out i) k h
    hop_more h own e = ap (λ (b : Bool). came_where h (is_listed out k h.came || (b && is_with i.subnet h.came))) (sym e) ∙ ap (came_where h) (sym (listed_more out i k h.came))

    hop_then : (h : Hop A) (listed : Bool) → staled i.subnet (came_where h listed) ≡ came_where h (listed || is_with i.subnet h.came)
    hop_then h true = refl
    hop_then h false = refl

    map_own : (o : Option (Hop A)) → nat_eq i.client k ≡ true → option_map (staled i.subnet) (option_map (reached_hop out k) o) ≡ option_map (reached_hop (more out i) k) o
    map_own None e = refl
    map_own (Some h) e = ap Some (hop_then h (is_listed out k h.came) ∙ hop_more h true e)

    map_other : (o : Option (Hop A)) → nat_eq i.client k ≡ false → option_map (reached_hop out k) o ≡ option_map (reached_hop (more out i) k) o
    map_other None e = refl
    map_other (Some h) e = ap Some (ap (came_where h) (sym (or-false (is_listed out k h.came))) ∙ hop_more h false e)

    pub reached_then : (x y z : Resolving A) → IsReached out k x y → IsReachedBy i k y z → IsReached (more out i) k x z
    reached_then x y z r step =
        by_bool (nat_eq i.client k) (λ b. MatchBool b (Invalidates i.subnet y z) (z ≡ y) → IsReached (more out i) k x z)
        (λ e is. record {
          client = is.client ∙ r.client;
          walk = is.walk ∙ r.walk;
          counts = is.counts ∙ r.counts;
          known = λ q. is.known q ∙ ap (option_map (staled i.subnet)) (r.known q) ∙ map_own (get x.known q) e;
        })
        (λ e same. subst (λ (t : Resolving A). IsReached (more out i) k x t) (sym same) (record { client = r.client; walk = r.walk; counts = r.counts; known = λ q. r.known q ∙ map_other (get x.known q) e })) step

  none_mapped : (k : ℕ) (o : Option (Hop A)) → o ≡ option_map (reached_hop [] k) o
  none_mapped k None = refl
  none_mapped k (Some h) = refl

  pub reached_none : (k : ℕ) (s : Resolving A) → IsReached [] k s s
  reached_none k s = record { client = refl; walk = refl; counts = refl; known = λ q. none_mapped k (get s.known q) }

  -- ---- what they leave
  module _ (out : List Interest) (k : ℕ) (old new : Resolving A) (r : IsReached out k old new) where
    pub reached_rows : {R L : Type 0} (hop : R → ℕ) (made : R → A → Option L) (upper : Rows R) → res_rows hop made new upper ≡ res_rows hop made old upper
    reached_rows hop made upper = mapping_keeps_rows hop made (reached_hop out k) (λ h. refl) (λ h. refl) upper old new r.walk r.known

    pub reached_len : len new.known ≡ len old.known
    reached_len = mapped_len (reached_hop out k) old.known new.known r.known

    pub reached_named : AreNamed old.counts old.known → AreNamed new.counts new.known
    reached_named named a = ap is_some (r.known a) ∙ mapped_there (reached_hop out k) (get old.known a) ∙ named a ∙ ap (λ c. is_some (get c a)) (sym r.counts)

    pub reached_agrees : (kept : Option (AddressPrefix × Interior) → A) (was is : Registry Interior) → old.client ≡ k → Agrees kept old.client old.known was → is.interests ≡ without was.interests out → KeepsAnswers was is
        → Agrees kept new.client new.known is
    reached_agrees kept was is own agrees ints keeps =
        subst (λ (c : ℕ). Agrees kept c new.known is) (sym (r.client ∙ own))
        (agree.reached_agrees kept k out was is old.known new.known ints keeps r.known (subst (λ (c : ℕ). Agrees kept c old.known was) own agrees))
