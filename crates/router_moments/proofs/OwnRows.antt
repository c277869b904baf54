-- Rows of `best` that are this speaker's own have no attributes that it doesn't know: they are made of interior routes.
use Rattle.router_moments.proofs.Common.{sym, subst, ◌∙◌, ap, ◌≡◌, ℕ, refl, List, suc, zero, Attrs, Route, Speaker, AddressPrefix, best_is_a_branchs, filtered, resolver_at, Resolvers, rows_by, Chained, filt_rows, Rows, route_hop, with_metric, Resolving, in_force_by, fresh_by, walk_to, goes_on, Metric, Passed, function_at, chain_at, Chains, filt_at, filt_by, Protos, Interior, int_rows, own_rows, all_at, best_at, Moment, best_of, own_of}
use Rattle.std.proofs.Common.{[], Option, Some, None}
use Rattle.pass_core.specs.Passed.{function_of}
use Rattle.filter_bank.proofs.LawLemmas.{filtered_keeps_attrs}
use Rattle.nexthop_resolver.specs.Kept.{with_igp}
use Rattle.nexthop_resolver.specs.Resolving.{Answers, made_by}
use Rattle.in_chain.specs.Incomings.{in_rows}
use Rattle.redist.specs.Local.{local_route}
use Rattle.redist.proofs.LawLemmas.{only_own_routes}

abbrev pub IsKnown : Route → Type 0
IsKnown r = r.from ≡ None → r.attrs.unrecognized ≡ []

abbrev pub AreKnown : Rows Route → Type 0
AreKnown rows = (p : AddressPrefix) (r : Route) → rows p ≡ Some r → IsKnown r

-- ---- the rows of a chain are the peer's
known_filt : (c : Chained) → AreKnown (filt_rows c)
known_filt c p r is = by_attrs (in_rows c.incoming p) is
  where
    by_attrs : (o : Option Attrs) → filtered c.me c.peer (function_at c.filter p) p o ≡ Some r → IsKnown r
    by_attrs None is = absurd (cc)
    by_attrs (Some a) is = λ none. absurd (let of = (filtered_keeps_attrs c.me c.peer (function_at c.filter p) p a r is).from_peer in let clash : None ≡ Some c.peer = sym none ∙ of in cc)

known_filt_at : (a : Chains) (k : ℕ) → AreKnown (filt_at a k)
known_filt_at a k = by_chain (chain_at k a)
  where
    by_chain : (o : Option Chained) → AreKnown (filt_by o)
    by_chain None p r is = absurd (cc)
    by_chain (Some c) p r is = known_filt c p r is

known_with : (r row : Route) (igp : Option ℕ) → with_igp r igp ≡ Some row → IsKnown r → IsKnown row
known_with r row None is h = absurd (cc)
known_with r row (Some n) is h = let same : record r { igp = Some n } ≡ row = cc in subst IsKnown same h

known_goes : (answers : Answers Metric) (o : Option Route) (row : Route) → ((r : Route) → o ≡ Some r → IsKnown r) → goes_on route_hop with_metric answers o ≡ Some row → IsKnown row
known_goes answers None row each is = absurd (cc)
known_goes answers (Some r) row each is = by_answer (answers (route_hop r)) is
  where
    by_answer : (x : Option Metric) → made_by route_hop with_metric r x ≡ Some row → IsKnown row
    by_answer None is = absurd (cc)
    by_answer (Some x) is = known_with r row x.igp is (each r refl)

known_res : (o : Option (Resolving Metric)) (upper : Rows Route) → AreKnown upper → AreKnown (rows_by o upper)
known_res None upper above p row is = absurd (cc)
known_res (Some s) upper above p row is = known_goes (function_of (in_force_by s.known) (walk_to (fresh_by s.known) s.walk) p) (upper p) row (above p) is

-- ---- this speaker's own
known_own : (speaker : Option Speaker) (s : Passed Protos) (int : Rows Interior) → AreKnown (own_rows speaker s int)
known_own None s int p r is = absurd (cc)
known_own (Some me) s int p r is = subst IsKnown (sym (only_own_routes me (function_at s p) p (int p) r is)) (λ none. refl)

known_all : (own : Rows Route) (a : Chains) (h : Resolvers) → AreKnown own → (k : ℕ) → AreKnown (all_at own a h k)
known_all own a h mine zero p r is = mine p r is
known_all own a h mine (suc k) p r is = known_res (resolver_at (suc k) h) (filt_at a (suc k)) (known_filt_at a (suc k)) p r is

pub known_best : (m : Moment) → AreKnown (best_of m)
known_best m p r is =
    let own = own_of m in
    let b = best_is_a_branchs (all_at own m.chains m.hops) p r is in
    known_all own m.chains m.hops (known_own m.declared.speaker m.redist (int_rows m.tree)) b.0 p r b.2
