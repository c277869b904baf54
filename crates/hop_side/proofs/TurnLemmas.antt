-- A turn of one resolver, as one of the side.
use Rattle.std.proofs.Common.{◌≡◌, ℕ, ◌+◌, ◌≤◌, Option, Some, None, refl, sym, ap, subst, ◌∙◌, arith}
use Rattle.std.specs.Cmp.{nat_cmp_total}
use Rattle.bgp_attr.specs.Routes.{Route}
use Rattle.addr4.specs.Prefixes.{AddressPrefix}
use Rattle.link_change.specs.Rows.{Rows, Candidates}
use Rattle.link_change.specs.Changes.{IsSent}
use Rattle.link_change.specs.Changes.{Change}
use Rattle.link_change.specs.Turns.{Turn}
use Rattle.link_change.specs.declared.turn.Turn.TheVariants as turns
use Rattle.link_change.proofs.MapLemmas.{sum_replaced}
use Rattle.rib_route.specs.Rows.{Interior}
use Rattle.register_interest.specs.Registers.{Registry, AllStand as MatchesStand}
use Rattle.nexthop_known.specs.Counts.{Counts, AreCounted}
use Rattle.pass_core.specs.Left.{CountsBeyond}
use Rattle.nexthop_resolver.specs.declared.rows.Metric.{Metric}
use Rattle.nexthop_resolver.specs.Kept.{route_hop, metric_of, with_metric}
use Rattle.nexthop_resolver.specs.Resolving.{Resolving, AreNamed, named_by}
use Rattle.nexthop_resolver.specs.Registered.{Agrees, KeepsOthers}
use Rattle.nexthop_resolver.specs.Turns.{Turned, IsTurn}
use Rattle.nexthop_resolver.specs.Left.{turns_left}
use Rattle.nexthop_resolver.proofs.AlikeLemmas.{tells_metrics}
use Rattle.nexthop_resolver.proofs.TurnLemmas as resolver
use Rattle.nexthop_resolver.proofs.LeftLemmas.{turns_fall, rests_idle}
use Rattle.journal_text.specs.Journals.{Journaled, with_entries, Adds}
use Rattle.journal_text.proofs.JournalLemmas.{with_entries_none}
use Rattle.hop_side.specs.Resolvers.{Resolvers, resolver_at, put_resolver, metric_rows, IsHops, AllAgree, same_metric, busy_by, known_of, known_in, Beyonds, left_of, left_in}
use Rattle.hop_side.specs.Steps.{res_entries, TurnsBelow, ComesBelow}
use Rattle.hop_side.proofs.PutLemmas.{put_same}
use Rattle.hop_side.proofs.StepLemmas.{goes_on, agreed_on}

module _ (candidates : Candidates) (upper : Rows Route) (was is : Registry Interior) (s s' : Resolving Metric) where
  abbrev Turns : Option (Change Route) → Type 0
  Turns sent = Turned route_hop with_metric candidates upper metric_of was is s s' sent

  turned_rows : (sent : Option (Change Route)) → Turns sent → (p : AddressPrefix) × IsSent (metric_rows s upper) (metric_rows s' upper) p sent
  turned_rows None t = (record { address = 0; length = 0 }, resolver.turn_leads route_hop with_metric candidates upper metric_of was is s s' turns.Quiet t)
  turned_rows (Some change) t = (change.prefix, resolver.turn_leads route_hop with_metric candidates upper metric_of was is s s' (turns.Sent change) t)

  module _ (a : Resolvers) (k : ℕ) (at : resolver_at k a ≡ Some s) (hops : IsHops a) where
    abbrev turned_all : Resolvers
    turned_all = put_resolver k s' a

    turned_fewer : (sent : Option (Change Route)) → Turns sent → (beyonds : Beyonds) → CountsBeyond candidates (beyonds k) → left_in beyonds turned_all + 1 ≤ left_in beyonds a
    turned_fewer sent t beyonds counts =
        let own = (hops k s at).client in
        let fall = turns_fall route_hop with_metric candidates upper metric_of was is same_metric (beyonds k) tells_metrics counts s s' sent t in
        let after : left_of beyonds s' ≡ turns_left same_metric (beyonds k) s' = ap (λ (n : ℕ). turns_left same_metric (beyonds n) s') (resolver.turned_client route_hop with_metric candidates upper metric_of was is s s' sent t ∙ own) in
        let before : left_of beyonds s ≡ turns_left same_metric (beyonds k) s = ap (λ (n : ℕ). turns_left same_metric (beyonds n) s) own in
        let sum = sum_replaced nat_cmp_total (left_of beyonds) a k s' s at in
        omega (arith, fall, after, before, sum)

    turned_sum : (sent : Option (Change Route)) → Turns sent → known_in turned_all ≡ known_in a
    turned_sum sent t =
        let one = resolver.turned_known route_hop with_metric candidates upper metric_of was is s s' sent t in
        let sum = sum_replaced nat_cmp_total known_of a k s' s at in
        omega (arith, one, sum)

    turned_below : (sent : Option (Change Route)) (before now : Journaled) → Turns sent → AllAgree a was → AreNamed s'.counts s'.known → Agrees metric_of s'.client s'.known is → KeepsOthers s.client was is → MatchesStand is
        → now ≡ with_entries before (res_entries k sent) → Adds (TurnsBelow k candidates upper sent was is a turned_all) before now
    turned_below sent before now t agree named here others stand lines = (
      res_entries k sent,
      lines,
      record {
        turn = record { resolver = s; at = at; taken = s'; turned = t; lines = refl; after = refl };
        agreed = agreed_on a k s s' at hops was is (resolver.turned_client route_hop with_metric candidates upper metric_of was is s s' sent t) named agree here others stand;
        goes = λ uppers above counted.
            let out = turned_rows sent t in (
              out.0,
              goes_on a k s s' at uppers uppers (λ j other. refl) out.0 sent (subst (λ (rows : Rows Route). IsSent (metric_rows s rows) (metric_rows s' rows) out.0 sent) (sym above) out.1) counted
                  (subst (λ (n : Counts). AreCounted (named_by route_hop (uppers k)) n) (sym (resolver.turned_counts route_hop with_metric candidates upper metric_of was is s s' sent t)) (counted k s at)),
            );
        fewer = turned_fewer sent t;
        known = turned_sum sent t;
      },
    )

    module _ (turn : Turn Route) (taken : IsTurn route_hop with_metric candidates upper metric_of was is s s' turn) (agree : AllAgree a was) (named : AreNamed s'.counts s'.known)
        (here : Agrees metric_of s'.client s'.known is) (others : KeepsOthers s.client was is) (stand : MatchesStand is) (before : Journaled) where
      pub rests_below : turn ≡ turns.Nothing → ComesBelow k candidates upper was is a turned_all before before turns.Nothing
      rests_below none =
          let t = subst (λ (x : Turn Route). IsTurn route_hop with_metric candidates upper metric_of was is s s' x) none taken in
          (ap busy_by at ∙ rests_idle same_metric s tells_metrics t.0, ap (λ (x : Resolving Metric). put_resolver k x a) t.1 ∙ put_same k s a at, t.2, refl)

      pub quiet_below : turn ≡ turns.Quiet → ComesBelow k candidates upper was is a turned_all before before turns.Quiet
      quiet_below quiet =
          turned_below None before before (subst (λ (x : Turn Route). IsTurn route_hop with_metric candidates upper metric_of was is s s' x) quiet taken) agree named here others stand (sym (with_entries_none before))

      pub sent_below : (change : Change Route) (now : Journaled) → turn ≡ turns.Sent change → now ≡ with_entries before (res_entries k (Some change))
          → ComesBelow k candidates upper was is a turned_all before now (turns.Sent change)
      sent_below change now out lines =
          turned_below (Some change) before now (subst (λ (x : Turn Route). IsTurn route_hop with_metric candidates upper metric_of was is s s' x) out taken) agree named here others stand lines

-- a peer that has no resolver
pub none_below : (k : ℕ) (candidates : Candidates) (upper : Rows Route) (was : Registry Interior) (a : Resolvers) (before : Journaled) → resolver_at k a ≡ None
    → ComesBelow k candidates upper was was a a before before turns.Nothing
none_below k candidates upper was a before none = (ap busy_by none, refl, refl, refl)
