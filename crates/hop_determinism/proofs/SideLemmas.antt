-- What a step makes of the resolvers of all peers is one.
use Rattle.std.proofs.Common.{◌≡◌, ℕ, List, Option, Some, None, sym, refl, ap, ◌∙◌, subst}
use Rattle.std.specs.Cmp.{nat_cmp_total}
use Rattle.std.specs.FinMap.{same_map, nat_cmp-IsAntisymmetric}
use Rattle.bgp_attr.specs.Routes.{Route}
use Rattle.link_change.specs.Changes.{Change}
use Rattle.rib_route.specs.Rows.{Interior}
use Rattle.register_interest.specs.Registers.{Registry}
use Rattle.nexthop_resolver.specs.declared.rows.Metric.{Metric}
use Rattle.nexthop_resolver.specs.Kept.{route_hop, metric_of, with_metric, same_metric}
use Rattle.nexthop_resolver.specs.Resolving.{Resolving}
use Rattle.nexthop_resolver.specs.Registered.{Agrees, told_of}
use Rattle.nexthop_resolver.specs.Takes.{TakesIn, Keeps}
use Rattle.nexthop_resolver.specs.Turns.{Turned}
use Rattle.nexthop_resolver.specs.Reached.{IsReached}
use Rattle.nexthop_resolver.proofs.AlikeLemmas.{tells_metrics}
use Rattle.nexthop_resolver.proofs.MoveLemmas.{same_some}
use Rattle.journal_text.specs.Lines.{Entry}
use Rattle.journal_text.specs.Lines.{Value}
use Rattle.hop_side.specs.Resolvers.{Resolvers, resolver_at, put_resolver, IsHop, busy_by}
use Rattle.hop_side.specs.Steps.{res_entries, KeepsAgreed, AtPeer}
use Rattle.hop_side.proofs.PutLemmas.{put_here}
use Rattle.hop_determinism.specs.Laws.{TakesHopIsOne, TurnsBelowIsOne, TurnsWithWork, ReachesIsOne}
use Rattle.hop_determinism.proofs.ResolverLemmas.{clients_register_is_one, takes_in_is_one}
use Rattle.hop_determinism.proofs.TurnLemmas.{stale_is_one, turned_is_one, turned_has_work}

abbrev Resolved : Type 0
Resolved = Resolving Metric

-- ---- one resolver is put in its place
module _ (k : ℕ) (was : Registry Interior) (a b : Resolvers) (s : Resolved) (put : b ≡ put_resolver k s a) (r : Registry Interior) (agreed : KeepsAgreed k was r a b) where
  -- what is claimed of it
  own : IsHop k s
  own = agreed.sound k s (ap (resolver_at k) put ∙ put_here k s a)

  -- it agrees with the register after it
  asked : Agrees metric_of k s.known r
  asked = subst (λ (n : ℕ). Agrees metric_of n s.known r) own.client (agreed.agree k s (ap (resolver_at k) put ∙ put_here k s a))

module _ (k : ℕ) (was is it : Registry Interior) (a b c : Resolvers) (s t : Resolved) (put : b ≡ put_resolver k s a) (put_too : c ≡ put_resolver k t a) (same : s ≡ t) where
  -- all are one where it is
  all_are_one : b ≡ c
  all_are_one = put ∙ ap (λ (x : Resolved). put_resolver k x a) same ∙ sym put_too

  -- and so is the register
  register_is_one : KeepsAgreed k was is a b → KeepsAgreed k was it a c → is ≡ it
  register_is_one x y =
      let z = subst (λ (m : Resolvers). KeepsAgreed k was it a m) (sym all_are_one) y in
      clients_register_is_one metric_of k s.known was is it x.others x.stands (asked k was a b s put is x) z.others z.stands (asked k was a b s put it z)

-- where what was sent is one, so is what is said
together : (k : ℕ) (was is it : Registry Interior) (a b c : Resolvers) (sent other : Option (Change Route)) (entries lines : List (Entry Value)) (s t : Resolved)
    → b ≡ put_resolver k s a → c ≡ put_resolver k t a → KeepsAgreed k was is a b → KeepsAgreed k was it a c → entries ≡ res_entries k sent → lines ≡ res_entries k other
    → (s ≡ t) × (sent ≡ other) → (sent ≡ other) × (is ≡ it) × (b ≡ c) × (entries ≡ lines)
together k was is it a b c sent other entries lines s t put put_too x y said said_too same = (
  same.1,
  register_is_one k was is it a b c s t put put_too same.0 x y,
  all_are_one k was is it a b c s t put put_too same.0,
  said ∙ ap (res_entries k) same.1 ∙ sym said_too,
)

-- ---- a change from above, and a turn
pub takes_hop_is_one : TakesHopIsOne
takes_hop_is_one k uppers now p change was is it a b c sent other entries lines counted comes x agreed y agreed' =
    let at = same_some x.resolver y.resolver (sym x.at ∙ y.at) in
    let takes = subst (λ (s : Resolved). TakesIn route_hop with_metric s x.taken change sent) at x.takes in
    let keeps = subst (λ (s : Resolved). Keeps (told_of metric_of was) s x.taken) at x.keeps in
    together k was is it a b c sent other entries lines x.taken y.taken x.after y.after agreed agreed' x.lines y.lines
    (takes_in_is_one route_hop with_metric metric_of was (uppers k) (now k) p change y.resolver x.taken y.taken sent other (counted k y.resolver y.at) comes.here
    takes keeps (own k was a b x.taken x.after is agreed).named y.takes y.keeps (own k was a c y.taken y.after it agreed').named)

pub turns_below_is_one : TurnsBelowIsOne
turns_below_is_one k candidates upper was is it a b c sent other entries lines below below' =
    let x = below.turn in
    let y = below'.turn in
    let at = same_some x.resolver y.resolver (sym x.at ∙ y.at) in
    let turned = subst (λ (s : Resolved). Turned route_hop with_metric candidates upper metric_of was is s x.taken sent) at x.turned in
    together k was is it a b c sent other entries lines x.taken y.taken x.after y.after below.agreed below'.agreed x.lines y.lines
    (turned_is_one route_hop with_metric candidates upper metric_of was is it y.resolver x.taken y.taken sent other turned y.turned)

pub turns_with_work : TurnsWithWork
turns_with_work k candidates upper was is a b sent entries below =
    let x = below.turn in
    ap busy_by x.at ∙ turned_has_work same_metric tells_metrics route_hop with_metric candidates upper metric_of was is x.resolver x.taken sent x.turned

-- ---- what was given up
-- what a peer has after it is one, where what comes of a resolver is
at_peer_is_one : (Is : Resolved → Resolved → Type 0) → ((s x y : Resolved) → Is s x → Is s y → x ≡ y) → (o m n : Option Resolved) → AtPeer Is o m → AtPeer Is o n → m ≡ n
at_peer_is_one Is one None None None x y = refl
at_peer_is_one Is one None None (Some n) x y = absurd y
at_peer_is_one Is one None (Some m) n x y = absurd x
at_peer_is_one Is one (Some s) None n x y = absurd x
at_peer_is_one Is one (Some s) (Some m) None x y = absurd y
at_peer_is_one Is one (Some s) (Some m) (Some n) x y = ap Some (one s m n x y)

pub reaches_is_one : ReachesIsOne
reaches_is_one out a b c x y = same_map nat_cmp_total nat_cmp-IsAntisymmetric b c (λ k.
    at_peer_is_one (IsReached out k) (stale_is_one out k) (resolver_at k a) (resolver_at k b) (resolver_at k c) (x.reaches k) (y.reaches k))
