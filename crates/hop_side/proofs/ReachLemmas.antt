-- Interests that the register gave up, and the resolvers whose answers came with them.
use Rattle.std.proofs.Common.{◌≡◌, ℕ, ◌++◌, Bool, true, false, List, [], ◌∷◌, Option, Some, None, is_some, MatchBool, nat_eq, refl, sym, ap, subst, ◌∙◌, arith}
use Rattle.std.specs.Cmp.{nat_cmp_total}
use Rattle.std.specs.FinMap.{nat_cmp-IsAntisymmetric}
use Rattle.std.proofs.lemmas.Option.{same_Some}
use Rattle.bgp_attr.specs.Routes.{Route}
use Rattle.link_change.specs.Rows.{Rows}
use Rattle.link_change.proofs.RowLemmas.{same_function}
use Rattle.link_change.proofs.MapLemmas.{sums_within}
use Rattle.register_interest.specs.Interests.{Interest}
use Rattle.nexthop_known.specs.Counts.{AreCounted}
use Rattle.nexthop_resolver.specs.declared.rows.Metric.{Metric}
use Rattle.nexthop_resolver.specs.Kept.{route_hop, metric_of, with_metric}
use Rattle.nexthop_resolver.specs.Resolving.{Resolving, named_by}
use Rattle.nexthop_resolver.specs.Takes.{Invalidates}
use Rattle.nexthop_resolver.specs.Reached.{IsReached, IsReachedBy}
use Rattle.nexthop_resolver.proofs.ReachLemmas.{reached_none, reached_then, reached_rows, reached_len, reached_named, reached_agrees}
use Rattle.journal_text.specs.declared.link.Link.{Link}
use Rattle.journal_text.specs.declared.link.Link.TheVariants.{Res}
use Rattle.journal_text.specs.Values.{route_rows}
use Rattle.hop_side.specs.Resolvers.{Resolvers, resolver_at, put_resolver, PeerRows, rows_by, link_by, hop_links, IsHops, known_of, known_in}
use Rattle.hop_side.specs.Steps.{AtPeer, AllReached, HaveSamePeers, StaysBelow, ReachesOne, ReachesBelow}
use Rattle.hop_side.proofs.PutLemmas.{by_bool, equal_by, same_by, put_here, put_other}

abbrev Resolved : Type 0
Resolved = Resolving Metric

-- ---- of a peer's two resolvers, if it has them
same_peer : (Is : Resolved → Resolved → Type 0) → ((s : Resolved) → Is s s) → (o : Option Resolved) → AtPeer Is o o
same_peer Is each None = tt
same_peer Is each (Some s) = each s

by_peer : (Is : Resolved → Resolved → Type 0) (P : Option Resolved → Option Resolved → Type 0) → P None None → ((x y : Resolved) → Is x y → P (Some x) (Some y)) → (o n : Option Resolved) → AtPeer Is o n → P o n
by_peer Is P none some None None at = none
by_peer Is P none some None (Some y) at = absurd at
by_peer Is P none some (Some x) None at = absurd at
by_peer Is P none some (Some x) (Some y) at = some x y at

then_peer : (Is Then Both : Resolved → Resolved → Type 0) → ((x y z : Resolved) → Is x y → Then y z → Both x z) → (o m n : Option Resolved) → AtPeer Is o m → AtPeer Then m n → AtPeer Both o n
then_peer Is Then Both join o m n first next =
    by_peer Is (λ (a b : Option Resolved). AtPeer Then b n → AtPeer Both a n)
    (elim n as (λ (c : Option Resolved). AtPeer Then None c → AtPeer Both None c) [ None ↦ λ _. tt | Some z ↦ λ no. absurd no ])
    (λ x y is. elim n as (λ (c : Option Resolved). AtPeer Then (Some y) c → AtPeer Both (Some x) c) [ None ↦ λ no. absurd no | Some z ↦ λ then_is. join x y z is then_is ]) o m first next

-- ---- one interest after the other
pub none_reached : (a : Resolvers) → AllReached [] a a
none_reached a k = same_peer (IsReached [] k) (reached_none k) (resolver_at k a)

pub one_more_reached : (out : List Interest) (i : Interest) (a b c : Resolvers) → AllReached out a b → ReachesOne i b c → AllReached (out ++ i ∷ []) a c
one_more_reached out i a b c first next k =
    then_peer (IsReached out k) (IsReachedBy i k) (IsReached (out ++ i ∷ []) k) (λ x y z r step. reached_then out i k x y z r step) (resolver_at k a) (resolver_at k b) (resolver_at k c) (first k) (next k)

pub same_peers : (out : List Interest) (a b c : Resolvers) → AllReached out a b → HaveSamePeers b c → HaveSamePeers a c
same_peers out a b c reached same k = same k ∙ by_peer (IsReached out k) (λ (o n : Option Resolved). is_some n ≡ is_some o) refl (λ x y r. refl) (resolver_at k a) (resolver_at k b) (reached k)

other_stays : (i : Interest) (j : ℕ) → nat_eq i.client j ≡ false → (s : Resolved) → IsReachedBy i j s s
other_stays i j e s = subst (λ (b : Bool). MatchBool b (Invalidates i.subnet s s) (s ≡ s)) (sym e) refl

-- the peer has no resolver
pub reaches_none : (i : Interest) (k : ℕ) (a : Resolvers) → k ≡ i.client → resolver_at k a ≡ None → ReachesOne i a a
reaches_none i k a own none j = by_bool (nat_eq i.client j) (λ b. AtPeer (IsReachedBy i j) (resolver_at j a) (resolver_at j a))
    (λ e. subst (λ (o : Option Resolved). AtPeer (IsReachedBy i j) o o) (sym (ap (λ (n : ℕ). resolver_at n a) (sym (own ∙ equal_by i.client j e)) ∙ none)) tt)
    (λ e. same_peer (IsReachedBy i j) (other_stays i j e) (resolver_at j a))

-- its resolver is told
pub reaches_some : (i : Interest) (k : ℕ) (a : Resolvers) (x y : Resolved) → k ≡ i.client → resolver_at k a ≡ Some x → Invalidates i.subnet x y → ReachesOne i a (put_resolver k y a)
reaches_some i k a x y own at is j = by_bool (nat_eq j k) (λ b. AtPeer (IsReachedBy i j) (resolver_at j a) (resolver_at j (put_resolver k y a)))
    (λ e. subst (λ (n : ℕ). AtPeer (IsReachedBy i n) (resolver_at n a) (resolver_at n (put_resolver k y a))) (sym (equal_by j k e)) here)
    (λ e.
    let apart : nat_eq i.client j ≡ false = by_bool (nat_eq i.client j) (λ b. b ≡ false) (λ t. let clash : true ≡ false = sym (same_by j k (sym (own ∙ equal_by i.client j t))) ∙ e in absurd (cc)) (λ _. refl) in
    subst (λ (o : Option Resolved). AtPeer (IsReachedBy i j) (resolver_at j a) o) (sym (put_other k y a j e)) (same_peer (IsReachedBy i j) (other_stays i j apart) (resolver_at j a)))
  where
    told : IsReachedBy i k x y
    told = subst (λ (b : Bool). MatchBool b (Invalidates i.subnet x y) (y ≡ x)) (sym (same_by i.client k (sym own))) is

    here : AtPeer (IsReachedBy i k) (resolver_at k a) (resolver_at k (put_resolver k y a))
    here = subst (λ (o : Option Resolved). AtPeer (IsReachedBy i k) o (resolver_at k (put_resolver k y a))) (sym at) (subst (λ (o : Option Resolved). AtPeer (IsReachedBy i k) (Some x) o) (sym (put_here k y a)) told)

-- ---- what they leave
module _ (out : List Interest) (a b : Resolvers) (reached : AllReached out a b) where
  -- a peer's resolver was there, and is there
  was_there : (k : ℕ) (t : Resolved) → resolver_at k b ≡ Some t → (s : Resolved) × (resolver_at k a ≡ Some s) × IsReached out k s t
  was_there k t at =
      by_peer (IsReached out k) (λ (o n : Option Resolved). n ≡ Some t → (s : Resolved) × (o ≡ Some s) × IsReached out k s t) (λ e. absurd (cc))
      (λ x y r e. (x, refl, subst (λ (u : Resolved). IsReached out k x u) (same_Some y t e) r)) (resolver_at k a) (resolver_at k b) (reached k) at

  is_there : (k : ℕ) (s : Resolved) → resolver_at k a ≡ Some s → (t : Resolved) × (resolver_at k b ≡ Some t) × IsReached out k s t
  is_there k s at =
      by_peer (IsReached out k) (λ (o n : Option Resolved). o ≡ Some s → (t : Resolved) × (n ≡ Some t) × IsReached out k s t) (λ e. absurd (cc))
      (λ x y r e. (y, refl, subst (λ (u : Resolved). IsReached out k u y) (same_Some x s e) r)) (resolver_at k a) (resolver_at k b) (reached k) at

  same_known : known_in b ≡ known_in a
  same_known =
      let less = sums_within nat_cmp_total nat_cmp-IsAntisymmetric known_of known_of b a (λ k t at. let w = was_there k t at in let len = reached_len out k w.0 t w.2 in (w.0, w.1, omega (arith, len))) in
      let more = sums_within nat_cmp_total nat_cmp-IsAntisymmetric known_of known_of a b (λ k s at. let w = is_there k s at in let len = reached_len out k s w.0 w.2 in (w.0, w.1, omega (arith, len))) in
      omega (arith, less, more)

  same_link : (uppers : PeerRows) (link : Link) → hop_links b uppers link ≡ hop_links a uppers link
  same_link uppers (Res k) = by_peer (IsReached out k) (λ (o n : Option Resolved). link_by n (uppers k) ≡ link_by o (uppers k)) refl
      (λ x y r. ap (λ (rows : Rows Route). Some (route_rows rows)) (reached_rows out k x y r route_hop with_metric (uppers k))) (resolver_at k a) (resolver_at k b) (reached k)
  same_link uppers other = refl

  stays : StaysBelow a b
  stays = record {
    rows = λ uppers. same_function _ _ (λ k.
        by_peer (IsReached out k) (λ (o n : Option Resolved). rows_by n (uppers k) ≡ rows_by o (uppers k)) refl (λ x y r. reached_rows out k x y r route_hop with_metric (uppers k))
        (resolver_at k a) (resolver_at k b) (reached k));
    links = λ uppers. same_function _ _ (same_link uppers);
    counted = λ uppers counted k t at. let w = was_there k t at in subst (AreCounted (named_by route_hop (uppers k))) (sym w.2.counts) (counted k w.0 w.1);
    known = same_known;
    peers = same_peers out a b b reached (λ k. refl);
  }

  pub reaches_below : IsHops a → ReachesBelow out a b
  reaches_below hops = record {
    reaches = reached;
    sound = λ k t at. let w = was_there k t at in record { client = w.2.client ∙ (hops k w.0 w.1).client; named = reached_named out k w.0 t w.2 (hops k w.0 w.1).named };
    stays = stays;
    agree = λ was is agree ints keeps k t at. let w = was_there k t at in reached_agrees out k w.0 t w.2 metric_of was is (hops k w.0 w.1).client (agree k w.0 w.1) ints keeps;
  }
