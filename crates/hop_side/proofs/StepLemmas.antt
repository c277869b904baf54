-- A step of one resolver, as one of the side.
use Rattle.std.proofs.Common.{◌≡◌, ℕ, true, false, ◌&&◌, cond, Option, Some, None, Result, Ok, Err, OnErr, nat_eq, refl, sym, ap, subst, ◌∙◌}
use Rattle.bgp_attr.specs.Routes.{Route}
use Rattle.addr4.specs.Prefixes.{AddressPrefix}
use Rattle.link_change.specs.Rows.{Rows, no_rows}
use Rattle.link_change.specs.Changes.{IsSent}
use Rattle.link_change.specs.Changes.{Change}
use Rattle.link_change.proofs.RowLemmas.{same_function}
use Rattle.rib_route.specs.Rows.{Interior}
use Rattle.register_interest.specs.Registers.{Registry, AllStand as MatchesStand}
use Rattle.nexthop_known.specs.Counts.{AreCounted}
use Rattle.nexthop_known.proofs.CountLemmas.{nothing_is_counted}
use Rattle.nexthop_resolver.specs.declared.rows.Metric.{Metric}
use Rattle.nexthop_resolver.specs.Kept.{route_hop, metric_of, with_metric}
use Rattle.nexthop_resolver.specs.Resolving.{Resolving, AreNamed, nothing_known, named_by}
use Rattle.nexthop_resolver.specs.Registered.{Agrees, KeepsOthers, told_of}
use Rattle.nexthop_resolver.specs.Takes.{Keeps, TakesIn}
use Rattle.nexthop_resolver.proofs.RowLemmas.{no_rows_at_first}
use Rattle.nexthop_resolver.proofs.AgreeLemmas.{others_agree, nothing_yet}
use Rattle.journal_text.specs.declared.link.Link.{Link}
use Rattle.journal_text.specs.declared.link.Link.TheVariants.{Res}
use Rattle.journal_text.specs.Lines.{Value}
use Rattle.journal_text.specs.Walk.{Links, with_link, Leads}
use Rattle.journal_text.specs.Journals.{Journaled, with_entries, Adds}
use Rattle.journal_text.specs.Values.{route_value, route_rows}
use Rattle.journal_text.proofs.WalkLemmas.{leads_sent, leads_begin}
use Rattle.hop_side.specs.Resolvers.{Resolvers, resolver_at, put_resolver, PeerRows, metric_rows, rows_by, res_at, link_by, hop_links, beside, IsHop, IsHops, AllAgree, AllCounted}
use Rattle.hop_side.specs.Steps.{LeadsRes, ComesOn, GoesOn, res_entries, begin_entries, HasNoInterest, TakesBelow, KeepsAgreed}
use Rattle.hop_side.proofs.PutLemmas.{by_bool, equal_by, differ_by, put_here, put_other, put_each, put_peers}

-- what holds at any rate
pub on_err : {X E : Type 0} (r : Result X E) (P : Type 0) → P → OnErr r P
on_err (Ok x) P p = tt
on_err (Err e) P p = p

module _ (a : Resolvers) (k : ℕ) (s s' : Resolving Metric) (at : resolver_at k a ≡ Some s) where
  abbrev new : Resolvers
  new = put_resolver k s' a

  -- ---- rows above that change to these
  module _ (uppers now : PeerRows) (same : (j : ℕ) → nat_eq j k ≡ false → now j ≡ uppers j) (p : AddressPrefix) (sent : Option (Change Route)) (is : IsSent (metric_rows s (uppers k)) (metric_rows s' (now k)) p sent) where
    comes_on : ComesOn k p sent (res_at a uppers) (res_at new now)
    comes_on = record {
      here = subst (λ (old : Rows Route). IsSent old (res_at new now k) p sent) (sym (ap (λ (o : Option (Resolving Metric)). rows_by o (uppers k)) at))
          (subst (λ (rows : Rows Route). IsSent (metric_rows s (uppers k)) rows p sent) (sym (ap (λ (o : Option (Resolving Metric)). rows_by o (now k)) (put_here k s' a))) is);
      others = λ j other. ap (λ (o : Option (Resolving Metric)). rows_by o (now j)) (put_other k s' a j other) ∙ ap (rows_by (resolver_at j a)) (same j other);
    }

    -- the links with the new rows on `res.K`
    links_then : (others : Links Value) → with_link (beside others (hop_links a uppers)) (Res k) (Some (route_rows (metric_rows s' (now k)))) ≡ beside others (hop_links new now)
    links_then others = same_function _ _ each
      where
        each : (link : Link) → with_link (beside others (hop_links a uppers)) (Res k) (Some (route_rows (metric_rows s' (now k)))) link ≡ beside others (hop_links new now) link
        each (Res j) = by_bool (nat_eq j k) (λ b. cond (b && true) (Some (route_rows (metric_rows s' (now k)))) (link_by (resolver_at j a) (uppers j)) ≡ link_by (resolver_at j new) (now j))
            (λ e. ap (λ (o : Option (Resolving Metric)). link_by o (now k)) (sym (put_here k s' a)) ∙ ap (λ (n : ℕ). link_by (resolver_at n new) (now n)) (sym (equal_by j k e)))
            (λ e. ap (λ (o : Option (Resolving Metric)). link_by o (uppers j)) (sym (put_other k s' a j e)) ∙ ap (link_by (resolver_at j new)) (sym (same j e)))
        each other = refl

    leads_on : LeadsRes (hop_links a uppers) (res_entries k sent) (hop_links new now)
    leads_on others =
        subst (λ (l : Links Value). Leads (beside others (hop_links a uppers)) (res_entries k sent) l) (links_then others)
        (leads_sent route_value (λ x y e. cc) (beside others (hop_links a uppers)) (Res k) (metric_rows s (uppers k)) (metric_rows s' (now k)) p sent (ap (λ (o : Option (Resolving Metric)). link_by o (uppers k)) at) is)

    pub counted_on : AllCounted uppers a → AreCounted (named_by route_hop (now k)) s'.counts → AllCounted now new
    counted_on counted here = put_each (λ j t. AreCounted (named_by route_hop (now j)) t.counts) k s' a here (λ j t other there.
        subst (λ (rows : Rows Route). AreCounted (named_by route_hop rows) t.counts) (sym (same j other)) (counted j t there))

    pub goes_on : AllCounted uppers a → AreCounted (named_by route_hop (now k)) s'.counts → GoesOn k p sent a new (res_entries k sent) uppers now
    goes_on counted here = record { comes = comes_on; leads = leads_on; counted = counted_on counted here }

  -- ---- what is claimed
  module _ (hops : IsHops a) where
    abbrev own : s.client ≡ k
    own = (hops k s at).client

    pub sound_on : s'.client ≡ s.client → AreNamed s'.counts s'.known → IsHops new
    sound_on client named = put_each IsHop k s' a (record { client = client ∙ own; named = named }) (λ j t other there. hops j t there)

    -- the register as the resolver left it
    pub agreed_on : (was is : Registry Interior) → s'.client ≡ s.client → AreNamed s'.counts s'.known → AllAgree a was → Agrees metric_of s'.client s'.known is → KeepsOthers s.client was is → MatchesStand is → KeepsAgreed k was is a new
    agreed_on was is client named agree here keeps stand = record {
      sound = sound_on client named;
      agree = put_each (λ j t. Agrees metric_of t.client t.known is) k s' a here (λ j t other there.
          others_agree metric_of t.client s.client t.known was is (λ e. differ_by j k other (sym (hops j t there).client ∙ e ∙ own)) keeps (agree j t there));
      others = subst (λ (n : ℕ). KeepsOthers n was is) own keeps;
      peers = put_peers k s' s a at;
      stands = stand;
    }

    -- ---- a change from above
    pub took : (change : Change Route) (sent : Option (Change Route)) (was is : Registry Interior) (before now : Journaled) → AllAgree a was → TakesIn route_hop with_metric s s' change sent
        → Keeps (told_of metric_of was) s s' → AreNamed s'.counts s'.known → Agrees metric_of s'.client s'.known is → KeepsOthers s.client was is → MatchesStand is → now ≡ with_entries before (res_entries k sent)
        → Adds (TakesBelow k change sent was is a new) before now
    took change sent was is before now agree takes keeps named here others stand lines = (
      res_entries k sent,
      lines,
      record {
        takes = record { resolver = s; at = at; taken = s'; takes = takes; keeps = keeps; lines = refl; after = refl };
        agreed = agreed_on was is keeps.client named agree here others stand;
        goes = λ uppers then p counted comes.
            let t = takes (uppers k) (then k) p (counted k s at) comes.here in
            goes_on uppers then comes.others p sent t.sent_is counted t.counted;
      },
    )

-- ---- a peer that is new
module _ (a : Resolvers) (k : ℕ) (absent : resolver_at k a ≡ None) (s : Resolving Metric) (is : s ≡ nothing_known k) where
  abbrev more : Resolvers
  more = put_resolver k s a

  module _ (uppers : PeerRows) (bare : uppers k ≡ no_rows) where
    -- no row is below
    none_below : metric_rows s (uppers k) ≡ no_rows
    none_below = ap (λ (x : Resolving Metric). metric_rows x (uppers k)) is ∙ ap (λ (rows : Rows Route). metric_rows (nothing_known k) rows) bare ∙ no_rows_at_first route_hop with_metric k

    bare_link : link_by (Some s) (uppers k) ≡ Some no_rows
    bare_link = ap (λ (rows : Rows Route). Some (route_rows rows)) none_below

    begun_links : (others : Links Value) → with_link (beside others (hop_links a uppers)) (Res k) (Some no_rows) ≡ beside others (hop_links more uppers)
    begun_links others = same_function _ _ each
      where
        each : (link : Link) → with_link (beside others (hop_links a uppers)) (Res k) (Some no_rows) link ≡ beside others (hop_links more uppers) link
        each (Res j) = by_bool (nat_eq j k) (λ b. cond (b && true) (Some no_rows) (link_by (resolver_at j a) (uppers j)) ≡ link_by (resolver_at j more) (uppers j))
            (λ e. sym bare_link ∙ ap (λ (o : Option (Resolving Metric)). link_by o (uppers k)) (sym (put_here k s a)) ∙ ap (λ (n : ℕ). link_by (resolver_at n more) (uppers n)) (sym (equal_by j k e)))
            (λ e. ap (λ (o : Option (Resolving Metric)). link_by o (uppers j)) (sym (put_other k s a j e)))
        each other = refl

    pub begun_leads : LeadsRes (hop_links a uppers) (begin_entries k) (hop_links more uppers)
    begun_leads others =
        subst (λ (l : Links Value). Leads (beside others (hop_links a uppers)) (begin_entries k) l) (begun_links others)
        (leads_begin (beside others (hop_links a uppers)) (Res k) (ap (λ (o : Option (Resolving Metric)). link_by o (uppers k)) absent))

    pub begun_counted : AllCounted uppers a → AllCounted uppers more
    begun_counted counted = put_each (λ j t. AreCounted (named_by route_hop (uppers j)) t.counts) k s a
        (subst (λ (rows : Rows Route). AreCounted (named_by route_hop rows) s.counts) (sym bare) (subst (λ (x : Resolving Metric). AreCounted no_rows x.counts) (sym is) nothing_is_counted))
        (λ j t other there. counted j t there)

  pub begun_agree : (r : Registry Interior) → HasNoInterest k r → AllAgree a r → AllAgree more r
  begun_agree r none agree = put_each (λ j t. Agrees metric_of t.client t.known r) k s a
      (subst (λ (x : Resolving Metric). Agrees metric_of x.client x.known r) (sym is) (nothing_yet metric_of k r none)) (λ j t other there. agree j t there)

  pub begun_sound : IsHops a → AreNamed s.counts s.known → IsHops more
  begun_sound hops named = put_each IsHop k s a (record { client = ap (λ (x : Resolving Metric). x.client) is; named = named }) (λ j t other there. hops j t there)
