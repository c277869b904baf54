-- What follows a change on `filt.K`: what the resolvers' entries lead to, and what is claimed of them then.
use Rattle.router_moments.proofs.Common.{sym, subst, ◌∙◌, ap, ◌≡◌, ℕ, refl, List, true, false, ◌++◌, suc, zero, nat_eq, ◌≢◌, AddressPrefix, Route, Speaker, best_rows, Exited, resolver_at, Resolvers, PeerRows, hop_links, IsHops, res_at, AllAgree, AllCounted, ComesOn, LeadsRes, HasNoInterest, entries_of_entries, with_entries_append, leads_append, leads_nowhere, Journaled, Adds, with_entries, entries_of, Leads, Links, Entry, Link, Res, Value, IsSent, Rows, Change, joined, with_side, Sides, LeadsIn, Region, Decided, Inward, Resolved, Outward, Resolving, Metric, chain_at, Chains, filt_at, peer_links, Registry, Interior, all_at, best_at, best_links, best_entries, Queues, resolved_at, Moment, best_of, router_links, own_of, with_exits, with_chains, parts, with_hops, Stands, HopsStand, journal_lines, Decides, SettlesPeer}
use Rattle.std.proofs.Common.{[], Option, Some, None, is_some, IsSome}
use Rattle.std.specs.FinMap as tables
use Rattle.register_interest.specs.Interests.{Interest}
use Rattle.register_interest.specs.Covers.{matched}
use Rattle.register_interest.specs.Interests.{without}
use Rattle.register_interest.specs.Registers.{KeepsAnswers, AllStand as MatchesStand}
use Rattle.nexthop_resolver.specs.Registered.{KeepsOthers}
use Rattle.journal_text.proofs.JournalLemmas.{with_entries_none}
use Rattle.link_region.specs.declared.regions.Region.TheVariants.{External}
use Rattle.hop_side.specs.Resolvers.{is_res, beside}
use Rattle.hop_side.specs.Steps.{KeepsAgreed, HaveSamePeers, TakesBelow, ReachesBelow}
use Rattle.hop_side.proofs.LawLemmas.{leads_anywhere}
use Rattle.peer_side.specs.Steps.{WeldsInward}
use Rattle.router_moments.specs.Turns.{ResolvesOn}
use Rattle.router_moments.proofs.BestLemmas.{best_leads, best_quiet, comes_none}
use Rattle.router_moments.proofs.QueueLemmas.{queue_external, queue_links}

-- A change on `res.K` of a peer comes among all branches, since this speaker's own rows stay; no peer's number is 0.
pub all_comes : (own : Rows Route) (a a' : Chains) (h h' : Resolvers) (k : ℕ) (p : AddressPrefix) (sent : Option (Change Route)) → k ≢ 0 → ComesOn k p sent (resolved_at a h) (resolved_at a' h') → ComesOn k p sent (all_at own a h) (all_at own a' h')
all_comes own a a' h h' zero p sent peer comes = absurd (peer refl)
all_comes own a a' h h' (suc k) p sent peer comes = record { here = comes.here; others = others }
  where
    others : (j : ℕ) → nat_eq j (suc k) ≡ false → all_at own a' h' j ≡ all_at own a h j
    others zero e = refl
    others (suc j) e = comes.others (suc j) e

-- the reader of the forwarding side, if there is one, is one of the queue's
abbrev pub HasReader : Moment → Type 0
HasReader m = (r : ℕ) → m.reader ≡ Some r → IsSome (tables.get m.exits.queue r)

-- ---- the region of the links `res.K`
pub res_leads : (old new : Links Value) (entries : List (Entry Value)) → LeadsRes old entries new → LeadsIn Resolved old entries new
res_leads old new entries leads sides is =
    leads_anywhere old new entries (joined sides) (joined (with_side sides Resolved new)) leads (λ k. ap (λ (l : Links Value). l (Res k)) is) (λ k. refl) stays
  where
    stays : (link : Link) → is_res link ≡ false → joined (with_side sides Resolved new) link ≡ joined sides link
    stays (Res k) e = absurd (let clash : true ≡ false = e in cc)
    stays other e = refl

-- the resolvers, and the register, in the router, and what is decided then
abbrev gone_on : Moment → Resolvers → Sides
gone_on m h = with_side (parts m) Resolved (hop_links h (filt_at m.chains))

pub leads_resolved : (m : Moment) (me : Speaker) (r : Registry Interior) (h : Resolvers) (e : Exited) (p : AddressPrefix) (entries : List (Entry Value)) (best : Option (Change Route)) → m.declared.speaker ≡ Some me → HasReader m
    → LeadsRes (hop_links m.hops (filt_at m.chains)) entries (hop_links h (filt_at m.chains)) → IsSent (best_of m) (best_at (own_of m) m.chains h) p best → Queues best m.exits e
    → Leads (router_links m) (entries_of (journal_lines (entries ++ best_entries best))) (router_links (with_exits (with_hops m r h) e))
leads_resolved m me r h e p entries best since live leads sent queued =
    subst (λ (es : List (Entry Value)). Leads (router_links m) es (router_links (with_exits (with_hops m r h) e))) (sym (entries_of_entries (entries ++ best_entries best)))
    (subst (λ (s : Sides). Leads (router_links m) (entries ++ best_entries best) (joined s)) set
    (leads_append (router_links m) (joined (gone_on m h)) (joined (with_side (gone_on m h) Decided (best_links m.declared.speaker (best_at (own_of m) m.chains h)))) entries (best_entries best)
    (res_leads (hop_links m.hops (filt_at m.chains)) (hop_links h (filt_at m.chains)) entries leads (parts m) refl)
    (best_leads m.declared.speaker me (best_of m) (best_at (own_of m) m.chains h) p best since sent (gone_on m h) refl)))
  where
    each : (s : Region) → with_side (gone_on m h) Decided (best_links m.declared.speaker (best_at (own_of m) m.chains h)) s ≡ parts (with_exits (with_hops m r h) e) s
    each External = sym (queue_external m.exits e best m.reader (best_of m) (best_at (own_of m) m.chains h) p live queued sent)
    each Outward = sym (queue_links m.exits e best (best_of m) (best_at (own_of m) m.chains h) p queued sent)
    each other = refl

    set : with_side (gone_on m h) Decided (best_links m.declared.speaker (best_at (own_of m) m.chains h)) ≡ parts (with_exits (with_hops m r h) e)
    set i s = each s i

-- entries behind others
pub leads_both : (a b c : Links Value) (xs ys : List (Entry Value)) → Leads a (entries_of (journal_lines xs)) b → Leads b (entries_of (journal_lines ys)) c → Leads a (entries_of (journal_lines (xs ++ ys))) c
leads_both a b c xs ys first next =
    subst (λ (es : List (Entry Value)). Leads a es c) (sym (entries_of_entries (xs ++ ys)))
    (leads_append a b c xs ys (subst (λ (es : List (Entry Value)). Leads a es b) (entries_of_entries xs) first) (subst (λ (es : List (Entry Value)). Leads b es c) (entries_of_entries ys) next))

-- a fall in the peers' chains, what goes on below it, and the weld behind both
abbrev fallen_side : Moment → Chains → Sides
fallen_side m fallen = with_side (parts m) Inward (peer_links fallen)

abbrev gone_side : Moment → Chains → Resolvers → Sides
gone_side m fallen h = with_side (fallen_side m fallen) Resolved (hop_links h (filt_at fallen))

abbrev chosen_side : Moment → Chains → Resolvers → Sides
chosen_side m fallen h = with_side (gone_side m fallen h) Decided (best_links m.declared.speaker (best_at (own_of m) fallen h))

abbrev welded_side : Moment → Chains → Resolvers → Chains → Sides
welded_side m fallen h cs = with_side (chosen_side m fallen h) Inward (peer_links cs)

pub falls_lead : (m : Moment) (me : Speaker) (fallen cs : Chains) (r : Registry Interior) (h : Resolvers) (e : Exited) (p : AddressPrefix) (entries resolved weld : List (Entry Value)) (best : Option (Change Route)) → m.declared.speaker ≡ Some me → HasReader m
    → LeadsIn Inward (peer_links m.chains) entries (peer_links fallen) → LeadsRes (hop_links m.hops (filt_at m.chains)) resolved (hop_links h (filt_at fallen)) → IsSent (best_of m) (best_at (own_of m) fallen h) p best
    → LeadsIn Inward (peer_links fallen) weld (peer_links cs) → filt_at cs ≡ filt_at fallen → Queues best m.exits e
    → Leads (router_links m) (entries_of (journal_lines (entries ++ (resolved ++ (best_entries best ++ weld))))) (router_links (with_exits (with_hops (with_chains m cs) r h) e))
falls_lead m me fallen cs r h e p entries resolved weld best since live falls goes sent welds same queued =
    subst (λ (es : List (Entry Value)). Leads (router_links m) es (router_links (with_exits (with_hops (with_chains m cs) r h) e))) (sym (entries_of_entries (entries ++ (resolved ++ (best_entries best ++ weld)))))
    (subst (λ (s : Sides). Leads (router_links m) (entries ++ (resolved ++ (best_entries best ++ weld))) (joined s)) set
    (leads_append (router_links m) (joined (fallen_side m fallen)) (joined (welded_side m fallen h cs)) entries (resolved ++ (best_entries best ++ weld)) (falls (parts m) refl)
    (leads_append (joined (fallen_side m fallen)) (joined (gone_side m fallen h)) (joined (welded_side m fallen h cs)) resolved (best_entries best ++ weld)
    (res_leads (hop_links m.hops (filt_at m.chains)) (hop_links h (filt_at fallen)) resolved goes (fallen_side m fallen) refl)
    (leads_append (joined (gone_side m fallen h)) (joined (chosen_side m fallen h)) (joined (welded_side m fallen h cs)) (best_entries best) weld
    (best_leads m.declared.speaker me (best_of m) (best_at (own_of m) fallen h) p best since sent (gone_side m fallen h) refl) (welds (chosen_side m fallen h) refl)))))
  where
    kept : best_at (own_of m) cs h ≡ best_at (own_of m) fallen h
    kept = best_quiet (own_of m) fallen cs h (λ j. ap (λ (u : PeerRows). u j) same)

    after : IsSent (best_of m) (best_at (own_of m) cs h) p best
    after = subst (λ (rows : Rows Route). IsSent (best_of m) rows p best) (sym kept) sent

    each : (s : Region) → welded_side m fallen h cs s ≡ parts (with_exits (with_hops (with_chains m cs) r h) e) s
    each Resolved = ap (hop_links h) (sym same)
    each Decided = ap (best_links m.declared.speaker) (sym kept)
    each External = sym (queue_external m.exits e best m.reader (best_of m) (best_at (own_of m) cs h) p live queued after)
    each Outward = sym (queue_links m.exits e best (best_of m) (best_at (own_of m) cs h) p queued after)
    each other = refl

    set : welded_side m fallen h cs ≡ parts (with_exits (with_hops (with_chains m cs) r h) e)
    set i s = each s i

-- ---- what is claimed of the resolvers
-- where no row of `filt.K` changed
pub hops_quiet : (m : Moment) (cs : Chains) → Stands m → ((j : ℕ) → filt_at cs j ≡ filt_at m.chains j) → ((j : ℕ) → is_some (chain_at j cs) ≡ is_some (chain_at j m.chains)) → HopsStand cs m.registry m.hops
hops_quiet m cs stands quiet same = record {
  sound = stands.hops.sound;
  same = λ k. stands.hops.same k ∙ sym (same k);
  agree = stands.hops.agree;
  counted = subst (λ (u : PeerRows). AllCounted u m.hops) (λ i j. sym (quiet j) i) stands.hops.counted;
  strangers = stands.hops.strangers;
  matches = stands.hops.matches;
}

no_resolver : (o p : Option (Resolving Metric)) → is_some p ≡ is_some o → p ≡ None → o ≡ None
no_resolver None p same none = refl
no_resolver (Some s) p same none = absurd (let clash : true ≡ false = sym same ∙ ap is_some none in cc)

-- who is no peer has no interest, where another asked
strangers_stay : (k : ℕ) (r r' : Registry Interior) (h h' : Resolvers) → KeepsOthers k r r' → HaveSamePeers h h' → IsSome (resolver_at k h) → ((j : ℕ) → j ≢ 0 → resolver_at j h ≡ None → HasNoInterest j r)
    → (j : ℕ) → j ≢ 0 → resolver_at j h' ≡ None → HasNoInterest j r'
strangers_stay k r r' h h' keeps peers there none j own absent s =
    ap is_some (keeps.interests (record { subnet = s; client = j }) (λ same. let gone : is_some (resolver_at k h) ≡ false = ap (λ (n : ℕ). is_some (resolver_at n h)) (sym same) ∙ ap is_some was in let is = there in absurd (let clash : true ≡ false = sym is ∙ gone in cc)))
    ∙ none j own was s
  where
    was : resolver_at j h ≡ None
    was = no_resolver (resolver_at j h) (resolver_at j h') (peers j) absent

-- where a change of `filt.K` went on
pub hops_fall : (m : Moment) (k : ℕ) (fallen cs : Chains) (r : Registry Interior) (h : Resolvers) → Stands m → KeepsAgreed k m.registry r m.hops h → AllCounted (filt_at fallen) h → filt_at cs ≡ filt_at fallen → IsSome (resolver_at k m.hops)
    → ((j : ℕ) → is_some (chain_at j cs) ≡ is_some (chain_at j m.chains)) → HopsStand cs r h
hops_fall m k fallen cs r h stands agreed counted quiet there same = record {
  sound = agreed.sound;
  same = λ j. agreed.peers j ∙ stands.hops.same j ∙ sym (same j);
  agree = agreed.agree;
  counted = subst (λ (u : PeerRows). AllCounted u h) (sym quiet) counted;
  strangers = strangers_stay k m.registry r m.hops h agreed.others agreed.peers there stands.hops.strangers;
  matches = agreed.stands;
}

-- where the register gave interests up
pub hops_reached : (m : Moment) (reached : List Interest) (r : Registry Interior) (h : Resolvers) → Stands m → r.interests ≡ without m.registry.interests reached → KeepsAnswers m.registry r → ReachesBelow reached m.hops h → HopsStand m.chains r h
hops_reached m reached r h stands given answers below = record {
  sound = below.sound;
  same = λ k. below.stays.peers k ∙ stands.hops.same k;
  agree = below.agree m.registry r stands.hops.agree given answers;
  counted = below.stays.counted (filt_at m.chains) stands.hops.counted;
  strangers = λ k own none s. kept (record { subnet = s; client = k }) (tables.get r.interests (record { subnet = s; client = k })) refl (stands.hops.strangers k own (no_resolver (resolver_at k m.hops) (resolver_at k h) (below.stays.peers k) none) s);
  matches = λ i found at.
      let same = answers i found at in
      let was = stands.hops.matches i found same.0 in
      (was.0, λ a holds. ap matched (same.1 a holds) ∙ was.1 a holds);
}
  where
    kept : (i : Interest) (o : Option (Option AddressPrefix)) → tables.get r.interests i ≡ o → is_some (tables.get m.registry.interests i) ≡ false → is_some o ≡ false
    kept i None is none = refl
    kept i (Some m0) is none = absurd (let was : is_some (tables.get m.registry.interests i) ≡ true = ap is_some (answers i m0 is).0 in let clash : true ≡ false = sym was ∙ none in cc)

-- ---- what follows a change on `filt.K`, whether one came out or not
pub resolved_none : (k : ℕ) (r : Registry Interior) (h : Resolvers) (j : Journaled) → IsHops h → AllAgree h r → MatchesStand r → Adds (ResolvesOn k None None r r h h) j j
resolved_none k r h j sound agree matches = (
  [],
  sym (with_entries_none j),
  record {
    lines = refl;
    resolves = (refl, refl, refl);
    agreed = record { sound = sound; agree = agree; others = record { rows = refl; interests = λ i other. refl }; peers = λ j. refl; stands = matches };
    goes = λ uppers now p counted comes.
        let same : now ≡ uppers = comes_none k p uppers now comes in
        record {
          comes = record { here = ap (λ (u : PeerRows). res_at h u k) same; others = λ j other. ap (λ (u : PeerRows). res_at h u j) same };
          leads = λ others. leads_nowhere _ _ (ap (λ (u : PeerRows). beside others (hop_links h u)) (sym same));
          counted = subst (λ (u : PeerRows). AllCounted u h) (sym same) counted;
        };
  },
)

pub resolved_some : (k : ℕ) (change : Change Route) (sent : Option (Change Route)) (r r' : Registry Interior) (h h' : Resolvers) (before now : Journaled) → Adds (TakesBelow k change sent r r' h h') before now
    → Adds (ResolvesOn k (Some change) sent r r' h h') before now
resolved_some k change sent r r' h h' before now adds = (
  adds.0,
  adds.1,
  record {
    lines = adds.2.takes.lines;
    resolves = adds.2.takes;
    agreed = adds.2.agreed;
    goes = adds.2.goes;
  },
)

-- by whether one came out
pub resolved_out : (k : ℕ) (sent : Option (Change Route)) (r : Registry Interior) (h : Resolvers) (j : Journaled) → sent ≡ None → IsHops h → AllAgree h r → MatchesStand r → Adds (ResolvesOn k sent None r r h h) j j
resolved_out k sent r h j is sound agree matches = subst (λ (s : Option (Change Route)). Adds (ResolvesOn k s None r r h h) j j) (sym is) (resolved_none k r h j sound agree matches)

pub resolved_in : (k : ℕ) (sent : Option (Change Route)) (change : Change Route) (below : Option (Change Route)) (m v : Moment) (r : Registry Interior) (h : Resolvers) (before now : Journaled) → v ≡ m → sent ≡ Some change
    → Adds (TakesBelow k change below v.registry r v.hops h) before now → Adds (ResolvesOn k sent below m.registry r m.hops h) before now
resolved_in k sent change below m v r h before now view is adds = subst (λ (n : Moment). Adds (ResolvesOn k sent below n.registry r n.hops h) before now) view
    (subst (λ (s : Option (Change Route)). Adds (ResolvesOn k s below v.registry r v.hops h) before now) (sym is) (resolved_some k change below v.registry r v.hops h before now adds))

-- what follows, and the weld behind it
pub settled_peer : (k : ℕ) (sent passed : Option (Change Route)) (m m1 m2 v : Moment) (cs : Chains) (before j l now : Journaled) → v ≡ m2 → Adds (ResolvesOn k sent passed m.registry m1.registry m.hops m1.hops) before j → m1 ≡ with_hops m m1.registry m1.hops
    → Adds (Decides k passed m1 m2) j l → Adds (WeldsInward k v.chains cs) l now → Adds (SettlesPeer k sent m (record v { chains = cs })) before now
settled_peer k sent passed m m1 m2 v cs before j l now view res after best welds =
    subst (λ (n : Moment). Adds (SettlesPeer k sent m (record n { chains = cs })) before now) (sym (view ∙ best.2.after)) (
      res.0 ++ (best.0 ++ w.0),
      w.1 ∙ ap (λ (x : Journaled). with_entries x w.0) (best.1 ∙ ap (λ (x : Journaled). with_entries x best.0) res.1) ∙ with_entries_append (with_entries before res.0) best.0 w.0 ∙ with_entries_append before res.0 (best.0 ++ w.0),
      record {
        resolved = res.0;
        passed = passed;
        below = res.2;
        best = best.0;
        decided = record { best = best.2.decided.best; lines = best.2.decided.lines; decides = subst LeadsBy after best.2.decided.decides };
        weld = w.0;
        welds = w.2;
        queued = subst (λ (e : Exited). Queues best.2.decided.best e m2.exits) (ap (λ (x : Moment). x.exits) after) best.2.queued;
        lines = refl;
        after = ap (λ (x : Moment). record x { chains = cs; exits = m2.exits }) after;
      },
    )
  where
    same : m1.chains ≡ m.chains
    same = ap (λ (x : Moment). x.chains) after

    LeadsBy : Moment → Type 0
    LeadsBy x = (was : PeerRows) (p : AddressPrefix) → ComesOn k p passed was (all_at (own_of x) x.chains m1.hops) → IsSent (best_rows was) (best_at (own_of x) x.chains m1.hops) p best.2.decided.best

    w : Adds (WeldsInward k m.chains cs) l now
    w = subst (λ (a : Chains). Adds (WeldsInward k a cs) l now) (ap (λ (x : Moment). x.chains) view ∙ ap (λ (x : Moment). x.chains) best.2.after ∙ same) welds
