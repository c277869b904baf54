-- A peer that is declared, and one whose session begins.
use Rattle.router_moments.proofs.Common.{sym, subst, ◌∙◌, ap, ◌≡◌, ℕ, refl, List, true, arith, false, ◌+◌, Bool, ◌++◌, ◌≤◌, cond, suc, nat_eq, not, ◌&&◌, same_Some, Attrs, Route, Speaker, begun_words, peer_at, Declaration, with_session, begun_at, refusal_at, IsWellFormed, DeclaredPeer, AllStand, AllLead, resolver_at, Resolvers, rows_by, PeerRows, hop_links, IsHops, res_at, AllAgree, AllCounted, put_resolver, LeadsRes, HasNoInterest, Chained, filt_rows, with_entries_append, Journaled, with_entries, Rows, no_rows, LeadsIn, Inward, no_table, same_by, Resolving, Metric, OutChained, Walked, present, put_each, chain_at, Chains, filt_at, filt_by, put_chain, peer_links, routes_of, rules_of, Rule, Registry, StandsOver, Interior, best_at, ByPeer, BeginsIf, Declares, live_state, Moment, best_of, router_links, own_of, read_rows_by, with_chains, Policies, Stands, ExitsAt, StandsAt, PeerStands, IsSilent, journal_lines, Pushes, HasStepped}
use Rattle.std.proofs.Common.{[], ◌∷◌, map, length, Option, Some, None}
use Rattle.std.proofs.lemmas.List.{length_push}
use Rattle.std.specs.Prelude.{option_map, IsSome, is_some}
use Rattle.journal_text.specs.declared.line.Line.TheVariants as lines
use Rattle.event_text.specs.declared.event.Event.TheVariants as events
use Rattle.event_text.specs.Declarations.{words_of, with_peer, refusal, rules_refusal, session_refusal}
use Rattle.event_text.proofs.Sessions.{addable, missed, KeepsWords}
use Rattle.pass_core.specs.Passed.{edited}
use Rattle.in_chain.specs.Steps.{new_chain, refiltered}
use Rattle.loss_chain.proofs.TableLemmas.{equal_by, other_by}
use Rattle.link_region.proofs.RegionLemmas.{by_bool, lead_nothing}
use Rattle.link_change.proofs.RowLemmas.{empty_rows}
use Rattle.filter_bank.specs.Filtered.{filtered_rows}
use Rattle.nexthop_resolver.specs.Resolving.{nothing_known}
use Rattle.hop_side.specs.Steps.{begin_entries as hop_begins}
use Rattle.hop_side.proofs.PutLemmas.{at_put as resolver_put}
use Rattle.peer_side.specs.Peers.{begin_entries, IsPeers, AreBefore}
use Rattle.peer_side.specs.Steps.{EditsInward}
use Rattle.peer_side.proofs.PutLemmas.{at_put, put_here, put_kept, put_more}
use Rattle.live_state.specs.Lives.{with_rules, begun_if_down}
use Rattle.router_moments.specs.Blocks.{declared_peer, begun}
use Rattle.router_moments.specs.Peers.{is_up}
use Rattle.router_moments.proofs.BestLemmas.{same_all, best_quiet}
use Rattle.router_moments.proofs.RegionLemmas.{leads_inward}
use Rattle.router_moments.proofs.StandLemmas.{peer_of, chain_there, same_peers, not_zero, stands_with, live_edited}
use Rattle.loss_chain.proofs.FeedLemmas.{no_row_at_first}
use Rattle.exit_side.specs.Exits.{chain_at as exit_at}
use Rattle.router_moments.proofs.HeardRows.{put_heard}
use Rattle.router_moments.proofs.HeardSteps.{heard_quiet}
use Rattle.router_moments.proofs.QueueLemmas.{exits_none, undeclared_none, reader_live, exits_stay}
use Rattle.router_moments.proofs.HopLemmas.{leads_both, leads_resolved, hops_quiet}
use Rattle.router_moments.proofs.KeepLemmas.{steps_said}

-- ---- a peer more
pub peer_at_push_here : (k : ℕ) (ps : List DeclaredPeer) (q : DeclaredPeer) → peer_at k ps ≡ None → q.words.number ≡ k → peer_at k (ps ++ q ∷ []) ≡ Some q
peer_at_push_here k [] q none same = ap (λ b. cond b (Some q) None) (same_by q.words.number k same)
peer_at_push_here k (p ∷ ps) q none same =
    let past = missed (nat_eq p.words.number k) p (peer_at k ps) none in
    ap (λ b. cond b (Some p) (peer_at k (ps ++ q ∷ []))) past.0 ∙ peer_at_push_here k ps q past.1 same

pub peer_at_push_other : (j : ℕ) (ps : List DeclaredPeer) (q : DeclaredPeer) → nat_eq q.words.number j ≡ false → peer_at j (ps ++ q ∷ []) ≡ peer_at j ps
peer_at_push_other j [] q other = ap (λ b. cond b (Some q) None) other
peer_at_push_other j (p ∷ ps) q other = ap (λ o. cond (nat_eq p.words.number j) (Some p) o) (peer_at_push_other j ps q other)

-- the peer as it is declared
abbrev new_peer : Declaration → ℕ → Speaker → Bool → DeclaredPeer
new_peer d k words client = record { words = words_of d.speaker k words client; session = 0; up = false }

-- and where it is found
pub new_peer_at : (d : Declaration) (k : ℕ) (words : Speaker) (client : Bool) → peer_at k d.peers ≡ None → peer_at k (with_peer d k words client).peers ≡ Some (new_peer d k words client)
new_peer_at d k words client absent = peer_at_push_here k d.peers (new_peer d k words client) absent refl

pub peer_absent : (d : Declaration) (k : ℕ) (words : Speaker) (client : Bool) → refusal d (events.Peer k words client) ≡ None → peer_at k d.peers ≡ None
peer_absent d k words client e = (addable d.v6 d.profile d.speaker d.peers k words client e).1

-- the peer that was just declared is there
pub not_added : (before after : Declaration) (k : ℕ) (words : Speaker) (client : Bool) → peer_at k before.peers ≡ None → after ≡ with_peer before k words client → None ≡ peer_at k after.peers → ⊥
not_added before after k words client absent added none =
    let there : peer_at k after.peers ≡ Some (new_peer before k words client) = ap (λ (d : Declaration). peer_at k d.peers) added ∙ new_peer_at before k words client absent in
    cc

no_chain : (o : Option DeclaredPeer) (c : Option Chained) → StandsAt o c → o ≡ None → c ≡ None
no_chain None None stands none = refl
no_chain None (Some c) stands none = absurd stands
no_chain (Some p) c stands none = absurd (cc)

-- no chain stands before it is declared
pub chain_absent : (m v : Moment) (k : ℕ) (words : Speaker) (client : Bool) → v ≡ m → Stands m → refusal m.declared (events.Peer k words client) ≡ None → chain_at k v.chains ≡ None
chain_absent m v k words client view stands admitted =
    ap (λ (n : Moment). chain_at k n.chains) view ∙ no_chain (peer_at k m.declared.peers) (chain_at k m.chains) (stands.peers.each k) (peer_absent m.declared k words client admitted)

-- its words, as they were read again
declared_is : (before after : Declaration) (k : ℕ) (words : Speaker) (client : Bool) (p : DeclaredPeer) → peer_at k before.peers ≡ None → after ≡ with_peer before k words client → Some p ≡ peer_at k after.peers → p ≡ new_peer before k words client
declared_is before after k words client p absent added there =
    same_Some p (new_peer before k words client) (there ∙ ap (λ (d : Declaration). peer_at k d.peers) added ∙ new_peer_at before k words client absent)

pub new_number : (m v : Moment) (after : Declaration) (k : ℕ) (words : Speaker) (client : Bool) (p : DeclaredPeer) → v ≡ m → refusal m.declared (events.Peer k words client) ≡ None → after ≡ with_peer v.declared k words client → Some p ≡ peer_at k after.peers
    → p.words.number ≡ k
new_number m v after k words client p view admitted added there =
    let absent : peer_at k v.declared.peers ≡ None = ap (λ (n : Moment). peer_at k n.declared.peers) view ∙ peer_absent m.declared k words client admitted in
    ap (λ (q : DeclaredPeer). q.words.number) (declared_is v.declared after k words client p absent added there)

-- nor a resolver
pub resolver_absent : (m v : Moment) (after : Declaration) (k : ℕ) (words : Speaker) (client : Bool) (p : DeclaredPeer) → v ≡ m → Stands m → refusal m.declared (events.Peer k words client) ≡ None → after ≡ with_peer v.declared k words client → Some p ≡ peer_at k after.peers
    → resolver_at p.words.number v.hops ≡ None
resolver_absent m v after k words client p view stands admitted added there =
    ap (λ (n : ℕ). resolver_at n v.hops) (new_number m v after k words client p view admitted added there)
    ∙ no_table (resolver_at k v.hops) ((subst Stands (sym view) stands).hops.same k ∙ ap is_some (chain_absent m v k words client view stands admitted))

-- what a resolver that begins keeps
pub record BeginsWith (k : ℕ) (a a' : Resolvers) : Type 0 where
  pub leads : (uppers : PeerRows) → uppers k ≡ no_rows → LeadsRes (hop_links a uppers) (hop_begins k) (hop_links a' uppers)
  pub counted : (uppers : PeerRows) → uppers k ≡ no_rows → AllCounted uppers a → AllCounted uppers a'
  pub agree : (r : Registry Interior) → HasNoInterest k r → AllAgree a r → AllAgree a' r
  pub sound : IsHops a'

pub record BeginsHops (k : ℕ) (a a' : Resolvers) (before now : Journaled) : Type 0 where
  pub after : a' ≡ put_resolver k (nothing_known k) a
  pub lines : now ≡ with_entries before (hop_begins k)
  pub begins : BeginsWith k a a'

module _ (m : Moment) (me : Speaker) (k : ℕ) (words : Speaker) (client : Bool) (is_local : m.declared.speaker ≡ Some me) (stands : Stands m) (absent : peer_at k m.declared.peers ≡ None) where
  abbrev fresh : Chained
  fresh = new_chain me (words_of m.declared.speaker k words client)

  pub no_chain_yet : chain_at k m.chains ≡ None
  no_chain_yet = no_chain (peer_at k m.declared.peers) (chain_at k m.chains) (stands.peers.each k) absent

  -- no row stands on its `filt.K`
  no_filtered : filt_rows fresh ≡ no_rows
  no_filtered = ap (filtered_rows fresh.me fresh.peer []) (empty_rows {V = Attrs})

  no_upper : filt_at (put_chain k fresh m.chains) k ≡ no_rows
  no_upper = ap filt_by (put_here k fresh m.chains) ∙ no_filtered

  pub quiet : (j : ℕ) → filt_at (put_chain k fresh m.chains) j ≡ filt_at m.chains j
  quiet = put_kept filt_by k fresh m.chains (no_filtered ∙ ap filt_by (sym no_chain_yet))

  no_resolver_yet : resolver_at k m.hops ≡ None
  no_resolver_yet = no_table (resolver_at k m.hops) (stands.hops.same k ∙ ap is_some no_chain_yet)

  abbrev hops_then : Resolvers
  hops_then = put_resolver k (nothing_known k) m.hops

  -- and none on its `res.K`
  pub same_resolved : (j : ℕ) → res_at hops_then (filt_at (put_chain k fresh m.chains)) j ≡ res_at m.hops (filt_at (put_chain k fresh m.chains)) j
  same_resolved j = ap (λ (o : Option (Resolving Metric)). rows_by o (filt_at (put_chain k fresh m.chains) j)) (resolver_put k (nothing_known k) m.hops j) ∙ by_bool (nat_eq j k) (λ b. rows_by (cond b (Some (nothing_known {A = Metric} k)) (resolver_at j m.hops)) (filt_at (put_chain k fresh m.chains) j) ≡ res_at m.hops (filt_at (put_chain k fresh m.chains)) j)
      (λ e. subst (λ (n : ℕ). rows_by (Some (nothing_known {A = Metric} k)) (filt_at (put_chain k fresh m.chains) n) ≡ res_at m.hops (filt_at (put_chain k fresh m.chains)) n) (sym (equal_by j k e))
      (ap (λ (u : Rows Route). rows_by (Some (nothing_known {A = Metric} k)) u) no_upper ∙ sym (ap (λ (o : Option (Resolving Metric)). rows_by o (filt_at (put_chain k fresh m.chains) k)) no_resolver_yet))) (λ _. refl)

  same_decided : best_at (own_of m) (put_chain k fresh m.chains) hops_then ≡ best_at (own_of m) (put_chain k fresh m.chains) m.hops
  same_decided = same_all (own_of m) (put_chain k fresh m.chains) (put_chain k fresh m.chains) m.hops hops_then same_resolved

  -- and so the best ones stay
  same_best : best_at (own_of m) (put_chain k fresh m.chains) hops_then ≡ best_of m
  same_best = same_decided ∙ best_quiet (own_of m) m.chains (put_chain k fresh m.chains) m.hops quiet

  declared_stands : (1 ≤ k) × (k ≤ 64) → IsPeers (put_chain k fresh m.chains) → BeginsWith k m.hops hops_then → Stands (declared_peer m me k words client)
  declared_stands small peers begins = record {
    peers = record {
      chains = peers;
      each = λ j. subst (λ (o : Option Chained). StandsAt (peer_at j (with_peer m.declared k words client).peers) o) (sym (at_put k fresh m.chains j))
          (by_bool (nat_eq j k) (λ b. StandsAt (peer_at j (with_peer m.declared k words client).peers) (cond b (Some fresh) (chain_at j m.chains)))
          (λ e. subst (λ (n : ℕ). StandsAt (peer_at n (with_peer m.declared k words client).peers) (Some fresh)) (sym (equal_by j k e))
          (subst (λ (o : Option DeclaredPeer). StandsAt o (Some fresh)) (sym (new_peer_at m.declared k words client absent)) (record { words = refl; earlier = tt; silent = refl })))
          (λ e. subst (λ (o : Option DeclaredPeer). StandsAt o (chain_at j m.chains))
          (sym (peer_at_push_other j m.declared.peers (new_peer m.declared k words client) (other_by k j (λ same. let t : true ≡ false = sym (same_by j k (sym same)) ∙ e in cc)))) (stands.peers.each j)));
      speaker = put_each (λ j c. m.declared.speaker ≡ Some c.me) k fresh m.chains is_local stands.peers.speaker;
      count = put_more k fresh m.chains no_chain_yet ∙ ap (λ (n : ℕ). n + 1) stands.peers.count ∙ sym (length_push m.declared.peers (new_peer m.declared k words client));
      numbers = λ j some. by_bool (nat_eq j k) (λ b. is_some (cond b (Some fresh) (chain_at j m.chains)) ≡ true → (1 ≤ j) × (j ≤ 64)) (λ e _. subst (λ (n : ℕ). (1 ≤ n) × (n ≤ 64)) (sym (equal_by j k e)) small) (λ _ there. stands.peers.numbers j there)
          (sym (ap is_some (at_put k fresh m.chains j)) ∙ some);
    };
    interior = stands.interior;
    registered = stands.registered;
    hops = record {
      sound = begins.sound;
      same = both_put;
      agree = begins.agree m.registry (stands.hops.strangers k (not_zero k small.0) no_resolver_yet) stands.hops.agree;
      counted = begins.counted (filt_at (put_chain k fresh m.chains)) no_upper (subst (λ (u : PeerRows). AllCounted u m.hops) (λ i j. sym (quiet j) i) stands.hops.counted);
      strangers = λ j positive none. stands.hops.strangers j positive (none_then j none);
      matches = stands.hops.matches;
    };
    exits = record {
      rows = put_heard m.declared.profile k fresh m.chains (put_chain k fresh m.chains) refl (λ p row is. absurd (no_row_at_first p row is)) stands.exits.rows;
      each = stands.exits.each;
      all = subst (λ (rows : Rows Route). AllLead m.exits.queue rows) (sym same_best) stands.exits.all;
      read = subst (λ (rows : Rows Route). AllStand rows m.exits) (sym same_best) stands.exits.read;
      profile = stands.exits.profile;
      sender = stands.exits.sender;
      sessions = λ j. by_bool (nat_eq j k) (λ b. ExitsAt m.declared.speaker m.outgoing j (peer_at j (with_peer m.declared k words client).peers) (exit_at j m.exits))
          (λ e. subst (λ (n : ℕ). ExitsAt m.declared.speaker m.outgoing n (peer_at n (with_peer m.declared k words client).peers) (exit_at n m.exits)) (sym (equal_by j k e))
          (subst (λ (o : Option OutChained). ExitsAt m.declared.speaker m.outgoing k (peer_at k (with_peer m.declared k words client).peers) o)
          (sym (undeclared_none m.declared.speaker m.outgoing k (exit_at k m.exits) (subst (λ (o : Option DeclaredPeer). ExitsAt m.declared.speaker m.outgoing k o (exit_at k m.exits)) absent (stands.exits.sessions k))))
          (exits_none m.declared.speaker m.outgoing k (peer_at k (with_peer m.declared k words client).peers))))
          (λ e. subst (λ (o : Option DeclaredPeer). ExitsAt m.declared.speaker m.outgoing j o (exit_at j m.exits))
          (sym (peer_at_push_other j m.declared.peers (new_peer m.declared k words client) (other_by k j (λ same. let t : true ≡ false = sym (same_by j k (sym same)) ∙ e in cc)))) (stands.exits.sessions j));
      one = stands.exits.one;
      external = subst (λ (rows : Rows Route). StandsOver (read_rows_by m.exits.queue m.reader rows) m.rib) (sym same_best) stands.exits.external;
    };
    external = stands.external;
    waits = stands.waits;
  }
    where
      both_put : (j : ℕ) → is_some (resolver_at j hops_then) ≡ is_some (chain_at j (put_chain k fresh m.chains))
      both_put j = ap is_some (resolver_put k (nothing_known k) m.hops j) ∙ by_bool (nat_eq j k) (λ b. is_some (cond b (Some (nothing_known {A = Metric} k)) (resolver_at j m.hops)) ≡ is_some (cond b (Some fresh) (chain_at j m.chains)))
          (λ _. refl) (λ _. stands.hops.same j) ∙ sym (ap is_some (at_put k fresh m.chains j))

      none_then : (j : ℕ) → resolver_at j hops_then ≡ None → resolver_at j m.hops ≡ None
      none_then j none = by_bool (nat_eq j k) (λ b. cond b (Some (nothing_known {A = Metric} k)) (resolver_at j m.hops) ≡ None → resolver_at j m.hops ≡ None)
          (λ _ some. absurd (cc)) (λ _ same. same) (sym (resolver_put k (nothing_known k) m.hops j) ∙ none)

  -- live routes and rules stay
  stays : {A : Type 0} (f : Option Chained → A) → f (Some fresh) ≡ f None → (j : ℕ) → f (chain_at j (put_chain k fresh m.chains)) ≡ f (chain_at j m.chains)
  stays f same = put_kept f k fresh m.chains (same ∙ ap f (sym no_chain_yet))

  peer_stepped : LeadsIn Inward (peer_links m.chains) (begin_entries k) (peer_links (put_chain k fresh m.chains)) → (1 ≤ k) × (k ≤ 64) → IsPeers (put_chain k fresh m.chains) → BeginsWith k m.hops hops_then
      → HasStepped m (events.Peer k words client) 0 (declared_peer m me k words client) (journal_lines (begin_entries k ++ hop_begins k))
  peer_stepped leads small peers begins = record {
    block = subst (λ (s : Option Speaker). Declares m s k words client (journal_lines (begin_entries k ++ hop_begins k)) 0 (declared_peer m me k words client)) (sym is_local) (refl, refl, refl);
    live = record (live_state m) { declared = with_peer m.declared k words client };
    after = refl;
    keeps = record {
      leads = leads_both (router_links m) (router_links (with_chains m (put_chain k fresh m.chains))) (router_links (declared_peer m me k words client)) (begin_entries k) (hop_begins k)
          (leads_inward m (put_chain k fresh m.chains) (begin_entries k) quiet leads)
          (leads_resolved (with_chains m (put_chain k fresh m.chains)) me m.registry hops_then m.exits (record { address = 0; length = 0 }) (hop_begins k) None is_local (reader_live m stands) (begins.leads (filt_at (put_chain k fresh m.chains)) no_upper) same_decided refl);
      live = λ i. record (live_state m) { declared = with_peer m.declared k words client; routes = λ j. stays routes_of refl j i; rules = λ j. stays rules_of refl j i };
      stands = declared_stands small peers begins;
      heard = heard_quiet m (declared_peer m me k words client) (journal_lines (begin_entries k ++ hop_begins k)) (refl, (refl, (refl, tt))) refl;
    };
  }

pub peer_declared : (m v : Moment) (me : Speaker) (k : ℕ) (words : Speaker) (client : Bool) (after : Declaration) (p : DeclaredPeer) (cs : Chains) (hs : Resolvers) (before j now : Journaled) → v ≡ m → Stands m → refusal m.declared (events.Peer k words client) ≡ None → IsWellFormed m.declared.v6 m.declared.profile (events.Peer k words client)
    → Some me ≡ v.declared.speaker → after ≡ with_peer v.declared k words client → Some p ≡ peer_at k after.peers → cs ≡ put_chain k (new_chain me p.words) v.chains → j ≡ with_entries before (begin_entries k)
    → LeadsIn Inward (peer_links v.chains) (begin_entries k) (peer_links cs) → IsPeers cs → BeginsHops p.words.number v.hops hs j now → Pushes (HasStepped m (events.Peer k words client) 0 (record v { declared = after; chains = cs; hops = hs })) before now
peer_declared m v me k words client after p cs hs before j now view stands admitted formed local added there put lines leads peers begins =
    subst (λ (n : Moment). Pushes (HasStepped n (events.Peer k words client) 0 (record v { declared = after; chains = cs; hops = hs })) before now) view (
      journal_lines (begin_entries k ++ hop_begins k),
      hop.lines ∙ ap (λ (x : Journaled). with_entries x (hop_begins k)) lines ∙ with_entries_append before (begin_entries k) (hop_begins k),
      subst (λ (n : Moment). HasStepped v (events.Peer k words client) 0 n (journal_lines (begin_entries k ++ hop_begins k))) (sym is)
          (peer_stepped v me k words client (sym local) (subst Stands (sym view) stands) absent (subst (λ (x : Chains). LeadsIn Inward (peer_links v.chains) (begin_entries k) (peer_links x)) chains leads) (let least = formed.0.least in omega (arith, least), (addable m.declared.v6 m.declared.profile m.declared.speaker m.declared.peers k words client admitted).0) (subst IsPeers chains peers)
          (subst (λ (x : Resolvers). BeginsWith k v.hops x) hop.after hop.begins)),
    )
  where
    absent : peer_at k v.declared.peers ≡ None
    absent = ap (λ (n : Moment). peer_at k n.declared.peers) view ∙ peer_absent m.declared k words client admitted

    own : p.words.number ≡ k
    own = ap (λ (q : DeclaredPeer). q.words.number) (declared_is v.declared after k words client p absent added there)

    hop : BeginsHops k v.hops hs j now
    hop = subst (λ (n : ℕ). BeginsHops n v.hops hs j now) own begins

    chains : cs ≡ put_chain k (new_chain me (words_of v.declared.speaker k words client)) v.chains
    chains = put ∙ ap (λ (q : DeclaredPeer). put_chain k (new_chain me q.words) v.chains) (declared_is v.declared after k words client p absent added there)

    is : record v { declared = after; chains = cs; hops = hs } ≡ declared_peer v me k words client
    is = ap (λ (d : Declaration). record v { declared = d; chains = cs; hops = hs }) added ∙ ap (λ (x : Chains). record v { declared = with_peer v.declared k words client; chains = x; hops = hs }) chains
        ∙ ap (λ (x : Resolvers). record v { declared = with_peer v.declared k words client; chains = put_chain k (new_chain me (words_of v.declared.speaker k words client)) v.chains; hops = x }) hop.after

-- ---- a session begins
pub peer_at_map : (f : DeclaredPeer → DeclaredPeer) → KeepsWords f → (j : ℕ) (ps : List DeclaredPeer) → peer_at j (map f ps) ≡ option_map f (peer_at j ps)
peer_at_map f keeps j [] = refl
peer_at_map f keeps j (p ∷ ps) = ap (λ w. cond (nat_eq w.number j) (Some (f p)) (peer_at j (map f ps))) (keeps p) ∙ by_test (nat_eq p.words.number j) (peer_at_map f keeps j ps)
  where
    by_test : (b : Bool) → peer_at j (map f ps) ≡ option_map f (peer_at j ps) → cond b (Some (f p)) (peer_at j (map f ps)) ≡ option_map f (cond b (Some p) (peer_at j ps))
    by_test true rest = refl
    by_test false rest = rest

is_down : (a b : Bool) → (a && not b) ≡ true → b ≡ false
is_down true true e = absurd (cc)
is_down true false e = refl
is_down false b e = absurd (cc)

begun_peer : (k : ℕ) (p : DeclaredPeer) (c : Chained) → PeerStands p c → PeerStands (begun_at k p) c
begun_peer k p c stands = by_bool (nat_eq p.words.number k && not p.up) (λ b. PeerStands (cond b (record { words = p.words; session = p.session + 1; up = true }) p) c)
    (λ e. record {
      words = stands.words;
      earlier = subst (λ (n : ℕ). AreBefore n c) (ap (λ (u : Bool). cond u p.session (p.session + 1)) (is_down (nat_eq p.words.number k) p.up e)) stands.earlier;
      silent = tt;
    })
    (λ _. stands)

begun_one : (k : ℕ) (o : Option DeclaredPeer) (c : Option Chained) → StandsAt o c → StandsAt (option_map (begun_at k) o) c
begun_one k None None stands = tt
begun_one k None (Some c) stands = absurd stands
begun_one k (Some p) None stands = absurd stands
begun_one k (Some p) (Some c) stands = begun_peer k p c stands

begun_length : (k : ℕ) (ps : List DeclaredPeer) → length (map (begun_at k) ps) ≡ length ps
begun_length k [] = refl
begun_length k (p ∷ ps) = ap suc (begun_length k ps)

-- a peer that has an exit is up
begun_up : (k : ℕ) (p : DeclaredPeer) → p.up ≡ true → begun_at k p ≡ p
begun_up k p up = ap (λ (u : Bool). cond (nat_eq p.words.number k && not u) (record { words = p.words; session = p.session + 1; up = true }) p) up ∙ by_test (nat_eq p.words.number k)
  where
    by_test : (b : Bool) → cond (b && false) (record { words = p.words; session = p.session + 1; up = true }) p ≡ p
    by_test true = refl
    by_test false = refl

begun_exit : (k : ℕ) (s : Option Speaker) (policies : Policies) (j : ℕ) (p : Option DeclaredPeer) (o : Option OutChained) → ExitsAt s policies j p o → ExitsAt s policies j (option_map (begun_at k) p) o
begun_exit k s policies j p None is = exits_none s policies j (option_map (begun_at k) p)
begun_exit k (Some me) policies j (Some p) (Some c) is = subst (λ (q : DeclaredPeer). ExitsAt (Some me) policies j (Some q) (Some c)) (sym (begun_up k p is.up)) is
begun_exit k (Some me) policies j None (Some c) is = absurd is
begun_exit k None policies j p (Some c) is = absurd is

pub begun_stands : (m : Moment) (k : ℕ) → Stands m → Stands (begun m k)
begun_stands m k stands = record {
  peers = record {
    chains = stands.peers.chains;
    each = λ j. subst (λ (o : Option DeclaredPeer). StandsAt o (chain_at j m.chains)) (sym (peer_at_map (begun_at k) (begun_words k) j m.declared.peers)) (begun_one k (peer_at j m.declared.peers) (chain_at j m.chains) (stands.peers.each j));
    speaker = stands.peers.speaker;
    count = stands.peers.count ∙ sym (begun_length k m.declared.peers);
    numbers = stands.peers.numbers;
  };
  interior = stands.interior;
  registered = stands.registered;
  hops = stands.hops;
  exits = record { rows = stands.exits.rows; each = stands.exits.each; all = stands.exits.all; read = stands.exits.read; profile = stands.exits.profile; sender = stands.exits.sender; sessions = λ j. subst (λ (o : Option DeclaredPeer). ExitsAt m.declared.speaker m.outgoing j o (exit_at j m.exits)) (sym (peer_at_map (begun_at k) (begun_words k) j m.declared.peers)) (begun_exit k m.declared.speaker m.outgoing j (peer_at j m.declared.peers) (exit_at j m.exits) (stands.exits.sessions j)); one = stands.exits.one; external = stands.exits.external };
  external = stands.external;
  waits = stands.waits;
}

pub may_begin : (d : Declaration) (k : ℕ) → refusal d (events.Up k) ≡ None → session_refusal (peer_at k d.peers) ≡ None
unfolding refusal
may_begin d k e = by_speaker d.speaker e
  where
    by_speaker : (speaker : Option Speaker) → refusal_at d.v6 d.profile speaker d.peers (events.Up k) ≡ None → session_refusal (peer_at k d.peers) ≡ None
    by_speaker None e = absurd (cc)
    by_speaker (Some local) e = e

pub ignored_stepped : (m : Moment) (k : ℕ) → Stands m → is_up (peer_at k m.declared.peers) ≡ true → HasStepped m (events.Up k) 0 m (lines.Ignored ∷ [])
ignored_stepped m k stands up = steps_said m (events.Up k) 0 (lines.Ignored ∷ []) stands (block (peer_at k m.declared.peers) up) (live (peer_at k m.declared.peers) up) (refl, (refl, tt))
  where
    block : (o : Option DeclaredPeer) → is_up o ≡ true → ByPeer (λ p. BeginsIf p.up m k p (lines.Ignored ∷ []) 0 m) o
    block None up = absurd (cc)
    block (Some p) up = subst (λ (u : Bool). BeginsIf u m k p (lines.Ignored ∷ []) 0 m) (sym up) (refl, refl, refl)

    live : (o : Option DeclaredPeer) → is_up o ≡ true → live_state m ≡ begun_if_down (live_state m) k o
    live None up = absurd (cc)
    live (Some p) up = sym (ap (λ (u : Bool). cond u (live_state m) (live_state (begun m k))) up)

-- ---- the moment after it, from its parts
pub begun_is : (m v : Moment) (k : ℕ) (after : Declaration) → v ≡ m → after ≡ with_session v.declared k → record v { declared = after } ≡ begun m k
begun_is m v k after view began = ap (λ (d : Declaration). record v { declared = d }) began ∙ ap (λ (n : Moment). begun n k) view

-- ---- `local`
pub peer_after : (d : Declaration) (k : ℕ) (words : Speaker) (client : Bool) → refusal d (events.Peer k words client) ≡ None → None ≡ d.speaker → ⊥
unfolding refusal
peer_after d k words client e none = by_speaker d.speaker e none
  where
    by_speaker : (s : Option Speaker) → refusal_at d.v6 d.profile s d.peers (events.Peer k words client) ≡ None → None ≡ s → ⊥
    by_speaker None e none = absurd (cc)
    by_speaker (Some me) e none = absurd (cc)

-- ---- new rules
pub rules_there : (d : Declaration) (k : ℕ) (rules : List Rule) → refusal d (events.FilterIn k rules) ≡ None → (p : DeclaredPeer) × (peer_at k d.peers ≡ Some p)
unfolding refusal
rules_there d k rules e = by_speaker d.speaker e
  where
    by_peer : (o : Option DeclaredPeer) → rules_refusal (length rules) o ≡ None → (p : DeclaredPeer) × (o ≡ Some p)
    by_peer None e = absurd (cc)
    by_peer (Some p) e = (p, refl)

    by_speaker : (s : Option Speaker) → refusal_at d.v6 d.profile s d.peers (events.FilterIn k rules) ≡ None → (p : DeclaredPeer) × (peer_at k d.peers ≡ Some p)
    by_speaker None e = absurd (cc)
    by_speaker (Some me) e = by_peer (peer_at k d.peers) e

-- what is edited is the latest
pub present_edited : {F : Type 0} (in_force : F) (walk : Option (Walked F)) (latest : F) → present (edited (record { in_force = in_force; walk = walk }) latest) ≡ latest
present_edited in_force None latest = refl
present_edited in_force (Some w) latest = refl

silent_edited : (up : Bool) (c : Chained) (rules : List Rule) → IsSilent up c → IsSilent up (refiltered rules c)
silent_edited true c rules silent = tt
silent_edited false c rules silent = silent

edited_one : (m : Moment) (k : ℕ) (rules : List Rule) (cs : Chains) → Stands m → EditsInward k rules m.chains cs → HasStepped m (events.FilterIn k rules) 0 (with_chains m cs) []
edited_one m k rules cs stands e =
    let c : Chained = e.edits.chain in
    let p = peer_of m stands k c e.edits.at in
    record {
      block = (cs, e, (refl, refl, refl));
      live = record (live_state m) { rules = with_rules (live_state m).rules k rules };
      after = refl;
      keeps = record {
        leads = leads_inward m cs [] e.quiet (lead_nothing Inward (peer_links m.chains) (peer_links cs) e.links);
        live = live_edited m k c (refiltered rules c) cs e.edits.at e.edits.after refl
            ∙ ap (λ (r : List Rule). record (live_state m) { rules = with_rules (live_state m).rules k r }) (present_edited c.filter.in_force c.filter.walk rules);
        heard = heard_quiet m (with_chains m cs) [] tt refl;
        stands = stands_with m k c (refiltered rules c) cs m.registry m.hops m.exits p.0 stands e.edits.at e.edits.after e.sound refl p.1 (record { words = p.2.words; earlier = p.2.earlier; silent = silent_edited p.0.up c rules p.2.silent }) refl stands.external.agree
            (hops_quiet m cs stands e.quiet (same_peers m k c (refiltered rules c) cs e.edits.at e.edits.after))
            (exits_stay m (with_chains m cs) stands (put_heard m.declared.profile k (refiltered rules c) m.chains cs e.edits.after (stands.exits.rows k c e.edits.at) stands.exits.rows) (best_quiet (own_of m) m.chains cs m.hops e.quiet) refl refl refl refl (λ rows over. over));
      };
    }

pub edited_stepped : (m v : Moment) (k : ℕ) (rules : List Rule) (cs : Chains) → v ≡ m → Stands m → EditsInward k rules v.chains cs → HasStepped m (events.FilterIn k rules) 0 (with_chains v cs) []
edited_stepped m v k rules cs view stands e = subst (λ (n : Moment). HasStepped n (events.FilterIn k rules) 0 (with_chains v cs) []) view (edited_one v k rules cs (subst Stands (sym view) stands) e)

pub chain_for_rules : (m v : Moment) (k : ℕ) (rules : List Rule) → v ≡ m → refusal m.declared (events.FilterIn k rules) ≡ None → Stands m → IsSome (chain_at k v.chains)
chain_for_rules m v k rules view admitted stands =
    let p = rules_there m.declared k rules admitted in
    subst (λ (n : Moment). IsSome (chain_at k n.chains)) (sym view) (ap is_some (chain_there m stands k p.0 p.1).1)
