-- Sessions that begin and end, the rules of outgoing filters, and what reads `best` from `local` on.
use Rattle.router_moments.proofs.Common.{sym, subst, ◌∙◌, ap, ◌≡◌, ℕ, refl, List, true, arith, false, ◌+◌, Bool, cond, ◌<◌, nat_eq, not, ◌&&◌, nat_tests, nat_cmp_total, get-insert, nat_cmp, eq_by_cmp, Route, Profile, Speaker, begun_words, peer_at, Declaration, with_session, begun_at, refusal_at, DeclaredPeer, Exited, AllStand, with_exit, IsExits, Queued, AllLead, unread_or_none, neighbours, entries_of_entries, leads_nowhere, Journaled, Adds, entries_of, route_rows, Leads, Links, Entry, Link, Best, Adv, Read, Outf, Value, rows_before, Rows, same_by, OutChained, RowsMayBeHeard, IsSender, Rule, StandsOver, best_links, ByPeer, BeginsIf, BySpeaker, Begins, live_state, Moment, best_of, router_links, with_exits, read_rows_by, read_by, rules_to, Policies, Stands, ExitsAt, ReadsOn, MaySend, IsExitOf, journal_lines, Pushes, HasStepped, Keeps}
use Rattle.std.proofs.Common.{[], ◌∷◌, Option, Some, None, is_some, IsSome}
use Rattle.std.specs.Prelude.{◌^◌, option_map}
use Rattle.std.specs.FinMap as tables
use Rattle.std.specs.FinMap.{get-remove}
use Rattle.out_chain.specs.Steps.{new_out, exit_to, with_rules as with_rules_out}
use Rattle.bgp_wire.specs.Readable.{IsHost}
use Rattle.bgp_attr.specs.Speakers.{IsProfileOf, IsSpeaker, asn_bound}
use Rattle.bgp_wire.specs.Paths.{width_of}
use Rattle.journal_text.specs.declared.link.Link.TheVariants.{ReadRib}
use Rattle.event_text.specs.declared.event.Event.TheVariants as events
use Rattle.event_text.specs.Declarations.{refusal, session_refusal}
use Rattle.fanout_queue.proofs.LeadLemmas.{join_keeps_leading, drop_keeps_leading}
use Rattle.exit_side.specs.Exits.{chain_at as exit_at, without_exit, exit_links}
use Rattle.exit_side.specs.Steps.{is_exit, LeadsExits, BeginsExit, EndsExit, EditsExit, edited_by}
use Rattle.exit_side.specs.Laws.{AreAmong, KeepsStranger}
use Rattle.exit_side.proofs.LawLemmas.{leads_anywhere, leads_anywhere_with_best}
use Rattle.exit_side.proofs.StrangerLemmas.{begin_keeps, end_keeps, edit_keeps}
use Rattle.exit_laws.proofs.ViewLemmas.{beginning_is_heard, end_is_heard, edit_keeps_views, put_here, gone_here}
use Rattle.link_region.proofs.RegionLemmas.{by_bool}
use Rattle.loss_chain.proofs.TableLemmas.{equal_by}
use Rattle.live_state.specs.Lives.{with_rules, begun_if_down}
use Rattle.router_moments.specs.Moments.{rules_by}
use Rattle.router_moments.specs.Stands.{ReadsAs}
use Rattle.router_moments.specs.Blocks.{begun}
use Rattle.router_moments.specs.Peers.{is_up}
use Rattle.router_moments.specs.Works.{BeginsSession, SendsAs}
use Rattle.router_moments.proofs.HeardRows.{heard_of}
use Rattle.router_moments.proofs.HeardSteps.{heard_quiet}
use Rattle.router_moments.proofs.QueueLemmas.{exits_none, no_exit_down}
use Rattle.router_moments.proofs.PeerLemmas.{begun_stands, may_begin, peer_at_map, present_edited}
use Rattle.fanout_queue.proofs.Cases.{same_number}

-- ---- a chain at a number, and at another
key_apart : (k j : ℕ) → nat_eq k j ≡ false → eq_by_cmp nat_cmp k j ≡ false
key_apart k j apart = grind (arith, nat_tests)

pub exit_elsewhere : (j k : ℕ) (c : OutChained) (queue : Queued Route) (e : Exited) → nat_eq k j ≡ false → exit_at k (with_exit j c queue e) ≡ exit_at k e
exit_elsewhere j k c queue e apart = get-insert nat_cmp_total e.chains j c k ∙ ap (λ b. cond b (Some c) (exit_at k e)) (key_apart k j apart)

exit_left : (j k : ℕ) (queue : Queued Route) (e : Exited) → nat_eq k j ≡ false → exit_at k (without_exit j queue e) ≡ exit_at k e
exit_left j k queue e apart = get-remove nat_cmp_total e.chains j k ∙ ap (λ b. cond b None (exit_at k e)) (key_apart k j apart)

-- ---- the exits became these
pub stands_exits : (m : Moment) (e : Exited) → Stands m → IsExits e → AllLead e.queue (best_of m) → AllStand (best_of m) e → e.profile ≡ m.declared.profile → ((k : ℕ) → ExitsAt m.declared.speaker m.outgoing k (peer_at k m.declared.peers) (exit_at k e)) → ReadsOn m.declared.speaker m.reader e
    → StandsOver (read_rows_by e.queue m.reader (best_of m)) m.rib → Stands (with_exits m e)
stands_exits m e stands sound all stand profile sessions reader external = record {
  peers = stands.peers;
  interior = stands.interior;
  registered = stands.registered;
  hops = stands.hops;
  exits = record {
    rows = stands.exits.rows;
    each = sound;
    all = all;
    read = stand;
    profile = profile;
    sender = stands.exits.sender;
    sessions = sessions;
    one = reader;
    external = external;
  };
  external = stands.external;
  waits = stands.waits;
}

-- the forwarding side reads on
pub strangers_read : (s : Option Speaker) (reader : Option ℕ) (e e' : Exited) → ((r : ℕ) → reader ≡ Some r → KeepsStranger r e e') → ReadsOn s reader e → ReadsOn s reader e'
strangers_read (Some me) (Some r) e e' kept on = let k = kept r refl in record { live = subst IsSome (sym k.unread) on.live; own = k.own }
strangers_read (Some me) None e e' kept on = absurd on
strangers_read None (Some r) e e' kept on = absurd on
strangers_read None None e e' kept on = tt

stranger_is : (s : Option Speaker) (reader : Option ℕ) (e : Exited) → ReadsOn s reader e → (r : ℕ) → reader ≡ Some r → ReadsAs r e
stranger_is (Some me) (Some q) e on r is = let same : q ≡ r = cc in subst (λ (n : ℕ). ReadsAs n e) same on
stranger_is (Some me) None e on r is = absurd on
stranger_is None (Some q) e on r is = absurd on
stranger_is None None e on r is = absurd (cc)

pub reads_as : (m : Moment) → Stands m → (r : ℕ) → m.reader ≡ Some r → ReadsAs r m.exits
reads_as m stands = stranger_is m.declared.speaker m.reader m.exits stands.exits.one

same_read : (a b : Queued Route) (reader : Option ℕ) (best : Rows Route) → ((r : ℕ) → reader ≡ Some r → tables.get b r ≡ tables.get a r) → read_by b reader best ≡ read_by a reader best
same_read a b None best same = refl
same_read a b (Some r) best same = ap (λ u. Some (route_rows (rows_before (unread_or_none u) best))) (same r refl)

-- what it has, where it hasn't taken what it hadn't
pub same_rows : (a b : Queued Route) (reader : Option ℕ) (best : Rows Route) → ((r : ℕ) → reader ≡ Some r → tables.get b r ≡ tables.get a r) → read_rows_by b reader best ≡ read_rows_by a reader best
same_rows a b None best same = refl
same_rows a b (Some r) best same = ap (λ u. rows_before (unread_or_none u) best) (same r refl)

pub external_kept : (m : Moment) (e : Exited) → Stands m → ((r : ℕ) → m.reader ≡ Some r → tables.get e.queue r ≡ tables.get m.exits.queue r) → StandsOver (read_rows_by e.queue m.reader (best_of m)) m.rib
external_kept m e stands unread = subst (λ (rows : Rows Route). StandsOver rows m.rib) (sym (same_rows m.exits.queue e.queue m.reader (best_of m) unread)) stands.exits.external

-- ---- their links among all
among : (m : Moment) (e : Exited) → ((r : ℕ) → m.reader ≡ Some r → tables.get e.queue r ≡ tables.get m.exits.queue r) → AreAmong (exit_links m.exits (best_of m)) (exit_links e (best_of m)) (router_links m) (router_links (with_exits m e))
among m e unread = record { was = was; is = is; same = same }
  where
    was : (link : Link) → is_exit link ≡ true → router_links m link ≡ exit_links m.exits (best_of m) link
    was (Read j s) at = refl
    was (Outf j s) at = refl
    was (Adv j s) at = refl
    was other at = absurd (let clash : false ≡ true = at in cc)

    is : (link : Link) → is_exit link ≡ true → router_links (with_exits m e) link ≡ exit_links e (best_of m) link
    is (Read j s) at = refl
    is (Outf j s) at = refl
    is (Adv j s) at = refl
    is other at = absurd (let clash : false ≡ true = at in cc)

    same : (link : Link) → is_exit link ≡ false → router_links (with_exits m e) link ≡ router_links m link
    same (Read j s) at = absurd (let clash : true ≡ false = at in cc)
    same (Outf j s) at = absurd (let clash : true ≡ false = at in cc)
    same (Adv j s) at = absurd (let clash : true ≡ false = at in cc)
    same ReadRib at = same_read m.exits.queue e.queue m.reader (best_of m) unread
    same other at = refl

pub exits_lead : (m : Moment) (e : Exited) (entries : List (Entry Value)) → ((r : ℕ) → m.reader ≡ Some r → tables.get e.queue r ≡ tables.get m.exits.queue r)
    → LeadsExits (exit_links m.exits (best_of m)) entries (exit_links e (best_of m)) → Leads (router_links m) entries (router_links (with_exits m e))
exits_lead m e entries unread leads =
    leads_anywhere (exit_links m.exits (best_of m)) (exit_links e (best_of m)) (router_links m) (router_links (with_exits m e)) entries leads (among m e unread)

-- ---- a session ends
pub silenced : (k : ℕ) (m : Moment) (e : Exited) (entries : List (Entry Value)) → Stands m → EndsExit k m.exits e entries → Keeps (live_state m) m (with_exits m e) (journal_lines entries)
silenced k m e entries stands ends = record {
  leads = subst (λ (es : List (Entry Value)). Leads (router_links m) es (router_links (with_exits m e))) (sym (entries_of_entries entries))
      (exits_lead m e entries (λ r is. (kept r is).unread) (ends.leads (best_of m)));
  live = refl;
  stands = stands_exits m e stands ends.sound (subst (λ (x : Exited). AllLead x.queue (best_of m)) (sym ends.after) (drop_keeps_leading m.exits.queue (best_of m) ends.chain.reader stands.exits.all)) (ends.stand (best_of m) stands.exits.read) (ap (λ (x : Exited). x.profile) ends.after ∙ stands.exits.profile) sessions
      (strangers_read m.declared.speaker m.reader m.exits e kept stands.exits.one) (external_kept m e stands (λ r is. (kept r is).unread));
  heard = end_is_heard m.declared.profile (neighbours m.declared) k m.exits e entries ends;
}
  where
    kept : (r : ℕ) → m.reader ≡ Some r → KeepsStranger r m.exits e
    kept r is = end_keeps r k m.exits e entries stands.exits.each (reads_as m stands r is).own ends

    sessions : (j : ℕ) → ExitsAt m.declared.speaker m.outgoing j (peer_at j m.declared.peers) (exit_at j e)
    sessions j = subst (λ (o : Option OutChained). ExitsAt m.declared.speaker m.outgoing j (peer_at j m.declared.peers) o) (sym (ap (exit_at j) ends.after))
        (by_bool (nat_eq j k) (λ b. ExitsAt m.declared.speaker m.outgoing j (peer_at j m.declared.peers) (exit_at j (without_exit k (tables.remove m.exits.queue ends.chain.reader) m.exits)))
        (λ same. subst (λ (o : Option OutChained). ExitsAt m.declared.speaker m.outgoing j (peer_at j m.declared.peers) o) (sym (subst (λ (n : ℕ). exit_at n (without_exit k (tables.remove m.exits.queue ends.chain.reader) m.exits) ≡ None) (sym (equal_by j k same)) (gone_here k (tables.remove m.exits.queue ends.chain.reader) m.exits))) (exits_none m.declared.speaker m.outgoing j (peer_at j m.declared.peers)))
        (λ apart. subst (λ (o : Option OutChained). ExitsAt m.declared.speaker m.outgoing j (peer_at j m.declared.peers) o) (sym (exit_left k j (tables.remove m.exits.queue ends.chain.reader) m.exits apart)) (stands.exits.sessions j)))

-- ---- a session begins
pub number_at : (k : ℕ) (ps : List DeclaredPeer) (p : DeclaredPeer) → peer_at k ps ≡ Some p → p.words.number ≡ k
number_at k [] p at = absurd (cc)
number_at k (q ∷ ps) p at = by_bool (nat_eq q.words.number k) (λ b. cond b (Some q) (peer_at k ps) ≡ Some p → p.words.number ≡ k)
    (λ e here. let same : q ≡ p = cc in subst (λ (x : DeclaredPeer). x.words.number ≡ k) same (equal_by q.words.number k e)) (λ _ later. number_at k ps p later) at

-- the peer, where its session was counted
begun_is : (k : ℕ) (p : DeclaredPeer) → p.words.number ≡ k → p.up ≡ false → begun_at k p ≡ record { words = p.words; session = p.session + 1; up = true }
begun_is k p number down = ap (λ b. cond (b && not p.up) (record { words = p.words; session = p.session + 1; up = true }) p) (same_by p.words.number k number)
    ∙ ap (λ (u : Bool). cond (not u) (record { words = p.words; session = p.session + 1; up = true }) p) down

module _ (k : ℕ) (m m' : Moment) (p : DeclaredPeer) (entries : List (Entry Value)) (stands : Stands (begun m k)) (at : peer_at k m.declared.peers ≡ Some p) (down : p.up ≡ false) (b : BeginsSession k (begun m k) m' entries) where
  number : p.words.number ≡ k
  number = number_at k m.declared.peers p at

  peer_is : b.peer ≡ record { words = p.words; session = p.session + 1; up = true }
  peer_is = some_is (sym b.at ∙ peer_at_map (begun_at k) (begun_words k) k m.declared.peers ∙ ap (option_map (begun_at k)) at) ∙ begun_is k p number down
    where
      some_is : Some b.peer ≡ Some (begun_at k p) → b.peer ≡ begun_at k p
      some_is e = cc

  begins : BeginsExit b.me p.words (p.session + 1) (rules_to k m.outgoing) m.exits m'.exits entries
  begins = subst (λ (q : DeclaredPeer). BeginsExit b.me q.words q.session (rules_to k m.outgoing) m.exits m'.exits entries) peer_is b.begins

  kept_by : (r : ℕ) → m.reader ≡ Some r → KeepsStranger r m.exits m'.exits
  kept_by r is = let reads = reads_as (begun m k) stands r is in begin_keeps r b.me p.words (p.session + 1) (rules_to k m.outgoing) m.exits m'.exits entries stands.exits.each reads.own reads.live begins

  sessions_then : (j : ℕ) → ExitsAt m.declared.speaker m.outgoing j (peer_at j (with_session m.declared k).peers) (exit_at j m'.exits)
  sessions_then j = subst (λ (o : Option OutChained). ExitsAt m.declared.speaker m.outgoing j (peer_at j (with_session m.declared k).peers) o) (sym (ap (exit_at j) begins.after ∙ ap (λ (n : ℕ). exit_at j (with_exit n new (tables.insert m.exits.queue begins.reader []) m.exits)) number))
      (by_bool (nat_eq j k) (λ t. ExitsAt m.declared.speaker m.outgoing j (peer_at j (with_session m.declared k).peers) (exit_at j (with_exit k new (tables.insert m.exits.queue begins.reader []) m.exits)))
      (λ same. subst (λ (n : ℕ). ExitsAt m.declared.speaker m.outgoing n (peer_at n (with_session m.declared k).peers) (exit_at n (with_exit k new (tables.insert m.exits.queue begins.reader []) m.exits))) (sym (equal_by j k same))
      (subst (λ (o : Option OutChained). ExitsAt m.declared.speaker m.outgoing k (peer_at k (with_session m.declared k).peers) o) (sym (put_here k new (tables.insert m.exits.queue begins.reader []) m.exits))
      (subst (λ (o : Option DeclaredPeer). ExitsAt m.declared.speaker m.outgoing k o (Some new)) (sym (b.at ∙ ap Some peer_is))
      (subst (λ (s : Option Speaker). ExitsAt s m.outgoing k (Some (record { words = p.words; session = p.session + 1; up = true })) (Some new)) (sym b.local) (record { up = refl; session = refl; words = refl; speaker = refl; latest = refl })))))
      (λ apart. subst (λ (o : Option OutChained). ExitsAt m.declared.speaker m.outgoing j (peer_at j (with_session m.declared k).peers) o) (sym (exit_elsewhere k j new (tables.insert m.exits.queue begins.reader []) m.exits apart)) (stands.exits.sessions j)))
    where
      new : OutChained
      new = new_out (exit_to m.exits.profile b.me p.words) p.words (p.session + 1) begins.reader (rules_to k m.outgoing)

  begun_leads : Leads (router_links m) (entries_of (journal_lines entries)) (router_links (with_exits (begun m k) m'.exits))
  begun_leads = subst (λ (es : List (Entry Value)). Leads (router_links m) es (router_links (with_exits (begun m k) m'.exits))) (sym (entries_of_entries entries))
      (leads_anywhere_with_best (best_of m) (exit_links m.exits (best_of m)) (exit_links m'.exits (best_of m)) (router_links m) (router_links (with_exits (begun m k) m'.exits)) entries
      (begins.leads (best_of m)) (ap (λ (s : Option Speaker). best_links s (best_of m) Best) b.local) (among (begun m k) m'.exits (λ r is. (kept_by r is).unread)))

  begun_keeps : Keeps (live_state (begun m k)) m (with_exits (begun m k) m'.exits) (journal_lines entries)
  begun_keeps = record {
    leads = begun_leads;
    live = refl;
    stands = stands_exits (begun m k) m'.exits stands begins.sound
        (subst (λ (x : Exited). AllLead x.queue (best_of m)) (sym begins.after) (join_keeps_leading m.exits.queue (best_of m) begins.reader stands.exits.all))
        (begins.stand (best_of m) (subst (λ (x : Profile). RowsMayBeHeard x (best_of m)) (sym stands.exits.profile) (heard_of (begun m k) stands)) stands.exits.read)
        (ap (λ (x : Exited). x.profile) begins.after ∙ stands.exits.profile) sessions_then (strangers_read m.declared.speaker m.reader m.exits m'.exits kept_by stands.exits.one)
        (external_kept (begun m k) m'.exits stands (λ r is. (kept_by r is).unread));
    heard = beginning_is_heard m.declared.profile (neighbours m.declared) b.me p.words (p.session + 1) (rules_to k m.outgoing) m.exits m'.exits entries begins;
  }

  session_steps : HasStepped m (events.Up k) 0 m' (journal_lines entries)
  session_steps = subst (λ (n : Moment). HasStepped m (events.Up k) 0 n (journal_lines entries)) (sym b.after) (record {
    block = subst (λ (o : Option DeclaredPeer). ByPeer (λ q. BeginsIf q.up m k q (journal_lines entries) 0 (with_exits (begun m k) m'.exits)) o) (sym at)
        (subst (λ (u : Bool). BeginsIf u m k p (journal_lines entries) 0 (with_exits (begun m k) m'.exits)) (sym down)
        (refl, subst (λ (s : Option Speaker). BySpeaker (λ me. Begins me k p m (journal_lines entries) (with_exits (begun m k) m'.exits)) s) (sym b.local) (record { entries = entries; begins = begins; lines = refl; after = refl })));
    live = live_state (begun m k);
    after = sym (ap (begun_if_down (live_state m) k) at ∙ ap (λ (u : Bool). cond u (live_state m) (live_state (begun m k))) down);
    keeps = begun_keeps;
  })

there_of : (d : Declaration) (k : ℕ) → refusal d (events.Up k) ≡ None → (p : DeclaredPeer) × (peer_at k d.peers ≡ Some p)
there_of d k admitted = by_peer (peer_at k d.peers) (may_begin d k admitted)
  where
    by_peer : (o : Option DeclaredPeer) → session_refusal o ≡ None → (p : DeclaredPeer) × (o ≡ Some p)
    by_peer None e = absurd (cc)
    by_peer (Some p) e = (p, refl)

pub session_begun : (k : ℕ) (m n m' : Moment) (before now : Journaled) → Stands m → refusal m.declared (events.Up k) ≡ None → is_up (peer_at k m.declared.peers) ≡ false → n ≡ begun m k → Adds (BeginsSession k n m') before now → Pushes (HasStepped m (events.Up k) 0 m') before now
session_begun k m n m' before now stands admitted down is adds =
    let p = there_of m.declared k admitted in
    let off : p.0.up ≡ false = sym (ap is_up p.1) ∙ down in
    let b = subst (λ (x : Moment). BeginsSession k x m' adds.0) is adds.2 in
    (journal_lines adds.0, adds.1, session_steps k m m' p.0 adds.0 (begun_stands m k stands) p.1 off b)

-- what that asks for
pub begins_there : (k : ℕ) (m n : Moment) → refusal m.declared (events.Up k) ≡ None → n ≡ begun m k → IsSome (peer_at k n.declared.peers)
begins_there k m n admitted is =
    let p = there_of m.declared k admitted in
    ap (λ (x : Moment). is_some (peer_at k x.declared.peers)) is ∙ ap is_some (peer_at_map (begun_at k) (begun_words k) k m.declared.peers) ∙ ap (λ o. is_some (option_map (begun_at k) o)) p.1

pub begins_absent : (k : ℕ) (m n : Moment) → Stands m → refusal m.declared (events.Up k) ≡ None → is_up (peer_at k m.declared.peers) ≡ false → n ≡ begun m k → exit_at k n.exits ≡ None
begins_absent k m n stands admitted down is =
    let p = there_of m.declared k admitted in
    ap (λ (x : Moment). exit_at k x.exits) is
    ∙ no_exit_down m.declared.speaker m.outgoing k p.0 (exit_at k m.exits) (sym (ap is_up p.1) ∙ down) (subst (λ (o : Option DeclaredPeer). ExitsAt m.declared.speaker m.outgoing k o (exit_at k m.exits)) p.1 (stands.exits.sessions k))

sends_as : (profile : Profile) (s : Option Speaker) → IsSome s → MaySend profile s → SendsAs s profile
sends_as profile None since may = absurd (let clash : false ≡ true = since in cc)
sends_as profile (Some me) since may = may

speaker_up : (d : Declaration) (k : ℕ) → refusal d (events.Up k) ≡ None → IsSome d.speaker
unfolding refusal
speaker_up d k e = by_speaker d.speaker e
  where
    by_speaker : (s : Option Speaker) → refusal_at d.v6 d.profile s d.peers (events.Up k) ≡ None → IsSome s
    by_speaker None e = absurd (cc)
    by_speaker (Some me) e = refl

pub begins_sender : (k : ℕ) (m n : Moment) → Stands m → refusal m.declared (events.Up k) ≡ None → n ≡ begun m k → SendsAs n.declared.speaker n.exits.profile
begins_sender k m n stands admitted is = subst (λ (x : Moment). SendsAs x.declared.speaker x.exits.profile) (sym is)
    (subst (λ (profile : Profile). SendsAs m.declared.speaker profile) (sym stands.exits.profile) (sends_as m.declared.profile m.declared.speaker (speaker_up m.declared k admitted) stands.exits.sender))

pub begins_sound : (k : ℕ) (m n : Moment) → Stands m → n ≡ begun m k → IsExits n.exits
begins_sound k m n stands is = subst (λ (x : Moment). IsExits x.exits) (sym is) stands.exits.each

-- ---- rules of an outgoing filter
rules_same : (policies : Policies) (k : ℕ) (rules : List Rule) → rules_to k (tables.insert policies k rules) ≡ rules
rules_same policies k rules = ap rules_by (get-insert nat_cmp_total policies k rules k ∙ ap (λ b. cond b (Some rules) (tables.get policies k)) (same_number k))

rules_other : (policies : Policies) (k j : ℕ) (rules : List Rule) → nat_eq j k ≡ false → rules_to j (tables.insert policies k rules) ≡ rules_to j policies
rules_other policies k j rules apart = ap rules_by (get-insert nat_cmp_total policies k rules j ∙ ap (λ b. cond b (Some rules) (tables.get policies j)) (key_apart j k apart))

rules_then : (policies : Policies) (k j : ℕ) (rules : List Rule) → rules_to j (tables.insert policies k rules) ≡ with_rules (λ i. rules_to i policies) k rules j
rules_then policies k j rules = by_bool (nat_eq j k) (λ b. rules_to j (tables.insert policies k rules) ≡ cond b rules (rules_to j policies))
    (λ same. ap (λ (n : ℕ). rules_to n (tables.insert policies k rules)) (equal_by j k same) ∙ rules_same policies k rules) (λ apart. rules_other policies k j rules apart)

edited_queue : (k : ℕ) (rules : List Rule) (o : Option OutChained) (e : Exited) → (edited_by k rules o e).queue ≡ e.queue
edited_queue k rules None e = refl
edited_queue k rules (Some c) e = refl

edited_profile : (k : ℕ) (rules : List Rule) (o : Option OutChained) (e : Exited) → (edited_by k rules o e).profile ≡ e.profile
edited_profile k rules None e = refl
edited_profile k rules (Some c) e = refl

edited_elsewhere : (k j : ℕ) (rules : List Rule) (o : Option OutChained) (e : Exited) → nat_eq j k ≡ false → exit_at j (edited_by k rules o e) ≡ exit_at j e
edited_elsewhere k j rules None e apart = refl
edited_elsewhere k j rules (Some c) e apart = exit_elsewhere k j (with_rules_out rules c) e.queue e apart

module _ (m : Moment) (k : ℕ) (rules : List Rule) (e : Exited) (stands : Stands m) (edits : EditsExit k rules m.exits e) where
  abbrev redirected : Moment
  redirected = record m { outgoing = tables.insert m.outgoing k rules; exits = e }

  kept_edit : (r : ℕ) → m.reader ≡ Some r → KeepsStranger r m.exits e
  kept_edit r is = edit_keeps r k rules m.exits e stands.exits.each (reads_as m stands r is).own edits

  here_at : (s : Option Speaker) (p : Option DeclaredPeer) (o : Option OutChained) → exit_at k m.exits ≡ o → ExitsAt s m.outgoing k p o → ExitsAt s (tables.insert m.outgoing k rules) k p (exit_at k (edited_by k rules o m.exits))
  here_at s p None at is = subst (λ (x : Option OutChained). ExitsAt s (tables.insert m.outgoing k rules) k p x) (sym at) (exits_none s (tables.insert m.outgoing k rules) k p)
  here_at (Some me) (Some p) (Some c) at is = subst (λ (x : Option OutChained). ExitsAt (Some me) (tables.insert m.outgoing k rules) k (Some p) x) (sym (put_here k (with_rules_out rules c) m.exits.queue m.exits))
      (record { up = is.up; session = is.session; words = is.words; speaker = is.speaker; latest = present_edited c.filter.in_force c.filter.walk (Some rules) ∙ ap Some (sym (rules_same m.outgoing k rules)) })
  here_at (Some me) None (Some c) at is = absurd is
  here_at None p (Some c) at is = absurd is

  other_at : (j : ℕ) (s : Option Speaker) (p : Option DeclaredPeer) (o : Option OutChained) → nat_eq j k ≡ false → ExitsAt s m.outgoing j p o → ExitsAt s (tables.insert m.outgoing k rules) j p o
  other_at j s p None apart is = exits_none s (tables.insert m.outgoing k rules) j p
  other_at j (Some me) (Some p) (Some c) apart is = subst (λ (l : List Rule). IsExitOf me l p c) (sym (rules_other m.outgoing k j rules apart)) is
  other_at j (Some me) None (Some c) apart is = absurd is
  other_at j None p (Some c) apart is = absurd is

  sessions_edited : (j : ℕ) → ExitsAt m.declared.speaker (tables.insert m.outgoing k rules) j (peer_at j m.declared.peers) (exit_at j e)
  sessions_edited j = subst (λ (o : Option OutChained). ExitsAt m.declared.speaker (tables.insert m.outgoing k rules) j (peer_at j m.declared.peers) o) (sym (ap (exit_at j) edits.after))
      (by_bool (nat_eq j k) (λ t. ExitsAt m.declared.speaker (tables.insert m.outgoing k rules) j (peer_at j m.declared.peers) (exit_at j (edited_by k rules (exit_at k m.exits) m.exits)))
      (λ same. subst (λ (n : ℕ). ExitsAt m.declared.speaker (tables.insert m.outgoing k rules) n (peer_at n m.declared.peers) (exit_at n (edited_by k rules (exit_at k m.exits) m.exits))) (sym (equal_by j k same))
      (here_at m.declared.speaker (peer_at k m.declared.peers) (exit_at k m.exits) refl (stands.exits.sessions k)))
      (λ apart. subst (λ (o : Option OutChained). ExitsAt m.declared.speaker (tables.insert m.outgoing k rules) j (peer_at j m.declared.peers) o) (sym (edited_elsewhere k j rules (exit_at k m.exits) m.exits apart))
      (other_at j m.declared.speaker (peer_at j m.declared.peers) (exit_at j m.exits) apart (stands.exits.sessions j))))

  redirected_stands : Stands redirected
  redirected_stands = record {
    peers = stands.peers;
    interior = stands.interior;
    registered = stands.registered;
    hops = stands.hops;
    exits = record {
      rows = stands.exits.rows;
      each = edits.sound;
      all = subst (λ (x : Queued Route). AllLead x (best_of m)) (sym (ap (λ (x : Exited). x.queue) edits.after ∙ edited_queue k rules (exit_at k m.exits) m.exits)) stands.exits.all;
      read = edits.stand (best_of m) stands.exits.read;
      profile = ap (λ (x : Exited). x.profile) edits.after ∙ edited_profile k rules (exit_at k m.exits) m.exits ∙ stands.exits.profile;
      sender = stands.exits.sender;
      sessions = sessions_edited;
      one = strangers_read m.declared.speaker m.reader m.exits e kept_edit stands.exits.one;
      external = external_kept m e stands (λ r is. (kept_edit r is).unread);
    };
    external = stands.external;
    waits = stands.waits;
  }

  same_links : router_links redirected ≡ router_links m
  same_links i link = each link i
    where
      each : (link : Link) → router_links redirected link ≡ router_links m link
      each (Read j s) = ap (λ (l : Links Value). l (Read j s)) (edits.links (best_of m))
      each (Outf j s) = ap (λ (l : Links Value). l (Outf j s)) (edits.links (best_of m))
      each (Adv j s) = ap (λ (l : Links Value). l (Adv j s)) (edits.links (best_of m))
      each ReadRib = same_read m.exits.queue e.queue m.reader (best_of m) (λ r is. (kept_edit r is).unread)
      each other = refl

  pub redirects : HasStepped m (events.FilterOut k rules) 0 redirected []
  redirects = record {
    block = (e, edits, (refl, refl, refl));
    live = record (live_state m) { outgoing = with_rules (live_state m).outgoing k rules };
    after = refl;
    keeps = record {
      leads = leads_nowhere (router_links m) (router_links redirected) (sym same_links);
      live = λ i. record (live_state m) { outgoing = λ j. rules_then m.outgoing k j rules i };
      stands = redirected_stands;
      heard = heard_quiet m redirected [] tt (edit_keeps_views k rules m.exits e edits);
    };
  }

pub outgoing_edited : (m v : Moment) (k : ℕ) (rules copied : List Rule) (policies : Policies) (e : Exited) → v ≡ m → Stands m → copied ≡ rules → policies ≡ tables.insert v.outgoing k rules → EditsExit k copied v.exits e → HasStepped m (events.FilterOut k rules) 0 (record v { outgoing = policies; exits = e }) []
outgoing_edited m v k rules copied policies e view stands same set edits =
    subst (λ (n : Moment). HasStepped n (events.FilterOut k rules) 0 (record v { outgoing = policies; exits = e }) []) view
    (subst (λ (x : Policies). HasStepped v (events.FilterOut k rules) 0 (record v { outgoing = x; exits = e }) []) (sym set)
    (redirects v k rules e (subst Stands (sym view) stands) (subst (λ (l : List Rule). EditsExit k l v.exits e) same edits)))

-- ---- `local`
-- this speaker's words can be said
pub may_send : (v6 : Bool) (profile : Profile) (words : Speaker) → IsProfileOf v6 profile → IsSpeaker v6 profile.as4 words → IsSender profile words
may_send v6 profile words of is = record { asn = by_width profile.as4 is.asn_most; addr = subst (λ (b : Bool). IsHost b words.addr) (sym of.second) (record { of = is.addr_fits; host = is.host }) }
  where
    by_width : (as4 : Bool) → words.asn < asn_bound as4 → words.asn < 256 ^ width_of as4
    by_width true most = most
    by_width false most = most
