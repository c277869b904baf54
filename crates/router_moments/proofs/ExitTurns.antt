-- One turn of what reads `best`: of the forwarding side, and of a peer's exit.
use Rattle.router_moments.proofs.Common.{sym, subst, ◌∙◌, ap, ◌≡◌, ℕ, refl, List, true, arith, false, ◌+◌, Bool, ◌++◌, ◌≤◌, cond, nat_eq, ◌≢◌, inr, nat_lt, inl, IfSome, nat_tests, nat_cmp_total, get-insert, Attrs, Route, Speaker, best_rows, peer_at, DeclaredPeer, unheard_joins, Exited, AllStand, with_exit, with_queue, Queued, AllLead, Takes, unread_or_none, read_rows, neighbours, entries_of_entries, leads_append, leads_sent, Journaled, flushed, Adds, with_entries, entries_of, route_value, route_rows, Leads, Links, with_link, Entry, Line, Link, Value, IsSent, rows_before, Rows, Change, Turn, way_of, OutChained, is_unread, adds_both, Registry, StandsOver, FallsOn, RibExit, FibRow, Interior, int_rows, lent_rows, live_state, Moment, best_of, router_links, own_of, with_exits, read_rows_by, read_links, candidates_of, most_unread, with_rib, counts, unread_if, best_beyond, Stands, ExitsAt, ReadsOn, journal_lines, Keeps, TakesTurn, IsWork, Taken}
use Rattle.std.proofs.Common.{[], ◌∷◌, length, Option, Some, None, is_some, IsSome}
use Rattle.std.specs.Prelude.{MatchBool}
use Rattle.std.proofs.lemmas.List.{append-nil}
use Rattle.std.specs.FinMap as tables
use Rattle.std.specs.FinMap.{len-insert}
use Rattle.link_change.proofs.InOrderLemmas.{before_is_old}
use Rattle.link_change.specs.declared.turn.Turn.TheVariants as turns
use Rattle.journal_text.specs.declared.link.Link.TheVariants as links
use Rattle.journal_text.specs.declared.link.Task.TheVariants as tasks
use Rattle.journal_text.specs.Values.{valued_change}
use Rattle.journal_text.proofs.JournalLemmas.{entries_of_append}
use Rattle.loss_chain.proofs.TableLemmas.{equal_by}
use Rattle.rib_exit.specs.Steps.{TakesExternal}
use Rattle.link_region.proofs.RegionLemmas.{by_bool}
use Rattle.fanout_queue.proofs.LeadLemmas.{take_keeps_leading}
use Rattle.out_chain.specs.Steps.{sending_entries, said_of, message_lines}
use Rattle.exit_side.specs.Exits.{chain_at as exit_at}
use Rattle.exit_side.specs.Steps.{TurnsExit, ComesOut}
use Rattle.exit_side.specs.Laws.{KeepsStranger, StaysWithQueue, StrangersTake}
use Rattle.exit_side.proofs.StrangerLemmas.{turn_keeps}
use Rattle.exit_laws.proofs.HearLemmas.{changes_are_unheard}
use Rattle.exit_laws.proofs.ViewLemmas.{turn_is_heard, put_here}
use Rattle.router_moments.specs.declared.tasks.Phase.TheVariants as phases
use Rattle.router_moments.specs.Turns.{IsReadTurn, IsOutTurn}
use Rattle.router_moments.specs.Works.{Forwards}
use Rattle.router_moments.proofs.BestLemmas.{lent_is}
use Rattle.router_moments.proofs.QueueLemmas.{reader_live}
use Rattle.router_moments.proofs.HeardSteps.{heard_quiet, exits_declared}
use Rattle.router_moments.proofs.StaleLemmas.{kept_or_learnt, all_as_before, none_as_before, none_goes_stale}
use Rattle.router_moments.proofs.ReadingLemmas.{best_counted, take_most, refreshes_less}
use Rattle.router_moments.proofs.SessionLemmas.{stands_exits, external_kept, strangers_read, reads_as, exits_lead, exit_elsewhere}
use Rattle.router_moments.proofs.ExternalTurns.{forward_leads, exit_unheard, stands_forward}
use Rattle.router_moments.proofs.SpendLemmas.{Spent}
use Rattle.router_moments.proofs.WorkLemmas.{one_turn}
use Rattle.fanout_queue.proofs.Cases.{same_number}

-- ---- whether the forwarding side has something to read
pub reader_is : (m v : Moment) → v ≡ m → Stands m → (r : ℕ) → v.reader ≡ Some r → IsSome (tables.get v.exits.queue r)
reader_is m v view stands r is = subst (λ (n : Moment). IsSome (tables.get n.exits.queue r)) (sym view) (reader_live m stands r (ap (λ (n : Moment). n.reader) (sym view) ∙ is))

counted : (o : Option (List (Change Route))) (n : ℕ) → IsSome o → IfSome o (λ u. n ≡ length u) → nat_lt 0 n ≡ is_unread (unread_or_none o)
counted None n live is = absurd (let clash : false ≡ true = live in cc)
counted (Some []) n live is = ap (nat_lt 0) is
counted (Some (x ∷ u)) n live is = let more : 0 + 1 ≤ n = omega (arith, is) in grind (arith, nat_tests)

pub reads_is : (m v : Moment) (r n : ℕ) → v ≡ m → Stands m → v.reader ≡ Some r → IfSome (tables.get v.exits.queue r) (λ u. n ≡ length u) → nat_lt 0 n ≡ is_unread (unread_if m.exits.queue m.reader)
reads_is m v r n view stands is waiting =
    counted (tables.get v.exits.queue r) n (reader_is m v view stands r is) waiting ∙ ap (λ (o : Option ℕ). is_unread (unread_if v.exits.queue o)) (sym is) ∙ ap (λ (x : Moment). is_unread (unread_if x.exits.queue x.reader)) view

pub reads_nothing : (m v : Moment) → v ≡ m → v.reader ≡ None → false ≡ is_unread (unread_if m.exits.queue m.reader)
reads_nothing m v view none = ap (λ (o : Option ℕ). is_unread (unread_if v.exits.queue o)) (sym none) ∙ ap (λ (x : Moment). is_unread (unread_if x.exits.queue x.reader)) view

-- ---- a turn of the forwarding side
-- it reads from `local` on
reads_since : (s : Option Speaker) (o : Option ℕ) (e : Exited) (r : ℕ) → o ≡ Some r → ReadsOn s o e → (me : Speaker) × (s ≡ Some me)
reads_since (Some me) o e r is on = (me, refl)
reads_since None None e r is on = absurd (cc)
reads_since None (Some q) e r is on = absurd on

-- a change that a reader takes leads from the rows that it had to those that it has
pub taken_sent : (queued left : Queued Route) (r : ℕ) (change : Change Route) (best : Rows Route) → AllLead queued best → Takes queued left r (Some change) → IsSent (read_rows queued r best) (read_rows left r best) change.prefix (Some change)
taken_sent queued left r change best all takes =
    let lead = all r (change ∷ takes.0) takes.1 in
    let is : tables.get left r ≡ Some takes.0 = ap (λ (x : Queued Route). tables.get x r) takes.2 ∙ get-insert nat_cmp_total queued r takes.0 r ∙ ap (λ b. cond b (Some takes.0) (tables.get queued r)) (same_number r) in
    subst (λ (rows : Rows Route). IsSent rows (read_rows left r best) change.prefix (Some change)) (ap (λ u. rows_before (unread_or_none u) best) (sym takes.1))
    (subst (λ (rows : Rows Route). IsSent (rows_before (change ∷ takes.0) best) rows change.prefix (Some change)) (ap (λ u. rows_before (unread_or_none u) best) (sym is))
    (refl, lead.0, before_is_old _ best takes.0 lead.1))

module _ (m : Moment) (r : ℕ) (change : Change Route) (queue : Queued Route) (stands : Stands m) (reads : m.reader ≡ Some r) (takes : Takes m.exits.queue queue r (Some change)) (stays : StaysWithQueue m.exits queue) where
  abbrev taken : Exited
  taken = with_queue queue m.exits

  was : tables.get m.exits.queue r ≡ Some (change ∷ takes.0)
  was = takes.1

  is : tables.get queue r ≡ Some takes.0
  is = ap (λ (x : Queued Route). tables.get x r) takes.2 ∙ get-insert nat_cmp_total m.exits.queue r takes.0 r ∙ ap (λ b. cond b (Some takes.0) (tables.get m.exits.queue r)) (same_number r)

  all : AllLead queue (best_of m)
  all = take_keeps_leading m.exits.queue queue (best_of m) r (Some change) takes stands.exits.all

  sent : IsSent (read_rows m.exits.queue r (best_of m)) (read_rows queue r (best_of m)) change.prefix (Some change)
  sent = taken_sent m.exits.queue queue r change (best_of m) stands.exits.all takes

  read_leads : Leads (router_links m) (valued_change route_value links.ReadRib change) (router_links (with_exits m taken))
  read_leads = subst (λ (l : Links Value). Leads (router_links m) (valued_change route_value links.ReadRib change) l) (λ i link. each link i)
      (leads_sent route_value (λ a b e. cc) (router_links m) links.ReadRib (read_rows m.exits.queue r (best_of m)) (read_rows queue r (best_of m)) change.prefix (Some change)
      (ap (λ (o : Option ℕ). read_links m.exits.queue o (best_of m) links.ReadRib) reads) sent)
    where
      each : (link : Link) → with_link (router_links m) links.ReadRib (Some (route_rows (read_rows queue r (best_of m)))) link ≡ router_links (with_exits m taken) link
      each links.ReadRib = ap (λ (o : Option ℕ). read_links queue o (best_of m) links.ReadRib) (sym reads)
      each (links.Read j s) = ap (λ (l : Links Value). l (links.Read j s)) (sym (stays.links (best_of m)))
      each (links.Outf j s) = ap (λ (l : Links Value). l (links.Outf j s)) (sym (stays.links (best_of m)))
      each (links.Adv j s) = ap (λ (l : Links Value). l (links.Adv j s)) (sym (stays.links (best_of m)))
      each other = refl

  reads_then : ReadsOn m.declared.speaker m.reader taken
  reads_then = by_speaker m.declared.speaker m.reader reads stands.exits.one
    where
      by_speaker : (s : Option Speaker) (o : Option ℕ) → o ≡ Some r → ReadsOn s o m.exits → ReadsOn s o taken
      by_speaker (Some me) (Some q) same on = let e : q ≡ r = cc in record { live = subst (λ (n : ℕ). IsSome (tables.get queue n)) (sym e) (ap is_some is); own = on.own }
      by_speaker (Some me) None same on = absurd on
      by_speaker None (Some q) same on = absurd on
      by_speaker None None same on = absurd (cc)

  fewer : counts (with_exits m taken) phases.ReadRib + 1 ≤ counts m phases.ReadRib
  fewer =
      let a : length (unread_if queue m.reader) ≡ length takes.0 = ap (λ (o : Option ℕ). length (unread_if queue o)) reads ∙ ap (λ u. length (unread_or_none u)) is in
      let b : length (unread_if m.exits.queue m.reader) ≡ length (change ∷ takes.0) = ap (λ (o : Option ℕ). length (unread_if m.exits.queue o)) reads ∙ ap (λ u. length (unread_or_none u)) was in
      omega (arith, a, b)

  -- it goes down through the RIB's exit
  module _ (registry : Registry Interior) (x : RibExit) (fib : Option (Change FibRow)) (entries : List (Entry Value)) (t : TakesExternal change (int_rows m.tree) fib m.registry registry m.rib x entries) where
    abbrev now : Moment
    now = with_rib (with_exits m taken) registry x

    abbrev lines : List (Entry Value)
    lines = valued_change route_value links.ReadRib change ++ entries

    stood : StandsOver (read_rows m.exits.queue r (best_of m)) m.rib
    stood = subst (λ (rows : Rows Route). StandsOver rows m.rib) (ap (λ (o : Option ℕ). read_rows_by m.exits.queue o (best_of m)) reads) stands.exits.external

    falls : FallsOn change.prefix (int_rows m.tree) t.split t.first t.second m.registry m.rib x entries (read_rows m.exits.queue r (best_of m)) (read_rows queue r (best_of m))
    falls = t.goes (read_rows m.exits.queue r (best_of m)) (read_rows queue r (best_of m)) change.prefix stood sent

    local : (me : Speaker) × (m.declared.speaker ≡ Some me)
    local = reads_since m.declared.speaker m.reader m.exits r reads stands.exits.one

    leads : Leads (router_links m) lines (router_links now)
    leads = leads_append (router_links m) (router_links (with_exits m taken)) (router_links now) (valued_change route_value links.ReadRib change) entries read_leads
        (forward_leads (with_exits m taken) local.0 registry x entries local.1 falls.leads)

    external : StandsOver (read_rows_by queue m.reader (best_of m)) x
    external = subst (λ (rows : Rows Route). StandsOver rows x) (ap (λ (o : Option ℕ). read_rows_by queue o (best_of m)) (sym reads)) falls.stands

    keeps_read : Keeps (live_state m) m now (journal_lines lines)
    keeps_read = record {
      leads = subst (λ (es : List (Entry Value)). Leads (router_links m) es (router_links now)) (sym (entries_of_entries lines)) leads;
      live = refl;
      stands = stands_forward m local.0 taken registry x stands local.1 t.agreed stays.sound all (stays.stand (best_of m) stands.exits.read) stands.exits.profile stands.exits.sessions reads_then external;
      heard = heard_quiet m now (journal_lines lines) (unheard_joins (valued_change route_value links.ReadRib change) entries (changes_are_unheard links.ReadRib change.prefix _ _) (exit_unheard _ _ entries falls.leads)) refl;
    }

    spent_read : Spent phases.ReadRib m now
    spent_read =
        let a = fewer in
        let b : counts now phases.Out ≡ counts m phases.Out = stays.left (best_beyond m.chains m.tree) in
        let most = take_most m.exits.queue queue r (Some change) takes in
        (omega (arith, a), omega (arith, a, b), (omega arith, (omega arith, (omega arith, (omega arith, (omega arith, tt))))), record { peers = omega arith; protocols = omega arith }, omega (arith, most))

    pub read_does : IsWork phases.ReadRib 1 m now (journal_lines lines)
    read_does = one_turn phases.ReadRib m now now (journal_lines lines) refl keeps_read spent_read (omega arith)
        (none_goes_stale m now (all_as_before m.hops m.hops refl) (kept_or_learnt way_of m.registry m.rib.forwarding.known x.forwarding.known falls.keeps.hops))

pub read_works : (m : Moment) (said : List Line) (m' : Moment) → Stands m → IsReadTurn m said m' → IsWork phases.ReadRib 1 m m' said
read_works m said m' stands t = subst (λ (n : Moment). IsWork phases.ReadRib 1 m n said) (sym t.after) (subst (λ (l : List Line). IsWork phases.ReadRib 1 m (with_rib (with_exits m (with_queue m'.exits.queue m.exits)) m'.registry m'.rib) l) (sym t.lines)
    (read_does m t.reader t.change m'.exits.queue stands t.reads t.takes t.stays m'.registry m'.rib t.fib t.entries t.external))

-- a change that was read goes down
pub forwarded : (change : Change Route) (m v : Moment) (registry : Registry Interior) (x : RibExit) (fib : Option (Change FibRow)) (before j now : Journaled) → v ≡ m → j ≡ with_entries before (valued_change route_value links.ReadRib change)
    → Adds (TakesExternal change (int_rows v.tree) fib v.registry registry v.rib x) j now → Adds (Forwards change m (with_rib v registry x)) before now
forwarded change m v registry x fib before j now view pushed adds = subst (λ (n : Moment). Adds (Forwards change n (with_rib v registry x)) before now) view (
  valued_change route_value links.ReadRib change ++ adds.0,
  adds_both before j now (valued_change route_value links.ReadRib change) adds.0 pushed adds.1,
  record { fib = fib; below = adds.0; external = adds.2; lines = refl; after = refl },
)

pub reader_took : StrangersTake → (m v m1 m' : Moment) (r : ℕ) (change : Change Route) (e : Exited) (before l now : Journaled) → v ≡ m → Stands m → v.reader ≡ Some r → Takes v.exits.queue e.queue r (Some change)
    → e ≡ with_queue e.queue v.exits → m1 ≡ with_exits v e → Adds (Forwards change m1 m') before l → now ≡ flushed l → TakesTurn tasks.ReadRib m m' before now Taken
reader_took law m v m1 m' r change e before l now view stands reads takes after is adds flush =
    let s = subst Stands (sym view) stands in
    let f = subst (λ (n : Moment). Forwards change n m' adds.0) (is ∙ ap (with_exits v) after) adds.2 in
    let stays = law v.exits e.queue r (Some change) s.exits.each (reads_as v s r reads).own takes in
    subst (λ (n : Moment). TakesTurn tasks.ReadRib n m' before now Taken) view (
      journal_lines adds.0,
      flush ∙ ap flushed adds.1,
      subst (λ (n : Moment). IsReadTurn v (journal_lines adds.0) n) (sym f.after)
          (record { reader = r; reads = reads; change = change; takes = takes; stays = stays; fib = f.fib; entries = f.below; external = f.external; lines = ap journal_lines f.lines; after = refl }),
    )

-- its reader is numbered as before
pub reader_same : (v : Moment) (e : Exited) (o : Option ℕ) → o ≡ v.reader → record v { exits = e; reader = o } ≡ with_exits v e
reader_same v e o same = ap (λ (q : Option ℕ). record v { exits = e; reader = q }) same

-- ---- a turn of a peer's exit
no_message : (c : OutChained) (sent : Option (Change Attrs)) → entries_of (message_lines c sent) ≡ []
no_message c None = refl
no_message c (Some change) = refl

said_entries : (c : OutChained) (entries : List (Entry Value)) (sent : Option (Change Attrs)) → entries_of (said_of c entries sent) ≡ entries ++ sending_entries c sent
said_entries c entries sent =
    entries_of_append (journal_lines (entries ++ sending_entries c sent)) (message_lines c sent) ∙ ap (λ (es : List (Entry Value)). entries_of (journal_lines (entries ++ sending_entries c sent)) ++ es) (no_message c sent)
    ∙ append-nil (entries_of (journal_lines (entries ++ sending_entries c sent))) ∙ entries_of_entries (entries ++ sending_entries c sent)

module _ (m : Moment) (k : ℕ) (sent : Option (Change Attrs)) (e : Exited) (said : List Line) (stands : Stands m) (t : TurnsExit k (candidates_of m) (best_of m) sent m.exits e said) where
  kept : (r : ℕ) → m.reader ≡ Some r → KeepsStranger r m.exits e
  kept r is = turn_keeps r k (candidates_of m) (best_of m) sent m.exits e said stands.exits.each (reads_as m stands r is).own t

  -- the change that it takes, or none
  all_lead : AllLead e.queue (best_of m)
  all_lead = elim t.turns.by as (λ _. AllLead e.queue (best_of m)) [
    | inl first ↦ take_keeps_leading m.exits.queue e.queue (best_of m) t.chain.reader (Some first.change) first.takes stands.exits.all
    | inr walks ↦ take_keeps_leading m.exits.queue e.queue (best_of m) t.chain.reader None walks.takes stands.exits.all
  ]

  same_session : (s : Option Speaker) (p : Option DeclaredPeer) → ExitsAt s m.outgoing k p (Some t.chain) → ExitsAt s m.outgoing k p (Some t.taken)
  same_session (Some me) (Some p) is = record { up = is.up; session = t.same.session ∙ is.session; words = t.same.peer ∙ is.words; speaker = ap (λ x. x.me) t.same.exit ∙ is.speaker; latest = t.same.rules ∙ is.latest }
  same_session (Some me) None is = absurd is
  same_session None p is = absurd is

  sessions : (j : ℕ) → ExitsAt m.declared.speaker m.outgoing j (peer_at j m.declared.peers) (exit_at j e)
  sessions j = subst (λ (o : Option OutChained). ExitsAt m.declared.speaker m.outgoing j (peer_at j m.declared.peers) o) (sym (ap (exit_at j) t.after))
      (by_bool (nat_eq j k) (λ b. ExitsAt m.declared.speaker m.outgoing j (peer_at j m.declared.peers) (exit_at j (with_exit k t.taken e.queue m.exits)))
      (λ same. subst (λ (n : ℕ). ExitsAt m.declared.speaker m.outgoing n (peer_at n m.declared.peers) (exit_at n (with_exit k t.taken e.queue m.exits))) (sym (equal_by j k same))
      (subst (λ (o : Option OutChained). ExitsAt m.declared.speaker m.outgoing k (peer_at k m.declared.peers) o) (sym (put_here k t.taken e.queue m.exits))
      (same_session m.declared.speaker (peer_at k m.declared.peers) (subst (λ (o : Option OutChained). ExitsAt m.declared.speaker m.outgoing k (peer_at k m.declared.peers) o) t.at (stands.exits.sessions k)))))
      (λ apart. subst (λ (o : Option OutChained). ExitsAt m.declared.speaker m.outgoing j (peer_at j m.declared.peers) o) (sym (exit_elsewhere k j t.taken e.queue m.exits apart)) (stands.exits.sessions j)))

  fewer_left : counts (with_exits m e) phases.Out + 1 ≤ counts m phases.Out
  fewer_left = t.fewer (best_beyond m.chains m.tree) (best_counted m stands)

  read_same : (o : Option ℕ) → ((r : ℕ) → o ≡ Some r → tables.get e.queue r ≡ tables.get m.exits.queue r) → length (unread_if e.queue o) ≡ length (unread_if m.exits.queue o)
  read_same None same = refl
  read_same (Some r) same = ap (λ u. length (unread_or_none u)) (same r refl)

  read_less : most_unread e ≤ most_unread m.exits
  read_less = elim t.turns.by as (λ _. most_unread e ≤ most_unread m.exits) [
    | inl first ↦ take_most m.exits.queue e.queue t.chain.reader (Some first.change) first.takes
    | inr walks ↦ take_most m.exits.queue e.queue t.chain.reader None walks.takes
  ]

  keeps : Keeps (live_state m) m (with_exits m e) said
  keeps = record {
    leads = subst (λ (es : List (Entry Value)). Leads (router_links m) es (router_links (with_exits m e))) (sym (ap entries_of t.turns.goes.lines ∙ said_entries t.chain t.turns.entries sent))
        (exits_lead m e (t.turns.entries ++ sending_entries t.chain sent) (λ r is. (kept r is).unread) t.leads);
    live = refl;
    stands = stands_exits m e stands t.sound all_lead t.stand (ap (λ (x : Exited). x.profile) t.after ∙ stands.exits.profile) sessions (strangers_read m.declared.speaker m.reader m.exits e kept stands.exits.one)
        (external_kept m e stands (λ r is. (kept r is).unread));
    heard = turn_is_heard m.declared.profile (neighbours m.declared) k (candidates_of m) (best_of m) sent m.exits e said (exits_declared m stands) t;
  }

  as_many : tables.len e.chains ≡ tables.len m.exits.chains
  as_many = ap (λ (x : Exited). tables.len x.chains) t.after ∙ len-insert nat_cmp_total m.exits.chains k t.taken ∙ ap (λ (o : Option OutChained). cond (is_some o) (tables.len m.exits.chains) (tables.len m.exits.chains + 1)) t.at

  spent : Spent phases.Out m (with_exits m e)
  spent =
      let fewer = fewer_left in
      let same = read_same m.reader (λ r is. (kept r is).unread) in
      let most = read_less in
      let again = refreshes_less m (with_exits m e) (omega (arith, as_many)) (omega arith) in
      (omega (arith, fewer), omega (arith, fewer, again), (omega arith, (omega arith, (omega arith, (omega arith, (omega arith, (omega (arith, same), tt)))))), record { peers = omega arith; protocols = omega arith }, omega (arith, most))

  exit_does : IsWork phases.Out 1 m (with_exits m e) said
  exit_does = one_turn phases.Out m (with_exits m e) (with_exits m e) said refl keeps spent (omega arith, omega arith) (none_as_before m (with_exits m e) refl refl)

pub exit_works : (k : ℕ) (m : Moment) (said : List Line) (m' : Moment) → Stands m → IsOutTurn k m said m' → IsWork phases.Out 1 m m' said
exit_works k m said m' stands t = subst (λ (n : Moment). IsWork phases.Out 1 m n said) (sym t.after) (exit_does m k t.sent m'.exits said stands t.turn)

-- by what it came to, over the rows that are lent
pub exit_took : (m v : Moment) (k : ℕ) (e : Exited) (before j now : Journaled) (turn : Turn Attrs) (rested : Bool) → MatchBool rested (turn ≡ turns.Nothing) (turn ≢ turns.Nothing) → rested ≡ false → v ≡ m
    → ComesOut k (candidates_of v) (best_rows (lent_rows (own_of v) v.chains v.hops)) v.exits e before j turn → now ≡ flushed j → TakesTurn (tasks.Out k) m (with_exits v e) before now Taken
exit_took m v k e before j now turn rested told some view comes is =
    subst (λ (n : Moment). TakesTurn (tasks.Out k) n (with_exits v e) before now Taken) view
    (by_turn turn (subst (λ (b : Bool). MatchBool b (turn ≡ turns.Nothing) (turn ≢ turns.Nothing)) some told) (subst (λ (rows : Rows Route). ComesOut k (candidates_of v) rows v.exits e before j turn) (lent_is (own_of v) v.chains v.hops) comes))
  where
    by_turn : (t : Turn Attrs) → t ≢ turns.Nothing → ComesOut k (candidates_of v) (best_of v) v.exits e before j t → TakesTurn (tasks.Out k) v (with_exits v e) before now Taken
    by_turn turns.Nothing other c = absurd (other refl)
    by_turn turns.Quiet other c = (c.0, is ∙ ap flushed c.1, record { sent = None; turn = c.2; after = refl })
    by_turn (turns.Sent change) other c = (c.0, is ∙ ap flushed c.1, record { sent = Some change; turn = c.2; after = refl })

-- what the turn asks for
pub exits_stand : (m v : Moment) → v ≡ m → Stands m → AllStand (best_rows (lent_rows (own_of v) v.chains v.hops)) v.exits
exits_stand m v view stands = subst (λ (rows : Rows Route). AllStand rows v.exits) (sym (lent_is (own_of v) v.chains v.hops)) ((subst Stands (sym view) stands).exits.read)
