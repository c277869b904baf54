-- `local`: the links of the interior routes begin.
use Rattle.router_moments.proofs.Common.{Bool, sym, subst, ◌∙◌, ap, ◌≡◌, ℕ, refl, List, true, arith, false, ◌+◌, ◌++◌, cond, ◌<◌, suc, zero, take, get_or, nat_tests, take_more, nat_cmp_total, get-insert, nat_cmp, eq_by_cmp, Route, Speaker, peer_at, Declaration, AllStand, with_queue, Queued, AllLead, unread_or_none, resolver_at, rows_by, with_lines_append, Journaled, Adds, with_entries, with_lines, entries_of, route_rows, Leads, Links, Link, Best, Fib, Adv, Read, Outf, Org, Value, rows_before, Rows, no_rows, Resolving, Metric, OutChained, Passed, IsSender, filt_at, Protos, StandsOver, RibExit, Proto, Connected, Static, Ospf, Rip, Interior, of_new, org_rows, int_rows, Treed, branch_of, tree_links, low_rows, dyn_rows, own_rows, all_at, best_at, best_links, own_links, live_state, Moment, best_of, router_links, own_of, read_of, read_by, tree_by, forward_by, Stands, ExitsAt, journal_lines, Pushes, HasStepped}
use Rattle.std.proofs.Common.{[], ◌∷◌, map, length, Option, Some, None, is_some}
use Rattle.std.specs.FinMap as tables
use Rattle.std.proofs.lemmas.List.{map-append}
use Rattle.rib_tree.specs.Steps.{new_tree}
use Rattle.journal_text.specs.declared.link.Link.TheVariants.{Lost, Low, Dyn, Int, Red, Ebgp, Ibgp, Ext, ReadRib}
use Rattle.journal_text.specs.declared.entry.Entry.TheVariants.{Inherit}
use Rattle.journal_text.specs.Walk.{fold_links}
use Rattle.redist.proofs.LawLemmas.{nothing_at_first}
use Rattle.rib_exit.specs.Exits.{nothing_yet, exit_links}
use Rattle.rib_exit.specs.Steps.{begin_entries}
use Rattle.rib_exit.proofs.LawLemmas.{stands_at_first}
use Rattle.router_moments.proofs.BestLemmas.{best_none}
use Rattle.journal_text.specs.Values.{interior_rows}
use Rattle.event_text.specs.declared.event.Event.TheVariants as events
use Rattle.event_text.specs.Declarations.{refusal, with_speaker}
use Rattle.router_moments.specs.Blocks.{begin_line, first_begins, rib_begins, declared_speaker}
use Rattle.router_moments.proofs.BeforeLocal.{local_first, no_chain, no_exit, no_reader, read_before}
use Rattle.bgp_attr.specs.Speakers.{IsProfileOf, IsSpeaker}
use Rattle.fanout_queue.specs.Queues.{AllBelowRead}
use Rattle.fanout_queue.proofs.LeadLemmas.{join_keeps_leading}
use Rattle.exit_side.specs.Exits.{exit_links as exit_links_of}
use Rattle.exit_side.specs.Laws.{IsStranger, StaysWithQueue, StrangersJoin}
use Rattle.router_moments.proofs.HeardSteps.{heard_quiet}
use Rattle.router_moments.proofs.QueueLemmas.{exits_none}
use Rattle.router_moments.proofs.SessionLemmas.{may_send}
use Rattle.rib_tree.proofs.NewLemmas.{org_empty, low_empty, dyn_empty, int_empty}
use Rattle.loss_chain.specs.Tables.{rows_above}
use Rattle.std.specs.Prelude.{option_map}
use Rattle.router_moments.specs.Works.{BeginsReading}

same_key : (k : ℕ) → eq_by_cmp nat_cmp k k ≡ true
same_key k = grind (arith, nat_tests)

-- a link of interior routes without rows
begins : (rows : Rows Interior) → rows ≡ no_rows → ◌≡◌ {A = Option (Rows Value)} (Some no_rows) (Some (interior_rows rows))
begins rows empty = ap (λ (r : Rows Interior). Some (interior_rows r)) (sym empty)

none_lost : (proto : Proto) (n : ℕ) → tree_links new_tree (Lost proto n) ≡ None
none_lost proto n = of_new (λ b. option_map interior_rows (rows_above b.tables.live n b.tables.deletions) ≡ None) (λ k. refl) proto

-- no peer is declared before it, so where this speaker's own rows are none, no row is the best
none_decided : (m : Moment) (own : Rows Route) → Stands m → m.declared.speaker ≡ None → own ≡ no_rows → best_at own m.chains m.hops ≡ no_rows
none_decided m own stands first none = best_none (all_at own m.chains m.hops) by_branch
  where
    by_resolver : (k : ℕ) (o : Option (Resolving Metric)) → resolver_at k m.hops ≡ o → rows_by o (filt_at m.chains k) ≡ no_rows
    by_resolver k None at = refl
    by_resolver k (Some s) at = absurd (let clash : false ≡ true = sym (ap is_some (no_chain m stands first k)) ∙ sym (stands.hops.same k) ∙ ap is_some at in cc)

    by_branch : (k : ℕ) → all_at own m.chains m.hops k ≡ no_rows
    by_branch zero = none
    by_branch (suc k) = by_resolver (suc k) (resolver_at (suc k) m.hops) refl

-- nothing is redistributed before it, and so nothing at first
pub own_before : (m : Moment) → m.declared.speaker ≡ None → own_of m ≡ no_rows
own_before m first = ap (λ (s : Option Speaker). own_rows s m.redist (int_rows m.tree)) first

pub own_then : (m : Moment) (words : Speaker) → Stands m → m.declared.speaker ≡ None → own_rows (Some words) m.redist (int_rows m.tree) ≡ no_rows
own_then m words stands first = ap (λ (s : Passed Protos). own_rows (Some words) s (int_rows m.tree)) (stands.waits.own first) ∙ nothing_at_first words (int_rows m.tree)

-- a link of external routes without rows
begins_external : (link : Link) (rows : Rows Value) → exit_links nothing_yet no_rows link ≡ Some rows → Some no_rows ≡ exit_links nothing_yet no_rows link
begins_external link rows is = ap (λ (r : Rows Value). Some r) (sym (stands_at_first.rows link rows is)) ∙ sym is

module _ (law : StrangersJoin) (m : Moment) (words : Speaker) (reader : ℕ) (admitted : refusal m.declared (events.Local words) ≡ None) (stands : Stands m) (sender : IsSender m.declared.profile words) (fresh : tables.get m.exits.queue reader ≡ None) (least : AllBelowRead m.exits.queue reader) where
  abbrev queue : Queued Route
  queue = tables.insert m.exits.queue reader []

  abbrev then : Moment
  then = record (declared_speaker m words) { exits = with_queue queue m.exits; reader = Some reader }

  first : m.declared.speaker ≡ None
  first = local_first m.declared words admitted

  empty : m.tree ≡ new_tree
  empty = stands.interior.waiting first

  -- no row is the best, before it and then
  decided : best_of m ≡ no_rows
  decided = none_decided m (own_of m) stands first (own_before m first)

  decided_then : best_of then ≡ no_rows
  decided_then = none_decided m (own_of then) stands first (own_then m words stands first)

  same_best : best_of m ≡ best_of then
  same_best = decided ∙ sym decided_then

  -- nobody reads before
  joins : IsStranger reader m.exits × StaysWithQueue m.exits queue
  joins = law m.exits reader stands.exits.each fresh

  joined : tables.get queue reader ≡ Some []
  joined = get-insert nat_cmp_total m.exits.queue reader [] reader ∙ ap (λ b. cond b (Some []) (tables.get m.exits.queue reader)) (same_key reader)

  read_then : read_of then ≡ no_rows
  read_then = ap (λ u. rows_before (unread_or_none u) (best_of then)) joined ∙ decided_then

  then_stands : Stands then
  then_stands = record {
    peers = record { chains = stands.peers.chains; each = stands.peers.each; speaker = λ k c at. absurd (let one : m.declared.speaker ≡ Some c.me = stands.peers.speaker k c at in let none = first in cc); count = stands.peers.count; numbers = stands.peers.numbers };
    interior = let t = stands.interior in record { tree = t.tree; full = t.full; few = t.few; waiting = λ e. absurd (cc) };
    registered = stands.registered;
    hops = stands.hops;
    exits = record {
      rows = stands.exits.rows;
      each = joins.1.sound;
      all = subst (λ (rows : Rows Route). AllLead queue rows) same_best (join_keeps_leading m.exits.queue (best_of m) reader stands.exits.all);
      read = subst (λ (rows : Rows Route). AllStand rows (with_queue queue m.exits)) same_best (joins.1.stand (best_of m) stands.exits.read);
      profile = stands.exits.profile;
      sender = sender;
      sessions = λ k. subst (λ (o : Option OutChained). ExitsAt (Some words) m.outgoing k (peer_at k m.declared.peers) o) (sym (no_exit m stands first k)) (exits_none (Some words) m.outgoing k (peer_at k m.declared.peers));
      one = record { live = ap is_some joined; own = joins.0 };
      external = subst (λ (rows : Rows Route). StandsOver rows m.rib) (read_before m stands first ∙ sym read_then) stands.exits.external;
    };
    external = stands.external;
    waits = record {
      own = λ e. absurd (cc);
      external = λ e. absurd (cc);
    };
  }

  none : (link : Link) → tree_by m.declared.speaker m.tree link ≡ None
  none link = ap (λ (s : Option Speaker). tree_by s m.tree link) first

  no_forward : (link : Link) → forward_by m.declared.speaker m.rib (int_rows m.tree) link ≡ None
  no_forward link = ap (λ (s : Option Speaker). forward_by s m.rib (int_rows m.tree) link) first

  in_tree : (link : Link) (own : Option (Rows Value)) → own ≡ tree_links new_tree link → own ≡ tree_links m.tree link
  in_tree link own is = is ∙ ap (λ (t : Treed). tree_links t link) (sym empty)

  begin_org : (proto : Proto) → fold_links (router_links m) (entries_of rib_begins) (Org proto) ≡ tree_links m.tree (Org proto)
  begin_org Connected = in_tree (Org Connected) (Some no_rows) (begins (org_rows (branch_of Connected new_tree)) (org_empty Connected))
  begin_org Static = in_tree (Org Static) (Some no_rows) (begins (org_rows (branch_of Static new_tree)) (org_empty Static))
  begin_org Ospf = in_tree (Org Ospf) (Some no_rows) (begins (org_rows (branch_of Ospf new_tree)) (org_empty Ospf))
  begin_org Rip = in_tree (Org Rip) (Some no_rows) (begins (org_rows (branch_of Rip new_tree)) (org_empty Rip))

  in_forward : (link : Link) (own : Option (Rows Value)) → own ≡ exit_links nothing_yet no_rows link → own ≡ exit_links m.rib (int_rows m.tree) link
  in_forward link own is = is ∙ ap (λ (rows : Rows Interior). exit_links nothing_yet rows link) (sym (ap int_rows empty ∙ int_empty)) ∙ ap (λ (x : RibExit). exit_links x (int_rows m.tree) link) (sym (stands.waits.external first))

  own_begins : ◌≡◌ {A = Option (Rows Value)} (Some no_rows) (Some (route_rows (own_of then)))
  own_begins = ap (λ (rows : Rows Route). Some (route_rows rows)) (sym (own_then m words stands first))

  best_begins : ◌≡◌ {A = Option (Rows Value)} (Some no_rows) (Some (route_rows (best_of then)))
  best_begins = ap (λ (rows : Rows Route). Some (route_rows rows)) (sym decided_then)

  exits_stay_put : exit_links_of m.exits (best_of m) ≡ exit_links_of (with_queue queue m.exits) (best_of then)
  exits_stay_put = ap (exit_links_of m.exits) same_best ∙ sym (joins.1.links (best_of then))

  links_then : fold_links (router_links m) (entries_of rib_begins) ≡ router_links then
  links_then i link = each link i
    where
      each : (link : Link) → fold_links (router_links m) (entries_of rib_begins) link ≡ router_links then link
      each (Org p) = begin_org p
      each (Lost p n) = none (Lost p n) ∙ in_tree (Lost p n) None (sym (none_lost p n))
      each Low = in_tree Low (Some no_rows) (begins (low_rows new_tree) low_empty)
      each Dyn = in_tree Dyn (Some no_rows) (begins (dyn_rows new_tree) dyn_empty)
      each Int = in_tree Int (Some no_rows) (begins (int_rows new_tree) int_empty)
      each Red = own_begins
      each Best = best_begins
      each ReadRib = best_begins ∙ ap (λ u. Some (route_rows (rows_before (unread_or_none u) (best_of then)))) (sym joined)
      each (Read j s) = ap (λ (l : Links Value). l (Read j s)) exits_stay_put
      each (Outf j s) = ap (λ (l : Links Value). l (Outf j s)) exits_stay_put
      each (Adv j s) = ap (λ (l : Links Value). l (Adv j s)) exits_stay_put
      each Ebgp = in_forward Ebgp (Some no_rows) (begins_external Ebgp _ refl)
      each Ibgp = in_forward Ibgp (Some no_rows) (begins_external Ibgp _ refl)
      each Ext = in_forward Ext (Some no_rows) (begins_external Ext _ refl)
      each Fib = in_forward Fib (Some no_rows) (begins_external Fib _ refl)
      each other = refl

  begun_leads : Leads (router_links m) (entries_of rib_begins) (router_links then)
  begun_leads = record {
    lawful = (
      none (Org Connected),
      (
        none (Org Static),
        (
          none (Org Ospf),
          (
            none (Org Rip),
            (
              none Low,
              (
                none Dyn,
                (
                  none Int,
                  (
                    ap (λ (s : Option Speaker). own_links s (own_of m) Red) first,
                    (
                      ap (λ (s : Option Speaker). best_links s (best_of m) Best) first,
                      (
                        (ap (λ (o : Option ℕ). read_by m.exits.queue o (best_of m)) (no_reader m stands first), refl),
                        (no_forward Ebgp, (no_forward Ibgp, (no_forward Ext, (no_forward Fib, tt)))),
                      ),
                    ),
                  ),
                ),
              ),
            ),
          ),
        ),
      ),
    );
    ends = links_then;
  }

  local_stepped : HasStepped m (events.Local words) 0 then rib_begins
  local_stepped = record {
    block = (refl, record { reader = reader; fresh = fresh; least = least; lines = refl; after = refl });
    live = live_state then;
    after = refl;
    keeps = record { leads = begun_leads; live = refl; stands = then_stands; heard = heard_quiet m then rib_begins (refl, (refl, (refl, (refl, (refl, (refl, (refl, (refl, (refl, (refl, (refl, (refl, (refl, (refl, tt)))))))))))))) refl };
  }

pub speaker_is : (m v : Moment) (words : Speaker) (after : Declaration) → v ≡ m → after ≡ with_speaker v.declared words → record v { declared = after } ≡ declared_speaker m words
speaker_is m v words after view said = ap (λ (d : Declaration). record v { declared = d }) said ∙ ap (λ (n : Moment). declared_speaker n words) view

-- the profile is of the network's family
pub profile_is_of : (m v : Moment) (v6 : Bool) → v ≡ m → v.declared.v6 ≡ v6 → IsProfileOf v6 v.declared.profile → IsProfileOf m.declared.v6 m.declared.profile
profile_is_of m v v6 view family of = subst (λ (n : Moment). IsProfileOf n.declared.v6 n.declared.profile) view (subst (λ (b : Bool). IsProfileOf b v.declared.profile) (sym family) of)

-- the RIB's exit, as its links begin
pub nothing_external : (m n n' : Moment) (words : Speaker) (before now : Journaled) → Stands m → refusal m.declared (events.Local words) ≡ None → n ≡ declared_speaker m words → Adds (BeginsReading n n') before now → n'.rib ≡ nothing_yet
nothing_external m n n' words before now stands admitted is adds =
    ap (λ (x : Moment). x.rib) adds.2.after ∙ ap (λ (x : Moment). x.rib) is ∙ stands.waits.external (local_first m.declared words admitted)

pub local_declared : StrangersJoin → (m n n' : Moment) (words : Speaker) (before j1 j2 now : Journaled) → Stands m → refusal m.declared (events.Local words) ≡ None → IsProfileOf m.declared.v6 m.declared.profile → IsSpeaker m.declared.v6 m.declared.profile.as4 words → n ≡ declared_speaker m words → j1 ≡ with_lines before first_begins
    → Adds (BeginsReading n n') j1 j2 → now ≡ with_entries j2 begin_entries → Pushes (HasStepped m (events.Local words) 0 n') before now
local_declared law m n n' words before j1 j2 now stands admitted of formed is begins adds last = (rib_begins, lines, here)
  where
    lines : now ≡ with_lines before rib_begins
    lines = last ∙ ap (λ (j : Journaled). with_entries j begin_entries) (adds.1 ∙ ap (with_entries j1) adds.2.lines ∙ ap (λ (j : Journaled). with_entries j (Inherit ReadRib Best ∷ [])) begins ∙ with_lines_append before first_begins (journal_lines (Inherit ReadRib Best ∷ [])))
        ∙ with_lines_append before (first_begins ++ journal_lines (Inherit ReadRib Best ∷ [])) (journal_lines begin_entries)

    reads : BeginsReading (declared_speaker m words) n' adds.0
    reads = subst (λ (x : Moment). BeginsReading x n' adds.0) is adds.2

    here : HasStepped m (events.Local words) 0 n' rib_begins
    here = subst (λ (x : Moment). HasStepped m (events.Local words) 0 x rib_begins) (sym reads.after) (local_stepped law m words reads.reader admitted stands (may_send m.declared.v6 m.declared.profile words of formed) reads.fresh reads.least)

-- ---- one link after the other
-- the first so many of these links have begun
abbrev pub HaveBegun : List Link → ℕ → Journaled → Journaled → Type 0
HaveBegun links n before now = now ≡ with_lines before (map begin_line (take n links))

pub begun_next : (links : List Link) (n : ℕ) (x : Link) (before j now : Journaled) → n < length links → HaveBegun links n before j → now ≡ with_lines j (begin_line (get_or links n x) ∷ [])
    → HaveBegun links (n + 1) before now
begun_next links n x before j now below begun last =
    let link : Link = get_or links n x in
    last ∙ ap (λ (y : Journaled). with_lines y (begin_line link ∷ [])) begun ∙ with_lines_append before (map begin_line (take n links)) (begin_line link ∷ [])
    ∙ ap (with_lines before) (sym (map-append begin_line (take n links) (link ∷ [])))
    ∙ ap (λ (ls : List Link). with_lines before (map begin_line ls)) (sym (take_more links n x below))
