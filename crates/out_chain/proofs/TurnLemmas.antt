-- What one turn makes of a chain, its queue and the journal.
use Rattle.std.proofs.Common.{◌≡◌, ◌≢◌, ℕ, ◌+◌, ◌<◌, ◌⊎◌, inl, inr, cond, List, [], ◌∷◌, ◌++◌, length, map, Option, Some, None, IsSome, refl, sym, ap, subst, ◌∙◌, arith, append_assoc}
use Rattle.std.proofs.lemmas.List.{append-nil}
use Rattle.std.specs.Option.{ForSome}
use Rattle.std.specs.Cmp.{nat_cmp_total}
use Rattle.std.specs.FinMap as tables
use Rattle.std.specs.FinMap.{FinMap, get-insert, get-remove}
use Rattle.addr4.specs.Prefixes.{AddressPrefix, prefix_cmp}
use Rattle.bgp_attr.specs.Attributes.{Attrs}
use Rattle.bgp_attr.specs.Routes.{Route}
use Rattle.bgp_attr.specs.declared.speaker.Profile.{Profile}
use Rattle.bgp_attr.specs.Speakers.{Speaker}
use Rattle.bgp_attr.specs.declared.speaker.Neighbour.{Neighbour}
use Rattle.link_change.specs.Rows.{Rows, Candidates, no_rows}
use Rattle.link_change.specs.Changes.{IsSent}
use Rattle.link_change.specs.InOrder.{ChangesLead, rows_before}
use Rattle.link_change.specs.Turns.{IsTurned, taken_turn}
use Rattle.link_change.specs.Changes.{Change}
use Rattle.link_change.specs.Turns.{Turn}
use Rattle.link_change.specs.declared.turn.Turn.TheVariants.{Nothing, Quiet, Sent}
use Rattle.link_change.proofs.InOrderLemmas.{take_sends, take_leads}
use Rattle.link_change.proofs.RowLemmas.{empty_rows}
use Rattle.policy_rules.specs.Rules.{Rule}
use Rattle.pass_core.specs.Passed.{Passed}
use Rattle.pass_core.specs.Turns.{Walks}
use Rattle.pass_core.specs.Left.{turns_left}
use Rattle.pass_core.proofs.TurnLemmas.{a_walk_leads, an_edit_keeps_the_rows}
use Rattle.pass_core.proofs.LeftLemmas.{walk_is_spent}
use Rattle.filter_bank.specs.Outgoing.{first_walk}
use Rattle.filter_bank.proofs.OutLemmas.{nothing_at_first}
use Rattle.peer_out.specs.Forms.{Exit}
use Rattle.peer_out.specs.Changes.{IsSender, IsReadAs, saying, message_octets}
use Rattle.cache_stage.specs.Caches.{kept_after}
use Rattle.cache_stage.proofs.KeptLemmas.{keeps}
use Rattle.fanout_queue.specs.Queues.{Queued, Takes}
use Rattle.fanout_queue.specs.Readers.{unread_or_none, unread_by, read_rows, ReaderLeads, KeepsOtherReaders}
use Rattle.fanout_queue.proofs.Cases.{same_number, other_number}
use Rattle.fanout_queue.proofs.LeadLemmas.{take_keeps_readers}
use Rattle.journal_text.specs.Lines.{Line}
use Rattle.journal_text.specs.declared.line.Line.TheVariants as lines
use Rattle.journal_text.specs.Lines.{Value}
use Rattle.journal_text.specs.Lines.{Entry}
use Rattle.journal_text.specs.Journals.{Journaled, with_lines, with_entries}
use Rattle.journal_text.specs.Walk.{Leads, no_links}
use Rattle.journal_text.specs.Values.{attrs_value, route_value, route_rows, attrs_rows, sent_entries, valued_change}
use Rattle.journal_text.specs.declared.link.Link.TheVariants.{Read, Outf, Adv}
use Rattle.journal_text.proofs.JournalLemmas.{as_lines, with_lines_append, as_lines_append}
use Rattle.out_chain.specs.Chains.{OutChained, form_of, made_by, outf_rows, session_links, out_links, beside_out, HasSent, RowsMayBeHeard, ChangesMayBeHeard, OutStands}
use Rattle.out_chain.specs.Steps.{exit_to, new_out, start_entries, LeadsFromBest, with_rules, sent_after, with_sent, with_filter, read_entries, sending_entries, message_lines, said_of, IsTold, GoesOut, PassesOut, WalksOut, IsWalkedOut, ReadsFirst, WalksNext, TurnsOut, AddsLines, IsOutTurn}
use Rattle.out_chain.proofs.SessionLinks.{goes_down, begins}
use Rattle.out_chain.proofs.SaidLemmas.{row_sayable_after, walked_sayable}
use Rattle.out_chain.proofs.RefreshLemmas.{MayBeSent, after_sayable, after_with_rows, nothing_sent, no_walk_yet}

-- ---- what a change, or none, does to rows, whatever its prefix is called

abbrev no_prefix : AddressPrefix
no_prefix = record { address = 0; length = 0 }

abbrev prefix_of : Option (Change Attrs) → AddressPrefix
prefix_of None = no_prefix
prefix_of (Some change) = change.prefix

sent_by : (old new : Rows Attrs) (sent : Option (Change Attrs)) → IsTurned old new (taken_turn sent) → IsSent old new (prefix_of sent) sent
sent_by old new None is = is
sent_by old new (Some change) is = is

-- the cache follows
cache_sends : (m : FinMap prefix_cmp Attrs) (upper now : Rows Attrs) (p : AddressPrefix) (sent : Option (Change Attrs)) → tables.get m ≡ upper → IsSent upper now p sent → IsSent (tables.get m) (tables.get (sent_after m sent)) p sent
cache_sends m upper now p None has is = refl
cache_sends m upper now p (Some change) has is = (keeps m (kept_after m change.prefix change.after) change refl upper now p is has).0

cache_has : (m : FinMap prefix_cmp Attrs) (upper now : Rows Attrs) (p : AddressPrefix) (sent : Option (Change Attrs)) → tables.get m ≡ upper → IsSent upper now p sent → tables.get (sent_after m sent) ≡ now
cache_has m upper now p None has is = has ∙ sym is
cache_has m upper now p (Some change) has is = (keeps m (kept_after m change.prefix change.after) change refl upper now p is has).1

-- ---- lines
pub said_on : (j mid now : Journaled) (c : OutChained) (first : List (Entry Value)) (sent : Option (Change Attrs)) → mid ≡ with_entries j first → now ≡ with_lines mid (said_of c [] sent)
    → now ≡ with_lines j (said_of c first sent)
said_on j mid now c first sent mid_is now_is =
    let below = sending_entries c sent in
    let tail = message_lines c sent in
    now_is ∙ ap (λ (m : Journaled). with_lines m (as_lines below ++ tail)) mid_is ∙ with_lines_append j (as_lines first) (as_lines below ++ tail)
    ∙ ap (with_lines j) (sym (append_assoc (as_lines first) (as_lines below) tail) ∙ ap (λ (l : List Line). l ++ tail) (sym (as_lines_append first below)))

pub said_nothing : (j now : Journaled) (c : OutChained) (first : List (Entry Value)) → now ≡ with_entries j first → now ≡ with_lines j (said_of c first None)
said_nothing j now c first is =
    is ∙ ap (with_lines j) (as_nothing first)
  where
    as_nothing : (es : List (Entry Value)) → map (λ e. lines.Journal e) es ≡ map (λ e. lines.Journal e) (es ++ []) ++ []
    as_nothing [] = refl
    as_nothing (e ∷ es) = ap (λ (t : List Line). lines.Journal e ∷ t) (as_nothing es)

-- where nothing is sent and nothing was read, nothing is said
pub said_none : (j : Journaled) (c : OutChained) → j ≡ with_lines j (said_of c [] None)
said_none j c = ap (λ (l : List ℕ). record j { pending = l }) (sym (append-nil j.pending))

-- the lines of a change that is said: its entries, and the message
pub said_lines : (c v : OutChained) → v ≡ c → (sent : Change Attrs) (n : ℕ) (octets : List ℕ) (j mid now : Journaled) → n ≡ v.peer.number → octets ≡ message_octets v.exit.profile sent
    → mid ≡ with_entries j (valued_change attrs_value (Outf n v.session) sent ++ valued_change attrs_value (Adv n v.session) sent) → now ≡ with_lines mid (lines.Out n octets ∷ [])
    → now ≡ with_lines j (said_of c [] (Some sent))
said_lines c v is sent n octets j mid now number told both out = subst (λ (x : OutChained). now ≡ with_lines j (said_of x [] (Some sent))) is (
    let Entries : ℕ → List (Entry Value) = λ m. valued_change attrs_value (Outf m v.session) sent ++ valued_change attrs_value (Adv m v.session) sent in
    out ∙ ap (λ (m : Journaled). with_lines m (lines.Out n octets ∷ [])) both ∙ with_lines_append j (as_lines (Entries n)) (lines.Out n octets ∷ [])
    ∙ ap (λ (m : ℕ). with_lines j (map (λ e. lines.Journal e) (Entries m) ++ lines.Out m octets ∷ [])) number
    ∙ ap (λ (o : List ℕ). with_lines j (map (λ e. lines.Journal e) (Entries v.peer.number) ++ lines.Out v.peer.number o ∷ [])) told)

-- the peer reads these octets as the change
pub said_told : (c v : OutChained) → v ≡ c → (sent : Change Attrs) (octets : List ℕ) → octets ≡ message_octets v.exit.profile sent
    → IsReadAs v.exit.profile v.exit.external octets (saying sent.prefix sent.after) → IsTold c.exit sent
said_told c v is sent octets written reads = subst (λ (x : OutChained). IsTold x.exit sent) is
    (subst (λ (o : List ℕ). IsReadAs v.exit.profile v.exit.external o (saying sent.prefix sent.after)) written reads)

-- ---- what the reader hasn't taken, before and after a turn
module _ (queued left : Queued Route) (reader : ℕ) where
  pub was_first : (change : Change Route) (takes : Takes queued left reader (Some change)) → unread_by queued reader ≡ change ∷ takes.0
  was_first change takes = ap unread_or_none takes.1

  is_rest : (change : Change Route) (takes : Takes queued left reader (Some change)) → unread_by left reader ≡ takes.0
  is_rest change takes =
      ap (λ (m : Queued Route). unread_by m reader) takes.2
      ∙ ap unread_or_none (get-insert nat_cmp_total queued reader takes.0 reader ∙ ap (λ b. cond b (Some takes.0) (tables.get queued reader)) (same_number reader))

  was_none : Takes queued left reader None → unread_by queued reader ≡ []
  was_none takes = ap unread_or_none takes.0

  is_none : Takes queued left reader None → unread_by left reader ≡ []
  is_none takes = ap (λ (m : Queued Route). unread_by m reader) takes.1 ∙ was_none takes

  -- the change leads from the rows that the reader had to those that it has
  reads_on : (best : Rows Route) (change : Change Route) → Takes queued left reader (Some change) → ReaderLeads queued reader best
      → IsSent (read_rows queued reader best) (read_rows left reader best) change.prefix (Some change)
  reads_on best change takes leads =
      let Lead : List (Change Route) → Type 0 = λ u. ChangesLead (rows_before u best) u best in
      let sends = take_sends best change takes.0 (subst Lead (was_first change takes) leads) in
      let P : List (Change Route) → Type 0 = λ u. IsSent (rows_before u best) (read_rows left reader best) change.prefix (Some change) in
      let Q : List (Change Route) → Type 0 = λ u. IsSent (rows_before (change ∷ takes.0) best) (rows_before u best) change.prefix (Some change) in
      subst P (sym (was_first change takes)) (subst Q (sym (is_rest change takes)) sends)

  -- and the first of them differs from what stood before it
  pub differs : (best : Rows Route) (change : Change Route) → Takes queued left reader (Some change) → ReaderLeads queued reader best → change.after ≢ change.before
  differs best change takes leads = (reads_on best change takes leads).1.1

  read_fewer : (change : Change Route) (walk : ℕ) → Takes queued left reader (Some change) → length (unread_by left reader) + walk < length (unread_by queued reader) + walk
  read_fewer change walk takes =
      let now : length (unread_by left reader) ≡ length takes.0 = ap length (is_rest change takes) in
      let was : length (unread_by queued reader) ≡ length takes.0 + 1 = ap length (was_first change takes) ∙ omega arith in
      omega (arith, now, was)

  walk_fewer : (a b : ℕ) → Takes queued left reader None → a < b → length (unread_by left reader) + a < length (unread_by queued reader) + b
  walk_fewer a b takes less =
      let now : length (unread_by left reader) ≡ 0 = ap length (is_none takes) in
      let was : length (unread_by queued reader) ≡ 0 = ap length (was_none takes) in
      omega (arith, less, now, was)

-- ---- what goes out
goes : (old : OutChained) (filter : Passed (Option (List Rule))) (read now : Rows Route) (p q : AddressPrefix) (first : Option (Change Route)) (sent : Option (Change Attrs))
    → IsSent read now p first → IsSent (outf_rows old read) (outf_rows (with_filter old filter) now) q sent → HasSent old read → ForSome sent (IsTold old.exit)
    → GoesOut old (with_sent (with_filter old filter) sent) read now (sent_entries route_value (Read old.peer.number old.session) first) sent (said_of old (sent_entries route_value (Read old.peer.number old.session) first) sent)
goes old filter read now p q first sent reads filters has told = record {
  leads = λ others.
      goes_down others old.peer.number old.session read now (outf_rows old read) (outf_rows (with_filter old filter) now) (tables.get old.sent) (tables.get (sent_after old.sent sent)) p q first sent
      reads filters (cache_sends old.sent (outf_rows old read) (outf_rows (with_filter old filter) now) q sent has filters);
  exact = cache_has old.sent (outf_rows old read) (outf_rows (with_filter old filter) now) q sent has filters;
  lines = refl;
  told = told;
}

-- ---- a change that the reader took
module _ (old : OutChained) (queued left : Queued Route) (candidates : Candidates) (best : Rows Route) where
  reads_turn : (change : Change Route) (sent : Option (Change Attrs)) (before now : Journaled) → Takes queued left old.reader (Some change) → ReaderLeads queued old.reader best
      → HasSent old (read_rows queued old.reader best) → PassesOut old (with_sent old sent) change sent before now
      → AddsLines (TurnsOut old (with_sent old sent) queued left candidates best sent) before now
  reads_turn change sent before now takes leads has passes =
      let reads = reads_on queued left old.reader best change takes leads in
      let filters = passes.filters (read_rows queued old.reader best) (read_rows left old.reader best) change.prefix reads in (
        said_of old (read_entries old change) sent,
        passes.lines,
        record {
          entries = read_entries old change;
          by = inl (record { change = change; takes = takes; entry = refl; filters = filters; after = refl });
          goes = goes old old.filter (read_rows queued old.reader best) (read_rows left old.reader best) change.prefix change.prefix (Some change) sent reads filters has passes.told;
          fewer = λ beyond counts. read_fewer queued left old.reader change (turns_left beyond old.filter) takes;
        },
      )

  pub reads_first : (new : OutChained) (change : Change Route) (sent : Option (Change Attrs)) (before now : Journaled) → Takes queued left old.reader (Some change) → ReaderLeads queued old.reader best
      → HasSent old (read_rows queued old.reader best) → PassesOut old new change sent before now → AddsLines (TurnsOut old new queued left candidates best sent) before now
  reads_first new change sent before now takes leads has passes =
      let P : OutChained → Type 0 = λ n. AddsLines (TurnsOut old n queued left candidates best sent) before now in
      let Q : OutChained → Type 0 = λ n. PassesOut old n change sent before now in
      subst P (sym passes.after) (reads_turn change sent before now takes leads has (subst Q passes.after passes))

  -- ---- a turn of the walk
  walk_sends : (f : Passed (Option (List Rule))) (sent : Option (Change Attrs)) → Walks (made_by old) candidates best old.filter f sent
      → IsTurned (outf_rows old best) (outf_rows (with_filter old f) best) (taken_turn sent)
  walk_sends f None walks = a_walk_leads (made_by old) candidates best old.filter f Quiet walks
  walk_sends f (Some change) walks = a_walk_leads (made_by old) candidates best old.filter f (Sent change) walks

  walks_turn : (f : Passed (Option (List Rule))) (sent : Option (Change Attrs)) (before now : Journaled) → Takes queued left old.reader None
      → HasSent old (read_rows queued old.reader best) → WalksOut old (with_sent (with_filter old f) sent) candidates best sent before now
      → AddsLines (TurnsOut old (with_sent (with_filter old f) sent) queued left candidates best sent) before now
  walks_turn f sent before now takes has walks =
      let new = with_sent (with_filter old f) sent in
      let was : read_rows queued old.reader best ≡ best = ap (λ u. rows_before u best) (was_none queued left old.reader takes) in
      let is : read_rows left old.reader best ≡ best = ap (λ u. rows_before u best) (is_none queued left old.reader takes) in
      let filters = sent_by (outf_rows old best) (outf_rows (with_filter old f) best) sent (walk_sends f sent walks.walks) in
      let out = goes old f best best no_prefix (prefix_of sent) None sent refl filters (subst (HasSent old) was has) walks.told in
      let P : Rows Route → Type 0 = λ r. GoesOut old new r (read_rows left old.reader best) [] sent (said_of old [] sent) in
      let Q : Rows Route → Type 0 = λ r. GoesOut old new best r [] sent (said_of old [] sent) in (
        said_of old [] sent,
        walks.lines,
        record {
          entries = [];
          by = inr (record { takes = takes; walks = walks.walks; entry = refl; after = refl });
          goes = subst P (sym was) (subst Q (sym is) out);
          fewer = λ beyond counts.
              walk_fewer queued left old.reader (turns_left beyond f) (turns_left beyond old.filter) takes
              (walk_is_spent (made_by old) candidates best beyond old.filter f sent counts walks.walks);
        },
      )

  walks_next : (new : OutChained) (sent : Option (Change Attrs)) (before now : Journaled) → Takes queued left old.reader None
      → HasSent old (read_rows queued old.reader best) → WalksOut old new candidates best sent before now → AddsLines (TurnsOut old new queued left candidates best sent) before now
  walks_next new sent before now takes has walks =
      let P : OutChained → Type 0 = λ n. AddsLines (TurnsOut old n queued left candidates best sent) before now in
      let Q : OutChained → Type 0 = λ n. WalksOut old n candidates best sent before now in
      subst P (sym walks.after) (walks_turn new.filter sent before now takes has (subst Q walks.after walks))

  -- ---- what a turn came to
  pub turned_out : (new : OutChained) (sent : Option (Change Attrs)) (before now : Journaled) → AddsLines (TurnsOut old new queued left candidates best sent) before now
      → IsOutTurn old new queued left candidates best before now (taken_turn sent)
  turned_out new None before now adds = adds
  turned_out new (Some change) before now adds = adds

  pub walked_out : (new : OutChained) (before now : Journaled) (turn : Turn Attrs) → Takes queued left old.reader None → HasSent old (read_rows queued old.reader best)
      → IsWalkedOut old new candidates best before now turn → IsOutTurn old new queued left candidates best before now turn
  walked_out new before now Nothing takes has is = (takes, is.0, is.1, is.2)
  walked_out new before now Quiet takes has is = walks_next new None before now takes has is
  walked_out new before now (Sent change) takes has is = walks_next new (Some change) before now takes has is

  -- ---- what it keeps standing
  -- what is left after a turn may be heard
  left_heard : (profile : Profile) (result : Option (Change Route)) → Takes queued left old.reader result → ChangesMayBeHeard profile (unread_by queued old.reader) → ChangesMayBeHeard profile (unread_by left old.reader)
  left_heard profile None takes heard = subst (λ (m : Queued Route). ChangesMayBeHeard profile (unread_by m old.reader)) (sym takes.1) heard
  left_heard profile (Some change) takes heard =
      subst (ChangesMayBeHeard profile) (sym (is_rest queued left old.reader change takes))
      (subst (ChangesMayBeHeard profile) (was_first queued left old.reader change takes) heard).1

  left_leads : (result : Option (Change Route)) → Takes queued left old.reader result → ReaderLeads queued old.reader best → ReaderLeads left old.reader best
  left_leads None takes leads = subst (λ (m : Queued Route). ReaderLeads m old.reader best) (sym takes.1) leads
  left_leads (Some change) takes leads =
      let Lead : List (Change Route) → Type 0 = λ u. ChangesLead (rows_before u best) u best in
      subst Lead (sym (is_rest queued left old.reader change takes)) (take_leads best change takes.0 (subst Lead (was_first queued left old.reader change takes) leads))

  -- with the exit, the peer and the reader as they were
  stands_by : (filter : Passed (Option (List Rule))) (sent : Option (Change Attrs)) (result : Option (Change Route)) → Takes queued left old.reader result → ForSome sent (MayBeSent old)
      → HasSent (with_sent (with_filter old filter) sent) (read_rows left old.reader best) → OutStands old queued best → OutStands (with_sent (with_filter old filter) sent) left best
  stands_by filter sent result takes may exact was = record {
    chain = record {
      kind = was.chain.kind;
      sender = was.chain.sender;
      sayable = after_sayable old old.sent sent was.chain.sayable may;
      refresh = after_with_rows old.sent old.refresh sent was.chain.refresh;
    };
    live = take_keeps_readers queued left old.reader result takes old.reader was.live;
    leads = left_leads result takes was.leads;
    exact = exact;
    heard = was.heard;
    unread = left_heard old.exit.profile result takes was.unread;
  }

  stands_on : (new : OutChained) (filter : Passed (Option (List Rule))) (sent : Option (Change Attrs)) (result : Option (Change Route)) → new ≡ with_sent (with_filter old filter) sent → Takes queued left old.reader result
      → ForSome sent (MayBeSent old) → HasSent new (read_rows left old.reader best) → OutStands old queued best → OutStands new left best
  stands_on new filter sent result after takes may exact was =
      subst (λ (n : OutChained). OutStands n left best) (sym after)
      (stands_by filter sent result takes may (subst (λ (n : OutChained). HasSent n (read_rows left old.reader best)) after exact) was)

  -- what goes out may be said
  read_may : (new : OutChained) (entries : List (Entry Value)) (sent : Option (Change Attrs)) → ReadsFirst old new queued left best entries sent → OutStands old queued best → ForSome sent (MayBeSent old)
  read_may new entries sent r was change is =
      let filters = subst (IsSent (outf_rows old (read_rows queued old.reader best)) (outf_rows old (read_rows left old.reader best)) r.change.prefix) is r.filters in
      let reads = reads_on queued left old.reader best r.change r.takes was.leads in
      let heard = (subst (ChangesMayBeHeard old.exit.profile) (was_first queued left old.reader r.change r.takes) was.unread).0 in
      row_sayable_after old (outf_rows old (read_rows queued old.reader best)) (read_rows queued old.reader best) (read_rows left old.reader best) r.change change was.chain.sender heard reads filters

  walk_may : (new : OutChained) (entries : List (Entry Value)) (sent : Option (Change Attrs)) → WalksNext old new queued left candidates best entries sent → OutStands old queued best → ForSome sent (MayBeSent old)
  walk_may new entries sent w was change is =
      walked_sayable old new.filter candidates best change was.chain.sender was.heard (subst (Walks (made_by old) candidates best old.filter new.filter) is w.walks)

  turned_stands : (new : OutChained) (sent : Option (Change Attrs)) (said : List Line) → TurnsOut old new queued left candidates best sent said → OutStands old queued best → OutStands new left best
  turned_stands new sent said t was = by t.by
    where
      by : ReadsFirst old new queued left best t.entries sent ⊎ WalksNext old new queued left candidates best t.entries sent → OutStands new left best
      by (inl r) = stands_on new old.filter sent (Some r.change) r.after r.takes (read_may new t.entries sent r was) t.goes.exact was
      by (inr w) = stands_on new new.filter sent None w.after w.takes (walk_may new t.entries sent w was) t.goes.exact was

  pub turn_stands : (new : OutChained) (before now : Journaled) (turn : Turn Attrs) → IsOutTurn old new queued left candidates best before now turn → OutStands old queued best → OutStands new left best
  turn_stands new before now Nothing is was =
      let P : OutChained → Type 0 = λ n. OutStands n left best in
      let Q : Queued Route → Type 0 = λ m. OutStands old m best in
      subst P (sym is.2) (subst Q (sym is.0.1) was)
  turn_stands new before now Quiet is was = turned_stands new None is.0 is.2 was
  turn_stands new before now (Sent change) is was = turned_stands new (Some change) is.0 is.2 was

-- ---- a session begins and ends
pub join_keeps_others : (queued : Queued Route) (reader : ℕ) → KeepsOtherReaders reader queued (tables.insert queued reader [])
join_keeps_others queued reader other apart =
    get-insert nat_cmp_total queued reader [] other ∙ ap (λ b. cond b (Some []) (tables.get queued other)) (other_number other reader apart)

pub leave_keeps_others : (queued : Queued Route) (reader : ℕ) → KeepsOtherReaders reader queued (tables.remove queued reader)
leave_keeps_others queued reader other apart =
    get-remove nat_cmp_total queued reader other ∙ ap (λ b. cond b None (tables.get queued other)) (other_number other reader apart)

joined_unread : (queued : Queued Route) (reader : ℕ) → tables.get (tables.insert queued reader []) reader ≡ Some []
joined_unread queued reader = get-insert nat_cmp_total queued reader [] reader ∙ ap (λ b. cond b (Some []) (tables.get queued reader)) (same_number reader)

pub nothing_at_start : (exit : Exit) (peer : Neighbour) (session reader : ℕ) (rules : List Rule) (read : Rows Route) → HasSent (new_out exit peer session reader rules) read
nothing_at_start exit peer session reader rules read = empty_rows ∙ sym (nothing_at_first (form_of exit) peer rules read)

pub starts_standing : (profile : Profile) (me : Speaker) (peer : Neighbour) (session reader : ℕ) (rules : List Rule) (queued : Queued Route) (best : Rows Route) → IsSender profile me → RowsMayBeHeard profile best
    → OutStands (new_out (exit_to profile me peer) peer session reader rules) (tables.insert queued reader []) best
starts_standing profile me peer session reader rules queued best sender heard =
    let none : unread_by (tables.insert queued reader []) reader ≡ [] = ap unread_or_none (joined_unread queued reader) in
    let Lead : List (Change Route) → Type 0 = λ u. ChangesLead (rows_before u best) u best in
    record {
      chain = record { kind = refl; sender = sender; sayable = nothing_sent (new_out (exit_to profile me peer) peer session reader rules) refl; refresh = no_walk_yet tables.empty };
      live = subst (λ (o : Option (List (Change Route))). IsSome o) (sym (joined_unread queued reader)) refl;
      leads = subst Lead (sym none) refl;
      exact = nothing_at_start (exit_to profile me peer) peer session reader rules (read_rows (tables.insert queued reader []) reader best);
      heard = heard;
      unread = subst (ChangesMayBeHeard profile) (sym none) tt;
    }

-- the rows of a session that begins are those of `best`, and none on the links below
pub starts_leading : (exit : Exit) (peer : Neighbour) (session reader : ℕ) (rules : List Rule) (best : Rows Route)
    → LeadsFromBest peer.number best no_links (start_entries peer.number session) (out_links (new_out exit peer session reader rules) best)
starts_leading exit peer session reader rules best others at =
    let c = new_out exit peer session reader rules in
    let outf : attrs_rows (outf_rows c best) ≡ no_rows = ap attrs_rows (nothing_at_first (form_of exit) peer rules best) in
    let adv : attrs_rows (tables.get c.sent) ≡ no_rows = ap attrs_rows empty_rows in
    let P : Rows Value → Rows Value → Type 0 = λ o a. Leads (beside_out peer.number others no_links) (start_entries peer.number session) (beside_out peer.number others (session_links peer.number session (route_rows best) o a)) in
    subst (λ o. P o (attrs_rows (tables.get c.sent))) (sym outf) (subst (P no_rows) (sym adv) (begins others peer.number session (route_rows best) at))

-- ---- new rules
pub same_rows : (c : OutChained) (rules : List Rule) (read : Rows Route) → outf_rows (with_rules rules c) read ≡ outf_rows c read
same_rows c rules read = an_edit_keeps_the_rows (made_by c) c.filter (Some rules) read

pub edit_links : (c : OutChained) (rules : List Rule) (read : Rows Route) → out_links (with_rules rules c) read ≡ out_links c read
edit_links c rules read =
    ap (λ (rows : Rows Attrs). session_links c.peer.number c.session (route_rows read) (attrs_rows rows) (attrs_rows (tables.get c.sent))) (same_rows c rules read)

pub edit_stands : (c : OutChained) (rules : List Rule) (queued : Queued Route) (best : Rows Route) → OutStands c queued best → OutStands (with_rules rules c) queued best
edit_stands c rules queued best was = record {
  chain = record { kind = was.chain.kind; sender = was.chain.sender; sayable = was.chain.sayable; refresh = was.chain.refresh };
  live = was.live;
  leads = was.leads;
  exact = was.exact ∙ sym (same_rows c rules (read_rows queued c.reader best));
  heard = was.heard;
  unread = was.unread;
}

-- the same as the code makes it
pub starts_leading_as : (exit : Exit) (filter : Passed (Option (List Rule))) (sent : FinMap prefix_cmp Attrs) (peer : Neighbour) (session reader : ℕ) (rules : List Rule) → filter ≡ first_walk rules → sent ≡ tables.empty
    → (best : Rows Route) → LeadsFromBest peer.number best no_links (start_entries peer.number session) (out_links (record { exit = exit; peer = peer; session = session; reader = reader; filter = filter; sent = sent; refresh = None }) best)
starts_leading_as exit filter sent peer session reader rules filter_is sent_is best =
    let P : Passed (Option (List Rule)) → FinMap prefix_cmp Attrs → Type 0 = λ f s.
    LeadsFromBest peer.number best no_links (start_entries peer.number session) (out_links (record { exit = exit; peer = peer; session = session; reader = reader; filter = f; sent = s; refresh = None }) best) in
    subst (λ f. P f sent) (sym filter_is) (subst (P (first_walk rules)) (sym sent_is) (starts_leading exit peer session reader rules best))

pub starts_standing_as : (profile : Profile) (me : Speaker) (exit : Exit) (filter : Passed (Option (List Rule))) (sent : FinMap prefix_cmp Attrs) (peer : Neighbour) (session reader : ℕ) (rules : List Rule) (queued joined : Queued Route)
    → exit ≡ exit_to profile me peer → filter ≡ first_walk rules → sent ≡ tables.empty → joined ≡ tables.insert queued reader [] → IsSender profile me
    → (best : Rows Route) → RowsMayBeHeard profile best → OutStands (record { exit = exit; peer = peer; session = session; reader = reader; filter = filter; sent = sent; refresh = None }) joined best
starts_standing_as profile me exit filter sent peer session reader rules queued joined exit_is filter_is sent_is joined_is sender best heard =
    let P : Exit → Passed (Option (List Rule)) → FinMap prefix_cmp Attrs → Queued Route → Type 0 = λ e f s q.
    OutStands (record { exit = e; peer = peer; session = session; reader = reader; filter = f; sent = s; refresh = None }) q best in
    subst (λ e. P e filter sent joined) (sym exit_is)
    (subst (λ f. P (exit_to profile me peer) f sent joined) (sym filter_is)
    (subst (λ s. P (exit_to profile me peer) (first_walk rules) s joined) (sym sent_is)
    (subst (P (exit_to profile me peer) (first_walk rules) tables.empty) (sym joined_is)
    (starts_standing profile me peer session reader rules queued best sender heard))))
