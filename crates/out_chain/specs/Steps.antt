-- What each call makes of a chain, and the lines that it writes.
use Rattle.std.specs.Prelude.{◌≡◌, ℕ, ◌<◌, Bool, true, false, not, ◌⊎◌, List, [], ◌∷◌, ◌++◌, map, Option, Some, None}
use Rattle.std.specs.Option.{ForSome}
use Rattle.std.specs.FinMap as tables
use Rattle.std.specs.FinMap.{FinMap}
use Rattle.addr4.specs.Prefixes.{AddressPrefix, prefix_cmp}
use Rattle.bgp_attr.specs.Attributes.{Attrs}
use Rattle.bgp_attr.specs.Routes.{Route}
use Rattle.bgp_attr.specs.declared.speaker.Profile.{Profile}
use Rattle.bgp_attr.specs.Speakers.{Speaker}
use Rattle.bgp_attr.specs.declared.speaker.Neighbour.{Neighbour}
use Rattle.link_change.specs.Rows.{Rows, Candidates, with_rows as rows_of, IsNextCandidate}
use Rattle.link_change.specs.Changes.{IsSent}
use Rattle.link_change.specs.Changes.{Change}
use Rattle.link_change.specs.Turns.{Turn}
use Rattle.link_change.specs.declared.turn.Turn.TheVariants.{Nothing, Quiet, Sent}
use Rattle.policy_rules.specs.Rules.{Rule}
use Rattle.pass_core.specs.Passed.{Passed, edited}
use Rattle.pass_core.specs.Turns.{IsPassedOn, Walks}
use Rattle.pass_core.specs.Left.{CountsBeyond}
use Rattle.filter_bank.specs.Outgoing.{first_walk}
use Rattle.cache_stage.specs.Caches.{kept_after}
use Rattle.peer_out.specs.Forms.{Exit}
use Rattle.peer_out.specs.Changes.{saying, message_octets, IsReadAs}
use Rattle.fanout_queue.specs.Queues.{Queued, Takes}
use Rattle.fanout_queue.specs.Readers.{unread_by, read_rows}
use Rattle.journal_text.specs.declared.link.Link.TheVariants.{Best, Read, Outf, Adv}
use Rattle.journal_text.specs.Lines.{Line}
use Rattle.journal_text.specs.declared.line.Line.TheVariants as lines
use Rattle.journal_text.specs.Lines.{Value}
use Rattle.journal_text.specs.Lines.{Entry}
use Rattle.journal_text.specs.declared.entry.Entry.TheVariants.{Inherit, Begin, End}
use Rattle.journal_text.specs.Walk.{Links, Leads}
use Rattle.journal_text.specs.Journals.{Journaled, with_lines}
use Rattle.journal_text.specs.Values.{route_rows, attrs_value, route_value, valued_change, sent_entries}
use Rattle.out_chain.specs.Chains.{OutChained, made_by, outf_rows, out_links, beside_out, HasSent, out_turns_left, walk_on, still_on, refresh_left}

-- ---- a session begins and ends

-- who sends, by the words of this speaker and of the peer
abbrev pub exit_to : Profile → Speaker → Neighbour → Exit
exit_to profile me peer = record { profile = profile; me = me; external = not peer.internal }

-- nothing is sent yet, and a walk is on that brings these rules into force
abbrev pub new_out : Exit → Neighbour → ℕ → ℕ → List Rule → OutChained
new_out exit peer session reader rules = record {
  exit = exit;
  peer = peer;
  session = session;
  reader = reader;
  filter = first_walk rules;
  sent = tables.empty;
  refresh = None;
}

abbrev pub start_entries : ℕ → ℕ → List (Entry Value)
start_entries j s = Inherit (Read j s) Best ∷ Begin (Outf j s) ∷ Begin (Adv j s) ∷ []

abbrev pub stop_entries : ℕ → ℕ → List (Entry Value)
stop_entries j s = End (Read j s) ∷ End (Outf j s) ∷ End (Adv j s) ∷ []

-- Whatever other links there are, the entries lead by the rules of the journal from a peer's old outgoing links to its new ones.
abbrev pub LeadsOut : ℕ → Links Value → List (Entry Value) → Links Value → Type 0
LeadsOut j old entries new = (others : Links Value) → Leads (beside_out j others old) entries (beside_out j others new)

-- The same where `best` has these rows beside them.
abbrev pub LeadsFromBest : ℕ → Rows Route → Links Value → List (Entry Value) → Links Value → Type 0
LeadsFromBest j best old entries new = (others : Links Value) → others Best ≡ Some (route_rows best) → Leads (beside_out j others old) entries (beside_out j others new)

-- ---- rules

-- the filter has new rules, which hold nowhere yet
abbrev pub with_rules : List Rule → OutChained → OutChained
with_rules rules c = record c { filter = edited c.filter (Some rules) }

-- ---- a turn

-- the rows that were sent, after a change of what the filter makes
abbrev pub sent_after : FinMap prefix_cmp Attrs → Option (Change Attrs) → FinMap prefix_cmp Attrs
sent_after rows None = rows
sent_after rows (Some change) = kept_after rows change.prefix change.after

-- where the walk of a refresh then stands: it is over where no row lies beyond its place any more
abbrev pub refresh_after : FinMap prefix_cmp Attrs → Option (Option AddressPrefix) → Option (Change Attrs) → Option (Option AddressPrefix)
refresh_after rows refresh None = refresh
refresh_after rows refresh (Some change) = still_on (kept_after rows change.prefix change.after) refresh

-- the chain after such a change
abbrev pub with_sent : OutChained → Option (Change Attrs) → OutChained
with_sent c sent = record c { sent = sent_after c.sent sent; refresh = refresh_after c.sent c.refresh sent }

-- the chain with another state of its filter
abbrev pub with_filter : OutChained → Passed (Option (List Rule)) → OutChained
with_filter c filter = record c { filter = filter }

-- the entry of what the reader takes
abbrev pub read_entries : OutChained → Change Route → List (Entry Value)
read_entries c change = valued_change route_value (Read c.peer.number c.session) change

-- those of what the filter sends: on `outf.J.S`, and the same on `adv.J.S`
abbrev pub sending_entries : OutChained → Option (Change Attrs) → List (Entry Value)
sending_entries c sent = sent_entries attrs_value (Outf c.peer.number c.session) sent ++ sent_entries attrs_value (Adv c.peer.number c.session) sent

-- the message that tells the peer (RFC 4271, section 4.3)
abbrev pub message_lines : OutChained → Option (Change Attrs) → List Line
message_lines c None = []
message_lines c (Some change) = lines.Out c.peer.number (message_octets c.exit.profile change) ∷ []

-- the lines of these entries and of what the filter sends: the message stands behind its change on `adv.J.S`
abbrev pub said_of : OutChained → List (Entry Value) → Option (Change Attrs) → List Line
said_of c entries sent = map (λ e. lines.Journal e) (entries ++ sending_entries c sent) ++ message_lines c sent

-- the peer reads the octets of a change as that change, and as nothing else
abbrev pub IsTold : Exit → Change Attrs → Type 0
IsTold exit change = IsReadAs exit.profile exit.external (message_octets exit.profile change) (saying change.prefix change.after)

-- What comes of these entries of the reader, and of what the filter sends: the links lead on, what was sent is again what the filter
-- makes of the rows that the reader has, and the peer is told.
pub record GoesOut (old new : OutChained) (read now : Rows Route) (entries : List (Entry Value)) (sent : Option (Change Attrs)) (said : List Line) : Type 0 where
  pub leads : LeadsOut old.peer.number (out_links old read) (entries ++ sending_entries old sent) (out_links new now)
  pub exact : HasSent new now
  pub lines : said ≡ said_of old entries sent
  pub told : ForSome sent (IsTold old.exit)

-- A change that the reader took, and what the filter made of it.
pub record PassesOut (old new : OutChained) (change : Change Route) (sent : Option (Change Attrs)) (before now : Journaled) : Type 0 where
  pub filters : IsPassedOn (made_by old) old.filter change sent
  pub after : new ≡ with_sent old sent
  pub lines : now ≡ with_lines before (said_of old (read_entries old change) sent)
  pub told : ForSome sent (IsTold old.exit)

-- A turn of the walk over these rows.
pub record WalksOut (old new : OutChained) (candidates : Candidates) (upper : Rows Route) (sent : Option (Change Attrs)) (before now : Journaled) : Type 0 where
  pub walks : Walks (made_by old) candidates upper old.filter new.filter sent
  pub after : new ≡ with_sent (with_filter old new.filter) sent
  pub lines : now ≡ with_lines before (said_of old [] sent)
  pub told : ForSome sent (IsTold old.exit)

abbrev pub IsWalkedOut : OutChained → OutChained → Candidates → Rows Route → Journaled → Journaled → Turn Attrs → Type 0
IsWalkedOut old new candidates upper before now Nothing = (old.filter.walk ≡ None) × (new ≡ old) × (now ≡ before)
IsWalkedOut old new candidates upper before now Quiet = WalksOut old new candidates upper None before now
IsWalkedOut old new candidates upper before now (Sent change) = WalksOut old new candidates upper (Some change) before now

-- A turn that takes the first change that the reader hasn't taken: it goes through the filter, by the rules that hold at its prefix.
pub record ReadsFirst (old new : OutChained) (queued left : Queued Route) (best : Rows Route) (entries : List (Entry Value)) (sent : Option (Change Attrs)) : Type 0 where
  pub change : Change Route
  pub takes : Takes queued left old.reader (Some change)
  pub entry : entries ≡ read_entries old change
  pub filters : IsSent (outf_rows old (read_rows queued old.reader best)) (outf_rows old (read_rows left old.reader best)) change.prefix sent
  pub after : new ≡ with_sent old sent

-- A turn of the walk, where the reader has taken all: it goes to the next candidate of the best rows, or ends.
pub record WalksNext (old new : OutChained) (queued left : Queued Route) (candidates : Candidates) (best : Rows Route) (entries : List (Entry Value)) (sent : Option (Change Attrs)) : Type 0 where
  pub takes : Takes queued left old.reader None
  pub walks : Walks (made_by old) candidates best old.filter new.filter sent
  pub entry : entries ≡ []
  pub after : new ≡ with_sent (with_filter old new.filter) sent

-- A turn of the session's task, which writes these lines; fewer turns are left, whatever counts the candidates.
pub record TurnsOut (old new : OutChained) (queued left : Queued Route) (candidates : Candidates) (best : Rows Route) (sent : Option (Change Attrs)) (said : List Line) : Type 0 where
  pub entries : List (Entry Value)
  pub by : ReadsFirst old new queued left best entries sent ⊎ WalksNext old new queued left candidates best entries sent
  pub goes : GoesOut old new (read_rows queued old.reader best) (read_rows left old.reader best) entries sent said
  pub fewer : (beyond : Option AddressPrefix → ℕ) → CountsBeyond candidates beyond → out_turns_left beyond new (unread_by left old.reader) < out_turns_left beyond old (unread_by queued old.reader)

-- these lines were appended, and this is said of them
abbrev pub AddsLines : (List Line → Type 0) → Journaled → Journaled → Type 0
AddsLines P before now = (said : List Line) × (now ≡ with_lines before said) × P said

-- What a turn that came to this made of the chain, the queue and the journal. There is no work where the reader has taken all and no
-- walk is on.
abbrev pub IsOutTurn : OutChained → OutChained → Queued Route → Queued Route → Candidates → Rows Route → Journaled → Journaled → Turn Attrs → Type 0
IsOutTurn old new queued left candidates best before now Nothing = Takes queued left old.reader None × (old.filter.walk ≡ None) × (new ≡ old) × (now ≡ before)
IsOutTurn old new queued left candidates best before now Quiet = AddsLines (TurnsOut old new queued left candidates best None) before now
IsOutTurn old new queued left candidates best before now (Sent change) = AddsLines (TurnsOut old new queued left candidates best (Some change)) before now

-- ---- the walk of a refresh

-- the change that brings a row where none stood: its message announces the prefix with these attributes
abbrev pub announcing : AddressPrefix → Attrs → Change Attrs
announcing p attrs = record { prefix = p; before = None; after = Some attrs }

-- A turn of the walk: the least row beyond the place of what was sent is announced once more, by the octets that announced it, and the
-- place moves there; no row changes on any link. The walk is over where no row lies beyond the new place.
pub record Resends (old new : OutChained) (said : List Line) : Type 0 where
  pub place : Option AddressPrefix
  pub on : old.refresh ≡ Some place
  pub prefix : AddressPrefix
  pub attrs : Attrs
  pub next : IsNextCandidate (rows_of (tables.get old.sent)) place (Some prefix)
  pub row : tables.get old.sent prefix ≡ Some attrs
  pub after : new ≡ record old { refresh = walk_on old.sent (Some prefix) }
  pub line : said ≡ message_lines old (Some (announcing prefix attrs))
  pub told : IsTold old.exit (announcing prefix attrs)
  pub fewer : refresh_left new < refresh_left old

-- what a turn of the walk came to: nothing exactly where none is on
abbrev pub IsResent : OutChained → OutChained → Journaled → Journaled → Bool → Type 0
IsResent old new before now false = (old.refresh ≡ None) × (new ≡ old) × (now ≡ before)
IsResent old new before now true = AddsLines (Resends old new) before now
