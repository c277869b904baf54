-- What each call makes of the exits, and what it keeps.
use Rattle.std.specs.Prelude.{◌≡◌, ℕ, ◌+◌, ◌≤◌, Bool, true, false, cond, List, [], ◌++◌, Option, Some, None}
use Rattle.std.specs.Option.{ForSome}
use Rattle.std.specs.FinMap as tables
use Rattle.addr4.specs.Prefixes.{AddressPrefix}
use Rattle.bgp_attr.specs.Attributes.{Attrs}
use Rattle.bgp_attr.specs.Routes.{Route}
use Rattle.bgp_attr.specs.Speakers.{Speaker}
use Rattle.bgp_attr.specs.declared.speaker.Neighbour.{Neighbour}
use Rattle.link_change.specs.Rows.{Rows, Candidates}
use Rattle.link_change.specs.Changes.{IsSent}
use Rattle.link_change.specs.Changes.{Change}
use Rattle.link_change.specs.Turns.{Turn}
use Rattle.link_change.specs.declared.turn.Turn.TheVariants.{Nothing, Quiet, Sent}
use Rattle.policy_rules.specs.Rules.{Rule}
use Rattle.pass_core.specs.Passed.{present}
use Rattle.pass_core.specs.Left.{CountsBeyond}
use Rattle.peer_out.specs.Changes.{MayBeHeard}
use Rattle.fanout_queue.specs.Queues.{AppendsToAll, AllBelowRead}
use Rattle.fanout_queue.specs.Readers.{KeepsOtherReaders}
use Rattle.journal_text.specs.declared.link.Link.{Link}
use Rattle.journal_text.specs.declared.link.Link.TheVariants.{Best, Read, Outf, Adv}
use Rattle.journal_text.specs.Lines.{Line}
use Rattle.journal_text.specs.Lines.{Entry}
use Rattle.journal_text.specs.Lines.{Value}
use Rattle.journal_text.specs.Walk.{Links, Leads}
use Rattle.journal_text.specs.Journals.{Journaled}
use Rattle.journal_text.specs.Values.{route_rows}
use Rattle.out_chain.specs.Chains.{OutChained, RowsMayBeHeard}
use Rattle.out_chain.specs.Steps.{exit_to, new_out, start_entries, stop_entries, with_rules, sending_entries, TurnsOut, AddsLines, Resends}
use Rattle.exit_side.specs.Exits.{Exited, chain_at, with_queue, with_exit, without_exit, exit_links, IsExits, AllStand, has_exit_work, left_in, has_refresh}

-- ---- what a step leads to
-- whether the link is a `read.J.S`, `outf.J.S` or `adv.J.S`
abbrev pub is_exit : Link → Bool
is_exit (Read j s) = true
is_exit (Outf j s) = true
is_exit (Adv j s) = true
is_exit other = false

-- these links beside those of the other parts of the router
abbrev pub beside : Links Value → Links Value → Links Value
beside others links link = cond (is_exit link) (links link) (others link)

-- Whatever other links there are, the entries lead by the rules of the journal from the old links of the exits to the new ones.
abbrev pub LeadsExits : Links Value → List (Entry Value) → Links Value → Type 0
LeadsExits old entries new = (others : Links Value) → Leads (beside others old) entries (beside others new)

-- The same where `best` has these rows among them.
abbrev pub LeadsWithBest : Rows Route → Links Value → List (Entry Value) → Links Value → Type 0
LeadsWithBest best old entries new = (others : Links Value) → others Best ≡ Some (route_rows best) → Leads (beside others old) entries (beside others new)

-- ---- a session begins
-- A reader joins at the end of the queue, under the least number that none has; nothing is sent yet, and a walk is on that brings the peer's rules into force. `read` inherits
-- the rows of `best`, whatever they are, where their routes may be heard.
pub record BeginsExit (me : Speaker) (peer : Neighbour) (session : ℕ) (rules : List Rule) (e e' : Exited) (entries : List (Entry Value)) : Type 0 where
  pub reader : ℕ
  pub fresh : tables.get e.queue reader ≡ None
  pub least : AllBelowRead e.queue reader
  pub after : e' ≡ with_exit peer.number (new_out (exit_to e.profile me peer) peer session reader rules) (tables.insert e.queue reader []) e
  pub lines : entries ≡ start_entries peer.number session
  pub leads : (best : Rows Route) → LeadsWithBest best (exit_links e best) entries (exit_links e' best)
  pub stand : (best : Rows Route) → RowsMayBeHeard e.profile best → AllStand best e → AllStand best e'
  pub sound : IsExits e'

-- ---- a session ends
-- Its three links end, whatever its reader hasn't taken, and the reader leaves the queue.
pub record EndsExit (j : ℕ) (e e' : Exited) (entries : List (Entry Value)) : Type 0 where
  pub chain : OutChained
  pub at : chain_at j e ≡ Some chain
  pub after : e' ≡ without_exit j (tables.remove e.queue chain.reader) e
  pub lines : entries ≡ stop_entries j chain.session
  pub leads : (best : Rows Route) → LeadsExits (exit_links e best) entries (exit_links e' best)
  pub stand : (best : Rows Route) → AllStand best e → AllStand best e'
  pub sound : IsExits e'

-- ---- rules
abbrev pub edited_by : ℕ → List Rule → Option OutChained → Exited → Exited
edited_by j rules None e = e
edited_by j rules (Some c) e = with_exit j (with_rules rules c) e.queue e

-- The outgoing filter of a peer that is up has new rules, which hold nowhere yet: no row changes.
pub record EditsExit (j : ℕ) (rules : List Rule) (e e' : Exited) : Type 0 where
  pub after : e' ≡ edited_by j rules (chain_at j e) e
  pub links : (best : Rows Route) → exit_links e' best ≡ exit_links e best
  pub stand : (best : Rows Route) → AllStand best e → AllStand best e'
  pub sound : IsExits e'

-- ---- a change of `best`
-- It joins what each reader hasn't taken. No link of the exits changes, and each peer's task has one turn more.
pub record PutsExit (change : Change Route) (e e' : Exited) : Type 0 where
  pub after : e' ≡ with_queue e'.queue e
  pub appends : AppendsToAll change e.queue e'.queue
  pub links : (best now : Rows Route) (p : AddressPrefix) → IsSent best now p (Some change) → exit_links e' now ≡ exit_links e best
  pub stand : (best now : Rows Route) (p : AddressPrefix) → IsSent best now p (Some change) → ForSome change.after (λ r. MayBeHeard e.profile r.attrs) → AllStand best e → AllStand now e'
  pub left : (beyond : Option AddressPrefix → ℕ) → left_in beyond e' ≡ left_in beyond e + tables.len e.chains
  pub sound : IsExits e'

-- ---- a turn
-- it is the same session of the same peer, and the latest rules are those that they were
pub record KeepsSession (chain taken : OutChained) : Type 0 where
  pub peer : taken.peer ≡ chain.peer
  pub session : taken.session ≡ chain.session
  pub exit : taken.exit ≡ chain.exit
  pub reader : taken.reader ≡ chain.reader
  pub rules : present taken.filter ≡ present chain.filter

-- The chain of peer j takes a turn, over these rows of `best`; every other chain stays, and so does what its reader hasn't taken. What
-- comes out on `adv` is told to the peer. Fewer turns are left.
pub record TurnsExit (j : ℕ) (candidates : Candidates) (best : Rows Route) (sent : Option (Change Attrs)) (e e' : Exited) (said : List Line) : Type 0 where
  pub chain : OutChained
  pub at : chain_at j e ≡ Some chain
  pub taken : OutChained
  pub same : KeepsSession chain taken
  pub turns : TurnsOut chain taken e.queue e'.queue candidates best sent said
  pub others : KeepsOtherReaders chain.reader e.queue e'.queue
  pub after : e' ≡ with_exit j taken e'.queue e
  pub leads : LeadsExits (exit_links e best) (turns.entries ++ sending_entries chain sent) (exit_links e' best)
  pub stand : AllStand best e'
  pub sound : IsExits e'
  pub fewer : (beyond : Option AddressPrefix → ℕ) → CountsBeyond candidates beyond → left_in beyond e' + 1 ≤ left_in beyond e

-- what a turn came to
abbrev pub ComesOut : ℕ → Candidates → Rows Route → Exited → Exited → Journaled → Journaled → Turn Attrs → Type 0
ComesOut j candidates best e e' before now Nothing = (has_exit_work e j ≡ false) × (e' ≡ e) × (now ≡ before)
ComesOut j candidates best e e' before now Quiet = AddsLines (TurnsExit j candidates best None e e') before now
ComesOut j candidates best e e' before now (Sent change) = AddsLines (TurnsExit j candidates best (Some change) e e') before now

-- ---- the walk of a refresh
-- The walk of peer j takes a turn: a row is announced once more. Every other chain stays, and so does what each reader hasn't taken.
pub record ResendsExit (j : ℕ) (e e' : Exited) (said : List Line) : Type 0 where
  pub chain : OutChained
  pub there : chain_at j e ≡ Some chain
  pub taken : OutChained
  pub resends : Resends chain taken said
  pub after : e' ≡ with_exit j taken e.queue e

-- what such a turn came to: nothing exactly where no walk is on
abbrev pub ComesAgain : ℕ → Exited → Exited → Journaled → Journaled → Bool → Type 0
ComesAgain j e e' before now false = (has_refresh e j ≡ false) × (e' ≡ e) × (now ≡ before)
ComesAgain j e e' before now true = AddsLines (ResendsExit j e e') before now
