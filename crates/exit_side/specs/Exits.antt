-- What contracts see of the side of the exits: one queue of the changes of `best`, and the outgoing chain of each peer that is up, by the
-- peer's number. The rows of its links are told over any rows of `best`.
use Rattle.std.specs.Prelude.{◌≡◌, ℕ, Bool, false, is_some, Option, Some, None, IsSome, refl}
use Rattle.std.specs.List.{sum_by}
use Rattle.std.specs.Ordering.{nat_cmp}
use Rattle.std.specs.Coded.{Coded, code_by, coded×}
use Rattle.std.specs.FinMap as tables
use Rattle.std.specs.FinMap.{FinMap}
use Rattle.addr4.specs.Prefixes.{AddressPrefix}
use Rattle.bgp_attr.specs.Routes.{Route}
use Rattle.bgp_attr.specs.declared.speaker.Profile.{Profile}
use Rattle.link_change.specs.Rows.{Rows, Candidates}
use Rattle.fanout_queue.specs.Queues.{Queued}
use Rattle.fanout_queue.specs.Readers.{unread_by, read_rows, read_candidates}
use Rattle.journal_text.specs.declared.link.Link.{Link}
use Rattle.journal_text.specs.Lines.{Value}
use Rattle.journal_text.specs.Links.{owner_of}
use Rattle.journal_text.specs.Walk.{Links}
use Rattle.out_chain.specs.Chains.{OutChained, out_links, out_candidates, IsOutChain, OutStands, has_out_work, out_lags, out_turns_left, refreshed, refresh_left, has_refresh_work}

abbrev pub OutChains : Type 0
OutChains = FinMap nat_cmp OutChained

-- how messages are written; of each reader, by its number, the changes of `best` that it hasn't taken; and the chains. The queue may
-- have readers that are no peer's.
pub record Exited : Type 0 where
  pub profile : Profile
  pub queue : Queued Route
  pub chains : OutChains

abbrev pub exited_code : Coded Profile → Coded (Queued Route) → Coded OutChains → Coded Exited
exited_code p q c =
    code_by (Profile × (Queued Route × OutChains)) (coded× p (coded× q c))
    (λ e. (e.profile, (e.queue, e.chains))) (λ x. record { profile = x.0; queue = x.1.0; chains = x.1.1 }) (λ _. refl)

-- no peer is up, and nothing waits
abbrev pub no_exits : Profile → Exited
no_exits profile = record { profile = profile; queue = tables.empty; chains = tables.empty }

-- messages are written by this profile from here on
abbrev pub written_by : Profile → Exited → Exited
written_by profile e = record e { profile = profile }

-- the chain of a peer
abbrev pub chain_at : ℕ → Exited → Option OutChained
chain_at j e = tables.get e.chains j

-- with this queue
abbrev pub with_queue : Queued Route → Exited → Exited
with_queue queue e = record e { queue = queue }

-- with this queue, and this chain for a peer
abbrev pub with_exit : ℕ → OutChained → Queued Route → Exited → Exited
with_exit j c queue e = record e { queue = queue; chains = tables.insert e.chains j c }

-- with this queue, and no chain for a peer
abbrev pub without_exit : ℕ → Queued Route → Exited → Exited
without_exit j queue e = record e { queue = queue; chains = tables.remove e.chains j }

-- ---- links
abbrev pub links_by : Queued Route → Rows Route → Option OutChained → Links Value
links_by queued best None link = None
links_by queued best (Some c) link = out_links c (read_rows queued c.reader best) link

-- the live links of all chains, where these are the rows of `best`
abbrev pub exit_links : Exited → Rows Route → Links Value
exit_links e best link = links_by e.queue best (chain_at (owner_of link) e) link

abbrev pub candidates_by : Queued Route → Candidates → Option OutChained → Link → Candidates
candidates_by queued best None link q = false
candidates_by queued best (Some c) link q = out_candidates c (read_candidates queued c.reader best) link q

-- where walks and lists of a link's rows go, where these are the candidates of `best`
abbrev pub exit_candidates : Exited → Candidates → Link → Candidates
exit_candidates e best link = candidates_by e.queue best (chain_at (owner_of link) e) link

-- ---- what holds between two calls
-- A chain stands under its peer's number; its messages are written as those of all are, and its reader is one of the queue's.
pub record IsExit (e : Exited) (j : ℕ) (c : OutChained) : Type 0 where
  pub number : c.peer.number ≡ j
  pub profile : c.exit.profile ≡ e.profile
  pub live : IsSome (tables.get e.queue c.reader)

-- Each peer has a reader of its own.
pub record IsExits (e : Exited) : Type 0 where
  pub each : (j : ℕ) (c : OutChained) → chain_at j e ≡ Some c → IsExit e j c
  pub apart : (j k : ℕ) (c d : OutChained) → chain_at j e ≡ Some c → chain_at k e ≡ Some d → c.reader ≡ d.reader → j ≡ k

-- What ties the exits to the rows of `best`: what each peer's reader hasn't taken leads from the rows that it has to these, and what was
-- sent is what the outgoing filter makes of the rows that it has.
abbrev pub AllStand : Rows Route → Exited → Type 0
AllStand best e = (j : ℕ) (c : OutChained) → chain_at j e ≡ Some c → OutStands c e.queue best

-- what holds of each chain whatever the rows of `best` are: it is part of what ties it to these
abbrev pub AreOutChains : Exited → Type 0
AreOutChains e = (j : ℕ) (c : OutChained) → chain_at j e ≡ Some c → IsOutChain c

-- ---- tasks
abbrev pub busy_by : Queued Route → Option OutChained → Bool
busy_by queued None = false
busy_by queued (Some c) = has_out_work c (unread_by queued c.reader)

-- whether the task of a peer's exit holds up a prefix: what its reader hasn't taken changes the row there; or the walk of its filter has
-- yet to come to the row that the reader has there, or other rules wait for the end of the walk
abbrev pub lags_by : Queued Route → Rows Route → Option OutChained → AddressPrefix → Bool
lags_by queued best None p = false
lags_by queued best (Some c) p = out_lags c (unread_by queued c.reader) p (is_some (read_rows queued c.reader best p))

abbrev pub exit_holds_up : Exited → Rows Route → ℕ → AddressPrefix → Bool
exit_holds_up e best j = lags_by e.queue best (chain_at j e)

-- whether the task of a peer's exit has work
abbrev pub has_exit_work : Exited → ℕ → Bool
has_exit_work e j = busy_by e.queue (chain_at j e)

-- ---- counts, where these numbers count the candidates of `best` beyond each place
abbrev pub left_of : (Option AddressPrefix → ℕ) → Queued Route → OutChained → ℕ
left_of beyond queued c = out_turns_left beyond c (unread_by queued c.reader)

-- how many turns the tasks of all exits take
abbrev pub left_in : (Option AddressPrefix → ℕ) → Exited → ℕ
left_in beyond e = sum_by (left_of beyond e.queue) (tables.values e.chains)

-- ---- the walks of refreshes
abbrev pub refreshing : Option OutChained → Bool
refreshing None = false
refreshing (Some c) = has_refresh_work c

-- whether the walk of a refresh of a peer is on
abbrev pub has_refresh : Exited → ℕ → Bool
has_refresh e j = refreshing (chain_at j e)

-- how many turns the walks of all refreshes take
abbrev pub refreshes_left : Exited → ℕ
refreshes_left e = sum_by refresh_left (tables.values e.chains)

abbrev pub refreshed_by : ℕ → Option OutChained → Exited → Exited
refreshed_by j None e = e
refreshed_by j (Some c) e = with_exit j (refreshed c) e.queue e

-- the peer asks for all rows again: a walk begins, where the peer is up and some were sent
abbrev pub refreshed_exits : ℕ → Exited → Exited
refreshed_exits j e = refreshed_by j (chain_at j e) e
