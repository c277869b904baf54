-- What contracts see of the outgoing chain of a session. What its reader hasn't taken is the queue's: so the rows of its links are
-- told over those that the reader has.
use Rattle.std.specs.Prelude.{◌≡◌, ℕ, ◌+◌, ◌<◌, ◌==◌, ◌&&◌, ◌||◌, not, cond, Bool, true, false, is_some, length, List, [], ◌∷◌, Option, Some, None, IsSome, refl}
use Rattle.std.specs.Option.{ForSome}
use Rattle.std.specs.List.{AllByRecursion, count_by}
use Rattle.std.specs.Coded.{Coded, code_by, coded×, coded_ℕ, coded_bool, coded_option}
use Rattle.std.specs.FinMap as map
use Rattle.std.specs.FinMap.{FinMap}
use Rattle.addr4.specs.Prefixes.{AddressPrefix, prefix_cmp, address_prefix_code}
use Rattle.bgp_attr.specs.Attributes.{Attrs}
use Rattle.bgp_attr.specs.Routes.{Route}
use Rattle.bgp_attr.specs.declared.speaker.Profile.{Profile}
use Rattle.bgp_attr.specs.Speakers.{Speaker}
use Rattle.bgp_attr.specs.declared.speaker.Neighbour.{Neighbour}
use Rattle.link_change.specs.Rows.{Rows, Candidates, with_rows}
use Rattle.link_change.specs.InOrder.{changed_in}
use Rattle.link_change.specs.Changes.{Change}
use Rattle.policy_rules.specs.Rules.{Rule}
use Rattle.pass_core.specs.Passed.{Passed, holds_up, is_beyond}
use Rattle.pass_core.specs.Turns.{passed_rows}
use Rattle.pass_core.specs.Left.{turns_left as walk_turns_left}
use Rattle.filter_bank.specs.Outgoing.{Form, outgoing}
use Rattle.peer_out.specs.Forms.{Exit, as_sent}
use Rattle.peer_out.specs.Changes.{MayBeHeard, IsSender, IsSentOf}
use Rattle.fanout_queue.specs.Queues.{Queued}
use Rattle.fanout_queue.specs.Readers.{unread_by, read_rows, ReaderLeads}
use Rattle.journal_text.specs.declared.link.Link.{Link}
use Rattle.journal_text.specs.declared.link.Link.TheVariants.{Read, Outf, Adv}
use Rattle.journal_text.specs.Lines.{Value}
use Rattle.journal_text.specs.Walk.{Links}
use Rattle.journal_text.specs.Values.{route_rows, attrs_rows}

-- who sends, and to which kind of peer; the peer's words; the session; the reader's number in the queue; the rules of the outgoing
-- filter; the rows that were sent; and where the walk of a refresh stands, if one is on: the peer asked for all rows again (RFC 2918)
pub record OutChained : Type 0 where
  pub exit : Exit
  pub peer : Neighbour
  pub session : ℕ
  pub reader : ℕ
  pub filter : Passed (Option (List Rule))
  pub sent : FinMap prefix_cmp Attrs
  pub refresh : Option (Option AddressPrefix)

-- ---- how it is stored
abbrev pub exit_code : Coded Profile → Coded Speaker → Coded Exit
exit_code p s =
    code_by (Profile × (Speaker × Bool)) (coded× p (coded× s coded_bool))
    (λ e. (e.profile, (e.me, e.external))) (λ x. record { profile = x.0; me = x.1.0; external = x.1.1 }) (λ _. refl)

abbrev pub out_chained_code : Coded Exit → Coded Neighbour → Coded (Passed (Option (List Rule))) → Coded Attrs → Coded OutChained
out_chained_code e n f a =
    code_by ((Exit × Neighbour) × ((ℕ × ℕ) × (Passed (Option (List Rule)) × (FinMap prefix_cmp Attrs × Option (Option AddressPrefix)))))
    (coded× (coded× e n) (coded× (coded× coded_ℕ coded_ℕ) (coded× f (coded× (map.code address_prefix_code a) (coded_option (coded_option address_prefix_code))))))
    (λ c. ((c.exit, c.peer), ((c.session, c.reader), (c.filter, (c.sent, c.refresh)))))
    (λ x. record { exit = x.0.0; peer = x.0.1; session = x.1.0.0; reader = x.1.0.1; filter = x.1.1.0; sent = x.1.1.1.0; refresh = x.1.1.1.1 }) (λ _. refl)

-- ---- rows

-- the form in which the peer is sent a route at a prefix
abbrev pub form_of : Exit → Form Attrs
form_of exit = record { v6 = exit.profile.second; made = as_sent exit.profile exit.me exit.external }

-- what the outgoing filter makes of a row at a prefix, by rules, or by none
abbrev pub made_by : OutChained → Option (List Rule) → AddressPrefix → Option Route → Option Attrs
made_by c = outgoing (form_of c.exit) c.peer

-- the rows of `outf.J.S`, where these are the rows that the reader has: at each prefix by the rules that hold there
abbrev pub outf_rows : OutChained → Rows Route → Rows Attrs
outf_rows c read = passed_rows (made_by c) c.filter read

-- ---- links

-- the links of a session with these rows
abbrev pub session_links : ℕ → ℕ → Rows Value → Rows Value → Rows Value → Links Value
session_links j s read outf adv (Read k t) = cond (k == j && t == s) (Some read) None
session_links j s read outf adv (Outf k t) = cond (k == j && t == s) (Some outf) None
session_links j s read outf adv (Adv k t) = cond (k == j && t == s) (Some adv) None
session_links j s read outf adv other = None

-- the links of the chain: `read.J.S`, `outf.J.S` and `adv.J.S`
abbrev pub out_links : OutChained → Rows Route → Links Value
out_links c read = session_links c.peer.number c.session (route_rows read) (attrs_rows (outf_rows c read)) (attrs_rows (map.get c.sent))

-- the link is named as one of a peer's outgoing ones, of whatever session
abbrev pub is_out_link : ℕ → Link → Bool
is_out_link j (Read k t) = k == j
is_out_link j (Outf k t) = k == j
is_out_link j (Adv k t) = k == j
is_out_link j other = false

-- these links of a peer beside those of the other parts of the router
abbrev pub beside_out : ℕ → Links Value → Links Value → Links Value
beside_out j others own link = cond (is_out_link j link) (own link) (others link)

-- where walks and lists of a link's rows go, where these are the candidates of the rows that the reader has
abbrev pub out_candidates : OutChained → Candidates → Link → Candidates
out_candidates c read (Read k t) q = read q
out_candidates c read (Outf k t) q = read q
out_candidates c read (Adv k t) q = with_rows (map.get c.sent) q
out_candidates c read other q = false

-- ---- the walk of a refresh

-- how many rows lie beyond a place
abbrev pub beyond_in : FinMap prefix_cmp Attrs → Option AddressPrefix → ℕ
beyond_in rows place = count_by (is_beyond place) (map.keys rows)

-- a walk at a place is on where a row lies beyond it, and over where none does
abbrev pub walk_on : FinMap prefix_cmp Attrs → Option AddressPrefix → Option (Option AddressPrefix)
walk_on rows place = cond (beyond_in rows place == 0) None (Some place)

-- whether the walk that was on goes on, over these rows
abbrev pub still_on : FinMap prefix_cmp Attrs → Option (Option AddressPrefix) → Option (Option AddressPrefix)
still_on rows None = None
still_on rows (Some place) = walk_on rows place

-- a walk begins before all prefixes, whether or not one was on
abbrev pub refreshed : OutChained → OutChained
refreshed c = record c { refresh = walk_on c.sent None }

abbrev pub left_on : FinMap prefix_cmp Attrs → Option (Option AddressPrefix) → ℕ
left_on rows None = 0
left_on rows (Some place) = beyond_in rows place

-- how many turns the walk takes: one for each row beyond its place
abbrev pub refresh_left : OutChained → ℕ
refresh_left c = left_on c.sent c.refresh

-- whether a walk is on
abbrev pub has_refresh_work : OutChained → Bool
has_refresh_work c = is_some c.refresh

-- ---- what is kept true

-- The peer is external exactly where it isn't internal, and this speaker's words can be said; each row that was sent is what is sent of
-- some route that may be heard; and where the walk of a refresh is on, a row lies beyond its place.
pub record IsOutChain (c : OutChained) : Type 0 where
  pub kind : c.exit.external ≡ not c.peer.internal
  pub sender : IsSender c.exit.profile c.exit.me
  pub sayable : (p : AddressPrefix) → ForSome (map.get c.sent p) (IsSentOf c.exit.profile c.exit.external p)
  pub refresh : ForSome c.refresh (λ place. 0 < beyond_in c.sent place)

-- What was sent is what the filter makes of the rows that the reader has.
abbrev pub HasSent : OutChained → Rows Route → Type 0
HasSent c read = map.get c.sent ≡ outf_rows c read

-- ---- what is known of the routes above

-- The attributes of each row are some that a neighbour's octets may hold,
abbrev pub RowsMayBeHeard : Profile → Rows Route → Type 0
RowsMayBeHeard profile rows = (p : AddressPrefix) → ForSome (rows p) (λ r. MayBeHeard profile r.attrs)

-- and so are those of the row after each change.
abbrev pub ChangesMayBeHeard : Profile → List (Change Route) → Type 0
ChangesMayBeHeard profile changes = AllByRecursion (λ change. ForSome change.after (λ r. MayBeHeard profile r.attrs)) changes

-- ---- between two calls
-- The reader is one of the queue's, and what it hasn't taken leads to the best rows; what was sent is what the filter makes of the rows that
-- it has; and whatever may still be sent may be heard.
pub record OutStands (c : OutChained) (queued : Queued Route) (best : Rows Route) : Type 0 where
  pub chain : IsOutChain c
  pub live : IsSome (map.get queued c.reader)
  pub leads : ReaderLeads queued c.reader best
  pub exact : HasSent c (read_rows queued c.reader best)
  pub heard : RowsMayBeHeard c.exit.profile best
  pub unread : ChangesMayBeHeard c.exit.profile (unread_by queued c.reader)

-- ---- work

abbrev pub is_unread : List (Change Route) → Bool
is_unread [] = false
is_unread (change ∷ changes) = true

-- the reader hasn't taken all, or a walk is on
abbrev pub has_out_work : OutChained → List (Change Route) → Bool
has_out_work c unread = is_unread unread || is_some c.filter.walk

-- whether the task holds up a prefix, where this tells whether the reader has a row there: a change there isn't taken, or the walk has
-- yet to come to the row, or other rules wait for its end
abbrev pub out_lags : OutChained → List (Change Route) → AddressPrefix → Bool → Bool
out_lags c unread p has_row = changed_in unread p || (has_row && holds_up c.filter p)

-- how many turns are left, where these numbers count the candidates of the best rows: one for each change that the reader hasn't taken,
-- and those of the walk
abbrev pub out_turns_left : (Option AddressPrefix → ℕ) → OutChained → List (Change Route) → ℕ
out_turns_left beyond c unread = length unread + walk_turns_left beyond c.filter
