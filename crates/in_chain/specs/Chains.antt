-- What contracts see of a peer's chain: the stages whose links carry attributes, and below them the incoming filter.
use Rattle.std.specs.Prelude.{ℕ, ◌+◌, ◌==◌, cond, Bool, false, is_some, List, Option, Some, None, refl}
use Rattle.std.specs.Coded.{Coded, code_by, coded×}
use Rattle.addr4.specs.Prefixes.{AddressPrefix}
use Rattle.bgp_attr.specs.Attributes.{Attrs}
use Rattle.bgp_attr.specs.Routes.{Route}
use Rattle.bgp_attr.specs.Speakers.{Speaker}
use Rattle.bgp_attr.specs.declared.speaker.Neighbour.{Neighbour}
use Rattle.link_change.specs.Rows.{Rows, Candidates, with_rows}
use Rattle.policy_rules.specs.Rules.{Rule}
use Rattle.pass_core.specs.Passed.{Passed, Walked}
use Rattle.filter_bank.specs.Filtered.{passed_rows}
use Rattle.journal_text.specs.declared.link.Link.{Link}
use Rattle.journal_text.specs.declared.link.Link.TheVariants.{In, Peer, Filt}
use Rattle.journal_text.specs.Lines.{Value}
use Rattle.journal_text.specs.Walk.{Links}
use Rattle.journal_text.specs.Values.{route_rows}
use Rattle.loss_chain.specs.Tables.{Tables, IsLossChain, tables_count, tables_beyond}
use Rattle.in_chain.specs.Incomings.{Incoming, in_rows, incoming_links}

-- the live routes and the lost tables; the words of this speaker and of the peer; the rules of the incoming filter
pub record Chained : Type 0 where
  pub incoming : Incoming
  pub me : Speaker
  pub peer : Neighbour
  pub filter : Passed (List Rule)

abbrev pub chained_code : Coded Incoming → Coded Speaker → Coded Neighbour → Coded (Passed (List Rule)) → Coded Chained
chained_code i s n f =
    code_by ((Incoming × Speaker) × (Neighbour × Passed (List Rule))) (coded× (coded× i s) (coded× n f))
    (λ a. ((a.incoming, a.me), (a.peer, a.filter))) (λ p. record { incoming = p.0.0; me = p.0.1; peer = p.1.0; filter = p.1.1 }) (λ _. refl)

-- the chain with these live routes and lost tables
abbrev pub with_tables : Chained → Tables Attrs → Chained
with_tables c t = record c { incoming = record c.incoming { tables = t } }

-- the rows of `filt.K`
abbrev pub filt_rows : Chained → Rows Route
filt_rows c = passed_rows c.me c.peer c.filter (in_rows c.incoming)

-- the link is named as one of the chain's: `filt.K`, `in.K`, or `peer.K.S` of any session
abbrev pub is_named : ℕ → Link → Bool
is_named number (In k) = k == number
is_named number (Peer k s) = k == number
is_named number (Filt k) = k == number
is_named number other = false

-- the links of the chain: `filt.K`, `in.K`, and `peer.K.S` into the stage of each lost session
abbrev pub links_of : Chained → Links Value
links_of c (Filt k) = cond (k == c.incoming.number) (Some (route_rows (filt_rows c))) None
links_of c (In k) = incoming_links c.incoming (In k)
links_of c (Peer k s) = incoming_links c.incoming (Peer k s)
links_of c other = None

-- the chain's links beside those of the other parts of the router
abbrev pub beside : Links Value → Chained → Links Value
beside others c link = cond (is_named c.incoming.number link) (links_of c link) (others link)

-- the link whose rows are the candidates of a link: of `filt.K` that is `in.K`
abbrev pub upper_of : Link → Link
upper_of (Filt k) = In k
upper_of (In k) = In k
upper_of (Peer k s) = Peer k s
upper_of other = other

abbrev pub candidates_in : Option (Rows Value) → Candidates
candidates_in None q = false
candidates_in (Some rows) q = is_some (rows q)

-- where walks and lists of a link's rows go
abbrev pub candidates_of : Chained → Link → Candidates
candidates_of c link = candidates_in (incoming_links c.incoming (upper_of link))

-- those of `filt.K`
abbrev pub filt_candidates : Chained → Candidates
filt_candidates c = with_rows (in_rows c.incoming)

-- what holds of a chain between two calls
abbrev pub IsChain : Chained → Type 0
IsChain c = IsLossChain c.incoming.tables

-- how many rows `in.K` has
abbrev pub row_count : Chained → ℕ
row_count c = tables_count c.incoming.tables

-- ---- how many turns are left

-- how many rows of `in.K` lie beyond a place
abbrev pub filt_beyond : Chained → Option AddressPrefix → ℕ
filt_beyond c place = tables_beyond place c.incoming.tables

abbrev pub waiting_turns : ℕ → Option (List Rule) → ℕ
waiting_turns rows None = 0
waiting_turns rows (Some rules) = rows + 1

abbrev pub walk_turns : Tables Attrs → Option (Walked (List Rule)) → ℕ
walk_turns t None = 0
walk_turns t (Some w) = tables_beyond w.place t + 1 + waiting_turns (tables_count t) w.waiting

-- how many turns the walk of the filter takes: one for each row of `in.K` beyond its place and one that ends it, and a whole walk
-- more where rules wait
abbrev pub turns_left : Chained → ℕ
turns_left c = walk_turns c.incoming.tables c.filter.walk
