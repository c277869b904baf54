-- What the decision makes of the rows of `red` and of all `res.K` (RFC 4271, sections 9.1.2 and 9.4).
use Rattle.std.specs.Prelude.{◌≡◌, ℕ, zero, suc, nat_lt, cond, false, List, Option, Some, None}
use Rattle.addr4.specs.Prefixes.{AddressPrefix}
use Rattle.bgp_attr.specs.Routes.{Route}
use Rattle.bgp_attr.specs.Speakers.{Speaker}
use Rattle.link_change.specs.Rows.{Rows, Candidates, no_rows}
use Rattle.link_change.specs.Changes.{IsSent}
use Rattle.link_change.specs.Changes.{Change}
use Rattle.journal_text.specs.declared.link.Link.TheVariants.{Best, Red}
use Rattle.journal_text.specs.Lines.{Entry}
use Rattle.journal_text.specs.Lines.{Value}
use Rattle.journal_text.specs.Values.{route_value, route_rows, sent_entries}
use Rattle.journal_text.specs.Walk.{Links}
use Rattle.decision.specs.Branches.{AllRows, best_rows}
use Rattle.in_chain.specs.Chains.{Chained, filt_candidates}
use Rattle.hop_side.specs.Resolvers.{Resolvers, PeerRows, resolver_at, rows_by, res_at}
use Rattle.hop_side.specs.Steps.{ComesOn}
use Rattle.rib_route.specs.Rows.{Interior}
use Rattle.pass_core.specs.Passed.{Passed}
use Rattle.pass_core.specs.Turns.{passed_rows}
use Rattle.redist.specs.declared.protos.Protos.{Protos}
use Rattle.redist.specs.Local.{redistributed}
use Rattle.exit_side.specs.Exits.{Exited}
use Rattle.exit_side.specs.Steps.{PutsExit}
use Rattle.peer_side.specs.Peers.{Chains, chain_at, filt_by, filt_at}

-- the rows of `red`, by the set that holds at each prefix: none before `local`
abbrev pub own_rows : Option Speaker → Passed Protos → Rows Interior → Rows Route
own_rows None s int = no_rows
own_rows (Some me) s int = passed_rows (redistributed me) s int

-- the link `red`, which is live where `local` was declared
abbrev pub own_links : Option Speaker → Rows Route → Links Value
own_links None rows link = None
own_links (Some me) rows Red = Some (route_rows rows)
own_links (Some me) rows other = None

-- the entry of what redistribution sends
abbrev pub own_entries : Option (Change Route) → List (Entry Value)
own_entries = sent_entries route_value Red

-- the rows of all `res.K`
abbrev pub resolved_at : Chains → Resolvers → PeerRows
resolved_at a h = res_at h (filt_at a)

-- the rows of all branches: this speaker's own are those of branch 0, beside the peers'
abbrev pub all_at : Rows Route → Chains → Resolvers → PeerRows
all_at own a h zero = own
all_at own a h (suc k) = resolved_at a h (suc k)

-- the best of them
abbrev pub best_at : Rows Route → Chains → Resolvers → Rows Route
best_at own a h = best_rows (all_at own a h)

-- the link `best`, which is live where `local` was declared
abbrev pub best_links : Option Speaker → Rows Route → Links Value
best_links None rows link = None
best_links (Some me) rows Best = Some (route_rows rows)
best_links (Some me) rows other = None

-- the entry of what the decision sends
abbrev pub best_entries : Option (Change Route) → List (Entry Value)
best_entries = sent_entries route_value Best

-- What follows a change of branch k, if one came: on `res.K` of peer k, or on `red`, which is branch 0. The best route at its prefix is
-- decided anew over all branches, and where it changes, that comes on `best`, whatever the rows of the branches were from which the
-- change led to these.
pub record DecidesOn (k : ℕ) (sent : Option (Change Route)) (now : PeerRows) (entries : List (Entry Value)) : Type 0 where
  pub best : Option (Change Route)
  pub lines : entries ≡ best_entries best
  pub decides : (before : PeerRows) (p : AddressPrefix) → ComesOn k p sent before now → IsSent (best_rows before) (best_rows now) p best

-- What follows a change that came on `best`, if one did: it joins what each reader of the queue hasn't taken. No link changes by that.
abbrev pub Queues : Option (Change Route) → Exited → Exited → Type 0
Queues None e e' = e' ≡ e
Queues (Some change) e e' = PutsExit change e e'

-- ---- what is lent to the decision: the peers of the numbers that there may be
abbrev pub lent_chain : Chains → ℕ → Option Chained
lent_chain a b = cond (nat_lt b 65) (chain_at b a) None

abbrev pub lent_resolved : Chains → Resolvers → ℕ → Rows Route
lent_resolved a h b = rows_by (resolver_at b h) (filt_by (lent_chain a b))

-- and before them this speaker's own rows
abbrev pub lent_rows : Rows Route → Chains → Resolvers → AllRows
lent_rows own a h zero = own
lent_rows own a h (suc b) = lent_resolved a h (suc b)

abbrev pub candidates_by : Option Chained → Candidates
candidates_by None q = false
candidates_by (Some c) q = filt_candidates c q

-- of `red` those of `int`
abbrev pub lent_candidates : Candidates → Chains → ℕ → Candidates
lent_candidates int a zero = int
lent_candidates int a (suc b) = candidates_by (lent_chain a (suc b))
