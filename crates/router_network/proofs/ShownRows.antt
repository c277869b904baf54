-- The rows of a link, one after the other.
use Rattle.router_moments.proofs.Common.{sym, subst, ◌∙◌, ap, ◌≡◌, ℕ, refl, List, arith, false, ◌+◌, ◌++◌, ◌<◌, length-append, same_Some, IfOk-weaker, AddressPrefix, Route, Speaker, AreUnheard, resolver_at, rows_by, hop_links, metric_rows, link_by, Chained, filt_rows, filt_candidates, with_lines_append, Journaled, with_lines, entries_of, route_value, route_rows, Links, HasRow, Line, Link, Best, Res, Value, Rows, Candidates, IsNextCandidate, no_rows, CoversRows, region_of, Decided, Inward, Redistributed, Resolved, InteriorRoutes, Forward, no_table, Resolving, Metric, Passed, passed_rows, chain_at, filt_at, filt_by, peer_links, redistributed, Protos, RibExit, Interior, int_rows, Treed, tree_links, own_rows, best_links, own_links, answer_lines, Shows, live_state, Moment, best_of, router_links, own_of, tree_by, forward_by, Stands, Pushes, HasStepped}
use Rattle.std.proofs.Common.{◌^◌, [], ◌∷◌, map, length, Option, Some, None, append-nil}
use Rattle.std.specs.Prelude.{IsSome, is_some, option_map, Result, IfOk}
use Rattle.journal_text.specs.declared.link.Link.TheVariants.{Red}
use Rattle.std.proofs.lemmas.List.{map-append}
use Rattle.link_change.specs.Rows.{with_rows}
use Rattle.journal_text.specs.declared.line.Line.TheVariants as lines
use Rattle.event_text.specs.declared.event.Event.TheVariants as events
use Rattle.event_text.specs.declared.event.Question.TheVariants as questions
use Rattle.journal_laws.proofs.ShownRows.{IsShown, none_shown, one_shown, none_more, none_left, with_none}
use Rattle.router_moments.specs.Blocks.{AreRows}
use Rattle.router_moments.specs.Lookups.{listed_at, row_lines, Counts, ShowsRow, IsCountOf, IsNextPlace}
use Rattle.rib_exit.specs.Exits.{exit_links as external_links}
use Rattle.peer_side.specs.Peers.{peer_candidates}
use Rattle.router_moments.proofs.RegionLemmas.{in_region}
use Rattle.router_moments.proofs.HeardSteps.{heard_quiet}
use Rattle.router_moments.proofs.KeepLemmas.{steps_said}

-- the next candidate, whether it has a row or not
next_shown : (candidates : Candidates) (rows : Rows Value) → CoversRows candidates rows → (place : Option AddressPrefix) (listed : List (AddressPrefix × Value)) (p : AddressPrefix) (row : Option Value) → IsNextCandidate candidates place (Some p) → rows p ≡ row → IsShown rows place listed
    → IsShown rows (Some p) (listed ++ listed_at p row)
next_shown candidates rows covers place listed p None next here is = subst (IsShown rows (Some p)) (sym (append-nil listed)) (none_more candidates rows covers place listed p next here is)
next_shown candidates rows covers place listed p (Some v) next here is = one_shown candidates rows covers place listed p v next here is

all_shown : (candidates : Candidates) (rows : Rows Value) → CoversRows candidates rows → (place : Option AddressPrefix) (listed : List (AddressPrefix × Value)) → IsNextCandidate candidates place None → IsShown rows place listed → AreRows rows listed
all_shown candidates rows covers place listed none is = record { order = is.order; each = is.each; all = none_left candidates rows covers place listed none is }

-- ---- a link that is live, and its walk
-- the row of a link, at its only map of rows
row_here : (links : Links Value) (link : Link) (p : AddressPrefix) (row : Option Value) (rows : Rows Value) → HasRow links link p row → links link ≡ Some rows → rows p ≡ row
row_here links link p row rows has is = ap (λ (f : Rows Value). f p) (same_Some rows has.0 (sym is ∙ has.1)) ∙ has.2

length_at : (p : AddressPrefix) (row : Option Value) (listed : List (AddressPrefix × Value)) (m n : ℕ) → m ≡ length listed → n ≡ length (listed_at p row) → m + n ≡ length (listed ++ listed_at p row)
length_at p row listed m n e f = let l = length-append listed (listed_at p row) in omega arith

-- these rows were passed
abbrev pub AreShown : Option (Rows Value) → Option AddressPrefix → List (AddressPrefix × Value) → Type 0
AreShown link place listed = (rows : Rows Value) → link ≡ Some rows → IsShown rows place listed

-- so many rows were passed
abbrev pub IsCounted : Option (Rows Value) → Option AddressPrefix → ℕ → Type 0
IsCounted link place n = (listed : List (AddressPrefix × Value)) × (n ≡ length listed) × AreShown link place listed

pub none_counted : (link : Option (Rows Value)) → IsCounted link None 0
none_counted link = ([], refl, λ rows is. none_shown rows)

row_shown : (links : Links Value) (link : Link) (place : Option AddressPrefix) (p : AddressPrefix) (row : Option Value) (listed : List (AddressPrefix × Value))
    → IsNextPlace (links link) place (Some p) → HasRow links link p row → AreShown (links link) place listed → AreShown (links link) (Some p) (listed ++ listed_at p row)
row_shown links link place p row listed next has shown rows is =
    next_shown next.0 rows (next.2 rows is) place listed p row next.1 (row_here links link p row rows has is) (shown rows is)

pub one_counted : (links : Links Value) (link : Link) (place : Option AddressPrefix) (p : AddressPrefix) (m n : ℕ)
    → IsNextPlace (links link) place (Some p) → Counts links link p n → IsCounted (links link) place m → IsCounted (links link) (Some p) (m + n)
one_counted links link place p m n next counts before = (
  before.0 ++ listed_at p counts.0,
  length_at p counts.0 before.0 m n before.1 counts.2,
  row_shown links link place p counts.0 before.0 next counts.1 before.2,
)

pub all_counted : (link : Option (Rows Value)) (place : Option AddressPrefix) (n : ℕ) → IsSome link → IsNextPlace link place None → IsCounted link place n → IsCountOf link (Some n)
all_counted None place n live next counted = absurd (cc)
all_counted (Some rows) place n live next counted =
    (counted.0, all_shown next.0 rows (next.2 rows refl) place counted.0 next.1 (counted.2 rows refl), counted.1)

-- so many rows were passed, and their lines pushed
abbrev pub AreGiven : Link → Option (Rows Value) → Option AddressPrefix → ℕ → Journaled → Journaled → Type 0
AreGiven link of place n before now = (listed : List (AddressPrefix × Value)) × (now ≡ with_lines before (row_lines link listed)) × (n ≡ length listed) × AreShown of place listed

pub none_given : (link : Link) (of : Option (Rows Value)) (j : Journaled) → AreGiven link of None 0 j j
none_given link of j = ([], with_none j, refl, λ rows is. none_shown rows)

pub one_given : (links : Links Value) (link : Link) (place : Option AddressPrefix) (p : AddressPrefix) (m n : ℕ) (before j now : Journaled)
    → IsNextPlace (links link) place (Some p) → ShowsRow links link p j now n → AreGiven link (links link) place m before j → AreGiven link (links link) (Some p) (m + n) before now
one_given links link place p m n before j now next row given = (
  given.0 ++ listed_at p row.0,
  row.3 ∙ ap (λ (x : Journaled). with_lines x (row_lines link (listed_at p row.0))) given.1 ∙ with_lines_append before (row_lines link given.0) (row_lines link (listed_at p row.0))
      ∙ ap (with_lines before) (sym (map-append (λ r. lines.Row link r.0 r.1) given.0 (listed_at p row.0))),
  length_at p row.0 given.0 m n given.2 row.2,
  row_shown links link place p row.0 given.0 next row.1 given.3,
)

pub rows_end : (link : Link) (of : Option (Rows Value)) (place : Option AddressPrefix) (n : ℕ) (before j now : Journaled) → n < 2 ^ 128 → IsSome of → IsNextPlace of place None
    → AreGiven link of place n before j → now ≡ with_lines j (lines.Rows link n ∷ []) → Pushes (Shows link of) before now
rows_end link None place n before j now small live next given last = absurd (cc)
rows_end link (Some rows) place n before j now small live next given last = (
  row_lines link given.0 ++ lines.Rows link (length given.0) ∷ [],
  last ∙ ap (λ m. with_lines j (lines.Rows link m ∷ [])) given.2 ∙ ap (λ s. with_lines s (lines.Rows link (length given.0) ∷ [])) given.1
      ∙ with_lines_append before (row_lines link given.0) (lines.Rows link (length given.0) ∷ []),
  (given.0, all_shown next.0 rows (next.2 rows refl) place given.0 next.1 (given.3 rows refl), refl, subst (λ (k : ℕ). k < 2 ^ 128) given.2 small),
)

-- a link that isn't live is not shown
pub not_shown : (link : Link) (of : Option (Rows Value)) (before now : Journaled) → is_some of ≡ false → now ≡ with_lines before (lines.Absent ∷ []) → Pushes (Shows link of) before now
not_shown link None before now none last = (lines.Absent ∷ [], last, refl)
not_shown link (Some rows) before now none last = absurd (cc)

-- ---- a show as an event
no_entries : (link : Link) (listed : List (AddressPrefix × Value)) (n : ℕ) → entries_of (row_lines link listed ++ lines.Rows link n ∷ []) ≡ []
no_entries link [] n = refl
no_entries link (r ∷ rs) n = no_entries link rs n

shows_no_entries : (link : Link) (of : Option (Rows Value)) (said : List Line) → Shows link of said → entries_of said ≡ []
shows_no_entries link None said shows = ap entries_of shows
shows_no_entries link (Some rows) said shows = ap entries_of shows.2 ∙ no_entries link shows.0 (length shows.0)

rows_unheard : (link : Link) (listed : List (AddressPrefix × Value)) (count : ℕ) → AreUnheard (map (λ r. lines.Row link r.0 r.1) listed ++ lines.Rows link count ∷ [])
rows_unheard link [] count = (refl, tt)
rows_unheard link (r ∷ listed) count = (refl, rows_unheard link listed count)

shows_unheard : (link : Link) (of : Option (Rows Value)) (said : List Line) → Shows link of said → AreUnheard said
shows_unheard link None said shows = subst AreUnheard (sym shows) (refl, tt)
shows_unheard link (Some rows) said shows = subst AreUnheard (sym shows.2) (rows_unheard link shows.0 (length shows.0))

pub show_stepped : (m : Moment) (link : Link) (of : Option (Rows Value)) (said : List Line) → Stands m → router_links m link ≡ of → Shows link of said → HasStepped m (events.Query (questions.Show link)) 0 m said
show_stepped m link of said stands is shows =
    let here : Shows link (router_links m link) said = subst (λ (o : Option (Rows Value)). Shows link o said) (sym is) shows in
    steps_said m (events.Query (questions.Show link)) 0 said stands (refl, refl, here) refl (shows_no_entries link of said shows, shows_unheard link of said shows)

-- ---- a lookup as an event
pub ask_stepped : (m : Moment) (link : Link) (p : AddressPrefix) (of : Option (Rows Value)) → Stands m → router_links m link ≡ of → HasStepped m (events.Query (questions.Ask link p)) 0 m (answer_lines link p of)
ask_stepped m link p None stands is = steps_said m (events.Query (questions.Ask link p)) 0 (lines.Absent ∷ []) stands (refl, refl, ap (answer_lines link p) (sym is)) refl (refl, (refl, tt))
ask_stepped m link p (Some rows) stands is = record {
  block = (refl, refl, ap (answer_lines link p) (sym is));
  live = live_state m;
  after = refl;
  keeps = record { leads = record { lawful = ((rows, is, refl), tt); ends = refl }; live = refl; stands = stands; heard = heard_quiet m m (answer_lines link p (Some rows)) (refl, tt) refl };
}

-- ---- a link whose candidates are its rows
-- the next candidate of each map of rows that the link has
next_row : (of : Option (Rows Value)) (place result : Option AddressPrefix) → IsSome of → ((rows : Rows Value) → of ≡ Some rows → IsNextCandidate (with_rows rows) place result) → IsNextPlace of place result
next_row None place result live next = absurd (cc)
next_row (Some own) place result live next = (with_rows own, next own refl, λ rows is q lacks. ap (λ (f : Rows Value). f q) (same_Some rows own (sym is)) ∙ no_table (own q) lacks)

-- by the region of the link
pub next_inward : (m v : Moment) (link : Link) (place result : Option AddressPrefix) → v ≡ m → region_of link ≡ Inward → IsNextCandidate (peer_candidates v.chains link) place result
    → ((rows : Rows Value) → peer_links v.chains link ≡ Some rows → CoversRows (peer_candidates v.chains link) rows) → IsNextPlace (router_links m link) place result
next_inward m v link place result view here next covers =
    (peer_candidates v.chains link, next, λ rows is. covers rows (ap (λ (n : Moment). peer_links n.chains link) view ∙ sym (in_region m link Inward here) ∙ is))

-- a link of the interior routes that is live
tree_here : (s : Option Speaker) (t : Treed) (link : Link) → IsSome (tree_by s t link) → tree_by s t link ≡ tree_links t link
tree_here None t link live = absurd (cc)
tree_here (Some me) t link live = refl

tree_is : (m v : Moment) (link : Link) → v ≡ m → region_of link ≡ InteriorRoutes → IsSome (router_links m link) → router_links m link ≡ tree_links v.tree link
tree_is m v link view here live =
    let at : router_links m link ≡ tree_by m.declared.speaker m.tree link = in_region m link InteriorRoutes here in
    at ∙ tree_here m.declared.speaker m.tree link (subst IsSome at live) ∙ ap (λ (n : Moment). tree_links n.tree link) (sym view)

pub next_tree : (m v : Moment) (link : Link) (place result : Option AddressPrefix) → v ≡ m → region_of link ≡ InteriorRoutes → IsSome (router_links m link)
    → ((rows : Rows Value) → tree_links v.tree link ≡ Some rows → IsNextCandidate (with_rows rows) place result) → IsNextPlace (router_links m link) place result
next_tree m v link place result view here live next = next_row (router_links m link) place result live (λ rows is. next rows (sym (tree_is m v link view here live) ∙ is))

-- a link of the external routes that is, or `fib`
forward_here : (s : Option Speaker) (x : RibExit) (int : Rows Interior) (link : Link) → IsSome (forward_by s x int link) → forward_by s x int link ≡ external_links x int link
forward_here None x int link live = absurd (cc)
forward_here (Some me) x int link live = refl

forward_is : (m v : Moment) (link : Link) → v ≡ m → region_of link ≡ Forward → IsSome (router_links m link) → router_links m link ≡ external_links v.rib (int_rows v.tree) link
forward_is m v link view here live =
    let at : router_links m link ≡ forward_by m.declared.speaker m.rib (int_rows m.tree) link = in_region m link Forward here in
    at ∙ forward_here m.declared.speaker m.rib (int_rows m.tree) link (subst IsSome at live) ∙ ap (λ (n : Moment). external_links n.rib (int_rows n.tree) link) (sym view)

pub forward_live : (m v : Moment) (link : Link) → v ≡ m → region_of link ≡ Forward → IsSome (router_links m link) → IsSome (external_links v.rib (int_rows v.tree) link)
forward_live m v link view here live = subst IsSome (forward_is m v link view here live) live

pub has_forward : {E : Type 0} (m v : Moment) (link : Link) (p : AddressPrefix) (result : Result (Option Value) E) → v ≡ m → region_of link ≡ Forward → IsSome (router_links m link) → IfOk result (HasRow (external_links v.rib (int_rows v.tree)) link p) → IfOk result (HasRow (router_links m) link p)
has_forward m v link p result view here live has =
    IfOk-weaker result (HasRow (external_links v.rib (int_rows v.tree)) link p) (HasRow (router_links m) link p) (λ row is. (is.0, forward_is m v link view here live ∙ is.1, is.2)) has

pub next_forward : (m : Moment) (link : Link) (place result : Option AddressPrefix) → region_of link ≡ Forward → IsSome (router_links m link) → IsNextPlace (external_links m.rib (int_rows m.tree) link) place result → IsNextPlace (router_links m link) place result
next_forward m link place result here live next = subst (λ (o : Option (Rows Value)). IsNextPlace o place result) (sym (forward_is m m link refl here live)) next

-- `red` where it is live: some of its candidates have no row
own_here : (s : Option Speaker) (rows : Rows Route) (link : Link) → IsSome (own_links s rows link) → own_links s rows link ≡ Some (route_rows rows)
own_here None rows link live = absurd (cc)
own_here (Some me) rows Red live = refl
own_here (Some me) rows other live = absurd (cc)

pub has_own : (m : Moment) (link : Link) (p : AddressPrefix) (row : Option Route) → IsSome (own_links m.declared.speaker (own_of m) link) → row ≡ own_of m p → HasRow (own_links m.declared.speaker (own_of m)) link p (option_map route_value row)
has_own m link p row live is = (route_rows (own_of m), own_here m.declared.speaker (own_of m) link live, ap (option_map route_value) (sym is))

-- its rows, by whoever this speaker is
own_covered : (s : Option Speaker) (redist : Passed Protos) (int : Rows Interior) (candidates : Candidates) → ((me : Speaker) → CoversRows candidates (passed_rows (redistributed me) redist int)) → CoversRows candidates (own_rows s redist int)
own_covered None redist int candidates covers q lacks = refl
own_covered (Some me) redist int candidates covers q lacks = covers me q lacks

pub next_own : (m v : Moment) (link : Link) (place result : Option AddressPrefix) (candidates : Candidates) → v ≡ m → region_of link ≡ Redistributed → IsSome (router_links m link) → IsNextCandidate candidates place result
    → ((me : Speaker) → CoversRows candidates (passed_rows (redistributed me) v.redist (int_rows v.tree))) → IsNextPlace (router_links m link) place result
next_own m v link place result candidates view here live next covers = (
  candidates,
  next,
  λ rows is q lacks.
      let at : router_links m link ≡ own_links m.declared.speaker (own_of m) link = in_region m link Redistributed here in
      let own : Some rows ≡ Some (route_rows (own_of m)) = sym is ∙ at ∙ own_here m.declared.speaker (own_of m) link (subst IsSome at live) in
      let none : own_of m q ≡ None = ap (λ (n : Moment). own_of n q) (sym view) ∙ own_covered v.declared.speaker v.redist (int_rows v.tree) candidates covers q lacks in
      ap (λ (r : Rows Value). r q) (same_Some rows (route_rows (own_of m)) own) ∙ ap (option_map route_value) none,
)

-- a link `res.K`, whose candidates are those of `filt.K`
pub next_res : (m v : Moment) (link : Link) (place result : Option AddressPrefix) → v ≡ m → region_of link ≡ Resolved → IsNextPlace (hop_links v.hops (filt_at v.chains) link) place result → IsNextPlace (router_links m link) place result
next_res m v link place result view here next =
    subst (λ (o : Option (Rows Value)). IsNextPlace o place result) (ap (λ (n : Moment). hop_links n.hops (filt_at n.chains) link) view ∙ sym (in_region m link Resolved here)) next

-- its rows, over those of `filt.K`
res_rows_at : (m : Moment) (link : Link) (k : ℕ) (rows : Rows Value) → link ≡ Res k → hop_links m.hops (filt_at m.chains) link ≡ Some rows → (s : Resolving Metric) × (resolver_at k m.hops ≡ Some s) × (rows ≡ route_rows (metric_rows s (filt_at m.chains k)))
res_rows_at m link k rows is at = by_resolver (resolver_at k m.hops) refl (ap (hop_links m.hops (filt_at m.chains)) (sym is) ∙ at)
  where
    by_resolver : (o : Option (Resolving Metric)) → resolver_at k m.hops ≡ o → link_by o (filt_at m.chains k) ≡ Some rows → (s : Resolving Metric) × (resolver_at k m.hops ≡ Some s) × (rows ≡ route_rows (metric_rows s (filt_at m.chains k)))
    by_resolver None was e = absurd (cc)
    by_resolver (Some s) was e = (s, was, sym (same_Some (route_rows (metric_rows s (filt_at m.chains k))) rows e))

pub has_resolved : (m v : Moment) (link : Link) (k : ℕ) (p : AddressPrefix) (c : Chained) (row : Option Route) → v ≡ m → link ≡ Res k → Some c ≡ chain_at k v.chains → IsSome (hop_links m.hops (filt_at m.chains) link)
    → row ≡ rows_by (resolver_at k v.hops) (filt_rows c) p → HasRow (hop_links m.hops (filt_at m.chains)) link p (option_map route_value row)
has_resolved m v link k p c row view is there live row_is = by_rows (hop_links m.hops (filt_at m.chains) link) refl live
  where
    by_rows : (o : Option (Rows Value)) → hop_links m.hops (filt_at m.chains) link ≡ o → IsSome o → HasRow (hop_links m.hops (filt_at m.chains)) link p (option_map route_value row)
    by_rows None at some = absurd (cc)
    by_rows (Some rows) at some =
        let own = res_rows_at m link k rows is at in
        let upper : filt_rows c ≡ filt_at m.chains k = ap filt_by there ∙ ap (λ (n : Moment). filt_at n.chains k) view in
        let same : rows_by (resolver_at k v.hops) (filt_rows c) ≡ metric_rows own.0 (filt_at m.chains k) = ap (λ (n : Moment). rows_by (resolver_at k n.hops) (filt_rows c)) view ∙ ap (λ (o : Option (Resolving Metric)). rows_by o (filt_rows c)) own.1 ∙ ap (metric_rows own.0) upper in
        (rows, at, ap (λ (r : Rows Value). r p) own.2 ∙ ap (option_map route_value) (sym (row_is ∙ ap (λ (r : Rows Route). r p) same)))

-- where no row stands above it
pub none_resolved : (m v : Moment) (link : Link) (k : ℕ) (place : Option AddressPrefix) → v ≡ m → link ≡ Res k → None ≡ chain_at k v.chains → IsNextPlace (hop_links m.hops (filt_at m.chains) link) place None
none_resolved m v link k place view is none = (
  (λ q. false),
  (λ q beyond. refl),
  λ rows at q lacks.
      let own = res_rows_at m link k rows is at in
      let upper : filt_at m.chains k ≡ no_rows = ap (λ (n : Moment). filt_at n.chains k) (sym view) ∙ ap filt_by (sym none) in
      ap (λ (r : Rows Value). r q) own.2 ∙ ap (λ (u : Rows Route). route_rows (metric_rows own.0 u) q) upper,
)

pub next_resolved : (m v : Moment) (link : Link) (k : ℕ) (place result : Option AddressPrefix) (c : Chained) → v ≡ m → link ≡ Res k → Some c ≡ chain_at k v.chains → IsNextCandidate (filt_candidates c) place result
    → CoversRows (filt_candidates c) (rows_by (resolver_at k v.hops) (filt_rows c)) → IsNextPlace (hop_links m.hops (filt_at m.chains) link) place result
next_resolved m v link k place result c view is there next covers = (
  filt_candidates c,
  next,
  λ rows at q lacks.
      let own = res_rows_at m link k rows is at in
      let upper : filt_rows c ≡ filt_at m.chains k = ap filt_by there ∙ ap (λ (n : Moment). filt_at n.chains k) view in
      let same : rows_by (resolver_at k v.hops) (filt_rows c) ≡ metric_rows own.0 (filt_at m.chains k) = ap (λ (n : Moment). rows_by (resolver_at k n.hops) (filt_rows c)) view ∙ ap (λ (o : Option (Resolving Metric)). rows_by o (filt_rows c)) own.1 ∙ ap (metric_rows own.0) upper in
      ap (λ (r : Rows Value). r q) own.2 ∙ ap (option_map route_value) (ap (λ (r : Rows Route). r q) (sym same) ∙ covers q lacks),
)

-- `best` where it is live, whose candidates are those of the decision
best_rows_at : (s : Option Speaker) (rows : Rows Route) (link : Link) → IsSome (best_links s rows link) → best_links s rows link ≡ Some (route_rows rows)
best_rows_at None rows link live = absurd (cc)
best_rows_at (Some me) rows Best live = refl
best_rows_at (Some me) rows other live = absurd (cc)

pub has_best : (m : Moment) (link : Link) (p : AddressPrefix) (row : Option Route) → IsSome (best_links m.declared.speaker (best_of m) link) → row ≡ best_of m p
    → HasRow (best_links m.declared.speaker (best_of m)) link p (option_map route_value row)
has_best m link p row live is = (route_rows (best_of m), best_rows_at m.declared.speaker (best_of m) link live, ap (option_map route_value) (sym is))

pub next_best : (m : Moment) (link : Link) (place result : Option AddressPrefix) (candidates : Candidates) → region_of link ≡ Decided → IsSome (router_links m link) → IsNextCandidate candidates place result → CoversRows candidates (best_of m)
    → IsNextPlace (router_links m link) place result
next_best m link place result candidates here live next covers = (
  candidates,
  next,
  λ rows is q lacks.
      let at : router_links m link ≡ best_links m.declared.speaker (best_of m) link = in_region m link Decided here in
      let own : Some rows ≡ Some (route_rows (best_of m)) = sym is ∙ at ∙ best_rows_at m.declared.speaker (best_of m) link (subst IsSome at live) in
      ap (λ (r : Rows Value). r q) (same_Some rows (route_rows (best_of m)) own) ∙ ap (option_map route_value) (covers q lacks),
)
