-- A whole chain: the incoming filter below the stages whose links carry attributes.
use Rattle.std.proofs.Common.{◌≡◌, ℕ, ◌==◌, ◌&&◌, ◌||◌, Bool, true, false, cond, List, [], ◌∷◌, ◌++◌, Option, Some, None, is_some, refl, sym, ap, subst, ◌∙◌}
use Rattle.addr4.specs.Prefixes.{AddressPrefix}
use Rattle.bgp_attr.specs.Attributes.{Attrs}
use Rattle.bgp_attr.specs.Routes.{Route}
use Rattle.link_change.specs.Rows.{Rows, with_rows}
use Rattle.link_change.specs.Changes.{IsSent}
use Rattle.link_change.specs.Turns.{taken_turn}
use Rattle.link_change.specs.Changes.{Change}
use Rattle.link_change.specs.Turns.{Turn}
use Rattle.link_change.specs.declared.turn.Turn.TheVariants.{Nothing, Quiet, Sent}
use Rattle.link_change.proofs.RowLemmas.{same_function}
use Rattle.policy_rules.specs.Rules.{Rule}
use Rattle.pass_core.specs.Passed.{Passed}
use Rattle.filter_bank.specs.Filtered.{passed_rows, FiltersOn}
use Rattle.filter_bank.specs.Walks.{Walks, IsWalked}
use Rattle.filter_bank.proofs.LawLemmas.{a_walk_leads}
use Rattle.journal_text.specs.Links.{same_link}
use Rattle.journal_text.specs.declared.link.Link.{Link}
use Rattle.journal_text.specs.declared.link.Link.TheVariants.{In, Filt}
use Rattle.journal_text.specs.declared.link.Task.TheVariants.{Del, Fin}
use Rattle.journal_text.specs.Lines.{Value}
use Rattle.journal_text.specs.Lines.{Entry}
use Rattle.journal_text.specs.Journals.{Journaled, with_entries, Adds}
use Rattle.journal_text.specs.Values.{route_rows, attrs_value, route_value, valued_change}
use Rattle.journal_text.specs.Walk.{Links, with_link, Leads}
use Rattle.journal_text.proofs.LinkLemmas.{same_link-yes}
use Rattle.journal_text.proofs.JournalLemmas.{with_entries_none}
use Rattle.journal_text.proofs.WalkLemmas.{leads_nowhere, leads_append, leads_over}
use Rattle.in_chain.proofs.TurnLemmas.{fewer_turns}
use Rattle.loss_chain.specs.declared.owner.Owner.TheVariants as owners
use Rattle.loss_chain.specs.Tables.{Tables, lowest_rows}
use Rattle.loss_chain.specs.Falls.{FallsTables, way_from}
use Rattle.loss_chain.specs.Steps.{SweepsTables, IsTakenTables, table_of}
use Rattle.journal_text.proofs.FallLemmas.{and_then, cut_before, goes_on, goes_out}
use Rattle.in_chain.specs.Incomings.{Incoming, in_rows, is_incoming, incoming_links, beside_incoming}
use Rattle.in_chain.specs.Chains.{Chained, with_tables, filt_rows, is_named, links_of, beside}
use Rattle.in_chain.specs.Falls.{LeadsIncoming, Falls, LeadsChain}
use Rattle.in_chain.specs.Steps.{filter_entries, Rewalks, Turned, IsTaken}

-- ---- the links of a chain are those of its upper part, and `filt.K`

-- `filt.K` with its rows, over other links
abbrev over : Links Value → Chained → Links Value
over others c = with_link others (Filt c.incoming.number) (Some (route_rows (filt_rows c)))

links_are : (c : Chained) (link : Link) → links_of c link ≡ over (incoming_links c.incoming) c link
links_are c link = elim link as (λ l. links_of c l ≡ over (incoming_links c.incoming) c l) [
  | Filt k ↦ elim (k == c.incoming.number) as (λ b. cond b (Some (route_rows (filt_rows c))) None ≡ cond (true && (b && true)) (Some (route_rows (filt_rows c))) None) [ true ↦ refl | false ↦ refl ]
  | _ ↦ refl
]

named_are : (k : ℕ) (link : Link) → is_named k link ≡ (same_link link (Filt k) || is_incoming k link)
named_are k link = elim link as (λ l. is_named k l ≡ (same_link l (Filt k) || is_incoming k l)) [
  | Filt j ↦ elim (j == k) as (λ b. b ≡ ((true && (b && true)) || false)) [ true ↦ refl | false ↦ refl ]
  | _ ↦ refl
]

one_of_two : {A : Type 0} (a b : Bool) (x y z : A) → cond (a || b) (cond a x y) z ≡ cond a x (cond b y z)
one_of_two true b x y z = refl
one_of_two false b x y z = refl

beside_is : (others : Links Value) (c : Chained) → beside others c ≡ over (beside_incoming others c.incoming) c
beside_is others c = same_function _ _ (λ link.
    let k = c.incoming.number in
    ap (λ b. cond b (links_of c link) (others link)) (named_are k link)
    ∙ ap (λ o. cond (same_link link (Filt k) || is_incoming k link) o (others link)) (links_are c link)
    ∙ one_of_two (same_link link (Filt k)) (is_incoming k link) (Some (route_rows (filt_rows c))) (incoming_links c.incoming link) (others link))

swap_cond : {A : Type 0} (p r : Bool) (x y z : A) → (p ≡ true → r ≡ true → ⊥) → cond p x (cond r y z) ≡ cond r y (cond p x z)
swap_cond true true x y z h = absurd (h refl refl)
swap_cond true false x y z h = refl
swap_cond false true x y z h = refl
swap_cond false false x y z h = refl

not_both : (k : ℕ) (link : Link) → same_link link (Filt k) ≡ true → is_incoming k link ≡ true → ⊥
not_both k link filt incoming = let clash : true ≡ false = sym incoming ∙ ap (is_incoming k) (same_link-yes link (Filt k) filt) in cc

-- `filt.K` may be set before the upper part's links or after them
set_filter : (others : Links Value) (c : Incoming) (x : Option (Rows Value)) → with_link (beside_incoming others c) (Filt c.number) x ≡ beside_incoming (with_link others (Filt c.number) x) c
set_filter others c x = same_function _ _ (λ link.
    swap_cond (same_link link (Filt c.number)) (is_incoming c.number link) x (incoming_links c link) (others link) (not_both c.number link))

-- ---- what leads on

in_frame : (old new : Incoming) (x : Option (Rows Value)) (entries : List (Entry Value)) → new.number ≡ old.number → LeadsIncoming old entries new
    → (others : Links Value) → Leads (with_link (beside_incoming others old) (Filt old.number) x) entries (with_link (beside_incoming others new) (Filt old.number) x)
in_frame old new x entries same leads others =
    let inside = leads (with_link others (Filt old.number) x) in
    let to : beside_incoming (with_link others (Filt old.number) x) new ≡ with_link (beside_incoming others new) (Filt old.number) x =
    ap (λ n. beside_incoming (with_link others (Filt n) x) new) (sym same) ∙ sym (set_filter others new x) ∙ ap (λ n. with_link (beside_incoming others new) (Filt n) x) same in
    let P : Links Value → Type 0 = λ l. Leads l entries (beside_incoming (with_link others (Filt old.number) x) new) in
    let Q : Links Value → Type 0 = λ l. Leads (with_link (beside_incoming others old) (Filt old.number) x) entries l in
    subst Q to (subst P (sym (set_filter others old x)) inside)

-- what leads on from the upper part and then from the filter, of links that are a chain's
as_chains : (old new : Chained) (entries : List (Entry Value)) → new.incoming.number ≡ old.incoming.number
    → ((others : Links Value) → Leads (over (beside_incoming others old.incoming) old) entries (with_link (beside_incoming others new.incoming) (Filt old.incoming.number) (Some (route_rows (filt_rows new)))))
    → LeadsChain old entries new
as_chains old new entries same leads others =
    let to : with_link (beside_incoming others new.incoming) (Filt old.incoming.number) (Some (route_rows (filt_rows new))) ≡ beside others new =
    ap (λ n. with_link (beside_incoming others new.incoming) (Filt n) (Some (route_rows (filt_rows new)))) (sym same) ∙ sym (beside_is others new) in
    let P : Links Value → Type 0 = λ l. Leads l entries (with_link (beside_incoming others new.incoming) (Filt old.incoming.number) (Some (route_rows (filt_rows new)))) in
    let Q : Links Value → Type 0 = λ l. Leads (beside others old) entries l in
    subst Q to (subst P (sym (beside_is others old)) (leads others))

-- entries of the upper part, and then what the filter sends
leads_on : (old new : Chained) (p : AddressPrefix) (sent : Option (Change Route)) (entries : List (Entry Value)) → new.incoming.number ≡ old.incoming.number → LeadsIncoming old.incoming entries new.incoming
    → IsSent (filt_rows old) (filt_rows new) p sent → LeadsChain old (entries ++ filter_entries old.incoming.number sent) new
leads_on old new p sent entries same leads is =
    as_chains old new (entries ++ filter_entries old.incoming.number sent) same (λ others.
    leads_append _ _ _ entries (filter_entries old.incoming.number sent) (in_frame old.incoming new.incoming (Some (route_rows (filt_rows old))) entries same leads others)
    (leads_over route_value (λ a b e. cc) (beside_incoming others new.incoming) (Filt old.incoming.number) (filt_rows old) (filt_rows new) p sent is))

-- entries of the upper part alone, where the rows of `filt.K` stay the same
pub leads_kept : (old new : Chained) (entries : List (Entry Value)) → new.incoming.number ≡ old.incoming.number → LeadsIncoming old.incoming entries new.incoming → filt_rows new ≡ filt_rows old
    → LeadsChain old entries new
leads_kept old new entries same leads is =
    as_chains old new entries same (λ others.
    let P : Rows Route → Type 0 = λ r. Leads (over (beside_incoming others old.incoming) old) entries (with_link (beside_incoming others new.incoming) (Filt old.incoming.number) (Some (route_rows r))) in
    subst P (sym is) (in_frame old.incoming new.incoming (Some (route_rows (filt_rows old))) entries same leads others))

-- what the filter sends alone
pub leads_walk : (old new : Chained) (p : AddressPrefix) (sent : Option (Change Route)) → new.incoming ≡ old.incoming → IsSent (filt_rows old) (filt_rows new) p sent
    → LeadsChain old (filter_entries old.incoming.number sent) new
leads_walk old new p sent same is =
    let numbers : new.incoming.number ≡ old.incoming.number = ap (λ (i : Incoming). i.number) same in
    as_chains old new (filter_entries old.incoming.number sent) numbers (λ others.
    let P : Incoming → Type 0 = λ i. Leads (over (beside_incoming others old.incoming) old) (filter_entries old.incoming.number sent) (with_link (beside_incoming others i) (Filt old.incoming.number) (Some (route_rows (filt_rows new)))) in
    subst P (sym same) (leads_over route_value (λ a b e. cc) (beside_incoming others old.incoming) (Filt old.incoming.number) (filt_rows old) (filt_rows new) p sent is))

-- where the rows of `in.K` stay, those of `filt.K` do
pub filt_kept : (c : Chained) (t : Tables Attrs) → lowest_rows t ≡ in_rows c.incoming → filt_rows (with_tables c t) ≡ filt_rows c
filt_kept c t same = ap (passed_rows c.me c.peer c.filter) same

-- ---- falls

-- nothing comes into the filter
pub falls_quietly : (old : Chained) (t : Tables Attrs) (p : AddressPrefix) (way : List Link) (before now : Journaled) → lowest_rows t ≡ in_rows old.incoming
    → Adds (FallsTables attrs_value (owners.Peer old.incoming.number) (old.incoming.tables) t p way None) before now → Adds (Falls old (with_tables old t) p (way ++ Filt old.incoming.number ∷ []) None) before now
falls_quietly old t p way before now rows (entries, now_is, fall) = (
  entries,
  now_is,
  record { leads = leads_kept old (with_tables old t) entries refl fall.leads (filt_kept old t rows); down = cut_before p way (Filt old.incoming.number ∷ []) entries fall.down },
)

-- a change comes into the filter
pub falls_on : (old : Chained) (t : Tables Attrs) (p : AddressPrefix) (way : List Link) (change : Change Attrs) (sent : Option (Change Route)) (before mid now : Journaled)
    → Adds (FallsTables attrs_value (owners.Peer old.incoming.number) (old.incoming.tables) t p way (Some change)) before mid → IsSent (filt_rows old) (filt_rows (with_tables old t)) p sent → now ≡ with_entries mid (filter_entries old.incoming.number sent)
    → Adds (Falls old (with_tables old t) p (way ++ Filt old.incoming.number ∷ []) sent) before now
falls_on old t p way change sent before mid now (entries, mid_is, fall) is now_is =
    let k = old.incoming.number in (
      entries ++ filter_entries k sent,
      and_then before mid now entries (filter_entries k sent) mid_is now_is,
      record {
        leads = leads_on old (with_tables old t) p sent entries refl fall.leads is;
        down = goes_on p way (Filt k ∷ []) change entries (filter_entries k sent) sent fall.down (goes_out route_value (Filt k) (filt_rows old) (filt_rows (with_tables old t)) p sent is);
      },
    )

-- ---- turns of a stage

and_false : (a b : Bool) → b ≡ false → (a && b) ≡ false
and_false true b e = e
and_false false b e = refl

pub sweeps_nothing : (old : Chained) (t : Tables Attrs) (session : ℕ) (before now : Journaled) → IsTakenTables attrs_value (owners.Peer old.incoming.number) (old.incoming.tables) t session before now Nothing
    → IsTaken old (with_tables old t) (Del old.incoming.number session) before now Nothing
sweeps_nothing old t session before now (none, (same, now_is)) =
    (and_false (old.incoming.number == old.incoming.number) (is_some (table_of session old.incoming.tables.deletions)) (ap is_some none), (ap (with_tables old) same, now_is))

pub sweeps_quietly_below : (old : Chained) (t : Tables Attrs) (session : ℕ) (before now : Journaled) → IsTakenTables attrs_value (owners.Peer old.incoming.number) (old.incoming.tables) t session before now Quiet
    → IsTaken old (with_tables old t) (Del old.incoming.number session) before now Quiet
sweeps_quietly_below old t session before now (entries, now_is, s) =
    let k = old.incoming.number in
    let fall = falls_quietly old t s.prefix (way_from (owners.Peer k) session (In k) old.incoming.tables.deletions) before now s.rows (entries, now_is, s.fall) in (
      fall.0,
      fall.1,
      (
        refl,
        record { prefix = s.prefix; row = s.row; table = s.table; stands = s.stands; least = s.least; after = ap (with_tables old) s.after; fall = fall.2; rows = filt_kept old t s.rows },
      ),
    )

sweeps_below : (old : Chained) (t : Tables Attrs) (session : ℕ) (change : Change Attrs) (sent : Option (Change Route)) (before mid now : Journaled)
    → Adds (SweepsTables attrs_value (owners.Peer old.incoming.number) (old.incoming.tables) t session (Some change)) before mid → FiltersOn old.me old.peer old.filter change sent → now ≡ with_entries mid (filter_entries old.incoming.number sent)
    → Adds (Turned old (with_tables old t) (Del old.incoming.number session) sent) before now
sweeps_below old t session change sent before mid now (entries, mid_is, s) filters now_is =
    let k = old.incoming.number in
    let is = filters (in_rows old.incoming) (lowest_rows t) s.prefix s.rows in
    let fall = falls_on old t s.prefix (way_from (owners.Peer k) session (In k) old.incoming.tables.deletions) change sent before mid now (entries, mid_is, s.fall) is now_is in (
      fall.0,
      fall.1,
      (
        refl,
        record { prefix = s.prefix; row = s.row; table = s.table; stands = s.stands; least = s.least; after = ap (with_tables old) s.after; fall = fall.2; rows = is },
      ),
    )

turned : (old new : Chained) (k session : ℕ) (sent : Option (Change Route)) (before now : Journaled) → Adds (Turned old new (Del k session) sent) before now → IsTaken old new (Del k session) before now (taken_turn sent)
turned old new k session None before now adds = adds
turned old new k session (Some change) before now adds = adds

pub sweeps_on_below : (old : Chained) (t : Tables Attrs) (session : ℕ) (change : Change Attrs) (sent : Option (Change Route)) (before mid now : Journaled)
    → IsTakenTables attrs_value (owners.Peer old.incoming.number) (old.incoming.tables) t session before mid (Sent change) → FiltersOn old.me old.peer old.filter change sent → now ≡ with_entries mid (filter_entries old.incoming.number sent)
    → IsTaken old (with_tables old t) (Del old.incoming.number session) before now (taken_turn sent)
sweeps_on_below old t session change sent before mid now taken filters now_is =
    turned old (with_tables old t) old.incoming.number session sent before now (sweeps_below old t session change sent before mid now taken filters now_is)

-- ---- turns of the filter's walk

-- the chain with another state of its filter
abbrev pub refilled : Chained → Passed (List Rule) → Chained
refilled c f = record c { filter = f }

abbrev pub IsWalkOf : Chained → Passed (List Rule) → Turn Route → Type 0
IsWalkOf c f turn = IsWalked c.me c.peer (with_rows (in_rows c.incoming)) (in_rows c.incoming) c.filter f turn

rewalks : (c : Chained) (f : Passed (List Rule)) (sent : Option (Change Route)) → Walks c.me c.peer (with_rows (in_rows c.incoming)) (in_rows c.incoming) c.filter f sent
    → LeadsChain c (filter_entries c.incoming.number sent) (refilled c f) → Rewalks c (refilled c f) sent (filter_entries c.incoming.number sent)
rewalks c f sent w leads = record { walks = w; after = refl; lines = refl; leads = leads; fewer = fewer_turns c.incoming.tables c.filter f w.walk w.next w.on w.after w.least }

pub walks_nothing : (c : Chained) (f : Passed (List Rule)) (j : Journaled) → IsWalkOf c f Nothing → IsTaken c (refilled c f) (Fin c.incoming.number) j j Nothing
walks_nothing c f j (none, same) =
    (and_false (c.incoming.number == c.incoming.number) (is_some c.filter.walk) (ap is_some none), (ap (refilled c) same, refl))

pub walks_quietly : (c : Chained) (f : Passed (List Rule)) (j : Journaled) → IsWalkOf c f Quiet → IsTaken c (refilled c f) (Fin c.incoming.number) j j Quiet
walks_quietly c f j w =
    let same = a_walk_leads c.me c.peer (with_rows (in_rows c.incoming)) (in_rows c.incoming) c.filter f Quiet w in
    ([], sym (with_entries_none j), (refl, rewalks c f None w (leads_kept c (refilled c f) [] refl (λ others. leads_nowhere _ _ refl) same)))

pub walks_on : (c : Chained) (f : Passed (List Rule)) (change : Change Route) (before now : Journaled) → IsWalkOf c f (Sent change) → now ≡ with_entries before (valued_change route_value (Filt c.incoming.number) change)
    → IsTaken c (refilled c f) (Fin c.incoming.number) before now (Sent change)
walks_on c f change before now w now_is =
    let is = a_walk_leads c.me c.peer (with_rows (in_rows c.incoming)) (in_rows c.incoming) c.filter f (Sent change) w in
    (valued_change route_value (Filt c.incoming.number) change, now_is, (refl, rewalks c f (Some change) w (leads_walk c (refilled c f) change.prefix (Some change) refl is)))
