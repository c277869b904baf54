-- The walk of a refresh.
use Rattle.std.proofs.Common.{◌≡◌, ◌==◌, ◌<◌, ◌≤◌, ℕ, Bool, true, false, cond, List, [], ◌∷◌, Option, Some, None, is_some, refl, sym, ap, subst, ◌∙◌, arith}
use Rattle.std.specs.Prelude.{option_map}
use Rattle.std.specs.Option.{ForSome}
use Rattle.std.proofs.lemmas.Bool.Decides.{nat_tests}
use Rattle.std.specs.FinMap as tables
use Rattle.std.specs.FinMap.{FinMap}
use Rattle.addr4.specs.Prefixes.{AddressPrefix, prefix_cmp}
use Rattle.addr4.specs.Places.{key_of}
use Rattle.addr4.specs.Places.{Place}
use Rattle.addr4.proofs.PrefixOrder.{by_prefix}
use Rattle.bgp_attr.specs.Attributes.{Attrs}
use Rattle.bgp_attr.specs.Routes.{Route}
use Rattle.link_change.specs.Rows.{Rows, IsNextCandidate, with_row, with_rows as rows_of}
use Rattle.link_change.specs.Changes.{Change}
use Rattle.link_change.specs.InOrder.{rows_before}
use Rattle.link_change.proofs.RowLemmas.{rows_inserted, rows_removed, empty_rows, not_first}
use Rattle.pass_core.specs.Passed.{function_at}
use Rattle.peer_out.specs.Changes.{saying, message_octets, IsReadAs, IsSentOf}
use Rattle.cache_stage.specs.Caches.{kept_after}
use Rattle.fanout_queue.specs.Queues.{Queued}
use Rattle.fanout_queue.specs.Readers.{unread_by, read_rows}
use Rattle.journal_text.specs.declared.line.Line.TheVariants as lines
use Rattle.journal_text.specs.Journals.{Journaled, with_lines}
use Rattle.out_chain.specs.Chains.{OutChained, made_by, beyond_in, walk_on, still_on, left_on, IsOutChain, OutStands, is_unread, has_out_work}
use Rattle.out_chain.specs.Steps.{sent_after, refresh_after, message_lines, IsTold, announcing, Resends, AddsLines}
use Rattle.out_chain.specs.Laws.{IsSameButRefresh, RefreshKeeps, ResendKeeps, NoneLeftWithoutRefresh, OverWithoutRowsBeyond, RefreshIsBounded}
use Rattle.out_chain.proofs.BeyondLemmas.{most_beyond, moved_fewer, next_is_beyond, no_next, nothing_beyond, rows_counted}

-- ---- a walk is on where a row lies beyond its place
by_test : (n : ℕ) (P : Bool → Type 0) → (n ≡ 0 → P true) → (0 < n → P false) → P (n == 0)
by_test n P none some = elim (n == 0) as (λ b. (n == 0) ≡ b → P b) [ true ↦ λ e. none (grind (arith, nat_tests)) | false ↦ λ e. some (grind (arith, nat_tests)) ] refl

pub is_on : (m : FinMap prefix_cmp Attrs) (place : Option AddressPrefix) → 0 < beyond_in m place → walk_on m place ≡ Some place
is_on m place more = by_test (beyond_in m place) (λ b. cond b None (Some place) ≡ Some place) (λ none. absurd (omega (arith, none, more))) (λ _. refl)

pub is_over : (m : FinMap prefix_cmp Attrs) (place : Option AddressPrefix) → beyond_in m place ≡ 0 → walk_on m place ≡ None
is_over m place none = by_test (beyond_in m place) (λ b. cond b None (Some place) ≡ None) (λ _. refl) (λ more. absurd (omega (arith, none, more)))

none_where_over : (m : FinMap prefix_cmp Attrs) (place : Option AddressPrefix) → walk_on m place ≡ None → beyond_in m place ≡ 0
none_where_over m place =
    by_test (beyond_in m place) (λ b. cond b None (Some place) ≡ None → beyond_in m place ≡ 0) (λ none _. none)
    (λ _ over. absurd (let clash : ◌≡◌ {A = Option (Option AddressPrefix)} (Some place) None = over in cc))

-- the walk as the code has it
pub walk_is_on : (m : FinMap prefix_cmp Attrs) (place : Place) (p : AddressPrefix) → IsNextCandidate (rows_of (tables.get m)) (key_of place) (Some p) → option_map key_of (Some place) ≡ walk_on m (key_of place)
walk_is_on m place p next = sym (is_on m (key_of place) (next_is_beyond m (key_of place) p next))

pub walk_is_over : (m : FinMap prefix_cmp Attrs) (place : Place) → IsNextCandidate (rows_of (tables.get m)) (key_of place) None → ◌≡◌ {A = Option (Option AddressPrefix)} None (walk_on m (key_of place))
walk_is_over m place next = sym (is_over m (key_of place) (no_next m (key_of place) next))

-- ---- what is left of it
pub left_of_walk : (m : FinMap prefix_cmp Attrs) (place : Option AddressPrefix) → left_on m (walk_on m place) ≡ beyond_in m place
left_of_walk m place = by_test (beyond_in m place) (λ b. left_on m (cond b None (Some place)) ≡ beyond_in m place) (λ none. sym none) (λ _. refl)

-- ---- the claim on a walk
abbrev IsOnWithRows : FinMap prefix_cmp Attrs → Option (Option AddressPrefix) → Type 0
IsOnWithRows m walk = ForSome walk (λ place. 0 < beyond_in m place)

pub no_walk_yet : (m : FinMap prefix_cmp Attrs) → IsOnWithRows m None
no_walk_yet m x at = absurd (let clash : ◌≡◌ {A = Option (Option AddressPrefix)} None (Some x) = at in cc)

on_with_rows : (m : FinMap prefix_cmp Attrs) (place : Option AddressPrefix) → IsOnWithRows m (walk_on m place)
on_with_rows m place =
    by_test (beyond_in m place) (λ b. IsOnWithRows m (cond b None (Some place))) (λ _. no_walk_yet m)
    (λ more x at. let same : place ≡ x = cc in subst (λ (q : Option AddressPrefix). 0 < beyond_in m q) same more)

still_with_rows : (m : FinMap prefix_cmp Attrs) (walk : Option (Option AddressPrefix)) → IsOnWithRows m (still_on m walk)
still_with_rows m None = no_walk_yet m
still_with_rows m (Some place) = on_with_rows m place

pub after_with_rows : (m : FinMap prefix_cmp Attrs) (walk : Option (Option AddressPrefix)) (sent : Option (Change Attrs)) → IsOnWithRows m walk → IsOnWithRows (sent_after m sent) (refresh_after m walk sent)
after_with_rows m walk None is = is
after_with_rows m walk (Some change) is = still_with_rows (kept_after m change.prefix change.after) walk

-- ---- the claim on what was sent
abbrev AreSayable : OutChained → FinMap prefix_cmp Attrs → Type 0
AreSayable c m = (p : AddressPrefix) → ForSome (tables.get m p) (IsSentOf c.exit.profile c.exit.external p)

nothing_sayable : (c : OutChained) → AreSayable c tables.empty
nothing_sayable c p a at = absurd (let clash : ◌≡◌ {A = Option Attrs} None (Some a) = sym (ap (λ (r : Rows Attrs). r p) empty_rows) ∙ at in cc)

row_sayable : (c : OutChained) (m : FinMap prefix_cmp Attrs) (p : AddressPrefix) (row : Option Attrs) → AreSayable c m → ForSome row (IsSentOf c.exit.profile c.exit.external p)
    → (q : AddressPrefix) → ForSome (with_row (tables.get m) p row q) (IsSentOf c.exit.profile c.exit.external q)
row_sayable c m p row were is q =
    by_prefix q p (λ b. ForSome (cond b row (tables.get m q)) (IsSentOf c.exit.profile c.exit.external q))
    (λ same. subst (λ (x : AddressPrefix). ForSome row (IsSentOf c.exit.profile c.exit.external x)) (sym same) is) (λ _. were q)

kept_sayable : (c : OutChained) (m : FinMap prefix_cmp Attrs) (p : AddressPrefix) (row : Option Attrs) → AreSayable c m → ForSome row (IsSentOf c.exit.profile c.exit.external p) → AreSayable c (kept_after m p row)
kept_sayable c m p None were is q = subst (λ (r : Rows Attrs). ForSome (r q) (IsSentOf c.exit.profile c.exit.external q)) (sym (rows_removed m p)) (row_sayable c m p None were is q)
kept_sayable c m p (Some a) were is q = subst (λ (r : Rows Attrs). ForSome (r q) (IsSentOf c.exit.profile c.exit.external q)) (sym (rows_inserted m p a)) (row_sayable c m p (Some a) were is q)

-- a change whose row after it may be said
abbrev pub MayBeSent : OutChained → Change Attrs → Type 0
MayBeSent c change = ForSome change.after (IsSentOf c.exit.profile c.exit.external change.prefix)

pub after_sayable : (c : OutChained) (m : FinMap prefix_cmp Attrs) (sent : Option (Change Attrs)) → AreSayable c m → ForSome sent (MayBeSent c) → AreSayable c (sent_after m sent)
after_sayable c m None were is = were
after_sayable c m (Some change) were is = kept_sayable c m change.prefix change.after were (is change refl)

-- a chain at whose start nothing was sent
pub nothing_sent : (c : OutChained) → c.sent ≡ tables.empty → AreSayable c c.sent
nothing_sent c is = subst (AreSayable c) (sym is) (nothing_sayable c)

-- ---- with another walk the chain is the same
module _ (old : OutChained) (walk : Option (Option AddressPrefix)) (rows : IsOnWithRows old.sent walk) where
  stands_with : (queued : Queued Route) (best : Rows Route) → OutStands old queued best → OutStands (record old { refresh = walk }) queued best
  stands_with queued best was = record {
    chain = record { kind = was.chain.kind; sender = was.chain.sender; sayable = was.chain.sayable; refresh = rows };
    live = was.live;
    leads = was.leads;
    exact = was.exact;
    heard = was.heard;
    unread = was.unread;
  }

  same_but : IsSameButRefresh old (record old { refresh = walk })
  same_but = record { is = refl; links = λ read. refl; stands = stands_with }

pub refresh_keeps : RefreshKeeps
refresh_keeps c = same_but c (walk_on c.sent None) (on_with_rows c.sent None)

pub resend_keeps : ResendKeeps
resend_keeps old new said r = subst (IsSameButRefresh old) (sym r.after) (same_but old (walk_on old.sent (Some r.prefix)) (on_with_rows old.sent (Some r.prefix)))

-- ---- how many turns are left
none_left : (m : FinMap prefix_cmp Attrs) (walk : Option (Option AddressPrefix)) → is_some walk ≡ false → left_on m walk ≡ 0
none_left m None off = refl
none_left m (Some place) off = absurd (let clash : true ≡ false = off in cc)

none_on : (m : FinMap prefix_cmp Attrs) (walk : Option (Option AddressPrefix)) → IsOnWithRows m walk → left_on m walk ≡ 0 → is_some walk ≡ false
none_on m None rows left = refl
none_on m (Some place) rows left = absurd (let more = rows place refl in omega (arith, more, left))

pub none_left_without_refresh : NoneLeftWithoutRefresh
none_left_without_refresh c is = (none_left c.sent c.refresh, none_on c.sent c.refresh is.refresh)

pub over_without_rows_beyond : OverWithoutRowsBeyond
over_without_rows_beyond rows place q over h = nothing_beyond rows place q (none_where_over rows place over) h

left_most : (m : FinMap prefix_cmp Attrs) (walk : Option (Option AddressPrefix)) → left_on m walk ≤ beyond_in m None
left_most m None = omega arith
left_most m (Some place) = most_beyond m place

nothing_unread : (c : OutChained) (queued : Queued Route) (best : Rows Route) → has_out_work c (unread_by queued c.reader) ≡ false → read_rows queued c.reader best ≡ best
nothing_unread c queued best none = by (unread_by queued c.reader) refl (not_first (is_unread (unread_by queued c.reader)) (is_some c.filter.walk) none)
  where
    by : (unread : List (Change Route)) → unread_by queued c.reader ≡ unread → is_unread unread ≡ false → read_rows queued c.reader best ≡ best
    by [] e all = ap (λ (u : List (Change Route)). rows_before u best) e
    by (change ∷ changes) e all = absurd (let clash : true ≡ false = all in cc)

pub refresh_is_bounded : RefreshIsBounded
refresh_is_bounded candidates beyond c queued best counts covers stands none =
    let most = left_most c.sent c.refresh in
    let rows = rows_counted candidates beyond counts c.sent (λ q there. candidate q (candidates q) refl there) None in
    omega (arith, most, rows)
  where
    nothing_sent_of : (q : AddressPrefix) → best q ≡ None → tables.get c.sent q ≡ None
    nothing_sent_of q at =
        ap (λ (r : Rows Attrs). r q) stands.exact ∙ ap (made_by c (function_at c.filter q) q) (ap (λ (r : Rows Route). r q) (nothing_unread c queued best none) ∙ at)

    candidate : (q : AddressPrefix) (b : Bool) → candidates q ≡ b → is_some (tables.get c.sent q) ≡ true → candidates q ≡ true
    candidate q true is there = is
    candidate q false is there = absurd (let clash : false ≡ true = sym (ap is_some (nothing_sent_of q (covers q is))) ∙ there in cc)

-- ---- a turn of the walk, as the code knows it: the chain is seen as v, and known as m
module _ (m v : OutChained) (same : v ≡ m) where
  pub again_sayable : (p : AddressPrefix) (a : Attrs) → tables.get v.sent p ≡ Some a → ForSome (tables.get m.sent p) (IsSentOf m.exit.profile m.exit.external p) → IsSentOf v.exit.profile v.exit.external p a
  again_sayable p a at sayable = subst (λ (c : OutChained). ForSome (tables.get c.sent p) (IsSentOf c.exit.profile c.exit.external p)) (sym same) sayable a at

  -- what holds of the row at a prefix
  of_row : (P : OutChained → Attrs → Type 0) (p : AddressPrefix) (a : Attrs) → tables.get v.sent p ≡ Some a → P v a → ForSome (tables.get m.sent p) (P m)
  of_row P p a at holds = subst (λ (c : OutChained). ForSome (tables.get c.sent p) (P c)) same (λ b is. let one : a ≡ b = cc in subst (P v) one holds)

  pub again_lines : (p : AddressPrefix) (a : Attrs) (n : ℕ) (octets : List ℕ) (j now : Journaled) → tables.get v.sent p ≡ Some a → n ≡ v.peer.number → octets ≡ message_octets v.exit.profile (announcing p a)
      → now ≡ with_lines j (lines.Out n octets ∷ []) → ForSome (tables.get m.sent p) (λ attrs. now ≡ with_lines j (message_lines m (Some (announcing p attrs))))
  again_lines p a n octets j now at number written pushed =
      of_row (λ c attrs. now ≡ with_lines j (message_lines c (Some (announcing p attrs)))) p a at
      (pushed ∙ ap (λ (k : ℕ). with_lines j (lines.Out k octets ∷ [])) number ∙ ap (λ (o : List ℕ). with_lines j (lines.Out v.peer.number o ∷ [])) written)

  pub again_told : (p : AddressPrefix) (a : Attrs) (octets : List ℕ) → tables.get v.sent p ≡ Some a → octets ≡ message_octets v.exit.profile (announcing p a)
      → IsReadAs v.exit.profile v.exit.external octets (saying p (Some a)) → ForSome (tables.get m.sent p) (λ attrs. IsTold m.exit (announcing p attrs))
  again_told p a octets at written reads =
      of_row (λ c attrs. IsTold c.exit (announcing p attrs)) p a at (subst (λ (o : List ℕ). IsReadAs v.exit.profile v.exit.external o (saying p (Some a))) written reads)

  module _ (walk : Option Place) (place : Place) (sees : v.refresh ≡ option_map key_of walk) (is : walk ≡ Some place) where
    on : v.refresh ≡ Some (key_of place)
    on = sees ∙ ap (option_map key_of) is

    -- a walk that is on has a next row
    pub never_over : IsOutChain m → IsNextCandidate (rows_of (tables.get v.sent)) (key_of place) None → ⊥
    never_over chain next =
        let more = (subst IsOutChain (sym same) chain).refresh (key_of place) on in
        let none = no_next v.sent (key_of place) next in
        omega (arith, more, none)

    resent_as : (p : AddressPrefix) (walked : Option (Option AddressPrefix)) (j now : Journaled) (row : Option Attrs) → tables.get v.sent p ≡ row → IsNextCandidate (rows_of (tables.get v.sent)) (key_of place) (Some p)
        → ForSome (tables.get v.sent p) (λ a. now ≡ with_lines j (message_lines v (Some (announcing p a)))) → ForSome (tables.get v.sent p) (λ a. IsTold v.exit (announcing p a))
        → walked ≡ walk_on v.sent (Some p) → AddsLines (Resends v (record v { refresh = walked })) j now
    resent_as p walked j now None at next said told walked_is = absurd (let clash : false ≡ true = sym (ap is_some at) ∙ next.1 in cc)
    resent_as p walked j now (Some a) at next said told walked_is =
        let less = moved_fewer v.sent (key_of place) p next.0 next.1 in
        let after : left_on v.sent walked ≡ beyond_in v.sent (Some p) = ap (left_on v.sent) walked_is ∙ left_of_walk v.sent (Some p) in
        let before : left_on v.sent v.refresh ≡ beyond_in v.sent (key_of place) = ap (left_on v.sent) on in (
          message_lines v (Some (announcing p a)),
          said a at,
          record {
            place = key_of place;
            on = on;
            prefix = p;
            attrs = a;
            next = next;
            row = at;
            after = ap (λ (w : Option (Option AddressPrefix)). record v { refresh = w }) walked_is;
            line = refl;
            told = told a at;
            fewer = omega (arith, less, after, before);
          },
        )

    pub resent : (p : AddressPrefix) (walked : Option (Option AddressPrefix)) (j now : Journaled) → IsNextCandidate (rows_of (tables.get v.sent)) (key_of place) (Some p)
        → ForSome (tables.get m.sent p) (λ a. now ≡ with_lines j (message_lines m (Some (announcing p a)))) → ForSome (tables.get m.sent p) (λ a. IsTold m.exit (announcing p a))
        → walked ≡ walk_on v.sent (Some p) → AddsLines (Resends m (record v { refresh = walked })) j now
    resent p walked j now next said told walked_is =
        subst (λ (c : OutChained). AddsLines (Resends c (record v { refresh = walked })) j now) same
        (resent_as p walked j now (tables.get v.sent p) refl next
        (subst (λ (c : OutChained). ForSome (tables.get c.sent p) (λ a. now ≡ with_lines j (message_lines c (Some (announcing p a))))) (sym same) said)
        (subst (λ (c : OutChained). ForSome (tables.get c.sent p) (λ a. IsTold c.exit (announcing p a))) (sym same) told) walked_is)
