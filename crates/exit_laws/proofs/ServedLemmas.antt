-- What was said since a refresh, kept by each step of the exits.
use Rattle.std.proofs.Common.{◌≡◌, ◌⊎◌, ℕ, ◌==◌, Bool, true, false, cond, List, [], ◌∷◌, ◌++◌, Option, Some, None, is_some, inl, inr, refl, sym, ap, subst, ◌∙◌, arith}
use Rattle.std.specs.Prelude.{Contains}
use Rattle.std.specs.FinMap as tables
use Rattle.std.specs.FinMap.{FinMap, get-insert, get-remove}
use Rattle.std.specs.Ordering.{eq_by_cmp, ordering_reverse}
use Rattle.std.specs.declared.cmp.Ordering.{Ordering}
use Rattle.std.specs.declared.cmp.Ordering.TheVariants.{Less, Equal, Greater}
use Rattle.std.proofs.lemmas.List.Elements.{Contains-append_left, Contains-append_right}
use Rattle.addr4.specs.Prefixes.{AddressPrefix, prefix_cmp, ComesBefore}
use Rattle.addr4.specs.Places.{IsBeyond}
use Rattle.addr4.proofs.PrefixOrder.{prefixes_total, by_prefix, exact_prefixes}
use Rattle.bgp_attr.specs.Attributes.{Attrs}
use Rattle.bgp_attr.specs.Routes.{Route}
use Rattle.link_change.specs.Changes.{Change}
use Rattle.cache_stage.specs.Caches.{kept_after}
use Rattle.fanout_queue.specs.Queues.{Queued}
use Rattle.fanout_queue.proofs.Cases.{by_bool}
use Rattle.journal_text.specs.Lines.{Line}
use Rattle.journal_text.specs.declared.line.Line.TheVariants.{Out}
use Rattle.peer_out.specs.Changes.{saying, message_octets, IsReadAs}
use Rattle.peer_out.specs.Forms.{Exit}
use Rattle.out_chain.specs.Chains.{OutChained, beyond_in, walk_on, still_on, refreshed}
use Rattle.out_chain.proofs.RefreshLemmas.{over_without_rows_beyond}
use Rattle.out_chain.specs.Steps.{exit_to, new_out, with_rules, sent_after, refresh_after, announcing, message_lines, sending_entries}
use Rattle.exit_side.specs.Exits.{Exited, OutChains, chain_at, with_exit, without_exit, refreshing, refreshed_by}
use Rattle.exit_side.specs.Steps.{edited_by}
use Rattle.exit_side.proofs.SwapLemmas.{by_number}
use Rattle.exit_laws.specs.Views.{sent_by, entry_lines}
use Rattle.live_state.specs.Refreshes.{IsAnnounced}
use Rattle.exit_laws.specs.Served.{LiesAhead, IsToldAgain, IsServed, ServingBegins, ServingEnds, TurnServes, ResendServes, RefreshServes, EditServes, OthersServe, EndServes, BeginServes}
use Rattle.exit_laws.proofs.ViewLemmas.{put_here, put_other, gone_here, gone_other}

-- ---- the place of a walk
-- a row beyond the place keeps the walk on
ahead_on : (rows : FinMap prefix_cmp Attrs) (place : Option AddressPrefix) (p : AddressPrefix) (attrs : Attrs) → tables.get rows p ≡ Some attrs → IsBeyond place p → LiesAhead (walk_on rows place) p
ahead_on rows place p attrs there past = by_bool (beyond_in rows place == 0) (λ b. LiesAhead (cond b None (Some place)) p)
    (λ e. absurd (
    let over : walk_on rows place ≡ None = ap (λ (b : Bool). cond b None (Some place)) e in
    let none : tables.get rows p ≡ None = over_without_rows_beyond rows place p over past in
    let clash : Some attrs ≡ None = sym there ∙ none in cc)) (λ _. past)

still_ahead : (rows : FinMap prefix_cmp Attrs) (refresh : Option (Option AddressPrefix)) (p : AddressPrefix) (attrs : Attrs) → tables.get rows p ≡ Some attrs → LiesAhead refresh p → LiesAhead (still_on rows refresh) p
still_ahead rows None p attrs there ahead = absurd ahead
still_ahead rows (Some place) p attrs there ahead = ahead_on rows place p attrs there ahead

-- before it, at it or behind it
three_ways : (q p : AddressPrefix) → ComesBefore q p ⊎ ((q ≡ p) ⊎ ComesBefore p q)
three_ways q p = by (prefix_cmp q p) refl
  where
    by : (o : Ordering) → prefix_cmp q p ≡ o → ComesBefore q p ⊎ ((q ≡ p) ⊎ ComesBefore p q)
    by Less e = inl e
    by Equal e = inr (inl (exact_prefixes q p e))
    by Greater e = inr (inr (prefixes_total.antisymm p q ∙ ap ordering_reverse e))

same_row : (o : Option Attrs) (a b : Attrs) → o ≡ Some a → o ≡ Some b → a ≡ b
same_row o a b first second = let same : Some a ≡ Some b = sym first ∙ second in cc

-- ---- lines since, of rows that were sent and a walk
module _ (j : ℕ) (exit : Exit) where
  abbrev pub AreTold : FinMap prefix_cmp Attrs → Option (Option AddressPrefix) → List Line → Type 0
  AreTold rows refresh lines = (p : AddressPrefix) (attrs : Attrs) → tables.get rows p ≡ Some attrs → LiesAhead refresh p ⊎ IsAnnounced exit.profile exit.external j lines p attrs

  announced_on : (since said : List Line) (p : AddressPrefix) (attrs : Attrs) → IsAnnounced exit.profile exit.external j since p attrs → IsAnnounced exit.profile exit.external j (since ++ said) p attrs
  announced_on since said p attrs is = record { octets = is.octets; among = Contains-append_left since said (Out j is.octets) is.among; reads = is.reads }

  told_on : (rows : FinMap prefix_cmp Attrs) (refresh : Option (Option AddressPrefix)) (since said : List Line) → AreTold rows refresh since → AreTold rows refresh (since ++ said)
  told_on rows refresh since said told p attrs there = elim (told p attrs there) as (λ _. LiesAhead refresh p ⊎ IsAnnounced exit.profile exit.external j (since ++ said) p attrs) [
    | inl ahead ↦ inl ahead
    | inr is ↦ inr (announced_on since said p attrs is)
  ]

  -- these lines say the change to the peer
  record IsSaid (said : List Line) (change : Change Attrs) : Type 0 where
    octets : List ℕ
    among : Contains said (Out j octets)
    reads : IsReadAs exit.profile exit.external octets (saying change.prefix change.after)

  kept_get : (rows : FinMap prefix_cmp Attrs) (p : AddressPrefix) (after : Option Attrs) (q : AddressPrefix) → tables.get (kept_after rows p after) q ≡ cond (eq_by_cmp prefix_cmp q p) after (tables.get rows q)
  kept_get rows p None q = get-remove prefixes_total rows p q
  kept_get rows p (Some a) q = get-insert prefixes_total rows p a q

  said_now : (since said : List Line) (change : Change Attrs) (p : AddressPrefix) (attrs : Attrs) → IsSaid said change → change.prefix ≡ p → change.after ≡ Some attrs → IsAnnounced exit.profile exit.external j (since ++ said) p attrs
  said_now since said change p attrs is at after = record {
    octets = is.octets;
    among = Contains-append_right since said (Out j is.octets) is.among;
    reads = subst (IsReadAs exit.profile exit.external is.octets) (ap (λ (q : AddressPrefix). saying q change.after) at ∙ ap (saying p) after) is.reads;
  }

  -- a change that is sent says itself
  sent_on : (rows : FinMap prefix_cmp Attrs) (refresh : Option (Option AddressPrefix)) (since said : List Line) (sent : Option (Change Attrs)) → ((change : Change Attrs) → sent ≡ Some change → IsSaid said change)
      → AreTold rows refresh since → AreTold (sent_after rows sent) (refresh_after rows refresh sent) (since ++ said)
  sent_on rows refresh since said None each told p attrs there = told_on rows refresh since said told p attrs there
  sent_on rows refresh since said (Some change) each told p attrs there =
      let now = kept_after rows change.prefix change.after in
      by_prefix p change.prefix (λ (b : Bool). cond b change.after (tables.get rows p) ≡ Some attrs → LiesAhead (still_on now refresh) p ⊎ IsAnnounced exit.profile exit.external j (since ++ said) p attrs)
      (λ at after. inr (said_now since said change p attrs (each change refl) (sym at) after))
      (λ _ was. elim (told p attrs was) as (λ _. LiesAhead (still_on now refresh) p ⊎ IsAnnounced exit.profile exit.external j (since ++ said) p attrs) [
        | inl ahead ↦ inl (still_ahead now refresh p attrs there ahead)
        | inr is ↦ inr (announced_on since said p attrs is)
      ])
      (sym (kept_get rows change.prefix change.after p) ∙ there)

  -- the walk goes to the least row beyond its place, and says it
  walked_to : (rows : FinMap prefix_cmp Attrs) (refresh : Option (Option AddressPrefix)) (place : Option AddressPrefix) (p : AddressPrefix) (attrs : Attrs) (since said : List Line) → refresh ≡ Some place
      → ((q : AddressPrefix) → IsBeyond place q → ComesBefore q p → is_some (tables.get rows q) ≡ false) → tables.get rows p ≡ Some attrs → IsSaid said (announcing p attrs)
      → AreTold rows refresh since → AreTold rows (walk_on rows (Some p)) (since ++ said)
  walked_to rows refresh place p attrs since said on least row is told q other there =
      elim (told q other there) as (λ _. LiesAhead (walk_on rows (Some p)) q ⊎ IsAnnounced exit.profile exit.external j (since ++ said) q other) [
        | inl ahead ↦ from (subst (λ (o : Option (Option AddressPrefix)). LiesAhead o q) on ahead) (three_ways q p)
        | inr was ↦ inr (announced_on since said q other was)
      ]
    where
      from : IsBeyond place q → ComesBefore q p ⊎ ((q ≡ p) ⊎ ComesBefore p q) → LiesAhead (walk_on rows (Some p)) q ⊎ IsAnnounced exit.profile exit.external j (since ++ said) q other
      from past (inl before) = absurd (let none : is_some (tables.get rows q) ≡ false = least q past before in let clash : true ≡ false = sym (ap is_some there) ∙ none in cc)
      from past (inr (inl at)) = inr (said_now since said (announcing p attrs) q other is (sym at) (ap Some (same_row (tables.get rows q) attrs other (ap (tables.get rows) at ∙ row) there)))
      from past (inr (inr behind)) = inl (ahead_on rows (Some p) q other there behind)

-- ---- chains
-- where another chain stands for peer k, and it is told as this says
served_put : (j s k : ℕ) (new : OutChained) (queue : Queued Route) (e : Exited) (since said : List Line) → (j ≡ k → new.session ≡ s → IsToldAgain j new (since ++ said)) → IsServed j s e since
    → IsServed j s (with_exit k new queue e) (since ++ said)
served_put j s k new queue e since said own served c at session = by_number j k (λ _. IsToldAgain j c (since ++ said))
    (λ is.
    let here : chain_at j (with_exit k new queue e) ≡ Some new = ap (λ (n : ℕ). chain_at n (with_exit k new queue e)) is ∙ put_here k new queue e in
    let same : new ≡ c = (let both : Some new ≡ Some c = sym here ∙ at in cc) in
    subst (λ (x : OutChained). IsToldAgain j x (since ++ said)) same (own is (ap (λ (x : OutChained). x.session) same ∙ session)))
    (λ differ. told_on j c.exit c.sent c.refresh since said (served c (sym (put_other k j new queue e differ) ∙ at) session))

-- the chain of peer k, where this is peer j
at_peer : (j k : ℕ) (e : Exited) (c : OutChained) → j ≡ k → chain_at k e ≡ Some c → chain_at j e ≡ Some c
at_peer j k e c is at = ap (λ (n : ℕ). chain_at n e) is ∙ at

-- what a message says
said_by : (j k : ℕ) (c : OutChained) (first : List Line) (change : Change Attrs) → c.peer.number ≡ k → j ≡ k → IsReadAs c.exit.profile c.exit.external (message_octets c.exit.profile change) (saying change.prefix change.after)
    → IsSaid j c.exit (first ++ message_lines c (Some change)) change
said_by j k c first change number is told =
    let octets = message_octets c.exit.profile change in
    record {
      octets = octets;
      among = Contains-append_right first (message_lines c (Some change)) (Out j octets)
          (subst (λ (n : ℕ). Contains {X = Line} (Out n octets ∷ []) (Out j octets)) (is ∙ sym number) (0, omega arith, refl));
      reads = told;
    }

-- ---- a refresh
refreshed_told : (j : ℕ) (c : OutChained) (lines : List Line) → IsToldAgain j (refreshed c) lines
refreshed_told j c lines p attrs there = inl (ahead_on c.sent None p attrs there tt)

pub serving_begins : ServingBegins
serving_begins j s e = by_chain (chain_at j e) refl
  where
    by_chain : (o : Option OutChained) → chain_at j e ≡ o → IsServed j s (refreshed_by j o e) []
    by_chain None at c there session = absurd (let clash : None ≡ Some c = sym at ∙ there in cc)
    by_chain (Some old) at c there session =
        let same : refreshed old ≡ c = (let both : Some (refreshed old) ≡ Some c = sym (put_here j (refreshed old) e.queue e) ∙ there in cc) in
        subst (λ (x : OutChained). IsToldAgain j x []) same (refreshed_told j old [])

not_ahead : (refresh : Option (Option AddressPrefix)) (p : AddressPrefix) → is_some refresh ≡ false → LiesAhead refresh p → ⊥
not_ahead None p off ahead = ahead
not_ahead (Some place) p off ahead = let clash : true ≡ false = off in cc

pub serving_ends : ServingEnds
serving_ends j e since c at served off p attrs there =
    let over : is_some c.refresh ≡ false = ap refreshing (sym at) ∙ off in
    elim (served c at refl p attrs (ap (λ (o : Option OutChained). tables.get (sent_by o) p) (sym at) ∙ there)) as (λ _. IsAnnounced c.exit.profile c.exit.external j since p attrs) [
      | inl ahead ↦ absurd (not_ahead c.refresh p over ahead)
      | inr is ↦ is
    ]

-- ---- steps
module _ (old new : OutChained) (sent : Option (Change Attrs)) where
  turned_told : (j : ℕ) (since said : List Line) → new.exit ≡ old.exit → new.sent ≡ sent_after old.sent sent → new.refresh ≡ refresh_after old.sent old.refresh sent
      → ((change : Change Attrs) → sent ≡ Some change → IsSaid j old.exit said change) → IsToldAgain j old since → IsToldAgain j new (since ++ said)
  turned_told j since said exit rows refresh each told =
      subst (λ (x : Exit). AreTold j x new.sent new.refresh (since ++ said)) (sym exit)
      (subst (λ (r : FinMap prefix_cmp Attrs). AreTold j old.exit r new.refresh (since ++ said)) (sym rows)
      (subst (λ (w : Option (Option AddressPrefix)). AreTold j old.exit (sent_after old.sent sent) w (since ++ said)) (sym refresh) (sent_on j old.exit old.sent old.refresh since said sent each told)))

pub turn_serves : TurnServes
turn_serves k candidates best sent e e' said sound turn j s since served =
    subst (λ (x : Exited). IsServed j s x (since ++ said)) (sym turn.after)
    (served_put j s k turn.taken e'.queue e since said (λ is session.
    let chain = turn.chain in
    let turns = turn.turns in
    let number : chain.peer.number ≡ k = (sound.each k chain turn.at).number in
    let told : IsToldAgain j chain since = served chain (at_peer j k e chain is turn.at) (sym turn.same.session ∙ session) in
    turned_told chain turn.taken sent j since said turn.same.exit
    (elim turns.by as (λ _. turn.taken.sent ≡ sent_after chain.sent sent) [ inl reads ↦ ap (λ (c : OutChained). c.sent) reads.after | inr walks ↦ ap (λ (c : OutChained). c.sent) walks.after ])
    (elim turns.by as (λ _. turn.taken.refresh ≡ refresh_after chain.sent chain.refresh sent) [ inl reads ↦ ap (λ (c : OutChained). c.refresh) reads.after | inr walks ↦ ap (λ (c : OutChained). c.refresh) walks.after ])
    (λ change sends.
    let first = entry_lines (turns.entries ++ sending_entries chain sent) in
    let lines : said ≡ first ++ message_lines chain (Some change) = turns.goes.lines ∙ ap (λ (o : Option (Change Attrs)). first ++ message_lines chain o) sends in
    subst (λ (ls : List Line). IsSaid j chain.exit ls change) (sym lines) (said_by j k chain first change number is (turns.goes.told change sends)))
    told) served)

pub resend_serves : ResendServes
resend_serves k e e' said sound resends j s since served =
    subst (λ (x : Exited). IsServed j s x (since ++ said)) (sym resends.after)
    (served_put j s k resends.taken e.queue e since said (λ is session.
    let chain = resends.chain in
    let r = resends.resends in
    let number : chain.peer.number ≡ k = (sound.each k chain resends.there).number in
    let told : IsToldAgain j chain since = served chain (at_peer j k e chain is resends.there) (ap (λ (c : OutChained). c.session) (sym r.after) ∙ session) in
    subst (λ (c : OutChained). IsToldAgain j c (since ++ said)) (sym r.after)
    (walked_to j chain.exit chain.sent chain.refresh r.place r.prefix r.attrs since said r.on r.next.2 r.row
    (subst (λ (ls : List Line). IsSaid j chain.exit ls (announcing r.prefix r.attrs)) (sym r.line) (said_by j k chain [] (announcing r.prefix r.attrs) number is r.told))
    told)) served)

pub refresh_serves : RefreshServes
refresh_serves k e said j s since served = by_chain (chain_at k e) refl
  where
    by_chain : (o : Option OutChained) → chain_at k e ≡ o → IsServed j s (refreshed_by k o e) (since ++ said)
    by_chain None at c there session = told_on j c.exit c.sent c.refresh since said (served c there session)
    by_chain (Some old) at c there session = served_put j s k (refreshed old) e.queue e since said (λ is same. refreshed_told j old (since ++ said)) served c there session

pub edit_serves : EditServes
edit_serves k rules e e' said edits j s since served = subst (λ (x : Exited). IsServed j s x (since ++ said)) (sym edits.after) (by_chain (chain_at k e) refl)
  where
    by_chain : (o : Option OutChained) → chain_at k e ≡ o → IsServed j s (edited_by k rules o e) (since ++ said)
    by_chain None at c there session = told_on j c.exit c.sent c.refresh since said (served c there session)
    by_chain (Some old) at c there session = served_put j s k (with_rules rules old) e.queue e since said (λ is same. told_on j old.exit old.sent old.refresh since said (served old (at_peer j k e old is at) same)) served c there session

pub others_serve : OthersServe
others_serve e e' said same j s since served c at session = told_on j c.exit c.sent c.refresh since said (served c (ap (λ (a : OutChains). tables.get a j) (sym same) ∙ at) session)

pub end_serves : EndServes
end_serves k e e' entries said ends j s since served c at session =
    let queue : Queued Route = tables.remove e.queue ends.chain.reader in
    let there : chain_at j (without_exit k queue e) ≡ Some c = ap (chain_at j) (sym ends.after) ∙ at in
    by_number j k (λ _. IsToldAgain j c (since ++ said))
    (λ is. absurd (let gone : chain_at j (without_exit k queue e) ≡ None = ap (λ (n : ℕ). chain_at n (without_exit k queue e)) is ∙ gone_here k queue e in let clash : None ≡ Some c = sym gone ∙ there in cc))
    (λ differ. told_on j c.exit c.sent c.refresh since said (served c (sym (gone_other k j queue e differ) ∙ there) session))

pub begin_serves : BeginServes
begin_serves me peer session rules e e' entries said begins j s since other served =
    subst (λ (x : Exited). IsServed j s x (since ++ said)) (sym begins.after)
    (served_put j s peer.number (new_out (exit_to e.profile me peer) peer session begins.reader rules) (tables.insert e.queue begins.reader []) e since said (λ is same. absurd (other (sym is) same)) served)
