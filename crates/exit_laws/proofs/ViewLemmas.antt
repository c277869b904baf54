-- What peers hear of the steps of the exits.
use Rattle.std.proofs.Common.{◌≡◌, ◌≢◌, ℕ, ◌&&◌, not, Bool, true, false, cond, nat_eq, List, [], ◌∷◌, ◌++◌, Option, Some, None, inl, inr, refl, sym, ap, subst, ◌∙◌, arith}
use Rattle.std.specs.Prelude.{map}
use Rattle.std.specs.FinMap as tables
use Rattle.std.specs.FinMap.{get-insert, get-remove}
use Rattle.std.specs.Cmp.{nat_cmp_total}
use Rattle.std.proofs.lemmas.Bool.Decides.{nat_tests}
use Rattle.addr4.specs.Prefixes.{AddressPrefix}
use Rattle.addr4.proofs.PrefixOrder.{prefixes_total, itself}
use Rattle.addr4.specs.Hosts.{is_host_prefix}
use Rattle.bgp_attr.specs.Attributes.{Attrs}
use Rattle.bgp_attr.specs.Routes.{Route}
use Rattle.bgp_attr.specs.declared.speaker.Profile.{Profile}
use Rattle.bgp_attr.specs.declared.speaker.Neighbour.{Neighbour}
use Rattle.bgp_wire.specs.declared.message.Message.TheVariants.{Update}
use Rattle.bgp_wire.specs.Grammar.{Reads}
use Rattle.bgp_wire.specs.Readable.{said_of, said_in}
use Rattle.bgp_wire.specs.Said.{Said}
use Rattle.link_change.specs.Rows.{Rows, Candidates}
use Rattle.link_change.specs.Changes.{Change}
use Rattle.link_change.proofs.RowLemmas.{same_function}
use Rattle.policy_rules.specs.Rules.{Rule}
use Rattle.pass_core.specs.Passed.{function_at}
use Rattle.filter_bank.specs.Outgoing.{Form, first_out, let_by, formed, outgoing}
use Rattle.cache_stage.specs.Caches.{kept_after}
use Rattle.fanout_queue.specs.Queues.{Queued}
use Rattle.fanout_queue.proofs.Cases.{same_number, other_number}
use Rattle.journal_text.specs.Values.{attrs_value, attrs_rows, sent_entries}
use Rattle.journal_text.specs.Lines.{Entry}
use Rattle.journal_text.specs.Lines.{Line}
use Rattle.journal_text.specs.declared.line.Line.TheVariants as lines
use Rattle.journal_text.specs.declared.link.Link.{Link}
use Rattle.journal_text.specs.declared.link.Link.TheVariants.{Outf, Adv}
use Rattle.journal_text.specs.Lines.{Value}
use Rattle.peer_out.specs.Changes.{saying, message_octets}
use Rattle.out_chain.specs.Chains.{OutChained, form_of, outf_rows, HasSent}
use Rattle.out_chain.specs.Steps.{exit_to, new_out, sending_entries, message_lines, sent_after, TurnsOut, IsTold}
use Rattle.exit_side.specs.Exits.{Exited, chain_at, with_exit, without_exit, links_by}
use Rattle.exit_side.specs.Steps.{edited_by}
use Rattle.exit_side.proofs.SwapLemmas.{by_number}
use Rattle.live_state.specs.Messages.{changes_in, changes_of}
use Rattle.live_state.specs.Lives.{Routes, with_routes, routes_after}
use Rattle.live_state.specs.Heard.{Views, HearsOctets, Hears}
use Rattle.exit_laws.specs.Views.{sent_by, views_of, AreUnheard, entry_lines}
use Rattle.exit_laws.specs.Laws.{HeardIsSent, BeginningIsHeard, EndIsHeard, TurnIsHeard, TurnIsHeardFrom, EditKeepsViews, PutKeepsViews}
use Rattle.exit_laws.proofs.HearLemmas.{hearing_joins, nothing_is_heard, changes_are_unheard, unheard_joins}

-- ---- the chains after a step
pub put_here : (j : ℕ) (c : OutChained) (queue : Queued Route) (e : Exited) → chain_at j (with_exit j c queue e) ≡ Some c
put_here j c queue e = get-insert nat_cmp_total e.chains j c j ∙ ap (λ b. cond b (Some c) (chain_at j e)) (same_number j)

pub put_other : (j k : ℕ) (c : OutChained) (queue : Queued Route) (e : Exited) → k ≢ j → chain_at k (with_exit j c queue e) ≡ chain_at k e
put_other j k c queue e differ = get-insert nat_cmp_total e.chains j c k ∙ ap (λ b. cond b (Some c) (chain_at k e)) (other_number k j differ)

pub gone_here : (j : ℕ) (queue : Queued Route) (e : Exited) → chain_at j (without_exit j queue e) ≡ None
gone_here j queue e = get-remove nat_cmp_total e.chains j j ∙ ap (λ b. cond b None (chain_at j e)) (same_number j)

pub gone_other : (j k : ℕ) (queue : Queued Route) (e : Exited) → k ≢ j → chain_at k (without_exit j queue e) ≡ chain_at k e
gone_other j k queue e differ = get-remove nat_cmp_total e.chains j k ∙ ap (λ b. cond b None (chain_at k e)) (other_number k j differ)

-- ---- and their views
pub views_put : (j : ℕ) (c : OutChained) (queue : Queued Route) (e : Exited) → views_of (with_exit j c queue e) ≡ with_routes (views_of e) j c.sent
views_put j c queue e = same_function _ _ (λ k.
    by_number k j (λ b. views_of (with_exit j c queue e) k ≡ cond b c.sent (views_of e k))
    (λ is. ap (views_of (with_exit j c queue e)) is ∙ ap sent_by (put_here j c queue e)) (λ differ. ap sent_by (put_other j k c queue e differ)))

views_gone : (j : ℕ) (queue : Queued Route) (e : Exited) → views_of (without_exit j queue e) ≡ with_routes (views_of e) j tables.empty
views_gone j queue e = same_function _ _ (λ k.
    by_number k j (λ b. views_of (without_exit j queue e) k ≡ cond b tables.empty (views_of e k))
    (λ is. ap (views_of (without_exit j queue e)) is ∙ ap sent_by (gone_here j queue e)) (λ differ. ap sent_by (gone_other j k queue e differ)))

-- to give a peer the routes that it has changes nothing
pub routes_same : (v : Views) (j : ℕ) (routes : Routes) → v j ≡ routes → with_routes v j routes ≡ v
routes_same v j routes is = same_function _ _ (λ k. by_number k j (λ b. cond b routes (v k) ≡ v k) (λ at. sym is ∙ ap v (sym at)) (λ _. refl))

-- ---- what was heard is `adv`
pub numbered : (k s : ℕ) (rows : Rows Value) → cond (nat_eq k k && nat_eq s s) (Some rows) None ≡ Some rows
numbered k s rows = ap (λ (b : Bool). cond b (Some rows) None) (let a : nat_eq k k ≡ true = grind (arith, nat_tests) in let b : nat_eq s s ≡ true = grind (arith, nat_tests) in ap (λ (x : Bool). x && nat_eq s s) a ∙ b)

pub heard_is_sent : HeardIsSent
heard_is_sent e best j c sound at =
    let own : c.peer.number ≡ j = (sound.each j c at).number in
    let rows = attrs_rows (tables.get c.sent) in
    ap (λ (o : Option OutChained). links_by e.queue best o (Adv j c.session)) at
    ∙ ap (λ (n : ℕ). cond (nat_eq j n && nat_eq c.session c.session) (Some rows) None) own ∙ numbered j c.session rows
    ∙ ap (λ (o : Option OutChained). Some (attrs_rows (tables.get (sent_by o)))) (sym at)

-- ---- a session begins and ends
pub beginning_is_heard : BeginningIsHeard
beginning_is_heard profile peers me peer session rules e e' entries begins =
    let after : views_of e' ≡ with_routes (views_of e) peer.number tables.empty = ap views_of begins.after ∙ views_put peer.number (new_out (exit_to e.profile me peer) peer session begins.reader rules) (tables.insert e.queue begins.reader []) e in
    subst (λ (es : List (Entry Value)). Hears profile peers (views_of e) (entry_lines es) (views_of e')) (sym begins.lines)
    (views_of e, refl, (views_of e, refl, (with_routes (views_of e) peer.number tables.empty, refl, after)))

pub end_is_heard : EndIsHeard
end_is_heard profile peers j e e' entries ends =
    let after : views_of e' ≡ with_routes (views_of e) j tables.empty = ap views_of ends.after ∙ views_gone j (tables.remove e.queue ends.chain.reader) e in
    subst (λ (es : List (Entry Value)). Hears profile peers (views_of e) (entry_lines es) (views_of e')) (sym ends.lines)
    (views_of e, refl, (views_of e, refl, (with_routes (views_of e) j tables.empty, refl, after)))

-- ---- rules, and changes of `best`
edited_views : (j : ℕ) (rules : List Rule) (o : Option OutChained) (e : Exited) → chain_at j e ≡ o → views_of (edited_by j rules o e) ≡ views_of e
edited_views j rules None e at = refl
edited_views j rules (Some c) e at = views_put j _ e.queue e ∙ routes_same (views_of e) j c.sent (ap sent_by at)

pub edit_keeps_views : EditKeepsViews
edit_keeps_views j rules e e' edits = ap views_of edits.after ∙ edited_views j rules (chain_at j e) e refl

pub put_keeps_views : PutKeepsViews
put_keeps_views change e e' puts = ap views_of puts.after

-- ---- a turn

-- the filter lets out nothing but prefixes of hosts
let_out_hosts : (host kept : Bool) (form : Form Attrs) (p : AddressPrefix) (later : Option Route) (a : Attrs) → formed form p (cond (not kept && host) later None) ≡ Some a → host ≡ true
let_out_hosts true kept form p later a e = refl
let_out_hosts false true form p later a e = absurd (let clash : ◌≡◌ {A = Option Attrs} None (Some a) = e in cc)
let_out_hosts false false form p later a e = absurd (let clash : ◌≡◌ {A = Option Attrs} None (Some a) = e in cc)

pub hosts_alone : (form : Form Attrs) (peer : Neighbour) (rules : Option (List Rule)) (p : AddressPrefix) (row : Option Route) (a : Attrs) → outgoing form peer rules p row ≡ Some a → is_host_prefix form.v6 p ≡ true
hosts_alone form peer rules p None a e = absurd (let clash : ◌≡◌ {A = Option Attrs} None (Some a) = e in cc)
hosts_alone form peer rules p (Some r) a e = let_out_hosts (is_host_prefix form.v6 p) _ form p (let_by rules p (first_out peer r)) a e

-- what a neighbour makes of a change that it is told
told_routes : (v6 : Bool) (routes : Routes) (p : AddressPrefix) (after : Option Attrs) → ((a : Attrs) → after ≡ Some a → is_host_prefix v6 p ≡ true) → routes_after routes (changes_in v6 (saying p after)) ≡ kept_after routes p after
told_routes v6 routes p None hosts = refl
told_routes v6 routes p (Some a) hosts = ap (λ (b : Bool). routes_after routes (map (λ (q : AddressPrefix). (q, Some a)) (cond b (p ∷ []) []))) (hosts a refl)

-- what is said of a family, an UPDATE that says it says of it
pub said_back : (v6 : Bool) (s : Said) → said_of v6 (said_in v6 s) ≡ s
said_back false s = refl
said_back true s = refl

-- what was sent at the prefix of a change, then
kept_here : (rows : Routes) (p : AddressPrefix) (a : Attrs) → tables.get (kept_after rows p (Some a)) p ≡ Some a
kept_here rows p a = get-insert prefixes_total rows p a p ∙ ap (λ (b : Bool). cond b (Some a) (tables.get rows p)) (itself p)

-- of a chain that sent a change, and what it made of the rows that its reader has then
sent_hosts : (new : OutChained) (now : Rows Route) (rows : Routes) (change : Change Attrs) → HasSent new now → new.sent ≡ sent_after rows (Some change)
    → (a : Attrs) → change.after ≡ Some a → is_host_prefix new.exit.profile.second change.prefix ≡ true
sent_hosts new now rows change exact after a is =
    let p = change.prefix in
    let there : tables.get new.sent p ≡ Some a = ap (λ (r : Routes). tables.get r p) (after ∙ ap (kept_after rows p) is) ∙ kept_here rows p a in
    let made : outf_rows new now p ≡ tables.get new.sent p = ap (λ (r : Rows Attrs). r p) (sym exact) in
    hosts_alone (form_of new.exit) new.peer (function_at new.filter p) p (now p) a (made ∙ there)

module _ (old new : OutChained) (queued left : Queued Route) (candidates : Candidates) (best : Rows Route) (sent : Option (Change Attrs)) (said : List Line) (turns : TurnsOut old new queued left candidates best sent said) where
  -- what it sent before, with the change
  pub turned_sent : new.sent ≡ sent_after old.sent sent
  turned_sent = elim turns.by as (λ _. new.sent ≡ sent_after old.sent sent) [
    | inl reads ↦ ap (λ (c : OutChained). c.sent) reads.after
    | inr walks ↦ ap (λ (c : OutChained). c.sent) walks.after
  ]

  entries_unheard : AreUnheard (entry_lines turns.entries)
  entries_unheard = elim turns.by as (λ _. AreUnheard (entry_lines turns.entries)) [
    | inl reads ↦ subst (λ (es : List (Entry Value)). AreUnheard (entry_lines es)) (sym reads.entry) (changes_are_unheard _ _ _ _)
    | inr walks ↦ subst (λ (es : List (Entry Value)). AreUnheard (entry_lines es)) (sym walks.entry) tt
  ]

sent_unheard : (link : Link) (sent : Option (Change Attrs)) → AreUnheard (entry_lines (sent_entries attrs_value link sent))
sent_unheard link None = tt
sent_unheard link (Some change) = changes_are_unheard link change.prefix _ _

sending_unheard : (c : OutChained) (sent : Option (Change Attrs)) → AreUnheard (entry_lines (sending_entries c sent))
sending_unheard c sent =
    unheard_joins (sent_entries attrs_value (Outf c.peer.number c.session) sent) (sent_entries attrs_value (Adv c.peer.number c.session) sent)
    (sent_unheard (Outf c.peer.number c.session) sent) (sent_unheard (Adv c.peer.number c.session) sent)

-- what the message of a change says to peer j
module _ (profile : Profile) (peers : ℕ → Option Neighbour) (j : ℕ) (old : OutChained) (v : Views) (number : old.peer.number ≡ j) (known : peers j ≡ Some old.peer) (same : old.exit.profile ≡ profile) (kind : old.exit.external ≡ not old.peer.internal) (is : v j ≡ old.sent) where
  pub hears_message : (sent : Option (Change Attrs)) (routes : Routes) → routes ≡ sent_after old.sent sent
      → ((change : Change Attrs) → sent ≡ Some change → IsTold old.exit change) → ((change : Change Attrs) → sent ≡ Some change → (a : Attrs) → change.after ≡ Some a → is_host_prefix profile.second change.prefix ≡ true)
      → Hears profile peers v (message_lines old sent) (with_routes v j routes)
  hears_message None routes after told hosts = routes_same v j routes (is ∙ sym after)
  hears_message (Some change) routes after told hosts =
      let octets = message_octets old.exit.profile change in
      let said = saying change.prefix change.after in
      let update = said_in profile.second said in
      let made : routes_after (v j) (changes_of profile update) ≡ routes =
      ap (λ (s : Said). routes_after (v j) (changes_in profile.second s)) (said_back profile.second said)
      ∙ told_routes profile.second (v j) change.prefix change.after (hosts change refl) ∙ ap (λ (r : Routes). kept_after r change.prefix change.after) is ∙ sym after in
      let hears : HearsOctets profile old.peer j octets v (with_routes v j routes) = record {
        update = update;
        reads = subst (λ (external : Bool). Reads profile external octets (Update update)) kind
            (subst (λ (p : Profile). Reads p old.exit.external octets (Update (said_in p.second said))) same (told change refl).reads);
        after = ap (with_routes v j) (sym made);
      } in
      subst (λ (n : ℕ). Hears profile peers v (lines.Out n octets ∷ []) (with_routes v j routes)) (sym number) (with_routes v j routes, (old.peer, known, hears), refl)

pub turn_is_heard_from : TurnIsHeardFrom
turn_is_heard_from profile peers j candidates best sent e e' said v declared turn is =
    let chain = turn.chain in
    let taken = turn.taken in
    let at : chain_at j e' ≡ Some taken = ap (chain_at j) turn.after ∙ put_here j taken e'.queue e in
    let own = turn.sound.each j taken at in
    let stands = turn.stand j taken at in
    let number : chain.peer.number ≡ j = ap (λ (w : Neighbour). w.number) (sym turn.same.peer) ∙ own.number in
    let taken_same : taken.exit.profile ≡ profile = own.profile ∙ ap (λ (x : Exited). x.profile) turn.after ∙ declared.profile in
    let same : chain.exit.profile ≡ profile = ap (λ x. x.profile) (sym turn.same.exit) ∙ taken_same in
    let kind : chain.exit.external ≡ not chain.peer.internal = ap (λ x. x.external) (sym turn.same.exit) ∙ stands.chain.kind ∙ ap (λ (w : Neighbour). not w.internal) turn.same.peer in
    let after = turned_sent chain taken e.queue e'.queue candidates best sent said turn.turns in
    let entries = turn.turns.entries ++ sending_entries chain sent in
    let quiet = nothing_is_heard profile peers v (entry_lines entries)
    (unheard_joins turn.turns.entries (sending_entries chain sent) (entries_unheard chain taken e.queue e'.queue candidates best sent said turn.turns) (sending_unheard chain sent)) in
    let message = hears_message profile peers j chain v number (declared.words j chain turn.at) same kind is sent taken.sent after turn.turns.goes.told
    (λ change sends a is_after. subst (λ (w : Profile). is_host_prefix w.second change.prefix ≡ true) taken_same (sent_hosts taken _ chain.sent change turn.turns.goes.exact (after ∙ ap (sent_after chain.sent) sends) a is_after)) in
    subst (λ (ls : List Line). Hears profile peers v ls (with_routes v j taken.sent)) (sym turn.turns.goes.lines)
    (hearing_joins profile peers v v (with_routes v j taken.sent) (entry_lines entries) (message_lines chain sent) quiet message)

pub turn_is_heard : TurnIsHeard
turn_is_heard profile peers j candidates best sent e e' said declared turn =
    let after : views_of e' ≡ with_routes (views_of e) j turn.taken.sent = ap views_of turn.after ∙ views_put j turn.taken e'.queue e in
    subst (Hears profile peers (views_of e) said) (sym after) (turn_is_heard_from profile peers j candidates best sent e e' said (views_of e) declared turn (ap sent_by turn.at))
