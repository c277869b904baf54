-- The lines of a turn can be printed: what is sent is the form of a row that can be, and its octets are octets.
use Rattle.std.proofs.Common.{◌≡◌, ◌≢◌, ℕ, ◌+◌, ◌^◌, ◌<◌, ◌≤◌, Bool, true, false, cond, nat_eq, ◌&&◌, List, [], ◌∷◌, ◌++◌, Option, Some, None, IfSome, inl, inr, refl, sym, ap, subst, ◌∙◌, append_assoc, arith}
use Rattle.std.specs.Prelude.{option_map, nat_le, All}
use Rattle.std.specs.Option.{ForSome}
use Rattle.std.specs.List.{AllByRecursion}
use Rattle.std.specs.FinMap as tables
use Rattle.addr4.specs.Prefixes.{AddressPrefix}
use Rattle.bgp_attr.specs.Paths.{times_in_front}
use Rattle.bgp_attr.specs.Attributes.{Attrs}
use Rattle.bgp_attr.specs.declared.path.Segment.{Segment}
use Rattle.bgp_attr.specs.declared.unrecognized.Unrecognized.{Unrecognized}
use Rattle.bgp_attr.specs.Routes.{Route}
use Rattle.bgp_attr.specs.declared.speaker.Profile.{Profile}
use Rattle.bgp_attr.specs.declared.speaker.Neighbour.{Neighbour}
use Rattle.bgp_wire.specs.Lengths.{announcement_length}
use Rattle.bgp_wire.specs.Paths.{width_of}
use Rattle.bgp_wire.specs.declared.message.Message.TheVariants as messages
use Rattle.bgp_wire.specs.Grammar.{Reads}
use Rattle.bgp_wire.specs.Readable.{IsReadableSegment, said_in}
use Rattle.bgp_wire.specs.Said.{Said}
use Rattle.bgp_wire.specs.Spelling.{update_octets}
use Rattle.bgp_wire.proofs.ReadableLaws.{Every, all_every}
use Rattle.wire_laws.proofs.Prepended.{prepended_is_readable}
use Rattle.link_change.specs.Rows.{Rows, Candidates, with_row}
use Rattle.link_change.specs.Changes.{Change}
use Rattle.policy_rules.specs.Rules.{Rule}
use Rattle.pass_core.specs.Passed.{function_at}
use Rattle.pass_core.specs.Turns.{passed_rows, IsSentAt}
use Rattle.filter_bank.specs.Outgoing.{Form, outgoing}
use Rattle.filter_bank.proofs.OutLemmas.{only_forms_of_rows}
use Rattle.fanout_queue.specs.Queues.{Queued}
use Rattle.fanout_queue.specs.Readers.{unread_by, read_rows}
use Rattle.journal_check.proofs.InkLemmas.{all_append, all_mapped}
use Rattle.addr4.specs.Families.{IsPrefixOf}
use Rattle.journal_text.specs.Names.{IsNamed}
use Rattle.journal_text.specs.Links.{same_link}
use Rattle.journal_text.specs.Values.{attrs_value, route_value, attrs_rows, valued_change, sent_entries}
use Rattle.journal_text.specs.Walk.{Links, no_links, HasRow, after, IsLawful, fold_links, change_entries}
use Rattle.journal_text.specs.Lines.{Entry}
use Rattle.journal_text.specs.declared.entry.Entry.TheVariants as entries
use Rattle.journal_text.specs.Lines.{Line}
use Rattle.journal_text.specs.declared.line.Line.TheVariants.{Journal}
use Rattle.journal_text.specs.declared.link.Link.{Link}
use Rattle.journal_text.specs.declared.link.Link.TheVariants.{Read, Outf, Adv, Best}
use Rattle.journal_text.specs.Lines.{Value}
use Rattle.event_text.specs.Declarations.{Declaration}
use Rattle.journal_text.specs.Texts.{sender_number}
use Rattle.journal_laws.specs.Peers.{neighbours, printing as printing_of, KeepsPeers}
use Rattle.journal_laws.specs.Printed.{Printing, IsPrintable, IsPrinted}
use Rattle.journal_laws.proofs.ReadAttrs.{read_printable}
use Rattle.journal_laws.proofs.PrintedFalls.{changes_printed}
use Rattle.journal_laws.proofs.PrintedLines.{plain_printed}
use Rattle.peer_out.specs.Forms.{Exit, sent_form}
use Rattle.peer_out.specs.Changes.{saying, message_octets}
use Rattle.out_chain.specs.Chains.{OutChained, IsOutChain, form_of, made_by, outf_rows, HasSent}
use Rattle.out_chain.specs.Steps.{exit_to, new_out, sending_entries, message_lines, said_of, sent_after, ReadsFirst, WalksNext, IsTold}
use Rattle.exit_side.specs.Exits.{Exited, chain_at, links_by, exit_links}
use Rattle.exit_side.specs.Steps.{TurnsExit, beside}
use Rattle.exit_laws.specs.Views.{entry_lines}
use Rattle.exit_laws.specs.Printable.{IsPrintableBest, AreBestRows, IsBestChange, AreBestChanges, IsPrintableSent, IsPrintableExit, ArePrintableExits}
use Rattle.exit_laws.specs.Laws.{ArePrinted, PrintsOn, BeginningIsPrinted, EndIsPrinted, TurnIsPrinted, TakeIsPrinted, PrintingStays}
use Rattle.exit_laws.proofs.OctetLemmas.{AreSmall, HasFewNumbers, CanBeSpelled, each_small, update_small}
use Rattle.exit_laws.proofs.ViewLemmas.{put_here, numbered, said_back, turned_sent}
use Rattle.exit_laws.proofs.KeptLemmas.{rows_read, taken_change, queue_taken, each_put, sent_there, sent_kept, begun_exits, ended_exits, with_unread}

-- ---- what is sent of a row is the form of a route with its attributes
pub record IsFormOfOne (exit : Exit) (row : Route) (a : Attrs) : Type 0 where
  pub route : Route
  pub is : a ≡ sent_form exit.profile exit.me exit.external route
  pub attrs : route.attrs ≡ row.attrs

module _ (exit : Exit) (p : AddressPrefix) (row : Route) (a : Attrs) where
  pub of_fitting : (r : Route) (fits : Bool) → r.attrs ≡ row.attrs → cond fits (Some (sent_form exit.profile exit.me exit.external r)) None ≡ Some a → IsFormOfOne exit row a
  of_fitting r true keeps e = record { route = r; is = let same : Some (sent_form exit.profile exit.me exit.external r) ≡ Some a = e in cc; attrs = keeps }
  of_fitting r false keeps e = absurd (let clash : ◌≡◌ {A = Option Attrs} None (Some a) = e in cc)

  is_form : (peer : Neighbour) (rules : Option (List Rule)) → outgoing (form_of exit) peer rules p (Some row) ≡ Some a → IsFormOfOne exit row a
  is_form peer rules e =
      let of = only_forms_of_rows (form_of exit) peer rules p row a e in
      of_fitting of.0 (nat_le (announcement_length exit.profile.second exit.profile.as4 p (sent_form exit.profile exit.me exit.external of.0)) 4096) of.2 of.1

-- ---- so it can be spelled
few_of : (as4 : Bool) (path : List Segment) → Every (IsReadableSegment as4) path → AllByRecursion HasFewNumbers path
few_of as4 [] each = tt
few_of as4 (s ∷ path) each = (each.0.few, few_of as4 path each.1)

few_numbers : (as4 : Bool) (path : List Segment) → All (IsReadableSegment as4) path → AllByRecursion HasFewNumbers path
few_numbers as4 path each = few_of as4 path (all_every (IsReadableSegment as4) path each)

pub sent_few : (as4 external : Bool) (n asn : ℕ) (path : List Segment) → asn < 256 ^ width_of as4 → All (IsReadableSegment as4) path → AllByRecursion HasFewNumbers (cond external (times_in_front n asn path) path)
sent_few as4 true n asn path fits each = few_numbers as4 (times_in_front n asn path) (prepended_is_readable as4 n asn path fits each)
sent_few as4 false n asn path fits each = few_numbers as4 path each

can_be_spelled : (profile : Profile) (printing : Printing) (exit : Exit) (p : AddressPrefix) (row : Route) (a : Attrs) → exit.me.asn < 256 ^ width_of profile.as4 → IsPrintableBest profile printing p row → IsFormOfOne exit row a → CanBeSpelled a
can_be_spelled profile printing exit p row a fits best form =
    let r = form.route in
    let few = sent_few profile.as4 exit.external (1 + r.prepend) exit.me.asn r.attrs.path fits (subst (λ x. All (IsReadableSegment profile.as4) x.path) (sym form.attrs) best.heard.path) in
    subst CanBeSpelled (sym form.is) (record { path = few; unrecognized = subst (λ x. AllByRecursion (λ (u : Unrecognized). (u.kind < 2 ^ 8) × AreSmall u.value) x.unrecognized) (sym form.attrs) best.printed.well_told.ranges.attrs.unrecognized })

-- the octets of a change
pub octets_small : (v6 as4 : Bool) (p : AddressPrefix) (after : Option Attrs) → p.length ≤ 128 → ForSome after CanBeSpelled → AreSmall (update_octets v6 as4 (saying p after))
octets_small v6 as4 p None short can = update_small v6 as4 (saying p None) (omega (arith, short), tt) tt (λ a e. absurd (let clash : ◌≡◌ {A = Option Attrs} None (Some a) = e in cc))
octets_small v6 as4 p (Some a) short can = update_small v6 as4 (saying p (Some a)) tt (omega (arith, short), tt) can

-- ---- lines
module _ (printing : Printing) where
  pub entries_printed : (es : List (Entry Value)) → AllByRecursion (λ e. IsPrinted printing (Journal e)) es → ArePrinted printing (entry_lines es)
  entries_printed [] all = tt
  entries_printed (e ∷ es) all = (all.0, entries_printed es all.1)

  route_if : (profile : Profile) (p : AddressPrefix) (o : Option Route) → ForSome o (IsPrintableBest profile printing p) → IfSome (option_map route_value o) (IsPrintable printing)
  route_if profile p None each = tt
  route_if profile p (Some r) each = (each r refl).printed

  attrs_if : (p : AddressPrefix) (o : Option Attrs) → ForSome o (IsPrintableSent printing p) → IfSome (option_map attrs_value o) (IsPrintable printing)
  attrs_if p None each = tt
  attrs_if p (Some a) each = (each a refl).printed

  -- the entry of a change of `best`, on any link
  best_printed : (profile : Profile) (link : Link) (change : Change Route) → IsNamed link → IsBestChange profile printing change → AllByRecursion (λ e. IsPrinted printing (Journal e)) (valued_change route_value link change)
  best_printed profile link change named is =
      changes_printed printing link change.prefix (option_map route_value change.before) (option_map route_value change.after) named is.prefix
      (route_if profile change.prefix change.before is.before) (route_if profile change.prefix change.after is.after)

  -- what is known of a change that is sent
  pub record IsSayable (change : Change Attrs) : Type 0 where
    pub prefix : IsPrefixOf printing.v6 change.prefix
    pub before : ForSome change.before (IsPrintableSent printing change.prefix)
    pub after : ForSome change.after (IsPrintableSent printing change.prefix)
    pub octets : (v6 as4 : Bool) → AreSmall (update_octets v6 as4 (saying change.prefix change.after))

  sent_printed : (link : Link) (sent : Option (Change Attrs)) → IsNamed link → ((change : Change Attrs) → sent ≡ Some change → IsSayable change)
      → AllByRecursion (λ e. IsPrinted printing (Journal e)) (sent_entries attrs_value link sent)
  sent_printed link None named each = tt
  sent_printed link (Some change) named each =
      let is = each change refl in
      changes_printed printing link change.prefix (option_map attrs_value change.before) (option_map attrs_value change.after) named is.prefix
      (attrs_if change.prefix change.before is.before) (attrs_if change.prefix change.after is.after)

  pub message_printed : (c : OutChained) (sent : Option (Change Attrs)) → c.peer.number < 2 ^ 32 → ForSome sent (IsTold c.exit) → ((change : Change Attrs) → sent ≡ Some change → IsSayable change)
      → ArePrinted printing (message_lines c sent)
  message_printed c None small told each = tt
  message_printed c (Some change) small told each =
      (record { short = record { ranges = (small, (each change refl).octets c.exit.profile.second c.exit.profile.as4); values = tt; octets = (told change refl).reads.1.frame.top }; told = tt }, tt)

-- ---- a turn
-- what the change that a turn sends came from
record SendsFrom (old : OutChained) (change : Change Attrs) : Type 0 where
  was : ForSome change.before (λ a. tables.get old.sent change.prefix ≡ Some a)
  differs : change.after ≢ change.before

module _ (old new : OutChained) (queued left : Queued Route) (candidates : Candidates) (best : Rows Route) (entries : List (Entry Value)) (change : Change Attrs) where
  by_read : ReadsFirst old new queued left best entries (Some change) → change.after ≢ change.before
  by_read reads = reads.filters.1.1

  by_walk : WalksNext old new queued left candidates best entries (Some change) → change.after ≢ change.before
  by_walk walks = at_next walks.walks.next walks.walks.changes
    where
      at_next : (next : Option AddressPrefix) → IsSentAt next (passed_rows (made_by old) old.filter best) (passed_rows (made_by old) new.filter best) (Some change) → change.after ≢ change.before
      at_next None is = absurd (let clash : ◌≡◌ {A = Option (Change Attrs)} (Some change) None = is.0 in cc)
      at_next (Some p) is = is.1.1

-- the entries of a lawful walk are one from where those before them led
lawful_rest : (links : Links Value) (xs ys : List (Entry Value)) → IsLawful links (xs ++ ys) → IsLawful (fold_links links xs) ys
lawful_rest links [] ys lawful = lawful
lawful_rest links (x ∷ xs) ys lawful = lawful_rest (after links x) xs ys lawful.1

fold_both : (links : Links Value) (xs ys : List (Entry Value)) → fold_links links (xs ++ ys) ≡ fold_links (fold_links links xs) ys
fold_both links [] ys = refl
fold_both links (x ∷ xs) ys = fold_both (after links x) xs ys

-- changes on another link leave the rows of one
others_stay : (links : Links Value) (link other : Link) (p : AddressPrefix) (before then : Option Value) → same_link link other ≡ false → fold_links links (change_entries other p before then) link ≡ links link
others_stay links link other p None None apart = refl
others_stay links link other p None (Some new) apart = ap (λ (b : Bool). cond b (option_map (λ rows. with_row rows p (Some new)) (links other)) (links link)) apart
others_stay links link other p (Some old) None apart = ap (λ (b : Bool). cond b (option_map (λ rows. with_row rows p None) (links other)) (links link)) apart
others_stay links link other p (Some old) (Some new) apart = ap (λ (b : Bool). cond b (option_map (λ rows. with_row rows p (Some new)) (links other)) (links link)) apart

-- what a lawful change takes away stood there
row_is : (links : Links Value) (link : Link) (rows : Rows Value) (p : AddressPrefix) (old : Value) → links link ≡ Some rows → HasRow links link p (Some old) → rows p ≡ Some old
row_is links link rows p old is has = let same : rows ≡ has.0 = (let e : Some rows ≡ Some has.0 = sym is ∙ has.1 in cc) in ap (λ (r : Rows Value). r p) same ∙ has.2

stood : (links : Links Value) (link : Link) (rows : Rows Value) (p : AddressPrefix) (old : Value) (then : Option Value) → links link ≡ Some rows → IsLawful links (change_entries link p (Some old) then) → rows p ≡ Some old
stood links link rows p old None is lawful = row_is links link rows p old is lawful.0
stood links link rows p old (Some new) is lawful = row_is links link rows p old is lawful.0.0

value_back : (o : Option Attrs) (a : Attrs) → option_map attrs_value o ≡ Some (attrs_value a) → o ≡ Some a
value_back None a e = absurd (let clash : ◌≡◌ {A = Option Value} None (Some (attrs_value a)) = e in cc)
value_back (Some b) a e = cc

-- so what a lawful change of `adv.J.S` takes away had been sent, where the entries before it are changes of other links
module _ (links : Links Value) (rows : Rows Attrs) (n t : ℕ) (is : links (Adv n t) ≡ Some (attrs_rows rows)) where
  was_sent : (first : List (Entry Value)) (change : Change Attrs) → fold_links links first (Adv n t) ≡ links (Adv n t) → IsLawful links (first ++ valued_change attrs_value (Adv n t) change)
      → ForSome change.before (λ a. rows change.prefix ≡ Some a)
  was_sent first change stays lawful a before =
      let own = lawful_rest links first (valued_change attrs_value (Adv n t) change) lawful in
      let there = subst (λ (o : Option Attrs). IsLawful (fold_links links first) (change_entries (Adv n t) change.prefix (option_map attrs_value o) (option_map attrs_value change.after))) before own in
      value_back (rows change.prefix) a (stood (fold_links links first) (Adv n t) (attrs_rows rows) change.prefix (attrs_value a) (option_map attrs_value change.after) (stays ∙ is) there)

prefix_of_one : (v6 : Bool) (p : AddressPrefix) (before after : Option Attrs) → after ≢ before → ((b : Attrs) → before ≡ Some b → IsPrefixOf v6 p) → ((a : Attrs) → after ≡ Some a → IsPrefixOf v6 p) → IsPrefixOf v6 p
prefix_of_one v6 p None None differs was is = absurd (differs refl)
prefix_of_one v6 p (Some b) after differs was is = was b refl
prefix_of_one v6 p None (Some a) differs was is = is a refl

row_there : (form : Form Attrs) (peer : Neighbour) (rules : Option (List Rule)) (p : AddressPrefix) (o : Option Route) (a : Attrs) → outgoing form peer rules p o ≡ Some a → (row : Route) × (o ≡ Some row) × (outgoing form peer rules p (Some row) ≡ Some a)
row_there form peer rules p None a e = absurd (let clash : ◌≡◌ {A = Option Attrs} None (Some a) = e in cc)
row_there form peer rules p (Some row) a e = (row, refl, e)

-- the change that a turn sends can be said and printed
module _ (profile : Profile) (printing : Printing) (old new : OutChained) (now : Rows Route) (rows : AreBestRows profile printing now) (exact : HasSent new now) (chain : IsOutChain new) (written : new.exit.profile ≡ profile) (family : old.exit.profile.second ≡ printing.v6) where
  fits : new.exit.me.asn < 256 ^ width_of profile.as4
  fits = subst (λ (p : Profile). new.exit.me.asn < 256 ^ width_of p.as4) written chain.sender.asn

  module _ (change : Change Attrs) (told : IsTold old.exit change) (at : tables.get new.sent change.prefix ≡ change.after) where
    from_row : (a : Attrs) → change.after ≡ Some a → IsPrefixOf printing.v6 change.prefix × CanBeSpelled a
    from_row a is =
        let p = change.prefix in
        let made : outf_rows new now p ≡ Some a = ap (λ (r : Rows Attrs). r p) (sym exact) ∙ at ∙ is in
        let row = row_there (form_of new.exit) new.peer (function_at new.filter p) p (now p) a made in
        let own = rows p row.0 row.1 in
        (own.prefix, can_be_spelled profile printing new.exit p row.0 a fits own (is_form new.exit p row.0 a new.peer (function_at new.filter p) row.2))

    after_printed : (a : Attrs) → change.after ≡ Some a → IsPrintableSent printing change.prefix a
    after_printed a is =
        let own = from_row a is in
        let octets = octets_small old.exit.profile.second old.exit.profile.as4 change.prefix change.after own.0.masked.0 (λ b b_is. subst CanBeSpelled (let e : Some a ≡ Some b = sym is ∙ b_is in let same : a ≡ b = cc in same) own.1) in
        let reads : Reads old.exit.profile old.exit.external (message_octets old.exit.profile change) (messages.Update (said_in printing.v6 (saying change.prefix change.after))) =
        subst (λ (v6 : Bool). Reads old.exit.profile old.exit.external (message_octets old.exit.profile change) (messages.Update (said_in v6 (saying change.prefix change.after)))) family told.reads in
        record {
          prefix = own.0;
          printed = read_printable printing old.exit.profile old.exit.external (message_octets old.exit.profile change) (said_in printing.v6 (saying change.prefix change.after)) a (each_small (message_octets old.exit.profile change) octets) reads
              (ap (λ (s : Said). s.attrs) (said_back printing.v6 (saying change.prefix change.after)) ∙ said change.after is);
        }
      where
        said : (o : Option Attrs) → o ≡ Some a → (saying change.prefix o).attrs ≡ Some a
        said None e = e
        said (Some b) e = e

    sayable : SendsFrom old change → ((p : AddressPrefix) → ForSome (tables.get old.sent p) (IsPrintableSent printing p)) → IsSayable printing change
    sayable from was =
        let before : ForSome change.before (IsPrintableSent printing change.prefix) = λ b is. was change.prefix b (from.was b is) in
        let prefix : IsPrefixOf printing.v6 change.prefix = prefix_of_one printing.v6 change.prefix change.before change.after from.differs (λ b is. (before b is).prefix) (λ a is. (from_row a is).0) in
        record { prefix = prefix; before = before; after = after_printed; octets = λ v6 as4. octets_small v6 as4 change.prefix change.after prefix.masked.0 (λ a is. (from_row a is).1) }

-- ---- the steps
module _ (profile : Profile) (printing : Printing) (j : ℕ) (candidates : Candidates) (best : Rows Route) (sent : Option (Change Attrs)) (e e' : Exited) (said : List Line)
    (is_profile : e.profile ≡ profile) (rows : AreBestRows profile printing best) (are : ArePrintableExits profile printing e) (turn : TurnsExit j candidates best sent e e' said) where
  abbrev now : Rows Route
  now = read_rows e'.queue turn.chain.reader best

  at : chain_at j e' ≡ Some turn.taken
  at = ap (chain_at j) turn.after ∙ put_here j turn.taken e'.queue e

  number : turn.chain.peer.number ≡ j
  number = ap (λ (w : Neighbour). w.number) (sym turn.same.peer) ∙ (turn.sound.each j turn.taken at).number

  written : turn.taken.exit.profile ≡ profile
  written = (turn.sound.each j turn.taken at).profile ∙ ap (λ (x : Exited). x.profile) turn.after ∙ is_profile

  own : IsPrintableExit printing j turn.chain
  own = are.each j turn.chain turn.at

  names : IsNamed (Adv turn.chain.peer.number turn.chain.session)
  names = subst (λ (n : ℕ). IsNamed (Adv n turn.chain.session)) (sym number) own.named

  queue : AreBestChanges profile printing e'.queue
  queue = elim turn.turns.by as (λ _. AreBestChanges profile printing e'.queue) [
    | inl reads ↦ queue_taken profile printing e.queue e'.queue turn.chain.reader (Some reads.change) are.unread reads.takes
    | inr walks ↦ queue_taken profile printing e.queue e'.queue turn.chain.reader None are.unread walks.takes
  ]

  entries_are : AllByRecursion (λ x. IsPrinted printing (Journal x)) turn.turns.entries
  entries_are = elim turn.turns.by as (λ _. AllByRecursion (λ x. IsPrinted printing (Journal x)) turn.turns.entries) [
    | inl reads ↦ subst (λ (es : List (Entry Value)). AllByRecursion (λ x. IsPrinted printing (Journal x)) es) (sym reads.entry)
        (best_printed printing profile (Read turn.chain.peer.number turn.chain.session) reads.change names (taken_change profile printing e.queue e'.queue turn.chain.reader reads.change are.unread reads.takes))
    | inr walks ↦ subst (λ (es : List (Entry Value)). AllByRecursion (λ x. IsPrinted printing (Journal x)) es) (sym walks.entry) tt
  ]

  kept : turn.taken.sent ≡ sent_after turn.chain.sent sent
  kept = turned_sent turn.chain turn.taken e.queue e'.queue candidates best sent said turn.turns

  -- the links before the turn
  abbrev links : Links Value
  links = beside no_links (exit_links e best)

  adv_is : links (Adv turn.chain.peer.number turn.chain.session) ≡ Some (attrs_rows (tables.get turn.chain.sent))
  adv_is =
      subst (λ (n : ℕ). exit_links e best (Adv n turn.chain.session) ≡ Some (attrs_rows (tables.get turn.chain.sent))) (sym number)
      (ap (λ (o : Option OutChained). links_by e.queue best o (Adv j turn.chain.session)) turn.at
      ∙ ap (λ (n : ℕ). cond (nat_eq j n && nat_eq turn.chain.session turn.chain.session) (Some (attrs_rows (tables.get turn.chain.sent))) None) number
      ∙ numbered j turn.chain.session (attrs_rows (tables.get turn.chain.sent)))

  read_stays : fold_links links turn.turns.entries (Adv turn.chain.peer.number turn.chain.session) ≡ links (Adv turn.chain.peer.number turn.chain.session)
  read_stays = elim turn.turns.by as (λ _. fold_links links turn.turns.entries (Adv turn.chain.peer.number turn.chain.session) ≡ links (Adv turn.chain.peer.number turn.chain.session)) [
    | inl reads ↦ ap (λ (es : List (Entry Value)). fold_links links es (Adv turn.chain.peer.number turn.chain.session)) reads.entry
        ∙ others_stay links (Adv turn.chain.peer.number turn.chain.session) (Read turn.chain.peer.number turn.chain.session) reads.change.prefix (option_map route_value reads.change.before) (option_map route_value reads.change.after) refl
    | inr walks ↦ ap (λ (es : List (Entry Value)). fold_links links es (Adv turn.chain.peer.number turn.chain.session)) walks.entry
  ]

  first_stays : (change : Change Attrs)
      → fold_links links (turn.turns.entries ++ valued_change attrs_value (Outf turn.chain.peer.number turn.chain.session) change) (Adv turn.chain.peer.number turn.chain.session) ≡ links (Adv turn.chain.peer.number turn.chain.session)
  first_stays change =
      ap (λ (l : Links Value). l (Adv turn.chain.peer.number turn.chain.session)) (fold_both links turn.turns.entries (valued_change attrs_value (Outf turn.chain.peer.number turn.chain.session) change))
      ∙ others_stay (fold_links links turn.turns.entries) (Adv turn.chain.peer.number turn.chain.session) (Outf turn.chain.peer.number turn.chain.session) change.prefix (option_map attrs_value change.before) (option_map attrs_value change.after) refl
      ∙ read_stays

  each_sayable : (change : Change Attrs) → sent ≡ Some change → IsSayable printing change
  each_sayable change is =
      sayable profile printing turn.chain turn.taken now (rows_read profile printing _ best (queue turn.chain.reader) rows) turn.turns.goes.exact (turn.stand j turn.taken at).chain written (ap (λ (w : Profile). w.second) (ap (λ (x : Exit). x.profile) (sym turn.same.exit) ∙ written) ∙ are.family) change
      (turn.turns.goes.told change is)
      (ap (λ r. tables.get r change.prefix) (kept ∙ ap (sent_after turn.chain.sent) is) ∙ sent_there profile printing turn.chain.sent change)
      (from is) own.sent
    where
      differs : sent ≡ Some change → change.after ≢ change.before
      differs is = elim turn.turns.by as (λ _. change.after ≢ change.before) [
        | inl reads ↦ by_read turn.chain turn.taken e.queue e'.queue candidates best turn.turns.entries change (subst (ReadsFirst turn.chain turn.taken e.queue e'.queue best turn.turns.entries) is reads)
        | inr walks ↦ by_walk turn.chain turn.taken e.queue e'.queue candidates best turn.turns.entries change (subst (WalksNext turn.chain turn.taken e.queue e'.queue candidates best turn.turns.entries) is walks)
      ]

      was : sent ≡ Some change → ForSome change.before (λ a. tables.get turn.chain.sent change.prefix ≡ Some a)
      was is =
          let first = turn.turns.entries ++ valued_change attrs_value (Outf turn.chain.peer.number turn.chain.session) change in
          let lawful : IsLawful links ((turn.turns.entries ++ sending_entries turn.chain (Some change))) = subst (λ (o : Option (Change Attrs)). IsLawful links (turn.turns.entries ++ sending_entries turn.chain o)) is (turn.leads no_links).lawful in
          was_sent links (tables.get turn.chain.sent) turn.chain.peer.number turn.chain.session adv_is first change (first_stays change)
          (subst (λ (es : List (Entry Value)). IsLawful links es) (sym (append_assoc turn.turns.entries (valued_change attrs_value (Outf turn.chain.peer.number turn.chain.session) change) (valued_change attrs_value (Adv turn.chain.peer.number turn.chain.session) change))) lawful)

      from : sent ≡ Some change → SendsFrom turn.chain change
      from is = record { was = was is; differs = differs is }

  lines_are : ArePrinted printing (said_of turn.chain turn.turns.entries sent)
  lines_are =
      let c = turn.chain in
      let outf = sent_entries attrs_value (Outf c.peer.number c.session) sent in
      let adv = sent_entries attrs_value (Adv c.peer.number c.session) sent in
      let all : AllByRecursion (λ x. IsPrinted printing (Journal x)) (turn.turns.entries ++ (outf ++ adv)) =
      all_append (λ x. IsPrinted printing (Journal x)) turn.turns.entries (outf ++ adv) entries_are
      (all_append (λ x. IsPrinted printing (Journal x)) outf adv (sent_printed printing (Outf c.peer.number c.session) sent names each_sayable) (sent_printed printing (Adv c.peer.number c.session) sent names each_sayable)) in
      all_append (IsPrinted printing) (entry_lines (turn.turns.entries ++ (outf ++ adv))) (message_lines c sent) (entries_printed printing (turn.turns.entries ++ (outf ++ adv)) all)
      (message_printed printing c sent names.0.1 turn.turns.goes.told each_sayable)

  chain_is : IsPrintableExit printing j turn.taken
  chain_is = record {
    named = subst (λ (s : ℕ). IsNamed (Adv j s)) (sym turn.same.session) own.named;
    sent = subst (λ r. (p : AddressPrefix) → ForSome (tables.get r p) (IsPrintableSent printing p)) (sym kept) (sent_kept profile printing turn.chain.sent sent own.sent (λ change is. (each_sayable change is).after));
  }

  turn_prints : PrintsOn profile printing e' said
  turn_prints = record {
    lines = subst (ArePrinted printing) (sym turn.turns.goes.lines) lines_are;
    exits = subst (ArePrintableExits profile printing) (sym turn.after) (record { family = are.family; unread = queue; each = each_put profile printing j turn.taken e'.queue e chain_is are.each });
  }

pub turn_is_printed : TurnIsPrinted
turn_is_printed profile printing j candidates best sent e e' said is_profile rows are turn = turn_prints profile printing j candidates best sent e e' said is_profile rows are turn

plain_entry : (printing : Printing) (link : Link) → IsNamed link → IsPrinted printing (Journal (entries.Begin link)) × IsPrinted printing (Journal (entries.End link))
plain_entry printing link named = (plain_printed printing (Journal (entries.Begin link)) refl refl named, plain_printed printing (Journal (entries.End link)) refl refl named)

pub beginning_is_printed : BeginningIsPrinted
beginning_is_printed profile printing me peer session rules e e' es named are begins = record {
  lines = subst (λ (xs : List (Entry Value)). ArePrinted printing (entry_lines xs)) (sym begins.lines) (
    plain_printed printing (Journal (entries.Inherit (Read peer.number session) Best)) refl refl (named, tt),
    ((plain_entry printing (Outf peer.number session) named).0, ((plain_entry printing (Adv peer.number session) named).0, tt)),
  );
  exits = subst (ArePrintableExits profile printing) (sym begins.after) (begun_exits profile printing peer.number begins.reader (new_out (exit_to e.profile me peer) peer session begins.reader rules) e refl named are);
}

pub end_is_printed : EndIsPrinted
end_is_printed profile printing j e e' es are ends =
    let named = (are.each j ends.chain ends.at).named in
    record {
      lines = subst (λ (xs : List (Entry Value)). ArePrinted printing (entry_lines xs)) (sym ends.lines) (
        (plain_entry printing (Read j ends.chain.session) named).1,
        ((plain_entry printing (Outf j ends.chain.session) named).1, ((plain_entry printing (Adv j ends.chain.session) named).1, tt)),
      );
      exits = subst (ArePrintableExits profile printing) (sym ends.after) (ended_exits profile printing j ends.chain.reader e are);
    }

pub take_is_printed : TakeIsPrinted
take_is_printed profile printing link reader change e queue named are takes = record {
  lines = entries_printed printing (valued_change route_value link change) (best_printed printing profile link change named (taken_change profile printing e.queue queue reader change are.unread takes));
  exits = with_unread profile printing queue e (queue_taken profile printing e.queue queue reader (Some change) are.unread takes) are;
}

-- ---- more peers
module _ (profile : Profile) (before now : Declaration) (keeps : KeepsPeers before now) where
  -- the lines of the same network, where these are its peers now
  abbrev pub with_peers : Bool → Printing
  with_peers v6 = record { v6 = v6; peers = neighbours now }

  from_stays : (from : Option Neighbour) → from ≡ neighbours before (sender_number from) → from ≡ neighbours now (sender_number from)
  from_stays None is = sym keeps.nobody
  from_stays (Some w) is = sym (keeps.words w.number w (sym is))

  best_stays : (p : AddressPrefix) (row : Route) → IsPrintableBest profile (printing_of before) p row → IsPrintableBest profile (with_peers before.v6) p row
  best_stays p row is = record {
    prefix = is.prefix;
    heard = is.heard;
    own = is.own;
    printed = record { well_told = record { ranges = is.printed.well_told.ranges; told = (is.printed.well_told.told.0, from_stays row.from is.printed.well_told.told.1) }; short = is.printed.short };
  }

  change_stays : (change : Change Route) → IsBestChange profile (printing_of before) change → IsBestChange profile (with_peers before.v6) change
  change_stays change is = record {
    prefix = is.prefix;
    before = λ r there. best_stays change.prefix r (is.before r there);
    after = λ r there. best_stays change.prefix r (is.after r there);
  }

  sent_stays : (p : AddressPrefix) (a : Attrs) → IsPrintableSent (printing_of before) p a → IsPrintableSent (with_peers before.v6) p a
  sent_stays p a is = record { prefix = is.prefix; printed = record { well_told = record { ranges = is.printed.well_told.ranges; told = is.printed.well_told.told }; short = is.printed.short } }

  exits_stay : (e : Exited) → ArePrintableExits profile (printing_of before) e → ArePrintableExits profile (with_peers before.v6) e
  exits_stay e are = record {
    family = are.family;
    unread = λ reader. all_mapped (IsBestChange profile (printing_of before)) (IsBestChange profile (with_peers before.v6)) change_stays (unread_by e.queue reader) (are.unread reader);
    each = λ j c at. record { named = (are.each j c at).named; sent = λ p a is. sent_stays p a ((are.each j c at).sent p a is) };
  }

pub printing_stays : PrintingStays
printing_stays profile before now e keeps are =
    subst (λ (v6 : Bool). ArePrintableExits profile (with_peers profile before now keeps v6) e) (sym keeps.family) (exits_stay profile before now keeps e are)
