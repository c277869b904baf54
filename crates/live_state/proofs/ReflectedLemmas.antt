-- What a peer gets of the best route: whose route it is, and who is named on it.
use Rattle.std.proofs.Common.{◌≡◌, ℕ, zero, suc, ◌+◌, ◌<◌, ◌==◌, ◌&&◌, ◌||◌, not, length, slice_index_or, Bool, true, false, cond, List, [], ◌∷◌, Option, Some, None, refl, sym, ap, subst, ◌∙◌, arith}
use Rattle.std.specs.Prelude.{filter_map, option_map}
use Rattle.std.specs.List.{cons_option, range_with_len}
use Rattle.std.specs.FinMap as tables
use Rattle.addr4.specs.Prefixes.{AddressPrefix}
use Rattle.bgp_attr.specs.Attributes.{Attrs}
use Rattle.bgp_attr.specs.Routes.{Route}
use Rattle.bgp_attr.specs.Speakers.{Speaker}
use Rattle.bgp_attr.specs.declared.speaker.Profile.{Profile}
use Rattle.bgp_attr.specs.declared.speaker.Neighbour.{Neighbour}
use Rattle.bgp_attr.specs.Paths.{times_in_front}
use Rattle.bgp_attr.specs.Reflections.{Reflected, not_reflected, reflected_by, has_been_at}
use Rattle.best_path.specs.Laws.{PickIsOneOfThem}
use Rattle.rib_route.specs.declared.Proto.{Proto}
use Rattle.rib_route.specs.Rows.{Interior}
use Rattle.redist.specs.Local.{local_route}
use Rattle.link_change.specs.Rows.{Rows}
use Rattle.policy_rules.specs.Rules.{Rule}
use Rattle.policy_rules.specs.Verdicts.{has_as, judged_by}
use Rattle.filter_bank.specs.Filtered.{filtered, first_route}
use Rattle.filter_bank.specs.Outgoing.{Form, is_reflected, outgoing}
use Rattle.filter_bank.specs.Laws.{FilteredKeepsAttrs}
use Rattle.filter_bank.specs.OutLaws.{OnlyWhatMayGo, OnlyFormsOfRows, MayGo}
use Rattle.peer_out.specs.Forms.{reflected_from, sent_form}
use Rattle.journal_text.specs.declared.link.Link.TheVariants.{Int, Red}
use Rattle.event_text.specs.declared.declared.DeclaredPeer.{DeclaredPeer}
use Rattle.event_text.specs.Declarations.{peer_at, to_peers, AreDeclared, IsDeclaredBy}
use Rattle.event_text.proofs.DeclarationLemmas.{found_peer}
use Rattle.live_state.specs.Lives.{LiveState}
use Rattle.live_state.specs.Decided.{sent_to, longest_match, with_metric_of, resolved_row, resolved_rows, own_row, own_rows, rows_if_any, routes_of_all, judged_rows, accepted_rows, least_rows, origins, candidates_of, best_of}
use Rattle.live_state.specs.Reflected.{IsReceivedFrom, stays_inside, IsPassedTo, IsBestAsSent, ReflectionIsMarked}

-- no row is a row
none_is : {A : Type 0} {x : A} → ◌≡◌ {A = Option A} None (Some x) → ⊥
none_is e = cc

-- ---- the candidates
-- what some number has is one of those that were collected
some_number : (rows : ℕ → Option Route) (numbers : List ℕ) (row : Route) (i : ℕ) → i < length (filter_map rows numbers) → slice_index_or (filter_map rows numbers) i row ≡ row → (k : ℕ) × (rows k ≡ Some row)
some_number rows [] row i below at = absurd (omega (arith, below))
some_number rows (k ∷ numbers) row i below at = by_first (rows k) refl i below at (some_number rows numbers row)
  where
    by_first : (first : Option Route) → rows k ≡ first → (i : ℕ) → i < length (cons_option first (filter_map rows numbers)) → slice_index_or (cons_option first (filter_map rows numbers)) i row ≡ row → ((j : ℕ) → j < length (filter_map rows numbers) → slice_index_or (filter_map rows numbers) j row ≡ row → (k : ℕ) × (rows k ≡ Some row)) → (k : ℕ) × (rows k ≡ Some row)
    by_first None is i below at later = later i below at
    by_first (Some r) is zero below at later = (k, is ∙ ap Some at)
    by_first (Some r) is (suc i) below at later = later i (omega (arith, below)) at

-- ---- this speaker's own routes
own_by : (me : Speaker) (on : Bool) (row : Route) → cond on (Some (local_route me)) None ≡ Some row → row.from ≡ None
own_by me true row e = let same : local_route me ≡ row = cc in ap (λ (r : Route). r.from) (sym same)
own_by me false row e = absurd (none_is e)

own_is : (me : Speaker) (redistributed : Proto → Bool) (way : Option Interior) (row : Route) → own_row me redistributed way ≡ Some row → row.from ≡ None
own_is me redistributed None row e = absurd (none_is e)
own_is me redistributed (Some way) row e = own_by me (redistributed way.proto) row e

own_counts : (speaker : Option Speaker) (redistributed : Proto → Bool) (interior : Rows Interior) (p : AddressPrefix) (row : Route) → rows_if_any (own_rows speaker redistributed interior) p ≡ Some row → row.from ≡ None
own_counts None redistributed interior p row e = absurd (none_is e)
own_counts (Some me) redistributed interior p row e = own_is me redistributed (interior p) row e

-- ---- the routes of a peer
-- a route with the source of another, which was live
record IsReached (accepted : Option Route) (row : Route) : Type 0 where
  made : Route
  is : accepted ≡ Some made
  attrs : row.attrs ≡ made.attrs
  from : row.from ≡ made.from

with_metric : (r : Route) (way : Option Interior) (row : Route) → with_metric_of r way ≡ Some row → IsReached (Some r) row
with_metric r None row e = absurd (none_is e)
with_metric r (Some way) row e =
    let same : record r { igp = Some way.metric } ≡ row = cc in
    record { made = r; is = refl; attrs = ap (λ (x : Route). x.attrs) (sym same); from = ap (λ (x : Route). x.from) (sym same) }

reached : (interior : Rows Interior) (accepted : Option Route) (row : Route) → resolved_row interior accepted ≡ Some row → IsReached accepted row
reached interior None row e = absurd (none_is e)
reached interior (Some r) row e = with_metric r (longest_match interior r.attrs.next_hop) row e

-- the filter accepts only what hasn't been here
record IsAccepted (me : Speaker) (peer : Neighbour) (attrs : Option Attrs) (r : Route) : Type 0 where
  same : attrs ≡ Some r.attrs
  from : r.from ≡ Some peer
  new : has_been_at r.attrs.reflection me.id ≡ false

is_new : (path been hop : Bool) (judged : Option Route) (r : Route) → cond ((path || been) || hop) None judged ≡ Some r → been ≡ false
is_new true been hop judged r e = absurd (none_is e)
is_new false true hop judged r e = absurd (none_is e)
is_new false false hop judged r e = refl

accepted : FilteredKeepsAttrs → (me : Speaker) (peer : Neighbour) (rules : List Rule) (p : AddressPrefix) (attrs : Option Attrs) (r : Route) → filtered me peer rules p attrs ≡ Some r → IsAccepted me peer attrs r
accepted keeps me peer rules p None r e = absurd (none_is e)
accepted keeps me peer rules p (Some attrs) r e =
    let is = keeps me peer rules p attrs r e in
    let new : has_been_at attrs.reflection me.id ≡ false = is_new (has_as attrs.path me.asn) (has_been_at attrs.reflection me.id) (attrs.next_hop == me.addr) (judged_by rules p (first_route peer attrs)) r e in
    record { same = ap (λ (a : Attrs). Some a) (sym is.same_attrs); from = is.from_peer; new = ap (λ (a : Attrs). has_been_at a.reflection me.id) is.same_attrs ∙ new }

-- ---- whose route it is
-- a peer's route was received from it, and hadn't been here
abbrev HasSource : LiveState → Speaker → AddressPrefix → Route → Type 0
HasSource l me p row = (from : Neighbour) → row.from ≡ Some from → IsReceivedFrom l from p row.attrs × (has_been_at row.attrs.reflection me.id ≡ false)

own_has : (l : LiveState) (me : Speaker) (p : AddressPrefix) (row : Route) → row.from ≡ None → HasSource l me p row
own_has l me p row none from is = absurd (none_is (sym none ∙ is))

module _ (l : LiveState) (me : Speaker) (p : AddressPrefix) (row : Route) where
  received : (k : ℕ) (q : DeclaredPeer) (r : Route) → peer_at k l.declared.peers ≡ Some q → q.words.number ≡ k → IsAccepted me q.words (tables.get (l.routes k) p) r → row.attrs ≡ r.attrs → row.from ≡ r.from → HasSource l me p row
  received k q r at number is attrs of from named =
      let same : q.words ≡ from = let e : Some q.words ≡ Some from = sym is.from ∙ sym of ∙ named in cc in
      let live : tables.get (l.routes q.words.number) p ≡ Some row.attrs =
      ap (λ (n : ℕ). tables.get (l.routes n) p) number ∙ is.same ∙ ap (λ (a : Attrs). Some a) (sym attrs) in
      let from_peer : IsReceivedFrom l q.words p row.attrs = record { peer = q; there = ap (λ (n : ℕ). peer_at n l.declared.peers) number ∙ at; words = refl; live = live } in
      (subst (λ (w : Neighbour). IsReceivedFrom l w p row.attrs) same from_peer, ap (λ (a : Attrs). has_been_at a.reflection me.id) attrs ∙ is.new)

  peer_counts : FilteredKeepsAttrs → AreDeclared l.declared.v6 l.declared.profile me l.declared.peers → (k : ℕ) (o : Option DeclaredPeer) → peer_at k l.declared.peers ≡ o
      → rows_if_any (option_map (resolved_rows (least_rows l.interior (origins Int))) (judged_rows (Some me) o (l.rules k) (l.routes k))) p ≡ Some row → HasSource l me p row
  peer_counts keeps declared k None at e = absurd (none_is e)
  peer_counts keeps declared k (Some q) at e =
      let found = found_peer l.declared.profile (to_peers l.declared.v6 me) l.declared.peers k q declared.each at in
      let way = reached (least_rows l.interior (origins Int)) (accepted_rows me q.words (l.rules k) (l.routes k) p) row e in
      received k q way.made at found.1 (accepted keeps me q.words (l.rules k) p (tables.get (l.routes k) p) way.made way.is) way.attrs way.from

  counts : FilteredKeepsAttrs → AreDeclared l.declared.v6 l.declared.profile me l.declared.peers → l.declared.speaker ≡ Some me → (k : ℕ) → candidates_of l k p ≡ Some row → HasSource l me p row
  counts keeps declared speaker zero e = own_has l me p row (own_counts l.declared.speaker l.redistributed (least_rows l.interior (origins Red)) p row e)
  counts keeps declared speaker (suc k) e =
      peer_counts keeps declared (suc k) (peer_at (suc k) l.declared.peers) refl
      (subst (λ (s : Option Speaker). rows_if_any (option_map (resolved_rows (least_rows l.interior (origins Int))) (judged_rows s (peer_at (suc k) l.declared.peers) (l.rules (suc k)) (l.routes (suc k)))) p ≡ Some row) speaker e)

  best_has : PickIsOneOfThem → FilteredKeepsAttrs → AreDeclared l.declared.v6 l.declared.profile me l.declared.peers → l.declared.speaker ≡ Some me → best_of l p ≡ Some row → HasSource l me p row
  best_has picks keeps declared speaker e =
      let among = picks (routes_of_all (candidates_of l) p) row e in
      let one = some_number (λ k. candidates_of l k p) (range_with_len 0 65) row among.0 among.1 among.2 in
      counts keeps declared speaker one.0 one.1

-- ---- what a peer gets
fits : (b : Bool) (form sent : Attrs) → cond b (Some form) None ≡ Some sent → sent ≡ form
fits true form sent e = cc
fits false form sent e = absurd (none_is e)

-- a route with the source of this one was put into the form
record IsFormed (profile : Profile) (me : Speaker) (to : Neighbour) (row : Route) (sent : Attrs) : Type 0 where
  made : Route
  attrs : made.attrs ≡ row.attrs
  from : made.from ≡ row.from
  form : sent ≡ sent_form profile me (not to.internal) made

formed_so : OnlyFormsOfRows → (profile : Profile) (me : Speaker) (to : Neighbour) (rules : List Rule) (p : AddressPrefix) (row : Route) (sent : Attrs) → outgoing (sent_to profile me (not to.internal)) to (Some rules) p (Some row) ≡ Some sent → IsFormed profile me to row sent
formed_so forms profile me to rules p row sent e =
    let of = forms (sent_to profile me (not to.internal)) to (Some rules) p row sent e in
    record { made = of.0; attrs = of.2; from = of.3; form = fits _ (sent_form profile me (not to.internal) of.0) sent of.1 }

-- who is named on a route that goes to a peer
abbrev named : Speaker → Bool → Bool → Option Neighbour → Reflected → Reflected
named me internal reflect from r = cond (not internal) not_reflected (cond reflect (reflected_from me from r) not_reflected)

module _ (profile : Profile) (me : Speaker) (to : Neighbour) (row : Route) (sent : Attrs) where
  named_on : IsFormed profile me to row sent → sent.reflection ≡ named me to.internal profile.reflect row.from row.attrs.reflection
  named_on is =
      ap (λ (a : Attrs). a.reflection) is.form ∙ ap (λ (a : Attrs). named me to.internal profile.reflect is.made.from a.reflection) is.attrs
      ∙ ap (λ (o : Option Neighbour). named me to.internal profile.reflect o row.attrs.reflection) is.from

  same_path : IsFormed profile me to row sent → to.internal ≡ true → sent.path ≡ row.attrs.path
  same_path is internal =
      ap (λ (a : Attrs). a.path) is.form ∙ ap (λ (b : Bool). cond (not b) (times_in_front (1 + is.made.prepend) me.asn is.made.attrs.path) is.made.attrs.path) internal
      ∙ ap (λ (a : Attrs). a.path) is.attrs

  same_hop : IsFormed profile me to row sent → to.internal ≡ true → sent.next_hop ≡ row.attrs.next_hop
  same_hop is internal =
      ap (λ (a : Attrs). a.next_hop) is.form ∙ ap (λ (b : Bool). cond (not b) me.addr is.made.attrs.next_hop) internal ∙ ap (λ (a : Attrs). a.next_hop) is.attrs

inside_named : (me : Speaker) (from : Neighbour) (r : Reflected) (internal reflect : Bool) → internal ≡ true → reflect ≡ true → from.internal ≡ true → named me internal reflect (Some from) r ≡ reflected_by from.id me.id r
inside_named me from r internal reflect to on of =
    ap (λ (b : Bool). named me b reflect (Some from) r) to ∙ ap (λ (b : Bool). named me true b (Some from) r) on
    ∙ ap (λ (b : Bool). cond b (reflected_by from.id me.id r) not_reflected) of

nobody_named : (me : Speaker) (from : Option Neighbour) (to : Neighbour) (reflect : Bool) (r : Reflected) → stays_inside from to ≡ false → named me to.internal reflect from r ≡ not_reflected
nobody_named me None to reflect r apart = by_kind to.internal reflect
  where
    by_kind : (internal reflect : Bool) → cond (not internal) not_reflected (cond reflect not_reflected not_reflected) ≡ not_reflected
    by_kind false reflect = refl
    by_kind true true = refl
    by_kind true false = refl
nobody_named me (Some from) to reflect r apart = by_kinds from.internal to.internal reflect apart
  where
    by_kinds : (of internal reflect : Bool) → (of && internal) ≡ false → cond (not internal) not_reflected (cond reflect (cond of (reflected_by from.id me.id r) not_reflected) not_reflected) ≡ not_reflected
    by_kinds of false reflect e = refl
    by_kinds true true reflect e = absurd (let f : true ≡ false = e in cc)
    by_kinds false true true e = refl
    by_kinds false true false e = refl

-- ---- a client makes a reflector
both : (a b : Bool) → (a && b) ≡ true → (a ≡ true) × (b ≡ true)
both true b e = (refl, e)
both false b e = absurd (let f : false ≡ true = e in cc)

either : (a b c : Bool) → (a || b) ≡ true → (a ≡ true → c ≡ true) → (b ≡ true → c ≡ true) → c ≡ true
either true b c e f g = f refl
either false b c e f g = g e

client_of : (v6 : Bool) (profile : Profile) (me : Speaker) (peers : List DeclaredPeer) (k : ℕ) (q : DeclaredPeer) → AreDeclared v6 profile me peers → peer_at k peers ≡ Some q → q.words.client ≡ true → profile.reflect ≡ true
client_of v6 profile me peers k q declared at client = (found_peer profile (to_peers v6 me) peers k q declared.each at).0.words.reflected client

-- ---- what is passed on
module _ (l : LiveState) (j : ℕ) (me : Speaker) (to : DeclaredPeer) (p : AddressPrefix) (row : Route) (sent : Attrs) where
  passed : AreDeclared l.declared.v6 l.declared.profile me l.declared.peers → peer_at j l.declared.peers ≡ Some to → HasSource l me p row → MayGo l.declared.profile.second to.words p row
      → IsFormed l.declared.profile me to.words row sent → IsPassedTo me to.words row sent
  passed declared at source may so = record {
    not_back = may.not_back;
    inside = λ from is stays.
        let kinds = both from.internal to.words.internal (ap (λ (o : Option Neighbour). stays_inside o to.words) (sym is) ∙ stays) in
        let client : is_reflected from to.words ≡ true = may.reflected_inside from is kinds.1 kinds.0 in
        let here = source from is in
        let reflect : l.declared.profile.reflect ≡ true =
        either from.client to.words.client l.declared.profile.reflect client
        (λ e. client_of l.declared.v6 l.declared.profile me l.declared.peers from.number here.0.peer declared here.0.there (ap (λ (w : Neighbour). w.client) here.0.words ∙ e))
        (client_of l.declared.v6 l.declared.profile me l.declared.peers j to declared at) in
        let marked : sent.reflection ≡ reflected_by from.id me.id row.attrs.reflection =
        named_on l.declared.profile me to.words row sent so ∙ ap (λ (o : Option Neighbour). named me to.words.internal l.declared.profile.reflect o row.attrs.reflection) is
        ∙ inside_named me from row.attrs.reflection to.words.internal l.declared.profile.reflect kinds.1 reflect kinds.0 in
        record {
          client = client;
          originator = ap (λ (r : Reflected). r.originator) marked;
          clusters = ap (λ (r : Reflected). r.clusters) marked;
          once = here.1;
          path = same_path l.declared.profile me to.words row sent so kinds.1;
          next_hop = same_hop l.declared.profile me to.words row sent so kinds.1;
        };
    elsewhere = λ apart. named_on l.declared.profile me to.words row sent so ∙ nobody_named me row.from to.words l.declared.profile.reflect row.attrs.reflection apart;
  }

pub reflection_is_marked : PickIsOneOfThem → FilteredKeepsAttrs → OnlyWhatMayGo → OnlyFormsOfRows → ReflectionIsMarked
reflection_is_marked picks keeps goes forms l j me to p sent declaration speaker at is = by_best (best_of l p) refl is
  where
    declared : AreDeclared l.declared.v6 l.declared.profile me l.declared.peers
    declared = subst (λ (s : Option Speaker). IsDeclaredBy l.declared.v6 l.declared.profile s l.declared.peers) speaker declaration

    form : Form Attrs
    form = sent_to l.declared.profile me (not to.words.internal)

    by_best : (best : Option Route) → best_of l p ≡ best → outgoing form to.words (Some (l.outgoing j)) p best ≡ Some sent → IsBestAsSent l me to.words p sent
    by_best None best e = absurd (none_is e)
    by_best (Some row) best e =
        let source = best_has l me p row picks keeps declared speaker best in
        record {
          row = row;
          best = best;
          received = λ from of. (source from of).0;
          passed = passed l j me to p row sent declared at source (goes form to.words (Some (l.outgoing j)) p row sent e) (formed_so forms l.declared.profile me to.words (l.outgoing j) p row sent e);
        }
