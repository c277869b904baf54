-- What peers have heard are the rows of their links, at first, after each step, and after an idle.
use Rattle.std.proofs.Common.{◌≡◌, ℕ, ◌&&◌, Bool, true, false, cond, nat_eq, List, [], ◌++◌, Option, Some, None, refl, sym, ap, subst, ◌∙◌, arith}
use Rattle.std.specs.Prelude.{IsSome, option_map}
use Rattle.std.specs.FinMap as tables
use Rattle.std.proofs.lemmas.Bool.Decides.{nat_tests}
use Rattle.bgp_attr.specs.Attributes.{Attrs}
use Rattle.bgp_attr.specs.Speakers.{Speaker}
use Rattle.bgp_attr.specs.declared.speaker.Neighbour.{Neighbour}
use Rattle.link_change.specs.Rows.{Rows}
use Rattle.link_change.proofs.RowLemmas.{same_function}
use Rattle.journal_text.specs.Lines.{Line}
use Rattle.journal_text.specs.declared.link.Link.TheVariants.{Adv}
use Rattle.journal_text.specs.Lines.{Value}
use Rattle.journal_text.specs.Values.{attrs_value, attrs_rows}
use Rattle.event_text.specs.declared.declared.DeclaredPeer.{DeclaredPeer}
use Rattle.event_text.specs.Declarations.{peer_at, plain_of}
use Rattle.journal_laws.specs.FamilyLines.{FamilyLine, lines_in}
use Rattle.journal_laws.proofs.FamilyTexts.{lines_in_append}
use Rattle.journal_laws.specs.Peers.{neighbours, KeepsPeers}
use Rattle.live_state.specs.Decided.{sent_rows, in_session, best_of, from_scratch}
use Rattle.live_state.specs.Heard.{no_views}
use Rattle.out_chain.specs.Chains.{OutChained}
use Rattle.exit_side.specs.Exits.{chain_at as exit_at}
use Rattle.exit_laws.specs.Views.{sent_by, views_of}
use Rattle.exit_laws.specs.Laws.{HearingJoins, HearingStays, HeardIsSent}
use Rattle.router_moments.specs.Moments.{Moment, Policies, best_of as best_now, router_links, rules_to}
use Rattle.router_moments.specs.Printable.{IsHeard}
use Rattle.router_moments.specs.Peers.{is_up}
use Rattle.router_moments.specs.Stands.{Stands, ExitsAt, AllHaveExits}
use Rattle.router_moments.specs.Lives.{live_state}
use Rattle.router_moments.specs.Scratch.{IsExact}
use Rattle.router.specs.Networks.{Networks, OfSecond, first_networks}
use Rattle.replay.specs.Heard.{AreHeard, AreSent, AreBest}
use Rattle.replay.specs.Output.{JournalsLead, AllAreHeard, AllAreSent}
use Rattle.replay.proofs.Acted.{SecondMoves, NetworksMove}
use Rattle.replay.proofs.FirstLinks.{no_view, no_view_at_start}
use Rattle.replay.proofs.Follows.{Moves}

-- ---- at first
pub nobody_hears : AllAreHeard [] first_networks
nobody_hears = (no_view_at_start false (plain_of false), tt)

pub nothing_sent : AllAreSent first_networks
nothing_sent = (
  record {
    up = λ j p there up. absurd (let clash : ◌≡◌ {A = Option DeclaredPeer} None (Some p) = there in cc);
    down = λ j down. no_view false (plain_of false) j;
  },
  tt,
)

-- ---- at any moment
-- whose session an exit is
exit_of : (s : Option Speaker) (policies : Policies) (j : ℕ) (o : Option DeclaredPeer) (c : OutChained) → ExitsAt s policies j o (Some c) → (p : DeclaredPeer) × (o ≡ Some p) × (p.up ≡ true) × (c.session ≡ p.session)
exit_of None policies j o c is = absurd is
exit_of (Some me) policies j None c is = absurd is
exit_of (Some me) policies j (Some p) c is = (p, refl, is.up, is.session)

module _ (law : HeardIsSent) (m : Moment) (stands : Stands m) (all : AllHaveExits m) where
  of_exit : (j : ℕ) (c : OutChained) → exit_at j m.exits ≡ Some c → (p : DeclaredPeer) × (peer_at j m.declared.peers ≡ Some p) × (p.up ≡ true) × (c.session ≡ p.session)
  of_exit j c at = exit_of m.declared.speaker m.outgoing j (peer_at j m.declared.peers) c (subst (ExitsAt m.declared.speaker m.outgoing j (peer_at j m.declared.peers)) at (stands.exits.sessions j))

  there_is : (o : Option OutChained) → IsSome o → (c : OutChained) × (o ≡ Some c)
  there_is None is = absurd (let clash : false ≡ true = is in cc)
  there_is (Some c) is = (c, refl)

  sent_up : (j : ℕ) (p : DeclaredPeer) → peer_at j m.declared.peers ≡ Some p → p.up ≡ true → router_links m (Adv j p.session) ≡ Some (attrs_rows (tables.get (views_of m.exits j)))
  sent_up j p there up =
      let chain = there_is (exit_at j m.exits) (all j p there up) in
      let own = of_exit j chain.0 chain.1 in
      let same : own.0 ≡ p = (let e : Some own.0 ≡ Some p = sym own.1 ∙ there in cc) in
      let session : chain.0.session ≡ p.session = own.3 ∙ ap (λ (q : DeclaredPeer). q.session) same in
      subst (λ (s : ℕ). router_links m (Adv j s) ≡ Some (attrs_rows (tables.get (views_of m.exits j)))) session
      (law m.exits (best_now m) j chain.0 stands.exits.each chain.1)

  sent_down : (j : ℕ) → is_up (peer_at j m.declared.peers) ≡ false → views_of m.exits j ≡ tables.empty
  sent_down j down = by_chain (exit_at j m.exits) refl
    where
      by_chain : (o : Option OutChained) → exit_at j m.exits ≡ o → sent_by o ≡ tables.empty
      by_chain None at = refl
      by_chain (Some c) at =
          let own = of_exit j c at in
          absurd (let up : is_up (peer_at j m.declared.peers) ≡ true = ap is_up own.1 ∙ own.2 in let clash : true ≡ false = sym up ∙ down in cc)

  pub are_sent : AreSent m (views_of m.exits)
  are_sent = record { up = sent_up; down = sent_down }

-- ---- after an idle
same_attrs : (a b : Option Attrs) → option_map attrs_value a ≡ option_map attrs_value b → a ≡ b
same_attrs None None e = refl
same_attrs None (Some b) e = absurd (let clash : ◌≡◌ {A = Option Value} None (Some (attrs_value b)) = e in cc)
same_attrs (Some a) None e = absurd (let clash : ◌≡◌ {A = Option Value} (Some (attrs_value a)) None = e in cc)
same_attrs (Some a) (Some b) e = cc

same_rows : (a b : Rows Attrs) → ◌≡◌ {A = Option (Rows Value)} (Some (attrs_rows a)) (Some (attrs_rows b)) → a ≡ b
same_rows a b e = same_function _ _ (λ p. same_attrs (a p) (b p) (let rows : attrs_rows a ≡ attrs_rows b = cc in ap (λ (r : Rows Value). r p) rows))

-- what is decided from scratch, where the session is up
from_there : (m : Moment) (me : Speaker) (j : ℕ) (p : DeclaredPeer) → m.declared.speaker ≡ Some me → peer_at j m.declared.peers ≡ Some p → p.up ≡ true
    → from_scratch (live_state m) (Adv j p.session) ≡ Some (attrs_rows (sent_rows m.declared.profile me p.words (rules_to j m.outgoing) (best_of (live_state m))))
from_there m me j p local there up =
    let make = λ (s : Speaker) (w : Neighbour). sent_rows m.declared.profile s w (rules_to j m.outgoing) (best_of (live_state m)) in
    let rows = make me p.words in
    let tests : (p.up && nat_eq p.session p.session) ≡ true = (let same : nat_eq p.session p.session ≡ true = grind (arith, nat_tests) in ap (λ (b : Bool). b && nat_eq p.session p.session) up ∙ same) in
    ap (λ (s : Option Speaker). option_map attrs_rows (in_session s (peer_at j m.declared.peers) p.session make)) local
    ∙ ap (λ (o : Option DeclaredPeer). option_map attrs_rows (in_session (Some me) o p.session make)) there
    ∙ ap (λ (b : Bool). option_map attrs_rows (cond b (Some rows) None)) tests

pub are_best : (m : Moment) → AreSent m (views_of m.exits) → IsExact m → AreBest (live_state m) (views_of m.exits)
are_best m sent exact me j p local there up =
    let rows = sent_rows m.declared.profile me p.words (rules_to j m.outgoing) (best_of (live_state m)) in
    let scratch : from_scratch (live_state m) (Adv j p.session) ≡ Some (attrs_rows rows) = from_there m me j p local there up in
    same_rows (tables.get (views_of m.exits j)) rows (sym (sent.up j p there up) ∙ exact (Adv j p.session) ∙ scratch)

-- ---- one line after the other
module _ (joins : HearingJoins) (stays : HearingStays) where
  hears_on : (old new : Moment) (earlier said : List Line) → KeepsPeers old.declared new.declared → IsHeard old said new → AreHeard earlier old → AreHeard (earlier ++ said) new
  hears_on old new earlier said keeps heard before =
      joins new.declared.profile (neighbours new.declared) no_views (views_of old.exits) (views_of new.exits) earlier said
      (stays old.declared new.declared no_views (views_of old.exits) earlier keeps before)
      (stays old.declared new.declared (views_of old.exits) (views_of new.exits) said keeps heard)

  moved : (old new : Moment) (earlier own : List Line) → Moves old own new → AreHeard earlier old → AreHeard (earlier ++ own) new
  moved old new earlier own moves before = hears_on old new earlier own moves.followed.peers moves.heard before

  -- of the second network, which may begin
  second_moved : (o o' : Option Moment) (earlier own : List Line) → SecondMoves o own o' → (o ≡ None → earlier ≡ []) → OfSecond (AreHeard earlier) o → OfSecond (AreHeard (earlier ++ own)) o'
  second_moved o None earlier own moves none before = tt
  second_moved None (Some m') earlier own moves none before =
      subst (λ (ls : List Line). AreHeard (ls ++ own) m') (sym (none refl)) (moved moves.0 m' [] own moves.2 moves.1.views)
  second_moved (Some m) (Some m') earlier own moves none before = moved m m' earlier own moves before

  pub networks_hear : (old new : Networks) (earlier said : List FamilyLine) → NetworksMove old said new → JournalsLead earlier old → AllAreHeard earlier old → AllAreHeard (earlier ++ said) new
  networks_hear old new earlier said moves lead before = (
    subst (λ (ls : List Line). AreHeard ls new.first) (sym (lines_in_append false earlier said)) (moved old.first new.first (lines_in false earlier) (lines_in false said) moves.first before.0),
    subst (λ (ls : List Line). OfSecond (AreHeard ls) new.second) (sym (lines_in_append true earlier said))
        (second_moved old.second new.second (lines_in true earlier) (lines_in true said) moves.second lead.none before.1),
  )
