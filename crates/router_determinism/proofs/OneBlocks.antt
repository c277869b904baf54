-- What an event does leaves no choice: a line for each kind of event.
use Rattle.router_moments.proofs.Common.{with_queue, ◌+◌, int_rows, bound_of, sym, subst, ◌∙◌, ap, ◌≡◌, ℕ, refl, List, ◌++◌, Bool, true, false, not, AddressPrefix, Speaker, Rule, Rows, Line, Value, Link, Task, AreOctets, Message, peer_at, DeclaredPeer, Event, IsWellFormed, Exited, Chains, Interior, Proto, Moment, Stands, rules_to, router_links, with_exits, with_chains, with_tree, journal_lines, IsBlock, ByPeer, BySpeaker, BeginsIf, EndsIf, HearsIf, Begins, Declares, DropsRouteIf, Shows, FallsRoute, Turns, fed_tree, way_of_route, branch_of, tree_overdue}
use Rattle.std.proofs.Common.{[], ◌∷◌, length, map, Option, Some, None, is_some}
use Rattle.std.specs.FinMap as tables
use Rattle.journal_text.specs.declared.line.Line.TheVariants as lines
use Rattle.event_text.specs.Event.{Question}
use Rattle.event_text.specs.declared.event.Event.TheVariants.{Nothing, Whole, Local, Peer, Up, Down, Bgp, FilterIn, FilterOut, RouteAdd, RouteDel, Lose, Redist, Idle, Work, Query}
use Rattle.event_text.specs.declared.event.Question.TheVariants.{Cover, Settled, Ask, Show}
use Rattle.bgp_wire.specs.Grammar.{EachHasOne}
use Rattle.register_interest.specs.Width.{width}
use Rattle.rib_tree.specs.Steps.{lost_tree, tree_loss_entries}
use Rattle.register_interest.specs.Covers.{matched}
use Rattle.router_moments.specs.Phases.{all_phases}
use Rattle.router_moments.specs.Blocks.{Answers, Just, Hears, Localizes, Refilters, Redirects, LosesProtocol, CoversAddress, TellsSettled, Works, Idles, begun, declared_speaker}
use Rattle.router_determinism.specs.Parts.{PartsAreOne}
use Rattle.router_determinism.proofs.OneRoutes.{route_is_one}
use Rattle.router_determinism.proofs.OneRuns.{One, turns_are_one, as_many, phases_are_one, first_is_one}
use Rattle.router_moments.proofs.HeardRows.{message_heard}
use Rattle.router_determinism.proofs.OneSessions.{answer_is_one, loss_is_one, hearing_is_one}

-- what was said, how many turns were taken, and where that led, are one
abbrev pub OneStep : List Line → ℕ → Moment → List Line → ℕ → Moment → Type 0
OneStep said turns m other more n = (said ≡ other) × (turns ≡ more) × (m ≡ n)

just_one : (these : List Line) (then : Moment) (said other : List Line) (turns more : ℕ) (m1 m2 : Moment) → Just these then said turns m1 → Just these then other more m2 → OneStep said turns m1 other more m2
just_one these then said other turns more m1 m2 f g = (f.0 ∙ sym g.0, f.1 ∙ sym g.1, f.2 ∙ sym g.2)

no_turns : (said other : List Line) (turns more : ℕ) (m1 m2 : Moment) → turns ≡ 0 → more ≡ 0 → One said m1 other m2 → OneStep said turns m1 other more m2
no_turns said other turns more m1 m2 none also one = (one.0, none ∙ sym also, one.1)

module _ (laws : PartsAreOne) (m : Moment) (said other : List Line) (turns more : ℕ) (m1 m2 : Moment) (stands : Stands m) where
  -- ---- declarations
  local_one : (words : Speaker) → Localizes words m said m1 → Localizes words m other m2 → One said m1 other m2
  local_one words f g =
      let reader : f.reader ≡ g.reader = laws.exits.reader m.exits.queue f.reader g.reader f.fresh f.least g.fresh g.least in (
        f.lines ∙ sym g.lines,
        f.after
            ∙ ap (λ (n : ℕ). record (declared_speaker m words) { exits = with_queue (tables.insert m.exits.queue n []) m.exits; reader = Some n }) reader ∙ sym g.after,
      )

  declared_one : (s : Option Speaker) (k : ℕ) (words : Speaker) (client : Bool) → Declares m s k words client said turns m1 → Declares m s k words client other more m2 → OneStep said turns m1 other more m2
  declared_one None k words client f g = absurd f
  declared_one (Some me) k words client f g = just_one _ _ said other turns more m1 m2 f g

  -- ---- sessions
  begun_one : (s : Option Speaker) (k : ℕ) (p : DeclaredPeer) → BySpeaker (λ me. Begins me k p m said m1) s → BySpeaker (λ me. Begins me k p m other m2) s → One said m1 other m2
  begun_one None k p f g = absurd f
  begun_one (Some me) k p f g =
      let one = laws.exits.begin me p.words (p.session + 1) (rules_to k m.outgoing) m.exits m1.exits m2.exits f.entries g.entries f.begins g.begins in
      (f.lines ∙ ap journal_lines one.1 ∙ sym g.lines, f.after ∙ ap (with_exits (begun m k)) one.0 ∙ sym g.after)

  up_one : (up : Bool) (k : ℕ) (p : DeclaredPeer) → BeginsIf up m k p said turns m1 → BeginsIf up m k p other more m2 → OneStep said turns m1 other more m2
  up_one true k p f g = just_one _ _ said other turns more m1 m2 f g
  up_one false k p f g = no_turns said other turns more m1 m2 f.0 g.0 (begun_one m.declared.speaker k p f.1 g.1)

  down_one : (up : Bool) (k : ℕ) (p : DeclaredPeer) → EndsIf up m k p said turns m1 → EndsIf up m k p other more m2 → OneStep said turns m1 other more m2
  down_one false k p f g = just_one _ _ said other turns more m1 m2 f g
  down_one true k p f g = no_turns said other turns more m1 m2 f.0 g.0 (loss_is_one laws k p.session m said other m1 m2 stands f.1 g.1)

  -- ---- messages
  heard_one : EachHasOne → (up : Bool) (k : ℕ) (p : DeclaredPeer) (octets : List ℕ) → peer_at k m.declared.peers ≡ Some p → p.up ≡ up → AreOctets octets → HearsIf up m k p octets said turns m1 → HearsIf up m k p octets other more m2 → OneStep said turns m1 other more m2
  heard_one law false k p octets at up are f g = just_one _ _ said other turns more m1 m2 f g
  heard_one law true k p octets at up are f g =
      let message : f.1.0 ≡ g.1.0 = answer_is_one m.declared.profile (not p.words.internal) octets law f.1.0 g.1.0 f.1.1 g.1.1 in
      no_turns said other turns more m1 m2 f.0 g.0 (hearing_is_one laws k p m f.1.0 said other m1 m2 stands (p, at, up) (message_heard m.declared.profile (not p.words.internal) octets f.1.0 are f.1.1) f.1.2
      (subst (λ (x : Message). Hears k p m x other m2) (sym message) g.1.2))

  -- whatever a declared peer's event does
  by_peer : (P Q : DeclaredPeer → Type 0) (R : Type 0) (o : Option DeclaredPeer) → ((p : DeclaredPeer) → o ≡ Some p → P p → Q p → R) → ByPeer P o → ByPeer Q o → R
  by_peer P Q R None one f g = absurd f
  by_peer P Q R (Some p) one f g = one p refl f g

  -- ---- filters
  refiltered_one : (k : ℕ) (rules : List Rule) → Refilters k rules m said turns m1 → Refilters k rules m other more m2 → OneStep said turns m1 other more m2
  refiltered_one k rules f g =
      just_one [] (with_chains m f.0) said other turns more m1 m2 f.2 (subst (λ (a : Chains). Just [] (with_chains m a) other more m2) (sym (laws.edit k rules m.chains f.0 g.0 f.1 g.1)) g.2)

  redirected_one : (k : ℕ) (rules : List Rule) → Redirects k rules m said turns m1 → Redirects k rules m other more m2 → OneStep said turns m1 other more m2
  redirected_one k rules f g =
      just_one [] (record m { outgoing = tables.insert m.outgoing k rules; exits = f.0 }) said other turns more m1 m2 f.2
      (subst (λ (e : Exited). Just [] (record m { outgoing = tables.insert m.outgoing k rules; exits = e }) other more m2) (sym (laws.exits.edit k rules m.exits f.0 g.0 f.1 g.1)) g.2)

  -- ---- interior routes
  routed_one : (proto : Proto) (p : AddressPrefix) (row : Option Interior) → FallsRoute m (fed_tree m.tree proto p row) proto p (way_of_route proto m.tree) said m1 → FallsRoute m (fed_tree m.tree proto p row) proto p (way_of_route proto m.tree) other m2 → One said m1 other m2
  routed_one proto p row f g =
      route_is_one laws.hops laws.reached laws.exits.put laws.interior m (fed_tree m.tree proto p row) proto p (way_of_route proto m.tree)
      (λ s v xs ys first sent second also. laws.route proto p m.tree (fed_tree m.tree proto p row) s v xs ys stands.interior.tree first sent second also) said other m1 m2 f g

  dropped_one : (there : Bool) (proto : Proto) (p : AddressPrefix) → DropsRouteIf there proto p m said turns m1 → DropsRouteIf there proto p m other more m2 → OneStep said turns m1 other more m2
  dropped_one false proto p f g = just_one _ _ said other turns more m1 m2 f g
  dropped_one true proto p f g = no_turns said other turns more m1 m2 f.0 g.0 (routed_one proto p None f.1 g.1)

  lost_one : (proto : Proto) → LosesProtocol proto m said m1 → LosesProtocol proto m other m2 → One said m1 other m2
  lost_one proto f g =
      let ran = first_is_one laws (tree_overdue proto m.tree) m f.first g.first f.room g.room stands f.runs g.runs in (
        f.lines ∙ ap (λ (l : List Line). l ++ journal_lines (tree_loss_entries proto f.room.tree)) ran.0 ∙ ap (λ (n : Moment). g.first ++ journal_lines (tree_loss_entries proto n.tree)) ran.1 ∙ sym g.lines,
        f.after ∙ ap (λ (n : Moment). with_tree n (lost_tree proto n.tree)) ran.1 ∙ sym g.after,
      )

  -- ---- questions
  covered_one : (addr : ℕ) → CoversAddress addr m said → CoversAddress addr m other → said ≡ other
  covered_one addr f g =
      let one = laws.hops.cover width (int_rows m.tree) addr f.found g.found f.subnet g.subnet f.cover g.cover in
      f.line ∙ ap (λ (o : Option (AddressPrefix × Interior)). lines.Cover addr (matched o) f.subnet ∷ []) one.0 ∙ ap (λ (s : AddressPrefix). lines.Cover addr (matched g.found) s ∷ []) one.1 ∙ sym g.line

  told_one : (p : AddressPrefix) → TellsSettled p m said → TellsSettled p m other → said ≡ other
  told_one p f g = f.line ∙ ap (λ (o : Option Task). lines.Settled p o ∷ []) (f.tells.first ∙ sym g.tells.first) ∙ sym g.line

  shown_one : (link : Link) (rows : Option (Rows Value)) → Shows link rows said → Shows link rows other → said ≡ other
  shown_one link None f g = f ∙ sym g
  shown_one link (Some rows) f g =
      f.2 ∙ ap (λ (l : List (AddressPrefix × Value)). map (λ r. lines.Row link r.0 r.1) l ++ lines.Rows link (length l) ∷ []) (laws.listed rows f.0 g.0 f.1.order f.1.each f.1.all g.1.order g.1.each g.1.all) ∙ sym g.2

  answered_one : (question : Question) → Answers question m said → Answers question m other → said ≡ other
  answered_one (Cover addr) f g = covered_one addr f g
  answered_one (Settled p) f g = told_one p f g
  answered_one (Ask link p) f g = f ∙ sym g
  answered_one (Show link) f g = shown_one link (router_links m link) f g

  -- ---- work
  idled_one : Idles m said turns m1 → Idles m other more m2 → OneStep said turns m1 other more m2
  idled_one f g =
      let one = phases_are_one laws all_phases m f.inner g.inner turns more m1 m2 stands f.runs g.runs in
      (f.lines ∙ ap (λ (l : List Line). lines.Bound (bound_of m) ∷ (l ++ lines.Idle turns ∷ [])) one.1 ∙ ap (λ (n : ℕ). lines.Bound (bound_of m) ∷ (g.inner ++ lines.Idle n ∷ [])) one.0 ∙ sym g.lines, one.0, one.2)

  worked_one : (task : Task) (n : ℕ) → Works task n m said turns m1 → Works task n m other more m2 → OneStep said turns m1 other more m2
  worked_one task n f g =
      let count : turns ≡ more = as_many laws turns more n task m f.inner g.inner m1 m2 stands f.taken g.taken f.most g.most f.ended g.ended in
      let one = turns_are_one laws more task m f.inner g.inner m1 m2 stands (subst (λ (x : ℕ). Turns x task m f.inner m1) count f.taken) g.taken in
      (f.lines ∙ ap (λ (l : List Line). l ++ lines.Work turns ∷ []) one.0 ∙ ap (λ (x : ℕ). g.inner ++ lines.Work x ∷ []) count ∙ sym g.lines, count, one.1)

  -- ---- a line for each kind of event
  pub block_is_one : EachHasOne → (event : Event) → IsWellFormed m.declared.v6 m.declared.profile event → IsBlock m event said turns m1 → IsBlock m event other more m2 → OneStep said turns m1 other more m2
  block_is_one law Nothing formed f g = just_one _ _ said other turns more m1 m2 f g
  block_is_one law (Whole word) formed f g = just_one _ _ said other turns more m1 m2 f g
  block_is_one law (Local words) formed f g = no_turns said other turns more m1 m2 f.0 g.0 (local_one words f.1 g.1)
  block_is_one law (Peer k words client) formed f g = declared_one m.declared.speaker k words client f g
  block_is_one law (Up k) formed f g = by_peer _ _ _ (peer_at k m.declared.peers) (λ p at. up_one p.up k p) f g
  block_is_one law (Down k) formed f g = by_peer _ _ _ (peer_at k m.declared.peers) (λ p at. down_one p.up k p) f g
  block_is_one law (Bgp k octets) formed f g = by_peer _ _ _ (peer_at k m.declared.peers) (λ p at. heard_one law p.up k p octets at refl formed.1.bytes) f g
  block_is_one law (FilterIn k rules) formed f g = refiltered_one k rules f g
  block_is_one law (FilterOut k rules) formed f g = redirected_one k rules f g
  block_is_one law (RouteAdd p row) formed f g = no_turns said other turns more m1 m2 f.0 g.0 (routed_one row.proto p (Some row) f.1 g.1)
  block_is_one law (RouteDel proto p) formed f g = dropped_one (is_some (tables.get (branch_of proto m.tree).tables.live p)) proto p f g
  block_is_one law (Lose proto) formed f g = no_turns said other turns more m1 m2 f.0 g.0 (lost_one proto f.1 g.1)
  block_is_one law (Redist proto on) formed f g = just_one _ _ said other turns more m1 m2 f g
  block_is_one law Idle formed f g = idled_one f g
  block_is_one law (Work task n) formed f g = worked_one task n f g
  block_is_one law (Query question) formed f g = (answered_one question f.2 g.2, f.0 ∙ sym g.0, f.1 ∙ sym g.1)
