-- What holds of a core after each of its calls.
use Rattle.router_moments.proofs.Common.{sym, subst, ◌∙◌, ap, ◌≡◌, ℕ, refl, List, true, arith, false, ◌+◌, Bool, ◌≤◌, ◌<◌, get-empty, nat_cmp, AddressPrefix, Route, Profile, peer_at, Declaration, IsWellFormed, DeclaredPeer, Event, ArePrintableExits, Chained, printing, AreTablesOf, IsInteriorRow, IsPrintableChain, HaveWays, Journaled, Line, Task, Change, declared_after, LiveState, Hop, Resolving, Metric, OutChained, chain_at, Proto, Interior, of_new, branch_of, first_held, FirstHeldTells, RowsAtRestAreExact, live_state, Moment, best_of, Gives, all_phases, ArePrinted, IsPrintableMoment, Tells, Stands, ExitsAt, AllHaveExits, StandsAt, HaveReaders, HasStepped, Keeps, TakesTurn, RunsOut, HaveSameExits, Done, Taken, Phase}
use Rattle.std.proofs.Common.{[], length, Option, Some, None, is_some}
use Rattle.std.specs.FinMap.{len-empty}
use Rattle.event_text.specs.Declarations.{plain_of, refusal}
use Rattle.link_change.proofs.RowLemmas.{empty_rows}
use Rattle.rib_tree.specs.Trees.{AreNumbered}
use Rattle.rib_tree.specs.Steps.{new_tree}
use Rattle.rib_tree.specs.Laws.{ANewTreeStands}
use Rattle.bgp_attr.specs.Speakers.{IsProfileOf}
use Rattle.event_text.proofs.FileLemmas.{ipv6_kept}
use Rattle.router_moments.specs.Moments.{Cored, first_moment, profiled, spoken}
use Rattle.router_moments.specs.Scratch.{IsExactAtRest}
use Rattle.router_moments.specs.Stands.{CoreStands}
use Rattle.register_interest.specs.Interests.{interest_cmp}
use Rattle.router_moments.specs.Blocks.{Acts}
use Rattle.router_moments.specs.Works.{Comes, HaveDrained, HasIdled}
use Rattle.live_state.specs.Laws.{DeclarationsFollow}
use Rattle.journal_laws.specs.Peers.{KeepsPeers}
use Rattle.router_moments.proofs.KeepLemmas.{acts_of}
use Rattle.router_moments.proofs.TurnWalks.{turn_same, phase_same, phases_same}
use Rattle.router_moments.proofs.ExitsUp.{event_exits}
use Rattle.router_moments.proofs.ProfileLemmas.{profile_after, profile_follows, second_follows, spoken_follows, family_follows, nothing_printable, then_stands}
use Rattle.router_moments.proofs.SessionLemmas.{reads_as}
use Rattle.exit_laws.proofs.SpokenExits.{spoken_exits_print}
use Rattle.journal_laws.specs.Peers.{words_in}
use Rattle.router_moments.proofs.SpokenLemmas.{no_chain_yet, spoken_stands, spoken_exits}
use Rattle.live_state.proofs.SessionLemmas.{losses_follow}
use Rattle.rib_tree.proofs.NewLemmas.{int_empty}
use Rattle.journal_laws.proofs.DeclaredPeers.{Leaves}
use Rattle.journal_laws.proofs.PrintedPeers.{event_leaves}
use Rattle.router_moments.proofs.PrintedTurns.{Goes, turn_goes, phase_goes, phases_go}
use Rattle.router_moments.specs.declared.tasks.Done.TheVariants.{Nothing}
use Rattle.router_moments.proofs.PrintedBlocks.{event_printed}
use Rattle.journal_laws.proofs.PrintedRows.{none_printable}
use Rattle.exit_side.proofs.LawLemmas.{stands_at_first as exits_at_first}
use Rattle.exit_laws.proofs.PrintLemmas.{printing_stays}
use Rattle.nexthop_resolver.specs.Ways.{Way}
use Rattle.rib_exit.proofs.LawLemmas.{stands_at_first as external_at_first}
use Rattle.router_moments.proofs.TurnLaws.{turn_works, phase_works}
use Rattle.router_moments.proofs.ServedTurns.{turn_comes}
use Rattle.router_moments.proofs.ServedBlocks.{event_serves, event_serves_now}
use Rattle.router_moments.proofs.RunLemmas.{phase_drained}
use Rattle.router_moments.specs.declared.tasks.Idle.{Idle}

abbrev pub cored : Moment → ℕ → Cored
cored m n = record { moment = m; events = n; failed = false }

-- background work loses nothing
pub worked_numbered : (m m' : Moment) (said : List Line) (n : ℕ) → Keeps (live_state m) m m' said → AreNumbered n m.tree → AreNumbered n m'.tree
worked_numbered m m' said n work most proto = let was = most proto in let is : (branch_of proto m'.tree).losses ≡ (branch_of proto m.tree).losses = ap (λ (l : LiveState). l.losses proto) work.live in omega (arith, was, is)

-- ---- what can be printed
-- what stands behind a step can, and so can what it says
record Prints (m m' : Moment) (said : List Line) : Type 0 where
  now : IsPrintableMoment m'
  lines : ArePrinted m.declared said
  peers : KeepsPeers m.declared m'.declared

step_prints : (m m' : Moment) (event : Event) (turns : ℕ) (said : List Line) → DeclarationsFollow → Stands m → IsPrintableMoment m → AreNumbered 4294967294 m.tree → refusal m.declared event ≡ None → IsWellFormed m.declared.v6 m.declared.profile event → HasStepped m event turns m' said
    → Prints m m' said
step_prints m m' event turns said follow stands printable few admitted formed h =
    let l = event_printed m stands printable few event said turns m' admitted formed h.block in
    let is : declared_after m.declared event ≡ m'.declared = sym (ap (λ (x : LiveState). x.declared) h.keeps.live ∙ follow (live_state m) event h.live h.after) in
    let d : Leaves m.declared m'.declared = subst (Leaves m.declared) is (event_leaves m.declared event printable.declared admitted formed) in
    let profile : profile_after m.declared.profile event ≡ m'.declared.profile = profile_follows m.declared event ∙ ap (λ (x : Declaration). x.profile) is in
    let same : m'.declared.v6 ≡ m.declared.v6 = ap (λ (x : Declaration). x.v6) (sym is) ∙ family_follows m.declared event in
    record {
      now = record {
        family = record { second = ap (λ (f : Profile). f.second) (sym profile) ∙ second_follows m.declared.profile event ∙ printable.family.second ∙ sym same; spoken = λ e. ap (λ (f : Profile). f.v6) (sym profile) ∙ spoken_follows m.declared.profile event ∙ printable.family.spoken (sym same ∙ e) };
        declared = d.declared;
        chains = subst (λ (f : Profile). (k : ℕ) (c : Chained) → chain_at k m'.chains ≡ Some c → IsPrintableChain f c) profile l.chains;
        interior = subst (λ (v6 : Bool). (proto : Proto) → AreTablesOf (IsInteriorRow v6) (branch_of proto m'.tree).tables) (sym same) l.interior;
        hops = l.hops;
        ways = subst (λ (v6 : Bool). HaveWays v6 m'.rib.forwarding) (sym same) l.ways;
        exits = subst (λ (f : Profile). ArePrintableExits f (printing m'.declared) m'.exits) profile (printing_stays (profile_after m.declared.profile event) m.declared m'.declared m'.exits d.peers l.exits);
      };
      lines = l.printed;
      peers = d.peers;
    }

-- each row that no work holds up is the one from scratch
pub exact_after : RowsAtRestAreExact → (m' : Moment) (k : ℕ) → CoreStands (cored m' k) → IsExactAtRest m'
exact_after law m' k after = law m' after.stands after.exits

-- what the first task that holds up a prefix tells, of a core by its parts
pub core_tells : (c : Cored) (m : Moment) (n : ℕ) (failed : Bool) (p : AddressPrefix) (answer : Option Task) → record { moment = m; events = n; failed = failed } ≡ c → CoreStands c → FirstHeldTells → answer ≡ first_held m p → Tells c.moment p answer
core_tells c m n failed p answer view stands tells is =
    let own = subst CoreStands (sym view) stands in
    subst (λ (x : Cored). Tells x.moment p answer) view (subst (Tells m p) (sym is) (tells m own.stands own.exits p))

-- what lookups ask for
pub readers_of : (m : Moment) → Stands m → HaveReaders m
readers_of m stands = record { exits = stands.exits.each; reader = λ r is. (reads_as m stands r is).live; external = stands.exits.external }

-- ---- a core by its parts
module _ (old : Cored) (m : Moment) (n : ℕ) (failed : Bool) (view : record { moment = m; events = n; failed = failed } ≡ old) (off : failed ≡ false) (stands : old.failed ≡ false → CoreStands old) where
  stood : CoreStands (record { moment = m; events = n; failed = failed })
  stood = subst CoreStands (sym view) (stands (ap (λ (c : Cored). c.failed) (sym view) ∙ off))

  pub moment_stands : Stands m
  moment_stands = stood.stands

  pub moment_exits : AllHaveExits m
  moment_exits = stood.exits

  pub few_losses : n < 4294967295 → AreNumbered 4294967294 m.tree
  few_losses few proto = let most = stood.numbered proto in omega (arith, few, most)

  module _ (event : Event) (turns : ℕ) (m' : Moment) (before now : Journaled) (few : old.events < 4294967295) (admitted : refusal old.moment.declared event ≡ None) (formed : IsWellFormed old.moment.declared.v6 old.moment.declared.profile event) (follow : DeclarationsFollow) (g : Gives (HasStepped m event turns m') before now) where
    prints : Prints m m' g.0
    prints = step_prints m m' event turns g.0 follow stood.stands stood.printable (few_losses (subst (λ (c : Cored). c.events < 4294967295) (sym view) few)) (subst (λ (c : Cored). refusal c.moment.declared event ≡ None) (sym view) admitted) (subst (λ (c : Cored). IsWellFormed c.moment.declared.v6 c.moment.declared.profile event) (sym view) formed) g.2

    declared : m'.declared ≡ declared_after m.declared event
    declared = ap (λ (l : LiveState). l.declared) g.2.keeps.live ∙ follow (live_state m) event g.2.live g.2.after

    pub core_stepped : CoreStands (cored m' (n + 1))
    core_stepped = record {
      good = refl;
      stands = g.2.keeps.stands;
      printable = prints.now;
      exits = event_exits m m' stood.stands stood.exits event g.0 turns (subst (λ (c : Cored). refusal c.moment.declared event ≡ None) (sym view) admitted) declared g.2.block;
      numbered = λ proto.
          let was = stood.numbered proto in
          let more = losses_follow (live_state m) event g.2.live g.2.after proto in
          let is : (branch_of proto m'.tree).losses ≡ g.2.live.losses proto = ap (λ (l : LiveState). l.losses proto) g.2.keeps.live in
          omega (arith, was, more, is);
    }

    pub core_acts_by : Acts old.moment event turns m' g.0
    core_acts_by = subst (λ (c : Cored). Acts c.moment event turns m' g.0) view (acts_of m m' event turns g.0 g.2 prints.lines prints.peers (event_serves m m' event g.0 turns stood.stands declared g.2.block) (event_serves_now m m' event g.0 turns g.2.block))

    pub core_acts : Gives (Acts old.moment event turns m') before now
    core_acts = (g.0, g.1, core_acts_by)

  pub core_worked : (m' : Moment) (said inner : List Line) → Keeps (live_state m) m m' said → HaveSameExits m m' → Goes m inner m' → CoreStands (cored m' n)
  core_worked m' said inner work same goes = record {
    good = refl;
    stands = work.stands;
    printable = (goes.prints stood.printable).now;
    exits = λ k p at up. same k ∙ stood.exits k p (ap (λ (l : LiveState). peer_at k l.declared.peers) (sym work.live) ∙ at) up;
    numbered = worked_numbered m m' said n work stood.numbered;
  }

  -- a turn of a task
  module _ (task : Task) (m' : Moment) (before now : Journaled) where
    pub core_comes : (done : Done) → TakesTurn task m m' before now done → Comes task old.moment m' before now done
    core_comes done t = subst (λ (c : Cored). Comes task c.moment m' before now done) view (turn_comes task m m' before now done stood.stands t)

    pub core_turned : (done : Done) → TakesTurn task m m' before now done → CoreStands (cored m' n)
    core_turned Nothing t = subst (λ (x : Moment). CoreStands (cored x n)) (sym t.1) (record { good = refl; stands = stood.stands; printable = stood.printable; exits = stood.exits; numbered = stood.numbered })
    core_turned Taken t = core_worked m' t.0 t.0 (turn_works task m t.0 m' stood.stands t.2).keeps (turn_same task m t.0 m' stood.stands t.2) (turn_goes task m t.0 m' stood.stands t.2)

  -- a phase of an idle
  module _ (phase : Phase) (turns : ℕ) (m' : Moment) (before now : Journaled) (g : Gives (RunsOut phase m turns m') before now) where
    pub core_drained : Gives (HaveDrained phase old.moment turns m') before now
    core_drained = subst (λ (c : Cored). Gives (HaveDrained phase c.moment turns m') before now) view (g.0, g.1, phase_drained phase m m' turns g.0 stood.stands g.2)

    pub core_phase : CoreStands (cored m' n)
    core_phase = core_worked m' g.0 g.0 (phase_works phase m g.0 turns m' stood.stands g.2.runs).keeps (phase_same phase m g.0 turns m' stood.stands g.2.runs) (phase_goes phase m g.0 turns m' stood.stands g.2.runs)

  -- an idle
  pub core_idled : (idle : Idle) (m' : Moment) (before now : Journaled) → Gives (HasIdled m idle m') before now → CoreStands (cored m' n)
  core_idled idle m' before now g =
      let i = g.2.idles in
      core_worked m' g.0 i.inner g.2.keeps (phases_same all_phases m i.inner idle.turns m' stood.stands i.runs) (phases_go all_phases m i.inner idle.turns m' stood.stands i.runs)

-- ---- the first moment
pub first_moment_stands : (v6 : Bool) → ANewTreeStands → Stands (first_moment v6)
first_moment_stands v6 law = record {
  peers = record {
    chains = λ k c at. absurd (let none = get-empty {X = Chained} nat_cmp k in cc);
    each = λ k. subst (StandsAt None) (sym (get-empty {X = Chained} nat_cmp k)) tt;
    speaker = λ k c at. absurd (let none = get-empty {X = Chained} nat_cmp k in cc);
    count = len-empty nat_cmp Chained;
    numbers = λ k some. absurd (let none = get-empty {X = Chained} nat_cmp k in let clash : true ≡ false = sym some ∙ ap is_some none in cc);
  };
  interior = record { tree = law.0; full = law.1; few = of_new (λ b. length b.tables.deletions ≤ 16) (λ k. omega arith); waiting = λ e. refl };
  registered = empty_rows {V = Interior} ∙ sym int_empty;
  hops = record {
    sound = λ k s at. absurd (let none = get-empty {X = Resolving Metric} nat_cmp k in cc);
    same = λ k. ap is_some (get-empty {X = Resolving Metric} nat_cmp k) ∙ sym (ap is_some (get-empty {X = Chained} nat_cmp k));
    agree = λ k s at. absurd (let none = get-empty {X = Resolving Metric} nat_cmp k in cc);
    counted = λ k s at. absurd (let none = get-empty {X = Resolving Metric} nat_cmp k in cc);
    strangers = λ k peer none s. ap is_some (get-empty {X = Option AddressPrefix} interest_cmp (record { subnet = s; client = k }));
    matches = λ i found at. absurd (let none = get-empty {X = Option AddressPrefix} interest_cmp i in cc);
  };
  exits = record {
    rows = λ k c at. absurd (let none = get-empty {X = Chained} nat_cmp k in cc);
    each = (exits_at_first (plain_of v6)).sound;
    all = λ reader unread at. absurd (let none = get-empty {X = List (Change Route)} nat_cmp reader in cc);
    read = (exits_at_first (plain_of v6)).stand (best_of (first_moment v6));
    profile = refl;
    sender = tt;
    sessions = λ k. subst (λ (o : Option OutChained). ExitsAt None (first_moment v6).outgoing k None o) (sym (get-empty {X = OutChained} nat_cmp k)) tt;
    one = tt;
    external = external_at_first.stands;
  };
  external = record {
    sound = external_at_first.sound;
    agree = external_at_first.agree (first_moment v6).registry (λ s. ap is_some (get-empty {X = Option AddressPrefix} interest_cmp (record { subnet = s; client = 0 })));
  };
  waits = record { own = λ before. refl; external = λ before. refl };
}

-- nothing was declared yet, and messages are read and written by this profile
pub fresh_stands : (v6 : Bool) (profile : Profile) → IsProfileOf v6 profile → ANewTreeStands → CoreStands (cored (profiled (first_moment v6) profile) 0)
fresh_stands v6 profile of law = record {
  good = refl;
  stands = then_stands (first_moment v6) profile (first_moment_stands v6 law) refl;
  printable = record {
    family = of;
    declared = refl;
    chains = λ k c at. absurd (let none = get-empty {X = Chained} nat_cmp k in cc);
    interior = new_printable;
    hops = λ k s at. absurd (let none = get-empty {X = Resolving Metric} nat_cmp k in cc);
    ways = λ a h at. absurd (let none = get-empty {X = Hop Way} nat_cmp a in cc);
    exits = nothing_printable profile (printing (profiled (first_moment v6) profile).declared) of.second;
  };
  exits = λ k p there up. absurd (let clash : ◌≡◌ {A = Option DeclaredPeer} None (Some p) = there in cc);
  numbered = of_new (λ b. b.losses ≤ 0) (λ k. omega arith);
}
  where
    new_printable : (proto : Proto) → AreTablesOf (IsInteriorRow v6) (branch_of proto new_tree).tables
    new_printable = of_new (λ b. AreTablesOf (IsInteriorRow v6) b.tables) (λ k. none_printable (IsInteriorRow v6))

pub first_stands : (v6 : Bool) → ANewTreeStands → CoreStands (cored (first_moment v6) 0)
first_stands v6 law = fresh_stands v6 (plain_of v6) (record { second = refl; spoken = λ e. e }) law

-- ---- `local6`
pub spoken_core : (m : Moment) (n : ℕ) → CoreStands (cored m n) → m.declared.peers ≡ [] → CoreStands (cored (spoken m) (n + 1))
spoken_core m n is alone = record {
  good = refl;
  stands = spoken_stands m is.stands alone;
  printable = record {
    family = record { second = is.printable.family.second; spoken = λ e. refl };
    declared = ipv6_kept m.declared is.printable.declared;
    chains = λ k c at. absurd (let none = no_chain_yet m is.stands alone k in cc);
    interior = is.printable.interior;
    hops = is.printable.hops;
    ways = is.printable.ways;
    exits = spoken_exits_print m.declared.profile (printing m.declared) (λ k. ap words_in (ap (peer_at k) alone)) m.exits is.printable.exits;
  };
  exits = spoken_exits m is.stands alone;
  numbered = λ proto. let most = is.numbered proto in omega (arith, most);
}
