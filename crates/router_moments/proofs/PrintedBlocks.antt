-- What each event says can be printed, and so can what stands behind it.
use Rattle.router_moments.proofs.Common.{sym, subst, ◌∙◌, ap, ◌≡◌, ℕ, refl, List, true, arith, false, ◌+◌, Bool, ◌++◌, ◌≤◌, cond, ◌<◌, nat_eq, not, ◌&&◌, IfSome, get-empty, AllByRecursion, nat_cmp, AddressPrefix, is_host_prefix, Attrs, Neighbour, Profile, Speaker, AreOctets, Message, Update, peer_at, Declaration, with_whole, IsWellFormed, DeclaredPeer, Event, Down, Bgp, RouteAdd, RouteDel, Lose, Query, Work, Whole, Up, Redist, ArePrintableExits, resolver_at, Chained, IsPrefixOf, AllHaveMetrics, IsFit, words_in, printing, Printing, IsPrinted, AreTablesOf, IsInteriorRow, IsPrintableChain, HaveWays, IsNameNumber, Line, Link, Task, Value, Rows, is_empty_map, speaker_since, whole_is_first, LiveState, changes_of, Says, announced_with, withdrawn_from, all_both, table_of, Hop, Resolving, Metric, OutChained, put_each, chain_at, overdue_at, has_turn_in, Rule, width, Proto, Connected, Static, Ospf, Rip, Interior, put_all, Branch, way_of_route, tree_overdue, fed_tree, int_rows, branch_of, ByPeer, IsBlock, BeginsIf, EndsIf, HearsIf, Declares, BySpeaker, Begins, DropsRouteIf, answer_lines, Shows, Moment, router_links, with_exits, rules_to, all_phases, ArePrinted, IsPrintableMoment, Stands, ExitsAt, journal_lines, has_work, FallsRoute}
use Rattle.std.proofs.Common.{◌^◌, ◌==◌, [], ◌∷◌, map, Option, Some, None, IsSome, is_some}
use Rattle.std.specs.Prelude.{filter, length}
use Rattle.std.proofs.lemmas.List.Elements.{All-nil}
use Rattle.bgp_wire.specs.Grammar.{Reads, without, is_served}
use Rattle.bgp_wire.specs.Said.{Said}
use Rattle.bgp_wire.specs.Readable.{said_of}
use Rattle.addr4.specs.Families.{bits_of, IsAddress}
use Rattle.bgp_wire.specs.declared.message.Message.TheVariants as messages
use Rattle.bgp_wire.proofs.ReadableLaws.{Every, all_every, every_filter}
use Rattle.bgp_wire.proofs.ReadableMessages.{read_is_readable}
use Rattle.event_text.specs.Event.{Question}
use Rattle.event_text.specs.WellFormed.{IsQuestion}
use Rattle.event_text.specs.declared.event.Event.TheVariants.{Nothing, Local, Peer, FilterIn, FilterOut, Idle}
use Rattle.event_text.specs.declared.event.Question.TheVariants.{Cover, Settled, Ask, Show}
use Rattle.router_moments.specs.Blocks.{Answers}
use Rattle.event_text.specs.Declarations.{refusal}
use Rattle.register_interest.specs.Covers.{matched, longest, IsLongest}
use Rattle.register_interest.proofs.CoverLemmas.{longest_is}
use Rattle.register_interest.specs.Search.{AreShort}
use Rattle.register_interest.proofs.SearchLemmas.{subnet_short}
use Rattle.journal_text.specs.Names.{IsNamed, IsNamedTask}
use Rattle.journal_text.specs.declared.entry.Entry.TheVariants as entries
use Rattle.journal_text.specs.declared.line.Line.TheVariants as lines
use Rattle.journal_text.specs.declared.link.Task.TheVariants as tasks
use Rattle.journal_text.specs.declared.link.Link.TheVariants as links
use Rattle.journal_check.specs.Laws.{IsMatch, IsNamedIfAny}
use Rattle.journal_laws.specs.Standing.{WasHeard}
use Rattle.journal_laws.proofs.PrintedRows.{none_printable, fed_fit, lost_printable, edited_printable, int_prints}
use Rattle.journal_laws.proofs.PrintedWays.{Heard, route_way}
use Rattle.journal_laws.proofs.PrintedLines.{plain_printed, note_printed, answer_printed, rows_printed}
use Rattle.loss_chain.proofs.TableLemmas.{equal_by}
use Rattle.loss_chain.specs.Lost.{Lost}
use Rattle.link_region.proofs.RegionLemmas.{by_bool}
use Rattle.policy_rules.specs.Ranges.{AreRules, IsRule}
use Rattle.nexthop_resolver.specs.Resolving.{nothing_known}
use Rattle.hop_side.specs.Resolvers.{busy_by}
use Rattle.journal_laws.proofs.PrintedHops.{metrics_put}
use Rattle.rib_tree.specs.BranchSteps.{lost_branch, fed_branch}
use Rattle.rib_tree.specs.Steps.{tree_loss_entries}
use Rattle.rib_tree.specs.Trees.{AreNumbered}
use Rattle.router_moments.specs.Moments.{profiled}
use Rattle.router_moments.specs.Blocks.{Just, begin_line, Loses, Refilters, Redirects, LosesProtocol, CoversAddress, TellsSettled, Hears}
use Rattle.router_moments.proofs.StandLemmas.{speaker_of}
use Rattle.rib_tree.proofs.TreeParts.{few_fed}
use Rattle.exit_side.specs.Exits.{chain_at as exit_at, busy_by as exit_busy, refreshing, refreshed_exits}
use Rattle.exit_laws.proofs.KeptLemmas.{edit_is_printed, join_is_printed}
use Rattle.exit_laws.proofs.ResendLemmas.{refresh_is_printed}
use Rattle.exit_laws.proofs.PrintLemmas.{beginning_is_printed, end_is_printed}
use Rattle.router_moments.proofs.SessionLemmas.{silenced}
use Rattle.router_moments.proofs.BeforeLocal.{no_chain}
use Rattle.router_moments.proofs.ProfileLemmas.{profile_after, nothing_printable, whole_second}
use Rattle.router_moments.proofs.PrintedTurns.{Goes, IsSaid, feeds_go, route_prints, turns_go, phases_go, first_goes}
use Rattle.router_moments.proofs.PrintedMoments.{IsShown, shown, known_at, named_by, session_named, chain_fit, tree_fit}
use Rattle.router_moments.proofs.TurnLaws.{first_works}
use Rattle.router_moments.proofs.RouteLemmas.{routed}
use Rattle.router_moments.proofs.HeardRows.{changes_heard, message_heard}
use Rattle.router_moments.proofs.PrintedLinks.{links_print}

-- what an event leaves beside the declarations, and what it says
pub record Leaves (profile : Profile) (texts : Printing) (m' : Moment) (said : List Line) : Type 0 where
  pub chains : (k : ℕ) (c : Chained) → chain_at k m'.chains ≡ Some c → IsPrintableChain profile c
  pub interior : (proto : Proto) → AreTablesOf (IsInteriorRow texts.v6) (branch_of proto m'.tree).tables
  pub hops : AllHaveMetrics m'.hops
  pub ways : HaveWays texts.v6 m'.rib.forwarding
  pub exits : ArePrintableExits profile texts m'.exits
  pub printed : AllByRecursion (IsPrinted texts) said

second_true : (a b : Bool) → (a && b) ≡ true → b ≡ true
second_true true b e = e
second_true false b e = absurd (let clash : false ≡ true = e in cc)

-- what holds of all losses holds of one whose stage stands
stage_there : {R : Type 0} (P : ℕ → Type 0) (n : ℕ) (ds : List (Lost R)) → is_some (table_of n ds) ≡ true → AllByRecursion (λ (d : Lost R). P d.number) ds → P n
stage_there P n [] some all = absurd (let clash : false ≡ true = some in cc)
stage_there {R} P n (d ∷ ds) some all = by_bool (nat_eq d.number n) (λ b. is_some (cond b (Some d.rows) (table_of n ds)) ≡ true → P n)
    (λ same _. subst P (equal_by d.number n same) all.0) (λ _ is. stage_there P n ds is all.1) some

-- an address of a family has 128 bits, and no more of its prefixes
address_fits : (v6 : Bool) (addr : ℕ) → IsAddress v6 addr → addr < 2 ^ 128
address_fits true addr is = is
address_fits false addr is = is.0

few_bits : (v6 : Bool) → bits_of v6 ≤ width
few_bits true = omega arith
few_bits false = omega arith

module _ (m : Moment) (stands : Stands m) (printable : IsPrintableMoment m) where
  abbrev Printed : List Line → Type 0
  Printed said = AllByRecursion (IsPrinted (printing m.declared)) said

  -- what stands at the beginning
  abbrev start : IsShown m
  start = shown m printable

  -- where the exits alone became others
  exits_leave : (n : Moment) (said : List Line) → n.chains ≡ m.chains → n.tree ≡ m.tree → n.hops ≡ m.hops → n.rib ≡ m.rib → ArePrintableExits m.declared.profile (printing m.declared) n.exits → Printed said → Leaves m.declared.profile (printing m.declared) n said
  exits_leave n said chains tree hops rib exits printed = record {
    chains = subst (λ a. (k : ℕ) (c : Chained) → chain_at k a ≡ Some c → IsPrintableChain m.declared.profile c) (sym chains) printable.chains;
    interior = subst (λ t. (proto : Proto) → AreTablesOf (IsInteriorRow m.declared.v6) (branch_of proto t).tables) (sym tree) printable.interior;
    hops = subst AllHaveMetrics (sym hops) printable.hops;
    ways = subst (λ x. HaveWays m.declared.v6 x.forwarding) (sym rib) printable.ways;
    exits = exits;
    printed = printed;
  }

  stays : (said : List Line) (m' : Moment) → m' ≡ m → Printed said → Leaves m.declared.profile (printing m.declared) m' said
  stays said m' same printed = subst (λ (x : Moment). Leaves m.declared.profile (printing m.declared) x said) (sym same) (exits_leave m said refl refl refl refl printable.exits printed)

  just : (these : List Line) (then : Moment) (said : List Line) (turns : ℕ) (m' : Moment) → Just these then said turns m' → Leaves m.declared.profile (printing m.declared) then these → Leaves m.declared.profile (printing m.declared) m' said
  just these then said turns m' is leaves =
      subst (λ (x : Moment). Leaves m.declared.profile (printing m.declared) x said) (sym is.2) (subst (λ (l : List Line). Leaves m.declared.profile (printing m.declared) then l) (sym is.0) leaves)

  -- ---- lines without values
  begun : (link : Link) → IsNamed link → IsPrinted (printing m.declared) (begin_line link)
  begun link named = plain_printed (printing m.declared) (begin_line link) refl refl named

  ignored : IsPrinted (printing m.declared) lines.Ignored
  ignored = plain_printed (printing m.declared) lines.Ignored refl refl tt

  absent : IsPrinted (printing m.declared) lines.Absent
  absent = plain_printed (printing m.declared) lines.Absent refl refl tt

  covered : (addr : ℕ) (said : List Line) → IsAddress m.declared.v6 addr → CoversAddress addr m said → Printed said
  covered addr said is covers =
      let sub = covers.cover.subnet in
      let low = sub.holds.from in
      let fits = address_fits m.declared.v6 addr is in
      let most = bits_of m.declared.v6 in
      let few = subnet_short width most (int_rows m.tree) addr (matched covers.found) covers.subnet (few_bits m.declared.v6) short (ap matched covers.cover.longest_is) sub in
      subst Printed (sym covers.line)
      (plain_printed (printing m.declared) _ refl refl (is, by_match covers.found covers.cover.longest_is, record { masked = sub.masked; fits = omega (arith, low, fits); short = few }), tt)
    where
      short : AreShort (bits_of m.declared.v6) (int_rows m.tree)
      short p longer = by_row (int_rows m.tree p) refl
        where
          by_row : (o : Option Interior) → int_rows m.tree p ≡ o → o ≡ None
          by_row None at = refl
          by_row (Some row) at = absurd (let is = int_prints (printing m.declared) m.tree printable.interior p row at in omega (arith, is.0.short, longer))

      by_match : (found : Option (AddressPrefix × Interior)) → found ≡ longest width (int_rows m.tree) addr → IsMatch m.declared.v6 (matched found)
      by_match None is = tt
      by_match (Some r) is =
          let is_longest : IsLongest width (int_rows m.tree) addr (Some r) = subst (IsLongest width (int_rows m.tree) addr) (sym is) (longest_is width (int_rows m.tree) addr) in
          (int_prints (printing m.declared) m.tree printable.interior r.0 r.1 is_longest.2).0

  -- ---- names of tasks that have work
  has_chain : (k : ℕ) → IsSome (chain_at k m.chains) → IsNameNumber k
  has_chain k some = let small = stands.peers.numbers k some in let most = small.1 in (small.0, omega (arith, most))

  task_named : (task : Task) → has_work task m ≡ true → IsNamedTask task
  task_named (tasks.Rdel proto n) works = stage_there IsNameNumber n (branch_of proto m.tree).tables.deletions works (printable.interior proto).losses
  task_named tasks.Red works = tt
  task_named (tasks.Del k s) works = of_chain (chain_at k m.chains) refl works
    where
      of_chain : (o : Option Chained) → chain_at k m.chains ≡ o → has_turn_in (tasks.Del k s) o ≡ true → IsNameNumber k × IsNameNumber s
      of_chain None at e = absurd (let clash : false ≡ true = e in cc)
      of_chain (Some c) at e = (has_chain k (ap is_some at), stage_there IsNameNumber s c.incoming.tables.deletions (second_true (k == c.incoming.number) _ e) (printable.chains k c at).tables.losses)
  task_named (tasks.Fin k) works = of_chain (chain_at k m.chains) refl works
    where
      of_chain : (o : Option Chained) → chain_at k m.chains ≡ o → has_turn_in (tasks.Fin k) o ≡ true → IsNameNumber k
      of_chain None at e = absurd (let clash : false ≡ true = e in cc)
      of_chain (Some c) at e = has_chain k (ap is_some at)
  task_named (tasks.Nh k) works = of_hops (resolver_at k m.hops) refl works
    where
      of_hops : (o : Option (Resolving Metric)) → resolver_at k m.hops ≡ o → busy_by o ≡ true → IsNameNumber k
      of_hops None at e = absurd (let clash : false ≡ true = e in cc)
      of_hops (Some s) at e = has_chain k (sym (stands.hops.same k) ∙ ap is_some at)
  task_named tasks.ReadRib works = tt
  task_named (tasks.Out k) works = of_exit m.declared.speaker (peer_at k m.declared.peers) (exit_at k m.exits) refl refl (stands.exits.sessions k) works
    where
      of_exit : (s : Option Speaker) (p : Option DeclaredPeer) (o : Option OutChained) → peer_at k m.declared.peers ≡ p → exit_at k m.exits ≡ o → ExitsAt s m.outgoing k p o → exit_busy m.exits.queue o ≡ true → IsNameNumber k
      of_exit s p None there at is e = absurd (let clash : false ≡ true = e in cc)
      of_exit (Some me) (Some p) (Some c) there at is e = named_by m stands start k p there
      of_exit (Some me) None (Some c) there at is e = absurd is
      of_exit None p (Some c) there at is e = absurd is
  task_named tasks.Ext works = tt
  task_named (tasks.Ref k) works = of_exit m.declared.speaker (peer_at k m.declared.peers) (exit_at k m.exits) refl (stands.exits.sessions k) works
    where
      of_exit : (s : Option Speaker) (p : Option DeclaredPeer) (o : Option OutChained) → peer_at k m.declared.peers ≡ p → ExitsAt s m.outgoing k p o → refreshing o ≡ true → IsNameNumber k
      of_exit s p None there is e = absurd (let clash : false ≡ true = e in cc)
      of_exit (Some me) (Some p) (Some c) there is e = named_by m stands start k p there
      of_exit (Some me) None (Some c) there is e = absurd is
      of_exit None p (Some c) there is e = absurd is

  settled : (p : AddressPrefix) (said : List Line) → IsPrefixOf m.declared.v6 p → TellsSettled p m said → Printed said
  settled p said prefix tells = subst Printed (sym tells.line) (plain_printed (printing m.declared) _ refl refl (prefix, by_answer tells.answer tells.tells.works), tt)
    where
      by_answer : (o : Option Task) → IfSome o (λ task. has_work task m ≡ true) → IsNamedIfAny o
      by_answer None works = tt
      by_answer (Some task) works = task_named task works

  module _ (few : AreNumbered 4294967294 m.tree) where
    asked : (link : Link) (p : AddressPrefix) → IsNamed link → IsPrefixOf m.declared.v6 p → (of : Option (Rows Value)) → router_links m link ≡ of → Printed (answer_lines link p of)
    asked link p named prefix None at = (absent, tt)
    asked link p named prefix (Some rows) at = (answer_printed (printing m.declared) link rows named (λ q v is. links_print m stands printable link rows q v at is) p prefix, tt)

    listed : (link : Link) → IsNamed link → (of : Option (Rows Value)) → router_links m link ≡ of → (said : List Line) → Shows link of said → Printed said
    listed link named None at said is = subst Printed (sym is) (absent, tt)
    listed link named (Some rows) at said is =
        subst Printed (sym is.2) (all_both (IsPrinted (printing m.declared)) _ _ (rows_printed (printing m.declared) link rows named (λ p v here. links_print m stands printable link rows p v at here) is.0 is.1.each) (plain_printed (printing m.declared) _ refl refl (named, is.3), tt))

    -- ---- where nothing is declared
    leaves : (said : List Line) (m' : Moment) (inner : List Line) → Goes m inner m' → (ArePrinted m.declared inner → Printed said) → Leaves m.declared.profile (printing m.declared) m' said
    leaves said m' inner goes printed =
        let x = goes.prints printable in
        subst (λ (d : Declaration). Leaves d.profile (printing d) m' said) goes.same (record { chains = x.now.chains; interior = x.now.interior; hops = x.now.hops; ways = x.now.ways; exits = x.now.exits; printed = subst (λ (d : Declaration). ArePrinted d said) (sym goes.same) (printed x.lines) })

    gone : (said : List Line) (m' : Moment) → Goes m said m' → Leaves m.declared.profile (printing m.declared) m' said
    gone said m' goes = leaves said m' said goes (λ printed. printed)

    -- ---- losses of sessions
    lost : (k s : ℕ) (said : List Line) (m' : Moment) → IsNameNumber s → Loses k s m said m' → Leaves m.declared.profile (printing m.declared) m' said
    lost k s said m' session l =
        let silent = end_is_printed m.declared.profile (printing m.declared) k m.exits l.silenced l.entries printable.exits l.ends in
        let ended = (silenced k m l.silenced l.entries stands l.ends).stands in
        let goes = first_goes (overdue_at k m.chains) (with_exits m l.silenced) l.first l.room ended l.runs in
        let x = goes.prints (record { family = printable.family; declared = printable.declared; chains = printable.chains; interior = printable.interior; hops = printable.hops; ways = printable.ways; exits = silent.exits }) in
        let room = (first_works (overdue_at k m.chains) (with_exits m l.silenced) l.first l.room ended l.runs).stands in
        let i = l.loses in
        let c = i.part.loses.chain in
        let own : IsFit (printing m.declared) m.declared.profile c = subst (λ (d : Declaration). IsFit (printing d) d.profile c) goes.same (chain_fit l.room room (shown l.room x.now) k c i.part.loses.at).0 in
        let begins : Printed l.last = subst Printed (sym (i.lines ∙ ap journal_lines i.part.loses.lines)) (elim (is_empty_map c.incoming.tables.live) as (λ (b : Bool). Printed (journal_lines (cond b [] (entries.Begin (links.Peer c.incoming.number s) ∷ [])))) [
          | true ↦ tt
          | false ↦ (begun (links.Peer c.incoming.number s) (own.named, session), tt)
        ]) in
        let chains = put_each (λ j d. IsPrintableChain m.declared.profile d) k _ l.room.chains
        (record { tables = lost_printable (Heard (printing m.declared) m.declared.profile c) s c.incoming.tables session own.printable.tables; in_force = own.printable.in_force; walk = own.printable.walk }) (subst (λ (d : Declaration). (j : ℕ) (e : Chained) → chain_at j l.room.chains ≡ Some e → IsPrintableChain d.profile e) goes.same x.now.chains) in
        subst (λ (n : Moment). Leaves m.declared.profile (printing m.declared) n said) (sym l.after) (record {
          chains = subst (λ (n : Moment). (j : ℕ) (d : Chained) → chain_at j n.chains ≡ Some d → IsPrintableChain m.declared.profile d) (sym (i.after ∙ ap (λ a. record l.room { chains = a }) i.part.loses.after)) chains;
          interior = subst (λ (n : Moment). (proto : Proto) → AreTablesOf (IsInteriorRow m.declared.v6) (branch_of proto n.tree).tables) (sym i.after)
              (subst (λ (d : Declaration). (proto : Proto) → AreTablesOf (IsInteriorRow d.v6) (branch_of proto l.room.tree).tables) goes.same x.now.interior);
          hops = subst (λ (n : Moment). AllHaveMetrics n.hops) (sym i.after) x.now.hops;
          ways = subst (λ (n : Moment). HaveWays m.declared.v6 n.rib.forwarding) (sym i.after) (subst (λ (d : Declaration). HaveWays d.v6 l.room.rib.forwarding) goes.same x.now.ways);
          exits = subst (λ (n : Moment). ArePrintableExits m.declared.profile (printing m.declared) n.exits) (sym i.after) (subst (λ (d : Declaration). ArePrintableExits d.profile (printing d) l.room.exits) goes.same x.now.exits);
          printed = subst Printed (sym l.lines) (all_both (IsPrinted (printing m.declared)) (journal_lines l.entries) (l.first ++ l.last) silent.lines (all_both (IsPrinted (printing m.declared)) l.first l.last x.lines begins));
        })

    -- ---- messages
    changes_said : (w : Neighbour) (octets : List ℕ) (u : Update) → AreOctets octets → Reads m.declared.profile (not w.internal) octets (messages.Update u) → AllByRecursion (IsSaid m.declared.profile w) (changes_of m.declared.profile u)
    changes_said w octets u are reads =
        let readable = read_is_readable m.declared.profile (not w.internal) octets u are reads m.declared.profile.second in
        all_both (IsSaid m.declared.profile w) (map withdrawn_from (without s.announced s.withdrawn)) _ (withdrawn _ (every_filter IsOne _ s.withdrawn (all_every IsOne s.withdrawn readable.withdrawn)))
        (announced s.attrs refl (filter host s.announced) (every_filter IsOne host s.announced (all_every IsOne s.announced readable.announced)))
      where
        s : Said
        s = said_of m.declared.profile.second u

        host : AddressPrefix → Bool
        host = is_host_prefix m.declared.profile.second

        IsOne : AddressPrefix → Type 0
        IsOne = IsPrefixOf m.declared.profile.second

        withdrawn : (ns : List AddressPrefix) → Every IsOne ns → AllByRecursion (IsSaid m.declared.profile w) (map withdrawn_from ns)
        withdrawn [] each = tt
        withdrawn (n ∷ ns) each = ((each.0, tt), withdrawn ns each.1)

        attrs_said : (o : Option Attrs) → s.attrs ≡ o → IfSome o (WasHeard m.declared.profile (not w.internal))
        attrs_said None at = tt
        attrs_said (Some a) at = (octets, u, are, reads, at)

        announced : (o : Option Attrs) → s.attrs ≡ o → (ns : List AddressPrefix) → Every IsOne ns → AllByRecursion (IsSaid m.declared.profile w) (map (announced_with o) ns)
        announced o at [] each = tt
        announced o at (n ∷ ns) each = ((each.0, attrs_said o at), announced o at ns each.1)

    heard : (k : ℕ) (p : DeclaredPeer) (octets : List ℕ) (message : Message) (said : List Line) (m' : Moment) → peer_at k m.declared.peers ≡ Some p → p.up ≡ true → AreOctets octets → Says m.declared.profile p octets message → Hears k p m message said m'
        → Leaves m.declared.profile (printing m.declared) m' said
    heard k p octets (messages.Update u) said m' at up are says hears = gone said m' (feeds_go k p.words (changes_of m.declared.profile u) m said m' stands (p, at, up) (changes_heard m.declared.profile u (message_heard m.declared.profile (not p.words.internal) octets (messages.Update u) are says)) (ap words_in at) (changes_said p.words octets u are says) hears)
    heard k p octets messages.Keepalive said m' at up are says hears = stays said m' hears.1 (subst Printed (sym hears.0) tt)
    heard k p octets messages.Skip said m' at up are says hears = stays said m' hears.1 (subst Printed (sym hears.0) tt)
    heard k p octets (messages.Refresh r) said m' at up are says hears = subst (λ (x : Moment). Leaves m.declared.profile (printing m.declared) x said) (sym hears.1) (by_served (is_served m.declared.profile.second r))
      where
        by_served : (b : Bool) → Leaves m.declared.profile (printing m.declared) (cond b (with_exits m (refreshed_exits k m.exits)) m) said
        by_served true = exits_leave (with_exits m (refreshed_exits k m.exits)) said refl refl refl refl (refresh_is_printed m.declared.profile (printing m.declared) k m.exits printable.exits) (subst Printed (sym hears.0) tt)
        by_served false = stays said m refl (subst Printed (sym hears.0) tt)
    heard k p octets messages.Notification said m' at up are says hears = lost k p.session said m' (session_named m stands start k p at up) hears
    heard k p octets (messages.Notify n) said m' at up are says hears =
        let l = lost k p.session hears.0 m' (session_named m stands start k p at up) hears.2 in
        record { chains = l.chains; interior = l.interior; hops = l.hops; ways = l.ways; exits = l.exits; printed = subst Printed (sym hears.1) (note_printed (printing m.declared) k _ (named_by m stands start k p at) hears.3.each hears.3.few, l.printed) }

    -- ---- interior routes
    fed : (proto : Proto) (p : AddressPrefix) (row : Option Interior) (said : List Line) (m' : Moment) → IsSome m.declared.speaker → IsPrefixOf m.declared.v6 p → IfSome row (IsInteriorRow m.declared.v6 p) → FallsRoute m (fed_tree m.tree proto p row) proto p (way_of_route proto m.tree) said m'
        → Leaves m.declared.profile (printing m.declared) m' said
    fed proto p row said m' since prefix new falls =
        let b = branch_of proto m.tree in
        let own = tree_fit m stands start proto in
        let goes = routed m proto p row said m' stands since falls in
        let few_then : length (fed_branch b p row).tables.deletions ≤ 16 = (let same = few_fed b p row in let was = stands.interior.few proto in omega (arith, same, was)) in
        let me = speaker_of m.declared.speaker since in
        gone said m' (record {
          same = ap (λ (l : LiveState). l.declared) goes.live;
          prints = λ _. route_prints proto (fed_branch b p row) p (way_of_route proto m.tree) m said m' me.0 stands me.1 few_then goes.stands printable (fed_fit (IsInteriorRow m.declared.v6) b.tables p row own new) falls prefix (route_way proto m.tree own.rising own.printable.losses);
        })

    protocol_lost : (proto : Proto) (said : List Line) (m' : Moment) → LosesProtocol proto m said m' → Leaves m.declared.profile (printing m.declared) m' said
    protocol_lost proto said m' l =
        let goes = first_goes (tree_overdue proto m.tree) m l.first l.room stands l.runs in
        let x = goes.prints printable in
        let room = first_works (tree_overdue proto m.tree) m l.first l.room stands l.runs in
        let b = branch_of proto l.room.tree in
        let inner = subst (λ (d : Declaration). (q : Proto) → AreTablesOf (IsInteriorRow d.v6) (branch_of q l.room.tree).tables) goes.same x.now.interior in
        let was = few proto in
        let same : b.losses ≡ (branch_of proto m.tree).losses = ap (λ (s : LiveState). s.losses proto) room.live in
        let named : IsNameNumber (b.losses + 1) = (omega arith, omega (arith, was, same)) in
        let begins : Printed (journal_lines (tree_loss_entries proto l.room.tree)) = elim (is_empty_map b.tables.live) as (λ (e : Bool). Printed (journal_lines (cond e [] (entries.Begin (links.Lost b.proto (b.losses + 1)) ∷ [])))) [
          | true ↦ tt
          | false ↦ (begun (links.Lost b.proto (b.losses + 1)) named, tt)
        ] in
        subst (λ (n : Moment). Leaves m.declared.profile (printing m.declared) n said) (sym l.after) (record {
          chains = subst (λ (d : Declaration). (k : ℕ) (c : Chained) → chain_at k l.room.chains ≡ Some c → IsPrintableChain d.profile c) goes.same x.now.chains;
          interior = put_all (λ (y : Branch). AreTablesOf (IsInteriorRow m.declared.v6) y.tables) proto (lost_branch b) l.room.tree (lost_printable (IsInteriorRow m.declared.v6) (b.losses + 1) b.tables named (inner proto)) inner;
          hops = x.now.hops;
          ways = subst (λ (d : Declaration). HaveWays d.v6 l.room.rib.forwarding) goes.same x.now.ways;
          exits = subst (λ (d : Declaration). ArePrintableExits d.profile (printing d) l.room.exits) goes.same x.now.exits;
          printed = subst Printed (sym l.lines) (all_both (IsPrinted (printing m.declared)) l.first _ x.lines begins);
        })

    -- ---- each event
    by_peer : (P : DeclaredPeer → Type 0) (k : ℕ) (A : Type 0) → ((p : DeclaredPeer) → peer_at k m.declared.peers ≡ Some p → P p → A) → ByPeer P (peer_at k m.declared.peers) → A
    by_peer P k A then is = by_found (peer_at k m.declared.peers) refl is
      where
        by_found : (o : Option DeclaredPeer) → peer_at k m.declared.peers ≡ o → ByPeer P o → A
        by_found None at is = absurd is
        by_found (Some p) at is = then p at is

    declared : (speaker : Option Speaker) (k : ℕ) (words : Speaker) (client : Bool) (said : List Line) (turns : ℕ) (m' : Moment) → IsNameNumber k → Declares m speaker k words client said turns m' → Leaves m.declared.profile (printing m.declared) m' said
    declared None k words client said turns m' named is = absurd is
    declared (Some me) k words client said turns m' named is = just _ _ said turns m' is (record {
      chains = put_each (λ j c. IsPrintableChain m.declared.profile c) k _ m.chains (record { tables = none_printable _; in_force = All-nil (IsRule m.declared.profile.second m.declared.profile.as4); walk = tt }) printable.chains;
      interior = printable.interior;
      hops = metrics_put k (nothing_known k) m.hops _ refl (λ a h at. absurd (let none = get-empty {X = Hop Metric} nat_cmp a in cc)) printable.hops;
      ways = printable.ways;
      exits = printable.exits;
      printed = (begun (links.In k) named, (begun (links.Filt k) named, (begun (links.Res k) named, tt)));
    })

    refiltered : (k : ℕ) (rules : List Rule) (said : List Line) (turns : ℕ) (m' : Moment) → AreRules m.declared.profile.second m.declared.profile.as4 rules → Refilters k rules m said turns m' → Leaves m.declared.profile (printing m.declared) m' said
    refiltered k rules said turns m' are is =
        let e = is.1.edits in
        let chains = put_each (λ j c. IsPrintableChain m.declared.profile c) k _ m.chains (edited_printable m.declared.profile e.chain rules (printable.chains k e.chain e.at) are) printable.chains in
        just [] _ said turns m' is.2 (record { chains = subst (λ a. (j : ℕ) (c : Chained) → chain_at j a ≡ Some c → IsPrintableChain m.declared.profile c) (sym e.after) chains; interior = printable.interior; hops = printable.hops; ways = printable.ways; exits = printable.exits; printed = tt })

    -- ---- the exits
    redirected : (k : ℕ) (rules : List Rule) (said : List Line) (turns : ℕ) (m' : Moment) → Redirects k rules m said turns m' → Leaves m.declared.profile (printing m.declared) m' said
    redirected k rules said turns m' is = just [] _ said turns m' is.2 (exits_leave _ _ refl refl refl refl (edit_is_printed m.declared.profile (printing m.declared) k rules m.exits is.0 printable.exits is.1) tt)

    begins : (me : Speaker) (k : ℕ) (p : DeclaredPeer) (said : List Line) (m' : Moment) → peer_at k m.declared.peers ≡ Some p → Begins me k p m said m' → Leaves m.declared.profile (printing m.declared) m' said
    begins me k p said m' at b =
        let known = known_at m stands start k p at in
        let most = known.session in
        let named : IsNamed (links.Adv p.words.number (p.session + 1)) = (subst IsNameNumber (sym known.number) (named_by m stands start k p at), (omega arith, omega (arith, most))) in
        let x = beginning_is_printed m.declared.profile (printing m.declared) me p.words (p.session + 1) (rules_to k m.outgoing) m.exits m'.exits b.entries named printable.exits b.begins in
        subst (λ (n : Moment). Leaves m.declared.profile (printing m.declared) n said) (sym b.after) (exits_leave _ _ refl refl refl refl x.exits (subst Printed (sym b.lines) x.lines))

    begun_by : (s : Option Speaker) (k : ℕ) (p : DeclaredPeer) (said : List Line) (m' : Moment) → peer_at k m.declared.peers ≡ Some p → BySpeaker (λ me. Begins me k p m said m') s → Leaves m.declared.profile (printing m.declared) m' said
    begun_by None k p said m' at is = absurd is
    begun_by (Some me) k p said m' at is = begins me k p said m' at is

    begun_if : (up : Bool) (k : ℕ) (p : DeclaredPeer) (said : List Line) (turns : ℕ) (m' : Moment) → peer_at k m.declared.peers ≡ Some p → BeginsIf up m k p said turns m' → Leaves m.declared.profile (printing m.declared) m' said
    begun_if true k p said turns m' at is = just _ m said turns m' is (stays _ m refl (ignored, tt))
    begun_if false k p said turns m' at is = begun_by m.declared.speaker k p said m' at is.1

    ended_if : (up : Bool) (k : ℕ) (p : DeclaredPeer) (said : List Line) (turns : ℕ) (m' : Moment) → p.up ≡ up → peer_at k m.declared.peers ≡ Some p → EndsIf up m k p said turns m' → Leaves m.declared.profile (printing m.declared) m' said
    ended_if true k p said turns m' up at is = lost k p.session said m' (session_named m stands start k p at up) is.1
    ended_if false k p said turns m' up at is = just _ m said turns m' is (stays _ m refl (ignored, tt))

    heard_if : (up : Bool) (k : ℕ) (p : DeclaredPeer) (octets : List ℕ) (said : List Line) (turns : ℕ) (m' : Moment) → p.up ≡ up → peer_at k m.declared.peers ≡ Some p → AreOctets octets → HearsIf up m k p octets said turns m' → Leaves m.declared.profile (printing m.declared) m' said
    heard_if true k p octets said turns m' up at are is = heard k p octets is.1.0 said m' at up are is.1.1 is.1.2
    heard_if false k p octets said turns m' up at are is = just _ m said turns m' is (stays _ m refl (ignored, tt))

    dropped_if : (has : Bool) (proto : Proto) (p : AddressPrefix) (said : List Line) (turns : ℕ) (m' : Moment) → IsSome m.declared.speaker → IsPrefixOf m.declared.v6 p → DropsRouteIf has proto p m said turns m' → Leaves m.declared.profile (printing m.declared) m' said
    dropped_if false proto p said turns m' since prefix is = just _ m said turns m' is (stays _ m refl (ignored, tt))
    dropped_if true proto p said turns m' since prefix is = fed proto p None said m' since prefix tt is.1

    answered : (question : Question) (said : List Line) → IsQuestion m.declared.v6 question → Answers question m said → Printed said
    answered (Cover addr) said formed is = covered addr said formed is
    answered (Settled p) said formed is = settled p said formed is
    answered (Ask link p) said formed is = subst Printed (sym is) (asked link p formed.0 formed.1 (router_links m link) refl)
    answered (Show link) said formed is = listed link formed (router_links m link) refl said is

    -- before `local` nothing stands that could be printed
    profiled_printed : (profile : Profile) (said : List Line) (turns : ℕ) (m' : Moment) → profile.second ≡ m.declared.v6 → m.declared.speaker ≡ None → Just [] (profiled m profile) said turns m' → Leaves profile (printing m.declared) m' said
    profiled_printed profile said turns m' family first is =
        subst (λ (x : Moment). Leaves profile (printing m.declared) x said) (sym is.2) (subst (λ (l : List Line). Leaves profile (printing m.declared) (profiled m profile) l) (sym is.0) (record {
          chains = λ k c at. absurd (let none = no_chain m stands first k in cc);
          interior = printable.interior;
          hops = printable.hops;
          ways = printable.ways;
          exits = nothing_printable profile (printing m.declared) family;
          printed = tt;
        }))

    pub event_printed : (event : Event) (said : List Line) (turns : ℕ) (m' : Moment) → refusal m.declared event ≡ None → IsWellFormed m.declared.v6 m.declared.profile event → IsBlock m event said turns m' → Leaves (profile_after m.declared.profile event) (printing m.declared) m' said
    event_printed (Whole word) said turns m' admitted formed is = profiled_printed (with_whole word m.declared.profile) said turns m' (whole_second word m.declared.profile ∙ printable.exits.family) (whole_is_first m.declared word admitted) is
    event_printed Nothing said turns m' admitted formed is = just [] m said turns m' is (stays [] m refl tt)
    event_printed (Local words) said turns m' admitted formed is =
        let l = is.1 in
        let inherits = plain_printed (printing m.declared) (lines.Journal (entries.Inherit links.ReadRib links.Best)) refl refl (tt, tt) in
        subst (λ (n : Moment). Leaves m.declared.profile (printing m.declared) n said) (sym l.after) (exits_leave _ _ refl refl refl refl (join_is_printed m.declared.profile (printing m.declared) l.reader m.exits printable.exits)
        (subst Printed (sym l.lines) (begun (links.Org Connected) tt, (begun (links.Org Static) tt, (begun (links.Org Ospf) tt, (begun (links.Org Rip) tt, (begun links.Low tt, (begun links.Dyn tt, (begun links.Int tt, (begun links.Red tt, (begun links.Best tt, (inherits, (begun links.Ebgp tt, (begun links.Ibgp tt, (begun links.Ext tt, (begun links.Fib tt, tt))))))))))))))))
    event_printed (Peer k words client) said turns m' admitted formed is = declared m.declared.speaker k words client said turns m' (formed.0.least, formed.0.fits) is
    event_printed (Up k) said turns m' admitted formed is = by_peer (λ p. BeginsIf p.up m k p said turns m') k _ (λ p at begins. begun_if p.up k p said turns m' at begins) is
    event_printed (Down k) said turns m' admitted formed is = by_peer (λ p. EndsIf p.up m k p said turns m') k _ (λ p at ends. ended_if p.up k p said turns m' refl at ends) is
    event_printed (Bgp k octets) said turns m' admitted formed is = by_peer (λ p. HearsIf p.up m k p octets said turns m') k _ (λ p at hears. heard_if p.up k p octets said turns m' refl at formed.1.bytes hears) is
    event_printed (FilterIn k rules) said turns m' admitted formed is = refiltered k rules said turns m' (subst (λ (v6 : Bool). AreRules v6 m.declared.profile.as4 rules) (sym printable.family.second) formed.1) is
    event_printed (FilterOut k rules) said turns m' admitted formed is = redirected k rules said turns m' is
    event_printed (RouteAdd p row) said turns m' admitted formed is =
        let prefix : IsPrefixOf m.declared.v6 p = formed.0 in
        let own = formed.1 in
        fed row.proto p (Some row) said m' (speaker_since m.declared (RouteAdd p row) (λ e. cc) admitted) prefix (record { prefix = prefix; printed = λ all. record { well_told = record { ranges = (own.name, own.metric); told = own.gateway }; short = tt } }) is.1
    event_printed (RouteDel proto p) said turns m' admitted formed is = dropped_if _ proto p said turns m' (speaker_since m.declared (RouteDel proto p) (λ e. cc) admitted) formed is
    event_printed (Lose proto) said turns m' admitted formed is = protocol_lost proto said m' is.1
    event_printed (Redist proto on) said turns m' admitted formed is = just [] _ said turns m' is (record { chains = printable.chains; interior = printable.interior; hops = printable.hops; ways = printable.ways; exits = printable.exits; printed = tt })
    event_printed Idle said turns m' admitted formed is =
        let within = is.within in
        let fits = is.fits in
        leaves said m' is.inner (phases_go all_phases m is.inner turns m' stands is.runs) (λ inner. subst Printed (sym is.lines) (
          plain_printed (printing m.declared) _ refl refl fits,
          all_both (IsPrinted (printing m.declared)) is.inner (lines.Idle turns ∷ []) inner (plain_printed (printing m.declared) (lines.Idle turns) refl refl (omega (arith, within, fits)), tt),
        ))
    event_printed (Work task n) said turns m' admitted formed is =
        let most = is.most in
        let low = formed.1 in
        leaves said m' is.inner (turns_go turns task m is.inner m' stands is.taken) (λ inner. subst Printed (sym is.lines) (all_both (IsPrinted (printing m.declared)) is.inner (lines.Work turns ∷ []) inner (plain_printed (printing m.declared) (lines.Work turns) refl refl (omega (arith, most, low)), tt)))
    event_printed (Query question) said turns m' admitted formed is = stays said m' is.1 (answered question said formed is.2)
