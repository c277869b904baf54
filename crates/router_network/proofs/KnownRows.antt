-- What the decision's state knows within a step: behind a change of `res.K`, of `filt.K`, of `red` and of `int`.
use Rattle.router_moments.proofs.CoreLemmas.{readers_of}
use Rattle.router_moments.proofs.Common.{HaveReaders, get-empty, nat_cmp, cond, sym, subst, ◌∙◌, ap, ◌≡◌, ℕ, refl, List, true, arith, false, Bool, ◌≤◌, ◌<◌, suc, zero, ◌≢◌, AddressPrefix, Route, Speaker, Declaration, Exited, Resolvers, res_at, ComesOn, GoesOn, IsSent, Rows, CoversRows, Candidates, Change, Turn, Passed, Protos, passed_rows, redistributed, Chained, filt_rows, filt_candidates, chain_at, Chains, filt_at, filt_by, Registry, Interior, int_rows, Treed, int_candidates, own_rows, lent_rows, Moment, own_of, with_exits, with_hops, with_chains, with_redist, with_tree, Stands, Resolves, Entry, Value, Line, Proto, Journaled, sent_of}
use Rattle.std.proofs.Common.{Option, Some, None, is_some, IsSome, nat_lt}
use Rattle.std.specs.FinMap as tables
use Rattle.loss_chain.proofs.TableLemmas.{other_by}
use Rattle.pass_core.specs.Turns.{IsPassedOn, Walks, IsWalked}
use Rattle.link_change.specs.declared.turn.Turn.TheVariants as turns
use Rattle.decision.specs.Branches.{AllRows}
use Rattle.decision.specs.Contests.{Knows, Counts, KnowsBefore}
use Rattle.hop_side.specs.Steps.{TurnsBelow, ComesBelow}
use Rattle.journal_text.specs.declared.link.Task.TheVariants.{Rdel}
use Rattle.rib_tree.specs.Steps.{IsTakenTree, lost_tree}
use Rattle.router_moments.specs.Works.{EndsProtocol, Informs}
use Rattle.peer_side.specs.Steps.{WeldsInward}
use Rattle.router_moments.specs.Bests.{candidates_by}
use Rattle.router_moments.specs.Moments.{first_moment}
use Rattle.router_moments.specs.Turns.{ResolvesOn}
use Rattle.router_moments.proofs.BestLemmas.{comes_none}
use Rattle.router_moments.proofs.OwnTurns.{own_sent}
use Rattle.router_moments.proofs.RibLinks.{own_rows_are}
use Rattle.router_network.specs.Informed.{Contested, Informed, InformedOver, KnowsBut, KnowsAbove, KnowsOwn, KnowsOver, KeepsPrefix, KeepsCounts, rows_over, own_over, counted_over, branch_rows, branch_candidates}
use Rattle.router_network.proofs.BranchRows.{lent_over, lent_are, lent_covered, quiet_rows, reached_rows, over_comes}
use Rattle.router_network.proofs.Counting.{kept_there, not_both_none}

-- ---- the same state of another moment
pub informed_as : (contests : Contested) (m m' : Moment) → branch_rows m' ≡ branch_rows m → branch_candidates m' ≡ branch_candidates m → Informed contests m → Informed contests m'
informed_as contests m m' rows candidates i = record { knows = subst (Knows contests) (sym rows) i.knows; counts = subst (Counts contests) (sym candidates) i.counts }

-- what no branch is made of may change
pub same_rows : (m m' : Moment) → m'.declared.speaker ≡ m.declared.speaker → m'.tree ≡ m.tree → m'.redist ≡ m.redist → m'.chains ≡ m.chains → m'.hops ≡ m.hops → branch_rows m' ≡ branch_rows m
same_rows m m' speaker tree redist chains hops =
    ap (λ (x : Option Speaker). lent_rows (own_rows x m'.redist (int_rows m'.tree)) m'.chains m'.hops) speaker ∙ ap (λ (x : Treed). lent_rows (own_rows m.declared.speaker m'.redist (int_rows x)) m'.chains m'.hops) tree
    ∙ ap (λ (x : Passed Protos). lent_rows (own_rows m.declared.speaker x (int_rows m.tree)) m'.chains m'.hops) redist ∙ ap (λ (x : Chains). lent_rows (own_of m) x m'.hops) chains ∙ ap (lent_rows (own_of m) m.chains) hops

same_candidates : (m m' : Moment) → m'.declared.speaker ≡ m.declared.speaker → m'.tree ≡ m.tree → m'.redist ≡ m.redist → m'.chains ≡ m.chains → branch_candidates m' ≡ branch_candidates m
same_candidates m m' speaker tree redist chains =
    ap (λ (x : Option Speaker). counted_over (own_rows x m'.redist (int_rows m'.tree)) m'.chains) speaker ∙ ap (λ (x : Treed). counted_over (own_rows m.declared.speaker m'.redist (int_rows x)) m'.chains) tree
    ∙ ap (λ (x : Passed Protos). counted_over (own_rows m.declared.speaker x (int_rows m.tree)) m'.chains) redist ∙ ap (counted_over (own_of m)) chains

pub informed_same : (contests : Contested) (m m' : Moment) → m'.declared.speaker ≡ m.declared.speaker → m'.tree ≡ m.tree → m'.redist ≡ m.redist → m'.chains ≡ m.chains → m'.hops ≡ m.hops → Informed contests m → Informed contests m'
informed_same contests m m' speaker tree redist chains hops i = informed_as contests m m' (same_rows m m' speaker tree redist chains hops) (same_candidates m m' speaker tree redist chains) i

-- where this speaker's own rows are the same
pub informed_own : (contests : Contested) (m : Moment) (own : Rows Route) → own ≡ own_of m → Informed contests m → (m' : Moment) → branch_rows m' ≡ lent_rows own m.chains m.hops → branch_candidates m' ≡ counted_over own m.chains → Informed contests m'
informed_own contests m own same i m' rows candidates =
    informed_as contests m m' (rows ∙ ap (λ (o : Rows Route). lent_rows o m.chains m.hops) same) (candidates ∙ ap (λ (o : Rows Route). counted_over o m.chains) same) i

-- every row of a branch stands at a candidate
pub branch_covered : (m : Moment) (b : ℕ) → CoversRows (branch_candidates m b) (branch_rows m b)
branch_covered m = lent_covered (own_of m) m.chains m.hops

-- ---- behind a change of `res.K` or `red`
pub none_known : (k : ℕ) (sent : Option (Change Route)) (contests : Contested) (m : Moment) → sent ≡ None → KnowsBut k sent contests m → Knows contests (branch_rows m)
none_known k sent contests m is but =
    subst (Knows contests) (sym (comes_none k but.prefix but.before (branch_rows m) (subst (λ (s : Option (Change Route)). ComesOn k but.prefix s but.before (branch_rows m)) is but.comes))) but.knows

known_before : (k : ℕ) (sent : Option (Change Route)) (change : Change Route) (contests : Contested) (m : Moment) → sent ≡ Some change → KnowsBut k sent contests m → KnowsBefore k contests (branch_rows m) change
known_before k sent change contests m is but = record {
  before = but.before;
  stay = λ b apart. sym (but.comes.others b (other_by b k apart));
  sent = (refl, here.1, here.2);
  knows = but.knows;
}
  where
    here : IsSent (but.before k) (branch_rows m k) but.prefix (Some change)
    here = subst (λ (s : Option (Change Route)). IsSent (but.before k) (branch_rows m k) but.prefix s) is but.comes.here

-- over what is lent
module _ (k : ℕ) (contests contests' : Contested) (m : Moment) (d : Declaration) (t : Treed) (s : Passed Protos) (a : Chains) (h : Resolvers) (declared : d ≡ m.declared) (tree : t ≡ m.tree) (redist : s ≡ m.redist) (chains : a ≡ m.chains) (hops : h ≡ m.hops) where
  pub known_lent : (sent : Option (Change Route)) (change : Change Route) → sent ≡ Some change → KnowsBut k sent contests m → KnowsBefore k contests (lent_rows (own_rows d.speaker s (int_rows t)) a h) change
  known_lent sent change is but = subst (λ (rows : AllRows). KnowsBefore k contests rows change) (sym (lent_are m d t s a h declared tree redist chains hops)) (known_before k sent change contests m is but)

  pub known_then : (m' : Moment) (e : Exited) → m' ≡ with_exits m e → Knows contests' (lent_rows (own_rows d.speaker s (int_rows t)) a h) → Knows contests' (branch_rows m')
  known_then m' e after knows = subst (λ (n : Moment). Knows contests' (branch_rows n)) (sym after) (subst (Knows contests') (lent_are m d t s a h declared tree redist chains hops) knows)

-- ---- behind a change of `filt.K`
-- nothing goes on where nothing came
passed_none : (k : ℕ) (sent passed : Option (Change Route)) (r r' : Registry Interior) (h h' : Resolvers) (entries : List (Entry Value)) → sent ≡ None → Resolves k sent passed r r' h h' entries → passed ≡ None
passed_none k None passed r r' h h' entries none t = t.0
passed_none k (Some change) passed r r' h h' entries none t = absurd (cc)

pub above_but : (k : ℕ) (sent passed : Option (Change Route)) (contests : Contested) (m m1 : Moment) (entries : List (Entry Value)) → k ≤ 64 → KnowsAbove k sent contests m → ResolvesOn k sent passed m.registry m1.registry m.hops m1.hops entries
    → m1 ≡ with_hops m m1.registry m1.hops → KnowsBut k passed contests m1
above_but k sent passed contests m m1 entries small above res after = record {
  before = rows_over (own_of m) above.uppers m.hops;
  prefix = above.prefix;
  comes = subst (ComesOn k above.prefix passed (rows_over (own_of m) above.uppers m.hops)) (sym (lent_over (own_of m) m.chains m1.hops) ∙ same) goes;
  knows = above.knows;
  there = there;
}
  where
    g : GoesOn k above.prefix passed m.hops m1.hops entries above.uppers (filt_at m.chains)
    g = res.goes above.uppers (filt_at m.chains) above.prefix above.counted above.comes

    goes : ComesOn k above.prefix passed (rows_over (own_of m) above.uppers m.hops) (rows_over (own_of m) (filt_at m.chains) m1.hops)
    goes = over_comes (own_of m) above.uppers (filt_at m.chains) m.hops m1.hops k above.prefix passed above.peer small g.comes

    same : lent_rows (own_of m) m.chains m1.hops ≡ branch_rows m1
    same = sym (ap branch_rows after)

    there : KeepsPrefix passed contests
    there change is = by_sent sent refl
      where
        by_sent : (s : Option (Change Route)) → sent ≡ s → IsSome (tables.get contests change.prefix)
        by_sent None none = absurd (let clash : Some change ≡ None = sym is ∙ passed_none k sent passed m.registry m1.registry m.hops m1.hops entries none res.resolves in cc)
        by_sent (Some first) came =
            let here : IsSent (above.uppers k) (filt_at m.chains k) above.prefix (Some first) = subst (IsSent (above.uppers k) (filt_at m.chains k) above.prefix) came above.comes.here in
            let below : IsSent (res_at m.hops above.uppers k) (res_at m1.hops (filt_at m.chains) k) above.prefix (Some change) = subst (IsSent (res_at m.hops above.uppers k) (res_at m1.hops (filt_at m.chains) k) above.prefix) is g.comes.here in
            subst (λ (q : AddressPrefix). IsSome (tables.get contests q)) (here.0 ∙ sym below.0) (above.there first came)

-- the weld of the stage that was emptied moves no row
pub weld_known : (k : ℕ) (contests : Contested) (m v : Moment) (cs : Chains) (entries : List (Entry Value)) → v ≡ m → WeldsInward k v.chains cs entries → Knows contests (branch_rows m) → Knows contests (branch_rows (with_chains v cs))
weld_known k contests m v cs entries view welds knows =
    subst (Knows contests) (sym (quiet_rows (own_of v) v.chains cs v.hops welds.quiet)) (subst (λ (n : Moment). Knows contests (branch_rows n)) (sym view) knows)

-- ---- behind a turn of next hops
pub hop_but : (k : ℕ) (c : Chained) (sent : Option (Change Route)) (contests : Contested) (m : Moment) (r : Registry Interior) (h : Resolvers) (entries : List (Entry Value)) → Stands m → chain_at k m.chains ≡ Some c
    → TurnsBelow k (filt_candidates c) (filt_rows c) sent m.registry r m.hops h entries → Informed contests m → KnowsBut k sent contests (with_hops m r h)
hop_but k c sent contests m r h entries stands at turn informed = record {
  before = branch_rows m;
  prefix = moved.0;
  comes = comes;
  knows = informed.knows;
  there = there;
}
  where
    numbers : (1 ≤ k) × (k ≤ 64)
    numbers = stands.peers.numbers k (ap is_some at)

    peer : k ≢ 0
    peer none = let some = numbers.0 in absurd (omega (arith, some, none))

    moved : (p : AddressPrefix) × GoesOn k p sent m.hops h entries (filt_at m.chains) (filt_at m.chains)
    moved = turn.goes (filt_at m.chains) (ap (λ (o : Option Chained). filt_by o) at) stands.hops.counted

    comes : ComesOn k moved.0 sent (branch_rows m) (branch_rows (with_hops m r h))
    comes =
        subst (λ (rows : AllRows). ComesOn k moved.0 sent rows (branch_rows (with_hops m r h))) (sym (lent_over (own_of m) m.chains m.hops))
        (subst (ComesOn k moved.0 sent (rows_over (own_of m) (filt_at m.chains) m.hops)) (sym (lent_over (own_of m) m.chains h))
        (over_comes (own_of m) (filt_at m.chains) (filt_at m.chains) m.hops h k moved.0 sent peer numbers.1 moved.1.comes))

    there : KeepsPrefix sent contests
    there change is =
        let here : IsSent (branch_rows m k) (branch_rows (with_hops m r h) k) moved.0 (Some change) = subst (IsSent (branch_rows m k) (branch_rows (with_hops m r h) k) moved.0) is comes.here in
        subst (λ (q : AddressPrefix). IsSome (tables.get contests q)) (sym here.0) (by_candidate here (branch_candidates m k moved.0) refl)
      where
        by_candidate : {change : Change Route} → IsSent (branch_rows m k) (branch_rows (with_hops m r h) k) moved.0 (Some change) → (t : Bool) → branch_candidates m k moved.0 ≡ t → IsSome (tables.get contests moved.0)
        by_candidate here true is = kept_there contests (branch_candidates m) k moved.0 (let n = numbers.1 in omega (arith, n)) informed.counts is
        by_candidate {change} here false is = absurd (not_both_none (branch_rows m k) (branch_rows (with_hops m r h) k) moved.0 change here (branch_covered m k moved.0 is) (branch_covered (with_hops m r h) k moved.0 is))

-- ---- behind a change of `red`
-- where nothing came
pub own_none : (sent : Option (Change Route)) (contests : Contested) (m : Moment) → sent ≡ None → KnowsOwn sent contests m → Informed contests m
own_none sent contests m is known = record {
  knows = subst (λ (own : Rows Route). Knows contests (lent_rows own m.chains m.hops)) (sym stays) known.knows;
  counts = subst (λ (own : Rows Route). Counts contests (counted_over own m.chains)) (sym stays) known.counts;
}
  where
    stays : own_of m ≡ known.own
    stays = subst (λ (s : Option (Change Route)). IsSent known.own (own_of m) known.prefix s) is known.comes

pub own_some : (sent : Option (Change Route)) (change : Change Route) (contests : Contested) (m : Moment) → sent ≡ Some change → KnowsOwn sent contests m → KnowsOwn (Some change) contests m
own_some sent change contests m is known = subst (λ (s : Option (Change Route)). KnowsOwn s contests m) is known

-- behind a turn of redistribution
own_walked : (me : Speaker) (own : Option (Change Route)) (contests : Contested) (m : Moment) (s : Passed Protos) → m.declared.speaker ≡ Some me → Walks (redistributed me) (int_candidates m.tree) (int_rows m.tree) m.redist s own
    → Informed contests m → KnowsOwn own contests (with_redist m s)
own_walked me own contests m s since walks informed =
    let moved = own_sent m me s own since walks in
    record { own = own_of m; prefix = moved.0; comes = moved.1; knows = informed.knows; counts = informed.counts }

-- ---- behind a change of `int`
pub over_own : (me : Speaker) (change taken : Change Interior) (own : Option (Change Route)) (contests : Contested) (m v : Moment) (s : Passed Protos) → v ≡ m → v.declared.speaker ≡ Some me → taken ≡ change → IsPassedOn (redistributed me) v.redist taken own → s ≡ v.redist
    → KnowsOver (Some change) contests m → KnowsOwn own contests (with_redist v s)
over_own me change taken own contests m v s view since same passed stays over = subst (λ (x : Passed Protos). KnowsOwn own contests (with_redist v x)) (sym stays) by_view
  where
    known : KnowsOver (Some change) contests v
    known = subst (KnowsOver (Some change) contests) (sym view) over

    was : Rows Route
    was = own_over known.int v

    moves : IsSent was (own_of v) known.prefix own
    moves =
        subst (λ (rows : Rows Route). IsSent rows (own_of v) known.prefix own) (sym (own_rows_are v.declared.speaker me v.redist known.int since))
        (subst (λ (rows : Rows Route). IsSent (passed_rows (redistributed me) v.redist known.int) rows known.prefix own) (sym (own_rows_are v.declared.speaker me v.redist (int_rows v.tree) since))
        (passed known.int (int_rows v.tree) known.prefix (subst (λ (c : Change Interior). IsSent known.int (int_rows v.tree) known.prefix (Some c)) (sym same) known.comes)))

    by_view : KnowsOwn own contests v
    by_view = record { own = was; prefix = known.prefix; comes = moves; knows = known.knows; counts = known.counts }

-- where nothing came
pub over_none : (sent : Option (Change Interior)) (contests : Contested) (m : Moment) → sent ≡ None → InformedOver sent contests m → Informed contests m
over_none sent contests m is informed = record {
  knows = subst (λ (int : Rows Interior). Knows contests (lent_rows (own_over int m) m.chains m.hops)) (sym stays) informed.over.knows;
  counts = subst (λ (int : Rows Interior). Counts contests (counted_over (own_over int m) m.chains)) (sym stays) informed.over.counts;
}
  where
    stays : int_rows m.tree ≡ informed.over.int
    stays = subst (λ (s : Option (Change Interior)). IsSent informed.over.int (int_rows m.tree) informed.over.prefix s) is informed.over.comes

pub over_some : (sent : Option (Change Interior)) (change : Change Interior) (contests : Contested) (m : Moment) → sent ≡ Some change → InformedOver sent contests m → InformedOver (Some change) contests m
over_some sent change contests m is over = subst (λ (s : Option (Change Interior)). InformedOver s contests m) is over

-- once the register and its clients have heard of it
pub over_told : (change : Change Interior) (contests : Contested) (m m1 : Moment) → InformedOver (Some change) contests m → Informs change m m1 → KnowsOver (Some change) contests m1
over_told change contests m m1 informed informs = record {
  int = informed.over.int;
  prefix = informed.over.prefix;
  comes = subst (λ (n : Moment). IsSent informed.over.int (int_rows n.tree) informed.over.prefix (Some change)) (sym informs.after) informed.over.comes;
  knows = subst (λ (n : Moment). Knows contests (lent_rows (own_over informed.over.int n) n.chains n.hops)) (sym informs.after)
      (subst (Knows contests) (sym (reached_rows (own_over informed.over.int m) m.chains m.hops m1.hops informs.informed.resolvers.stays.rows)) informed.over.knows);
  counts = subst (λ (n : Moment). Counts contests (counted_over (own_over informed.over.int n) n.chains)) (sym informs.after) informed.over.counts;
}

-- a tree whose `int` moved by what was sent
pub tree_over : (sent : Option (Change Interior)) (contests : Contested) (m v : Moment) (t : Treed) (p : AddressPrefix) → v ≡ m → Stands m → IsSent (int_rows v.tree) (int_rows t) p sent → Informed contests m → InformedOver sent contests (with_tree v t)
tree_over sent contests m v t p view stands moves informed =
    let known : Informed contests v = subst (Informed contests) (sym view) informed in
    let readers : HaveReaders v = subst HaveReaders (sym view) (readers_of m stands) in
    record {
      over = record { int = int_rows v.tree; prefix = p; comes = moves; knows = known.knows; counts = known.counts };
      read = record { reader = readers.reader; external = readers.external };
    }

-- and one whose `int` stayed
pub tree_quiet : (contests : Contested) (m v : Moment) (t : Treed) → v ≡ m → int_rows t ≡ int_rows v.tree → Informed contests m → Informed contests (with_tree v t)
tree_quiet contests m v t view same informed =
    let known : Informed contests v = subst (Informed contests) (sym view) informed in
    informed_own contests v (own_over (int_rows t) v) (ap (λ (int : Rows Interior). own_over int v) same) known (with_tree v t) refl refl

-- ---- what the calls make of it
by_turn : {R : Type 0} (P : Option (Change R) → Type 0) (turn : Turn R) (sent : Option (Change R)) → sent ≡ sent_of turn → P (sent_of turn) → P sent
by_turn P turn sent is p = subst P (sym is) p

hop_turned : (k : ℕ) (c : Chained) (contests : Contested) (v : Moment) (r : Registry Interior) (h : Resolvers) (before j : Journaled) (turn : Turn Route) → turn ≢ turns.Nothing → Stands v → chain_at k v.chains ≡ Some c
    → ComesBelow k (filt_candidates c) (filt_rows c) v.registry r v.hops h before j turn → Informed contests v → KnowsBut k (sent_of turn) contests (with_hops v r h)
hop_turned k c contests v r h before j turns.Nothing some stands at comes i = absurd (some refl)
hop_turned k c contests v r h before j turns.Quiet some stands at comes i = hop_but k c None contests v r h comes.0 stands at comes.2 i
hop_turned k c contests v r h before j (turns.Sent change) some stands at comes i = hop_but k c (Some change) contests v r h comes.0 stands at comes.2 i

pub hop_known : (k : ℕ) (c : Chained) (contests : Contested) (m v : Moment) (r : Registry Interior) (h : Resolvers) (before j : Journaled) (turn : Turn Route) (sent : Option (Change Route)) → turn ≢ turns.Nothing → v ≡ m → Stands m → chain_at k v.chains ≡ Some c
    → ComesBelow k (filt_candidates c) (filt_rows c) v.registry r v.hops h before j turn → sent ≡ sent_of turn → Informed contests m → KnowsBut k sent contests (with_hops v r h)
hop_known k c contests m v r h before j turn sent some view stands at comes is i =
    by_turn (λ s. KnowsBut k s contests (with_hops v r h)) turn sent is
    (hop_turned k c contests v r h before j turn some (subst Stands (sym view) stands) at comes (subst (Informed contests) (sym view) i))

decided_informed : (contests contests' : Contested) (m m' : Moment) → branch_candidates m' ≡ branch_candidates m → Informed contests m → KeepsCounts contests contests' → Knows contests' (branch_rows m') → Informed contests' m'
decided_informed contests contests' m m' same i keeps knows = record { knows = knows; counts = subst (Counts contests') (sym same) (keeps (branch_candidates m) i.counts) }

pub hop_informed : (contests contests' : Contested) (m v : Moment) (r : Registry Interior) (h : Resolvers) (m' : Moment) (e : Exited) → v ≡ m → m' ≡ with_exits (with_hops v r h) e → Informed contests m → KeepsCounts contests contests' → Knows contests' (branch_rows m')
    → Informed contests' m'
hop_informed contests contests' m v r h m' e view after i keeps knows = decided_informed contests contests' m m' (ap branch_candidates after ∙ ap branch_candidates view) i keeps knows

walk_turned : (me : Speaker) (contests : Contested) (v : Moment) (s : Passed Protos) (turn : Turn Route) → turn ≢ turns.Nothing → v.declared.speaker ≡ Some me → IsWalked (redistributed me) (int_candidates v.tree) (int_rows v.tree) v.redist s turn → Informed contests v
    → KnowsOwn (sent_of turn) contests (with_redist v s)
walk_turned me contests v s turns.Nothing some since walked i = absurd (some refl)
walk_turned me contests v s turns.Quiet some since walked i = own_walked me None contests v s since walked i
walk_turned me contests v s (turns.Sent change) some since walked i = own_walked me (Some change) contests v s since walked i

pub walk_known : (me : Speaker) (contests : Contested) (m v : Moment) (s : Passed Protos) (turn : Turn Route) (sent : Option (Change Route)) → turn ≢ turns.Nothing → v ≡ m → v.declared.speaker ≡ Some me
    → IsWalked (redistributed me) (int_candidates v.tree) (int_rows v.tree) v.redist s turn → sent ≡ sent_of turn → Informed contests m → KnowsOwn sent contests (with_redist v s)
walk_known me contests m v s turn sent some view since walked is i =
    by_turn (λ o. KnowsOwn o contests (with_redist v s)) turn sent is (walk_turned me contests v s turn some since walked (subst (Informed contests) (sym view) i))

-- ---- at first no branch has a row, nor a candidate
no_peer : (v6 : Bool) (b : ℕ) → chain_at b (first_moment v6).chains ≡ None
no_peer v6 b = get-empty nat_cmp b

first_candidates : (v6 : Bool) (b : ℕ) (q : AddressPrefix) → branch_candidates (first_moment v6) b q ≡ false
first_candidates v6 zero q = refl
first_candidates v6 (suc b) q = by_low (nat_lt (suc b) 65) (chain_at (suc b) (first_moment v6).chains) (no_peer v6 (suc b))
  where
    by_low : (t : Bool) (o : Option Chained) → o ≡ None → candidates_by (cond t o None) q ≡ false
    by_low true o none = ap (λ (x : Option Chained). candidates_by x q) none
    by_low false o none = refl

first_rows : (v6 : Bool) (b : ℕ) (q : AddressPrefix) → branch_rows (first_moment v6) b q ≡ None
first_rows v6 zero q = refl
first_rows v6 (suc b) q = branch_covered (first_moment v6) (suc b) q (first_candidates v6 (suc b) q)

pub first_informed : (v6 : Bool) (contests : Contested) → ((rows : AllRows) → ((b : ℕ) (q : AddressPrefix) → b < 65 → rows b q ≡ None) → Knows contests rows)
    → ((candidates : ℕ → Candidates) → ((b : ℕ) (q : AddressPrefix) → b < 65 → candidates b q ≡ false) → Counts contests candidates) → Informed contests (first_moment v6)
first_informed v6 contests known counts = record { knows = known (branch_rows (first_moment v6)) (λ b q _. first_rows v6 b q); counts = counts (branch_candidates (first_moment v6)) (λ b q _. first_candidates v6 b q) }

-- ---- the tree, and the exits
tree_taken : (proto : Proto) (n : ℕ) (v : Moment) (t : Treed) (turn : Turn Interior) (before j : Journaled) → turn ≢ turns.Nothing → IsTakenTree v.tree t (Rdel proto n) before j turn → (p : AddressPrefix) × IsSent (int_rows v.tree) (int_rows t) p (sent_of turn)
tree_taken proto n v t turns.Nothing before j some taken = absurd (some refl)
tree_taken proto n v t turns.Quiet before j some taken = (taken.2.prefix, taken.2.rows)
tree_taken proto n v t (turns.Sent change) before j some taken = (taken.2.prefix, taken.2.rows)

pub tree_turned : (proto : Proto) (n : ℕ) (contests : Contested) (m v : Moment) (t : Treed) (turn : Turn Interior) (sent : Option (Change Interior)) (before j : Journaled) → turn ≢ turns.Nothing → v ≡ m → Stands m → sent ≡ sent_of turn → IsTakenTree v.tree t (Rdel proto n) before j turn
    → Informed contests m → InformedOver sent contests (with_tree v t)
tree_turned proto n contests m v t turn sent before j some view stands is taken i =
    let moved = tree_taken proto n v t turn before j some taken in
    by_turn (λ (o : Option (Change Interior)). InformedOver o contests (with_tree v t)) turn sent is (tree_over (sent_of turn) contests m v t moved.0 view stands moved.1 i)

-- the loss of a protocol moves no row of `int`
pub protocol_informed : (proto : Proto) (contests : Contested) (m m' : Moment) (said : List Line) → EndsProtocol proto m m' said → int_rows m'.tree ≡ int_rows m.tree → Informed contests m → Informed contests m'
protocol_informed proto contests m m' said e same i =
    subst (Informed contests) (sym e.after) (tree_quiet contests m m (lost_tree proto m.tree) refl (sym (ap (λ (x : Moment). int_rows x.tree) e.after) ∙ same) i)

pub exits_informed : (contests : Contested) (m v : Moment) (e : Exited) → v ≡ m → Informed contests m → Informed contests (with_exits v e)
exits_informed contests m v e view i = informed_same contests v (with_exits v e) refl refl refl refl refl (subst (Informed contests) (sym view) i)
