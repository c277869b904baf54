-- One turn of the stage of a protocol's loss.
use Rattle.router_moments.proofs.Common.{sym, subst, ◌∙◌, ap, ◌≡◌, ℕ, refl, List, arith, ◌+◌, ◌≤◌, IfOk-weaker, FinMap, AddressPrefix, prefix_cmp, Speaker, known_in, Journaled, flushed, Adds, with_entries, Entry, Line, Value, Rows, Change, Turn, table_of, swept_one, Proto, Interior, of_new, welded_branch, swept_branch, Branch, welded_tree, int_rows, Treed, branch_of, tree_count, live_state, Moment, with_tree, tree_beyond, Stands, BelowInt, FallsRoute, TakesTurn, IsWork, Done, Taken}
use Rattle.std.proofs.Common.{length, Option, Some, None, IsSome, is_some, Result, IfOk}
use Rattle.link_change.specs.declared.turn.Turn.TheVariants.{Quiet, Sent}
use Rattle.journal_text.specs.declared.link.Task.TheVariants.{Rdel}
use Rattle.rib_exit.specs.Exits.{known_in as external_known}
use Rattle.router_moments.specs.Turns.{IsRouteTurn}
use Rattle.rib_tree.specs.Falls.{way_of_sweep}
use Rattle.rib_tree.specs.Steps.{SweepsTree, IsTakenTree, swept_tree}
use Rattle.router_moments.specs.declared.tasks.Done.TheVariants.{Nothing}
use Rattle.router_moments.specs.Works.{Turned}
use Rattle.loss_chain.proofs.TableLemmas.{few_map}
use Rattle.router_moments.proofs.RouteLemmas.{Routes, routes_on, live_stays, route_fell, fell_best}
use Rattle.router_moments.specs.declared.tasks.Phase.TheVariants.{Rdel as RdelPhase}
use Rattle.router_moments.proofs.SpendLemmas.{Spent}
use Rattle.router_moments.proofs.BeyondLemmas.{sweep_beyond}
use Rattle.router_moments.proofs.CountLemmas.{tree_spends}
use Rattle.rib_tree.proofs.CountLemmas.{turn_takes_row, weld_keeps_rows}
use Rattle.router_moments.proofs.WorkLemmas.{one_turn}

-- ---- what follows a change of `int` asks for no next hop
below_knows : (sent : Option (Change Interior)) (int : Rows Interior) (m m' : Moment) (entries : List (Entry Value)) → BelowInt sent int m m' entries → (known_in m'.hops ≤ known_in m.hops) × (external_known m'.rib ≤ external_known m.rib)
below_knows None int m m' entries b = (let e : known_in m'.hops ≡ known_in m.hops = ap (λ (x : Moment). known_in x.hops) b.0 in omega (arith, e), let e : external_known m'.rib ≡ external_known m.rib = ap (λ (x : Moment). external_known x.rib) b.0 in omega (arith, e))
below_knows (Some change) int m m' entries b = (let e = b.0.informed.resolvers.stays.known in omega (arith, e), let e = b.0.informed.external.stays.known in omega (arith, e))

-- ---- before `local` no stage stands
pub since_local : (m : Moment) (proto : Proto) (n : ℕ) (table : FinMap prefix_cmp Interior) → Stands m → table_of n (branch_of proto m.tree).tables.deletions ≡ Some table → (me : Speaker) × (m.declared.speaker ≡ Some me)
since_local m proto n table stands there = by_speaker m.declared.speaker refl
  where
    by_speaker : (s : Option Speaker) → m.declared.speaker ≡ s → (me : Speaker) × (m.declared.speaker ≡ Some me)
    by_speaker None at =
        let none : table_of n (branch_of proto m.tree).tables.deletions ≡ None = ap (λ (t : Treed). table_of n (branch_of proto t).tables.deletions) (stands.interior.waiting at) ∙ of_new (λ b. table_of n b.tables.deletions ≡ None) (λ k. refl) proto in
        absurd (let contra : Some table ≡ None = sym there ∙ none in cc)
    by_speaker (Some me) at = (me, at)

-- so it was declared where a turn was taken
pub quiet_since : (m v : Moment) (proto : Proto) (n : ℕ) (turn : Turn Interior) (t : Treed) (before j : Journaled) → v ≡ m → Stands m → turn ≡ Quiet → IsTakenTree v.tree t (Rdel proto n) before j turn → IsSome v.declared.speaker
quiet_since m v proto n turn t before j view stands is taken =
    let adds : Adds (SweepsTree v.tree t proto n None) before j = subst (IsTakenTree v.tree t (Rdel proto n) before j) is taken in
    ap is_some (since_local v proto n adds.2.table (subst Stands (sym view) stands) adds.2.stands).1

pub sent_since : (m v : Moment) (proto : Proto) (n : ℕ) (turn : Turn Interior) (change : Change Interior) (t : Treed) (before j : Journaled) → v ≡ m → Stands m → turn ≡ Sent change → IsTakenTree v.tree t (Rdel proto n) before j turn
    → IsSome v.declared.speaker
sent_since m v proto n turn change t before j view stands is taken =
    let adds : Adds (SweepsTree v.tree t proto n (Some change)) before j = subst (IsTakenTree v.tree t (Rdel proto n) before j) is taken in
    ap is_some (since_local v proto n adds.2.table (subst Stands (sym view) stands) adds.2.stands).1

-- ---- what a turn does
pub route_works : (proto : Proto) (n : ℕ) (m : Moment) (said : List Line) (m' : Moment) → Stands m → IsRouteTurn proto n m said m' → IsWork RdelPhase 1 m m' said
route_works proto n m said m' stands t = one_turn RdelPhase m m' m' said refl (record { leads = r.leads; live = lives; stands = r.stands; heard = r.heard }) spent known tt
  where
    p : AddressPrefix
    p = t.prefix

    f : FallsRoute m (swept_tree proto n p m.tree) proto p (way_of_sweep proto n m.tree) said m'
    f = t.falls

    me : (me : Speaker) × (m.declared.speaker ≡ Some me)
    me = since_local m proto n t.table stands t.stands

    b : Branch
    b = swept_branch n p (branch_of proto m.tree)

    few : length b.tables.deletions ≤ 16
    few = let same = few_map (swept_one n p) (branch_of proto m.tree).tables.deletions in let was = stands.interior.few proto in omega (arith, same, was)

    r : Routes m proto b p f.followed (fell_best m (swept_tree proto n p m.tree) proto p (way_of_sweep proto n m.tree) said m' f) m' said
    r = routes_on m me.0 proto b p (way_of_sweep proto n m.tree) said m' stands me.1 few f

    lives : live_state m' ≡ live_state m
    lives = ap live_state r.is ∙ live_stays m proto (welded_branch b) refl refl

    welded : m'.tree ≡ welded_tree proto (swept_tree proto n p m.tree)
    welded = ap (λ (x : Moment). x.tree) f.after

    fewer : tree_count m'.tree + 1 ≡ tree_count m.tree
    fewer =
        let one = turn_takes_row m.tree proto n p t.table t.row stands.interior.tree t.stands t.least.0 in
        let same : tree_count m'.tree ≡ tree_count (swept_tree proto n p m.tree) = ap tree_count welded ∙ weld_keeps_rows (swept_tree proto n p m.tree) proto in
        omega (arith, one, same)

    less : (place : Option AddressPrefix) → tree_beyond m'.tree place ≤ tree_beyond m.tree place
    less place = subst (λ (x : Treed). tree_beyond x place ≤ tree_beyond m.tree place) (sym welded) (sweep_beyond place proto n p m.tree)

    -- what follows asks for no next hop
    known : (known_in m'.hops ≤ known_in m.hops) × (external_known m'.rib ≤ external_known m.rib)
    known = subst (λ (x : Moment). (known_in x.hops ≤ known_in m.hops) × (external_known x.rib ≤ external_known m.rib)) (sym f.after)
        (below_knows f.sent (int_rows (swept_tree proto n p m.tree)) (with_tree m (swept_tree proto n p m.tree)) f.followed f.below f.below_int)

    spent : Spent RdelPhase m m'
    spent = tree_spends m m' (fell_best m (swept_tree proto n p m.tree) proto p (way_of_sweep proto n m.tree) said m' f) (ap (λ (x : Moment). x.chains) r.is) (ap (λ (x : Moment). x.redist) r.is) r.queued lives fewer less

-- ---- what the calls make of it
route_comes : (m : Moment) (proto : Proto) (n : ℕ) (sent : Option (Change Interior)) (t : Treed) (m' : Moment) (before j now : Journaled) (done : Done) → Adds (SweepsTree m.tree t proto n sent) before j
    → Turned proto sent (with_tree m t) m' j now done → TakesTurn (Rdel proto n) m m' before now done
route_comes m proto n sent t m' before j now Nothing adds turned = absurd turned
route_comes m proto n sent t m' before j now Taken adds turned =
    let s = adds.2 in
    let fell = route_fell m (swept_tree proto n s.prefix m.tree) proto s.prefix (way_of_sweep proto n m.tree) sent t m' before j (with_entries j turned.0) s.after s.rows (adds.0, adds.1, s.fall) (turned.0, refl, turned.1) in
    (fell.0, turned.2 ∙ ap flushed fell.1, record { prefix = s.prefix; row = s.row; table = s.table; stands = s.stands; least = s.least; falls = fell.2 })

-- by what came out on `int`
pub route_quiet : {E : Type 0} → (m : Moment) (proto : Proto) (n : ℕ) (turn : Turn Interior) (t : Treed) (m' : Moment) (before j now : Journaled) (result : Result Done E) → turn ≡ Quiet
    → IsTakenTree m.tree t (Rdel proto n) before j turn → IfOk result (Turned proto None (with_tree m t) m' j now) → IfOk result (TakesTurn (Rdel proto n) m m' before now)
route_quiet m proto n turn t m' before j now result is taken turned =
    let adds : Adds (SweepsTree m.tree t proto n None) before j = subst (IsTakenTree m.tree t (Rdel proto n) before j) is taken in
    IfOk-weaker result (Turned proto None (with_tree m t) m' j now) (TakesTurn (Rdel proto n) m m' before now) (λ done. route_comes m proto n None t m' before j now done adds) turned

pub route_sent : {E : Type 0} → (m : Moment) (proto : Proto) (n : ℕ) (turn : Turn Interior) (change : Change Interior) (t : Treed) (m' : Moment) (before j now : Journaled) (result : Result Done E) → turn ≡ Sent change
    → IsTakenTree m.tree t (Rdel proto n) before j turn → IfOk result (Turned proto (Some change) (with_tree m t) m' j now) → IfOk result (TakesTurn (Rdel proto n) m m' before now)
route_sent m proto n turn change t m' before j now result is taken turned =
    let adds : Adds (SweepsTree m.tree t proto n (Some change)) before j = subst (IsTakenTree m.tree t (Rdel proto n) before j) is taken in
    IfOk-weaker result (Turned proto (Some change) (with_tree m t) m' j now) (TakesTurn (Rdel proto n) m m' before now) (λ done. route_comes m proto n (Some change) t m' before j now done adds) turned
