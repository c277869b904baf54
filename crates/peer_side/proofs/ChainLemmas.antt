-- What a fall, a turn and a weld leave of a chain.
use Rattle.std.proofs.Common.{◌≡◌, ℕ, ◌<◌, ◌≤◌, List, length, Option, Some, None, refl, sym, ap, subst, ◌∙◌, arith}
use Rattle.std.specs.List.{AllByRecursion}
use Rattle.addr4.specs.Prefixes.{AddressPrefix}
use Rattle.bgp_attr.specs.Attributes.{Attrs}
use Rattle.bgp_attr.specs.Routes.{Route}
use Rattle.link_change.specs.Changes.{IsSent}
use Rattle.link_change.specs.Changes.{Change}
use Rattle.policy_rules.specs.Rules.{Rule}
use Rattle.pass_core.specs.Passed.{Passed, Walked, present, latest_of, present_of, stepped, walk_of_waiting, after_walk}
use Rattle.pass_core.specs.Turns.{walked_on, IsSentAt}
use Rattle.journal_text.specs.declared.link.Task.{Task}
use Rattle.journal_text.specs.declared.link.Task.TheVariants.{Del, Fin}
use Rattle.journal_text.specs.Lines.{Entry}
use Rattle.journal_text.specs.Lines.{Value}
use Rattle.loss_chain.specs.Lost.{Lost}
use Rattle.loss_chain.specs.Steps.{without, deletions_after, swept_one}
use Rattle.loss_chain.proofs.ListLemmas.{all_mapped, all_filtered}
use Rattle.loss_chain.proofs.TableLemmas.{is_full, few_filter, few_map, swept_number}
use Rattle.in_chain.specs.Chains.{Chained, filt_rows, IsChain}
use Rattle.in_chain.specs.Falls.{LeadsChain}
use Rattle.in_chain.specs.Steps.{fed, welded, swept, Turned}
use Rattle.peer_side.specs.Peers.{Chains, chain_at, put_chain, AreBefore, lost_of}
use Rattle.peer_side.specs.Steps.{Leaves, Nears}
use Rattle.peer_side.proofs.CountLemmas.{swept_turns, swept_rows}
use Rattle.peer_side.proofs.PutLemmas.{put_lost, put_left}

-- ---- turns
pub turn_leads : (task : Task) (c less : Chained) (sent : Option (Change Route)) (entries : List (Entry Value)) → Turned c less task sent entries → LeadsChain c entries less
turn_leads (Del k s) c less sent entries t = t.1.fall.leads
turn_leads (Fin k) c less sent entries t = t.1.leads
turn_leads other c less sent entries t = absurd t

-- ---- the lost sessions of a chain

thinned_before : (s : ℕ) (p : AddressPrefix) (row : Option Attrs) (ds : List (Lost Attrs)) → AllByRecursion (λ d. d.number < s) ds → AllByRecursion (λ d. d.number < s) (deletions_after ds p row)
thinned_before s p None ds all = all
thinned_before s p (Some attrs) ds all = all_mapped (λ (d : Lost Attrs). d.number < s) (without p) (λ d lt. lt) ds all

pub fed_before : (s : ℕ) (p : AddressPrefix) (row : Option Attrs) (c : Chained) → AreBefore s c → AreBefore s (fed c p row)
fed_before s p row c all = thinned_before s p row c.incoming.tables.deletions all

swept_before : (s n : ℕ) (p : AddressPrefix) (c : Chained) → AreBefore s c → AreBefore s (swept n p c)
swept_before s n p c all = all_mapped (λ (d : Lost Attrs). d.number < s) (swept_one n p) (λ d lt. subst (λ (m : ℕ). m < s) (sym (swept_number n p d)) lt) c.incoming.tables.deletions all

pub weld_before : (s : ℕ) (c : Chained) → AreBefore s c → AreBefore s (welded c)
weld_before s c all = all_filtered (λ (d : Lost Attrs). d.number < s) is_full c.incoming.tables.deletions all

pub weld_few : (c : Chained) → length (welded c).incoming.tables.deletions ≤ length c.incoming.tables.deletions
weld_few c = few_filter is_full c.incoming.tables.deletions

thinned_few : (p : AddressPrefix) (row : Option Attrs) (ds : List (Lost Attrs)) → length (deletions_after ds p row) ≤ length ds
thinned_few p None ds = omega arith
thinned_few p (Some attrs) ds = let e = few_map (without p) ds in omega (arith, e)

pub fed_few : (p : AddressPrefix) (row : Option Attrs) (c : Chained) → length (fed c p row).incoming.tables.deletions ≤ length c.incoming.tables.deletions
fed_few p row c = thinned_few p row c.incoming.tables.deletions

-- ---- the rules of the latest edit stay
module _ {F : Type 0} where
  waiting_is_present : (next : F) (waiting : Option F) → present (record { in_force = next; walk = walk_of_waiting waiting }) ≡ latest_of next waiting
  waiting_is_present next None = refl
  waiting_is_present next (Some f) = refl

  finish_keeps : (in_force : F) (walk : Option (Walked F)) → present (after_walk in_force walk) ≡ present_of in_force walk
  finish_keeps in_force None = refl
  finish_keeps in_force (Some w) = waiting_is_present w.next w.waiting

  step_keeps : (in_force : F) (walk : Option (Walked F)) (p : AddressPrefix) → present (stepped (record { in_force = in_force; walk = walk }) p) ≡ present_of in_force walk
  step_keeps in_force None p = refl
  step_keeps in_force (Some w) p = refl

walked_keeps : (next : Option AddressPrefix) (s : Passed (List Rule)) → present (walked_on next s) ≡ present s
walked_keeps None s = finish_keeps s.in_force s.walk
walked_keeps (Some p) s = step_keeps s.in_force s.walk p

-- ---- what a turn leaves, and that no more stages stand
pub record Left (c c' : Chained) : Type 0 where
  pub number : c'.incoming.number ≡ c.incoming.number
  pub leaves : Leaves c c'
  pub few : length c'.incoming.tables.deletions ≤ length c.incoming.tables.deletions

pub turn_left : (task : Task) (c less : Chained) (sent : Option (Change Route)) (entries : List (Entry Value)) → Turned c less task sent entries → Left c less
turn_left (Del k s) c less sent entries t = subst (Left c) (sym t.1.after) (record {
  number = refl;
  leaves = record { me = refl; peer = refl; live = refl; rules = refl; before = λ n. swept_before n s t.1.prefix c };
  few = let same = few_map (swept_one s t.1.prefix) c.incoming.tables.deletions in omega (arith, same);
})
turn_left (Fin k) c less sent entries t = subst (Left c) (sym t.1.after) (record {
  number = refl;
  leaves = record {
    me = refl;
    peer = refl;
    live = refl;
    rules = ap (λ (x : Passed (List Rule)). present x) t.1.walks.after ∙ walked_keeps t.1.walks.next c.filter;
    before = λ n all. all;
  };
  few = omega arith;
})
turn_left other c less sent entries t = absurd t

pub turn_nears : (task : Task) (a : Chains) (k : ℕ) (c less : Chained) (sent : Option (Change Route)) (entries : List (Entry Value)) → chain_at k a ≡ Some c → IsChain c → Turned c less task sent entries → Nears task a (put_chain k less a)
turn_nears (Del n s) a k c less sent entries at chain t =
    let c' : Chained = swept s t.1.prefix c in
    let fewer = swept_rows s c t.1.prefix t.1.row t.1.table chain t.1.stands t.1.least.0 in
    let turns = swept_turns s c t.1.prefix (omega (arith, fewer)) in
    let l = put_lost k c c' a at in
    let w = put_left k c c' a at in
    subst (λ (x : Chained). Nears (Del n s) a (put_chain k x a)) (sym t.1.after) (omega (arith, l, fewer), omega (arith, w, turns))
turn_nears (Fin n) a k c less sent entries at chain t =
    let same : lost_of less ≡ lost_of c = ap (λ (x : Chained). lost_of x) t.1.after in
    let fewer = t.1.fewer in
    let l = put_lost k c less a at in
    let w = put_left k c less a at in
    (omega (arith, l, same), omega (arith, w, fewer))
turn_nears other a k c less sent entries at chain t = absurd t

-- ---- what comes out on `filt.K`
walk_sent : (next : Option AddressPrefix) (old new : AddressPrefix → Option Route) (sent : Option (Change Route)) → IsSentAt next old new sent → (p : AddressPrefix) × IsSent old new p sent
walk_sent None old new sent is = (record { address = 0; length = 0 }, subst (λ (s : Option (Change Route)). IsSent old new (record { address = 0; length = 0 }) s) (sym is.0) is.1)
walk_sent (Some p) old new sent is = (p, is)

pub turn_sent : (task : Task) (c less : Chained) (sent : Option (Change Route)) (entries : List (Entry Value)) → Turned c less task sent entries → (p : AddressPrefix) × IsSent (filt_rows c) (filt_rows less) p sent
turn_sent (Del k s) c less sent entries t = (t.1.prefix, t.1.rows)
turn_sent (Fin k) c less sent entries t =
    subst (λ (x : Chained). (p : AddressPrefix) × IsSent (filt_rows c) (filt_rows x) p sent) (sym t.1.after) (walk_sent t.1.walks.next (filt_rows c) (filt_rows (record c { filter = less.filter })) sent t.1.walks.changes)
turn_sent other c less sent entries t = absurd t
