-- A step of a peer's chain: its candidate comes or goes, and what the decision's state knows behind it.
use Rattle.router_moments.proofs.Common.{sym, subst, ◌∙◌, ap, ◌≡◌, ℕ, refl, List, true, arith, false, Bool, ◌≤◌, ◌<◌, ◌≢◌, AddressPrefix, Attrs, Route, IsSent, CoversRows, Candidates, Change, Chained, fed, welded, filt_candidates, chain_at, Chains, filt_at, filt_by, put_chain, Task, Entry, Value, own_of, Moment, with_chains, Stands, SettlesPeer, Turn, Journaled, Line, sent_of}
use Rattle.std.proofs.Common.{Option, Some, None, is_some, IsSome}
use Rattle.std.specs.FinMap as tables
use Rattle.link_change.specs.Rows.{with_rows}
use Rattle.link_change.specs.declared.turn.Turn.TheVariants as turns
use Rattle.addr4.proofs.PrefixOrder.{by_prefix}
use Rattle.decision.specs.Branches.{AllRows}
use Rattle.decision.proofs.LineupLemmas.{by_number}
use Rattle.decision.specs.Contests.{Knows, Counts, CoversAt}
use Rattle.in_chain.specs.Steps.{FindsNextLost, lost, refiltered}
use Rattle.policy_rules.specs.Rules.{Rule}
use Rattle.in_chain.specs.Laws.{TakesCandidateAt}
use Rattle.in_chain.proofs.CandidateLemmas.{candidates_cover_rows, feeds_keep_others, welds_keep_candidates, losses_keep_candidates, edits_keep_candidates, turns_take_the_next}
use Rattle.peer_side.specs.Peers.{peer_of}
use Rattle.peer_side.specs.Steps.{FeedsInward, TakesInward, ComesInward, WeldsInward, LosesInward, EditsInward, Changes}
use Rattle.peer_side.proofs.WeldLemmas.{fallen_at}
use Rattle.router_moments.specs.Bests.{candidates_by}
use Rattle.router_moments.specs.Blocks.{ended}
use Rattle.router_moments.specs.Works.{Ends}
use Rattle.router_network.specs.Informed.{Contested, Informed, KnowsAbove, KeepsPrefix, KeepsCounts, Shifts, ShiftsAt, HasShift, HasShifted, shifted, branch_rows, branch_candidates, counted_over}
use Rattle.router_network.proofs.BranchRows.{lent_over, quiet_rows, candidates_here, candidates_beside, candidates_kept}
use Rattle.router_network.proofs.Counting.{kept_there, sent_there, covers_at, not_both_none}
use Rattle.router_network.proofs.KnownRows.{informed_as, informed_same, branch_covered}

-- a peer that has a chain is one of 1 to 64
module _ (m : Moment) (k : ℕ) (c : Chained) (stands : Stands m) (at : chain_at k m.chains ≡ Some c) where
  numbers : (1 ≤ k) × (k ≤ 64)
  numbers = stands.peers.numbers k (ap is_some at)

  pub is_peer : k ≢ 0
  is_peer none = let some = numbers.0 in absurd (omega (arith, some, none))

  pub is_small : k < 65
  is_small = let small = numbers.1 in omega (arith, small)

  pub candidate_is : branch_candidates m k ≡ filt_candidates c
  candidate_is = candidates_here (with_rows (own_of m)) m.chains k is_peer numbers.1 ∙ ap candidates_by at

  -- once its chain has become another
  pub candidate_then : (less : Chained) (fallen : Chains) → fallen ≡ put_chain k less m.chains → branch_candidates (with_chains m fallen) k ≡ filt_candidates less
  candidate_then less fallen put = candidates_here (with_rows (own_of m)) fallen k is_peer numbers.1 ∙ ap candidates_by (fallen_at k m.chains fallen less put)

  beside : (less : Chained) (fallen : Chains) → fallen ≡ put_chain k less m.chains → (b : ℕ) → b ≢ k → branch_candidates (with_chains m fallen) b ≡ branch_candidates m b
  beside less fallen put b apart = ap (λ (a : Chains). counted_over (own_of m) a b) put ∙ candidates_beside (with_rows (own_of m)) m.chains k less b apart

  -- a candidate moved at one prefix alone
  pub chain_shifts : (p : AddressPrefix) (had has : Bool) (less : Chained) (fallen : Chains) → fallen ≡ put_chain k less m.chains → filt_candidates c p ≡ had → filt_candidates less p ≡ has → ((q : AddressPrefix) → q ≢ p → filt_candidates less q ≡ filt_candidates c q)
      → Shifts k p had has (branch_candidates m) (branch_candidates (with_chains m fallen))
  chain_shifts p had has less fallen put was is elsewhere = record {
    small = is_small;
    was = ap (λ (f : Candidates). f p) candidate_is ∙ was;
    is = ap (λ (f : Candidates). f p) (candidate_then less fallen put) ∙ is;
    others = λ b apart. ap (λ (f : Candidates). f p) (beside less fallen put b apart);
    elsewhere = λ b q apart. by_branch b q apart;
  }
    where
      by_branch : (b : ℕ) (q : AddressPrefix) → q ≢ p → branch_candidates (with_chains m fallen) b q ≡ branch_candidates m b q
      by_branch b q apart =
          by_number b k (λ _. branch_candidates (with_chains m fallen) b q ≡ branch_candidates m b q)
          (λ same. subst (λ (n : ℕ). branch_candidates (with_chains m fallen) n q ≡ branch_candidates m n q) (sym same)
          (ap (λ (f : Candidates). f q) (candidate_then less fallen put) ∙ elsewhere q apart ∙ sym (ap (λ (f : Candidates). f q) candidate_is)))
          (λ other. ap (λ (f : Candidates). f q) (beside less fallen put b other))

  -- none moved
  pub candidates_stay : (less : Chained) (fallen : Chains) → fallen ≡ put_chain k less m.chains → filt_candidates less ≡ filt_candidates c → branch_candidates (with_chains m fallen) ≡ branch_candidates m
  candidates_stay less fallen put same = ap (λ (a : Chains). counted_over (own_of m) a) put ∙ candidates_kept (with_rows (own_of m)) m.chains k less (same ∙ sym (ap candidates_by at))

  -- what the state knows behind a fall, where it keeps the prefix of what came
  pub fallen_above : (sent : Option (Change Route)) (contests : Contested) (fallen : Chains) (p : AddressPrefix) → Changes k p sent m.chains fallen → Knows contests (branch_rows m) → KeepsPrefix sent contests → KnowsAbove k sent contests (with_chains m fallen)
  fallen_above sent contests fallen p changes knows there = record {
    uppers = filt_at m.chains;
    prefix = p;
    comes = record { here = changes.rows; others = changes.others };
    counted = stands.hops.counted;
    knows = subst (Knows contests) (lent_over (own_of m) m.chains m.hops) knows;
    there = there;
    peer = is_peer;
  }

-- the weld behind a fall moves no candidate
pub welds_keep : (k : ℕ) (m : Moment) (cs : Chains) (entries : List (Entry Value)) → WeldsInward k m.chains cs entries → branch_candidates (with_chains m cs) ≡ branch_candidates m
welds_keep k m cs entries w = ap (λ (a : Chains). counted_over (own_of m) a) w.welds.after ∙ candidates_kept (with_rows (own_of m)) m.chains k (welded w.welds.chain) (welds_keep_candidates w.welds.chain ∙ sym (ap candidates_by w.welds.at))

pub settles_keep : (k : ℕ) (sent : Option (Change Route)) (m m' : Moment) (entries : List (Entry Value)) → SettlesPeer k sent m m' entries → branch_candidates m' ≡ branch_candidates m
settles_keep k sent m m' entries s = ap branch_candidates s.after ∙ welds_keep k m m'.chains s.weld s.welds

-- ---- one prefix is fed
module _ (k : ℕ) (p : AddressPrefix) (row : Option Attrs) (sent : Option (Change Route)) (m v : Moment) (fallen : Chains) (entries : List (Entry Value)) (had has : Bool) (view : v ≡ m) (stands : Stands m) (f : FeedsInward k p row sent v.chains fallen entries)
    (was : had ≡ candidates_by (chain_at k m.chains) p) (is : has ≡ candidates_by (chain_at k fallen) p) where
  s : Stands v
  s = subst Stands (sym view) stands

  abbrev c : Chained
  c = f.feeds.chain

  fed_shifts : Shifts k p had has (branch_candidates v) (branch_candidates (with_chains v fallen))
  fed_shifts = chain_shifts v k c s f.feeds.at p had has (fed c p row) fallen f.feeds.after (sym (was ∙ ap (λ (x : Moment). candidates_by (chain_at k x.chains) p) (sym view) ∙ ap (λ (o : Option Chained). candidates_by o p) f.feeds.at))
      (sym (is ∙ ap (λ (o : Option Chained). candidates_by o p) (fallen_at k v.chains fallen (fed c p row) f.feeds.after))) (λ q apart. feeds_keep_others c p row q apart)

  pub fed_has_shift : (contests : Contested) → Informed contests m → HasShift p had has contests
  fed_has_shift contests i = record { branch = k; before = branch_candidates v; now = branch_candidates (with_chains v fallen); shifts = fed_shifts; counts = subst (λ (n : Moment). Counts contests (branch_candidates n)) (sym view) i.counts }

  abbrev pub fed_counts : Contested → Type 0
  fed_counts contests = Counts contests (shifted has (branch_candidates v) (branch_candidates (with_chains v fallen)))

  pub fed_enters : (contests entered : Contested) → Informed contests m → ((j : ℕ) (before now : ℕ → Candidates) → Shifts j p had has before now → Counts contests before → Counts entered (shifted has before now)) → fed_counts entered
  fed_enters contests entered i enters = enters k (branch_candidates v) (branch_candidates (with_chains v fallen)) fed_shifts (subst (λ (n : Moment). Counts contests (branch_candidates n)) (sym view) i.counts)

  pub fed_above : (contests entered : Contested) → Informed contests m → ((rows : AllRows) → Knows contests rows → Knows entered rows) → fed_counts entered → KnowsAbove k sent entered (with_chains v fallen)
  fed_above contests entered i known counts =
      fallen_above v k c s f.feeds.at sent entered fallen p f.changes (known (branch_rows v) (subst (λ (n : Moment). Knows contests (branch_rows n)) (sym view) i.knows)) there
    where
      old_covered : CoversRows (branch_candidates v k) (filt_at v.chains k)
      old_covered q none = ap (λ (o : Option Chained). filt_by o q) f.feeds.at ∙ candidates_cover_rows c q (sym (ap (λ (g : Candidates). g q) (candidate_is v k c s f.feeds.at)) ∙ none)

      now_covered : CoversRows (branch_candidates (with_chains v fallen) k) (filt_at fallen k)
      now_covered q none =
          ap (λ (o : Option Chained). filt_by o q) (fallen_at k v.chains fallen (fed c p row) f.feeds.after)
          ∙ candidates_cover_rows (fed c p row) q (sym (ap (λ (g : Candidates). g q) (candidate_then v k c s f.feeds.at (fed c p row) fallen f.feeds.after)) ∙ none)

      there : KeepsPrefix sent entered
      there change came =
          let here : IsSent (filt_at v.chains k) (filt_at fallen k) p (Some change) = subst (IsSent (filt_at v.chains k) (filt_at fallen k) p) came f.changes.rows in
          subst (λ (q : AddressPrefix). IsSome (tables.get entered q)) (sym here.0)
          (kept_there entered (shifted has (branch_candidates v) (branch_candidates (with_chains v fallen))) k p (is_small v k c s f.feeds.at) counts
          (sent_there k p had has (branch_candidates v) (branch_candidates (with_chains v fallen)) (filt_at v.chains k) (filt_at fallen k) change fed_shifts old_covered now_covered here))

  pub fed_has_shifted : (entered decided : Contested) → fed_counts entered → KeepsCounts entered decided → HasShifted p had has decided
  fed_has_shifted entered decided counts keeps = record {
    branch = k;
    before = branch_candidates v;
    now = branch_candidates (with_chains v fallen);
    shifts = fed_shifts;
    counts = keeps (shifted has (branch_candidates v) (branch_candidates (with_chains v fallen))) counts;
  }

  pub fed_informed : (entered decided left : Contested) (m' : Moment) (below : List (Entry Value)) → SettlesPeer k sent (with_chains v fallen) m' below → fed_counts entered → KeepsCounts entered decided → Knows decided (branch_rows m')
      → ((j : ℕ) (before now : ℕ → Candidates) → Shifts j p had has before now → Counts decided (shifted has before now) → Counts left now)
      → ((rows : AllRows) (now : ℕ → Candidates) → Counts left now → CoversAt now rows p → Knows decided rows → Knows left rows) → Informed left m'
  fed_informed entered decided left m' below settles counts keeps knows leaves known = record {
    knows = known (branch_rows m') (branch_candidates m') counted (covers_at (branch_candidates m') (branch_rows m') (branch_covered m') p) knows;
    counts = counted;
  }
    where
      counted : Counts left (branch_candidates m')
      counted = subst (Counts left) (sym (settles_keep k sent (with_chains v fallen) m' below settles))
          (leaves k (branch_candidates v) (branch_candidates (with_chains v fallen)) fed_shifts (keeps (shifted has (branch_candidates v) (branch_candidates (with_chains v fallen))) counts))

-- ---- a turn of a task of the chain
module _ (task : Task) (sent : Option (Change Route)) (lost : Option AddressPrefix) (m v : Moment) (fallen : Chains) (entries : List (Entry Value)) (view : v ≡ m) (stands : Stands m) (t : TakesInward task sent v.chains fallen entries)
    (found : (c : Chained) → chain_at (peer_of task) m.chains ≡ Some c → FindsNextLost c task lost) where
  abbrev k : ℕ
  k = peer_of task

  sv : Stands v
  sv = subst Stands (sym view) stands

  abbrev old : Chained
  old = t.turn.chain

  abbrev new : Chained
  new = t.turn.turned_chain

  takes : TakesCandidateAt lost (filt_candidates old) (filt_candidates new)
  takes = turns_take_the_next old new task sent entries lost (sv.peers.chains k old t.turn.at).chain (found old (ap (λ (x : Moment). chain_at k x.chains) (sym view) ∙ t.turn.at)) t.turn.turned

  by_lost : (o : Option AddressPrefix) → TakesCandidateAt o (filt_candidates old) (filt_candidates new) → ShiftsAt o k (branch_candidates v) (branch_candidates (with_chains v fallen))
  by_lost None same = candidates_stay v k old sv t.turn.at new fallen t.turn.after same
  by_lost (Some p) taken = chain_shifts v k old sv t.turn.at p true false new fallen t.turn.after taken.stood taken.gone taken.others

  pub turned_shifts : ShiftsAt lost k (branch_candidates v) (branch_candidates (with_chains v fallen))
  turned_shifts = by_lost lost takes

  pub turned_above : (contests : Contested) → Informed contests m → KnowsAbove k sent contests (with_chains v fallen)
  turned_above contests i = fallen_above v k old sv t.turn.at sent contests fallen t.changes.0 t.changes.1 known.knows there
    where
      known : Informed contests v
      known = subst (Informed contests) (sym view) i

      -- a change comes at a prefix that had a candidate: whatever goes had one, and nothing comes
      there : KeepsPrefix sent contests
      there change came =
          let p = t.changes.0 in
          let here : IsSent (filt_at v.chains k) (filt_at fallen k) p (Some change) = subst (IsSent (filt_at v.chains k) (filt_at fallen k) p) came t.changes.1.rows in
          subst (λ (q : AddressPrefix). IsSome (tables.get contests q)) (sym here.0) (by_candidate p change here (branch_candidates v k p) refl)
        where
          stood : (o : Option AddressPrefix) → TakesCandidateAt o (filt_candidates old) (filt_candidates new) → (q : AddressPrefix) → filt_candidates old q ≡ false → filt_candidates new q ≡ false
          stood None same q none = ap (λ (f : Candidates). f q) same ∙ none
          stood (Some p) taken q none = by_prefix q p (λ _. filt_candidates new q ≡ false) (λ e. subst (λ (x : AddressPrefix). filt_candidates new x ≡ false) (sym e) taken.gone) (λ apart. taken.others q apart ∙ none)

          by_candidate : (p : AddressPrefix) (change : Change Route) → IsSent (filt_at v.chains k) (filt_at fallen k) p (Some change) → (b : Bool) → branch_candidates v k p ≡ b → IsSome (tables.get contests p)
          by_candidate p change here true is = kept_there contests (branch_candidates v) k p (is_small v k old sv t.turn.at) known.counts is
          by_candidate p change here false is =
              let none : filt_candidates old p ≡ false = sym (ap (λ (f : Candidates). f p) (candidate_is v k old sv t.turn.at)) ∙ is in
              absurd (not_both_none (filt_at v.chains k) (filt_at fallen k) p change here (ap (λ (o : Option Chained). filt_by o p) t.turn.at ∙ candidates_cover_rows old p none)
              (ap (λ (o : Option Chained). filt_by o p) (fallen_at k v.chains fallen new t.turn.after) ∙ candidates_cover_rows new p (stood lost takes p none)))

  pub turned_has_shifted : (contests decided : Contested) → Informed contests m → KeepsCounts contests decided → (p : AddressPrefix) → lost ≡ Some p → HasShifted p true false decided
  turned_has_shifted contests decided i keeps p is = record {
    branch = k;
    before = branch_candidates v;
    now = branch_candidates (with_chains v fallen);
    shifts = subst (λ (o : Option AddressPrefix). ShiftsAt o k (branch_candidates v) (branch_candidates (with_chains v fallen))) is turned_shifts;
    counts = keeps (branch_candidates v) (subst (λ (n : Moment). Counts contests (branch_candidates n)) (sym view) i.counts);
  }

  pub turned_informed : (contests decided left : Contested) (m' : Moment) (below : List (Entry Value)) → Informed contests m → SettlesPeer k sent (with_chains v fallen) m' below → KeepsCounts contests decided → Knows decided (branch_rows m')
      → ((j : ℕ) (before now : ℕ → Candidates) → ShiftsAt lost j before now → Counts decided before → Counts left now)
      → ((rows : AllRows) (now : ℕ → Candidates) → Counts left now → ((p : AddressPrefix) → CoversAt now rows p) → Knows decided rows → Knows left rows) → Informed left m'
  turned_informed contests decided left m' below i settles keeps knows leaves known = record {
    knows = known (branch_rows m') (branch_candidates m') counted (covers_at (branch_candidates m') (branch_rows m') (branch_covered m')) knows;
    counts = counted;
  }
    where
      counted : Counts left (branch_candidates m')
      counted = subst (Counts left) (sym (settles_keep k sent (with_chains v fallen) m' below settles))
          (leaves k (branch_candidates v) (branch_candidates (with_chains v fallen)) turned_shifts (keeps (branch_candidates v) (subst (λ (n : Moment). Counts contests (branch_candidates n)) (sym view) i.counts)))

-- a turn that was taken, whether it sent something or not
pub taken_as : (task : Task) (sent : Option (Change Route)) (turn : Turn Route) (a cs : Chains) (before j : Journaled) → turn ≢ turns.Nothing → sent ≡ sent_of turn → ComesInward task a cs before j turn → (entries : List (Entry Value)) × TakesInward task sent a cs entries
taken_as task sent turns.Nothing a cs before j some is comes = absurd (some refl)
taken_as task sent turns.Quiet a cs before j some is comes = (comes.0, subst (λ (o : Option (Change Route)). TakesInward task o a cs comes.0) (sym is) comes.2)
taken_as task sent (turns.Sent change) a cs before j some is comes = (comes.0, subst (λ (o : Option (Change Route)). TakesInward task o a cs comes.0) (sym is) comes.2)

-- ---- steps that move no candidate and no row
-- a session is lost
pub loses_informed : (k session : ℕ) (contests : Contested) (m : Moment) (cs : Chains) (entries : List (Entry Value)) → LosesInward k session m.chains cs entries → Informed contests m → Informed contests (with_chains m cs)
loses_informed k session contests m cs entries l = informed_as contests m (with_chains m cs) (quiet_rows (own_of m) m.chains cs m.hops l.quiet)
    (ap (λ (a : Chains). counted_over (own_of m) a) l.loses.after ∙ candidates_kept (with_rows (own_of m)) m.chains k (lost session l.loses.chain) (losses_keep_candidates session l.loses.chain ∙ sym (ap candidates_by l.loses.at)))

-- the rules of a filter are edited
pub edits_informed : (k : ℕ) (rules : List Rule) (contests : Contested) (m : Moment) (cs : Chains) → EditsInward k rules m.chains cs → Informed contests m → Informed contests (with_chains m cs)
edits_informed k rules contests m cs e = informed_as contests m (with_chains m cs) (quiet_rows (own_of m) m.chains cs m.hops e.quiet)
    (ap (λ (a : Chains). counted_over (own_of m) a) e.edits.after ∙ candidates_kept (with_rows (own_of m)) m.chains k (refiltered rules e.edits.chain) (edits_keep_candidates rules e.edits.chain ∙ sym (ap candidates_by e.edits.at)))

pub ends_informed : (k session : ℕ) (contests : Contested) (m m' : Moment) (said : List Line) → Ends k session m m' said → Informed contests m → Informed contests m'
ends_informed k session contests m m' said e i =
    let lost : Informed contests (with_chains m e.loses.chains) = loses_informed k session contests m e.loses.chains e.loses.entries e.loses.part i in
    let between : Informed contests e.between = subst (Informed contests) (sym e.loses.after) lost in
    subst (Informed contests) (sym e.after) (informed_same contests e.between (ended e.between k) refl refl refl refl refl between)
