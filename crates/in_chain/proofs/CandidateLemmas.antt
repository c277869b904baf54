-- Where `in.K` has rows, after each step of a chain: the candidates of `filt.K`.
use Rattle.std.proofs.Common.{◌≡◌, ◌≢◌, ℕ, ◌+◌, ◌==◌, ◌++◌, Bool, true, false, cond, not, nat_eq, List, [], ◌∷◌, map, Option, Some, None, IsSome, is_some, refl, sym, ap, subst, ◌∙◌, arith}
use Rattle.std.specs.List.{filter}
use Rattle.std.specs.FinMap as tables
use Rattle.std.specs.FinMap.{FinMap, empty_of_len}
use Rattle.std.proofs.lemmas.Option.{same_Some}
use Rattle.addr4.specs.Prefixes.{AddressPrefix, prefix_cmp, ComesBefore}
use Rattle.addr4.proofs.PrefixOrder.{by_prefix}
use Rattle.addr4.proofs.RankLemmas.{another, one_first}
use Rattle.bgp_attr.specs.Attributes.{Attrs}
use Rattle.bgp_attr.specs.Routes.{Route}
use Rattle.bgp_attr.specs.Speakers.{Speaker}
use Rattle.bgp_attr.specs.declared.speaker.Neighbour.{Neighbour}
use Rattle.link_change.specs.Rows.{Rows, with_row, with_rows, is_empty_map, IsNextCandidate}
use Rattle.link_change.specs.Changes.{Change}
use Rattle.link_change.proofs.RowLemmas.{with_row_here, rows_inserted, rows_removed, empty_rows}
use Rattle.policy_rules.specs.Rules.{Rule}
use Rattle.pass_core.specs.Passed.{function_at}
use Rattle.filter_bank.specs.Filtered.{filtered}
use Rattle.journal_text.specs.Lines.{Entry}
use Rattle.journal_text.specs.declared.link.Task.TheVariants.{Del, Fin}
use Rattle.journal_text.specs.Lines.{Value}
use Rattle.loss_chain.specs.Lost.{Lost}
use Rattle.loss_chain.specs.Covering.{row_over, covered, IsLeastRow}
use Rattle.loss_chain.specs.Tables.{Tables, rows_below, lowest_rows, AreAllApart, AreRising}
use Rattle.loss_chain.specs.Steps.{without, live_after, fed_tables, lost_tables, table_of, swept_one}
use Rattle.loss_chain.proofs.CoverLemmas.{covered_nothing, nothing_covers}
use Rattle.loss_chain.proofs.RowLemmas.{absent_below}
use Rattle.loss_chain.proofs.TableLemmas.{equal_by, no_table}
use Rattle.loss_chain.proofs.WholeLemmas.{rising_all}
use Rattle.loss_chain.proofs.WorkLemmas.{swept_above}
use Rattle.in_chain.specs.Incomings.{in_rows}
use Rattle.in_chain.specs.Chains.{Chained, filt_candidates}
use Rattle.in_chain.specs.Steps.{Sweeps, TakesNext, FindsNextLost}
use Rattle.in_chain.specs.Laws.{CandidatesCoverRows, NoCandidateAtFirst, FeedsKeepOthers, WeldsKeepCandidates, LossesKeepCandidates, EditsKeepCandidates, WalksKeepCandidates, TakesCandidate, TakesCandidateAt, SweptRowsTakeCandidates, StagesTakeTheNext, WalksHaveNoNext, TurnsTakeTheNext}

module _ {R : Type 0} where
  -- ---- what is set or goes at one prefix, at every other
  set_elsewhere : (rows : Rows R) (p q : AddressPrefix) (row : Option R) → q ≢ p → with_row rows p row q ≡ rows q
  set_elsewhere rows p q row apart = ap (λ (b : Bool). cond b row (rows q)) (another q p apart)

  removed_elsewhere : (m : FinMap prefix_cmp R) (p q : AddressPrefix) → q ≢ p → tables.get (tables.remove m p) q ≡ tables.get m q
  removed_elsewhere m p q apart = ap (λ (r : Rows R). r q) (rows_removed m p) ∙ set_elsewhere (tables.get m) p q None apart

  live_elsewhere : (live : FinMap prefix_cmp R) (p q : AddressPrefix) (row : Option R) → q ≢ p → tables.get (live_after live p row) q ≡ tables.get live q
  live_elsewhere live p q None apart = removed_elsewhere live p q apart
  live_elsewhere live p q (Some a) apart = ap (λ (r : Rows R). r q) (rows_inserted live p a) ∙ set_elsewhere (tables.get live) p q (Some a) apart

  swept_elsewhere : (n : ℕ) (p q : AddressPrefix) → q ≢ p → (d : Lost R) → tables.get (swept_one n p d).rows q ≡ tables.get d.rows q
  swept_elsewhere n p q apart d = elim (d.number == n) as (λ b. tables.get (cond b (without p d) d).rows q ≡ tables.get d.rows q) [ true ↦ removed_elsewhere d.rows p q apart | false ↦ refl ]

  -- where the live rows are alike at a prefix, or each lost table is, the rows below are
  below_live : (live now : FinMap prefix_cmp R) (q : AddressPrefix) → tables.get now q ≡ tables.get live q → (ds : List (Lost R)) → rows_below now ds q ≡ rows_below live ds q
  below_live live now q same [] = same
  below_live live now q same (d ∷ ds) = ap (λ (o : Option R). row_over (tables.get d.rows q) o) (below_live live now q same ds)

  below_each : (f : Lost R → Lost R) (live : FinMap prefix_cmp R) (q : AddressPrefix) → ((d : Lost R) → tables.get (f d).rows q ≡ tables.get d.rows q) → (ds : List (Lost R)) → rows_below live (map f ds) q ≡ rows_below live ds q
  below_each f live q each [] = refl
  below_each f live q each (d ∷ ds) =
      ap (λ (o : Option R). row_over o (rows_below live (map f ds) q)) (each d) ∙ ap (λ (o : Option R). row_over (tables.get d.rows q) o) (below_each f live q each ds)

  fed_elsewhere : (t : Tables R) (p q : AddressPrefix) (row : Option R) → q ≢ p → lowest_rows (fed_tables t p row) q ≡ lowest_rows t q
  fed_elsewhere t p q None apart = below_live t.live (live_after t.live p None) q (live_elsewhere t.live p q None apart) t.deletions
  fed_elsewhere t p q (Some a) apart =
      below_live t.live (live_after t.live p (Some a)) q (live_elsewhere t.live p q (Some a) apart) (map (without p) t.deletions)
      ∙ below_each (without p) t.live q (λ d. removed_elsewhere d.rows p q apart) t.deletions

  -- ---- welds and losses
  none_there : (t : FinMap prefix_cmp R) → is_empty_map t ≡ true → t ≡ tables.empty
  none_there t empty = empty_of_len t (equal_by (tables.len t) 0 empty)

  welded_below : (live : FinMap prefix_cmp R) (ds : List (Lost R)) → rows_below live (filter (λ d. not (is_empty_map d.rows)) ds) ≡ rows_below live ds
  welded_below live [] = refl
  welded_below live (d ∷ ds) =
      let kept = filter (λ (x : Lost R). not (is_empty_map x.rows)) ds in
      elim (is_empty_map d.rows) as (λ b. is_empty_map d.rows ≡ b → rows_below live (cond (not b) (d ∷ kept) kept) ≡ rows_below live (d ∷ ds)) [
        | true ↦ λ empty. welded_below live ds ∙ sym (nothing_covers d.rows (rows_below live ds) (none_there d.rows empty))
        | false ↦ λ _. ap (λ (r : Rows R). covered (tables.get d.rows) r) (welded_below live ds)
      ] refl

  lost_below : (n : ℕ) (live : FinMap prefix_cmp R) (ds : List (Lost R)) → rows_below tables.empty (ds ++ record { number = n; rows = live } ∷ []) ≡ rows_below live ds
  lost_below n live [] = ap (λ (r : Rows R). covered (tables.get live) r) empty_rows ∙ covered_nothing (tables.get live)
  lost_below n live (d ∷ ds) = ap (λ (r : Rows R). covered (tables.get d.rows) r) (lost_below n live ds)

  lost_rows : (n : ℕ) (t : Tables R) → lowest_rows (lost_tables n t) ≡ lowest_rows t
  lost_rows n t =
      let more : List (Lost R) = t.deletions ++ record { number = n; rows = t.live } ∷ [] in
      elim (is_empty_map t.live) as (λ b. is_empty_map t.live ≡ b → rows_below tables.empty (cond b t.deletions more) ≡ lowest_rows t) [
        | true ↦ λ empty. ap (λ (m : FinMap prefix_cmp R). rows_below m t.deletions) (sym (none_there t.live empty))
        | false ↦ λ _. lost_below n t.live t.deletions
      ] refl

-- ---- a row that leaves a lost table
module _ {R : Type 0} (live : FinMap prefix_cmp R) (n : ℕ) (p : AddressPrefix) (table : FinMap prefix_cmp R) (row : R) (at : tables.get table p ≡ Some row) where
  over_some : (o u : Option R) → IsSome u → IsSome (row_over o u)
  over_some None u some = some
  over_some (Some r) u some = refl

  over_none : (o u : Option R) → o ≡ None → u ≡ None → row_over o u ≡ None
  over_none None u held above = above
  over_none (Some r) u held above = absurd (cc)

  -- it stands on the link below
  stands_below : (ds : List (Lost R)) → table_of n ds ≡ Some table → IsSome (rows_below live ds p)
  stands_below [] is = absurd (cc)
  stands_below (d ∷ ds) is =
      elim (nat_eq d.number n) as (λ b. cond b (Some d.rows) (table_of n ds) ≡ Some table → IsSome (row_over (tables.get d.rows p) (rows_below live ds p))) [
        | true ↦ λ here.
            let same : d.rows ≡ table = cc in
            subst (λ (o : Option R). IsSome (row_over o (rows_below live ds p))) (sym (ap (λ (t : FinMap prefix_cmp R). tables.get t p) same ∙ at)) refl
        | false ↦ λ later. over_some (tables.get d.rows p) (rows_below live ds p) (stands_below ds later)
      ] is

  -- nothing stands there then
  gone_below : (ds : List (Lost R)) → AreAllApart live ds → AreRising ds → table_of n ds ≡ Some table → rows_below live (map (swept_one n p) ds) p ≡ None
  gone_below [] apart rising is = absurd (cc)
  gone_below (d ∷ ds) apart rising is = by_number (gone_below ds apart.1 rising.1) (nat_eq d.number n) refl
    where
      above : List (Lost R)
      above = map (swept_one n p) ds

      by_number : (table_of n ds ≡ Some table → rows_below live above p ≡ None) → (b : Bool) → nat_eq d.number n ≡ b → row_over (tables.get (swept_one n p d).rows p) (rows_below live above p) ≡ None
      by_number rest true e =
          let mine : Some d.rows ≡ Some table = sym (ap (λ (b : Bool). cond b (Some d.rows) (table_of n ds)) e) ∙ is in
          let same : d.rows ≡ table = cc in
          let number : d.number ≡ n = equal_by d.number n e in
          let first : swept_one n p d ≡ without p d = ap (λ (b : Bool). cond b (without p d) d) e in
          let others : above ≡ ds = swept_above n p (d.number + 1) ds (omega (arith, number)) (rising_all d.number ds rising.0 rising.1) in
          over_none (tables.get (swept_one n p d).rows p) (rows_below live above p)
          (ap (λ (x : Lost R). tables.get x.rows p) first ∙ ap (λ (rows : Rows R). rows p) (rows_removed d.rows p) ∙ with_row_here (tables.get d.rows) p None)
          (ap (λ (l : List (Lost R)). rows_below live l p) others ∙ apart.0 p (ap (λ (t : FinMap prefix_cmp R). is_some (tables.get t p)) same ∙ ap is_some at))
      by_number rest false e =
          let later : table_of n ds ≡ Some table = sym (ap (λ (b : Bool). cond b (Some d.rows) (table_of n ds)) e) ∙ is in
          let first : swept_one n p d ≡ d = ap (λ (b : Bool). cond b (without p d) d) e in
          over_none (tables.get (swept_one n p d).rows p) (rows_below live above p)
          (ap (λ (x : Lost R). tables.get x.rows p) first ∙ absent_below d.rows (rows_below live ds) p apart.0 (stands_below ds later)) (rest later)

-- ---- the row that a turn of a stage takes
-- no row stands before the least one, so there is one alone
none_lesser : (rows : Rows Attrs) (p q : AddressPrefix) (one other : Attrs) → IsLeastRow rows p (Some one) → rows q ≡ Some other → ComesBefore q p → ⊥
none_lesser rows p q one other least there before = let clash : Some other ≡ None = sym there ∙ least.2 q before in cc

least_is_one : (rows : Rows Attrs) (p q : AddressPrefix) (one other : Attrs) → IsLeastRow rows p (Some one) → IsLeastRow rows q (Some other) → p ≡ q
least_is_one rows p q one other first second =
    by_prefix p q (λ _. p ≡ q) (λ same. same)
    (λ apart. absurd (none_lesser rows q p other one second first.0 (one_first p q apart (none_lesser rows p q one other first second.0))))

next_is_one : (c : Chained) (session : ℕ) (p q : AddressPrefix) → TakesNext c session p → TakesNext c session q → p ≡ q
next_is_one c session p q first second =
    let same : second.table ≡ first.table = same_Some second.table first.table (sym second.stands ∙ first.stands) in
    least_is_one (tables.get first.table) p q first.row second.row first.least (subst (λ (t : FinMap prefix_cmp Attrs). IsLeastRow (tables.get t) q (Some second.row)) same second.least)

next_of : (old new : Chained) (session : ℕ) (sent : Option (Change Route)) (entries : List (Entry Value)) (turn : Sweeps old new session sent entries) → TakesNext old session turn.prefix
next_of old new session sent entries turn = record { row = turn.row; table = turn.table; stands = turn.stands; least = turn.least }

-- ---- what is found of a stage
a_row : (o : Option Attrs) → is_some o ≡ true → (row : Attrs) × (o ≡ Some row)
a_row None is = absurd (let clash : false ≡ true = is in cc)
a_row (Some row) is = (row, refl)

-- the first row of its table, if there is one
pub first_row : (c : Chained) (session : ℕ) (table : FinMap prefix_cmp Attrs) (next : Option AddressPrefix) → table_of session c.incoming.tables.deletions ≡ Some table → IsNextCandidate (with_rows (tables.get table)) None next
    → FindsNextLost c (Del c.incoming.number session) next
first_row c session table None stands least = λ p found.
    let same : table ≡ found.1.table = same_Some table found.1.table (sym stands ∙ found.1.stands) in
    let clash : false ≡ true = sym (least p tt) ∙ ap (λ (t : FinMap prefix_cmp Attrs). is_some (tables.get t p)) same ∙ ap is_some found.1.least.0 in
    cc
first_row c session table (Some p) stands least =
    let found = a_row (tables.get table p) least.1 in
    (refl, record { row = found.0; table = table; stands = stands; least = (found.1, refl, λ q before. no_table (tables.get table q) (least.2 q tt before)) })

-- ---- laws
nothing_filtered : (me : Speaker) (peer : Neighbour) (rules : List Rule) (p : AddressPrefix) (o : Option Attrs) → is_some o ≡ false → filtered me peer rules p o ≡ None
nothing_filtered me peer rules p None none = refl
nothing_filtered me peer rules p (Some a) none = absurd (let clash : true ≡ false = none in cc)

pub candidates_cover_rows : CandidatesCoverRows
candidates_cover_rows c q none = nothing_filtered c.me c.peer (function_at c.filter q) q (in_rows c.incoming q) none

pub no_candidate_at_first : NoCandidateAtFirst
no_candidate_at_first me peer q = ap (λ (r : Rows Attrs). is_some (r q)) empty_rows

pub feeds_keep_others : FeedsKeepOthers
feeds_keep_others c p row q apart = ap (λ (o : Option Attrs). is_some o) (fed_elsewhere c.incoming.tables p q row apart)

pub welds_keep_candidates : WeldsKeepCandidates
welds_keep_candidates c = ap (λ (r : Rows Attrs). with_rows r) (welded_below c.incoming.tables.live c.incoming.tables.deletions)

pub losses_keep_candidates : LossesKeepCandidates
losses_keep_candidates session c = ap (λ (r : Rows Attrs). with_rows r) (lost_rows session c.incoming.tables)

pub edits_keep_candidates : EditsKeepCandidates
edits_keep_candidates rules c = refl

pub walks_keep_candidates : WalksKeepCandidates
walks_keep_candidates old new sent entries turn = ap (λ (c : Chained). filt_candidates c) turn.after

pub swept_rows_take_candidates : SweptRowsTakeCandidates
swept_rows_take_candidates c session p table row chain stands at =
    let live = c.incoming.tables.live in
    let ds = c.incoming.tables.deletions in
    record {
      stood = stands_below live session p table row at ds stands;
      gone = ap is_some (gone_below live session p table row at ds chain.apart chain.rising stands);
      others = λ q apart. ap is_some (below_each (swept_one session p) live q (swept_elsewhere session p q apart) ds);
    }

pub stages_take_the_next : StagesTakeTheNext
stages_take_the_next old new session sent entries None finds turn = absurd (finds turn.prefix (refl, next_of old new session sent entries turn))
stages_take_the_next old new session sent entries (Some p) finds turn = ap (λ (q : AddressPrefix). Some q) (next_is_one old session p turn.prefix finds.1 (next_of old new session sent entries turn))

pub walks_have_no_next : WalksHaveNoNext
walks_have_no_next c k None finds = refl
walks_have_no_next c k (Some p) finds = absurd finds

pub turns_take_the_next : TurnsTakeTheNext
turns_take_the_next old new (Del k session) sent entries next chain finds turned =
    let turn = turned.1 in
    let found = stages_take_the_next old new session sent entries next (subst (λ (n : ℕ). FindsNextLost old (Del n session) next) turned.0 finds) turn in
    let takes = swept_rows_take_candidates old session turn.prefix turn.table turn.row chain turn.stands turn.least.0 in
    subst (λ (o : Option AddressPrefix). TakesCandidateAt o (filt_candidates old) (filt_candidates new)) (sym found)
    (subst (λ (c : Chained). TakesCandidate turn.prefix (filt_candidates old) (filt_candidates c)) (sym turn.after) takes)
turns_take_the_next old new (Fin k) sent entries next chain finds turned =
    subst (λ (o : Option AddressPrefix). TakesCandidateAt o (filt_candidates old) (filt_candidates new)) (sym (walks_have_no_next old k next finds)) (walks_keep_candidates old new sent entries turned.1)
turns_take_the_next old new other sent entries next chain finds turned = absurd turned
