-- A change of `red`: this speaker's own row at its prefix comes or goes, and with it what is counted there.
use Rattle.router_moments.proofs.Common.{sym, subst, ◌∙◌, ap, ◌≡◌, ℕ, refl, arith, Bool, suc, zero, ◌≢◌, cond, AddressPrefix, Route, Rows, Candidates, Change, no_table, own_of, lent_rows, Moment, with_exits, Exited}
use Rattle.std.proofs.Common.{Some, is_some}
use Rattle.std.specs.Prelude.{IsSome}
use Rattle.std.specs.FinMap as tables
use Rattle.addr4.proofs.PrefixOrder.{by_prefix}
use Rattle.decision.specs.Branches.{AllRows}
use Rattle.decision.specs.Contests.{Knows, Counts, CoversAt}
use Rattle.router_network.specs.Informed.{Contested, Informed, KnowsOwn, KnowsBut, KeepsCounts, Shifts, HasShift, HasShifted, shifted, counted_over, branch_rows, branch_candidates}
use Rattle.router_network.proofs.BranchRows.{own_moves}
use Rattle.router_network.proofs.Counting.{kept_there, sent_there, covers_at, after_here}
use Rattle.router_network.proofs.KnownRows.{branch_covered}

module _ (change : Change Route) (had has : Bool) (contests : Contested) (m : Moment) (before_is : had ≡ is_some change.before) (after_is : has ≡ is_some change.after) (known : KnowsOwn (Some change) contests m) where
  -- what was counted before it
  abbrev before : ℕ → Candidates
  before = counted_over known.own m.chains

  pub own_shifts : Shifts 0 change.prefix had has before (branch_candidates m)
  own_shifts = record {
    small = omega arith;
    was = ap is_some known.comes.1.0 ∙ sym before_is;
    is = ap is_some (after_here known.own (own_of m) known.prefix change known.comes) ∙ sym after_is;
    others = others;
    elsewhere = elsewhere;
  }
    where
      others : (b : ℕ) → b ≢ 0 → branch_candidates m b change.prefix ≡ before b change.prefix
      others zero apart = absurd (apart refl)
      others (suc b) apart = refl

      elsewhere : (b : ℕ) (q : AddressPrefix) → q ≢ change.prefix → branch_candidates m b q ≡ before b q
      elsewhere zero q apart =
          ap (λ (rows : Rows Route). is_some (rows q)) known.comes.2
          ∙ by_prefix q change.prefix (λ t. is_some (cond t change.after (known.own q)) ≡ is_some (known.own q)) (λ e. absurd (apart e)) (λ _. refl)
      elsewhere (suc b) q apart = refl

  pub own_has_shift : HasShift change.prefix had has contests
  own_has_shift = record { branch = 0; before = before; now = branch_candidates m; shifts = own_shifts; counts = known.counts }

  -- what is counted where it was entered
  abbrev pub own_counts : Contested → Type 0
  own_counts counted = Counts counted (shifted has before (branch_candidates m))

  pub own_enters : (counted : Contested) → ((k : ℕ) (old now : ℕ → Candidates) → Shifts k change.prefix had has old now → Counts contests old → Counts counted (shifted has old now)) → own_counts counted
  own_enters counted enters = enters 0 before (branch_candidates m) own_shifts known.counts

  -- so the decision may take it in
  pub own_but : (counted : Contested) → ((rows : AllRows) → Knows contests rows → Knows counted rows) → own_counts counted → KnowsBut 0 (Some change) counted m
  own_but counted enters counts = record {
    before = lent_rows known.own m.chains m.hops;
    prefix = known.prefix;
    comes = own_moves known.own (own_of m) m.chains m.hops known.prefix (Some change) known.comes;
    knows = enters (lent_rows known.own m.chains m.hops) known.knows;
    there = λ c is. subst (λ (x : Change Route). IsSome (tables.get counted x.prefix)) (let same : change ≡ c = cc in same) there;
  }
    where
      there : IsSome (tables.get counted change.prefix)
      there = kept_there counted (shifted has before (branch_candidates m)) 0 change.prefix (omega arith) counts
          (sent_there 0 change.prefix had has before (branch_candidates m) known.own (own_of m) change own_shifts
          (λ q none. no_table (known.own q) none) (λ q none. no_table (own_of m q) none) (refl, known.comes.1, known.comes.2))

  pub own_has_shifted : (counted decided : Contested) → own_counts counted → KeepsCounts counted decided → HasShifted change.prefix had has decided
  own_has_shifted counted decided counts keeps = record { branch = 0; before = before; now = branch_candidates m; shifts = own_shifts; counts = keeps (shifted has before (branch_candidates m)) counts }

  -- and all is known and counted in the end
  pub own_informed : (counted decided left : Contested) (m' : Moment) (e : Exited) → m' ≡ with_exits m e → own_counts counted → KeepsCounts counted decided → Knows decided (branch_rows m')
      → ((k : ℕ) (old now : ℕ → Candidates) → Shifts k change.prefix had has old now → Counts decided (shifted has old now) → Counts left now)
      → ((rows : AllRows) (now : ℕ → Candidates) → Counts left now → CoversAt now rows change.prefix → Knows decided rows → Knows left rows) → Informed left m'
  own_informed counted decided left m' e after counts keeps knows leaves stays = record {
    knows = stays (branch_rows m') (branch_candidates m') counted_left (covers_at (branch_candidates m') (branch_rows m') (branch_covered m') change.prefix) knows;
    counts = counted_left;
  }
    where
      counted_left : Counts left (branch_candidates m')
      counted_left = subst (Counts left) (sym (ap branch_candidates after)) (leaves 0 before (branch_candidates m) own_shifts (keeps (shifted has before (branch_candidates m)) counts))
