-- The lost tables after losses, welds and turns.
use Rattle.std.proofs.Common.{◌≡◌, ◌≢◌, ℕ, ◌<◌, ◌≤◌, ◌+◌, ◌==◌, ◌++◌, Bool, true, false, cond, not, List, [], ◌∷◌, Option, Some, None, IsSome, is_some, IfSome, refl, sym, ap, subst, ◌∙◌, arith, inl, inr}
use Rattle.std.specs.Prelude.{map, filter}
use Rattle.std.proofs.lemmas.Bool.{eq-eqb}
use Rattle.std.proofs.lemmas.Bool.Decides.{nat_tests}
use Rattle.std.specs.FinMap as tables
use Rattle.std.specs.FinMap.{FinMap, len-empty}
use Rattle.addr4.specs.Prefixes.{AddressPrefix, prefix_cmp}
use Rattle.link_change.specs.Rows.{Rows, is_empty_map}
use Rattle.link_change.specs.Changes.{IsSent}
use Rattle.link_change.specs.Changes.{Change}
use Rattle.link_change.specs.Turns.{Turn}
use Rattle.link_change.specs.declared.turn.Turn.TheVariants.{Nothing, Quiet, Sent}
use Rattle.link_change.specs.Turns.{taken_turn}
use Rattle.link_change.proofs.RowLemmas.{empty_rows}
use Rattle.loss_chain.proofs.CoverLemmas.{covered_nothing}
use Rattle.loss_chain.specs.Lost.{Lost}
use Rattle.loss_chain.specs.Covering.{row_over, covered, DeletesOn, IsLeastRow}
use Rattle.journal_text.specs.Links.{rank_of}
use Rattle.journal_text.specs.declared.link.Link.{Link}
use Rattle.journal_text.specs.declared.entry.Entry.TheVariants.{Begin, Weld}
use Rattle.journal_text.specs.Values.{sent_entries}
use Rattle.journal_text.specs.Journals.{Journaled, with_entries, Adds}
use Rattle.loss_chain.specs.Tables.{Tables, rows_below, lowest_rows, NoneEmpty, OneEmptyAtMost, AreAllApart}
use Rattle.journal_text.specs.Lines.{Value}
use Rattle.loss_chain.specs.declared.owner.Owner.{Owner}
use Rattle.loss_chain.specs.Owners.{lost_link}
use Rattle.loss_chain.specs.Falls.{way_from}
use Rattle.loss_chain.specs.Steps.{no_tables, loss_entries, welded_tables, weld_entries, without, deletions_after, table_of, swept_tables, swept_one}
use Rattle.loss_chain.specs.Parts.{lowered, IsRisingFrom, IsSound, LeadsOver, FallsOver, SweepsOver, IsTakenOver, filled, filled_once}
use Rattle.loss_chain.proofs.RowLemmas.{not_held, same_lost}
use Rattle.loss_chain.proofs.PartLemmas.{passes_down, passes_quietly, own_falls, begins, welds}

pub same_number : (m n : ℕ) → m ≡ n → (m == n) ≡ true
same_number m n e = eq-eqb m n e

pub other_number : (m n : ℕ) → m ≢ n → (m == n) ≡ false
other_number m n e = grind (arith, nat_tests)

module _ {R : Type 0} where
  -- ---- welds

  none_dropped : (ds : List (Lost R)) → NoneEmpty ds → filter (λ d. not (is_empty_map d.rows)) ds ≡ ds
  none_dropped [] full = refl
  none_dropped (d ∷ ds) full =
      let rest = filter (λ (x : Lost R). not (is_empty_map x.rows)) ds in
      ap (λ (b : Bool). cond (not b) (d ∷ rest) rest) full.0 ∙ ap (λ l. d ∷ l) (none_dropped ds full.1)

  full_above : (d : Lost R) (ds : List (Lost R)) → is_empty_map d.rows ≡ true → OneEmptyAtMost (d ∷ ds) → NoneEmpty ds
  full_above d ds empty (inl full) = full
  full_above d ds empty (inr other) = absurd (let e : true ≡ false = sym empty ∙ other.0 in cc)

  pub none_is_one : (ds : List (Lost R)) → NoneEmpty ds → OneEmptyAtMost ds
  none_is_one [] full = tt
  none_is_one (d ∷ ds) full = inl full.1

  pub one_above : (d : Lost R) (ds : List (Lost R)) → OneEmptyAtMost (d ∷ ds) → OneEmptyAtMost ds
  one_above d ds (inl full) = none_is_one ds full
  one_above d ds (inr other) = other.1

  -- where one table at most is empty, the lowest empty one is all of them
  filled_all : (ds : List (Lost R)) → OneEmptyAtMost ds → filled ds ≡ filter (λ d. not (is_empty_map d.rows)) ds
  filled_all [] one = refl
  filled_all (d ∷ ds) one =
      let rest = filter (λ (x : Lost R). not (is_empty_map x.rows)) ds in
      elim (is_empty_map d.rows) as (λ b. is_empty_map d.rows ≡ b → cond b ds (d ∷ filled ds) ≡ cond (not b) (d ∷ rest) rest) [
        | true ↦ λ empty. sym (none_dropped ds (full_above d ds empty one))
        | false ↦ λ full. ap (λ l. d ∷ l) (filled_all ds (one_above d ds one))
      ] refl

  pub welded_once : (t : Tables R) → OneEmptyAtMost t.deletions → filled_once t ≡ welded_tables t
  welded_once t one = ap (λ (l : List (Lost R)). record { live = t.live; deletions = l }) (filled_all t.deletions one)

  -- ---- turns

  swept_other : (number : ℕ) (p : AddressPrefix) (d : Lost R) → d.number ≢ number → swept_one number p d ≡ d
  swept_other number p d other = ap (λ (b : Bool). cond b (without p d) d) (other_number d.number number other)

  -- the losses above are greater
  pub swept_above : (number : ℕ) (p : AddressPrefix) (low : ℕ) (ds : List (Lost R)) → number < low → IsRisingFrom low ds → map (swept_one number p) ds ≡ ds
  swept_above number p low [] h rising = refl
  swept_above number p low (d ∷ ds) h rising =
      let step = rising.0 in
      let other : d.number ≢ number = λ e. omega (arith, e, h, step) in
      let rest = swept_above number p (d.number + 1) ds (omega (arith, h, step)) rising.1 in
      let first = swept_other number p d other in
      λ i. first i ∷ rest i

  row_there : (o : Option R) → IsSome o → (row : R) × (o ≡ Some row)
  row_there None is = absurd (let e : false ≡ true = is in cc)
  row_there (Some row) is = (row, refl)

  -- ---- empty tables

  over_none : (t o : Option R) → row_over t o ≡ None → (t ≡ None) × (o ≡ None)
  over_none None o e = (refl, e)
  over_none (Some v) o e = absurd (cc)

  kept : (p : AddressPrefix) (d : Lost R) → tables.get d.rows p ≡ None → without p d ≡ d
  kept p d none = same_lost d (without p d) p refl refl none

  none_taken : (live : FinMap prefix_cmp R) (ds : List (Lost R)) (p : AddressPrefix) → rows_below live ds p ≡ None → map (without p) ds ≡ ds
  none_taken live [] p none = refl
  none_taken live (d ∷ ds) p none =
      let both = over_none (tables.get d.rows p) (rows_below live ds p) none in
      let first = kept p d both.0 in
      let rest = none_taken live ds p both.1 in
      λ i. first i ∷ rest i

  one_taken : (live : FinMap prefix_cmp R) (ds : List (Lost R)) (p : AddressPrefix) → AreAllApart live ds → NoneEmpty ds → OneEmptyAtMost (map (without p) ds)
  one_taken live [] p apart full = tt
  one_taken live (d ∷ ds) p apart full =
      elim (tables.get d.rows p) as (λ o. tables.get d.rows p ≡ o → OneEmptyAtMost (map (without p) (d ∷ ds))) [
        | None ↦ λ e. inr (ap (λ (x : Lost R). is_empty_map x.rows) (kept p d e) ∙ full.0, one_taken live ds p apart.1 full.1)
        | Some v ↦ λ e. inl (subst NoneEmpty (sym (none_taken live ds p (apart.0 p (ap is_some e)))) full.1)
      ] refl

  -- an announcement empties one table at most
  pub one_fed : (live : FinMap prefix_cmp R) (ds : List (Lost R)) (p : AddressPrefix) (row : Option R) → AreAllApart live ds → NoneEmpty ds → OneEmptyAtMost (deletions_after ds p row)
  one_fed live ds p None apart full = none_is_one ds full
  one_fed live ds p (Some a) apart full = one_taken live ds p apart full

  -- so does a turn
  pub one_swept : (number : ℕ) (p : AddressPrefix) (low : ℕ) (ds : List (Lost R)) → IsRisingFrom low ds → NoneEmpty ds → OneEmptyAtMost (map (swept_one number p) ds)
  one_swept number p low [] rising full = tt
  one_swept number p low (d ∷ ds) rising full =
      elim (d.number == number) as (λ b. (d.number == number) ≡ b → OneEmptyAtMost (map (swept_one number p) (d ∷ ds))) [
        | true ↦ λ e.
            let same : d.number ≡ number = grind (arith, nat_tests) in
            inl (subst NoneEmpty (sym (swept_above number p (d.number + 1) ds (omega (arith, same)) rising.1)) full.1)
        | false ↦ λ e.
            let first : swept_one number p d ≡ d = ap (λ (b : Bool). cond b (without p d) d) e in
            inr (ap (λ (x : Lost R). is_empty_map x.rows) first ∙ full.0, one_swept number p (d.number + 1) ds rising.1 full.1)
      ] refl

  -- a weld leaves none
  pub none_welded : (ds : List (Lost R)) → NoneEmpty (filter (λ d. not (is_empty_map d.rows)) ds)
  none_welded [] = tt
  none_welded (d ∷ ds) =
      let rest = filter (λ (x : Lost R). not (is_empty_map x.rows)) ds in
      elim (is_empty_map d.rows) as (λ b. is_empty_map d.rows ≡ b → NoneEmpty (cond (not b) (d ∷ rest) rest)) [
        | true ↦ λ _. none_welded ds
        | false ↦ λ e. (e, none_welded ds)
      ] refl

  -- ---- a turn of a stage above

  gone_too : (sent : Option (Change R)) (change : Change R) → IfSome sent (λ next. next.after ≡ change.after) → change.after ≡ None → IfSome sent (λ next. next.after ≡ None)
  gone_too None change afters gone = tt
  gone_too (Some next) change afters gone = afters ∙ gone

  pub not_empty : (d : Lost R) → is_empty_map d.rows ≡ false → d.rows ≡ tables.empty → ⊥
  not_empty d full none =
      let empty : is_empty_map d.rows ≡ true = ap is_empty_map none ∙ ap (λ (n : ℕ). n == 0) (len-empty prefix_cmp R) in
      let clash : true ≡ false = sym empty ∙ full in
      cc

  pub begun_rows : (number : ℕ) (live : FinMap prefix_cmp R) (d : Lost R) (top : Tables R) → d ≡ record { number = number; rows = live } → top ≡ no_tables → lowest_rows (lowered d top) ≡ tables.get live
  begun_rows number live d top is fresh =
      ap (λ (x : Lost R). lowest_rows (lowered x top)) is ∙ ap (λ (x : Tables R). lowest_rows (lowered (record { number = number; rows = live }) x)) fresh
      ∙ ap (covered (tables.get live)) empty_rows ∙ covered_nothing (tables.get live)

module _ {R : Type 0} (value : R → Value) (o : Owner) where
  -- one that sent nothing into this stage
  pub sweeps_quietly : (out : Link) (number : ℕ) (d : Lost R) (t new : Tables R) (before now : Journaled) → d.number ≢ number → IsSound out (lowered d t) → IsSound (lost_link o d.number) new
      → Adds (SweepsOver value o (lost_link o d.number) t new number None) before now → Adds (SweepsOver value o out (lowered d t) (lowered d new) number None) before now
  sweeps_quietly out number d t new before now other sound sound' (entries, now_is, s) =
      let there = other_number d.number number other in
      let way = way_from o number (lost_link o d.number) t.deletions in
      let passed = passes_quietly value o out d t new before now s.prefix way sound sound' s.rows (entries, now_is, s.fall) in
      let P : List Link → Type 0 = λ w. FallsOver value o out (lowered d t) (lowered d new) s.prefix w None passed.0 in
      let is : way_from o number out (d ∷ t.deletions) ≡ way ++ out ∷ [] = ap (λ (b : Bool). cond b (out ∷ []) (way ++ out ∷ [])) there in (
        passed.0,
        passed.1,
        record {
          prefix = s.prefix;
          row = s.row;
          table = s.table;
          stands = ap (λ (b : Bool). cond b (Some d.rows) (table_of number t.deletions)) there ∙ s.stands;
          least = s.least;
          after = ap (lowered d) s.after ∙ ap (λ (x : Lost R). lowered x (swept_tables number s.prefix t)) (sym (swept_other number s.prefix d other));
          fall = subst P (sym is) passed.2;
          rows = ap (λ (r : Rows R). covered (tables.get d.rows) r) s.rows;
          gone = tt;
        },
      )

  pub taken_over : (out : Link) (old new : Tables R) (number : ℕ) (sent : Option (Change R)) (before now : Journaled) → Adds (SweepsOver value o out old new number sent) before now → IsTakenOver value o out old new number before now (taken_turn sent)
  taken_over out old new number None before now adds = adds
  taken_over out old new number (Some change) before now adds = adds

  -- a stage begins with the live routes, and the top anew
  pub begins_if : (out : Link) (number : ℕ) (live : FinMap prefix_cmp R) (d : Lost R) (top : Tables R) → d ≡ record { number = number; rows = live } → top ≡ no_tables → is_empty_map live ≡ false → rank_of out ≤ number
      → LeadsOver value o out (record { live = live; deletions = [] }) (loss_entries o number (record { live = live; deletions = [] })) (lowered d top)
  begins_if out number live d top is fresh full h =
      let P : Bool → Type 0 = λ b. LeadsOver value o out (record { live = live; deletions = [] }) (cond b [] (Begin (lost_link o number) ∷ [])) (lowered d top) in
      let Q : Lost R → Type 0 = λ x. LeadsOver value o out (record { live = live; deletions = [] }) (Begin (lost_link o number) ∷ []) (lowered x top) in
      let S : Tables R → Type 0 = λ x. LeadsOver value o out (record { live = live; deletions = [] }) (Begin (lost_link o number) ∷ []) (lowered (record { number = number; rows = live }) x) in
      subst P (sym full) (subst Q (sym is) (subst S (sym fresh) (begins value o out number live h)))

  pub welds_if : (out : Link) (d : Lost R) (t : Tables R) → IsSound out (lowered d t) → is_empty_map d.rows ≡ true → d.rows ≡ tables.empty → LeadsOver value o out (lowered d t) (weld_entries o out (d ∷ t.deletions)) t
  welds_if out d t sound empty none =
      let rest = weld_entries o (lost_link o d.number) t.deletions in
      let P : Bool → Type 0 = λ b. LeadsOver value o out (lowered d t) (cond b (Weld (lost_link o d.number) out ∷ []) rest) t in
      subst P (sym empty) (welds value o out d t sound none)

  pub weld_passes : (out : Link) (d : Lost R) (t new : Tables R) → is_empty_map d.rows ≡ false → LeadsOver value o out (lowered d t) (weld_entries o (lost_link o d.number) t.deletions) (lowered d new)
      → LeadsOver value o out (lowered d t) (weld_entries o out (d ∷ t.deletions)) (lowered d new)
  weld_passes out d t new full leads =
      let P : Bool → Type 0 = λ b. LeadsOver value o out (lowered d t) (cond b (Weld (lost_link o d.number) out ∷ []) (weld_entries o (lost_link o d.number) t.deletions)) (lowered d new) in
      subst P (sym full) leads

  pub one_after : (out : Link) (old new : Tables R) (number : ℕ) (before now : Journaled) (turn : Turn R) → IsTakenOver value o out old new number before now turn → IsSound out old → NoneEmpty old.deletions → OneEmptyAtMost new.deletions
  one_after out old new number before now Nothing taken sound full = subst (λ (x : Tables R). OneEmptyAtMost x.deletions) (sym taken.1.0) (none_is_one old.deletions full)
  one_after out old new number before now Quiet taken sound full =
      subst (λ (x : Tables R). OneEmptyAtMost x.deletions) (sym taken.2.after) (one_swept number taken.2.prefix (rank_of out) old.deletions sound.rising full)
  one_after out old new number before now (Sent change) taken sound full =
      subst (λ (x : Tables R). OneEmptyAtMost x.deletions) (sym taken.2.after) (one_swept number taken.2.prefix (rank_of out) old.deletions sound.rising full)

module _ {R : Type 0} (value : R → Value) (one : (a b : R) → value a ≡ value b → a ≡ b) (o : Owner) where
  -- the stage's own turn
  pub own_sweeps : (out : Link) (number : ℕ) (d after : Lost R) (t : Tables R) (change : Change R) (before now : Journaled) → d.number ≡ number → IsSound out (lowered d t)
      → after.number ≡ d.number → after.rows ≡ tables.remove d.rows change.prefix → IsLeastRow (tables.get d.rows) change.prefix change.before → change.after ≡ None → DeletesOn d.rows after.rows change
      → now ≡ with_entries before (sent_entries value out (Some change))
      → Adds (SweepsOver value o out (lowered d t) (lowered after t) number (Some change)) before now
  own_sweeps out number d after t change before now same sound numbers rows least gone law now_is =
      let found = row_there change.before least.1 in
      let here = same_number d.number number same in
      let e : after ≡ without change.prefix d = λ i. record { number = numbers i; rows = rows i } in
      let first : swept_one number change.prefix d ≡ without change.prefix d = ap (λ (b : Bool). cond b (without change.prefix d) d) here in
      let rest = swept_above number change.prefix (d.number + 1) t.deletions (omega (arith, same)) sound.rising.1 in
      let sent = (law (lowest_rows t) sound.apart.0).0 in
      let P : List Link → Type 0 = λ way. FallsOver value o out (lowered d t) (lowered after t) change.prefix way (Some change) (sent_entries value out (Some change)) in
      let way : way_from o number out (d ∷ t.deletions) ≡ out ∷ [] = ap (λ (b : Bool). cond b (out ∷ []) (way_from o number (lost_link o d.number) t.deletions ++ out ∷ [])) here in (
        sent_entries value out (Some change),
        now_is,
        record {
          prefix = change.prefix;
          row = found.0;
          table = d.rows;
          stands = ap (λ (b : Bool). cond b (Some d.rows) (table_of number t.deletions)) here;
          least = subst (λ (o : Option R). IsLeastRow (tables.get d.rows) change.prefix o) found.1 least;
          after = λ i. record { live = t.live; deletions = (e ∙ sym first) i ∷ sym rest i };
          fall = subst P (sym way) (own_falls value one o out d after t change numbers sent);
          rows = sent;
          gone = gone;
        },
      )

  -- one whose change this stage passes
  pub sweeps_on : (out : Link) (number : ℕ) (d after : Lost R) (t new : Tables R) (change : Change R) (sent : Option (Change R)) (before mid now : Journaled) → d.number ≢ number
      → IsSound out (lowered d t) → IsSound (lost_link o d.number) new → after.number ≡ d.number → after.rows ≡ tables.remove d.rows change.prefix
      → ((p : AddressPrefix) → IsSent (lowest_rows t) (lowest_rows new) p (Some change) → IsSent (lowest_rows (lowered d t)) (lowest_rows (lowered after new)) p sent)
      → IfSome sent (λ next. next.after ≡ change.after)
      → Adds (SweepsOver value o (lost_link o d.number) t new number (Some change)) before mid → now ≡ with_entries mid (sent_entries value out sent)
      → Adds (SweepsOver value o out (lowered d t) (lowered after new) number sent) before now
  sweeps_on out number d after t new change sent before mid now other sound sound' numbers rows law afters (entries, mid_is, s) now_is =
      let there = other_number d.number number other in
      let way = way_from o number (lost_link o d.number) t.deletions in
      let is_sent = law s.prefix s.rows in
      let passed = passes_down value one o out d after t new before mid now s.prefix way change sent sound sound' numbers (entries, mid_is, s.fall) is_sent now_is in
      let P : List Link → Type 0 = λ w. FallsOver value o out (lowered d t) (lowered after new) s.prefix w sent passed.0 in
      let is : way_from o number out (d ∷ t.deletions) ≡ way ++ out ∷ [] = ap (λ (b : Bool). cond b (out ∷ []) (way ++ out ∷ [])) there in
      let none = not_held d.rows (lowest_rows t) (lowest_rows new) s.prefix change sound.apart.0 s.rows (λ before_none. s.rows.1.1 (s.gone ∙ sym before_none)) in
      let same : after ≡ d = same_lost d after change.prefix numbers rows none in (
        passed.0,
        passed.1,
        record {
          prefix = s.prefix;
          row = s.row;
          table = s.table;
          stands = ap (λ (b : Bool). cond b (Some d.rows) (table_of number t.deletions)) there ∙ s.stands;
          least = s.least;
          after = ap (lowered after) s.after ∙ ap (λ (x : Lost R). lowered x (swept_tables number s.prefix t)) (same ∙ sym (swept_other number s.prefix d other));
          fall = subst P (sym is) passed.2;
          rows = is_sent;
          gone = gone_too sent change afters s.gone;
        },
      )
