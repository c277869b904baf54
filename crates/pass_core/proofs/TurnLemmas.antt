-- A stage whose rows are made by a function that is changed in the background.
use Rattle.std.proofs.Common.{◌≡◌, Bool, true, false, ◌&&◌, ◌||◌, cond, Option, Some, None, is_some, IfSome, refl, sym, ap, subst, ◌∙◌}
use Rattle.addr4.specs.Prefixes.{AddressPrefix}
use Rattle.link_change.specs.Rows.{Rows, with_row, Candidates, IsNextCandidate, CoversRows, computed_rows}
use Rattle.link_change.specs.Changes.{IsSent, IsChangeOf}
use Rattle.link_change.specs.Turns.{taken_turn}
use Rattle.link_change.specs.Changes.{Change}
use Rattle.link_change.specs.declared.turn.Turn.TheVariants.{Nothing, Quiet, Sent}
use Rattle.link_change.proofs.RowLemmas.{same_function}
use Rattle.link_change.proofs.ChangeLemmas.{computes_on, change_sent}
use Rattle.pass_core.specs.Passed.{Passed, Walked, is_beyond, function_of, function_at, latest_of, present_of, lags_by, walk_edited, walk_of_waiting, after_walk, walk_stepped, stepped, finished}
use Rattle.pass_core.specs.Split.{split, MakesNone}
use Rattle.pass_core.specs.Turns.{passed, passed_rows, IsSentAt, Walks, IsWalked}
use Rattle.pass_core.specs.Laws.{ExactUnlessHeldUp, NoneLagsWithoutAWalk, EditKeepsRows, PassedIsCovered, ChangeIsPassedOn, StepWalks, EndWalks, WalkLeads}
use Rattle.pass_core.proofs.SplitLemmas.{split_behind, at_itself, steps, ends}

latest_holds : {F : Type 0} (in_force : F) (walk : Option (Walked F)) (q : AddressPrefix) → lags_by walk q ≡ false
    → function_of in_force walk q ≡ present_of in_force walk
latest_holds {F} in_force None q none = refl
latest_holds {F} in_force (Some w) q none = by_tests (is_beyond w.place q) w.waiting none
  where
    by_tests : (b : Bool) (o : Option F) → (b || is_some o) ≡ false → cond b in_force w.next ≡ latest_of w.next o
    by_tests true o e = absurd (let clash : true ≡ false = e in cc)
    by_tests false None e = refl
    by_tests false (Some f) e = absurd (let clash : true ≡ false = e in cc)

not_there : (b : Bool) → (b && false) ≡ false
not_there true = refl
not_there false = refl

none_lags : {F : Type 0} (walk : Option (Walked F)) (q : AddressPrefix) → is_some walk ≡ false → lags_by walk q ≡ false
none_lags None q off = refl
none_lags (Some w) q off = absurd (let clash : true ≡ false = off in cc)

edited_at : {F : Type 0} (in_force : F) (walk : Option (Walked F)) (f : F) (q : AddressPrefix)
    → function_of in_force (Some (walk_edited walk f)) q ≡ function_of in_force walk q
edited_at in_force None f q = refl
edited_at in_force (Some w) f q = refl

begun_anew : {F : Type 0} (next : F) (waiting : Option F) (q : AddressPrefix) → function_of next (walk_of_waiting waiting) q ≡ next
begun_anew next None q = refl
begun_anew next (Some f) q = refl

quiet_at : {B : Type 0} (next : Option AddressPrefix) (old new : Rows B) → IsSentAt next old new None → new ≡ old
quiet_at None old new h = h.1
quiet_at (Some p) old new h = h

sent_at : {B : Type 0} (next : Option AddressPrefix) (old new : Rows B) (change : Change B) → IsSentAt next old new (Some change)
    → IsSent old new change.prefix (Some change)
sent_at None old new change h = absurd (let e = h.0 in cc)
sent_at (Some p) old new change h = (refl, h.1, h.2)

walk_on : {F : Type 0} (s : Passed F) (place : Option AddressPrefix) → is_some s.walk ≡ true → IfSome s.walk (λ w. place ≡ w.place)
    → (w : Walked F) × (s.walk ≡ Some w) × (place ≡ w.place)
walk_on {F} s place busy at = by s.walk refl busy at
  where
    by : (o : Option (Walked F)) → s.walk ≡ o → is_some o ≡ true → IfSome o (λ w. place ≡ w.place)
        → (w : Walked F) × (s.walk ≡ Some w) × (place ≡ w.place)
    by None e busy at = absurd (let f : false ≡ true = busy in cc)
    by (Some w) e busy at = (w, e, at)

pub none_lags_without_a_walk : {F A : Type 0} → NoneLagsWithoutAWalk F A
none_lags_without_a_walk s q row off = ap (λ (b : Bool). is_some row && b) (none_lags s.walk q off) ∙ not_there (is_some row)

module _ {F A B : Type 0} where
  pub exact_unless_held_up : ExactUnlessHeldUp F A B
  exact_unless_held_up apply s q None nothing none = nothing (function_at s q) q ∙ sym (nothing (present_of s.in_force s.walk) q)
  exact_unless_held_up apply s q (Some row) nothing none = ap (λ (f : F). apply f q (Some row)) (latest_holds s.in_force s.walk q none)

  pub an_edit_keeps_the_rows : EditKeepsRows F A B
  an_edit_keeps_the_rows apply s f upper = same_function _ _ (λ q. ap (λ (g : F). apply g q (upper q)) (edited_at s.in_force s.walk f q))

  pub passed_is_covered : PassedIsCovered F A B
  passed_is_covered apply s candidates upper nothing covers q none = ap (apply (function_at s q) q) (covers q none) ∙ nothing (function_at s q) q

  pub change_is_passed_on : ChangeIsPassedOn F A B
  change_is_passed_on apply s change sent is = computes_on (passed apply s) change _ _ sent refl refl is

  -- ---- a walk is one of two functions and a place
  module _ (apply : F → AddressPrefix → Option A → Option B) where
    split_by : (b : Bool) (in_force next : F) (q : AddressPrefix) (row : Option A) → apply (cond b in_force next) q row ≡ cond b (apply in_force q row) (apply next q row)
    split_by true in_force next q row = refl
    split_by false in_force next q row = refl

    on_walk : (s : Passed F) (w : Walked F) (upper : Rows A) → s.walk ≡ Some w
        → passed_rows apply s upper ≡ computed_rows (split (apply s.in_force) (apply w.next) w.place) upper
    on_walk s w upper on = same_function _ _ (λ q.
        ap (λ (x : Option (Walked F)). apply (function_of s.in_force x q) q (upper q)) on
        ∙ split_by (is_beyond w.place q) s.in_force w.next q (upper q))

    on_step : (s : Passed F) (w : Walked F) (upper : Rows A) (p : AddressPrefix) → s.walk ≡ Some w
        → passed_rows apply (stepped s p) upper ≡ computed_rows (split (apply s.in_force) (apply w.next) (Some p)) upper
    on_step s w upper p on = on_walk (stepped s p) (record w { place = Some p }) upper (ap (λ x. walk_stepped x p) on)

    at_end : (s : Passed F) (w : Walked F) (upper : Rows A) → s.walk ≡ Some w → passed_rows apply (finished s) upper ≡ computed_rows (apply w.next) upper
    at_end s w upper on = same_function _ _ (λ q.
        ap (λ (x : Option (Walked F)). apply (function_at (after_walk s.in_force x) q) q (upper q)) on
        ∙ ap (λ (f : F). apply f q (upper q)) (begun_anew w.next w.waiting q))

    module _ (nothing : (f : F) → MakesNone (apply f)) (candidates : Candidates) (upper : Rows A) (covers : CoversRows candidates upper) where
      stepped_rows : (s : Passed F) (w : Walked F) (p : AddressPrefix) → s.walk ≡ Some w → IsNextCandidate candidates w.place (Some p)
          → passed_rows apply (stepped s p) upper ≡ with_row (passed_rows apply s upper) p (passed apply (stepped s p) p (upper p))
      stepped_rows s w p on least =
          let made = steps (apply s.in_force) (apply w.next) (nothing s.in_force) (nothing w.next) candidates upper covers w.place p least in
          let after = ap (λ (r : Rows B). r p) (on_step s w upper p on) ∙ split_behind (apply s.in_force) (apply w.next) (Some p) p (upper p) (at_itself p) in
          on_step s w upper p on ∙ made ∙ ap (λ (r : Rows B). with_row r p (apply w.next p (upper p))) (sym (on_walk s w upper on))
          ∙ ap (with_row (passed_rows apply s upper) p) (sym after)

      end_keeps : (s : Passed F) (w : Walked F) → s.walk ≡ Some w → IsNextCandidate candidates w.place None
          → passed_rows apply (finished s) upper ≡ passed_rows apply s upper
      end_keeps s w on least =
          at_end s w upper on
          ∙ sym (ends (apply s.in_force) (apply w.next) (nothing s.in_force) (nothing w.next) candidates upper covers w.place least)
          ∙ sym (on_walk s w upper on)

      step_walks : (s : Passed F) (w : Walked F) (p : AddressPrefix) (sent : Option (Change B)) → s.walk ≡ Some w → IsNextCandidate candidates w.place (Some p)
          → IsChangeOf p (passed apply s p (upper p)) (passed apply (stepped s p) p (upper p)) sent → Walks apply candidates upper s (stepped s p) sent
      step_walks s w p sent on least is = record {
        walk = w;
        on = on;
        next = Some p;
        least = least;
        after = refl;
        changes = change_sent _ _ p (passed apply s p (upper p)) (passed apply (stepped s p) p (upper p)) sent refl (stepped_rows s w p on least) is;
      }

      end_walks : (s : Passed F) (w : Walked F) → s.walk ≡ Some w → IsNextCandidate candidates w.place None → Walks apply candidates upper s (finished s) None
      end_walks s w on least = record {
        walk = w;
        on = on;
        next = None;
        least = least;
        after = refl;
        changes = (refl, end_keeps s w on least);
      }

      -- ---- as the code knows the walk: that one is on, and its place
      turned : (s new : Passed F) (sent : Option (Change B)) → Walks apply candidates upper s new sent → IsWalked apply candidates upper s new (taken_turn sent)
      turned s new None h = h
      turned s new (Some change) h = h

      pub goes_on : (s new : Passed F) (place : Option AddressPrefix) (p : AddressPrefix) (before after : Option B) (sent : Option (Change B))
          → is_some s.walk ≡ true → IfSome s.walk (λ w. place ≡ w.place) → new ≡ stepped s p → IsNextCandidate candidates place (Some p)
          → before ≡ passed apply s p (upper p) → after ≡ passed apply new p (upper p) → IsChangeOf p before after sent
          → IsWalked apply candidates upper s new (taken_turn sent)
      goes_on s new place p before after sent busy at new_is least b a is =
          let w = walk_on s place busy at in
          let beyond = subst (λ l. IsNextCandidate candidates l (Some p)) w.2 least in
          let a_is = a ∙ ap (λ n. passed apply n p (upper p)) new_is in
          let changed =
          subst (λ row. IsChangeOf p row (passed apply (stepped s p) p (upper p)) sent) b
          (subst (λ row. IsChangeOf p before row sent) a_is is) in
          turned s new sent (subst (λ n. Walks apply candidates upper s n sent) (sym new_is) (step_walks s w.0 p sent w.1 beyond changed))

      pub ends_here : (s new : Passed F) (place : Option AddressPrefix)
          → is_some s.walk ≡ true → IfSome s.walk (λ w. place ≡ w.place) → new ≡ finished s → IsNextCandidate candidates place None
          → Walks apply candidates upper s new None
      ends_here s new place busy at new_is least =
          let w = walk_on s place busy at in
          subst (λ n. Walks apply candidates upper s n None) (sym new_is)
          (end_walks s w.0 w.1 (subst (λ l. IsNextCandidate candidates l None) w.2 least))

-- at the prefix of a step the new function holds
next_at : {F : Type 0} (in_force : F) (walk : Option (Walked F)) (p : AddressPrefix) (f : F) → is_some walk ≡ true → IfSome walk (λ w. f ≡ w.next)
    → f ≡ function_of in_force (walk_stepped walk p) p
next_at in_force None p f busy is = absurd (let e : false ≡ true = busy in cc)
next_at in_force (Some w) p f busy is = is ∙ sym (ap (λ b. cond b in_force w.next) (at_itself p))

pub coming_at : {F : Type 0} (s new : Passed F) (p : AddressPrefix) (f : F) → is_some s.walk ≡ true → IfSome s.walk (λ w. f ≡ w.next) → new ≡ stepped s p
    → f ≡ function_at new p
coming_at s new p f busy is new_is = next_at s.in_force s.walk p f busy is ∙ sym (ap (λ n. function_at n p) new_is)

pub step_of_a_walk : {F A B : Type 0} → StepWalks F A B
step_of_a_walk apply s w candidates upper p sent nothing covers on least is = step_walks apply nothing candidates upper covers s w p sent on least is

pub end_of_a_walk : {F A B : Type 0} → EndWalks F A B
end_of_a_walk apply s w candidates upper nothing covers on least = end_walks apply nothing candidates upper covers s w on least

pub a_walk_leads : {F A B : Type 0} → WalkLeads F A B
a_walk_leads apply candidates upper old new Nothing h = ap (λ s. passed_rows apply s upper) h.1
a_walk_leads apply candidates upper old new Quiet h = quiet_at h.next _ _ h.changes
a_walk_leads apply candidates upper old new (Sent change) h = sent_at h.next _ _ change h.changes
