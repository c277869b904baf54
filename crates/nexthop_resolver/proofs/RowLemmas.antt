-- The rows below a resolver.
use Rattle.std.proofs.Common.{◌≡◌, ◌≢◌, ℕ, Bool, true, false, cond, refl, sym, ap, ◌∙◌, subst, inl, inr, Option, Some, None}
use Rattle.std.specs.Option.{option_map}
use Rattle.std.specs.FinMap.{get}
use Rattle.std.specs.FinMap as map
use Rattle.addr4.specs.Prefixes.{AddressPrefix}
use Rattle.addr4.proofs.PrefixOrder.{by_prefix}
use Rattle.link_change.specs.Rows.{Rows, no_rows, with_row}
use Rattle.link_change.specs.Changes.{IsChangeOf}
use Rattle.link_change.specs.Changes.{Change}
use Rattle.link_change.proofs.RowLemmas.{same_function}
use Rattle.link_change.proofs.ChangeLemmas.{change_sent}
use Rattle.link_change.proofs.InOrderLemmas.{with_row_elsewhere}
use Rattle.pass_core.specs.Passed.{is_beyond, function_of, function_at}
use Rattle.pass_core.specs.Split.{MakesNone}
use Rattle.pass_core.specs.Turns.{passed}
use Rattle.nexthop_known.specs.Hops.{Hop}
use Rattle.nexthop_known.specs.Hops.{Hops, staled, IsMapped}
use Rattle.nexthop_known.specs.Counts.{AreCounted, Recounts}
use Rattle.nexthop_known.proofs.CountLemmas.{counts_follow, named_is_counted}
use Rattle.nexthop_resolver.specs.Resolving.{Resolving, Answers, AreNamed, nothing_known, in_force_by, fresh_by, walk_to, passes, is_in_force, made_by, goes_on, resolved, res_rows, named_by}
use Rattle.nexthop_resolver.specs.Takes.{KeepsOrLearns, Moves, TakesOver, TakesIn, Invalidates}
use Rattle.nexthop_resolver.proofs.AskLemmas.{some_of}
use Rattle.nexthop_resolver.proofs.MoveLemmas.{clash_some}

-- ---- the answers that hold
module _ {A : Type 0} where
  both_of : (b : Bool) (in_force fresh : Answers A) (a : ℕ) → (cond b in_force fresh) a ≡ cond b (in_force a) (fresh a)
  both_of true in_force fresh a = refl
  both_of false in_force fresh a = refl

  -- that about one next hop, from what is known of it
  abbrev told : Bool → Option (Hop A) → Option A
  told b o = cond b (option_map (λ h. h.in_force) o) (option_map (λ h. h.fresh) o)

  pub holds_at : (known : Hops A) (walk : Option (Option AddressPrefix)) (q : AddressPrefix) (a : ℕ)
      → function_of (in_force_by known) (walk_to (fresh_by known) walk) q a ≡ told (is_in_force walk q) (get known a)
  holds_at known None q a = refl
  holds_at known (Some place) q a = both_of (is_beyond place q) (in_force_by known) (fresh_by known) a

  -- the same next hop has the same answer
  pub same_answer : (old new : Resolving A) (q : AddressPrefix) (a : ℕ) → new.walk ≡ old.walk → get new.known a ≡ get old.known a
      → function_at (passes new) q a ≡ function_at (passes old) q a
  same_answer old new q a walk known =
      holds_at new.known new.walk q a ∙ (λ i. told (is_in_force (walk i) q) (known i)) ∙ sym (holds_at old.known old.walk q a)

  -- where rows name it before and after, it stayed known with its answers
  stayed : (told : ℕ → Hop A → Type 0) (old new : Hops A) (a : ℕ) → KeepsOrLearns told old new → map.contains_key old a ≡ true → map.contains_key new a ≡ true
      → get new a ≡ get old a
  stayed told old new a keeps was is =
      let o = some_of (get old a) was in
      let n = some_of (get new a) is in
      elim (keeps a n.0 n.1) [
        | inl same ↦ n.1 ∙ sym same
        | inr new_one ↦ clash_some o.0 _ (sym new_one.unknown ∙ o.1)
      ]

-- ---- the rows below
module _ {A R L : Type 0} (hop : R → ℕ) (made : R → A → Option L) where
  pub makes_none : (f : Answers A) → MakesNone (resolved hop made f)
  makes_none f q = refl

  -- a row goes on as before where the answer about its next hop is the same
  same_row : (f g : Answers A) (row : Option R) → ((a : ℕ) → option_map hop row ≡ Some a → f a ≡ g a) → goes_on hop made f row ≡ goes_on hop made g row
  same_row f g None same = refl
  same_row f g (Some r) same = ap (made_by hop made r) (same (hop r) refl)

  named_after : (upper : Rows R) (p : AddressPrefix) (row : Option R) → named_by hop (with_row upper p row) ≡ with_row (named_by hop upper) p (option_map hop row)
  named_after upper p row = same_function _ _ (λ q.
      by_prefix q p (λ b. option_map hop (cond b row (upper q)) ≡ cond b (option_map hop row) (option_map hop (upper q))) (λ _. refl) (λ _. refl))

  module _ (told_now : ℕ → Hop A → Type 0) (old new : Resolving A) (was_named : AreNamed old.counts old.known) (is_named : AreNamed new.counts new.known) (upper : Rows R) (p : AddressPrefix) (before after : Option R)
      (at : upper p ≡ before) (counted : AreCounted (named_by hop upper) old.counts) (moves : Moves told_now (option_map hop before) (option_map hop after) old new) where
    counted_after : AreCounted (named_by hop (with_row upper p after)) new.counts
    counted_after =
        subst (λ (rows : Rows ℕ). AreCounted rows new.counts) (sym (named_after upper p after))
        (counts_follow (named_by hop upper) p (option_map hop after) old.counts new.counts counted
        (subst (λ o. Recounts o (option_map hop after) old.counts new.counts) (sym (ap (option_map hop) at)) moves.counts))

    elsewhere : (q : AddressPrefix) → q ≢ p → passed (resolved hop made) (passes new) q (upper q) ≡ passed (resolved hop made) (passes old) q (upper q)
    elsewhere q ne = same_row (function_at (passes new) q) (function_at (passes old) q) (upper q) (λ a names.
        same_answer old new q a moves.walk (stayed told_now old.known new.known a moves.hops
        (was_named a ∙ named_is_counted (named_by hop upper) old.counts q a counted names)
        (is_named a ∙ named_is_counted (named_by hop (with_row upper p after)) new.counts q a counted_after (ap (option_map hop) (with_row_elsewhere upper p after q ne) ∙ names))))

    rows_after : res_rows hop made new (with_row upper p after) ≡ with_row (res_rows hop made old upper) p (passed (resolved hop made) (passes new) p after)
    rows_after = same_function _ _ (λ q.
        by_prefix q p (λ b. passed (resolved hop made) (passes new) q (cond b after (upper q)) ≡ cond b (passed (resolved hop made) (passes new) p after) (passed (resolved hop made) (passes old) q (upper q)))
        (λ e. ap (λ k. passed (resolved hop made) (passes new) k after) e)
        (λ ne. elsewhere q ne))

    pub takes_over : (sent : Option (Change L)) → IsChangeOf p (passed (resolved hop made) (passes old) p before) (passed (resolved hop made) (passes new) p after) sent
        → TakesOver hop made old new upper (with_row upper p after) p sent
    takes_over sent is = record {
      counted = counted_after;
      sent_is = change_sent _ _ p _ _ sent (ap (passed (resolved hop made) (passes old) p) at) rows_after is;
    }

  pub takes_in : (told_now : ℕ → Hop A → Type 0) (old new : Resolving A) (change : Change R) (before after : Option L) (sent : Option (Change L)) → AreNamed old.counts old.known → AreNamed new.counts new.known
      → Moves told_now (option_map hop change.before) (option_map hop change.after) old new
      → before ≡ passed (resolved hop made) (passes old) change.prefix change.before → after ≡ passed (resolved hop made) (passes new) change.prefix change.after
      → IsChangeOf change.prefix before after sent → TakesIn hop made old new change sent
  takes_in told_now old new change before after sent named named_now moves b a is upper now p counted led =
      let told_is : IsChangeOf change.prefix (passed (resolved hop made) (passes old) change.prefix change.before) (passed (resolved hop made) (passes new) change.prefix change.after) sent =
      subst (λ o. IsChangeOf change.prefix o (passed (resolved hop made) (passes new) change.prefix change.after) sent) b (subst (λ o. IsChangeOf change.prefix before o sent) a is) in
      subst (λ (rows : Rows R). TakesOver hop made old new upper rows p sent) (sym led.2)
      (subst (λ k. TakesOver hop made old new upper (with_row upper change.prefix change.after) k sent) led.0
      (takes_over told_now old new named named_now upper change.prefix change.before change.after led.1.0 counted moves sent told_is))

  -- ---- where what is known changes, and no answer does
  module _ (f : Hop A → Hop A) (in_force : (h : Hop A) → (f h).in_force ≡ h.in_force) (fresh : (h : Hop A) → (f h).fresh ≡ h.fresh) where
    same_told : (b : Bool) (o : Option (Hop A)) → told b (option_map f o) ≡ told b o
    same_told b None = refl
    same_told true (Some h) = ap Some (in_force h)
    same_told false (Some h) = ap Some (fresh h)

    pub mapping_keeps_rows : (upper : Rows R) (old new : Resolving A) → new.walk ≡ old.walk → IsMapped f old.known new.known → res_rows hop made new upper ≡ res_rows hop made old upper
    mapping_keeps_rows upper old new walk known = same_function _ _ (λ q.
        same_row (function_at (passes new) q) (function_at (passes old) q) (upper q) (λ a _.
        holds_at new.known new.walk q a ∙ (λ i. told (is_in_force (walk i) q) (known a i)) ∙ same_told (is_in_force old.walk q) (get old.known a)
        ∙ sym (holds_at old.known old.walk q a)))

  pub invalidating_keeps_rows : (upper : Rows R) (s : AddressPrefix) (old new : Resolving A) → Invalidates s old new → res_rows hop made new upper ≡ res_rows hop made old upper
  invalidating_keeps_rows upper s old new is = mapping_keeps_rows (staled s) (λ h. refl) (λ h. refl) upper old new is.walk is.known

  pub no_rows_at_first : (client : ℕ) → res_rows hop made (nothing_known {A = A} client) no_rows ≡ no_rows
  no_rows_at_first client = refl
