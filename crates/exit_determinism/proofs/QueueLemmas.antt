-- A call of a queue leaves no choice.
use Rattle.std.proofs.Common.{◌≡◌, ℕ, ◌<◌, nat_lt, arith, List, [], ◌∷◌, Option, Some, None, IsSome, refl, sym, ap, ◌∙◌}
use Rattle.std.specs.FinMap as tables
use Rattle.std.specs.FinMap.{nat_cmp-IsAntisymmetric, same_map}
use Rattle.std.specs.Cmp.{nat_cmp_total}
use Rattle.std.proofs.lemmas.Bool.Decides.{nat_tests}
use Rattle.std.proofs.lemmas.Option.{same_Some}
use Rattle.bgp_attr.specs.Routes.{Route}
use Rattle.link_change.specs.Changes.{Change}
use Rattle.fanout_queue.specs.Queues.{Queued}
use Rattle.fanout_queue.specs.Readers.{unread_or_none}
use Rattle.fanout_queue.proofs.Cases.{by_bool}
use Rattle.out_chain.specs.Chains.{is_unread}
use Rattle.exit_determinism.specs.Laws.{AppendedIsOne, TakenIsOne, ReaderIsOne, TakenIsUnread}

-- lists with the same first element and rest are one, and only these
first_one : {A : Type 0} (x y : A) (xs ys : List A) → x ∷ xs ≡ y ∷ ys → (x ≡ y) × (xs ≡ ys)
first_one x y xs ys same = (cc, cc)

module _ {R : Type 0} where
  pub appended_is_one : AppendedIsOne R
  appended_is_one change old new now first second = same_map nat_cmp_total nat_cmp-IsAntisymmetric new now (λ reader. first reader ∙ sym (second reader))

  -- a reader that has taken all takes no change
  all_taken : (o : Option (List (Change R))) (c : Change R) (rest : List (Change R)) → o ≡ Some [] → o ≡ Some (c ∷ rest) → ⊥
  all_taken o c rest none some = let clash : ◌≡◌ {A = List (Change R)} [] (c ∷ rest) = same_Some [] (c ∷ rest) (sym none ∙ some) in cc

  pub taken_is_one : TakenIsOne R
  taken_is_one old new now reader None None first second = (refl, first.1 ∙ sym second.1)
  taken_is_one old new now reader None (Some d) first second = absurd (all_taken (tables.get old reader) d second.0 first.0 second.1)
  taken_is_one old new now reader (Some c) None first second = absurd (all_taken (tables.get old reader) c first.0 second.0 first.1)
  taken_is_one old new now reader (Some c) (Some d) first second =
      let same = first_one c d first.0 second.0 (same_Some (c ∷ first.0) (d ∷ second.0) (sym first.1 ∙ second.1)) in
      (ap (λ (x : Change R). Some x) same.0, first.2 ∙ ap (tables.insert old reader) same.1 ∙ sym second.2)

  -- a number that is free isn't below one of which all below have readers
  free_above : (queue : Queued R) (one other : ℕ) → tables.get queue one ≡ None → ((n : ℕ) → n < other → IsSome (tables.get queue n)) → one < other → ⊥
  free_above queue one other free least below = let live = least one below in cc

  pub reader_is_one : ReaderIsOne R
  reader_is_one queue one other free least also lowest =
      by_bool (nat_lt one other) (λ _. one ≡ other)
      (λ below. absurd (free_above queue one other free lowest (grind (arith, nat_tests))))
      (λ above. by_bool (nat_lt other one) (λ _. one ≡ other)
      (λ below. absurd (free_above queue other one also least (grind (arith, nat_tests))))
      (λ level. grind (arith, nat_tests)))

pub taken_is_unread : TakenIsUnread
taken_is_unread old new reader change takes = ap (λ (o : Option (List (Change Route))). is_unread (unread_or_none o)) takes.1
