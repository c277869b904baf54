-- What calls make of entries, as they are seen.
use Rattle.std.proofs.Common.{◌≡◌, ℕ, zero, suc, ◌+◌, ◌-◌, ◌<◌, ◌≤◌, arith, true, false, List, [], ◌∷◌, length, get_or, drop, Option, Some, None, IfSome, sym, ap, ◌∙◌}
use Rattle.std.specs.Option.{is_none}
use Rattle.std.proofs.lemmas.List.{get_or-drop, length-drop}
use Rattle.std.proofs.Math.Seq.{drop-nil}
use Rattle.link_change.specs.Changes.{Change}
use Rattle.fanout_queue.specs.Entries.{Numbered, readers_at, first_readers, CutsFirst, Drops}
use Rattle.fanout_queue.proofs.EntryLemmas.{by_place}

module _ {A : Type 0} where
  pub drop_twice : (a b n : ℕ) (xs : List A) → b + a ≡ n → drop a (drop b xs) ≡ drop n xs
  drop_twice a zero n xs is = ap (λ k. drop k xs) (let e : a ≡ n = omega arith in e)
  drop_twice a (suc b) n [] is = ap (drop a) (drop-nil (suc b)) ∙ drop-nil a ∙ sym (drop-nil n)
  drop_twice a (suc b) zero (x ∷ xs) is = absurd (omega arith)
  drop_twice a (suc b) (suc n) (x ∷ xs) is = drop_twice a b n xs (omega arith)

  get_or_dropped : (n i k : ℕ) (xs : List A) (d : A) → n + i ≡ k → get_or (drop n xs) i d ≡ get_or xs k d
  get_or_dropped n i k xs d is = get_or-drop n xs i d ∙ ap (λ j. get_or xs j d) is

module _ {R : Type 0} where
  -- the first entry's count
  pub first_is : (s : Numbered R) (n : ℕ) → n ≡ s.first → readers_at s n ≡ first_readers s
  first_is s n is = ap (λ k. get_or s.readers k 0) (let e : n - s.first ≡ 0 = omega arith in e)

  pub drops_more : (old mid new : Numbered R) (c : Change R) → Drops old mid → CutsFirst mid new c → Drops old new
  drops_more old mid new c drops cuts =
      let from = drops.from in let first = cuts.first in
      let len : length (drop (mid.first - old.first) old.changes) ≡ suc (length new.changes) = ap length (sym drops.changes ∙ cuts.changes) in
      let left = length-drop (mid.first - old.first) old.changes in
      record {
        from = omega arith;
        to = omega arith;
        changes = ap (drop 1) (sym cuts.changes) ∙ ap (drop 1) drops.changes ∙ drop_twice 1 (mid.first - old.first) (new.first - old.first) old.changes (omega arith);
        indexed = cuts.indexed ∙ drops.indexed;
        readers = cuts.readers ∙ ap (drop 1) drops.readers ∙ drop_twice 1 (mid.first - old.first) (new.first - old.first) old.readers (omega arith);
      }

  -- what no reader is to take is dropped
  pub unneeded_more : (old mid new : Numbered R) (c : Change R) → Drops old mid → CutsFirst mid new c → first_readers mid ≡ 0 → ((n : ℕ) → old.first ≤ n → n < mid.first → readers_at old n ≡ 0)
      → (n : ℕ) → old.first ≤ n → n < new.first → readers_at old n ≡ 0
  unneeded_more old mid new c drops cuts none before n low below = by_place n mid.first (readers_at old n ≡ 0)
      (λ here. let from = drops.from in
      sym (get_or_dropped (mid.first - old.first) 0 (n - old.first) old.readers 0 (omega arith)) ∙ ap (λ (l : List ℕ). get_or l 0 0) (sym drops.readers) ∙ none)
      (λ apart. let first = cuts.first in before n low (omega arith))

  pub cut_some : (mid new : Numbered R) (result : Option (Change R)) → is_none result ≡ false → IfSome result (CutsFirst mid new) → (c : Change R) × CutsFirst mid new c
  cut_some mid new None there cuts = absurd (let e : true ≡ false = there in cc)
  cut_some mid new (Some c) there cuts = (c, cuts)
