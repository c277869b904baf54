-- An index after a branch went whose links led to nothing.
use Rattle.std.proofs.Common.{◌≡◌, ◌≢◌, ℕ, ◌%◌, ◌<◌, Option, Some, None, refl, sym, ap, subst, ◌∙◌, inl, inr, arith}
use Rattle.std.proofs.lemmas.Nat.{mod_below}
use Rattle.nibble_trie.specs.declared.link.Target.{Target}
use Rattle.nibble_trie.specs.declared.link.Target.TheVariants.{Nothing, Inner}
use Rattle.nibble_trie.specs.Links.{IsCell}
use Rattle.nibble_trie.specs.Index.{Layout, high, IsPlace, Lies, Fits, Holds}
use Rattle.nibble_trie.proofs.Digits.{same_place, digit_is}
use Rattle.nibble_trie.proofs.Cells.{place_kept, fits_kept}

-- the branch c is gone, and the link to it leads to nothing
pub record Drops (live live' : ℕ → Type 0) (links links' : Option (ℕ × ℕ) → Target) (at : Option (ℕ × ℕ)) (c : ℕ) : Type 0 where
  pub was : links at ≡ Inner c
  pub empty : (i : ℕ) → i < 16 → links (Some (c, i)) ≡ Nothing
  pub from : (b : ℕ) → live' b → live b
  pub gone : live' c → ⊥
  pub kept : (b : ℕ) → live b → b ≢ c → live' b
  pub top : links' at ≡ Nothing
  pub others : (x : Option (ℕ × ℕ)) → IsPlace live' x → x ≢ at → links' x ≡ links x

-- where a branch hangs, its digits' places are
pub under : (live : ℕ → Type 0) (heads : ℕ → Option ℕ) (layout : Layout) (at : Option (ℕ × ℕ)) (branch a : ℕ) → Fits live heads layout at (Inner branch) → Lies layout at a → Lies layout (Some (branch, high (layout.level branch) a % 16)) a
under live heads layout at branch a f lies = digit_is (layout.level branch) (layout.block branch) a (ap (λ n. high n a) (sym f.1) ∙ lies ∙ f.2)

module _ (live live' : ℕ → Type 0) (links links' : Option (ℕ × ℕ) → Target) (heads : ℕ → Option ℕ) (layout : Layout) (at : Option (ℕ × ℕ)) (c : ℕ) (h : Holds live links heads layout) (place : IsPlace live at) (d : Drops live live' links links' at c) where
  fits_at : Fits live heads layout at (Inner c)
  fits_at = subst (λ t. Fits live heads layout at t) d.was (h.fits at place)

  before : (x : Option (ℕ × ℕ)) → IsPlace live' x → IsPlace live x
  before x p = place_kept live' live x d.from p

  digit_place : (a : ℕ) → IsPlace live (Some (c, high (layout.level c) a % 16))
  digit_place a = (fits_at.0, mod_below (high (layout.level c) a) 16 (omega arith))

  none_there : (a : ℕ) → Lies layout at a → heads a ≡ None
  none_there a lies =
      let f : Fits live heads layout (Some (c, high (layout.level c) a % 16)) Nothing = subst (λ t. Fits live heads layout (Some (c, high (layout.level c) a % 16)) t) (d.empty (high (layout.level c) a % 16) ((digit_place a).1)) (h.fits (Some (c, high (layout.level c) a % 16)) (digit_place a)) in
      f a (under live heads layout at c a fits_at lies)

  -- no other place that stays has an address of this one
  no_common : (x : Option (ℕ × ℕ)) (a : ℕ) → IsPlace live' x → IsCell (links x) → Lies layout x a → Lies layout at a → ⊥
  no_common x a p cell lx lies =
      let i = high (layout.level c) a % 16 in
      let e = h.apart x (Some (c, i)) a (before x p) (digit_place a) cell (subst IsCell (sym (d.empty i ((digit_place a).1))) tt) lx (under live heads layout at c a fits_at lies) in
      d.gone ((subst (IsPlace live') e p).0)

  apart_after : (x y : Option (ℕ × ℕ)) (a : ℕ) → IsPlace live' x → IsPlace live' y → IsCell (links' x) → IsCell (links' y) → Lies layout x a → Lies layout y a → x ≡ y
  apart_after x y a px py cx cy lx ly = elim (same_place x at) [
    | inl ex ↦ elim (same_place y at) [
      | inl ey ↦ ex ∙ sym ey
      | inr ny ↦ absurd (no_common y a py (subst IsCell (d.others y py ny) cy) ly (subst (λ z. Lies layout z a) ex lx))
    ]
    | inr nx ↦ elim (same_place y at) [
      | inl ey ↦ absurd (no_common x a px (subst IsCell (d.others x px nx) cx) lx (subst (λ z. Lies layout z a) ey ly))
      | inr ny ↦ h.apart x y a (before x px) (before y py) (subst IsCell (d.others x px nx) cx) (subst IsCell (d.others y py ny) cy) lx ly
    ]
  ]

  was_inner : (x : Option (ℕ × ℕ)) (b : ℕ) → IsPlace live' x → links' x ≡ Inner b → links x ≡ Inner b
  was_inner x b p e = elim (same_place x at) [
    | inl s ↦ absurd (subst IsCell (sym d.top ∙ ap links' (sym s) ∙ e) tt)
    | inr n ↦ sym (d.others x p n) ∙ e
  ]

  pub drop_holds : Holds live' links' heads layout
  drop_holds = record {
    fits = λ x p. elim (same_place x at) [
      | inl e ↦ subst (λ t. Fits live' heads layout x t) (sym (ap links' e ∙ d.top)) (λ a lies. none_there a (subst (λ z. Lies layout z a) e lies))
      | inr n ↦ subst (λ t. Fits live' heads layout x t) (sym (d.others x p n))
          (fits_kept live live' heads heads layout x (links x) (λ b e l. d.kept b l (λ same. n (h.single x at c (before x p) place (e ∙ ap Inner same) d.was))) (λ cell a lies. refl) (h.fits x (before x p)))
    ];
    apart = apart_after;
    single = λ x y b px py ex ey. h.single x y b (before x px) (before y py) (was_inner x b px ex) (was_inner y b py ey);
  }
