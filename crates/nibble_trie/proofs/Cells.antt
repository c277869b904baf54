-- An index after a change at a link that leads to no branch.
use Rattle.std.proofs.Common.{◌≡◌, ℕ, Option, Some, None, refl, sym, ap, subst, ◌∙◌, inl, inr}
use Rattle.std.proofs.lemmas.Bool.{cases_eq}
use Rattle.nibble_trie.specs.declared.link.Target.{Target}
use Rattle.nibble_trie.specs.declared.link.Target.TheVariants.{Nothing, Leaf, Inner}
use Rattle.nibble_trie.specs.Links.{IsCell}
use Rattle.nibble_trie.specs.Index.{Layout, IsPlace, Lies, Fits, Holds, Writes, with_head, IsAlone}
use Rattle.nibble_trie.proofs.Digits.{same_place, head_here, head_apart}

pub place_kept : (live live' : ℕ → Type 0) (at : Option (ℕ × ℕ)) → ((b : ℕ) → live b → live' b) → IsPlace live at → IsPlace live' at
place_kept live live' None up place = tt
place_kept live live' (Some at) up place = (up at.0 place.0, place.1)

-- what fits goes on fitting
pub fits_kept : (live live' : ℕ → Type 0) (heads heads' : ℕ → Option ℕ) (layout : Layout) (at : Option (ℕ × ℕ)) (t : Target) → ((b : ℕ) → t ≡ Inner b → live b → live' b) → (IsCell t → (a : ℕ) → Lies layout at a → heads' a ≡ heads a) → Fits live heads layout at t → Fits live' heads' layout at t
fits_kept live live' heads heads' layout at Nothing up same fits = λ a lies. same tt a lies ∙ fits a lies
fits_kept live live' heads heads' layout at (Leaf key) up same fits = (fits.0, fits.1, same tt fits.0 fits.1 ∙ fits.2, λ b lies differs. same tt b lies ∙ fits.3 b lies differs)
fits_kept live live' heads heads' layout at (Inner branch) up same fits = (up branch refl fits.0, fits.1, fits.2)

module _ (live live' : ℕ → Type 0) (links links' : Option (ℕ × ℕ) → Target) (at : Option (ℕ × ℕ)) (t : Target) (w : Writes live live' links links' at t) where
  was_cell : IsCell (links at) → (x : Option (ℕ × ℕ)) → IsCell (links' x) → IsCell (links x)
  was_cell was x c = elim (same_place x at) [
    | inl e ↦ subst (λ y. IsCell (links y)) (sym e) was
    | inr n ↦ subst IsCell (w.others x n) c
  ]

  was_inner : IsCell t → (x : Option (ℕ × ℕ)) (b : ℕ) → links' x ≡ Inner b → links x ≡ Inner b
  was_inner is x b e = elim (same_place x at) [
    | inl s ↦ absurd (subst IsCell (sym w.changed ∙ ap links' (sym s) ∙ e) is)
    | inr n ↦ sym (w.others x n) ∙ e
  ]

  pub cell_changed : (heads heads' : ℕ → Option ℕ) (layout : Layout) → Holds live links heads layout → IsPlace live at → IsCell (links at) → IsCell t → ((a : ℕ) → (Lies layout at a → ⊥) → heads' a ≡ heads a) → Fits live' heads' layout at t → Holds live' links' heads' layout
  cell_changed heads heads' layout h place was is same fits = record {
    fits = λ x px.
        let px0 = place_kept live' live x w.from px in
        elim (same_place x at) [
          | inl e ↦ subst (λ u. Fits live' heads' layout x u) (sym (ap links' e ∙ w.changed)) (subst (λ y. Fits live' heads' layout y t) (sym e) fits)
          | inr n ↦ subst (λ u. Fits live' heads' layout x u) (sym (w.others x n))
              (fits_kept live live' heads heads' layout x (links x) (λ b e. w.kept b) (λ cell a lies. same a (λ here. n (h.apart x at a px0 place cell was lies here))) (h.fits x px0))
        ];
    apart = λ x y a px py cx cy lx ly. h.apart x y a (place_kept live' live x w.from px) (place_kept live' live y w.from py) (was_cell was x cx) (was_cell was y cy) lx ly;
    single = λ x y b px py ex ey. h.single x y b (place_kept live' live x w.from px) (place_kept live' live y w.from py) (was_inner is x b ex) (was_inner is y b ey);
  }

-- an address has another leaf, or none, where no other of the place has one
pub pointed : (live live' : ℕ → Type 0) (links links' : Option (ℕ × ℕ) → Target) (at : Option (ℕ × ℕ)) (heads : ℕ → Option ℕ) (layout : Layout) (a key : ℕ) → Writes live live' links links' at (Leaf key) → Holds live links heads layout → IsPlace live at → IsCell (links at) → Lies layout at a → IsAlone heads layout at a → Holds live' links' (with_head heads a (Some key)) layout
pointed live live' links links' at heads layout a key w h place cell lies alone =
    cell_changed live live' links links' at (Leaf key) w heads (with_head heads a (Some key)) layout h place cell tt (λ b out. head_apart heads a (Some key) b (λ e. out (subst (Lies layout at) (sym e) lies)))
    (a, lies, head_here heads a (Some key), λ b here n. head_apart heads a (Some key) b n ∙ alone b here n)

pub cleared : (live live' : ℕ → Type 0) (links links' : Option (ℕ × ℕ) → Target) (at : Option (ℕ × ℕ)) (heads : ℕ → Option ℕ) (layout : Layout) (a : ℕ) → Writes live live' links links' at Nothing → Holds live links heads layout → IsPlace live at → IsCell (links at) → Lies layout at a → IsAlone heads layout at a → Holds live' links' (with_head heads a None) layout
cleared live live' links links' at heads layout a w h place cell lies alone =
    cell_changed live live' links links' at Nothing w heads (with_head heads a None) layout h place cell tt (λ b out. head_apart heads a None b (λ e. out (subst (Lies layout at) (sym e) lies)))
    (λ b here. elim (cases_eq b a) [
      | inl e ↦ subst (λ x. with_head heads a None x ≡ None) (sym e) (head_here heads a None)
      | inr n ↦ head_apart heads a None b n ∙ alone b here n
    ])

-- where an address has a leaf, no other of its place has one
pub alone_of : (live : ℕ → Type 0) (heads : ℕ → Option ℕ) (layout : Layout) (at : Option (ℕ × ℕ)) (t : Target) (a key : ℕ) → IsCell t → Fits live heads layout at t → Lies layout at a → heads a ≡ Some key → IsAlone heads layout at a
alone_of live heads layout at Nothing a key cell fits lies has = let none = fits a lies in absurd (cc)
alone_of live heads layout at (Leaf other) a key cell fits lies has = elim (cases_eq a fits.0) [
  | inl e ↦ λ b here n. fits.3 b here (λ same. n (same ∙ sym e))
  | inr n ↦ let none = fits.3 a lies n in absurd (cc)
]
alone_of live heads layout at (Inner branch) a key cell fits lies has = absurd cell
