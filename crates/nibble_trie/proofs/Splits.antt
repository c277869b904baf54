-- An index after a branch came between a link and its leaf.
use Rattle.std.proofs.Common.{◌≡◌, ◌≢◌, ◌⊎◌, ℕ, ◌+◌, ◌*◌, ◌%◌, ◌<◌, Option, Some, None, true, false, cond, nat_eq, refl, sym, ap, subst, ◌∙◌, inl, inr, arith}
use Rattle.std.proofs.lemmas.Bool.{cases_eq, ne_eqb}
use Rattle.nibble_trie.specs.declared.link.Target.{Target}
use Rattle.nibble_trie.specs.declared.link.Target.TheVariants.{Nothing, Leaf, Inner}
use Rattle.nibble_trie.specs.Links.{IsCell}
use Rattle.nibble_trie.specs.Index.{Layout, level_of, block_of, high, IsPlace, Lies, Fits, Holds}
use Rattle.nibble_trie.proofs.Digits.{same_place, same_number, digit_is, digits_before}

-- the layout with one branch more
abbrev pub with_branch : Layout → ℕ → ℕ → ℕ → Layout
with_branch layout c level block = record { level = λ b. cond (nat_eq b c) level (layout.level b); block = λ b. cond (nat_eq b c) block (layout.block b) }

-- a branch c stands at this place, and leads to the leaf that stood there by one digit of its address
pub record Splits (live live' : ℕ → Type 0) (links links' : Option (ℕ × ℕ) → Target) (at : Option (ℕ × ℕ)) (c other digit : ℕ) : Type 0 where
  pub was : links at ≡ Leaf other
  pub vacant : live c → ⊥
  pub kept : (b : ℕ) → live b → live' b
  pub here : live' c
  pub from : (b : ℕ) → live' b → live b ⊎ (b ≡ c)
  pub top : links' at ≡ Inner c
  pub inner : (i : ℕ) → i < 16 → links' (Some (c, i)) ≡ cond (nat_eq i digit) (Leaf other) Nothing
  pub others : (x : Option (ℕ × ℕ)) → IsPlace live x → x ≢ at → links' x ≡ links x

module _ (live live' : ℕ → Type 0) (links links' : Option (ℕ × ℕ) → Target) (heads : ℕ → Option ℕ) (layout : Layout) (at : Option (ℕ × ℕ)) (c level standing other : ℕ) (h : Holds live links heads layout) (place : IsPlace live at) (deep : level_of layout at ≡ level + 1) (has : heads standing ≡ Some other) (stands : Lies layout at standing) (s : Splits live live' links links' at c other (high level standing % 16)) where
  abbrev new : Layout
  new = with_branch layout c level (block_of layout at)

  level_new : new.level c ≡ level
  level_new = ap (λ t. cond t level (layout.level c)) (same_number c)

  block_new : new.block c ≡ block_of layout at
  block_new = ap (λ t. cond t (block_of layout at) (layout.block c)) (same_number c)

  apart_from : (b : ℕ) → live b → b ≢ c
  apart_from b l e = s.vacant (subst live e l)

  level_kept : (b : ℕ) → live b → new.level b ≡ layout.level b
  level_kept b l = ap (λ t. cond t level (layout.level b)) (ne_eqb b c (apart_from b l))

  block_kept : (b : ℕ) → live b → new.block b ≡ layout.block b
  block_kept b l = ap (λ t. cond t (block_of layout at) (layout.block b)) (ne_eqb b c (apart_from b l))

  level_of_kept : (x : Option (ℕ × ℕ)) → IsPlace live x → level_of new x ≡ level_of layout x
  level_of_kept None p = refl
  level_of_kept (Some x) p = level_kept x.0 p.0

  block_of_kept : (x : Option (ℕ × ℕ)) → IsPlace live x → block_of new x ≡ block_of layout x
  block_of_kept None p = refl
  block_of_kept (Some x) p = ap (λ n. n * 16 + x.1) (block_kept x.0 p.0)

  lies_before : (x : Option (ℕ × ℕ)) (a : ℕ) → IsPlace live x → Lies new x a → Lies layout x a
  lies_before x a p l = ap (λ n. high n a) (sym (level_of_kept x p)) ∙ l ∙ block_of_kept x p

  lies_after : (x : Option (ℕ × ℕ)) (a : ℕ) → IsPlace live x → Lies layout x a → Lies new x a
  lies_after x a p l = ap (λ n. high n a) (level_of_kept x p) ∙ l ∙ sym (block_of_kept x p)

  -- an address of the branch by a digit
  inner_of : (i a : ℕ) → Lies new (Some (c, i)) a → high level a ≡ block_of layout at * 16 + i
  inner_of i a l = ap (λ n. high n a) (sym level_new) ∙ l ∙ ap (λ n. n * 16 + i) block_new

  inner_lies : (i a : ℕ) → high level a ≡ block_of layout at * 16 + i → Lies new (Some (c, i)) a
  inner_lies i a e = ap (λ n. high n a) level_new ∙ e ∙ ap (λ n. n * 16 + i) (sym block_new)

  at_of : (i a : ℕ) → i < 16 → Lies new (Some (c, i)) a → Lies layout at a
  at_of i a small l = ap (λ n. high n a) deep ∙ digits_before level (block_of layout at) i a small (inner_of i a l)

  -- the place's only address
  only : (b : ℕ) → Lies layout at b → b ≢ standing → heads b ≡ None
  only b lies n =
      let f : Fits live heads layout at (Leaf other) = subst (λ t. Fits live heads layout at t) s.was (h.fits at place) in
      elim (cases_eq standing f.0) [
        | inl e ↦ f.3 b lies (λ same. n (same ∙ sym e))
        | inr differs ↦ let none = f.3 standing stands differs in absurd (cc)
      ]

  -- the places that there were, and the branch's
  cases : (x : Option (ℕ × ℕ)) → IsPlace live' x → IsPlace live x ⊎ ((i : ℕ) × (i < 16) × (x ≡ Some (c, i)))
  cases None p = inl tt
  cases (Some x) p = elim (s.from x.0 p.0) [
    | inl l ↦ inl (l, p.1)
    | inr e ↦ inr (x.1, p.1, λ i. Some (e i, x.1))
  ]

  fits_after : (x : Option (ℕ × ℕ)) (t : Target) → IsPlace live x → Fits live heads layout x t → Fits live' heads new x t
  fits_after x Nothing p f = λ a l. f a (lies_before x a p l)
  fits_after x (Leaf key) p f = (f.0, lies_after x f.0 p f.1, f.2, λ b l n. f.3 b (lies_before x b p l) n)
  fits_after x (Inner b) p f = (s.kept b f.0, level_of_kept x p ∙ f.1 ∙ ap (λ n. n + 1) (sym (level_kept b f.0)), block_of_kept x p ∙ f.2 ∙ sym (block_kept b f.0))

  fits_inner : (i : ℕ) → i < 16 → Fits live' heads new (Some (c, i)) (links' (Some (c, i)))
  fits_inner i small =
      let digit = high level standing % 16 in
      let is : high level standing ≡ block_of layout at * 16 + digit = digit_is level (block_of layout at) standing (ap (λ n. high n standing) (sym deep) ∙ stands) in
      elim (cases_eq i digit) [
        | inl e ↦
            let target : links' (Some (c, i)) ≡ Leaf other = s.inner i small ∙ ap (λ k. cond (nat_eq k digit) (Leaf other) Nothing) e ∙ ap (λ t. cond t (Leaf other) Nothing) (same_number digit) in
            subst (λ t. Fits live' heads new (Some (c, i)) t) (sym target)
            (standing, inner_lies i standing (is ∙ ap (λ k. block_of layout at * 16 + k) (sym e)), has, λ b l n. only b (at_of i b small l) n)
        | inr n ↦
            let target : links' (Some (c, i)) ≡ Nothing = s.inner i small ∙ ap (λ t. cond t (Leaf other) Nothing) (ne_eqb i digit n) in
            subst (λ t. Fits live' heads new (Some (c, i)) t) (sym target)
            (λ a l. only a (at_of i a small l) (λ e. n (let x = inner_of i a l in let y : high level a ≡ high level standing = ap (high level) e in omega arith)))
      ]

  cell_inner : (i : ℕ) → i < 16 → IsCell (links' (Some (c, i)))
  cell_inner i small = subst IsCell (sym (s.inner i small)) (elim (nat_eq i (high level standing % 16)) as (λ b. IsCell (cond b (Leaf other) Nothing)) [ true ↦ tt | false ↦ tt ])

  not_at : (x : Option (ℕ × ℕ)) → IsCell (links' x) → x ≢ at
  not_at x cell e = subst IsCell (ap links' e ∙ s.top) cell

  was_cell : (x : Option (ℕ × ℕ)) → IsPlace live x → IsCell (links' x) → IsCell (links x)
  was_cell x p cell = subst IsCell (s.others x p (not_at x cell)) cell

  at_cell : IsCell (links at)
  at_cell = subst IsCell (sym s.was) tt

  -- an old place and one of the branch have no address in common
  no_common : (x : Option (ℕ × ℕ)) (i a : ℕ) → IsPlace live x → i < 16 → IsCell (links' x) → Lies new x a → Lies new (Some (c, i)) a → ⊥
  no_common x i a p small cell lx li = not_at x cell (h.apart x at a p place (was_cell x p cell) at_cell (lies_before x a p lx) (at_of i a small li))

  apart_after : (x y : Option (ℕ × ℕ)) (a : ℕ) → IsPlace live' x → IsPlace live' y → IsCell (links' x) → IsCell (links' y) → Lies new x a → Lies new y a → x ≡ y
  apart_after x y a px py cx cy lx ly = elim (cases x px) [
    | inl ox ↦ elim (cases y py) [
      | inl oy ↦ h.apart x y a ox oy (was_cell x ox cx) (was_cell y oy cy) (lies_before x a ox lx) (lies_before y a oy ly)
      | inr ny ↦ absurd (no_common x ny.0 a ox ny.1 cx lx (subst (λ z. Lies new z a) ny.2 ly))
    ]
    | inr nx ↦ elim (cases y py) [
      | inl oy ↦ absurd (no_common y nx.0 a oy nx.1 cy ly (subst (λ z. Lies new z a) nx.2 lx))
      | inr ny ↦
          let ex = inner_of nx.0 a (subst (λ z. Lies new z a) nx.2 lx) in
          let ey = inner_of ny.0 a (subst (λ z. Lies new z a) ny.2 ly) in
          let e : nx.0 ≡ ny.0 = omega arith in
          nx.2 ∙ (λ i. Some (c, e i)) ∙ sym ny.2
    ]
  ]

  -- only the place leads to the branch, and the branch to none
  inner_place : (x : Option (ℕ × ℕ)) (b : ℕ) → IsPlace live' x → links' x ≡ Inner b → IsPlace live x
  inner_place x b p e = elim (cases x p) [
    | inl o ↦ o
    | inr n ↦ absurd (subst IsCell (ap links' (sym n.2) ∙ e) (cell_inner n.0 n.1))
  ]

  only_top : (x : Option (ℕ × ℕ)) → IsPlace live x → links' x ≡ Inner c → x ≡ at
  only_top x p e = elim (same_place x at) [
    | inl same ↦ same
    | inr n ↦ absurd (s.vacant ((subst (λ t. Fits live heads layout x t) (sym (s.others x p n) ∙ e) (h.fits x p)).0))
  ]

  single_after : (x y : Option (ℕ × ℕ)) (b : ℕ) → IsPlace live' x → IsPlace live' y → links' x ≡ Inner b → links' y ≡ Inner b → x ≡ y
  single_after x y b px py ex ey =
      let ox = inner_place x b px ex in
      let oy = inner_place y b py ey in
      elim (cases_eq b c) [
        | inl e ↦ only_top x ox (ex ∙ ap Inner e) ∙ sym (only_top y oy (ey ∙ ap Inner e))
        | inr n ↦
            let away : (z : Option (ℕ × ℕ)) → links' z ≡ Inner b → z ≢ at = λ z ez same. n (let both = sym ez ∙ ap links' same ∙ s.top in cc) in
            h.single x y b ox oy (sym (s.others x ox (away x ex)) ∙ ex) (sym (s.others y oy (away y ey)) ∙ ey)
      ]

  pub split_holds : Holds live' links' heads new
  split_holds = record {
    fits = λ x p. elim (cases x p) [
      | inl o ↦ elim (same_place x at) [
        | inl e ↦ subst (λ t. Fits live' heads new x t) (sym (ap links' e ∙ s.top))
            (s.here, level_of_kept x o ∙ ap (level_of layout) e ∙ deep ∙ ap (λ n. n + 1) (sym level_new), block_of_kept x o ∙ ap (block_of layout) e ∙ sym block_new)
        | inr n ↦ subst (λ t. Fits live' heads new x t) (sym (s.others x o n)) (fits_after x (links x) o (h.fits x o))
      ]
      | inr i ↦ subst (λ y. Fits live' heads new y (links' y)) (sym i.2) (fits_inner i.0 i.1)
    ];
    apart = apart_after;
    single = single_after;
  }

  -- the address that is to come has its place under the branch
  pub split_lies : (a : ℕ) → Lies layout at a → Lies new (Some (c, high level a % 16)) a
  split_lies a l = inner_lies (high level a % 16) a (digit_is level (block_of layout at) a (ap (λ n. high n a) (sym deep) ∙ l))
