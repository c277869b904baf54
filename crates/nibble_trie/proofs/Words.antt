-- What a link's word tells, and the links of a branch.
use Rattle.std.proofs.Common.{◌≡◌, ℕ, ◌+◌, ◌-◌, ◌<◌, cond, List, length, get_or, set, replicate, nat_eq, nat_lt, refl, sym, ap, subst, ◌∙◌, inl, inr, arith, get_or-set_same, get_or-set_other}
use Rattle.std.proofs.lemmas.Bool.{cases_eq, cases_lt, ne_eqb, cond_below, cond_above}
use Rattle.std.proofs.lemmas.List.{get_or-replicate, length-replicate}
use Rattle.nibble_trie.specs.declared.link.Link.{Link}
use Rattle.nibble_trie.specs.declared.link.Target.TheVariants.{Nothing, Leaf, Inner}
use Rattle.nibble_trie.specs.declared.branch.Branch.{Branch}
use Rattle.nibble_trie.specs.Links.{target_of, target_at, leads}
use Rattle.nibble_trie.proofs.Digits.{same_number}

pub word_nothing : (w : ℕ) → w ≡ 0 → target_of w ≡ Nothing
unfolding target_of
word_nothing w e = ap (λ t. cond t Nothing (cond (nat_lt w 2147483648) (Leaf (w - 1)) (Inner (w - 2147483648)))) (ap (λ n. nat_eq n 0) e ∙ same_number 0)

pub word_leaf : (w k : ℕ) → w ≡ k + 1 → w < 2147483648 → target_of w ≡ Leaf k
unfolding target_of
word_leaf w k e small =
    ap (λ t. cond t Nothing (cond (nat_lt w 2147483648) (Leaf (w - 1)) (Inner (w - 2147483648)))) (ne_eqb w 0 (λ z. absurd (omega arith)))
    ∙ sym (cond_below w 2147483648 (Leaf (w - 1)) (Inner (w - 2147483648)) small)
    ∙ ap Leaf (let same : w - 1 ≡ k = omega arith in same)

pub word_inner : (w k : ℕ) → w ≡ k + 2147483648 → target_of w ≡ Inner k
unfolding target_of
word_inner w k e =
    ap (λ t. cond t Nothing (cond (nat_lt w 2147483648) (Leaf (w - 1)) (Inner (w - 2147483648)))) (ne_eqb w 0 (λ z. absurd (omega arith)))
    ∙ sym (cond_above w 2147483648 (Leaf (w - 1)) (Inner (w - 2147483648)) (Inner (w - 2147483648)) (omega arith) refl)
    ∙ ap Inner (let same : w - 2147483648 ≡ k = omega arith in same)

pub nothing_word : (w : ℕ) → target_of w ≡ Nothing → w ≡ 0
nothing_word w e = elim (cases_eq w 0) [
  | inl z ↦ z
  | inr n ↦ elim (cases_lt w 2147483648) [
    | inl lt ↦ let clash : Leaf (w - 1) ≡ Nothing = sym (word_leaf w (w - 1) (omega arith) lt) ∙ e in absurd (cc)
    | inr le ↦ let clash : Inner (w - 2147483648) ≡ Nothing = sym (word_inner w (w - 2147483648) (omega arith)) ∙ e in absurd (cc)
  ]
]

-- ---- branches
pub target_read : (b : Branch) (i : ℕ) → target_at b i ≡ leads (get_or b.links i (record { word = 0 }))
unfolding target_at
target_read b i = refl

pub target_set : (b c : Branch) (digit : ℕ) (l : Link) → digit < length b.links → c.links ≡ set b.links digit l → (i : ℕ) → target_at c i ≡ cond (nat_eq i digit) (leads l) (target_at b i)
unfolding target_at
target_set b c digit l within is i =
    let d : Link = record { word = 0 } in
    ap (λ (xs : List Link). leads (get_or xs i d)) is ∙ elim (cases_eq i digit) [
      | inl e ↦ ap (λ n. leads (get_or (set b.links digit l) n d)) e ∙ ap leads (get_or-set_same b.links digit l d within) ∙ sym (ap (λ t. cond t (leads l) (leads (get_or b.links i d))) (ap (λ n. nat_eq n digit) e ∙ same_number digit))
      | inr n ↦ ap leads (get_or-set_other b.links digit i l d n) ∙ sym (ap (λ t. cond t (leads l) (leads (get_or b.links i d))) (ne_eqb i digit n))
    ]

all_zero : (zero : Link) (i : ℕ) → i < 16 → target_at (record { links = replicate 16 zero }) i ≡ leads zero
unfolding target_at
all_zero zero i below = ap leads (get_or-replicate 16 i zero (record { word = 0 }) below)

pub target_one : (b : Branch) (digit : ℕ) (zero l : Link) → digit < 16 → leads zero ≡ Nothing → b.links ≡ set (replicate 16 zero) digit l → (i : ℕ) → i < 16 → target_at b i ≡ cond (nat_eq i digit) (leads l) Nothing
target_one b digit zero l small none is i below =
    let base : Branch = record { links = replicate 16 zero } in
    let within : digit < length base.links = subst (λ n. digit < n) (sym (length-replicate 16 zero)) small in
    target_set base b digit l within is i ∙ ap (cond (nat_eq i digit) (leads l)) (all_zero zero i below ∙ none)

-- no link at a digit, nor at those before
pub none_more : (b : Branch) (digit : ℕ) → target_at b digit ≡ Nothing → ((i : ℕ) → i < digit → target_at b i ≡ Nothing) → (i : ℕ) → i < digit + 1 → target_at b i ≡ Nothing
none_more b digit here before i less = elim (cases_eq i digit) [
  | inl e ↦ ap (target_at b) e ∙ here
  | inr n ↦ before i (omega arith)
]
