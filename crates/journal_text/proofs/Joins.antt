-- Texts with a byte between them, one more at a time.
use Rattle.std.proofs.Common.{◌≡◌, ℕ, zero, suc, ◌<◌, ◌+◌, List, [], ◌∷◌, ◌++◌, length, map, take, get_or, refl, sym, ap, ◌∙◌, arith, append_assoc, length-take}
use Rattle.std.proofs.lemmas.List.{take_more, append-nil}
use Rattle.std.specs.List.{join_with_byte}

join_more : (c : ℕ) (x : List ℕ) (xs : List (List ℕ)) (y : List ℕ) → join_with_byte c ((x ∷ xs) ++ y ∷ []) ≡ join_with_byte c (x ∷ xs) ++ c ∷ y
join_more c x [] y = refl
join_more c x (z ∷ zs) y = ap (λ t. x ++ (c ∷ t)) (join_more c z zs y) ∙ sym (append_assoc x (c ∷ join_with_byte c (z ∷ zs)) (c ∷ y))

joined_push : (c : ℕ) (text : ℕ → List ℕ) (ns : List ℕ) (n : ℕ) → 0 < length ns → join_with_byte c (map text (ns ++ n ∷ [])) ≡ join_with_byte c (map text ns) ++ c ∷ text n
joined_push c text [] n some = absurd (omega arith)
joined_push c text (m ∷ ms) n some = ap (join_with_byte c) (ap (λ t. text m ∷ t) (map_push ms n)) ∙ join_more c (text m) (map text ms) (text n)
  where
    map_push : (ms : List ℕ) (n : ℕ) → map text (ms ++ n ∷ []) ≡ map text ms ++ text n ∷ []
    map_push [] n = refl
    map_push (m ∷ ms) n = ap (λ t. text m ∷ t) (map_push ms n)

abbrev joined : ℕ → (ℕ → List ℕ) → List ℕ → List ℕ
joined c text ns = join_with_byte c (map text ns)

joined_more : (c : ℕ) (text : ℕ → List ℕ) (ns : List ℕ) (i : ℕ) → 0 < i → i < length ns → joined c text (take (i + 1) ns) ≡ joined c text (take i ns) ++ c ∷ text (get_or ns i 0)
joined_more c text ns i some below = ap (joined c text) (take_more ns i 0 below) ∙ joined_push c text (take i ns) (get_or ns i 0) (omega (arith, length-take {A = ℕ}))

-- a number in its place, whatever stands for one that isn't there
pub at_place : (ns : List ℕ) (i n : ℕ) → i < length ns → n ≡ get_or ns i n → n ≡ get_or ns i 0
at_place ns i n below is = is ∙ any_default ns i n 0 below
  where
    any_default : (ns : List ℕ) (i m n : ℕ) → i < length ns → get_or ns i m ≡ get_or ns i n
    any_default [] i m n below = absurd (omega arith)
    any_default (k ∷ ns) zero m n below = refl
    any_default (k ∷ ns) (suc i) m n below = any_default ns i m n (omega arith)

-- behind the texts of the first numbers stand the byte and the text of the next one
pub append_next : (c : ℕ) (text : ℕ → List ℕ) (ns : List ℕ) (i n : ℕ) → 0 < i → i < length ns → n ≡ get_or ns i 0 → (before now : List ℕ) → now ≡ before ++ joined c text (take i ns) → (now ++ c ∷ []) ++ text n ≡ before ++ joined c text (take (i + 1) ns)
append_next c text ns i n some below place before now is =
    ap (λ t. (t ++ c ∷ []) ++ text n) is
    ∙ (append_assoc (before ++ joined c text (take i ns)) (c ∷ []) (text n)
    ∙ (append_assoc before (joined c text (take i ns)) (c ∷ text n)
    ∙ ap (λ t. before ++ t) (ap (λ m. joined c text (take i ns) ++ c ∷ text m) place ∙ sym (joined_more c text ns i some below))))

-- before the first one no byte stands
pub append_first : (c : ℕ) (text : ℕ → List ℕ) (ns : List ℕ) (i n : ℕ) → i ≡ 0 → i < length ns → n ≡ get_or ns i 0 → (before now : List ℕ) → now ≡ before ++ joined c text (take i ns) → now ++ text n ≡ before ++ joined c text (take (i + 1) ns)
append_first c text [] i n zero_i below place before now is = absurd (omega arith)
append_first c text (m ∷ ns) zero n zero_i below place before now is = ap (λ t. t ++ text n) (is ∙ append-nil before) ∙ ap (λ k. before ++ text k) place
append_first c text (m ∷ ns) (suc i) n zero_i below place before now is = absurd (omega arith)
