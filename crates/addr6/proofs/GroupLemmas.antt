-- The texts that std's grammar has for an IPv6 address are those of `addr6_of`, where no byte is a dot.
use Rattle.std.proofs.Common.{◌≡◌, ℕ, ◌<◌, Bool, true, false, true≢false, not, ◌&&◌, nat_eq, nat_le, List, [], ◌∷◌, ◌++◌, length, map, Option, Some, None, option_map, refl, sym, ap, ◌∙◌, subst, arith, inl, inr, lt-ltb, le-leb, append_assoc, append-nil, length-append, get_or, decimal, codes}
use Rattle.std.proofs.lemmas.Bool.{and_from, and_parts, ltb-true, leb-true, eqb-true, cases_Bool, cond-true, cond-false}
use Rattle.std.proofs.lemmas.Option.{none-some, same_Some}
use Rattle.std.proofs.NetLemmas.Options.{cond_some, map_some}
use Rattle.std.proofs.lemmas.Bool.Decides.{nat_tests}
use Rattle.std.proofs.lemmas.List.Elements.{All-nil, All-cons}
use Rattle.std.proofs.lemmas.List.Folds.{list_all-append}
use Rattle.std.proofs.lemmas.List.Splits.{slice_split_at, slice_split_none, join_with_byte-slice_split}
use Rattle.std.specs.Char.{digit_value, is_digit}
use Rattle.std.specs.Str.Parse.{AllDigits, digits_value}
use Rattle.std.specs.List.{All, list_all, join_with_byte}
use Rattle.std.specs.Net.Grammar.{IsGroup, IsGroupsAfter, IsGroups, IsDotted}
use Rattle.addr4.specs.Texts.{parts}
use Rattle.addr4.proofs.PartLemmas.{parts_some}
use Rattle.addr4.specs.Texts.{is_group, groups_in, around}

-- ---- a group
digits_pass : (ds : List ℕ) → AllDigits 16 ds → list_all (λ c. is_digit c 16) ds ≡ true
digits_pass [] h = refl
digits_pass (c ∷ cs) h = and_from _ _ (lt-ltb (digit_value c) 16 h.0) (digits_pass cs h.1)

passed_digits : (ds : List ℕ) → list_all (λ c. is_digit c 16) ds ≡ true → AllDigits 16 ds
passed_digits [] h = tt
passed_digits (c ∷ cs) h = let (first, rest) = and_parts _ _ h in (ltb-true (digit_value c) 16 first, passed_digits cs rest)

pub group_passes : (word : List ℕ) (s : ℕ) → IsGroup word s → is_group word ≡ true
group_passes word s h =
    and_from _ _ (and_from _ _ (le-leb 1 (length word) (omega (arith, h.0.0.0))) (le-leb (length word) 4 h.1)) (digits_pass word h.0.0.1)

pub passed_group : (word : List ℕ) → is_group word ≡ true → IsGroup word (digits_value 16 word)
passed_group word h =
    let (long, digits) = and_parts (nat_le 1 (length word) && nat_le (length word) 4) (list_all (λ c. is_digit c 16) word) h in
    let (some, few) = and_parts (nat_le 1 (length word)) (nat_le (length word) 4) long in
    (((omega (arith, leb-true 1 (length word) some), passed_digits word digits), refl), leb-true (length word) 4 few)

-- ---- digits are no colons
no_colon : (c : ℕ) → digit_value c < 16 → nat_eq c 58 ≡ false
no_colon c h = grind (arith, nat_tests)

no_colons : (ds : List ℕ) → AllDigits 16 ds → All (λ b. nat_eq b 58 ≡ false) ds
no_colons [] h = All-nil (λ b. nat_eq b 58 ≡ false)
no_colons (c ∷ cs) h = All-cons (λ b. nat_eq b 58 ≡ false) c cs (no_colon c h.0) (no_colons cs h.1)

-- ---- groups behind a colon
abbrev Behind : List ℕ → List ℕ → Type 0
Behind text segments = (rest : List ℕ) × (text ≡ 58 ∷ rest) × IsGroups false rest segments

behind_colon : (text : List ℕ) (s : ℕ) (segments : List ℕ) → IsGroupsAfter false (58 ∷ []) text (s ∷ segments) → Behind text (s ∷ segments)
behind_colon text s segments (inl h) = (h.0 ++ h.1, h.2, inl (h.0, h.1, refl, h.3, h.4))
behind_colon text s segments (inr h) = absurd (true≢false (sym h.2))

with_colon : (text : List ℕ) (s : ℕ) (segments : List ℕ) → IsGroups false text (s ∷ segments) → IsGroupsAfter false (58 ∷ []) (58 ∷ text) (s ∷ segments)
with_colon text s segments (inl h) = inl (h.0, h.1, ap (λ t. 58 ∷ t) h.2, h.3, h.4)
with_colon text s segments (inr h) = absurd (true≢false (sym h.2))

-- ---- groups without a dot
pub without : (x : ℕ) (xs ys : List ℕ) → list_all (λ b. not (nat_eq b x)) (xs ++ ys) ≡ true → (list_all (λ b. not (nat_eq b x)) xs ≡ true) × (list_all (λ b. not (nat_eq b x)) ys ≡ true)
without x xs ys h = and_parts _ _ (sym (list_all-append (λ b. not (nat_eq b x)) xs ys) ∙ h)

has_dot : (xs ys : List ℕ) → list_all (λ b. not (nat_eq b 46)) (xs ++ (46 ∷ []) ++ ys) ≡ true → ⊥
has_dot xs ys h = true≢false (sym (without 46 xs (46 ∷ []) (without 46 (xs ++ 46 ∷ []) ys h).0).1)

-- an IPv4 address has a dot
no_dotted : (text octets : List ℕ) → list_all (λ b. not (nat_eq b 46)) text ≡ true → IsDotted text octets → ⊥
no_dotted text octets h d =
    has_dot (decimal d.a ++ codes "." ++ decimal d.b ++ codes "." ++ decimal d.c) (decimal d.d) (subst (λ t. list_all (λ b. not (nat_eq b 46)) t ≡ true) d.spelled h)

pub undotted : (ipv4 : Bool) (lead text segments : List ℕ) → list_all (λ b. not (nat_eq b 46)) text ≡ true → IsGroupsAfter ipv4 lead text segments → IsGroupsAfter false lead text segments
undotted ipv4 lead text [] h groups = groups
undotted ipv4 lead text (s ∷ segments) h (inl g) =
    let (front, rest) = without 46 (lead ++ g.0) g.1 (subst (λ t. list_all (λ b. not (nat_eq b 46)) t ≡ true) g.2 h) in
    inl (g.0, g.1, g.2, g.3, undotted ipv4 (58 ∷ []) g.1 segments rest g.4)
undotted ipv4 lead text (s ∷ segments) h (inr g) =
    let (front, last) = without 46 lead g.0 (subst (λ t. list_all (λ b. not (nat_eq b 46)) t ≡ true) g.3 h) in
    absurd (no_dotted g.0 g.1 last g.4)

-- groups have no byte but digits and colons
pub groups_pass : (p : ℕ → Bool) → ((c : ℕ) → digit_value c < 16 → p c ≡ true) → p 58 ≡ true → (lead text segments : List ℕ) → list_all p lead ≡ true → IsGroupsAfter false lead text segments → list_all p text ≡ true
groups_pass p digits colon lead text [] front groups = ap (list_all p) groups
groups_pass p digits colon lead text (s ∷ segments) front (inl g) =
    let more = groups_pass p digits colon (58 ∷ []) g.1 segments (and_from _ _ colon refl) g.4 in
    ap (list_all p) g.2 ∙ list_all-append p (lead ++ g.0) g.1 ∙ and_from _ _ (list_all-append p lead g.0 ∙ and_from _ _ front (passing g.0 g.3.0.0.1)) more
  where
    passing : (ds : List ℕ) → AllDigits 16 ds → list_all p ds ≡ true
    passing [] h = refl
    passing (c ∷ cs) h = and_from _ _ (digits c h.0) (passing cs h.1)
groups_pass p digits colon lead text (s ∷ segments) front (inr g) = absurd (true≢false (sym g.2))

-- ---- the words between colons
abbrev Words : List (List ℕ) → List ℕ → Type 0
Words words segments = (list_all is_group words ≡ true) × (map (digits_value 16) words ≡ segments)

words_more : (word : List ℕ) (words : List (List ℕ)) (s : ℕ) (segments : List ℕ) → IsGroup word s → Words words segments → Words (word ∷ words) (s ∷ segments)
words_more word words s segments g h = (and_from _ _ (group_passes word s g) h.0, ap (λ v. v ∷ map (digits_value 16) words) g.0.1 ∙ ap (λ vs. s ∷ vs) h.1)

words_told : (text : List ℕ) (s : ℕ) (segments : List ℕ) → IsGroups false text (s ∷ segments) → Words (parts 58 text) (s ∷ segments)
words_told text s [] (inl g) =
    let alone : text ≡ g.0 = g.2 ∙ ap (λ r. g.0 ++ r) g.4 ∙ append-nil g.0 in
    let one : parts 58 text ≡ g.0 ∷ [] = ap (parts 58) alone ∙ slice_split_none (λ b. nat_eq b 58) g.0 (no_colons g.0 g.3.0.0.1) in
    subst (λ words. Words words (s ∷ [])) (sym one) (words_more g.0 [] s [] g.3 (refl, refl))
words_told text s (t ∷ segments) (inl g) =
    let (rest, split, more) = behind_colon g.1 t segments g.4 in
    let first : parts 58 text ≡ g.0 ∷ parts 58 rest = ap (parts 58) (g.2 ∙ ap (λ r. g.0 ++ r) split) ∙ slice_split_at (λ b. nat_eq b 58) g.0 58 rest (no_colons g.0 g.3.0.0.1) refl in
    subst (λ words. Words words (s ∷ t ∷ segments)) (sym first) (words_more g.0 (parts 58 rest) s (t ∷ segments) g.3 (words_told rest t segments more))
words_told text s segments (inr g) = absurd (true≢false (sym g.2))

words_back : (word : List ℕ) (words : List (List ℕ)) → list_all is_group (word ∷ words) ≡ true → IsGroups false (join_with_byte 58 (word ∷ words)) (map (digits_value 16) (word ∷ words))
words_back word [] h = inl (word, [], sym (append-nil word), passed_group word (and_parts _ _ h).0, refl)
words_back word (next ∷ words) h =
    let (first, rest) = and_parts _ _ h in
    inl (word, 58 ∷ join_with_byte 58 (next ∷ words), refl, passed_group word first, with_colon _ _ _ (words_back next words rest))

-- ---- `groups_in` tells the groups of std's grammar
in_words : (c : ℕ) (cs segments : List ℕ) → Words (parts 58 (c ∷ cs)) segments → groups_in (c ∷ cs) ≡ Some segments
in_words c cs segments h = rw (h.0) (ap Some h.1)

pub groups_told : (text segments : List ℕ) → IsGroups false text segments → groups_in text ≡ Some segments
groups_told text [] h = ap groups_in h
groups_told [] (s ∷ segments) (inl g) = absurd (omega (arith, ap length g.2, length-append g.0 g.1, g.3.0.0.0))
groups_told (c ∷ cs) (s ∷ segments) h = in_words c cs (s ∷ segments) (words_told (c ∷ cs) s segments h)
groups_told [] (s ∷ segments) (inr g) = absurd (true≢false (sym g.2))

joined_back : (text segments : List ℕ) (words : List (List ℕ)) → parts 58 text ≡ words → Words words segments → IsGroups false text segments
joined_back text segments [] e h = absurd (omega (arith, ap length e, parts_some 58 text))
joined_back text segments (word ∷ words) e h =
    let whole : text ≡ join_with_byte 58 (word ∷ words) = sym (join_with_byte-slice_split 58 text) ∙ ap (join_with_byte 58) e in
    subst (λ t. IsGroups false t segments) (sym whole) (subst (λ s. IsGroups false (join_with_byte 58 (word ∷ words)) s) h.1 (words_back word words h.0))

pub groups_back : (text segments : List ℕ) → groups_in text ≡ Some segments → IsGroups false text segments
groups_back [] segments h = subst (IsGroups false []) (same_Some _ _ h) refl
groups_back (c ∷ cs) segments h =
    let (passed, same) = cond_some _ _ _ h in
    joined_back (c ∷ cs) segments (parts 58 (c ∷ cs)) refl (passed, same)

-- ---- around `::`
-- a front put before what stands in front of `::`
abbrev pub onto : List ℕ → Option (List ℕ × List ℕ) → Option (List ℕ × List ℕ)
onto [] sides = sides
onto (c ∷ cs) sides = option_map (λ s. (c ∷ s.0, s.1)) (onto cs sides)

pub onto_none : (front : List ℕ) → onto front None ≡ None
onto_none [] = refl
onto_none (c ∷ cs) = ap (option_map (λ s. (c ∷ s.0, s.1))) (onto_none cs)

pub onto_some : (front head tail : List ℕ) → onto front (Some (head, tail)) ≡ Some (front ++ head, tail)
onto_some [] head tail = refl
onto_some (c ∷ cs) head tail = ap (option_map (λ s. (c ∷ s.0, s.1))) (onto_some cs head tail)

onto_both : (xs ys : List ℕ) (sides : Option (List ℕ × List ℕ)) → onto (xs ++ ys) sides ≡ onto xs (onto ys sides)
onto_both [] ys sides = refl
onto_both (c ∷ cs) ys sides = ap (option_map (λ s. (c ∷ s.0, s.1))) (onto_both cs ys sides)

no_colon_first : (c : ℕ) (text : List ℕ) → nat_eq c 58 ≡ false → around (c ∷ text) ≡ onto (c ∷ []) (around text)
no_colon_first c [] h = refl
no_colon_first c (d ∷ text) h = rw h refl

colon_first : (d : ℕ) (text : List ℕ) → nat_eq d 58 ≡ false → around (58 ∷ d ∷ text) ≡ onto (58 ∷ []) (around (d ∷ text))
colon_first d text h = rw h refl

digits_first : (ds text : List ℕ) → AllDigits 16 ds → around (ds ++ text) ≡ onto ds (around text)
digits_first [] text h = refl
digits_first (c ∷ cs) text h = no_colon_first c (cs ++ text) (no_colon c h.0) ∙ ap (onto (c ∷ [])) (digits_first cs text h.1)

colon_before : (rest text : List ℕ) (s : ℕ) (segments : List ℕ) → IsGroups false rest (s ∷ segments) → around (58 ∷ (rest ++ text)) ≡ onto (58 ∷ []) (around (rest ++ text))
colon_before [] text s segments (inl g) = absurd (omega (arith, ap length g.2, length-append g.0 g.1, g.3.0.0.0))
colon_before (d ∷ rest) text s segments (inl ([], more, split, group, after)) = absurd (omega (arith, group.0.0.0))
colon_before (d ∷ rest) text s segments (inl (c ∷ cs, more, split, group, after)) =
    let same : d ≡ c = ap (λ t. get_or t 0 0) split in
    colon_first d (rest ++ text) (ap (λ x. nat_eq x 58) same ∙ no_colon c group.0.0.1.0)
colon_before rest text s segments (inr g) = absurd (true≢false (sym g.2))

-- groups have no `::` in them, nor end in a colon
groups_first : (front text : List ℕ) (s : ℕ) (segments : List ℕ) → IsGroups false front (s ∷ segments) → around (front ++ text) ≡ onto front (around text)
groups_first front text s [] (inl g) =
    let alone : front ≡ g.0 = g.2 ∙ ap (λ r. g.0 ++ r) g.4 ∙ append-nil g.0 in
    subst (λ f. around (f ++ text) ≡ onto f (around text)) (sym alone) (digits_first g.0 text g.3.0.0.1)
groups_first front text s (t ∷ segments) (inl g) =
    let (rest, split, more) = behind_colon g.1 t segments g.4 in
    let both : front ≡ g.0 ++ 58 ∷ rest = g.2 ∙ ap (λ r. g.0 ++ r) split in
    subst (λ f. around (f ++ text) ≡ onto f (around text)) (sym both)
    (ap around (append_assoc g.0 (58 ∷ rest) text) ∙ digits_first g.0 (58 ∷ (rest ++ text)) g.3.0.0.1
    ∙ ap (onto g.0) (colon_before rest text t segments more ∙ ap (onto (58 ∷ [])) (groups_first rest text t segments more))
    ∙ sym (onto_both g.0 (58 ∷ rest) (around text)))
groups_first front text s segments (inr g) = absurd (true≢false (sym g.2))

pub groups_before : (front text segments : List ℕ) → IsGroups false front segments → around (front ++ text) ≡ onto front (around text)
groups_before front text [] h = rw h refl
groups_before front text (s ∷ segments) h = groups_first front text s segments h

-- the sides of `::`, and `::` between them, are the text
pub around_back : (text front back : List ℕ) → around text ≡ Some (front, back) → text ≡ front ++ (58 ∷ 58 ∷ []) ++ back
around_back [] front back h = absurd (none-some _ h)
around_back (c ∷ []) front back h = absurd (none-some _ h)
around_back (c ∷ d ∷ text) front back h = elim (cases_Bool (nat_eq c 58 && nat_eq d 58)) [
  | inl here ↦
      let (one, two) = and_parts _ _ here in
      let same = same_Some _ _ (sym (cond-true _ _ _ here) ∙ h) in
      rw (← ap (λ p. p.0) same, ← ap (λ p. p.1) same, eqb-true c 58 one, eqb-true d 58 two) refl
  | inr later ↦
      map_some _ (around (d ∷ text)) (front, back) (sym (cond-false _ _ _ later) ∙ h) λ sides found same.
      rw (← ap (λ p. p.0) same, ← ap (λ p. p.1) same) (ap (λ t. c ∷ t) (around_back (d ∷ text) sides.0 sides.1 found))
]
