-- What std's parser reads is what `addr6_of` tells.
use Rattle.std.proofs.Common.{◌≡◌, ℕ, suc, ◌+◌, ◌-◌, ◌*◌, ◌/◌, ◌%◌, ◌^◌, ◌<◌, true, false, true≢false, not, nat_eq, List, [], ◌∷◌, ◌++◌, length, replicate, Option, Some, None, option_and_then, refl, sym, ap, ◌∙◌, subst, arith, inl, inr, eq-eqb, append_assoc, append-nil, length-append, ap₂}
use Rattle.std.proofs.Math.Nat.{div-div-eq-div-mul}
use Rattle.std.proofs.lemmas.List.{length-replicate}
use Rattle.std.proofs.lemmas.List.Folds.{list_all-append}
use Rattle.std.proofs.lemmas.Bool.{and_from, eqb-true}
use Rattle.std.proofs.lemmas.Bool.Decides.{nat_tests}
use Rattle.std.proofs.lemmas.Option.{none-some}
use Rattle.std.proofs.NetLemmas.Options.{cond_some, and_then_some}
use Rattle.std.proofs.NetLemmas.Arrays.{eight_items}
use Rattle.std.specs.Char.{digit_value}
use Rattle.std.specs.Int.{w128, from_be_bytes}
use Rattle.std.specs.List.{list_all}
use Rattle.std.specs.Net.Addr.{octets_of}
use Rattle.std.specs.Net.Grammar.{IsGroupsAfter, IsGroups, IsElided, IsColonHex}
use Rattle.addr4.specs.Texts.{groups_of, groups_in, around, from_groups, if_eight, filled, addr6_from, addr6_of}
use Rattle.addr6.proofs.GroupLemmas.{undotted, groups_pass, groups_told, groups_back, onto_none, onto_some, groups_before, without, around_back}

abbrev pub NoDot : List ℕ → Type 0
NoDot text = list_all (λ b. not (nat_eq b 46)) text ≡ true

-- ---- what std reads
eight_told : (groups : List ℕ) → length groups ≡ 8 → if_eight groups ≡ Some (from_groups groups)
eight_told groups eight = rw (eq-eqb (length groups) 8 eight) refl

pub full_told : (text groups : List ℕ) → IsGroups false text groups → length groups ≡ 8 → addr6_of text ≡ Some (from_groups groups)
unfolding addr6_of
full_told text groups is eight =
    let none : around text ≡ None = ap around (sym (append-nil text)) ∙ groups_before text [] groups is ∙ onto_none text in
    ap (addr6_from text) none ∙ ap (option_and_then if_eight) (groups_told text groups is) ∙ eight_told groups eight

zeros_for : (front back : ℕ) → front + back < 8 → 8 - front - back ≡ suc (7 - front - back)
zeros_for front back room = omega arith

eight_whole : (front back : List ℕ) (zeros : ℕ) → length (front ++ replicate zeros 0 ++ back) ≡ length front + zeros + length back
eight_whole front back zeros = omega (arith, length-append (front ++ replicate zeros 0) back, length-append front (replicate zeros 0), length-replicate {A = ℕ} zeros 0)

eight_filled : (text groups : List ℕ) → IsElided text groups → length groups ≡ 8
eight_filled text groups h = omega (arith, ap length h.value, eight_whole h.head h.tail (8 - length h.head - length h.tail), h.room)

pub eight_groups : (text groups : List ℕ) → IsColonHex text groups → length groups ≡ 8
eight_groups text groups (inl h) = h.1
eight_groups text groups (inr h) = eight_filled text groups h

elided_told : (text groups : List ℕ) → NoDot text → IsElided text groups → addr6_of text ≡ Some (from_groups groups)
unfolding addr6_of
elided_told text groups plain h =
    let split : text ≡ h.head_text ++ (58 ∷ 58 ∷ h.tail_text) = h.spelled ∙ append_assoc h.head_text (58 ∷ 58 ∷ []) h.tail_text in
    let sides : around text ≡ Some (h.head_text, h.tail_text) =
    ap around split ∙ groups_before h.head_text (58 ∷ 58 ∷ h.tail_text) h.head h.head_groups ∙ onto_some h.head_text [] h.tail_text ∙ ap (λ f. Some (f, h.tail_text)) (append-nil h.head_text) in
    let tail = undotted true [] h.tail_text h.tail (without 46 (h.head_text ++ 58 ∷ 58 ∷ []) h.tail_text (subst NoDot h.spelled plain)).1 h.tail_groups in
    let whole : groups ≡ h.head ++ 0 ∷ replicate (7 - length h.head - length h.tail) 0 ++ h.tail = h.value ∙ ap (λ n. h.head ++ replicate n 0 ++ h.tail) (zeros_for (length h.head) (length h.tail) h.room) in
    ap (addr6_from text) sides ∙ ap₂ filled (groups_told h.head_text h.head h.head_groups) (groups_told h.tail_text h.tail tail)
    ∙ ap if_eight (sym whole) ∙ eight_told groups (eight_filled text groups h)

pub told : (text groups : List ℕ) → NoDot text → IsColonHex text groups → addr6_of text ≡ Some (from_groups groups)
told text groups plain (inl h) = full_told text groups (undotted true [] text groups plain h.0) h.1
told text groups plain (inr h) = elided_told text groups plain h

-- ---- what is read is what std reads
abbrev Spelled : List ℕ → Type 0
Spelled text = (groups : List ℕ) × NoDot text × IsColonHex text groups

no_dot : (c : ℕ) → digit_value c < 16 → not (nat_eq c 46) ≡ true
no_dot c h = grind (arith, nat_tests)

dotless : (text groups : List ℕ) → IsGroups false text groups → NoDot text
dotless text groups h = groups_pass (λ b. not (nat_eq b 46)) no_dot refl [] text groups refl h

any_end : (lead text groups : List ℕ) → IsGroupsAfter false lead text groups → IsGroupsAfter true lead text groups
any_end lead text [] h = h
any_end lead text (g ∷ groups) (inl h) = inl (h.0, h.1, h.2, h.3, any_end (58 ∷ []) h.1 groups h.4)
any_end lead text (g ∷ groups) (inr h) = absurd (true≢false (sym h.2))

full_back : (text groups : List ℕ) (n : ℕ) → groups_in text ≡ Some groups → if_eight groups ≡ Some n → Spelled text
full_back text groups n found is =
    let (eight, value) = cond_some (nat_eq (length groups) 8) (from_groups groups) n is in
    let inside = groups_back text groups found in
    (groups, dotless text groups inside, inl (any_end [] text groups inside, eqb-true (length groups) 8 eight))

elided_back : (text head_text tail_text head tail : List ℕ) (n : ℕ) → around text ≡ Some (head_text, tail_text) → groups_in head_text ≡ Some head → groups_in tail_text ≡ Some tail
    → filled (Some head) (Some tail) ≡ Some n → Spelled text
elided_back text head_text tail_text head tail n sides is_head is_tail is =
    let groups = head ++ 0 ∷ replicate (7 - length head - length tail) 0 ++ tail in
    let (eight, value) = cond_some (nat_eq (length groups) 8) (from_groups groups) n is in
    let long = eight_whole head tail (suc (7 - length head - length tail)) in
    let room : length head + length tail < 8 = omega (arith, long, eqb-true (length groups) 8 eight) in
    let front = groups_back head_text head is_head in
    let back = groups_back tail_text tail is_tail in
    let split = around_back text head_text tail_text sides in
    let plain : NoDot (head_text ++ (58 ∷ 58 ∷ []) ++ tail_text) =
    list_all-append (λ b. not (nat_eq b 46)) (head_text ++ 58 ∷ 58 ∷ []) tail_text
    ∙ and_from _ _ (list_all-append (λ b. not (nat_eq b 46)) head_text (58 ∷ 58 ∷ []) ∙ and_from _ _ (dotless head_text head front) refl) (dotless tail_text tail back) in (
      groups,
      subst NoDot (sym split) plain,
      inr (record {
        head_text = head_text;
        tail_text = tail_text;
        head = head;
        tail = tail;
        spelled = split;
        head_groups = front;
        tail_groups = any_end [] tail_text tail back;
        room = room;
        value = ap (λ k. head ++ replicate k 0 ++ tail) (sym (zeros_for (length head) (length tail) room));
      }),
    )

filled_back : (text head_text tail_text : List ℕ) (n : ℕ) (front back : Option (List ℕ)) → around text ≡ Some (head_text, tail_text) → groups_in head_text ≡ front → groups_in tail_text ≡ back → filled front back ≡ Some n → Spelled text
filled_back text head_text tail_text n None back sides is_head is_tail is = absurd (none-some n is)
filled_back text head_text tail_text n (Some head) None sides is_head is_tail is = absurd (none-some n is)
filled_back text head_text tail_text n (Some head) (Some tail) sides is_head is_tail is = elided_back text head_text tail_text head tail n sides is_head is_tail is

sides_back : (text : List ℕ) (n : ℕ) (sides : Option (List ℕ × List ℕ)) → around text ≡ sides → addr6_from text sides ≡ Some n → Spelled text
sides_back text n None e h = and_then_some if_eight (groups_in text) n h λ groups found is. full_back text groups n found is
sides_back text n (Some sides) e h = filled_back text sides.0 sides.1 n (groups_in sides.0) (groups_in sides.1) e refl refl h

pub spelled : (text : List ℕ) (n : ℕ) → addr6_of text ≡ Some n → Spelled text
unfolding addr6_of
spelled text n h = sides_back text n (around text) refl h

-- ---- eight groups as a number
eight_bits : (a b c d e f g h : ℕ) → from_be_bytes w128 (octets_of (a ∷ b ∷ c ∷ d ∷ e ∷ f ∷ g ∷ h ∷ [])) ≡ from_groups (a ∷ b ∷ c ∷ d ∷ e ∷ f ∷ g ∷ h ∷ [])
eight_bits a b c d e f g h = omega arith

pub bits_same : (groups : List ℕ) → length groups ≡ 8 → from_be_bytes w128 (octets_of groups) ≡ from_groups groups
bits_same groups eight = subst (λ gs. from_be_bytes w128 (octets_of gs) ≡ from_groups gs) (sym (eight_items groups eight)) (eight_bits _ _ _ _ _ _ _ _)

group_and_rest : (n p : ℕ) → n / p ≡ n / p % 65536 + n / (p * 65536) * 65536
group_and_rest n p = omega (arith, div-div-eq-div-mul n p 65536)

joined : (a b c d e f g h n p q r s t u v : ℕ) → n ≡ a + p * 65536 → p ≡ b + q * 65536 → q ≡ c + r * 65536 → r ≡ d + s * 65536
    → s ≡ e + t * 65536 → t ≡ f + u * 65536 → u ≡ g + v * 65536 → v ≡ h
    → from_groups (h ∷ g ∷ f ∷ e ∷ d ∷ c ∷ b ∷ a ∷ []) ≡ n
joined a b c d e f g h n p q r s t u v at_0 at_1 at_2 at_3 at_4 at_5 at_6 at_7 = omega arith

pub value_back : (a : ℕ) → a < 2 ^ 128 → from_groups (groups_of a) ≡ a
value_back a fits =
    let low : a ≡ a % 65536 + a / 65536 * 65536 = omega arith in
    let high : a / 2 ^ 112 ≡ a / 2 ^ 112 % 65536 = omega arith in
    joined _ _ _ _ _ _ _ _ a _ _ _ _ _ _ _ low (group_and_rest a (2 ^ 16)) (group_and_rest a (2 ^ 32)) (group_and_rest a (2 ^ 48)) (group_and_rest a (2 ^ 64)) (group_and_rest a (2 ^ 80)) (group_and_rest a (2 ^ 96)) high
