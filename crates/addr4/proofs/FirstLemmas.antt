-- The first of several parts: what its bytes are, and that it is no number.
use Rattle.std.proofs.Common.{◌≡◌, ℕ, zero, suc, ◌+◌, ◌<◌, ◌≤◌, Bool, true, false, cond, ◌&&◌, List, [], ◌∷◌, length, get_or, take, drop, Option, None, Some, nat_eq, refl, sym, ap, subst, ◌∙◌, arith, length-take, inl, inr}
use Rattle.std.proofs.lemmas.Bool.{cases_lt}
use Rattle.std.proofs.lemmas.Bool.Decides.{nat_tests}
use Rattle.std.proofs.lemmas.List.{get_or-take, take_all}
use Rattle.std.proofs.lemmas.List.Elements.{All-from_get_or, All-head, All-tail}
use Rattle.std.proofs.lemmas.List.Folds.{list_all_at}
use Rattle.std.proofs.lemmas.List.Splits.{slice_split-cons_no}
use Rattle.std.specs.Char.{is_ascii_digit}
use Rattle.std.specs.List.{All, list_all, onto_first}
use Rattle.std.specs.Str.Parse.{digits_value}
use Rattle.addr4.specs.Fronts.{is_led, AreFront, IsFirstNumber, IsNoneFirst}
use Rattle.addr4.specs.Texts.{parts, value_below, number_below, id_from_octets, id_from_parts}
use Rattle.addr4.proofs.LastLemmas.{no_number}
use Rattle.addr4.proofs.NumberLemmas.{digit_at, value_small, none_of_large}
use Rattle.addr4.proofs.PartLemmas.{parts_at, parts_alone, parts_some}

-- one byte more that is no separator
starts_more : (separator c : ℕ) (cs : List ℕ) (i : ℕ) (p : List ℕ) (ps behind : List (List ℕ)) → nat_eq c separator ≡ false → parts separator cs ≡ behind → ((q : List ℕ) (qs : List (List ℕ)) → behind ≡ q ∷ qs → take i q ≡ take i cs) → parts separator (c ∷ cs) ≡ p ∷ ps → take (suc i) p ≡ c ∷ take i cs
starts_more separator c cs i p ps [] other is starts are = absurd (omega (arith, parts_some separator cs, ap length is))
starts_more separator c cs i p ps (q ∷ qs) other is starts are =
    let whole : (c ∷ q) ∷ qs ≡ p ∷ ps = sym (slice_split-cons_no (λ b. nat_eq b separator) c cs other ∙ ap (onto_first c) is) ∙ are in
    let first : c ∷ q ≡ p = ap (λ (all : List (List ℕ)). get_or all 0 []) whole in
    ap (take (suc i)) (sym first) ∙ ap (λ r. c ∷ r) (starts q qs refl)

-- the bytes before which no separator stands are those of the first part
first_starts : (separator : ℕ) (text : List ℕ) (i : ℕ) (p : List ℕ) (ps : List (List ℕ)) → i ≤ length text → All (λ b. nat_eq b separator ≡ false) (take i text) → parts separator text ≡ p ∷ ps → take i p ≡ take i text
first_starts separator text zero p ps within apart are = refl
first_starts separator [] (suc i) p ps within apart are = absurd (omega arith)
first_starts separator (c ∷ cs) (suc i) p ps within apart are =
    let other = All-head (λ b. nat_eq b separator ≡ false) c (take i cs) apart in
    let behind = All-tail (λ b. nat_eq b separator ≡ false) c (take i cs) apart in
    starts_more separator c cs i p ps (parts separator cs) other refl (λ q qs is. first_starts separator cs i q qs (omega (arith, within)) behind is) are

led_number : (bound : ℕ) (text : List ℕ) (led : Bool) → is_led text ≡ led → None ≡ cond (list_all is_ascii_digit text) (value_below bound text) None → None ≡ number_below bound text
unfolding number_below
led_number bound text true e none = none ∙ ap (λ b. cond (b && list_all is_ascii_digit text) (value_below bound text) None) (sym e)
led_number bound text false e none = ap (λ b. cond (b && list_all is_ascii_digit text) (value_below bound text) None) (sym e)

-- a text without a right start is no number
pub not_led : (bound : ℕ) (text : List ℕ) → is_led text ≡ false → None ≡ number_below bound text
unfolding number_below
not_led bound text e = ap (λ b. cond (b && list_all is_ascii_digit text) (value_below bound text) None) (sym e)

-- digits with a right start are a number
pub led_digits : (bound value : ℕ) (text : List ℕ) → is_led text ≡ true → list_all is_ascii_digit text ≡ true → value ≡ digits_value 10 text → value < bound → number_below bound text ≡ Some value
unfolding number_below
led_digits bound value text led digits is small =
    ap (λ b. cond (b && list_all is_ascii_digit text) (value_below bound text) None) led ∙ ap (λ b. cond b (value_below bound text) None) digits
    ∙ sym (value_small bound text (omega (arith, is))) ∙ ap Some (sym is)

-- a text that goes on behind such a front is no number
pub none_longer : (bound value count : ℕ) (text : List ℕ) → AreFront bound text value count → count < length text → None ≡ number_below bound text
none_longer bound value count text front longer = by (is_ascii_digit (get_or text count 0)) refl
  where
    by : (digit : Bool) → is_ascii_digit (get_or text count 0) ≡ digit → None ≡ number_below bound text
    by true e = led_number bound text (is_led text) refl (none_of_large bound (count + 1) text (front.most longer e))
    by false e = sym (no_number bound text (list_all_at is_ascii_digit text count 0 longer e))

-- ---- the first of several parts, where the text begins with such a front
module _ (separator bound : ℕ) (text : List ℕ) (value count : ℕ) (low : separator < 48) (front : AreFront bound text value count) where
  each_apart : (k : ℕ) → k < count → nat_eq (get_or text k 0) separator ≡ false
  each_apart k below =
      let within = front.within in
      let range = digit_at (take count text) k (omega (arith, within, below, length-take count text)) front.digits in
      let same = get_or-take count text k 0 below in
      grind (arith, nat_tests)

  all_apart : (n : ℕ) → ((k : ℕ) → k < n → nat_eq (get_or text k 0) separator ≡ false) → All (λ b. nat_eq b separator ≡ false) (take n text)
  all_apart n each = All-from_get_or (λ b. nat_eq b separator ≡ false) (take n text) 0 (λ k below.
      let less : k < n = omega (arith, below, length-take n text) in
      rw (get_or-take n text k 0 less) (each k less))

  digits_apart_here : All (λ b. nat_eq b separator ≡ false) (take count text)
  digits_apart_here = all_apart count each_apart

  -- the text ends there
  pub none_whole : length text ≤ count → IsNoneFirst bound (parts separator text)
  none_whole ends p q more are =
      let apart = subst (All (λ b. nat_eq b separator ≡ false)) (take_all count text ends) digits_apart_here in
      let alone = parts_alone separator text apart in
      absurd (omega (arith, ap length (sym alone ∙ are)))

  -- another byte than the separator follows
  pub none_other : count < length text → nat_eq (get_or text count 0) separator ≡ false → IsNoneFirst bound (parts separator text)
  none_other longer other p q more are = sym (none_longer bound value count p front_of_part long)
    where
      more_apart : (k : ℕ) → k < count + 1 → nat_eq (get_or text k 0) separator ≡ false
      more_apart k below = elim (cases_lt k count) [
        | inl less ↦ each_apart k less
        | inr above ↦ let last : count ≡ k = omega (arith, below, above) in subst (λ n. nat_eq (get_or text n 0) separator ≡ false) last other
      ]

      starts : take (count + 1) p ≡ take (count + 1) text
      starts = first_starts separator text (count + 1) p (q ∷ more) (omega (arith, longer)) (all_apart (count + 1) more_apart) are

      begins : take count p ≡ take count text
      begins = first_starts separator text count p (q ∷ more) front.within digits_apart_here are

      long : count < length p
      long = omega (arith, longer, ap length starts, length-take (count + 1) p, length-take (count + 1) text)

      next : get_or p count 0 ≡ get_or text count 0
      next = sym (get_or-take (count + 1) p count 0 (omega arith)) ∙ ap (λ t. get_or t count 0) starts ∙ get_or-take (count + 1) text count 0 (omega arith)

      front_of_part : AreFront bound p value count
      front_of_part = record {
        within = omega (arith, long);
        digits = ap (list_all is_ascii_digit) begins ∙ front.digits;
        is = front.is ∙ ap (digits_value 10) (sym begins);
        small = front.small;
        most = λ below digit. subst (λ t. bound ≤ digits_value 10 t) (sym starts) (front.most longer (ap is_ascii_digit (sym next) ∙ digit));
      }

  -- the separator follows
  cut_here : count < length text → nat_eq (get_or text count 0) separator ≡ true → parts separator text ≡ take count text ∷ parts separator (drop (count + 1) text)
  cut_here longer here = parts_at separator text count longer digits_apart_here here

  pub none_led : count < length text → nat_eq (get_or text count 0) separator ≡ true → is_led (take count text) ≡ false → IsNoneFirst bound (parts separator text)
  none_led longer here wrong p q more are =
      let first : take count text ≡ p = ap (λ (all : List (List ℕ)). get_or all 0 []) (sym (cut_here longer here) ∙ are) in
      ap (number_below bound) (sym first) ∙ sym (not_led bound (take count text) wrong)

  pub some_first : count < length text → nat_eq (get_or text count 0) separator ≡ true → is_led (take count text) ≡ true → 0 < count → IsFirstNumber bound (parts separator text) value (parts separator (drop (count + 1) text))
  some_first longer here right some = record {
    first = take count text;
    are = cut_here longer here;
    is = led_digits bound value (take count text) right front.digits front.is (front.small some);
  }

-- a right start has a byte
pub led_some : (text : List ℕ) → is_led text ≡ true → 0 < length text
led_some [] e = absurd (cc)
led_some (c ∷ cs) e = omega arith

-- ---- four octets
no_second : (a : Option ℕ) (c d : Option ℕ) → id_from_octets a None c d ≡ None
no_second None c d = refl
no_second (Some a) c d = refl

no_third : (a b : Option ℕ) (d : Option ℕ) → id_from_octets a b None d ≡ None
no_third None b d = refl
no_third (Some a) None d = refl
no_third (Some a) (Some b) d = refl

pub none_at_first : (all : List (List ℕ)) → IsNoneFirst 256 all → None ≡ id_from_parts all
none_at_first [] none = refl
none_at_first (p ∷ []) none = refl
none_at_first (p ∷ q ∷ []) none = refl
none_at_first (p ∷ q ∷ r ∷ []) none = refl
none_at_first (p ∷ q ∷ r ∷ s ∷ []) none = sym (ap (λ o. id_from_octets o (number_below 256 q) (number_below 256 r) (number_below 256 s)) (none p q (r ∷ s ∷ []) refl))
none_at_first (p ∷ q ∷ r ∷ s ∷ t ∷ more) none = refl

pub none_at_second : (a : List ℕ) (all : List (List ℕ)) → IsNoneFirst 256 all → None ≡ id_from_parts (a ∷ all)
none_at_second a [] none = refl
none_at_second a (p ∷ []) none = refl
none_at_second a (p ∷ q ∷ []) none = refl
none_at_second a (p ∷ q ∷ r ∷ []) none =
    sym (ap (λ o. id_from_octets (number_below 256 a) o (number_below 256 q) (number_below 256 r)) (none p q (r ∷ []) refl) ∙ no_second (number_below 256 a) (number_below 256 q) (number_below 256 r))
none_at_second a (p ∷ q ∷ r ∷ s ∷ more) none = refl

pub none_at_third : (a b : List ℕ) (all : List (List ℕ)) → IsNoneFirst 256 all → None ≡ id_from_parts (a ∷ b ∷ all)
none_at_third a b [] none = refl
none_at_third a b (p ∷ []) none = refl
none_at_third a b (p ∷ q ∷ []) none =
    sym (ap (λ o. id_from_octets (number_below 256 a) (number_below 256 b) o (number_below 256 q)) (none p q [] refl) ∙ no_third (number_below 256 a) (number_below 256 b) (number_below 256 q))
none_at_third a b (p ∷ q ∷ r ∷ more) none = refl
