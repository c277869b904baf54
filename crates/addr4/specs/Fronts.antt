-- What reading looks at first: the digits that a text begins with, and the first of several parts.
use Rattle.std.specs.Prelude.{◌≡◌, ℕ, ◌+◌, ◌<◌, ◌≤◌, Bool, true, not, ◌&&◌, ◌||◌, ◌==◌, length, take, get_or, slice_index, List, ◌∷◌, Some, None}
use Rattle.std.specs.Char.{is_ascii_digit}
use Rattle.std.specs.List.{list_all}
use Rattle.std.specs.Str.Parse.{digits_value}
use Rattle.addr4.specs.Texts.{number_below}

-- some bytes, the first of them `0` only where it is alone
abbrev pub is_led : List ℕ → Bool
is_led text = not (length text == 0) && (length text == 1 || not (slice_index text 0 == 48))

-- the first bytes of the text are digits with this value, which is below the bound; behind them the text ends, or a byte follows that is no digit, or one with which the value isn't below the bound
pub record AreFront (bound : ℕ) (text : List ℕ) (value count : ℕ) : Type 0 where
  pub within : count ≤ length text
  pub digits : list_all is_ascii_digit (take count text) ≡ true
  pub is : value ≡ digits_value 10 (take count text)
  pub small : 0 < count → value < bound
  pub most : count < length text → is_ascii_digit (get_or text count 0) ≡ true → bound ≤ digits_value 10 (take (count + 1) text)

-- the first part is this number, and the others follow
pub record IsFirstNumber (bound : ℕ) (all : List (List ℕ)) (number : ℕ) (others : List (List ℕ)) : Type 0 where
  pub first : List ℕ
  pub are : all ≡ first ∷ others
  pub is : number_below bound first ≡ Some number

-- there are not two parts, or the first one is no number
abbrev pub IsNoneFirst : ℕ → List (List ℕ) → Type 0
IsNoneFirst bound all = (p q : List ℕ) (more : List (List ℕ)) → all ≡ p ∷ q ∷ more → number_below bound p ≡ None
