-- The words of a text, and what single words say.
use Rattle.std.specs.Prelude.{ℕ, suc, Bool, not, ◌&&◌, if◌then◌else◌, List, length, ◌==◌, Option, Some, None, codes}
use Rattle.std.specs.Str.{bytes_eq}
use Rattle.std.specs.List.{filter}
use Rattle.addr4.specs.Families.{bits_of}
use Rattle.addr4.specs.Texts.{number_of, number_below, prefix_of, parts}
use Rattle.bgp_attr.specs.declared.attrs.Origin as origin
use Rattle.bgp_attr.specs.declared.attrs.Origin.TheVariants.{Igp, Egp, Incomplete}
use Rattle.policy_rules.specs.Rules.{Condition}
use Rattle.policy_rules.specs.declared.rule.Condition.TheVariants.{Within}
use Rattle.policy_rules.specs.declared.rule.Action.{Action}
use Rattle.policy_rules.specs.declared.rule.Action.TheVariants.{Pref, Med, Prepend}
use Rattle.policy_rules.specs.declared.rule.Verdict.{Verdict}
use Rattle.policy_rules.specs.declared.rule.Verdict.TheVariants.{Accept, Reject, Next}

infixl 10 ◌>>=◌
abbrev pub ◌>>=◌ : {A B : Type 0} → Option A → (A → Option B) → Option B
(Some x) >>= f = f x
None >>= f = None

abbrev pub is_word : List ℕ → Bool
is_word part = not (length part == 0)

-- the words among parts
abbrev pub words_among : List (List ℕ) → List (List ℕ)
words_among pieces = filter is_word pieces

-- what stands between spaces
unfoldable pub words : List ℕ → List (List ℕ)
words line = words_among (parts 32 line)

-- an ORIGIN by its number, 0 to 2
unfoldable pub origin_of : List ℕ → Option origin.Origin
origin_of word = do
  n ← number_below 3 word
  Some (if n == 0 then Igp else if n == 1 then Egp else Incomplete)

-- `PREFIX ge N le N`, by its five words: a prefix of the family, and lengths that its prefixes can have
unfoldable pub within_of : Bool → List ℕ → List ℕ → List ℕ → List ℕ → List ℕ → Option Condition
within_of v6 prefix ge least le most =
    if bytes_eq ge (codes "ge") && bytes_eq le (codes "le")
    then (do
      p ← prefix_of v6 prefix
      n ← number_below (suc (bits_of v6)) least
      m ← number_below (suc (bits_of v6)) most
      Some (Within p n m))
    else None

-- an action of two words
unfoldable pub setting_of : List ℕ → List ℕ → Option Action
setting_of w number =
    if bytes_eq w (codes "pref") then (number_of number >>= λ n. Some (Pref n))
    else if bytes_eq w (codes "med") then (number_of number >>= λ n. Some (Med n))
    else if bytes_eq w (codes "prepend") then (number_below 17 number >>= λ n. Some (Prepend n))
    else None

-- the verdict of a word
unfoldable pub verdict_of : List ℕ → Option Verdict
verdict_of w =
    if bytes_eq w (codes "accept") then Some Accept
    else if bytes_eq w (codes "reject") then Some Reject
    else if bytes_eq w (codes "next") then Some Next
    else None
