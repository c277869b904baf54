-- The grammar of filter rules, over the words of a text: of those of the network of a family, with AS numbers of two octets or four.
use Rattle.std.specs.Prelude.{ℕ, Bool, if◌then◌else◌, List, [], ◌∷◌, ◌++◌, Option, Some, None, option_map, codes}
use Rattle.std.specs.Str.{bytes_eq}
use Rattle.addr4.specs.Texts.{number_below}
use Rattle.policy_rules.specs.Rules.{Condition}
use Rattle.policy_rules.specs.declared.rule.Condition.TheVariants.{Any, Path, Origin}
use Rattle.policy_rules.specs.declared.rule.Action.{Action}
use Rattle.policy_rules.specs.declared.rule.Action.TheVariants.{NoMed}
use Rattle.policy_rules.specs.declared.rule.Verdict.{Verdict}
use Rattle.policy_rules.specs.Rules.{Rule}
use Rattle.bgp_attr.specs.Speakers.{asn_bound}
use Rattle.policy_rules.specs.Words.{◌>>=◌, origin_of, within_of, setting_of, verdict_of}

-- a rule in front of those that follow it, if they are rules
abbrev pub in_front : Rule → Option (List Rule) → Option (List Rule)
in_front rule rules = option_map (λ rs. rule ∷ rs) rules

-- rules in front of those that follow them, if they are rules
abbrev pub all_in_front : List Rule → Option (List Rule) → Option (List Rule)
all_in_front front rules = option_map (λ rs. front ++ rs) rules

-- what a verdict ends in, or else
abbrev pub at_verdict : Option Verdict → (Verdict → Option (List Rule)) → Option (List Rule) → Option (List Rule)
at_verdict (Some v) ended otherwise = ended v
at_verdict None ended otherwise = otherwise

unfoldable mutual
  -- a list of rules: each is a condition, actions and a verdict
  pub rules_of : Bool → Bool → List (List ℕ) → Option (List Rule)
  rules_of v6 as4 [] = Some []
  rules_of v6 as4 (w ∷ ws) =
      if bytes_eq w (codes "any") then behind v6 as4 Any [] ws
      else if bytes_eq w (codes "path") then behind_path v6 as4 ws
      else if bytes_eq w (codes "origin") then behind_origin v6 as4 ws
      else behind_prefix v6 as4 w ws

  -- behind the word `path`
  pub behind_path : Bool → Bool → List (List ℕ) → Option (List Rule)
  behind_path v6 as4 [] = None
  behind_path v6 as4 (n ∷ ws) = number_below (asn_bound as4) n >>= λ asn. behind v6 as4 (Path asn) [] ws

  -- behind the word `origin`
  pub behind_origin : Bool → Bool → List (List ℕ) → Option (List Rule)
  behind_origin v6 as4 [] = None
  behind_origin v6 as4 (n ∷ ws) = origin_of n >>= λ o. behind v6 as4 (Origin o) [] ws

  -- behind a prefix
  pub behind_prefix : Bool → Bool → List ℕ → List (List ℕ) → Option (List Rule)
  behind_prefix v6 as4 p (ge ∷ n ∷ le ∷ m ∷ ws) = within_of v6 p ge n le m >>= λ c. behind v6 as4 c [] ws
  behind_prefix v6 as4 p other = None

  -- behind a rule's condition and some of its actions
  pub behind : Bool → Bool → Condition → List Action → List (List ℕ) → Option (List Rule)
  behind v6 as4 c actions [] = None
  behind v6 as4 c actions (w ∷ ws) =
      at_verdict (verdict_of w)
      (λ v. in_front (record { condition = c; actions = actions; verdict = v }) (rules_of v6 as4 ws))
      (if bytes_eq w (codes "nomed") then behind v6 as4 c (actions ++ NoMed ∷ []) ws
      else behind_setting v6 as4 c actions w ws)

  -- behind the first word of an action of two words
  pub behind_setting : Bool → Bool → Condition → List Action → List ℕ → List (List ℕ) → Option (List Rule)
  behind_setting v6 as4 c actions w [] = None
  behind_setting v6 as4 c actions w (n ∷ ws) = setting_of w n >>= λ a. behind v6 as4 c (actions ++ a ∷ []) ws

-- behind some of a rule's actions and the first word of the next one
abbrev pub at_action : Bool → Bool → Condition → List Action → List ℕ → List (List ℕ) → Option (List Rule)
at_action v6 as4 c actions w ws =
    if bytes_eq w (codes "nomed") then behind v6 as4 c (actions ++ NoMed ∷ []) ws else behind_setting v6 as4 c actions w ws
