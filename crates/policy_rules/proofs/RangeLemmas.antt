-- What was read is in range.
use Rattle.std.proofs.Common.{◌≡◌, ℕ, suc, ◌^◌, ◌<◌, ◌≤◌, ◌&&◌, Bool, true, false, List, [], ◌∷◌, ◌++◌, Option, Some, None, option_map, cond, nat_lt, All, IfSome, codes, refl, sym, ap, subst, ◌∙◌, arith}
use Rattle.std.proofs.lemmas.Bool.Decides.{nat_tests}
use Rattle.std.proofs.lemmas.List.Elements.{All-nil, All-cons, All-push}
use Rattle.std.specs.Str.{bytes_eq}
use Rattle.std.specs.Str.Parse.{digits_value}
use Rattle.addr4.specs.Blocks.{width, size_of_length}
use Rattle.addr4.specs.Families.{in_front as address_of, bits_of, IsIpv4, IsAddress, IsPrefixOf}
use Rattle.addr4.proofs.FrontLemmas.{front_zeros}
use Rattle.addr4.specs.Texts.{is_numeral, value_below, number_below, number_of, addr_of, id_of, id_from_parts, id_from_octets, address_prefix_of, prefix_from_parts, prefix_of, parts}
use Rattle.addr4.proofs.BlockLemmas.{masked_down, size_pos}
use Rattle.bgp_attr.specs.declared.attrs.Origin as origin
use Rattle.policy_rules.specs.Rules.{Condition}
use Rattle.policy_rules.specs.declared.rule.Condition.TheVariants.{Any, Path, Origin}
use Rattle.policy_rules.specs.declared.rule.Action.{Action}
use Rattle.policy_rules.specs.declared.rule.Action.TheVariants.{NoMed}
use Rattle.policy_rules.specs.declared.rule.Verdict.{Verdict}
use Rattle.policy_rules.specs.Rules.{Rule}
use Rattle.bgp_attr.specs.Speakers.{asn_bound}
use Rattle.policy_rules.specs.Words.{◌>>=◌, origin_of, within_of, setting_of, verdict_of}
use Rattle.policy_rules.specs.Grammar.{in_front, all_in_front, at_verdict, rules_of, behind_path, behind_origin, behind_prefix, behind, behind_setting}
use Rattle.policy_rules.specs.Ranges.{IsCondition, IsAction, IsRule, AreRules}
use Rattle.policy_rules.proofs.GrammarLemmas.{all_in_front_of_none}
use Rattle.policy_rules.proofs.GroupRanges.{addr6_fits}

-- ---- steps that may fail
pub and_then : {A B : Type 0} (o : Option A) (f : A → Option B) (P : A → Type 0) (Q : B → Type 0) → IfSome o P → ((x : A) → P x → IfSome (f x) Q) → IfSome (o >>= f) Q
and_then None f P Q h then = tt
and_then (Some x) f P Q h then = then x h

pub either : {A : Type 0} (b : Bool) (x y : Option A) (P : A → Type 0) → IfSome x P → IfSome y P → IfSome (cond b x y) P
either true x y P hx hy = hx
either false x y P hx hy = hy

-- ---- words
value_fits : (bound : ℕ) (text : List ℕ) (b : Bool) → nat_lt (digits_value 10 text) bound ≡ b
    → IfSome (cond b (Some (digits_value 10 text)) None) (λ n. n < bound)
value_fits bound text true e = grind (arith, nat_tests)
value_fits bound text false e = tt

pub below : (bound : ℕ) (text : List ℕ) → IfSome (number_below bound text) (λ n. n < bound)
unfolding number_below
below bound text =
    either (is_numeral text) (value_below bound text) None (λ n. n < bound)
    (value_fits bound text (nat_lt (digits_value 10 text) bound) refl) tt

four_fit : (a b c d : Option ℕ) → IfSome a (λ n. n < 256) → IfSome b (λ n. n < 256) → IfSome c (λ n. n < 256) → IfSome d (λ n. n < 256) → IfSome (id_from_octets a b c d) (λ n. n < 2 ^ 32)
four_fit None b c d ha hb hc hd = tt
four_fit (Some a) None c d ha hb hc hd = tt
four_fit (Some a) (Some b) None d ha hb hc hd = tt
four_fit (Some a) (Some b) (Some c) None ha hb hc hd = tt
four_fit (Some a) (Some b) (Some c) (Some d) ha hb hc hd = omega arith

parts_fit : (ps : List (List ℕ)) → IfSome (id_from_parts ps) (λ n. n < 2 ^ 32)
parts_fit [] = tt
parts_fit (a ∷ []) = tt
parts_fit (a ∷ b ∷ []) = tt
parts_fit (a ∷ b ∷ c ∷ []) = tt
parts_fit (a ∷ b ∷ c ∷ d ∷ []) = four_fit (number_below 256 a) (number_below 256 b) (number_below 256 c) (number_below 256 d) (below 256 a) (below 256 b) (below 256 c) (below 256 d)
parts_fit (a ∷ b ∷ c ∷ d ∷ e ∷ more) = tt

pub id_fits : (text : List ℕ) → IfSome (id_of text) (λ n. n < 2 ^ 32)
unfolding id_of
id_fits text = parts_fit (parts 46 text)

in_front_fits : (o : Option ℕ) → IfSome o (λ n. n < 2 ^ 32) → IfSome (option_map address_of o) IsIpv4
in_front_fits None h = tt
in_front_fits (Some n) h = (omega (arith, h), front_zeros n)

pub addr_fits : (v6 : Bool) (text : List ℕ) → IfSome (addr_of v6 text) (IsAddress v6)
addr_fits false text = in_front_fits (id_of text) (id_fits text)
addr_fits true text = addr6_fits text

-- an address of either family has no more than 128 bits
address_fits : (v6 : Bool) (a : ℕ) → IsAddress v6 a → a < 2 ^ 128
address_fits false a h = h.0
address_fits true a h = h

most_bits : (v6 : Bool) → bits_of v6 ≤ 128
most_bits false = omega arith
most_bits true = omega arith

address_prefix_ok : (v6 : Bool) (a l : Option ℕ) → IfSome a (IsAddress v6) → IfSome l (λ n. n < suc (bits_of v6)) → IfSome (address_prefix_of a l) (IsPrefixOf v6)
address_prefix_ok v6 None l ha hl = tt
address_prefix_ok v6 (Some a) None ha hl = tt
address_prefix_ok v6 (Some a) (Some l) ha hl =
    record { masked = (omega (arith, hl, most_bits v6), masked_down a (size_of_length width l) (size_pos width l)); fits = omega (arith, address_fits v6 a ha); short = omega (arith, hl) }

prefix_parts_ok : (v6 : Bool) (ps : List (List ℕ)) → IfSome (prefix_from_parts v6 ps) (IsPrefixOf v6)
prefix_parts_ok v6 [] = tt
prefix_parts_ok v6 (a ∷ []) = tt
prefix_parts_ok v6 (a ∷ l ∷ []) = address_prefix_ok v6 (addr_of v6 a) (number_below (suc (bits_of v6)) l) (addr_fits v6 a) (below (suc (bits_of v6)) l)
prefix_parts_ok v6 (a ∷ l ∷ x ∷ more) = tt

pub prefix_ok : (v6 : Bool) (text : List ℕ) → IfSome (prefix_of v6 text) (IsPrefixOf v6)
unfolding prefix_of
prefix_ok v6 text = prefix_parts_ok v6 (parts 47 text)

within_ok : (v6 as4 : Bool) (prefix ge least le most : List ℕ) → IfSome (within_of v6 prefix ge least le most) (IsCondition v6 as4)
unfolding within_of
within_ok v6 as4 prefix ge least le most =
    let bound = suc (bits_of v6) in
    either (bytes_eq ge (codes "ge") && bytes_eq le (codes "le")) _ None (IsCondition v6 as4)
    (and_then (prefix_of v6 prefix) _ (IsPrefixOf v6) (IsCondition v6 as4) (prefix_ok v6 prefix) (λ q hq.
    and_then (number_below bound least) _ (λ n. n < bound) (IsCondition v6 as4) (below bound least) (λ n hn.
    and_then (number_below bound most) _ (λ n. n < bound) (IsCondition v6 as4) (below bound most) (λ m hm. (hq, omega (arith, hn), omega (arith, hm)))))) tt

setting_ok : (w number : List ℕ) → IfSome (setting_of w number) IsAction
unfolding setting_of
setting_ok w number =
    either (bytes_eq w (codes "pref")) _ _ IsAction (and_then (number_of number) _ (λ n. n < 2 ^ 32) IsAction (below (2 ^ 32) number) (λ n h. h))
    (either (bytes_eq w (codes "med")) _ _ IsAction (and_then (number_of number) _ (λ n. n < 2 ^ 32) IsAction (below (2 ^ 32) number) (λ n h. h))
    (either (bytes_eq w (codes "prepend")) _ None IsAction (and_then (number_below 17 number) _ (λ n. n < 17) IsAction (below 17 number) (λ n h. omega arith)) tt))

any_origin : (o : Option origin.Origin) → IfSome o (λ _. Unit {0})
any_origin None = tt
any_origin (Some o) = tt

-- ---- rules
front_ok : (v6 as4 : Bool) (rule : Rule) (o : Option (List Rule)) → IsRule v6 as4 rule → IfSome o (AreRules v6 as4) → IfSome (in_front rule o) (AreRules v6 as4)
front_ok v6 as4 rule None h more = tt
front_ok v6 as4 rule (Some rules) h more = All-cons (IsRule v6 as4) rule rules h more

verdict_ok : (v6 as4 : Bool) (o : Option Verdict) (ended : Verdict → Option (List Rule)) (otherwise : Option (List Rule))
    → ((v : Verdict) → IfSome (ended v) (AreRules v6 as4)) → IfSome otherwise (AreRules v6 as4) → IfSome (at_verdict o ended otherwise) (AreRules v6 as4)
verdict_ok v6 as4 None ended otherwise h more = more
verdict_ok v6 as4 (Some v) ended otherwise h more = h v

mutual
  unfolding rules_of

  pub rules_ok : (v6 as4 : Bool) (ws : List (List ℕ)) → IfSome (rules_of v6 as4 ws) (AreRules v6 as4)
  rules_ok v6 as4 [] = All-nil (IsRule v6 as4)
  rules_ok v6 as4 (w ∷ ws) =
      either (bytes_eq w (codes "any")) _ _ (AreRules v6 as4) (behind_ok v6 as4 Any [] ws tt (All-nil IsAction))
      (either (bytes_eq w (codes "path")) _ _ (AreRules v6 as4) (path_ok v6 as4 ws)
      (either (bytes_eq w (codes "origin")) _ _ (AreRules v6 as4) (origin_ok v6 as4 ws) (within_prefix_ok v6 as4 w ws)))

  path_ok : (v6 as4 : Bool) (ws : List (List ℕ)) → IfSome (behind_path v6 as4 ws) (AreRules v6 as4)
  path_ok v6 as4 [] = tt
  path_ok v6 as4 (n ∷ ws) =
      and_then (number_below (asn_bound as4) n) _ (λ asn. asn < asn_bound as4) (AreRules v6 as4) (below (asn_bound as4) n)
      (λ asn h. behind_ok v6 as4 (Path asn) [] ws h (All-nil IsAction))

  origin_ok : (v6 as4 : Bool) (ws : List (List ℕ)) → IfSome (behind_origin v6 as4 ws) (AreRules v6 as4)
  origin_ok v6 as4 [] = tt
  origin_ok v6 as4 (n ∷ ws) =
      and_then (origin_of n) _ (λ _. Unit {0}) (AreRules v6 as4) (any_origin (origin_of n))
      (λ o h. behind_ok v6 as4 (Origin o) [] ws tt (All-nil IsAction))

  within_prefix_ok : (v6 as4 : Bool) (p : List ℕ) (ws : List (List ℕ)) → IfSome (behind_prefix v6 as4 p ws) (AreRules v6 as4)
  within_prefix_ok v6 as4 p [] = tt
  within_prefix_ok v6 as4 p (ge ∷ []) = tt
  within_prefix_ok v6 as4 p (ge ∷ n ∷ []) = tt
  within_prefix_ok v6 as4 p (ge ∷ n ∷ le ∷ []) = tt
  within_prefix_ok v6 as4 p (ge ∷ n ∷ le ∷ m ∷ ws) =
      and_then (within_of v6 p ge n le m) _ (IsCondition v6 as4) (AreRules v6 as4) (within_ok v6 as4 p ge n le m)
      (λ c h. behind_ok v6 as4 c [] ws h (All-nil IsAction))

  behind_ok : (v6 as4 : Bool) (c : Condition) (actions : List Action) (ws : List (List ℕ)) → IsCondition v6 as4 c → All IsAction actions
      → IfSome (behind v6 as4 c actions ws) (AreRules v6 as4)
  behind_ok v6 as4 c actions [] hc ha = tt
  behind_ok v6 as4 c actions (w ∷ ws) hc ha =
      verdict_ok v6 as4 (verdict_of w) _ _
      (λ v. front_ok v6 as4 (record { condition = c; actions = actions; verdict = v }) (rules_of v6 as4 ws) (record { condition = hc; actions = ha }) (rules_ok v6 as4 ws))
      (either (bytes_eq w (codes "nomed")) _ _ (AreRules v6 as4)
      (behind_ok v6 as4 c (actions ++ NoMed ∷ []) ws hc (All-push IsAction actions NoMed ha tt)) (setting_behind_ok v6 as4 c actions w ws hc ha))

  setting_behind_ok : (v6 as4 : Bool) (c : Condition) (actions : List Action) (w : List ℕ) (ws : List (List ℕ)) → IsCondition v6 as4 c → All IsAction actions
      → IfSome (behind_setting v6 as4 c actions w ws) (AreRules v6 as4)
  setting_behind_ok v6 as4 c actions w [] hc ha = tt
  setting_behind_ok v6 as4 c actions w (n ∷ ws) hc ha =
      and_then (setting_of w n) _ IsAction (AreRules v6 as4) (setting_ok w n)
      (λ a h. behind_ok v6 as4 c (actions ++ a ∷ []) ws hc (All-push IsAction actions a ha h))

-- the rules that were read, where no word is left
pub read_ok : (v6 as4 : Bool) (ws rest : List (List ℕ)) (rules read : List Rule) → rules_of v6 as4 ws ≡ all_in_front rules (rules_of v6 as4 rest)
    → rest ≡ [] → read ≡ rules → AreRules v6 as4 read
unfolding rules_of
read_ok v6 as4 ws rest rules read e none same =
    let all : rules_of v6 as4 ws ≡ Some read =
    e ∙ ap (λ x. all_in_front rules (rules_of v6 as4 x)) none ∙ all_in_front_of_none rules ∙ ap Some (sym same) in
    subst (λ o. IfSome o (AreRules v6 as4)) all (rules_ok v6 as4 ws)
