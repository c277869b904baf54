-- What is behind a prefix, and rules in front of others.
use Rattle.std.proofs.Common.{◌≡◌, ℕ, Bool, List, [], ◌∷◌, ◌++◌, Option, Some, None, ap, refl, sym, ◌∙◌}
use Rattle.std.proofs.lemmas.List.{append-nil, append_assoc}
use Rattle.policy_rules.specs.Rules.{Rule}
use Rattle.policy_rules.specs.Rules.{Condition}
use Rattle.policy_rules.specs.Words.{◌>>=◌, within_of}
use Rattle.policy_rules.specs.Grammar.{rules_of, behind, behind_prefix, in_front, all_in_front}

pub five_words :
    (v6 as4 : Bool) (p ge n le m : List ℕ) (c : Condition) (ws ws1 ws2 ws3 ws4 : List (List ℕ)) →
    ws ≡ ge ∷ ws1 → ws1 ≡ n ∷ ws2 → ws2 ≡ le ∷ ws3 → ws3 ≡ m ∷ ws4 →
    within_of v6 p ge n le m ≡ Some c → behind_prefix v6 as4 p ws ≡ behind v6 as4 c [] ws4
unfolding rules_of
five_words v6 as4 p ge n le m c ws ws1 ws2 ws3 ws4 e1 e2 e3 e4 found =
    ap (behind_prefix v6 as4 p) (e1 ∙ ap (λ x. ge ∷ x) (e2 ∙ ap (λ x. n ∷ x) (e3 ∙ ap (λ x. le ∷ x) e4)))
    ∙ ap (λ o. o >>= λ c. behind v6 as4 c [] ws4) found

-- ---- rules in front of others
pub none_in_front : (o : Option (List Rule)) → o ≡ all_in_front [] o
none_in_front None = refl
none_in_front (Some rs) = refl

pub one_more_in_front :
    (front : List Rule) (rule : Rule) (o : Option (List Rule)) →
    all_in_front front (in_front rule o) ≡ all_in_front (front ++ rule ∷ []) o
one_more_in_front front rule None = refl
one_more_in_front front rule (Some rs) = ap Some (sym (append_assoc front (rule ∷ []) rs))

pub all_in_front_of_none : (rules : List Rule) → all_in_front rules (Some []) ≡ Some rules
all_in_front_of_none rules = ap Some (append-nil rules)
