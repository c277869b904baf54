use Rattle.std.proofs.Common.{◌≡◌, ◌∷◌, option_map, length}
use Rattle.addr4.specs.Texts.{parts_after, parts}
use Rattle.policy_rules.specs.Words.{words_among}
use Rattle.policy_rules.proofs.words.first_word.Given as goal

abbrev pub invariant-loop-word : goal.invariant-loop-word
invariant-loop-word l = words_among (parts 32 l.fn.text) ≡ words_among (l.word ∷ parts_after 32 (option_map (λ r. r.now) l.rest))

abbrev pub decreases-loop-word : goal.decreases-loop-word
decreases-loop-word l = length (parts_after 32 (option_map (λ r. r.now) l.rest))
