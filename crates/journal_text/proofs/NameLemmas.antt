-- Names that have too many words.
use Rattle.std.proofs.Common.{◌≡◌, ℕ, ◌<◌, List, [], ◌∷◌, length, None, refl, arith}
use Rattle.addr4.specs.Texts.{parts}
use Rattle.addr4.proofs.PartLemmas.{parts_some}
use Rattle.journal_text.specs.Names.{link_from_parts, task_from_parts}

four : (a b c : List ℕ) (more : List (List ℕ)) → 0 < length more → link_from_parts (a ∷ b ∷ c ∷ more) ≡ None
unfolding link_from_parts
four a b c [] some = absurd (omega arith)
four a b c (d ∷ more) some = refl

pub no_fourth_word : (a b c r : List ℕ) → link_from_parts (a ∷ b ∷ c ∷ parts 46 r) ≡ None
no_fourth_word a b c r = four a b c (parts 46 r) (parts_some 46 r)

four_of_task : (a b c : List ℕ) (more : List (List ℕ)) → 0 < length more → task_from_parts (a ∷ b ∷ c ∷ more) ≡ None
unfolding task_from_parts
four_of_task a b c [] some = absurd (omega arith)
four_of_task a b c (d ∷ more) some = refl

pub no_fourth_task_word : (a b c r : List ℕ) → task_from_parts (a ∷ b ∷ c ∷ parts 46 r) ≡ None
no_fourth_task_word a b c r = four_of_task a b c (parts 46 r) (parts_some 46 r)
