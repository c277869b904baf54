-- The words of a line: too many.
use Rattle.std.proofs.Common.{◌≡◌, ℕ, ◌<◌, List, [], ◌∷◌, length, None, refl, arith}
use Rattle.addr4.specs.Texts.{parts}
use Rattle.addr4.proofs.PartLemmas.{parts_some}
use Rattle.journal_check.specs.Readings.{entry_from}

six : (a b c d e : List ℕ) (more : List (List ℕ)) → 0 < length more → entry_from (a ∷ b ∷ c ∷ d ∷ e ∷ more) ≡ None
unfolding entry_from
six a b c d e [] some = absurd (omega arith)
six a b c d e (f ∷ more) some = refl

pub no_sixth_word : (a b c d e r : List ℕ) → entry_from (a ∷ b ∷ c ∷ d ∷ e ∷ parts 32 r) ≡ None
no_sixth_word a b c d e r = six a b c d e (parts 32 r) (parts_some 32 r)
