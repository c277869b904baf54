-- The longest match, as it is decided, and as the register answers it.
use Rattle.std.proofs.Common.{◌≡◌, ℕ, zero, suc, Option, Some, None, refl, subst}
use Rattle.std.specs.Prelude.{option_map}
use Rattle.addr4.specs.Prefixes.{AddressPrefix, block}
use Rattle.addr4.specs.Blocks.{width}
use Rattle.link_change.specs.Rows.{Rows}
use Rattle.rib_route.specs.Rows.{Interior}
use Rattle.register_interest.specs.Covers.{keyed_or, longest, longest_to, IsLongest}
use Rattle.register_interest.proofs.CoverLemmas.{longest_is}
use Rattle.live_state.specs.Decided.{or_else, longest_within, longest_match}
use Rattle.live_state.specs.Laws.{IsLongestMatch, TheLongestMatchIsDecided}

found_is : (rows : Rows Interior) (a n : ℕ) → option_map (λ r. r.1) (longest_to width rows a n) ≡ longest_within rows a n
found_is rows a zero = by_row (rows (block width a 0))
  where
    by_row : (o : Option Interior) → option_map (λ r. r.1) (keyed_or (block width a 0) o None) ≡ o
    by_row None = refl
    by_row (Some row) = refl
found_is rows a (suc n) = by_row (rows (block width a (suc n))) (found_is rows a n)
  where
    by_row : (o : Option Interior) → option_map (λ r. r.1) (longest_to width rows a n) ≡ longest_within rows a n → option_map (λ r. r.1) (keyed_or (block width a (suc n)) o (longest_to width rows a n)) ≡ or_else o (longest_within rows a n)
    by_row None rest = rest
    by_row (Some row) rest = refl

-- what the register finds is the match
pub match_is : (rows : Rows Interior) (a : ℕ) → option_map (λ r. r.1) (longest width rows a) ≡ longest_match rows a
unfolding longest
match_is rows a = found_is rows a width

pub the_longest_match : TheLongestMatchIsDecided
the_longest_match rows a = subst (IsLongestMatch rows a) (match_is rows a) (by_found (longest width rows a) (longest_is width rows a))
  where
    by_found : (o : Option (AddressPrefix × Interior)) → IsLongest width rows a o → IsLongestMatch rows a (option_map (λ r. r.1) o)
    by_found None is = is
    by_found (Some r) is = (r.0, is.0, is.1, is.2, is.3)
