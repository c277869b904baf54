use Rattle.std.proofs.Common.{rules, ◌≡◌, false, [], ◌∷◌, Some}
use Rattle.addr4.specs.Blocks.{width, masked_to}
use Rattle.addr4.specs.Families.{IsIpv4}
use Rattle.addr4.specs.Texts.{parts, addr_of, number_below}
use Rattle.journal_check.proofs.PrefixPrinted.{printed_where_masked, not_printed}
use Rattle.journal_check.proofs.prefixes.printed_prefix.Goals as goal

pub returns-then-eq : goal.returns-then-eq
returns-then-eq c =
    let word = c.args.word.now in
    let a = c.in_ok-addr.addr in
    let n = c.in_ok-length.length in
    let parted : parts 47 word ≡ c.first_part.result.0.now ∷ c.first_part-2.result.0.now ∷ [] = search rules in
    let is_address : addr_of false c.first_part.result.0.now ≡ Some a = search rules in
    let is_length : number_below 33 c.first_part-2.result.0.now ≡ Some n = search rules in
    let same : masked_to width a n ≡ a = search rules in
    let is = printed_where_masked word a n (record { address = _; length = _; parted = parted; is_address = is_address; is_length = is_length }) same in
    search (rules, is)

pub returns-else-eq : goal.returns-else-eq
returns-else-eq c =
    let word = c.args.word.now in
    let a = c.in_ok-addr.addr in
    let n = c.in_ok-length.length in
    let parted : parts 47 word ≡ c.first_part.result.0.now ∷ c.first_part-2.result.0.now ∷ [] = search rules in
    let is_address : addr_of false c.first_part.result.0.now ≡ Some a = search rules in
    let is_length : number_below 33 c.first_part-2.result.0.now ≡ Some n = search rules in
    let ipv4 : IsIpv4 a = (c.known.ensures.fits, c.known.ensures.rest) in
    let other : masked_to width a n ≡ a → ⊥ = search rules in
    let is = not_printed word a n ipv4 (record { address = _; length = _; parted = parted; is_address = is_address; is_length = is_length }) other in
    search (rules, is)
