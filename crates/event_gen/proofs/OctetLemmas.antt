-- The octets of the messages are octets.
use Rattle.std.proofs.Common.{◌≡◌, ℕ, zero, suc, ◌+◌, ◌*◌, ◌/◌, ◌^◌, ◌<◌, true, false, nat_lt, List, [], ◌∷◌, ◌++◌, length, Some, refl, arith}
use Rattle.std.specs.Prelude.{replicate}
use Rattle.std.proofs.lemmas.Bool.Decides.{nat_tests}
use Rattle.std.proofs.lemmas.Nat.{mod_below}
use Rattle.std.specs.Int.{byte_at, bytes_high_first}
use Rattle.std.specs.List.{AllByRecursion, list_all}
use Rattle.hex.specs.Hex.{IsBytes}
use Rattle.addr4.specs.Families.{in_front}
use Rattle.bgp_attr.specs.declared.attrs.Origin.{Origin}
use Rattle.bgp_attr.specs.declared.attrs.Origin.TheVariants.{Igp, Egp, Incomplete}
use Rattle.bgp_wire.specs.Routes.{code_of_origin}
use Rattle.bgp_wire.specs.Spelling.{attrs_octets, prefixes_octets, framed, fields_octets}
use Rattle.journal_check.proofs.InkLemmas.{all_append, both_true}
use Rattle.event_gen.specs.Lines.{block, peer_addr, path_as, announced, announce_octets, withdraw_octets}

abbrev pub IsOctet : ℕ → Type 0
IsOctet b = b < 2 ^ 8

abbrev pub AreOctets : List ℕ → Type 0
AreOctets octets = AllByRecursion IsOctet octets

pub bytes : (octets : List ℕ) → AreOctets octets → IsBytes octets
bytes [] small i = omega arith
bytes (b ∷ octets) small zero = let low = small.0 in omega arith
bytes (b ∷ octets) small (suc i) = bytes octets small.1 i

low_test : (b : ℕ) → nat_lt b 256 ≡ true → b < 2 ^ 8
low_test b e = grind (arith, nat_tests)

-- by a test, as of octets that are written out
by_test : (octets : List ℕ) → list_all (λ b. nat_lt b 256) octets ≡ true → AreOctets octets
by_test [] e = tt
by_test (b ∷ octets) e = let t = both_true (nat_lt b 256) (list_all (λ b. nat_lt b 256) octets) e in (low_test b t.0, by_test octets t.1)

both : (xs ys : List ℕ) → AreOctets xs → AreOctets ys → AreOctets (xs ++ ys)
both xs ys g h = all_append IsOctet xs ys g h

octet : (k n : ℕ) → byte_at k n < 2 ^ 8
octet zero n = let small = mod_below n 256 (omega arith) in omega arith
octet (suc k) n = let small = mod_below (n / 256 ^ suc k) 256 (omega arith) in omega arith

number : (k n : ℕ) → AreOctets (bytes_high_first k n)
number zero n = tt
number (suc k) n = (octet k n, number k n)

frame : (body : List ℕ) → AreOctets body → AreOctets (framed 2 body)
frame body h = both (replicate 16 255 ++ bytes_high_first 2 (19 + length body)) (2 ∷ body) (both (replicate 16 255) (bytes_high_first 2 (19 + length body)) (by_test (replicate 16 255) refl) (number 2 (19 + length body))) (omega arith, h)

fields : (withdrawn attributes announced : List ℕ) → AreOctets withdrawn → AreOctets attributes → AreOctets announced → AreOctets (fields_octets withdrawn attributes announced)
fields w a p hw ha hp =
    both (((bytes_high_first 2 (length w) ++ w) ++ bytes_high_first 2 (length a)) ++ a) p
    (both ((bytes_high_first 2 (length w) ++ w) ++ bytes_high_first 2 (length a)) a
    (both (bytes_high_first 2 (length w) ++ w) (bytes_high_first 2 (length a)) (both (bytes_high_first 2 (length w)) w (number 2 (length w)) hw) (number 2 (length a))) ha) hp

origin_small : (origin : Origin) → code_of_origin origin < 2 ^ 8
origin_small Igp = omega arith
origin_small Egp = omega arith
origin_small Incomplete = omega arith

attributes : (k x : ℕ) (origin : Origin) (med : ℕ) → AreOctets (attrs_octets false false (Some (announced k origin med)) (block x ∷ []))
attributes k x origin med =
    let first : List ℕ = 64 ∷ 1 ∷ 1 ∷ code_of_origin origin ∷ [] in
    let second : List ℕ = 64 ∷ 2 ∷ 4 ∷ 2 ∷ 1 ∷ bytes_high_first 2 (path_as k) in
    let third : List ℕ = 64 ∷ 3 ∷ 4 ∷ bytes_high_first 4 (peer_addr k / 2 ^ 96) in
    let fourth : List ℕ = 128 ∷ 4 ∷ 4 ∷ bytes_high_first 4 med in
    let a : AreOctets first = both (64 ∷ 1 ∷ 1 ∷ []) (code_of_origin origin ∷ []) (by_test (64 ∷ 1 ∷ 1 ∷ []) refl) (origin_small origin, tt) in
    let b : AreOctets second = both (64 ∷ 2 ∷ 4 ∷ 2 ∷ 1 ∷ []) (bytes_high_first 2 (path_as k)) (by_test (64 ∷ 2 ∷ 4 ∷ 2 ∷ 1 ∷ []) refl) (number 2 (path_as k)) in
    let c : AreOctets third = both (64 ∷ 3 ∷ 4 ∷ []) (bytes_high_first 4 (peer_addr k / 2 ^ 96)) (by_test (64 ∷ 3 ∷ 4 ∷ []) refl) (number 4 (peer_addr k / 2 ^ 96)) in
    let d : AreOctets fourth = both (128 ∷ 4 ∷ 4 ∷ []) (bytes_high_first 4 med) (by_test (128 ∷ 4 ∷ 4 ∷ []) refl) (number 4 med) in
    both first (second ++ (third ++ fourth)) a (both second (third ++ fourth) b (both third fourth c d))

prefix : (x : ℕ) → AreOctets (prefixes_octets (block x ∷ []))
prefix x = (omega arith, (octet 15 (in_front (167772160 + x * 65536)), (octet 14 (in_front (167772160 + x * 65536)), tt)))

pub announce_small : (k x : ℕ) (origin : Origin) (med : ℕ) → AreOctets (announce_octets k x origin med)
announce_small k x origin med =
    frame (fields_octets [] (attrs_octets false false (Some (announced k origin med)) (block x ∷ [])) (prefixes_octets (block x ∷ [])))
    (fields [] (attrs_octets false false (Some (announced k origin med)) (block x ∷ [])) (prefixes_octets (block x ∷ [])) tt (attributes k x origin med) (prefix x))

pub withdraw_small : (x : ℕ) → AreOctets (withdraw_octets x)
withdraw_small x = frame (fields_octets (prefixes_octets (block x ∷ [])) [] []) (fields (prefixes_octets (block x ∷ [])) [] [] (prefix x) tt tt)

pub announce_long : (k x : ℕ) (origin : Origin) (med : ℕ) → length (announce_octets k x origin med) ≡ 51
announce_long k x origin med = refl

pub withdraw_long : (x : ℕ) → length (withdraw_octets x) ≡ 26
withdraw_long x = refl
