-- The octets that are sent, piece by piece.
use Rattle.std.proofs.Common.{◌≡◌, ℕ, ◌+◌, ◌*◌, ◌<◌, Bool, true, false, cond, List, [], ◌∷◌, ◌++◌, length, refl, sym, ap, ◌∙◌, append_assoc, arith}
use Rattle.std.specs.List.{flat_map, All}
use Rattle.std.proofs.lemmas.List.{append-nil}
use Rattle.std.proofs.lemmas.List.Elements.{All-nil, All-cons, All-head, All-tail}
use Rattle.byteorder.specs.Endian.{big_bytes}
use Rattle.addr4.specs.Prefixes.{AddressPrefix}
use Rattle.bgp_wire.specs.Attributes.{Attribute}
use Rattle.bgp_wire.specs.Spelling.{FitsWidth, reach_value, reach_attributes, unreach_value, unreach_octets, prefixes_octets, is_long, spelled_octets, spelled, clusters_attributes, octets_of}
use Rattle.bgp_wire.specs.Lengths.{head_octets}
use Rattle.bgp_wire.proofs.SpelledLengths.{length-numbers, length-reach-value, octets-append}

-- what stands before a value, and the value
pub head_spelled : (flags kind : ℕ) (value : List ℕ) → head_octets flags kind (length value) ++ value ≡ (spelled flags kind value).octets
head_spelled flags kind value = by_length (is_long value)
  where
    by_length : (long : Bool) → cond long ((flags + 16) ∷ kind ∷ big_bytes 2 (length value)) (flags ∷ kind ∷ length value ∷ []) ++ value ≡ spelled_octets long flags kind value
    by_length true = refl
    by_length false = refl

pub clusters_spelled : (cs : List ℕ) (size : ℕ) → size ≡ 4 * length cs → 0 < size → head_octets 128 10 size ++ flat_map (big_bytes 4) cs ≡ octets_of (clusters_attributes cs)
clusters_spelled [] size e some = absurd (omega arith)
clusters_spelled (c ∷ cs) size e some =
    let value = flat_map (big_bytes 4) (c ∷ cs) in
    let all : size ≡ length value = omega (arith, length-numbers 4 (c ∷ cs)) in
    ap (λ n. head_octets 128 10 n ++ value) all ∙ head_spelled 128 10 value ∙ sym (append-nil (spelled 128 10 value).octets)

-- the numbers in front, and the others
pub both_fit : (as4 : Bool) (front others : List ℕ) → All (FitsWidth as4) (front ++ others) → All (FitsWidth as4) front × All (FitsWidth as4) others
both_fit as4 [] others fit = (All-nil (FitsWidth as4), fit)
both_fit as4 (n ∷ front) others fit =
    let later = both_fit as4 front others (All-tail (FitsWidth as4) n (front ++ others) fit) in
    (All-cons (FitsWidth as4) n front (All-head (FitsWidth as4) n (front ++ others) fit) later.0, later.1)

-- MP_REACH_NLRI and MP_UNREACH_NLRI, by what stands before their values
pub reach_spelled : (hop : ℕ) (ps : List AddressPrefix) → head_octets 128 14 (21 + length (prefixes_octets ps)) ++ reach_value hop ps ≡ octets_of (reach_attributes true hop ps)
reach_spelled hop ps =
    let value = reach_value hop ps in
    ap (λ n. head_octets 128 14 n ++ value) (sym (length-reach-value hop ps)) ∙ head_spelled 128 14 value ∙ sym (append-nil (spelled 128 14 value).octets)

pub unreach_spelled : (p : AddressPrefix) → head_octets 128 15 (3 + length (prefixes_octets (p ∷ []))) ++ unreach_value (p ∷ []) ≡ unreach_octets true (p ∷ [])
unreach_spelled p =
    let value = unreach_value (p ∷ []) in
    let size : length value ≡ 3 + length (prefixes_octets (p ∷ [])) = omega arith in
    ap (λ n. head_octets 128 15 n ++ value) (sym size) ∙ head_spelled 128 15 value

-- octets behind one another are those of all
pub three_behind : (out one two three : List ℕ) (l i x w : List Attribute) → one ≡ out ++ octets_of l → two ≡ one ++ octets_of i → three ≡ two ++ octets_of x → three ++ octets_of w ≡ out ++ octets_of (l ++ i ++ x ++ w)
three_behind out one two three l i x w a b d =
    ap (λ o. o ++ octets_of w) (d ∙ ap (λ o. o ++ octets_of x) (b ∙ ap (λ o. o ++ octets_of i) a))
    ∙ sym (next (l ++ i ++ x) w ∙ ap (λ o. o ++ octets_of w) (next (l ++ i) x ∙ ap (λ o. o ++ octets_of x) (next l i)))
  where
    next : (xs ys : List Attribute) → out ++ octets_of (xs ++ ys) ≡ (out ++ octets_of xs) ++ octets_of ys
    next xs ys = ap (λ o. out ++ o) (octets-append xs ys) ∙ sym (append_assoc out (octets_of xs) (octets_of ys))

-- the pieces of a value of MP_REACH_NLRI behind what was written
pub value_behind : (out xs ys : List ℕ) → (((out ++ 0 ∷ 2 ∷ 1 ∷ 16 ∷ []) ++ xs) ++ 0 ∷ []) ++ ys ≡ out ++ 0 ∷ 2 ∷ 1 ∷ 16 ∷ (xs ++ 0 ∷ ys)
value_behind out xs ys =
    append_assoc ((out ++ 0 ∷ 2 ∷ 1 ∷ 16 ∷ []) ++ xs) (0 ∷ []) ys ∙ append_assoc (out ++ 0 ∷ 2 ∷ 1 ∷ 16 ∷ []) xs (0 ∷ ys) ∙ append_assoc out (0 ∷ 2 ∷ 1 ∷ 16 ∷ []) (xs ++ 0 ∷ ys)
