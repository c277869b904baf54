-- What is written of numbers, prefixes and paths is read as it was.
use Rattle.std.proofs.Common.{◌≡◌, ℕ, zero, suc, ◌+◌, ◌-◌, ◌*◌, ◌/◌, ◌%◌, ◌^◌, ◌≤◌, ◌<◌, Bool, List, [], ◌∷◌, ◌++◌, length, take, drop, refl, sym, ap, subst, ◌∙◌, arith}
use Rattle.std.specs.Prelude.{All}
use Rattle.std.specs.List.{flat_map}
use Rattle.std.specs.Int.{byte_at}
use Rattle.std.proofs.Math.Nat.{mod-eq_of_lt, pow-succ'}
use Rattle.std.proofs.lemmas.List.{length-take, drop_at}
use Rattle.std.proofs.lemmas.Nat.{pow-add}
use Rattle.byteorder.specs.Endian.{big_from, big_number, big_bytes}
use Rattle.byteorder.specs.Numbers.{big_from-bytes, big_from-cons, big_number-reads_back, length-bytes_high_first}
use Rattle.addr4.specs.Blocks.{width, size_of_length, masked_to}
use Rattle.addr4.specs.Prefixes.{AddressPrefix}
use Rattle.addr4.proofs.BlockLemmas.{finer, size_splits, size_pos}
use Rattle.bgp_attr.specs.declared.path.Segment.{Segment}
use Rattle.bgp_wire.specs.Prefixes.{octets_for, IsPrefix, ArePrefixes}
use Rattle.bgp_wire.specs.Paths.{width_of, numbers_at, IsSegment, IsPath}
use Rattle.bgp_wire.specs.Spelling.{prefix_octets, prefixes_octets, segment_octets, path_octets}
use Rattle.bgp_wire.proofs.SpelledLengths.{length-numbers}
use Rattle.addr4.specs.Families.{IsPrefixOf}
use Rattle.bgp_wire.specs.Readable.{IsReadableSegment}

pub all_first : {A : Type 0} (P : A → Type 0) (x : A) (xs : List A) → All P (x ∷ xs) → P x
all_first P x xs all = all 0 x (omega arith)

pub all_later : {A : Type 0} (P : A → Type 0) (x : A) (xs : List A) → All P (x ∷ xs) → All P xs
all_later P x xs all = λ k d lt. all (suc k) d (omega arith)

pub all_cons : {A : Type 0} (P : A → Type 0) (x : A) (xs : List A) → P x → All P xs → All P (x ∷ xs)
all_cons P x xs first later zero d lt = first
all_cons P x xs first later (suc k) d lt = later k d (omega arith)

-- ---- prefixes

-- the low octets of a masked number are zero
low_zeros : (n length k : ℕ) → n % size_of_length width length ≡ 0 → length ≤ 8 * k → k ≤ 16 → n % 256 ^ (16 - k) ≡ 0
low_zeros n length k is le top =
    let e : 8 * (16 - k) ≡ 128 - 8 * k = omega arith in
    let low : n % size_of_length width (8 * k) ≡ 0 = finer (2 ^ (8 * k - length)) (size_of_length width (8 * k)) n (size_pos width (8 * k)) (subst (λ s. n % s ≡ 0) (size_splits width length (8 * k) le (omega arith)) is) in
    ap (λ m. n % m) (octets_pow (16 - k) ∙ ap (λ i. 2 ^ i) e) ∙ low
  where
    octets_pow : (j : ℕ) → 256 ^ j ≡ 2 ^ (8 * j)
    octets_pow zero = refl
    octets_pow (suc j) =
        let e : 8 * suc j ≡ 8 + 8 * j = omega arith in
        pow-succ' 256 j ∙ ap (λ x. 256 * x) (octets_pow j) ∙ sym (ap (λ i. 2 ^ i) e ∙ pow-add 2 8 (8 * j))

no_octets : (i m : ℕ) → big_from i m [] ≡ 0
no_octets i zero = refl
no_octets i (suc m) = omega (arith, no_octets (suc i) m)

-- the highest octet, and the others
octets_split : (m n : ℕ) → byte_at m n * 256 ^ m + n % 256 ^ m ≡ n % 256 ^ suc m
octets_split m n =
    sym (ap (λ y. byte_at m n * 256 ^ m + y) (big_from-cons 0 m (byte_at m n) (big_bytes m n ++ []) ∙ big_from-bytes m n []))
    ∙ big_from-bytes (suc m) n []

-- the first octets of a number whose low ones are zero
back : (m k n : ℕ) → k ≤ m → n % 256 ^ (m - k) ≡ 0 → big_number m (take k (big_bytes m n)) ≡ n % 256 ^ m
back m zero n le e = let same : m - 0 ≡ m = omega arith in no_octets 0 m ∙ sym e ∙ ap (λ i. n % 256 ^ i) same
back zero (suc k) n le e = absurd (omega arith)
back (suc m) (suc k) n le e =
    let same : m - k ≡ suc m - suc k = omega arith in
    ap (λ y. byte_at m n * 256 ^ m + y) (big_from-cons 0 m (byte_at m n) (take k (big_bytes m n)) ∙ back m k n (omega arith) (ap (λ i. n % 256 ^ i) same ∙ e))
    ∙ octets_split m n

pub spelled_prefix : (v6 : Bool) (p : AddressPrefix) → IsPrefixOf v6 p → IsPrefix v6 (prefix_octets p) p
spelled_prefix v6 p is =
    let k = octets_for p.length in
    let n = p.address in
    let top : k ≤ 16 = omega (arith, is.masked.0) in
    let whole : big_number 16 (take k (big_bytes 16 n)) ≡ n = back 16 k n top (low_zeros n p.length k is.masked.1 (omega arith) top) ∙ mod-eq_of_lt is.fits in
    let value : n ≡ masked_to width n p.length = omega (arith, is.masked.1) in
    record {
      bits = take k (big_bytes 16 n);
      spelled = refl;
      short = is.short;
      fewest = omega (arith, length-take k (big_bytes 16 n), length-bytes_high_first 16 n);
      value = λ i. record { address = (value ∙ ap (λ a. masked_to width a p.length) (sym whole)) i; length = p.length };
    }

pub spelled_prefixes : (v6 : Bool) (p : AddressPrefix) → IsPrefixOf v6 p → ArePrefixes v6 (prefixes_octets (p ∷ [])) (p ∷ [])
spelled_prefixes v6 p is = (prefix_octets p, [], refl, spelled_prefix v6 p is, refl)

-- ---- paths

pub numbers_again : (width : ℕ) (ns : List ℕ) → All (λ n. n < 256 ^ width) ns → ns ≡ numbers_at width (length ns) (flat_map (big_bytes width) ns)
numbers_again width [] fit = refl
numbers_again width (n ∷ ns) fit =
    let rest = flat_map (big_bytes width) ns in
    let here : big_number width (big_bytes width n ++ rest) ≡ n = big_number-reads_back width n rest (all_first (λ n. n < 256 ^ width) n ns fit) in
    let later : drop width (big_bytes width n ++ rest) ≡ rest = drop_at (big_bytes width n) rest width (length-bytes_high_first width n) in
    λ i. sym here i ∷ (numbers_again width ns (all_later (λ n. n < 256 ^ width) n ns fit) ∙ ap (numbers_at width (length ns)) (sym later)) i

spelled_segment : (as4 : Bool) (s : Segment) → IsReadableSegment as4 s → IsSegment (width_of as4) (segment_octets (width_of as4) s) s
spelled_segment as4 s is = record {
  numbers = flat_map (big_bytes (width_of as4)) s.numbers;
  spelled = refl;
  some = is.some;
  size = length-numbers (width_of as4) s.numbers;
  value = numbers_again (width_of as4) s.numbers is.numbers;
}

pub spelled_path : (as4 : Bool) (path : List Segment) → All (IsReadableSegment as4) path → IsPath (width_of as4) (path_octets (width_of as4) path) path
spelled_path as4 [] all = refl
spelled_path as4 (s ∷ path) all = (
  segment_octets (width_of as4) s,
  path_octets (width_of as4) path,
  refl,
  spelled_segment as4 s (all_first (IsReadableSegment as4) s path all),
  spelled_path as4 path (all_later (IsReadableSegment as4) s path all),
)
