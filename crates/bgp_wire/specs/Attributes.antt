-- Path attributes on the wire, and what becomes of each (RFC 4271, sections 4.3, 5 and 6.3).
use Rattle.std.specs.Prelude.{◌≡◌, ◌⊎◌, ℕ, zero, suc, ◌+◌, ◌*◌, ◌/◌, ◌%◌, ◌<◌, List, [], ◌∷◌, ◌++◌, length, take, drop, slice_index, Option, Some, None, option_and_then, Result, Ok, Err, Bool, true, false, nat_lt, ◌==◌, ◌||◌, ◌&&◌, not, if◌then◌else◌}
use Rattle.std.specs.List.{list_any}
use mathlib.Core.Bool.{beq}
use Rattle.bgp_attr.specs.declared.speaker.Profile.{Profile}
use Rattle.bgp_wire.specs.declared.attributes.RawAttribute.{RawAttribute}
use Rattle.bgp_wire.specs.declared.attributes.Size.{Size}
use Rattle.bgp_wire.specs.declared.attributes.Size.TheVariants.{Any, Fixed, Fours}
use Rattle.bgp_wire.specs.declared.attributes.TypeRule.{TypeRule}
use Rattle.bgp_wire.specs.declared.attributes.Verdict.{Verdict}
use Rattle.bgp_wire.specs.declared.attributes.Verdict.TheVariants.{Keep, Discard, Withdraw}
use Rattle.bgp_wire.specs.declared.notice.Notice.{Notice}
use Rattle.bgp_wire.specs.Faults.{notice, err_of, ◌>>=◌}
use Rattle.byteorder.specs.Endian.{big_number}
use Rattle.addr4.specs.Families.{in_front}
use Rattle.addr4.specs.Hosts.{is_host}
use Rattle.bgp_wire.specs.Paths.{width_of, path_at}
use Rattle.bgp_wire.specs.Multiprotocol.{bad_value, reach_at, unreach_at}

-- an attribute as it came: its flags, type and value, and all its octets
pub record Attribute : Type 0 where
  pub flags : ℕ
  pub kind : ℕ
  pub value : List ℕ
  pub octets : List ℕ

abbrev pub attribute_of : RawAttribute → Attribute
attribute_of raw = record { flags = raw.flags; kind = raw.kind; value = raw.value.now; octets = raw.octets.now }

abbrev pub is_optional : Attribute → Bool
is_optional a = a.flags / 128 % 2 == 1

abbrev pub is_transitive : Attribute → Bool
is_transitive a = a.flags / 64 % 2 == 1

abbrev pub is_partial : Attribute → Bool
is_partial a = a.flags / 32 % 2 == 1

abbrev pub is_extended : ℕ → Bool
is_extended flags = flags / 16 % 2 == 1

-- flags, a type, a length of one octet or of two, and so many octets
pub record IsShort (a : Attribute) : Type 0 where
  pub flag : is_extended a.flags ≡ false
  pub spelled : a.octets ≡ a.flags ∷ a.kind ∷ length a.value ∷ a.value

pub record IsExtended (a : Attribute) : Type 0 where
  pub high : ℕ
  pub low : ℕ
  pub flag : is_extended a.flags ≡ true
  pub size : high * 256 + low ≡ length a.value
  pub spelled : a.octets ≡ a.flags ∷ a.kind ∷ high ∷ low ∷ a.value

abbrev pub IsAttribute : Attribute → Type 0
IsAttribute a = IsShort a ⊎ IsExtended a

-- octets that no attribute is at the front of
pub record RunsBeyond (bytes : List ℕ) : Type 0 where
  pub some : 0 < length bytes
  pub none : (a : Attribute) (rest : List ℕ) → IsAttribute a → bytes ≡ a.octets ++ rest → ⊥

-- ---- what becomes of an attribute

-- the recognized types: whether they are optional and transitive, and how long they may be
abbrev pub rule : Bool → Bool → Size → Option TypeRule
rule optional transitive size = Some (record { optional = optional; transitive = transitive; size = size })

-- ORIGINATOR_ID and CLUSTER_LIST, where this speaker is a route reflector (RFC 4456, section 8)
abbrev pub is_reflection : Profile → ℕ → Bool
is_reflection p kind = p.reflect && (kind == 9 || kind == 10)

-- MP_REACH_NLRI and MP_UNREACH_NLRI, where IPv6 is spoken (RFC 4760, sections 3 and 4)
abbrev pub is_multiprotocol : Profile → ℕ → Bool
is_multiprotocol p kind = p.v6 && (kind == 14 || kind == 15)

-- those of a route reflector, from an internal peer alone: what external ones say of them is dropped
abbrev pub reflection_rule : Profile → Bool → ℕ → Option TypeRule
reflection_rule p external kind =
    if not (is_reflection p kind) || external then None
    else if kind == 9 then rule true false (Fixed 4)
    else rule true false Fours

unfoldable pub rule_of : Profile → Bool → ℕ → Option TypeRule
rule_of p external kind =
    if kind == 1 then rule false true (Fixed 1)
    else if kind == 2 then rule false true Any
    else if kind == 3 then rule false true (Fixed 4)
    else if kind == 4 then rule true false (Fixed 4)
    else if kind == 5 then rule false true (Fixed 4)
    else if kind == 6 then rule false true (Fixed 0)
    else if kind == 7 then rule true true (Fixed (if p.as4 then 8 else 6))
    else if is_multiprotocol p kind then rule true false Any
    else reflection_rule p external kind

-- whether errors of a type are handled in the revised manner: those of MP_REACH_NLRI and MP_UNREACH_NLRI never are, since what is to be
-- withdrawn can't be told without these
abbrev pub is_revised : Profile → ℕ → Bool
is_revised p kind = p.revised && not (is_multiprotocol p kind)

-- a fault, or something milder in that manner
abbrev pub milder : Bool → Verdict → Notice → Result Verdict Notice
milder revised mild n = if revised then Ok mild else Err n

-- AS4_PATH and AS4_AGGREGATOR, which mean nothing among speakers that use four octets (RFC 6793, section 4.1)
abbrev pub is_old_form : Profile → ℕ → Bool
is_old_form p kind = p.as4 && (kind == 17 || kind == 18)

abbrev pub judge_unrecognized : Profile → Attribute → Result Verdict Notice
judge_unrecognized p a =
    if not (is_optional a) then Err (notice 3 2 a.octets)
    else if is_transitive a && not (is_old_form p a.kind || is_reflection p a.kind) then Ok Keep
    else Ok Discard

-- the address that NEXT_HOP is
abbrev pub hop_at : List ℕ → ℕ
hop_at value = in_front (big_number 4 value)

-- the fault of a value of the right length, if it has one
unfoldable pub value_fault : Bool → Attribute → Option Notice
value_fault as4 a =
    if a.kind == 1 then (if nat_lt 2 (slice_index a.value 0) then Some (notice 3 6 a.octets) else None)
    else if a.kind == 2 then err_of (path_at (width_of as4) a.value)
    else if a.kind == 3 then (if is_host false (hop_at a.value) then None else Some (notice 3 8 a.octets))
    else if a.kind == 14 then err_of (reach_at (bad_value a.octets) a.value)
    else if a.kind == 15 then err_of (unreach_at (bad_value a.octets) a.value)
    else None

abbrev pub judge_value : Bool → Option Notice → Result Verdict Notice
judge_value revised None = Ok Keep
judge_value revised (Some n) = milder revised Withdraw n

abbrev pub has_wrong_size : Size → List ℕ → Bool
has_wrong_size Any value = false
has_wrong_size (Fixed n) value = not (length value == n)
has_wrong_size Fours value = length value == 0 || not (length value % 4 == 0)

abbrev pub has_wrong_flags : TypeRule → Attribute → Bool
has_wrong_flags r a = not (beq (is_optional a) r.optional && beq (is_transitive a) r.transitive)

abbrev pub judge_recognized : Profile → Bool → Attribute → TypeRule → Result Verdict Notice
judge_recognized p external a r =
    if p.revised && (external && a.kind == 5) then Ok Discard
    else if has_wrong_flags r a then milder (is_revised p a.kind) Withdraw (notice 3 4 a.octets)
    else if has_wrong_size r.size a.value then milder (is_revised p a.kind) (if a.kind == 6 || a.kind == 7 then Discard else Withdraw) (notice 3 5 a.octets)
    else judge_value (is_revised p a.kind) (value_fault p.as4 a)

abbrev pub judge_by : Profile → Bool → Attribute → Option TypeRule → Result Verdict Notice
judge_by p external a None = judge_unrecognized p a
judge_by p external a (Some r) = judge_recognized p external a r

-- what becomes of an attribute after those of these types
unfoldable pub judgement : Profile → Bool → List ℕ → Attribute → Result Verdict Notice
judgement p external seen a =
    if list_any (λ kind. kind == a.kind) seen then milder (is_revised p a.kind) Discard (notice 3 1 [])
    else judge_by p external a (rule_of p external a.kind)

-- attributes, each with what becomes of it; and whether what follows them runs beyond the end, which only the revised manner reads
abbrev pub AreAttributes : Profile → Bool → List ℕ → List ℕ → List (Attribute × Verdict) → Bool → Type 0
AreAttributes p external seen bytes [] false = bytes ≡ []
AreAttributes p external seen bytes [] true = (p.revised ≡ true) × RunsBeyond bytes
AreAttributes p external seen bytes (s ∷ steps) runs =
    (rest : List ℕ) × (bytes ≡ s.0.octets ++ rest) × IsAttribute s.0 × (judgement p external seen s.0 ≡ Ok s.1) × AreAttributes p external (seen ++ s.0.kind ∷ []) rest steps runs

-- the attributes that are kept, and whether the UPDATE is a withdraw
abbrev pub Kept : Type 0
Kept = List Attribute × Bool

abbrev pub with_verdict : Verdict → Attribute → Kept → Kept
with_verdict Keep a k = (a ∷ k.0, k.1)
with_verdict Discard a k = k
with_verdict Withdraw a k = (k.0, true)

abbrev pub kept_by : List (Attribute × Verdict) → Bool → Kept
kept_by [] runs = ([], runs)
kept_by (s ∷ steps) runs = with_verdict s.1 s.0 (kept_by steps runs)

-- ---- reading them from left to right

-- the header's length field, and how many octets the header has
unfoldable pub size_at : List ℕ → Option (ℕ × ℕ)
size_at [] = None
size_at (flags ∷ []) = None
size_at (flags ∷ kind ∷ []) = None
size_at (flags ∷ kind ∷ high ∷ []) = if is_extended flags then None else Some (high, 3)
size_at (flags ∷ kind ∷ high ∷ low ∷ rest) = if is_extended flags then Some (high * 256 + low, 4) else Some (high, 3)

-- the first attribute, and what follows it, where it doesn't run beyond the end
abbrev pub cut : List ℕ → ℕ × ℕ → Option (Attribute × List ℕ)
cut bytes header =
    if nat_lt (length bytes) (header.1 + header.0) then None
    else Some (
      record {
        flags = slice_index bytes 0;
        kind = slice_index bytes 1;
        value = drop header.1 (take (header.1 + header.0) bytes);
        octets = take (header.1 + header.0) bytes;
      },
      drop (header.1 + header.0) bytes,
    )

abbrev pub attribute_at : List ℕ → Option (Attribute × List ℕ)
attribute_at bytes = option_and_then (cut bytes) (size_at bytes)

abbrev pub attributes_step : Profile → Bool → List ℕ → Option (Attribute × List ℕ) → (List ℕ → List ℕ → Result Kept Notice) → Result Kept Notice
attributes_step p external seen None later = if p.revised then Ok ([], true) else Err (notice 3 1 [])
attributes_step p external seen (Some x) later = do
  verdict ← judgement p external seen x.0
  kept ← later (seen ++ x.0.kind ∷ []) x.1
  Ok (with_verdict verdict x.0 kept)

unfoldable pub attributes_within : ℕ → Profile → Bool → List ℕ → List ℕ → Result Kept Notice
attributes_within n p external seen [] = Ok ([], false)
attributes_within zero p external seen (b ∷ bytes) = Ok ([], false)
attributes_within (suc n) p external seen (b ∷ bytes) = attributes_step p external seen (attribute_at (b ∷ bytes)) (λ kinds rest. attributes_within n p external kinds rest)

abbrev pub attributes_at : Profile → Bool → List ℕ → List ℕ → Result Kept Notice
attributes_at p external seen bytes = attributes_within (length bytes) p external seen bytes
