-- What is written of an UPDATE is read as it was.
use Rattle.std.proofs.Common.{◌≡◌, ℕ, zero, suc, ◌+◌, ◌*◌, ◌/◌, ◌%◌, ◌≤◌, ◌<◌, Bool, true, false, cond, eqb, ◌||◌, map, List, [], ◌∷◌, ◌++◌, length, Option, Some, None, Ok, refl, sym, ap, subst, ◌∙◌, ◌^◌, arith}
use Rattle.std.specs.Prelude.{All}
use Rattle.std.specs.List.{flat_map}
use Rattle.std.proofs.lemmas.List.{length-append}
use Rattle.byteorder.specs.Endian.{big_bytes}
use Rattle.addr4.specs.Prefixes.{AddressPrefix}
use Rattle.bgp_attr.specs.Attributes.{Attrs}
use Rattle.bgp_attr.specs.declared.speaker.Profile.{Profile}
use Rattle.bgp_attr.specs.declared.unrecognized.Unrecognized.{Unrecognized}
use Rattle.bgp_wire.specs.declared.message.Message.TheVariants as messages
use Rattle.bgp_wire.specs.Paths.{width_of}
use Rattle.bgp_wire.proofs.JudgedTypes.{Reach}
use Rattle.bgp_wire.specs.Multiprotocol.{IsReach, IsUnreach}
use Rattle.bgp_wire.specs.Attributes.{Attribute, AreAttributes, kept_by}
use Rattle.bgp_wire.specs.Routes.{kept_of, hop_of, code_of_origin, Says}
use Rattle.bgp_wire.specs.Updates.{Reading, has_kind, missing, lack}
use Rattle.bgp_wire.specs.Grammar.{IsFrame, IsReading, Reads}
use Rattle.bgp_wire.specs.Spelling.{path_octets, spelled, is_long, spelled_octets, optional, unrecognized_attribute, hop_attributes, reach_value, unreach_value, mandatory_attributes, clusters_attributes, sent_attributes, octets_of, prefixes_octets, unreach_octets, fields_octets, framed, update_octets}
use Rattle.bgp_wire.specs.Lengths.{announcement_length}
use Rattle.addr4.specs.Families.{IsPrefixOf}
use Rattle.bgp_wire.specs.Readable.{IsReadable, Speaks, withdrawing, withdrawal, announcing, announcement}
use Rattle.bgp_wire.proofs.SpelledLengths.{length-framed, fields_parts, length-fields, length-octets-append, length-spelled, length-first, length-sent, length-unreach, alone}
use Rattle.wire_laws.proofs.SpelledNumbers.{all_cons, spelled_prefixes}
use Rattle.wire_laws.proofs.SpelledAttributes.{FitLengths, AreSound, IsSpoken, all_kept, reach_is, sound_unreach, sound_sent, sound_are, all_are_kept}
use Rattle.wire_laws.proofs.SpelledRoutes.{attrs_are, first_hop_is, reach_sent, unreach_sent, has_mandatory}

two_back : (n : ℕ) → n < 65536 → n / 256 % 256 * 256 + n % 256 ≡ n
two_back n lt = omega arith

framed_is : (kind : ℕ) (body : List ℕ) → length (framed kind body) ≤ 4096 → IsFrame (framed kind body) kind body
framed_is kind body top =
    let n = 19 + length body in
    record { high = n / 256 % 256; low = n % 256; parts = refl; size = two_back n (omega (arith, length-framed kind body)) ∙ sym (length-framed kind body); top = top }

fields_frame : (w a n : List ℕ) → length (framed 2 (fields_octets w a n)) ≤ 4096
    → IsFrame (framed 2 (fields_octets w a n)) 2 ((length w / 256 % 256) ∷ (length w % 256) ∷ (w ++ ((length a / 256 % 256) ∷ (length a % 256) ∷ (a ++ n))))
fields_frame w a n top = subst (IsFrame (framed 2 (fields_octets w a n)) 2) (fields_parts w a n) (framed_is 2 (fields_octets w a n) top)

-- ---- one prefix is withdrawn

withdrawn_length : (v6 : Bool) (n : AddressPrefix) → length (update_octets v6 false (withdrawing n)) ≤ 4096
withdrawn_length false n = omega (arith, length-fields (prefixes_octets (n ∷ [])) [] [], alone n, length-framed 2 (fields_octets (prefixes_octets (n ∷ [])) [] []))
withdrawn_length true n =
    let octets = unreach_octets true (n ∷ []) ++ [] in
    omega (arith, length-fields [] octets [], length-append (unreach_octets true (n ∷ [])) [], length-unreach n, alone n, length-framed 2 (fields_octets [] octets []))

-- what isn't there says nothing
says_nothing : {A : Type 0} (Is : List ℕ → A → Type 0) (v6 : Bool) (o : Option Attribute) → (v6 ≡ true → o ≡ None) → Says Is (cond v6 o None) None
says_nothing Is false o none = refl
says_nothing Is true o none = subst (λ o. Says Is o None) (sym (none refl)) refl

-- and what is, where IPv6 is spoken
says_there : {A : Type 0} (Is : List ℕ → A → Type 0) (v6 : Bool) (o : Option Attribute) (a : Attribute) (x : A) → v6 ≡ true → o ≡ Some a → Is a.value x → Says Is (cond v6 o None) (Some x)
says_there Is false o a x spoken there is = absurd (cc)
says_there Is true o a x spoken there is = subst (λ o. Says Is o (Some x)) (sym there) is

pub withdrawal_is_read : (p : Profile) (external : Bool) (v6 : Bool) (n : AddressPrefix) → Speaks p v6 → IsPrefixOf v6 n → Reads p external (update_octets v6 p.as4 (withdrawing n)) (messages.Update (withdrawal v6 n))
withdrawal_is_read p external false n speaks is =
    let w = prefixes_octets (n ∷ []) in
    let size : length w < 65536 = omega (arith, alone n) in
    let r : Reading = record { withdrawn = n ∷ []; announced = []; reach = None; unreach = None; kept = []; withdraw = false } in
    let reading : IsReading p external (update_octets false p.as4 (withdrawing n)) r = record {
      withdrawn = w;
      attributes = [];
      announced = [];
      first_high = length w / 256 % 256;
      first_low = length w % 256;
      second_high = 0;
      second_low = 0;
      frame = fields_frame w [] [] (withdrawn_length false n);
      withdrawn_size = two_back (length w) size;
      attributes_size = refl;
      withdraws = spelled_prefixes false n is;
      announces = refl;
      reaches = says_nothing IsReach p.v6 None (λ _. refl);
      unreaches = says_nothing IsUnreach p.v6 None (λ _. refl);
      steps = [];
      runs = false;
      lacking = false;
      are = refl;
      kept = refl;
      complete = refl;
      withdraw = refl;
    } in
    (r, reading, record { first = record { withdrawn = refl; announced = refl; attrs = refl }; second = record { withdrawn = refl; announced = refl; attrs = refl } })
withdrawal_is_read p external true n speaks is =
    let a = spelled 128 15 (unreach_value (n ∷ [])) in
    let octets = octets_of (a ∷ []) in
    let few : length octets ≤ 23 = omega (arith, length-append (unreach_octets true (n ∷ [])) [], length-unreach n, alone n) in
    let are = spelled_prefixes true n is in
    let sound : AreSound p external 0 16 (a ∷ []) = (omega arith, sound_unreach p external (n ∷ []) (speaks refl) are (omega (arith, alone n)), omega arith) in
    let r : Reading = record { withdrawn = []; announced = []; reach = None; unreach = Some (n ∷ []); kept = a ∷ []; withdraw = false } in
    let reading : IsReading p external (update_octets true p.as4 (withdrawing n)) r = record {
      withdrawn = [];
      attributes = octets;
      announced = [];
      first_high = 0;
      first_low = 0;
      second_high = length octets / 256 % 256;
      second_low = length octets % 256;
      frame = fields_frame [] octets [] (withdrawn_length true n);
      withdrawn_size = refl;
      attributes_size = two_back (length octets) (omega (arith, few));
      withdraws = refl;
      announces = refl;
      reaches = says_nothing IsReach p.v6 None (λ _. refl);
      unreaches = says_there IsUnreach p.v6 (Some a) a (n ∷ []) (speaks refl) refl (record { prefixes = prefixes_octets (n ∷ []); spelled = refl; withdraws = are });
      steps = all_kept (a ∷ []);
      runs = false;
      lacking = false;
      are = sound_are p external 0 16 [] (a ∷ []) (λ kind le. refl) sound;
      kept = refl;
      complete = refl;
      withdraw = refl;
    } in
    (r, reading, record { first = record { withdrawn = refl; announced = refl; attrs = refl }; second = record { withdrawn = refl; announced = refl; attrs = refl } })

-- ---- the lengths of values, by the length of all

value_shorter : (flags kind : ℕ) (value : List ℕ) → length value ≤ length (spelled_octets (is_long value) flags kind value)
value_shorter flags kind value = omega (arith, length-spelled (is_long value) flags kind value)

unrecognized_fit : (n : ℕ) (us : List Unrecognized) → length (octets_of (map unrecognized_attribute us)) < n → All (λ (u : Unrecognized). length u.value < n) us
unrecognized_fit n [] lt = λ k d h. absurd (omega arith)
unrecognized_fit n (u ∷ us) lt =
    let whole = length-first (unrecognized_attribute u) (map unrecognized_attribute us) in
    let value = value_shorter 224 u.kind u.value in
    all_cons (λ (u : Unrecognized). length u.value < n) u us (omega (arith, whole, value, lt)) (unrecognized_fit n us (omega (arith, whole, lt)))

clusters_within : (cs : List ℕ) → length (flat_map (big_bytes 4) cs) ≤ length (octets_of (clusters_attributes cs))
clusters_within [] = omega arith
clusters_within (c ∷ cs) =
    let value = flat_map (big_bytes 4) (c ∷ cs) in
    omega (arith, length-first (spelled 128 10 value) [], value_shorter 128 10 value)

pub path_within : (v6 as4 : Bool) (a : Attrs) → length (path_octets (width_of as4) a.path) ≤ length (octets_of (mandatory_attributes v6 as4 a))
path_within v6 as4 a =
    let o = spelled 64 1 (code_of_origin a.origin ∷ []) in
    let s = spelled 64 2 (path_octets (width_of as4) a.path) in
    let h = hop_attributes v6 a.next_hop in
    omega (arith, length-append o.octets (octets_of (s ∷ h)), length-append s.octets (octets_of h), value_shorter 64 2 (path_octets (width_of as4) a.path))

fit_lengths : (v6 as4 : Bool) (a : Attrs) (ps : List AddressPrefix) → length (octets_of (sent_attributes v6 as4 a ps)) < 65536 → FitLengths as4 a
fit_lengths v6 as4 a ps fits =
    let whole = length-sent v6 as4 a ps in
    let originator = optional (λ n. spelled 128 9 (big_bytes 4 n)) a.reflection.originator in
    record {
      path = omega (arith, path_within v6 as4 a, whole, fits);
      clusters = omega (arith, clusters_within a.reflection.clusters, length-octets-append originator (clusters_attributes a.reflection.clusters), whole, fits);
      unrecognized = unrecognized_fit 65536 a.unrecognized (omega (arith, whole, fits));
    }

-- ---- one prefix is announced

nothing_lacks : (p : Profile) (ipv4 : Bool) (kept : List Attribute) → has_kind 1 kept ≡ true → has_kind 2 kept ≡ true → (ipv4 ≡ true → has_kind 3 kept ≡ true) → lack p (missing ipv4 kept) ≡ Ok false
nothing_lacks p true kept a b c = rw (a, b, c refl) refl
nothing_lacks p false kept a b c = rw (a, b) refl

-- the attributes that are sent, as they are read
record IsSent (p : Profile) (external : Bool) (v6 : Bool) (n : AddressPrefix) (a : Attrs) : Type 0 where
  size : length (octets_of (sent_attributes v6 p.as4 a (n ∷ []))) < 65536
  are : AreAttributes p external [] (octets_of (sent_attributes v6 p.as4 a (n ∷ []))) (all_kept (sent_attributes v6 p.as4 a (n ∷ []))) false
  kept : sent_attributes v6 p.as4 a (n ∷ []) ≡ (kept_by (all_kept (sent_attributes v6 p.as4 a (n ∷ []))) false).0
  plain : false ≡ ((kept_by (all_kept (sent_attributes v6 p.as4 a (n ∷ []))) false).1 || false)

is_sent : (p : Profile) (external : Bool) (v6 : Bool) (n : AddressPrefix) (a : Attrs) → Speaks p v6 → IsPrefixOf v6 n → IsReadable v6 p external a → length (octets_of (sent_attributes v6 p.as4 a (n ∷ []))) < 65536 → IsSent p external v6 n a
is_sent p external v6 n a speaks is readable size =
    let sent = sent_attributes v6 p.as4 a (n ∷ []) in
    let sound = sound_sent p external v6 a readable (fit_lengths v6 p.as4 a (n ∷ []) size) (n ∷ []) (record { speaks = speaks; are = spelled_prefixes v6 n is; few = omega arith }) in
    let all = all_are_kept sent in
    record {
      size = size;
      are = sound_are p external 0 sound.0 [] sent (λ kind le. refl) sound.1;
      kept = sym (ap (λ (k : List Attribute × Bool). k.0) all);
      plain = sym (ap (λ (k : List Attribute × Bool). k.1 || false) all);
    }

pub announcement_is_read : (p : Profile) (external : Bool) (v6 : Bool) (n : AddressPrefix) (a : Attrs) → Speaks p v6 → IsPrefixOf v6 n → IsReadable v6 p external a → announcement_length v6 p.as4 n a ≤ 4096
    → Reads p external (update_octets v6 p.as4 (announcing n a)) (messages.Update (announcement v6 n a))
unfolding announcement_length
announcement_is_read p external false n a speaks is readable top =
    let ps = n ∷ [] in
    let sent = sent_attributes false p.as4 a ps in
    let octets = octets_of sent in
    let own = prefixes_octets ps in
    let s = is_sent p external false n a speaks is readable (omega (arith, top, length-fields [] octets own, length-framed 2 (fields_octets [] octets own))) in
    let has = has_mandatory p external false a ps readable in
    let r : Reading = record { withdrawn = []; announced = ps; reach = None; unreach = None; kept = sent; withdraw = false } in
    let reading : IsReading p external (update_octets false p.as4 (announcing n a)) r = record {
      withdrawn = [];
      attributes = octets;
      announced = own;
      first_high = 0;
      first_low = 0;
      second_high = length octets / 256 % 256;
      second_low = length octets % 256;
      frame = fields_frame [] octets own top;
      withdrawn_size = refl;
      attributes_size = two_back (length octets) s.size;
      withdraws = refl;
      announces = spelled_prefixes false n is;
      reaches = says_nothing IsReach p.v6 (kept_of 14 sent) (λ e. reach_sent p external false a ps readable e);
      unreaches = says_nothing IsUnreach p.v6 (kept_of 15 sent) (λ e. unreach_sent p external false a ps readable e);
      steps = all_kept sent;
      runs = false;
      lacking = false;
      are = s.are;
      kept = s.kept;
      complete = nothing_lacks p true sent has.0 has.1 (λ _. has.2 refl);
      withdraw = s.plain;
    } in (
      r,
      reading,
      record {
        first = record { withdrawn = refl; announced = refl; attrs = attrs_are p external false a ps readable speaks (hop_of sent) (first_hop_is p external a ps readable) };
        second = record { withdrawn = refl; announced = refl; attrs = refl };
      },
    )
announcement_is_read p external true n a speaks is readable top =
    let ps = n ∷ [] in
    let sent = sent_attributes true p.as4 a ps in
    let octets = octets_of sent in
    let reach : Reach = record { next_hop = a.next_hop; announced = ps } in
    let s = is_sent p external true n a speaks is readable (omega (arith, top, length-fields [] octets [], length-framed 2 (fields_octets [] octets []))) in
    let has = has_mandatory p external true a ps readable in
    let r : Reading = record { withdrawn = []; announced = []; reach = Some reach; unreach = None; kept = sent; withdraw = false } in
    let reading : IsReading p external (update_octets true p.as4 (announcing n a)) r = record {
      withdrawn = [];
      attributes = octets;
      announced = [];
      first_high = 0;
      first_low = 0;
      second_high = length octets / 256 % 256;
      second_low = length octets % 256;
      frame = fields_frame [] octets [] top;
      withdrawn_size = refl;
      attributes_size = two_back (length octets) s.size;
      withdraws = refl;
      announces = refl;
      reaches = says_there IsReach p.v6 (kept_of 14 sent) (spelled 128 14 (reach_value a.next_hop ps)) reach (speaks refl) (reach_sent p external true a ps readable (speaks refl)) (reach_is a.next_hop ps readable.next_hop (spelled_prefixes true n is));
      unreaches = says_nothing IsUnreach p.v6 (kept_of 15 sent) (λ e. unreach_sent p external true a ps readable e);
      steps = all_kept sent;
      runs = false;
      lacking = false;
      are = s.are;
      kept = s.kept;
      complete = nothing_lacks p false sent has.0 has.1 (λ e. absurd (cc));
      withdraw = s.plain;
    } in (
      r,
      reading,
      record {
        first = record { withdrawn = refl; announced = refl; attrs = refl };
        second = record { withdrawn = refl; announced = refl; attrs = attrs_are p external true a ps readable speaks (Some a.next_hop) refl };
      },
    )
