-- All that is read of a message can be said again.
use Rattle.std.proofs.Common.{◌≡◌, ℕ, suc, ◌+◌, ◌<◌, Bool, true, false, List, [], ◌∷◌, ◌++◌, length, get_or, Option, Some, None, sym, ap, subst, ◌∙◌, Fits, w8, arith}
use Rattle.std.specs.Prelude.{replicate}
use Rattle.std.specs.Option.{ForSome}
use Rattle.std.proofs.lemmas.List.{length-append}
use Rattle.addr4.specs.Prefixes.{AddressPrefix}
use Rattle.bgp_attr.specs.Attributes.{Attrs}
use Rattle.bgp_attr.specs.declared.speaker.Profile.{Profile}
use Rattle.bgp_wire.specs.declared.message.Update.{Update}
use Rattle.bgp_wire.specs.declared.message.Message.{Message}
use Rattle.bgp_wire.specs.declared.message.Message.TheVariants as messages
use Rattle.bgp_wire.specs.Routes.{hop_of, multiprotocol_of, Says, AreAttrs}
use Rattle.bgp_wire.specs.Updates.{Reading}
use Rattle.bgp_wire.specs.Grammar.{IsReading, AreAttrsFor, IsSaidBy, IsUpdateBy, without, Reads, Answers}
use Rattle.addr4.specs.Families.{IsPrefixOf}
use Rattle.bgp_wire.specs.Said.{Said}
use Rattle.bgp_wire.specs.Multiprotocol.{IsReach, IsUnreach, announced_by, hop_by, withdrawn_by}
use Rattle.bgp_wire.specs.Readable.{IsHost, IsReadable, IsReadableSaid, IsReadableUpdate, IsReadableMessage, AreOctets}
use Rattle.bgp_wire.proofs.ReadableLaws.{Every, every_all, all_every, every_append, every_back, every_front, every_filter, Octets, address_prefixes_read, attrs_read, first_hop_read, second_announced_read, second_withdrawn_read}

-- the octets of the fields
pub record FieldOctets (p : Profile) (external : Bool) (bytes : List ℕ) (r : Reading) (is : IsReading p external bytes r) : Type 0 where
  pub withdrawn : Octets is.withdrawn
  pub attributes : Octets is.attributes
  pub announced : Octets is.announced
  pub whole : 23 + length is.withdrawn + length is.attributes + length is.announced ≡ length bytes

pub field_octets : (p : Profile) (external : Bool) (bytes : List ℕ) (r : Reading) (is : IsReading p external bytes r) → Octets bytes → FieldOctets p external bytes r is
field_octets p external bytes r is octets =
    let low : ℕ → Type 0 = λ n. n < 256 in
    let second = is.second_high ∷ is.second_low ∷ (is.attributes ++ is.announced) in
    let body = is.first_high ∷ is.first_low ∷ (is.withdrawn ++ second) in
    let behind : Octets (is.withdrawn ++ second) = (every_back low (replicate 16 255) (is.frame.high ∷ is.frame.low ∷ 2 ∷ body) (subst Octets is.frame.parts octets)).1.1.1.1.1 in
    let rest : Octets (is.attributes ++ is.announced) = (every_back low is.withdrawn second behind).1.1 in
    record {
      withdrawn = every_front low is.withdrawn second behind;
      attributes = every_front low is.attributes is.announced rest;
      announced = every_back low is.attributes is.announced rest;
      whole = omega (arith, ap length is.frame.parts, length-append is.withdrawn second, length-append is.attributes is.announced);
    }

-- what is known of an UPDATE that was read
attrs_readable : (v6 : Bool) (p : Profile) (external : Bool) (bytes : List ℕ) (r : Reading) (is : IsReading p external bytes r) → Octets bytes → (hop : Option ℕ) (ns : List AddressPrefix) (attrs : Option Attrs) → ((n : ℕ) → hop ≡ Some n → IsHost v6 n)
    → AreAttrsFor p external r.kept hop ns attrs → ForSome attrs (IsReadable v6 p external)
attrs_readable v6 p external bytes r is octets hop [] attrs host are a e = absurd (never (sym are ∙ e))
  where
    never : ◌≡◌ {A = Option Attrs} None (Some a) → ⊥
    never e = absurd (cc)
attrs_readable v6 p external bytes r is octets hop (n ∷ ns) None host are a e = absurd are
attrs_readable v6 p external bytes r is octets hop (n ∷ ns) (Some b) host are a e =
    let f = field_octets p external bytes r is octets in
    let same : b ≡ a = cc in
    subst (IsReadable v6 p external) same (attrs_read v6 p external is.attributes is.steps is.runs hop b is.are f.attributes host (subst (λ kept. AreAttrs p external kept hop b) is.kept are))

readable_said : (v6 : Bool) (p : Profile) (external : Bool) (bytes : List ℕ) (r : Reading) → IsReading p external bytes r → Octets bytes → (withdraw : Bool) (hop : Option ℕ) (ws ns : List AddressPrefix) (s : Said) → ((n : ℕ) → hop ≡ Some n → IsHost v6 n)
    → Every (IsPrefixOf v6) ws → Every (IsPrefixOf v6) ns → IsSaidBy p external r.kept withdraw hop ws ns s → IsReadableSaid v6 p external s
readable_said v6 p external bytes r is octets true hop ws ns s host withdrawn announced by =
    let all : Every (IsPrefixOf v6) (without ns ws ++ ns) = every_append (IsPrefixOf v6) (without ns ws) ns (every_filter (IsPrefixOf v6) _ ws withdrawn) announced in
    record {
      withdrawn = every_all (IsPrefixOf v6) s.withdrawn (subst (Every (IsPrefixOf v6)) (sym by.withdrawn) all);
      announced = every_all (IsPrefixOf v6) s.announced (subst (Every (IsPrefixOf v6)) (sym by.announced) tt);
      attrs = λ a e. absurd (never a (sym by.attrs ∙ e));
    }
  where
    never : (a : Attrs) → ◌≡◌ {A = Option Attrs} None (Some a) → ⊥
    never a e = absurd (cc)
readable_said v6 p external bytes r is octets false hop ws ns s host withdrawn announced by = record {
  withdrawn = every_all (IsPrefixOf v6) s.withdrawn (subst (Every (IsPrefixOf v6)) (sym by.withdrawn) withdrawn);
  announced = every_all (IsPrefixOf v6) s.announced (subst (Every (IsPrefixOf v6)) (sym by.announced) announced);
  attrs = attrs_readable v6 p external bytes r is octets hop ns s.attrs host by.attrs;
}

readable_by : (p : Profile) (external : Bool) (bytes : List ℕ) (r : Reading) (is : IsReading p external bytes r) → Octets bytes → (withdraw : Bool) (u : Update) → IsUpdateBy p external r withdraw u → IsReadableUpdate p external u
readable_by p external bytes r is octets withdraw u by false =
    let f = field_octets p external bytes r is octets in
    readable_said false p external bytes r is octets withdraw (hop_of r.kept) r.withdrawn r.announced u.first
    (λ n e. first_hop_read p external is.attributes is.steps is.runs is.are f.attributes n (ap hop_of (sym is.kept) ∙ e))
    (address_prefixes_read false is.withdrawn r.withdrawn f.withdrawn is.withdraws) (address_prefixes_read false is.announced r.announced f.announced is.announces) by.first
readable_by p external bytes r is octets withdraw u by true =
    let f = field_octets p external bytes r is octets in
    let announced = second_announced_read p external is.attributes is.steps is.runs is.are f.attributes r.reach (subst (λ kept. Says IsReach (multiprotocol_of p 14 kept) r.reach) is.kept is.reaches) in
    let withdrawn = second_withdrawn_read p external is.attributes is.steps is.runs is.are f.attributes r.unreach (subst (λ kept. Says IsUnreach (multiprotocol_of p 15 kept) r.unreach) is.kept is.unreaches) in
    readable_said true p external bytes r is octets withdraw (hop_by r.reach) (withdrawn_by r.unreach) (announced_by r.reach) u.second announced.1 withdrawn announced.0 by.second

pub read_is_readable : (p : Profile) (external : Bool) (bytes : List ℕ) (u : Update) → AreOctets bytes → Reads p external bytes (messages.Update u) → IsReadableUpdate p external u
read_is_readable p external bytes u octets reads = readable_by p external bytes reads.0 reads.1 (all_every (λ b. b < 256) bytes octets) reads.0.withdraw u reads.2

each_octet : (bytes : List ℕ) → ((i : ℕ) → Fits w8 (get_or bytes i 0)) → Octets bytes
each_octet [] each = tt
each_octet (b ∷ bytes) each = (omega (arith, each 0), each_octet bytes (λ i. each (suc i)))

-- what a slice of octets holds are octets
pub are_octets : (bytes : List ℕ) → ((i : ℕ) → Fits w8 (get_or bytes i 0)) → AreOctets bytes
are_octets bytes each = every_all (λ b. b < 256) bytes (each_octet bytes each)

pub answer_is_readable : (p : Profile) (external : Bool) (bytes : List ℕ) (m : Message) → AreOctets bytes → Answers p external bytes m → IsReadableMessage p external m
answer_is_readable p external bytes (messages.Update u) octets answers = read_is_readable p external bytes u octets answers
answer_is_readable p external bytes messages.Keepalive octets answers = tt
answer_is_readable p external bytes messages.Notification octets answers = tt
answer_is_readable p external bytes messages.Skip octets answers = tt
answer_is_readable p external bytes (messages.Refresh r) octets answers = tt
answer_is_readable p external bytes (messages.Notify n) octets answers = tt
