-- What a peer said in an UPDATE of one prefix is said again in the one spelling, and is read as it was.
use Rattle.std.proofs.Common.{◌≡◌, ◌⊎◌, ℕ, ◌+◌, ◌≤◌, ◌<◌, Bool, true, false, cond, not, ◌&&◌, List, [], ◌∷◌, ◌++◌, length, Option, Some, None, refl, sym, ap, subst, ◌∙◌, inl, inr, arith}
use Rattle.std.specs.Prelude.{All}
use Rattle.std.proofs.lemmas.List.{length-append}
use Rattle.addr4.specs.Families.{bits_of, IsPrefixOf}
use Rattle.addr4.specs.Prefixes.{AddressPrefix}
use Rattle.bgp_attr.specs.Attributes.{Attrs}
use Rattle.bgp_attr.specs.declared.speaker.Profile.{Profile}
use Rattle.bgp_wire.specs.declared.message.Message.TheVariants as messages
use Rattle.bgp_wire.specs.declared.message.Update.{Update}
use Rattle.bgp_wire.proofs.JudgedTypes.{Reach}
use Rattle.bgp_wire.specs.Said.{Said, nothing_said}
use Rattle.bgp_wire.specs.Multiprotocol.{IsReach, IsUnreach, announced_by, hop_by, withdrawn_by}
use Rattle.bgp_wire.specs.Prefixes.{octets_for, ArePrefixes}
use Rattle.bgp_wire.specs.Attributes.{Attribute, kept_by}
use Rattle.bgp_wire.specs.Routes.{kept_of, hop_of, multiprotocol_of, Says, AreAttrs}
use Rattle.bgp_wire.specs.Updates.{Reading}
use Rattle.bgp_wire.specs.Grammar.{IsReading, without, AreAttrsFor, IsSaidBy, Reads}
use Rattle.bgp_wire.specs.Spelling.{prefix_octets, sent_attributes, octets_of, fields_octets, update_octets}
use Rattle.bgp_wire.specs.Readable.{IsReadable, IsReadableSaid, AreOctets, HasOnePrefix, Speaks, said_in, announcing}
use Rattle.bgp_wire.specs.Lengths.{attributes_length, announcement_length}
use Rattle.bgp_wire.proofs.SpelledLengths.{length-framed, length-fields, length-announcement, length-sent-with}
use Rattle.wire_laws.proofs.SpelledNumbers.{spelled_prefixes}
use Rattle.wire_laws.proofs.SpelledAttributes.{IsSpoken}
use Rattle.wire_laws.proofs.SpelledMessages.{withdrawal_is_read, announcement_is_read}
use Rattle.wire_laws.proofs.LengthLaws.{HopNoLonger, one_length, one_announced, first_hop_no_longer, second_hop_no_longer, attributes_no_longer}
use Rattle.bgp_wire.proofs.ReadableLaws.{all_every, Octets}
use Rattle.bgp_wire.proofs.ReadableMessages.{field_octets, read_is_readable}

-- an announcement's octets, by the attributes'
pub announced_length : (v6 as4 : Bool) (n : AddressPrefix) (a : Attrs) → n.length ≤ bits_of v6 → announcement_length v6 as4 n a ≡ 24 + attributes_length v6 as4 a + octets_for n.length
announced_length v6 as4 n a short = omega (arith, length-announcement v6 as4 n a, length-append (prefix_octets n) [], one_length n (few v6 short))
  where
    few : (v6 : Bool) → n.length ≤ bits_of v6 → n.length ≤ 128
    few true le = le
    few false le = omega (arith, le)

-- ---- what was read of one family

-- the octets that its prefixes were read from, and those that its attributes were
pub record IsRoom (p : Profile) (external : Bool) (v6 : Bool) (bytes : List ℕ) (r : Reading) (is : IsReading p external bytes r) (hop : Option ℕ) (ns : List AddressPrefix) : Type 0 where
  pub speaks : 0 < length ns → Speaks p v6
  pub hops : (n : AddressPrefix) (m : ℕ) → ns ≡ n ∷ [] → hop ≡ Some m → HopNoLonger v6 (kept_by is.steps is.runs).0 m (n ∷ [])
  pub room : (n : AddressPrefix) (a : Attrs) → ns ≡ n ∷ [] → length (octets_of (sent_attributes v6 p.as4 a (n ∷ []))) ≤ length is.attributes → announcement_length v6 p.as4 n a ≤ 4096

first_room : (p : Profile) (external : Bool) (bytes : List ℕ) (r : Reading) (is : IsReading p external bytes r) → Octets bytes → IsRoom p external false bytes r is (hop_of r.kept) r.announced
unfolding attributes_length
first_room p external bytes r is octets =
    let f = field_octets p external bytes r is octets in
    record {
      speaks = λ some e. absurd (cc);
      hops = λ n m one hop. first_hop_no_longer p external is.attributes is.steps is.runs is.are f.attributes m (n ∷ []) (ap hop_of (sym is.kept) ∙ hop);
      room = λ n a one shorter.
          let are = subst (ArePrefixes false is.announced) one is.announces in
          omega (arith, announced_length false p.as4 n a are.3.short, shorter, one_announced false is.announced n are, f.whole, is.frame.top);
    }

second_room : (p : Profile) (external : Bool) (bytes : List ℕ) (r : Reading) (is : IsReading p external bytes r) → Octets bytes → IsRoom p external true bytes r is (hop_by r.reach) (announced_by r.reach)
unfolding attributes_length announcement_length
second_room p external bytes r is octets = by_reach r.reach refl
  where
    kept : List Attribute
    kept = (kept_by is.steps is.runs).0

    says : (x : Reach) → r.reach ≡ Some x → (p.v6 ≡ true) × ((a : Attribute) × (kept_of 14 (kept_by is.steps is.runs).0 ≡ Some a) × IsReach a.value x)
    says x e = said_of p.v6 (kept_of 14 (kept_by is.steps is.runs).0) x (subst (λ ks. Says IsReach (multiprotocol_of p 14 ks) (Some x)) is.kept (subst (Says IsReach (multiprotocol_of p 14 r.kept)) e is.reaches))
      where
        said_of : (v6 : Bool) (o : Option Attribute) (x : Reach) → Says IsReach (cond v6 o None) (Some x) → (v6 ≡ true) × ((a : Attribute) × (o ≡ Some a) × IsReach a.value x)
        said_of false o x says = absurd (cc)
        said_of true None x says = absurd (cc)
        said_of true (Some a) x says = (refl, (a, refl, says))

    by_reach : (o : Option Reach) → r.reach ≡ o → IsRoom p external true bytes r is (hop_by o) (announced_by o)
    by_reach None e = record { speaks = λ some. absurd (omega arith); hops = λ n m one hop. absurd (cc); room = λ n a one shorter. absurd (omega (arith, ap length one)) }
    by_reach (Some x) e =
        let s = says x e in
        let f = field_octets p external bytes r is octets in
        record {
          speaks = λ some _. s.0;
          hops = λ n m one hop.
              let same : x.next_hop ≡ m = cc in
              subst (λ h. HopNoLonger true (kept_by is.steps is.runs).0 h (n ∷ [])) same (second_hop_no_longer (kept_by is.steps is.runs).0 s.1.0 x n s.1.1 s.1.2 one);
          room = λ n a one shorter.
              let sent = octets_of (sent_attributes true p.as4 a (n ∷ [])) in
              omega (arith, length-framed 2 (fields_octets [] sent []), length-fields [] sent [], shorter, f.whole, is.frame.top);
        }

withdrawn_speaks : (p : Profile) (external : Bool) (bytes : List ℕ) (r : Reading) → IsReading p external bytes r → 0 < length (withdrawn_by r.unreach) → Speaks p true
withdrawn_speaks p external bytes r is some _ = by_v6 p.v6 refl r.unreach is.unreaches some
  where
    by_v6 : (b : Bool) → p.v6 ≡ b → (o : Option (List AddressPrefix)) → Says IsUnreach (cond b (kept_of 15 r.kept) None) o → 0 < length (withdrawn_by o) → p.v6 ≡ true
    by_v6 true e o says some = e
    by_v6 false e None says some = absurd (omega arith)
    by_v6 false e (Some ps) says some = absurd (cc)

-- ---- and is said again

abbrev pub Again : Profile → Bool → Bool → Said → Type 0
Again p external v6 s = Reads p external (update_octets v6 p.as4 s) (messages.Update (said_in v6 s))

announced_again : (p : Profile) (external : Bool) (v6 : Bool) (bytes : List ℕ) (r : Reading) (is : IsReading p external bytes r) → Octets bytes → (hop : Option ℕ) (n : AddressPrefix) (a : Attrs) → IsRoom p external v6 bytes r is hop (n ∷ [])
    → IsPrefixOf v6 n → IsReadable v6 p external a → AreAttrs p external r.kept hop a → Again p external v6 (announcing n a)
announced_again p external v6 bytes r is octets hop n a room network readable are =
    let f = field_octets p external bytes r is octets in
    let speaks = room.speaks (omega arith) in
    let shorter =
    attributes_no_longer v6 p external is.attributes is.steps is.runs hop a (n ∷ []) is.are f.attributes (subst (λ kept. AreAttrs p external kept hop a) is.kept are) readable (omega (arith, f.whole, is.frame.top))
    (room.hops n a.next_hop refl are.next_hop) (record { speaks = speaks; are = spelled_prefixes v6 n network; few = omega arith }) in
    announcement_is_read p external v6 n a speaks network readable (room.room n a refl shorter)

-- by the lists of prefixes
withdrawn_again : (p : Profile) (external : Bool) (v6 : Bool) (ws ns : List AddressPrefix) (attrs : Option Attrs) → (0 < length ws → Speaks p v6) → ns ≡ [] → attrs ≡ None → All (IsPrefixOf v6) ws → length ws + length ns ≡ 1 → Again p external v6 (record { withdrawn = ws; announced = ns; attrs = attrs })
withdrawn_again p external v6 [] [] attrs speaks none nothing networks one = absurd (omega arith)
withdrawn_again p external v6 ws (n ∷ ns) attrs speaks none nothing networks one = absurd (omega (arith, ap length none))
withdrawn_again p external v6 (w ∷ v ∷ ws) [] attrs speaks none nothing networks one = absurd (omega arith)
withdrawn_again p external v6 (w ∷ []) [] (Some a) speaks none nothing networks one = absurd (cc)
withdrawn_again p external v6 (w ∷ []) [] None speaks none nothing networks one = withdrawal_is_read p external v6 w (speaks (omega arith)) (networks 0 w (omega arith))

plain_again : (p : Profile) (external : Bool) (v6 : Bool) (bytes : List ℕ) (r : Reading) (is : IsReading p external bytes r) → Octets bytes → (hop : Option ℕ) (ws ns : List AddressPrefix) (attrs : Option Attrs) → (0 < length ws → Speaks p v6) → IsRoom p external v6 bytes r is hop ns
    → AreAttrsFor p external r.kept hop ns attrs → IsReadableSaid v6 p external (record { withdrawn = ws; announced = ns; attrs = attrs }) → length ws + length ns ≡ 1 → Again p external v6 (record { withdrawn = ws; announced = ns; attrs = attrs })
plain_again p external v6 bytes r is octets hop ws [] attrs speaks room are readable one = withdrawn_again p external v6 ws [] attrs speaks refl are readable.withdrawn one
plain_again p external v6 bytes r is octets hop [] (n ∷ []) None speaks room are readable one = absurd are
plain_again p external v6 bytes r is octets hop [] (n ∷ []) (Some a) speaks room are readable one =
    announced_again p external v6 bytes r is octets hop n a room (readable.announced 0 n (omega arith)) (readable.attrs a refl) are
plain_again p external v6 bytes r is octets hop ws (n ∷ m ∷ ns) attrs speaks room are readable one = absurd (omega arith)
plain_again p external v6 bytes r is octets hop (w ∷ ws) (n ∷ []) attrs speaks room are readable one = absurd (omega arith)

without_fewer : (ns ws : List AddressPrefix) → 0 < length (without ns ws ++ ns) → (0 < length ws) ⊎ (0 < length ns)
without_fewer ns [] some = inr some
without_fewer ns (w ∷ ws) some = inl (omega arith)

again_by : (p : Profile) (external : Bool) (v6 : Bool) (bytes : List ℕ) (r : Reading) (is : IsReading p external bytes r) → Octets bytes → (withdraw : Bool) (hop : Option ℕ) (ws ns : List AddressPrefix) (s : Said) → (0 < length ws → Speaks p v6) → IsRoom p external v6 bytes r is hop ns
    → IsSaidBy p external r.kept withdraw hop ws ns s → IsReadableSaid v6 p external s → HasOnePrefix s → Again p external v6 s
again_by p external v6 bytes r is octets true hop ws ns s speaks room by readable one =
    withdrawn_again p external v6 s.withdrawn s.announced s.attrs
    (λ some. elim (without_fewer ns ws (omega (arith, some, ap length by.withdrawn))) [
      | inl some ↦ speaks some
      | inr some ↦ room.speaks some
    ])
    by.announced by.attrs readable.withdrawn one
again_by p external v6 bytes r is octets false hop ws ns s speaks room by readable one =
    plain_again p external v6 bytes r is octets hop s.withdrawn s.announced s.attrs (λ some. speaks (omega (arith, some, ap length by.withdrawn)))
    (subst (IsRoom p external v6 bytes r is hop) (sym by.announced) room)
    (subst (λ ns. AreAttrsFor p external r.kept hop ns s.attrs) (sym by.announced) by.attrs)
    readable one

pub said_again : (p : Profile) (external : Bool) (v6 : Bool) (bytes : List ℕ) (s : Said) → AreOctets bytes → Reads p external bytes (messages.Update (said_in v6 s)) → HasOnePrefix s → Again p external v6 s
said_again p external false bytes s octets reads one =
    let r = reads.0 in
    let all = all_every (λ b. b < 256) bytes octets in
    again_by p external false bytes r reads.1 all r.withdraw (hop_of r.kept) r.withdrawn r.announced s (λ some e. absurd (cc)) (first_room p external bytes r reads.1 all) reads.2.first (read_is_readable p external bytes (said_in false s) octets reads false) one
said_again p external true bytes s octets reads one =
    let r = reads.0 in
    let all = all_every (λ b. b < 256) bytes octets in
    again_by p external true bytes r reads.1 all r.withdraw (hop_by r.reach) (withdrawn_by r.unreach) (announced_by r.reach) s (withdrawn_speaks p external bytes r reads.1) (second_room p external bytes r reads.1 all) reads.2.second
    (read_is_readable p external bytes (said_in true s) octets reads true) one

-- ---- without IPv6

nothing_by : (p : Profile) (external : Bool) (kept : List Attribute) (withdraw : Bool) (s : Said) → IsSaidBy p external kept withdraw None [] [] s → s ≡ nothing_said
nothing_by p external kept true s by = λ i. record { withdrawn = by.withdrawn i; announced = by.announced i; attrs = by.attrs i }
nothing_by p external kept false s by = λ i. record { withdrawn = by.withdrawn i; announced = by.announced i; attrs = by.attrs i }

pub nothing_of_ipv6 : (p : Profile) (external : Bool) (bytes : List ℕ) (u : Update) → p.v6 ≡ false → Reads p external bytes (messages.Update u) → u.second ≡ nothing_said
nothing_of_ipv6 p external bytes u plain reads =
    let r = reads.0 in
    let reach : r.reach ≡ None = subst (λ b. Says IsReach (cond b (kept_of 14 r.kept) None) r.reach) plain reads.1.reaches in
    let unreach : r.unreach ≡ None = subst (λ b. Says IsUnreach (cond b (kept_of 15 r.kept) None) r.unreach) plain reads.1.unreaches in
    let by = subst (λ x. IsSaidBy p external r.kept r.withdraw (hop_by r.reach) (withdrawn_by x) (announced_by r.reach) u.second) unreach reads.2.second in
    nothing_by p external r.kept r.withdraw u.second (subst (λ x. IsSaidBy p external r.kept r.withdraw (hop_by x) [] (announced_by x) u.second) reach by)

-- from an internal peer as much is read as from an external one
pub internal_reads : (v6 : Bool) (p : Profile) (external : Bool) (a : Attrs) → IsReadable v6 p external a → IsReadable v6 p false a
internal_reads v6 p external a readable = record {
  path = readable.path;
  next_hop = readable.next_hop;
  med = readable.med;
  local_pref = λ n e. (refl, (readable.local_pref n e).1);
  aggregator = readable.aggregator;
  originator = λ n e. let o = readable.originator n e in (inside p.reflect external o.0, o.1);
  clusters = λ k d lt. let c = readable.clusters k d lt in (inside p.reflect external c.0, c.1);
  order = readable.order;
  types = readable.types;
}
  where
    inside : (reflect external : Bool) → (reflect && not external) ≡ true → (reflect && true) ≡ true
    inside true external e = refl
    inside false external e = absurd (cc)
