-- What is sent is read as it is.
use Rattle.std.proofs.Common.{◌≡◌, ℕ, ◌+◌, ◌<◌, ◌≤◌, Bool, true, false, cond, ◌&&◌, nat_le, ◌^◌, List, length, Option, Some, None, refl, sym, ap, subst, ◌∙◌, arith}
use Rattle.std.specs.Prelude.{All, MatchOption, IsSome}
use Rattle.std.specs.Option.{ForSome}
use Rattle.std.proofs.lemmas.Bool.Decides.{nat_tests}
use Rattle.addr4.specs.Prefixes.{AddressPrefix}
use Rattle.bgp_attr.specs.Attributes.{Attrs}
use Rattle.bgp_attr.specs.declared.attrs.Origin.{Origin}
use Rattle.bgp_attr.specs.Routes.{Route}
use Rattle.bgp_attr.specs.declared.speaker.Profile.{Profile}
use Rattle.bgp_attr.specs.Speakers.{Speaker, IsProfileOf}
use Rattle.bgp_attr.specs.Reflections.{Reflected, not_reflected}
use Rattle.bgp_wire.specs.declared.message.Update.{Update}
use Rattle.bgp_wire.specs.declared.message.Message.TheVariants as messages
use Rattle.bgp_wire.specs.Grammar.{Reads}
use Rattle.bgp_wire.specs.Said.{Said}
use Rattle.bgp_wire.specs.Lengths.{announcement_length}
use Rattle.addr4.specs.Families.{IsPrefixOf}
use Rattle.bgp_wire.specs.Readable.{IsReadable, IsHost, AreOctets, Speaks, said_of, said_in, announcing, withdrawing}
use Rattle.bgp_wire.specs.Spelling.{FitsAttrs, update_octets}
use Rattle.bgp_wire.proofs.MessageLaws.{one_message}
use Rattle.bgp_wire.proofs.ReadableMessages.{read_is_readable}
use Rattle.wire_laws.proofs.Prepended.{prepended_is_readable, readable_fits}
use Rattle.wire_laws.proofs.SaidAgain.{internal_reads}
use Rattle.wire_laws.proofs.SpelledMessages.{announcement_is_read, withdrawal_is_read}
use Rattle.link_change.specs.Changes.{Change}
use Rattle.peer_out.specs.Forms.{reflected_from, sent_form}
use Rattle.peer_out.specs.Changes.{saying, message_octets, IsReadAs, MayBeHeard, IsSender, IsSentOf, HasNumbers, CanBeRead}
use Rattle.peer_out.specs.Laws.{bare_attrs}

-- what reflectors add is sent by reflectors alone, who read it
originator_read : (reflect : Bool) (r : Reflected) → ForSome (cond reflect r not_reflected).originator (λ n. n < 2 ^ 32)
    → ForSome (cond reflect r not_reflected).originator (λ n. ((reflect && true) ≡ true) × (n < 2 ^ 32))
originator_read true r numbers = λ n e. (refl, numbers n e)
originator_read false r numbers = λ n e. absurd (cc)

clusters_read : (reflect : Bool) (r : Reflected) → All (λ n. n < 2 ^ 32) (cond reflect r not_reflected).clusters
    → All (λ n. ((reflect && true) ≡ true) × (n < 2 ^ 32)) (cond reflect r not_reflected).clusters
clusters_read true r numbers = λ k d lt. (refl, numbers k d lt)
clusters_read false r numbers = λ k d lt. absurd (omega arith)

form_readable : (profile : Profile) (external : Bool) (me : Speaker) (row : Route) → IsSender profile me → MayBeHeard profile row.attrs → HasNumbers (sent_form profile me external row)
    → IsReadable profile.second profile external (sent_form profile me external row)
form_readable profile true me row sender heard numbers = record {
  path = prepended_is_readable profile.as4 (1 + row.prepend) me.asn row.attrs.path sender.asn heard.path;
  next_hop = sender.addr;
  med = numbers.med;
  local_pref = λ n e. absurd (cc);
  aggregator = heard.aggregator;
  originator = λ n e. absurd (cc);
  clusters = λ k n lt. absurd (omega arith);
  order = heard.order;
  types = heard.types;
}
form_readable profile false me row sender heard numbers = record {
  path = heard.path;
  next_hop = heard.next_hop;
  med = numbers.med;
  local_pref = λ n e. (refl, numbers.local_pref n e);
  aggregator = heard.aggregator;
  originator = originator_read profile.reflect (reflected_from me row.from row.attrs.reflection) numbers.originator;
  clusters = clusters_read profile.reflect (reflected_from me row.from row.attrs.reflection) numbers.clusters;
  order = heard.order;
  types = heard.types;
}

-- the family is spoken
speaks : (v6 : Bool) (profile : Profile) → IsProfileOf v6 profile → Speaks profile profile.second
speaks v6 profile of is = of.spoken (sym of.second ∙ is)

of_second : (v6 : Bool) (profile : Profile) (p : AddressPrefix) → IsProfileOf v6 profile → IsPrefixOf v6 p → IsPrefixOf profile.second p
of_second v6 profile p of network = subst (λ (b : Bool). IsPrefixOf b p) (sym of.second) network

-- what is sent is the form, and fits
sent_by : (b : Bool) (n : ℕ) (form a : Attrs) → nat_le n 4096 ≡ b → cond b (Some form) None ≡ Some a → (form ≡ a) × (n ≤ 4096)
sent_by true n form a test e = (cc, grind (arith, nat_tests))
sent_by false n form a test e = absurd (cc)

pub sent_is_readable : (profile : Profile) (external : Bool) (p : AddressPrefix) (a : Attrs) → IsSentOf profile external p a → HasNumbers a → CanBeRead profile external p a
sent_is_readable profile external p a is numbers =
    let form = sent_form profile is.me external is.row in
    let by = sent_by (nat_le (announcement_length profile.second profile.as4 p form) 4096) (announcement_length profile.second profile.as4 p form) form a refl is.sent in
    let C : Attrs → Type 0 = CanBeRead profile external p in
    subst C by.0 (record { readable = form_readable profile external is.me is.row is.sender is.heard (subst HasNumbers (sym by.0) numbers); short = by.1 })

pub short_of : (v6 : Bool) (profile : Profile) (external : Bool) (p : AddressPrefix) (a : Attrs) → IsProfileOf v6 profile → CanBeRead profile external p a → announcement_length v6 profile.as4 p a ≤ 4096
short_of v6 profile external p a of can = subst (λ (b : Bool). announcement_length b profile.as4 p a ≤ 4096) of.second can.short

-- the octets of a change, by the row after it
change_by : (v6 : Bool) (profile : Profile) (external : Bool) (p : AddressPrefix) (after : Option Attrs) → IsProfileOf v6 profile → IsPrefixOf v6 p → ForSome after (CanBeRead profile external p) → (before : Option Attrs)
    → Reads profile external (message_octets profile (record { prefix = p; before = before; after = after })) (messages.Update (said_in profile.second (saying p after)))
change_by v6 profile external p None of network can before = withdrawal_is_read profile external profile.second p (speaks v6 profile of) (of_second v6 profile p of network)
change_by v6 profile external p (Some a) of network can before =
    let c = can a refl in announcement_is_read profile external profile.second p a (speaks v6 profile of) (of_second v6 profile p of network) c.readable c.short

pub reads_change : (v6 : Bool) (profile : Profile) (external : Bool) (change : Change Attrs) → IsProfileOf v6 profile → IsPrefixOf v6 change.prefix → ForSome change.after (CanBeRead profile external change.prefix)
    → IsReadAs profile external (message_octets profile change) (saying change.prefix change.after)
reads_change v6 profile external change of network can =
    let reads = change_by v6 profile external change.prefix change.after of network can change.before in
    let octets = message_octets profile change in
    record { reads = reads; only = λ m also. one_message profile external octets m (messages.Update (said_in profile.second (saying change.prefix change.after))) also reads }

-- octets of a change, as the peer reads them
pub said : (v6 : Bool) (profile : Profile) (external : Bool) (change : Change Attrs) (octets : List ℕ) → IsProfileOf v6 profile → IsPrefixOf v6 change.prefix → ForSome change.after (CanBeRead profile external change.prefix)
    → octets ≡ message_octets profile change → IsReadAs profile external octets (saying change.prefix change.after)
said v6 profile external change octets of network can is =
    subst (λ (bytes : List ℕ). IsReadAs profile external bytes (saying change.prefix change.after)) (sym is) (reads_change v6 profile external change of network can)

-- they are no longer than a message
pub no_longer : (profile : Profile) (external : Bool) (octets : List ℕ) (s : Said) → IsReadAs profile external octets s → length octets ≤ 4096
no_longer profile external octets s is = is.reads.1.frame.top

-- their octets are read as the announcement
pub announcement_said : (v6 : Bool) (profile : Profile) (external : Bool) (p : AddressPrefix) (a : Attrs) (octets : List ℕ) → IsProfileOf v6 profile → IsPrefixOf v6 p → CanBeRead profile external p a
    → octets ≡ update_octets v6 profile.as4 (announcing p a) → IsReadAs profile external octets (announcing p a)
announcement_said v6 profile external p a octets of network can written =
    said v6 profile external (record { prefix = p; before = None; after = Some a }) octets of network (λ x e. let same : a ≡ x = cc in subst (CanBeRead profile external p) same can) (written ∙ ap (λ (b : Bool). update_octets b profile.as4 (announcing p a)) (sym of.second))

-- or as the withdrawal
pub withdrawal_said : (v6 : Bool) (profile : Profile) (external : Bool) (p : AddressPrefix) (octets : List ℕ) → IsProfileOf v6 profile → IsPrefixOf v6 p
    → octets ≡ update_octets v6 profile.as4 (withdrawing p) → IsReadAs profile external octets (withdrawing p)
withdrawal_said v6 profile external p octets of network written =
    said v6 profile external (record { prefix = p; before = None; after = None }) octets of network (λ x e. absurd (cc)) (written ∙ ap (λ (b : Bool). update_octets b profile.as4 (withdrawing p)) (sym of.second))

-- an announcement that fits is written
pub is_there : {A : Type 0} (o : Option A) (n : ℕ) (P : A → Type 0) → MatchOption o (4096 < n) P → n ≤ 4096 → IsSome o
is_there None n P long short = absurd (omega arith)
is_there (Some x) n P fits short = refl

pub sent_fits : (profile : Profile) (external : Bool) (p : AddressPrefix) (a : Attrs) → CanBeRead profile external p a → FitsAttrs profile.as4 a
sent_fits profile external p a can = readable_fits profile.second profile external a can.readable

pub read_may_be_heard : (profile : Profile) (external : Bool) (bytes : List ℕ) (u : Update) (a : Attrs) → AreOctets bytes → Reads profile external bytes (messages.Update u) → (said_of profile.second u).attrs ≡ Some a → MayBeHeard profile a
read_may_be_heard profile external bytes u a octets reads e = let r = read_is_readable profile external bytes u octets reads in internal_reads profile.second profile external a ((r profile.second).attrs a e)

pub bare_may_be_heard : (profile : Profile) (origin : Origin) (next_hop : ℕ) → IsHost profile.second next_hop → MayBeHeard profile (bare_attrs origin next_hop)
bare_may_be_heard profile origin next_hop host = record {
  path = λ k s lt. absurd (omega arith);
  next_hop = host;
  med = λ n e. absurd (cc);
  local_pref = λ n e. absurd (cc);
  aggregator = λ g e. absurd (cc);
  originator = λ n e. absurd (cc);
  clusters = λ k n lt. absurd (omega arith);
  order = tt;
  types = λ k u lt. absurd (omega arith);
}
