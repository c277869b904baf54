-- Exactly one of message and fault is there.
use Rattle.std.proofs.Common.{◌≡◌, ℕ, ◌<◌, Bool, true, false, cond, eqb, not, ◌&&◌, length, List, [], ◌∷◌, ◌++◌, Option, Some, None, Result, Ok, Err, refl, sym, ap, subst, ◌∙◌, inl, inr, arith}
use Rattle.std.specs.Prelude.{option_map}
use Rattle.addr4.specs.Prefixes.{AddressPrefix}
use Rattle.bgp_wire.specs.declared.multiprotocol.Reach.{Reach}
use Rattle.bgp_wire.specs.Said.{Said}
use Rattle.bgp_wire.specs.Multiprotocol.{announced_by, hop_by, withdrawn_by}
use Rattle.bgp_attr.specs.Attributes.{Attrs}
use Rattle.bgp_attr.specs.declared.speaker.Profile.{Profile}
use Rattle.bgp_wire.specs.declared.notice.Notice.{Notice}
use Rattle.bgp_wire.specs.declared.message.Update.{Update}
use Rattle.bgp_wire.specs.declared.message.RouteRefresh.{RouteRefresh}
use Rattle.bgp_wire.specs.declared.message.Message.{Message}
use Rattle.bgp_wire.specs.declared.message.Message.TheVariants as messages
use Rattle.bgp_wire.specs.Faults.{notice, err_of, ◌>>=◌}
use Rattle.bgp_wire.specs.Attributes.{Attribute, hop_at, kept_by}
use Rattle.bgp_wire.specs.Routes.{hop_of, AreAttrs}
use Rattle.bgp_wire.specs.Updates.{Reading, Content, update, keepalive, notification, opening, refresh, refresh_at, has_kind, missing, lack, lacks, header_at, reading_at, content_for, content_at, fault}
use Rattle.bgp_wire.specs.Grammar.{IsReading, IsRefresh, Holds, without, AreAttrsFor, IsSaidBy, IsUpdateBy, IsMessageBy, GivesUpdate, GivesMessage, Reads, Answers, OneAnswer}
use Rattle.bgp_wire.proofs.TestLemmas.{or_false_right}
use Rattle.bgp_wire.proofs.ResultLemmas.{same_ok, not_both}
use Rattle.bgp_wire.proofs.RouteLaws.{HasAll, has_kept, attrs_made, one_attrs}
use Rattle.bgp_wire.proofs.FrameLaws.{content_takes, content_again}

never : (p : Profile) (kind : ℕ) → lack p (Some kind) ≡ Ok false → ⊥
never p kind e = by_test p.revised e
  where
    by_test : (b : Bool) → cond b (Ok true) (Err (notice 3 3 (kind ∷ []))) ≡ Ok false → ⊥
    by_test true e = absurd (cc)
    by_test false e = absurd (not_both _ false e)

-- an announcement that lacks nothing
pub has_all : (p : Profile) (ipv4 : Bool) (kept : List Attribute) → lack p (missing ipv4 kept) ≡ Ok false → HasAll kept × (ipv4 ≡ true → has_kind 3 kept ≡ true)
has_all p ipv4 kept e = by_tests ipv4 (has_kind 1 kept) (has_kind 2 kept) (has_kind 3 kept) refl refl refl e
  where
    by_tests : (v a b c : Bool) → has_kind 1 kept ≡ a → has_kind 2 kept ≡ b → has_kind 3 kept ≡ c → lack p (cond (not a) (Some 1) (cond (not b) (Some 2) (cond (v && not c) (Some 3) None))) ≡ Ok false → HasAll kept × (v ≡ true → has_kind 3 kept ≡ true)
    by_tests v true true true f g h e = (record { origin = f; path = g }, λ _. h)
    by_tests v false b c f g h e = absurd (never p 1 e)
    by_tests v true false c f g h e = absurd (never p 2 e)
    by_tests true true true false f g h e = absurd (never p 3 e)
    by_tests false true true false f g h e = (record { origin = f; path = g }, λ is. absurd (cc))

-- what the prefixes of IPv4 and of IPv6 that are announced have
pub record HasFor (ns ms : List AddressPrefix) (kept : List Attribute) : Type 0 where
  pub first : 0 < length ns → HasAll kept × ((n : ℕ) × (hop_of kept ≡ Some n))
  pub second : 0 < length ms → HasAll kept

pub has_for : (p : Profile) (first second : List AddressPrefix) (kept : List Attribute) → lacks p first second kept ≡ Ok false → HasFor first second kept
has_for p [] [] kept e = record { first = λ some. absurd (omega arith); second = λ some. absurd (omega arith) }
has_for p [] (m ∷ ms) kept e = record { first = λ some. absurd (omega arith); second = λ _. (has_all p false kept e).0 }
has_for p (n ∷ ns) ms kept e =
    let has = has_all p true kept e in
    let h = has_kept 3 kept (has.1 refl) in
    record { first = λ _. (has.0, (hop_at h.0.value, ap (option_map (λ (a : Attribute). hop_at a.value)) h.1)); second = λ _. has.0 }

-- IPv6's next hop stands with its prefixes
pub hop_beside : (r : Option Reach) → 0 < length (announced_by r) → (n : ℕ) × (hop_by r ≡ Some n)
hop_beside None some = absurd (omega arith)
hop_beside (Some r) some = (r.next_hop, refl)

made_for : (p : Profile) (external : Bool) (bytes : List ℕ) (r : Reading) → IsReading p external bytes r → (hop : Option ℕ) (ps : List AddressPrefix) → (0 < length ps → HasAll r.kept × ((n : ℕ) × (hop ≡ Some n))) → (attrs : Option Attrs) × AreAttrsFor p external r.kept hop ps attrs
made_for p external bytes r is hop [] has = (None, refl)
made_for p external bytes r is hop (n ∷ ps) has =
    let all = has (omega arith) in
    let made = attrs_made p external is.attributes is.steps is.runs is.are (subst HasAll is.kept all.0) hop all.1.0 all.1.1 in
    (Some made.0, subst (λ kept. AreAttrs p external kept hop made.0) (sym is.kept) made.1)

-- what is said of a family is there
said_made : (p : Profile) (external : Bool) (bytes : List ℕ) (r : Reading) → IsReading p external bytes r → (withdraw : Bool) (hop : Option ℕ) (ws ns : List AddressPrefix) → (withdraw ≡ false → 0 < length ns → HasAll r.kept × ((n : ℕ) × (hop ≡ Some n)))
    → (s : Said) × IsSaidBy p external r.kept withdraw hop ws ns s
said_made p external bytes r is true hop ws ns has = (record { withdrawn = without ns ws ++ ns; announced = []; attrs = None }, record { withdrawn = refl; announced = refl; attrs = refl })
said_made p external bytes r is false hop ws ns has =
    let made = made_for p external bytes r is hop ns (has refl) in
    (record { withdrawn = ws; announced = ns; attrs = made.0 }, record { withdrawn = refl; announced = refl; attrs = made.1 })

-- an UPDATE is there
update_made : (p : Profile) (external : Bool) (bytes : List ℕ) (r : Reading) → IsReading p external bytes r → (u : Update) × IsUpdateBy p external r r.withdraw u
update_made p external bytes r is =
    let first = said_made p external bytes r is r.withdraw (hop_of r.kept) r.withdrawn r.announced (λ e some. (has e).first some) in
    let second = said_made p external bytes r is r.withdraw (hop_by r.reach) (withdrawn_by r.unreach) (announced_by r.reach) (λ e some. ((has e).second some, hop_beside r.reach some)) in
    (record { first = first.0; second = second.0 }, record { first = first.1; second = second.1 })
  where
    has : r.withdraw ≡ false → HasFor r.announced (announced_by r.reach) r.kept
    has e =
        let none = or_false_right (kept_by is.steps is.runs).1 is.lacking (sym is.withdraw ∙ e) in
        has_for p r.announced (announced_by r.reach) r.kept (is.complete ∙ ap (λ b. Ok b) none)

one_attrs_for : (p : Profile) (external : Bool) (kept : List Attribute) (hop : Option ℕ) (ns : List AddressPrefix) (a b : Option Attrs) → AreAttrsFor p external kept hop ns a → AreAttrsFor p external kept hop ns b → a ≡ b
one_attrs_for p external kept hop [] a b f g = f ∙ sym g
one_attrs_for p external kept hop (n ∷ ns) None b f g = absurd f
one_attrs_for p external kept hop (n ∷ ns) (Some a) None f g = absurd g
one_attrs_for p external kept hop (n ∷ ns) (Some a) (Some b) f g = ap (λ x. Some x) (one_attrs p external kept hop a b f g)

one_said : (p : Profile) (external : Bool) (kept : List Attribute) (withdraw : Bool) (hop : Option ℕ) (ws ns : List AddressPrefix) (s t : Said) → IsSaidBy p external kept withdraw hop ws ns s → IsSaidBy p external kept withdraw hop ws ns t → s ≡ t
one_said p external kept true hop ws ns s t f g = λ i. record { withdrawn = (f.withdrawn ∙ sym g.withdrawn) i; announced = (f.announced ∙ sym g.announced) i; attrs = (f.attrs ∙ sym g.attrs) i }
one_said p external kept false hop ws ns s t f g =
    let attrs = one_attrs_for p external kept hop ns s.attrs t.attrs f.attrs g.attrs in
    λ i. record { withdrawn = (f.withdrawn ∙ sym g.withdrawn) i; announced = (f.announced ∙ sym g.announced) i; attrs = attrs i }

-- and it is one alone
pub one_update : (p : Profile) (external : Bool) (r : Reading) (withdraw : Bool) (u v : Update) → IsUpdateBy p external r withdraw u → IsUpdateBy p external r withdraw v → u ≡ v
one_update p external r withdraw u v f g =
    let first = one_said p external r.kept withdraw (hop_of r.kept) r.withdrawn r.announced u.first v.first f.first g.first in
    let second = one_said p external r.kept withdraw (hop_by r.reach) (withdrawn_by r.unreach) (announced_by r.reach) u.second v.second f.second g.second in
    λ i. record { first = first i; second = second i }

-- ---- messages

pub by_content : (p : Profile) (external : Bool) (bytes : List ℕ) (m : Message) → Reads p external bytes m → (c : Content) × Holds p external bytes c × IsMessageBy p external c m
by_content p external bytes (messages.Update u) reads = (update reads.0, reads.1, reads.2)
by_content p external bytes messages.Keepalive reads = (keepalive, reads, tt)
by_content p external bytes messages.Notification reads = (notification, reads, tt)
by_content p external bytes messages.Skip reads = (opening, reads, tt)
by_content p external bytes (messages.Refresh r) reads = (refresh r, reads, refl)
by_content p external bytes (messages.Notify n) reads = absurd reads

pub from_content : (p : Profile) (external : Bool) (bytes : List ℕ) (c : Content) (m : Message) → Holds p external bytes c → IsMessageBy p external c m → Reads p external bytes m
from_content p external bytes (update r) (messages.Update u) holds is = (r, holds, is)
from_content p external bytes keepalive messages.Keepalive holds is = holds
from_content p external bytes notification messages.Notification holds is = holds
from_content p external bytes opening messages.Skip holds is = holds
from_content p external bytes (refresh r) (messages.Refresh asked) holds is = subst (IsRefresh bytes) (sym is) holds
from_content p external bytes c other holds is = absurd is

message_made : (p : Profile) (external : Bool) (bytes : List ℕ) (c : Content) → Holds p external bytes c → (m : Message) × IsMessageBy p external c m
message_made p external bytes (update r) holds = let u = update_made p external bytes r holds in (messages.Update u.0, u.1)
message_made p external bytes keepalive holds = (messages.Keepalive, tt)
message_made p external bytes notification holds = (messages.Notification, tt)
message_made p external bytes opening holds = (messages.Skip, tt)
message_made p external bytes (refresh r) holds = (messages.Refresh r, refl)

pub one_message_by : (p : Profile) (external : Bool) (c : Content) (m n : Message) → IsMessageBy p external c m → IsMessageBy p external c n → m ≡ n
one_message_by p external (update r) (messages.Update u) (messages.Update v) f g = ap (λ u. messages.Update u) (one_update p external r r.withdraw u v f g)
one_message_by p external (update r) (messages.Update u) other f g = absurd g
one_message_by p external (update r) other n f g = absurd f
one_message_by p external keepalive m n f g = keepalive_is m f ∙ sym (keepalive_is n g)
  where
    keepalive_is : (m : Message) → IsMessageBy p external keepalive m → m ≡ messages.Keepalive
    keepalive_is messages.Keepalive h = refl
    keepalive_is other h = absurd h
one_message_by p external notification m n f g = notification_is m f ∙ sym (notification_is n g)
  where
    notification_is : (m : Message) → IsMessageBy p external notification m → m ≡ messages.Notification
    notification_is messages.Notification h = refl
    notification_is other h = absurd h
one_message_by p external opening m n f g = opening_is m f ∙ sym (opening_is n g)
  where
    opening_is : (m : Message) → IsMessageBy p external opening m → m ≡ messages.Skip
    opening_is messages.Skip h = refl
    opening_is other h = absurd h
one_message_by p external (refresh r) m n f g = refresh_is m f ∙ sym (refresh_is n g)
  where
    refresh_is : (m : Message) → IsMessageBy p external (refresh r) m → m ≡ messages.Refresh r
    refresh_is (messages.Refresh asked) h = ap (λ (asked : RouteRefresh). messages.Refresh asked) h
    refresh_is other h = absurd h

-- octets are one message at most
pub one_message : (p : Profile) (external : Bool) (bytes : List ℕ) (m n : Message) → Reads p external bytes m → Reads p external bytes n → m ≡ n
one_message p external bytes m n f g =
    let c = by_content p external bytes m f in
    let d = by_content p external bytes n g in
    let same : d.0 ≡ c.0 = same_ok d.0 c.0 (sym (content_again p external bytes d.0 d.1) ∙ content_again p external bytes c.0 c.1) in
    one_message_by p external c.0 m n c.2 (subst (λ c. IsMessageBy p external c n) same d.2)

-- octets with a fault are no message
pub no_message : (p : Profile) (external : Bool) (bytes : List ℕ) (n : Notice) (m : Message) → fault p external bytes ≡ Some n → Reads p external bytes m → ⊥
no_message p external bytes n m e reads =
    let c = by_content p external bytes m reads in
    differ (sym (ap err_of (content_again p external bytes c.0 c.1)) ∙ e)
  where
    differ : ◌≡◌ {A = Option Notice} None (Some n) → ⊥
    differ e = absurd (cc)

-- exactly one of message and fault is there
pub one_answer : (p : Profile) (external : Bool) (bytes : List ℕ) → OneAnswer p external bytes
one_answer p external bytes = by_answer (content_at p external bytes) refl
  where
    by_answer : (r : Result Content Notice) → content_at p external bytes ≡ r → OneAnswer p external bytes
    by_answer (Ok c) e =
        let holds = content_takes p external bytes c e in
        let m = message_made p external bytes c holds in
        let reads = from_content p external bytes c m.0 holds m.1 in
        inl (ap err_of e, (m.0, reads, λ other also. one_message p external bytes m.0 other reads also))
    by_answer (Err n) e =
        let f = ap err_of e in
        inr (n, f, λ m reads. no_message p external bytes n m f reads)

-- ---- what the code answers
no_fault_is : {A : Type 0} (x : A) (n : Notice) → err_of (Ok x) ≡ Some n → ⊥
no_fault_is x n e = absurd (cc)

same_notice : (n m : Notice) → ◌≡◌ {A = Option Notice} (Some n) (Some m) → n ≡ m
same_notice n m e = cc

answers_from : (p : Profile) (external : Bool) (bytes : List ℕ) (m : Message) → Reads p external bytes m → Answers p external bytes m
answers_from p external bytes (messages.Update u) reads = reads
answers_from p external bytes messages.Keepalive reads = reads
answers_from p external bytes messages.Notification reads = reads
answers_from p external bytes messages.Skip reads = reads
answers_from p external bytes (messages.Refresh r) reads = reads
answers_from p external bytes (messages.Notify n) reads = absurd reads

pub answers_message : (p : Profile) (external : Bool) (bytes : List ℕ) (m : Message) → GivesMessage p external (Ok m) (content_at p external bytes) → Answers p external bytes m
answers_message p external bytes m given = answers_from p external bytes m (from_content p external bytes given.0 m (content_takes p external bytes given.0 given.1) given.2)

pub only_message : (p : Profile) (external : Bool) (bytes : List ℕ) (m : Message) → GivesMessage p external (Ok m) (content_at p external bytes) → (other : Message) → Answers p external bytes other → m ≡ other
only_message p external bytes m given other answers = by_other other answers
  where
    reads : Reads p external bytes m
    reads = from_content p external bytes given.0 m (content_takes p external bytes given.0 given.1) given.2

    by_other : (other : Message) → Answers p external bytes other → m ≡ other
    by_other (messages.Update u) answers = one_message p external bytes m (messages.Update u) reads answers
    by_other messages.Keepalive answers = one_message p external bytes m messages.Keepalive reads answers
    by_other messages.Notification answers = one_message p external bytes m messages.Notification reads answers
    by_other messages.Skip answers = one_message p external bytes m messages.Skip reads answers
    by_other (messages.Refresh r) answers = one_message p external bytes m (messages.Refresh r) reads answers
    by_other (messages.Notify n) answers = absurd (no_fault_is given.0 n (sym (ap err_of given.1) ∙ answers))

pub answers_fault : (p : Profile) (external : Bool) (bytes : List ℕ) (n : Notice) → content_at p external bytes ≡ Err n → fault p external bytes ≡ Some n
answers_fault p external bytes n e = ap err_of e

pub only_fault : (p : Profile) (external : Bool) (bytes : List ℕ) (n : Notice) → content_at p external bytes ≡ Err n → (other : Message) → Answers p external bytes other → messages.Notify n ≡ other
only_fault p external bytes n e (messages.Notify m) answers = ap (λ n. messages.Notify n) (same_notice n m (sym (answers_fault p external bytes n e) ∙ answers))
only_fault p external bytes n e (messages.Update u) answers = absurd (no_message p external bytes n (messages.Update u) (answers_fault p external bytes n e) answers)
only_fault p external bytes n e messages.Keepalive answers = absurd (no_message p external bytes n messages.Keepalive (answers_fault p external bytes n e) answers)
only_fault p external bytes n e messages.Notification answers = absurd (no_message p external bytes n messages.Notification (answers_fault p external bytes n e) answers)
only_fault p external bytes n e messages.Skip answers = absurd (no_message p external bytes n messages.Skip (answers_fault p external bytes n e) answers)
only_fault p external bytes n e (messages.Refresh r) answers = absurd (no_message p external bytes n (messages.Refresh r) (answers_fault p external bytes n e) answers)

-- an UPDATE is a message
pub update_content : (p : Profile) (external : Bool) (bytes : List ℕ) (kind : ℕ) (u : Update) → header_at bytes ≡ Ok kind → eqb kind 1 ≡ false → eqb kind 3 ≡ false → eqb kind 4 ≡ false → eqb kind 5 ≡ false
    → GivesUpdate p external (Ok u) (reading_at p external bytes) → GivesMessage p external (Ok (messages.Update u)) (content_at p external bytes)
unfolding content_at
update_content p external bytes kind u header not_1 not_3 not_4 not_5 given =
    let r = given.0 in
    (update r, ap (λ h. h >>= λ kind. content_for p external bytes kind) header ∙ (λ i. cond (not_1 i) (Ok opening) (cond (not_3 i) (Ok notification) (cond (not_4 i) (Ok keepalive) (cond (not_5 i) (Ok (refresh (refresh_at bytes))) (given.1 i >>= λ r. Ok (update r)))))), given.2)

-- and so is a ROUTE-REFRESH
pub refresh_content : (p : Profile) (external : Bool) (bytes : List ℕ) (kind : ℕ) (r : RouteRefresh) → header_at bytes ≡ Ok kind → kind ≡ 5 → r ≡ refresh_at bytes → GivesMessage p external (Ok (messages.Refresh r)) (content_at p external bytes)
unfolding content_at
refresh_content p external bytes kind r header five is =
    (refresh (refresh_at bytes), ap (λ h. h >>= λ kind. content_for p external bytes kind) header ∙ ap (λ (k : ℕ). content_for p external bytes k) five, is)
