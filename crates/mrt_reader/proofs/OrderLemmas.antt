-- The lines that records give stand where they may.
use Rattle.std.proofs.Common.{◌≡◌, ℕ, ◌+◌, ◌-◌, ◌<◌, ◌≤◌, ◌^◌, Bool, true, false, cond, not, ◌&&◌, ◌||◌, eqb, ltb, leb, List, [], ◌∷◌, ◌++◌, length, drop, Option, Some, None, refl, sym, ap, ◌∙◌, subst, arith, length-append}
use Rattle.std.specs.Prelude.{⊤}
use Rattle.std.proofs.lemmas.Bool.{ltb-true, leb-true, eqb-false}
use Rattle.std.proofs.lemmas.List.{get_or-set_same, get_or-drop, length-set}
use Rattle.std.proofs.lemmas.List.Quantifiers.{position-Some}
use Rattle.std.specs.List.{AllByRecursion}
use Rattle.byteorder.specs.Numbers.{big_from-lt}
use Rattle.addr4.specs.Families.{IsIpv4}
use Rattle.addr4.proofs.FrontLemmas.{front_ipv4}
use Rattle.addr4.specs.Hosts.{is_host}
use Rattle.mrt_reader.specs.Records.{Record, AreBytes, number_at, kind_in, subtype_in}
use Rattle.mrt_reader.specs.Fields as told
use Rattle.mrt_reader.specs.Fields.{Told, Said, said, said_in, said_of_ipv4, told_in, told_by_state, told_by_message, sides_in, are_speakers, width_of, start_of, interface_at, is_used, is_well_sized, state_subtype}
use Rattle.mrt_reader.specs.Lines.{Line}
use Rattle.mrt_reader.specs.Lines as lines
use Rattle.mrt_reader.specs.Sessions.{Written, nothing_written, unseen, peer_at, begun, with_peer, after, after_all, opening, local_by, place_of, meeting, place_by, hearing, met_lines, peer_lines, foreign_lines, opened_lines, lines_said, record_lines, records_lines, closing}
use Rattle.mrt_reader.specs.Order.{IsSpeaker, IsDeclared, IsForeign, AreInOrder, HasBytes, file_lines}
use Rattle.mrt_reader.specs.declared.fields.Sides.{Sides}

order_append : (as4 : Bool) (w : Written) (xs ys : List Line) → AreInOrder as4 w xs → AreInOrder as4 (after_all w xs) ys → AreInOrder as4 w (xs ++ ys)
order_append as4 w [] ys p q = q
order_append as4 w (l ∷ xs) ys p q = (p.0, order_append as4 (after w l) xs ys p.1 q)

-- ---- what is told of a peer

-- a message has as many octets as one may, which are bytes
abbrev pub IsTold : Told → Type 0
IsTold told.Established = ⊤
IsTold told.Ended = ⊤
IsTold (told.Message octets) = (0 < length octets) × (length octets ≤ 4096) × AreBytes octets
IsTold told.NoMessage = ⊤

state_is_told : (b : Bool) → IsTold (cond b told.Established told.Ended)
state_is_told true = tt
state_is_told false = tt

message_is_told : (octets : List ℕ) → AreBytes octets → (a b : Bool) → leb 1 (length octets) ≡ a → leb (length octets) 4096 ≡ b → IsTold (cond (a && b) (told.Message octets) told.NoMessage)
message_is_told octets bytes true true some few = (omega (arith, leb-true _ _ some), leb-true _ _ few, bytes)
message_is_told octets bytes true false some few = tt
message_is_told octets bytes false b some few = tt

bytes_behind : (n : ℕ) (octets : List ℕ) → AreBytes octets → AreBytes (drop n octets)
bytes_behind n octets bytes = λ i. subst (λ (x : ℕ). x < 256) (sym (get_or-drop n octets i 0)) (bytes (n + i))

is_told : (as4 : Bool) (kind subtype : ℕ) (body : List ℕ) → AreBytes body → IsTold (told_in as4 kind subtype body)
is_told as4 kind subtype body bytes = by_subtype (eqb subtype (state_subtype as4))
  where
    by_subtype : (b : Bool) → IsTold (cond b (told_by_state (number_at 2 (interface_at as4 kind + 14) body)) (told_by_message (drop (interface_at as4 kind + 12) body)))
    by_subtype true = state_is_told (eqb (number_at 2 (interface_at as4 kind + 14) body) 6)
    by_subtype false = message_is_told (drop (interface_at as4 kind + 12) body) (bytes_behind (interface_at as4 kind + 12) body bytes) _ _ refl refl

begins : (as4 : Bool) (w : Written) (k : ℕ) → IsDeclared w k → (up more : Bool) → (peer_at w (k - 1)).up ≡ up → ltb (peer_at w (k - 1)).sessions 65535 ≡ more → AreInOrder as4 w (cond up [] (cond more (lines.Up k ∷ []) []))
begins as4 w k d true more is few = tt
begins as4 w k d false true is few = ((d, is, ltb-true _ _ few), tt)
begins as4 w k d false false is few = tt

ends : (as4 : Bool) (w : Written) (k : ℕ) → IsDeclared w k → (up : Bool) → (peer_at w (k - 1)).up ≡ up → AreInOrder as4 w (cond up (lines.Down k ∷ []) [])
ends as4 w k d true is = ((d, is), tt)
ends as4 w k d false is = tt

-- a peer is up behind `up`
up_behind : (w : Written) (k : ℕ) → IsDeclared w k → (peer_at (with_peer w k begun) (k - 1)).up ≡ true
up_behind w k d = ap (λ p. p.up) (get_or-set_same w.peers (k - 1) (begun (peer_at w (k - 1))) (unseen 0) (omega (arith, d.least, d.most)))

still_declared : (w : Written) (k : ℕ) → IsDeclared w k → IsDeclared (with_peer w k begun) k
still_declared w k d = record { least = d.least; most = omega (arith, d.most, length-set w.peers (k - 1) (begun (peer_at w (k - 1)))) }

passes : (as4 : Bool) (w : Written) (k : ℕ) (octets : List ℕ) → IsDeclared w k → 0 < length octets → length octets ≤ 4096 → AreBytes octets → (up more : Bool) → (peer_at w (k - 1)).up ≡ up → ltb (peer_at w (k - 1)).sessions 65535 ≡ more → AreInOrder as4 w (cond up [] (cond more (lines.Up k ∷ []) []) ++ cond (up || more) (lines.Bgp k octets ∷ []) [])
passes as4 w k octets d some short bytes true more is few = ((d, is, some, short, bytes), tt)
passes as4 w k octets d some short bytes false true is few = ((d, is, ltb-true _ _ few), ((still_declared w k d, up_behind w k d, some, short, bytes), tt))
passes as4 w k octets d some short bytes false false is few = tt

hears : (as4 : Bool) (w : Written) (k : ℕ) (t : Told) → IsDeclared w k → IsTold t → AreInOrder as4 w (hearing k (peer_at w (k - 1)) t)
hears as4 w k told.Established d is = begins as4 w k d _ _ refl refl
hears as4 w k told.Ended d is = ends as4 w k d _ refl
hears as4 w k (told.Message octets) d is = passes as4 w k octets d is.0 is.1 is.2 _ _ refl refl
hears as4 w k told.NoMessage d is = tt

hears_at : (as4 : Bool) (w : Written) (i : ℕ) (t : Told) → i < length w.peers → IsTold t → AreInOrder as4 w (hearing (i + 1) (peer_at w i) t)
hears_at as4 w i t within is =
    let back : i + 1 - 1 ≡ i = omega arith in
    subst (λ (j : ℕ). AreInOrder as4 w (hearing (i + 1) (peer_at w j) t)) back (hears as4 w (i + 1) t (record { least = omega arith; most = omega (arith, within) }) is)

-- ---- a peer's lines

meets : (as4 : Bool) (w : Written) (s : Sides) (t : Told) → IsForeign s.peer w.local → IsSpeaker as4 s.peer_as s.peer → IsTold t → (place : Option ℕ) → place_of s.peer w.peers ≡ place → AreInOrder as4 w (met_lines w t (meeting s w.peers place) (place_by w.peers place))
meets as4 w s t foreign speaker is (Some i) e = hears_at as4 w i t (position-Some (λ p. eqb p.addr s.peer) w.peers i (unseen 0) e).0 is
meets as4 w s t foreign speaker is None e = by_room (ltb (length w.peers) 64) refl
  where
    by_room : (b : Bool) → ltb (length w.peers) 64 ≡ b → AreInOrder as4 w (met_lines w t (cond b (lines.Peer (length w.peers + 1) s.peer_as s.peer ∷ []) []) (cond b (Some (length w.peers)) None))
    by_room true few =
        let new : Written = record { local = w.local; peers = w.peers ++ unseen s.peer ∷ [] } in
        ((refl, omega (arith, ltb-true _ _ few), e, foreign, speaker), hears_at as4 new (length w.peers) t (omega (arith, length-append w.peers (unseen s.peer ∷ []))) is)
    by_room false few = tt

faces : (as4 : Bool) (w : Written) (s : Sides) (t : Told) (local : ℕ) → w.local ≡ Some local → IsSpeaker as4 s.peer_as s.peer → IsTold t → AreInOrder as4 w (foreign_lines local w s t)
faces as4 w s t local here speaker is = by_test (eqb local s.peer) refl
  where
    by_test : (b : Bool) → eqb local s.peer ≡ b → AreInOrder as4 w (cond b [] (peer_lines w s t))
    by_test true e = tt
    by_test false e = meets as4 w s t (subst (IsForeign s.peer) (sym here) e) speaker is (place_of s.peer w.peers) refl

-- ---- a record's lines

-- peers stand only where `local` does
abbrev pub IsBegun : Written → Type 0
IsBegun w = w.local ≡ None → w.peers ≡ []

opens : (as4 : Bool) (w : Written) (s : Sides) → w ≡ nothing_written → IsSpeaker as4 s.local_as s.local → AreInOrder as4 w (opening as4 s None)
opens true w s e speaker = ((refl, e), ((e, speaker), tt))
opens false w s e speaker = ((e, speaker), tt)

opened : (as4 : Bool) (w : Written) (s : Sides) → after_all w (opening as4 s None) ≡ record { local = Some s.local; peers = w.peers }
opened true w s = refl
opened false w s = refl

sessions_order : (as4 : Bool) (w : Written) (s : Sides) (t : Told) (local : Option ℕ) → w.local ≡ local → IsBegun w → IsSpeaker as4 s.peer_as s.peer → IsSpeaker as4 s.local_as s.local → IsTold t → AreInOrder as4 w (opened_lines (local_by s local) w s t (opening as4 s local))
sessions_order as4 w s t (Some local) e begun peer here is = faces as4 w s t local e peer is
sessions_order as4 w s t None e begun peer here is =
    let fresh : w ≡ nothing_written = λ i. record { local = e i; peers = begun e i } in
    order_append as4 w (opening as4 s None) (foreign_lines s.local (after_all w (opening as4 s None)) s t) (opens as4 w s fresh here)
    (faces as4 (after_all w (opening as4 s None)) s t s.local (ap (λ v. v.local) (opened as4 w s)) peer is)

-- ---- speakers

both_left : (a b : Bool) → (a && b) ≡ true → a ≡ true
both_left true b e = refl
both_left false b e = e

both_right : (a b : Bool) → (a && b) ≡ true → b ≡ true
both_right true b e = e
both_right false b e = absurd (cc)

other_than_zero : (n : ℕ) → not (eqb n 0) ≡ true → 0 < n
other_than_zero n e = by_test (eqb n 0) refl e
  where
    by_test : (b : Bool) → eqb n 0 ≡ b → not b ≡ true → 0 < n
    by_test true is f = absurd (cc)
    by_test false is f = let other = eqb-false n 0 is in omega (arith, other)

wide_number : (n i : ℕ) (octets : List ℕ) → AreBytes octets → number_at n i octets < 256 ^ n
wide_number n i octets bytes = big_from-lt 0 n (drop i octets) (bytes_behind i octets bytes)

as_speaker : (as4 : Bool) (i addr : ℕ) (octets : List ℕ) → AreBytes octets → not (eqb (number_at (width_of as4) i octets) 0) ≡ true → is_host false addr ≡ true → IsIpv4 addr → IsSpeaker as4 (number_at (width_of as4) i octets) addr
as_speaker true i addr octets bytes some host ipv4 = record {
  some = other_than_zero _ some;
  narrow = λ e. absurd (cc);
  wide = wide_number 4 i octets bytes;
  host = host;
  ipv4 = ipv4;
}
as_speaker false i addr octets bytes some host ipv4 =
    let narrow : number_at 2 i octets < 65536 = wide_number 2 i octets bytes in
    record { some = other_than_zero _ some; narrow = λ e. narrow; wide = omega (arith, narrow); host = host; ipv4 = ipv4 }

-- ---- what a record says

-- what is said of a session is of two speakers
abbrev pub IsFit : Bool → Said → Type 0
IsFit as4 told.Unused = ⊤
IsFit as4 told.Malformed = ⊤
IsFit as4 (told.Session s t) = IsSpeaker as4 s.peer_as s.peer × IsSpeaker as4 s.local_as s.local × IsTold t

fit_session : (as4 : Bool) (kind subtype : ℕ) (body : List ℕ) → AreBytes body → (b : Bool) → are_speakers (sides_in as4 kind body) ≡ b → IsFit as4 (cond b (told.Session (sides_in as4 kind body) (told_in as4 kind subtype body)) told.Unused)
fit_session as4 kind subtype body bytes false e = tt
fit_session as4 kind subtype body bytes true e =
    let s = sides_in as4 kind body in
    let three = both_left (not (eqb s.peer_as 0) && not (eqb s.local_as 0) && is_host false s.peer) (is_host false s.local) e in
    let two = both_left (not (eqb s.peer_as 0) && not (eqb s.local_as 0)) (is_host false s.peer) three in
    let peer_as = both_left (not (eqb s.peer_as 0)) (not (eqb s.local_as 0)) two in
    let local_as = both_right (not (eqb s.peer_as 0)) (not (eqb s.local_as 0)) two in
    let peer = both_right (not (eqb s.peer_as 0) && not (eqb s.local_as 0)) (is_host false s.peer) three in
    let local = both_right (not (eqb s.peer_as 0) && not (eqb s.local_as 0) && is_host false s.peer) (is_host false s.local) e in (
      as_speaker as4 (start_of kind) s.peer body bytes peer_as peer (front_ipv4 _ (omega (arith, wide_number 4 (interface_at as4 kind + 4) body bytes))),
      as_speaker as4 (start_of kind + width_of as4) s.local body bytes local_as local (front_ipv4 _ (omega (arith, wide_number 4 (interface_at as4 kind + 8) body bytes))),
      is_told as4 kind subtype body bytes,
    )

either : (as4 : Bool) (b : Bool) (x y : Said) → IsFit as4 x → IsFit as4 y → IsFit as4 (cond b x y)
either as4 true x y p q = p
either as4 false x y p q = q

fit_ipv4 : (as4 : Bool) (kind subtype : ℕ) (body : List ℕ) → AreBytes body → IsFit as4 (said_of_ipv4 as4 kind subtype body)
unfolding said_of_ipv4
fit_ipv4 as4 kind subtype body bytes =
    either as4 (not (is_well_sized as4 kind subtype (length body))) told.Malformed _ tt (fit_session as4 kind subtype body bytes (are_speakers (sides_in as4 kind body)) refl)

fit_body : (as4 : Bool) (kind subtype : ℕ) (body : List ℕ) → AreBytes body → IsFit as4 (said_in as4 kind subtype body)
unfolding said_in
fit_body as4 kind subtype body bytes =
    either as4 (not (is_used as4 kind subtype)) told.Unused _ tt
    (either as4 (ltb (length body) (interface_at as4 kind + 4)) told.Malformed _ tt
    (either as4 (eqb (number_at 2 (interface_at as4 kind + 2) body) 1) (said_of_ipv4 as4 kind subtype body) told.Unused (fit_ipv4 as4 kind subtype body bytes) tt))

-- ---- the lines of records

stays_begun : (w : Written) (l : Line) → (w.local ≡ None → ⊥) → (after w l).local ≡ None → ⊥
stays_begun w lines.As4 some e = some e
stays_begun w (lines.Local asn addr) some e = cc
stays_begun w (lines.Peer k asn addr) some e = some e
stays_begun w (lines.Up k) some e = some e
stays_begun w (lines.Down k) some e = some e
stays_begun w (lines.Bgp k octets) some e = some e
stays_begun w lines.Idle some e = some e

pub all_stay_begun : (w : Written) (ls : List Line) → (w.local ≡ None → ⊥) → (after_all w ls).local ≡ None → ⊥
all_stay_begun w [] some e = some e
all_stay_begun w (l ∷ ls) some e = all_stay_begun (after w l) ls (stays_begun w l some) e

after_append : (w : Written) (xs ys : List Line) → after_all w (xs ++ ys) ≡ after_all (after_all w xs) ys
after_append w [] ys = refl
after_append w (x ∷ xs) ys = after_append (after w x) xs ys

pub is_begun_behind : (as4 : Bool) (w : Written) (s : Sides) (t : Told) (local : Option ℕ) → w.local ≡ local → (after_all w (opened_lines (local_by s local) w s t (opening as4 s local))).local ≡ None → ⊥
is_begun_behind as4 w s t (Some local) e none = all_stay_begun w (foreign_lines local w s t) (λ f. let same : Some local ≡ None = sym e ∙ f in cc) none
is_begun_behind as4 w s t None e none =
    let w1 = after_all w (opening as4 s None) in
    let ls = foreign_lines s.local w1 s t in
    all_stay_begun w1 ls (λ f. let same : Some s.local ≡ None = sym (ap (λ v. v.local) (opened as4 w s)) ∙ f in cc) (ap (λ v. v.local) (sym (after_append w (opening as4 s None) ls)) ∙ none)

said_order : (as4 : Bool) (w : Written) (x : Said) → IsBegun w → IsFit as4 x → AreInOrder as4 w (lines_said as4 w x) × IsBegun (after_all w (lines_said as4 w x))
said_order as4 w told.Unused begun fit = (tt, begun)
said_order as4 w told.Malformed begun fit = (tt, begun)
said_order as4 w (told.Session s t) begun fit = (
  sessions_order as4 w s t w.local refl begun fit.0 fit.1 fit.2,
  λ none. absurd (is_begun_behind as4 w s t w.local refl none),
)

records_order : (as4 : Bool) (w : Written) (rs : List Record) → IsBegun w → AllByRecursion HasBytes rs → AreInOrder as4 w (records_lines as4 w rs)
records_order as4 w [] begun each = tt
records_order as4 w (r ∷ rs) begun each =
    let one = said_order as4 w (said as4 r) begun (fit_body as4 (kind_in r.head) (subtype_in r.head) r.body each.0) in
    order_append as4 w (record_lines as4 w r) (records_lines as4 (after_all w (record_lines as4 w r)) rs) one.0 (records_order as4 (after_all w (record_lines as4 w r)) rs one.1 each.1)

closes : (as4 : Bool) (w : Written) (local : Option ℕ) → w.local ≡ local → AreInOrder as4 w (elim local [ None ↦ [] | Some addr ↦ lines.Idle ∷ [] ])
closes as4 w None e = tt
closes as4 w (Some addr) e = ((λ none. let same : Some addr ≡ None = sym e ∙ none in cc), tt)

pub file_order : (as4 : Bool) (rs : List Record) → AllByRecursion HasBytes rs → AreInOrder as4 nothing_written (file_lines as4 rs)
file_order as4 rs each =
    let ls = records_lines as4 nothing_written rs in
    order_append as4 nothing_written ls (closing (after_all nothing_written ls)) (records_order as4 nothing_written rs (λ _. refl) each) (closes as4 (after_all nothing_written ls) (after_all nothing_written ls).local refl)
