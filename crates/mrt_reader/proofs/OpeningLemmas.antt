-- How a file begins, and how many lines it has.
use Rattle.std.proofs.Common.{◌≡◌, ⊎_elim, ℕ, ◌+◌, ◌*◌, ◌≤◌, Bool, true, false, cond, ◌||◌, eqb, ltb, List, [], ◌∷◌, ◌++◌, length, Option, Some, None, refl, ap, ◌∙◌, inl, inr, arith, append_assoc, length-append}
use Rattle.mrt_reader.specs.Records.{Record}
use Rattle.mrt_reader.specs.Fields as told
use Rattle.mrt_reader.specs.Fields.{Told, Said, said}
use Rattle.mrt_reader.specs.Lines.{Line}
use Rattle.mrt_reader.specs.Lines as lines
use Rattle.mrt_reader.specs.Sessions.{Written, nothing_written, peer_at, after_all, opening, local_by, meeting, place_by, place_of, hearing, hearing_at, met_lines, peer_lines, foreign_lines, opened_lines, lines_said, record_lines, records_lines, closing}
use Rattle.mrt_reader.specs.Order.{IsOpened, first_lines, file_lines}
use Rattle.mrt_reader.specs.declared.fields.Sides.{Sides}
use Rattle.mrt_reader.specs.declared.sessions.PeerState.{PeerState}
use Rattle.mrt_reader.proofs.OrderLemmas.{all_stay_begun, is_begun_behind}

-- ---- how many lines a record gives

one_at_most : (b : Bool) (l : Line) → length (cond b (l ∷ []) []) ≤ 1
one_at_most true l = omega arith
one_at_most false l = omega arith

one_unless : (b : Bool) (ls : List Line) → length ls ≤ 1 → length (cond b [] ls) ≤ 1
one_unless true ls few = omega arith
one_unless false ls few = few

few_hearing : (k : ℕ) (p : PeerState) (t : Told) → length (hearing k p t) ≤ 2
few_hearing k p told.Established = omega (arith, one_unless p.up (cond (ltb p.sessions 65535) (lines.Up k ∷ []) []) (one_at_most (ltb p.sessions 65535) (lines.Up k)))
few_hearing k p told.Ended = omega (arith, one_at_most p.up (lines.Down k))
few_hearing k p (told.Message octets) =
    let begins = cond p.up [] (cond (ltb p.sessions 65535) (lines.Up k ∷ []) []) in
    let passes = cond (p.up || ltb p.sessions 65535) (lines.Bgp k octets ∷ []) [] in
    let first : length begins ≤ 1 = one_unless p.up (cond (ltb p.sessions 65535) (lines.Up k ∷ []) []) (one_at_most (ltb p.sessions 65535) (lines.Up k)) in
    let second : length passes ≤ 1 = one_at_most (p.up || ltb p.sessions 65535) (lines.Bgp k octets) in
    omega (arith, first, second, length-append begins passes)
few_hearing k p told.NoMessage = omega arith

few_hearing_at : (w : Written) (t : Told) (place : Option ℕ) → length (hearing_at w t place) ≤ 2
few_hearing_at w t None = omega arith
few_hearing_at w t (Some i) = few_hearing (i + 1) (peer_at w i) t

few_meeting : (s : Sides) (peers : List PeerState) (place : Option ℕ) → length (meeting s peers place) ≤ 1
few_meeting s peers (Some i) = omega arith
few_meeting s peers None = one_at_most (ltb (length peers) 64) (lines.Peer (length peers + 1) s.peer_as s.peer)

few_met : (w : Written) (t : Told) (met : List Line) (place : Option ℕ) → length met ≤ 1 → length (met_lines w t met place) ≤ 3
few_met w t met place few = omega (arith, few, few_hearing_at (after_all w met) t place, length-append met (hearing_at (after_all w met) t place))

few_foreign : (local : ℕ) (w : Written) (s : Sides) (t : Told) → length (foreign_lines local w s t) ≤ 3
few_foreign local w s t = by_test (eqb local s.peer)
  where
    by_test : (b : Bool) → length (cond b [] (peer_lines w s t)) ≤ 3
    by_test true = omega arith
    by_test false = few_met w t (meeting s w.peers (place_of s.peer w.peers)) (place_by w.peers (place_of s.peer w.peers)) (few_meeting s w.peers (place_of s.peer w.peers))

few_opening : (as4 : Bool) (s : Sides) → length (opening as4 s None) ≤ 2
few_opening true s = omega arith
few_opening false s = omega arith

few_session : (as4 : Bool) (w : Written) (s : Sides) (t : Told) (local : Option ℕ) → (local ≡ None → ⊥) → length (opened_lines (local_by s local) w s t (opening as4 s local)) ≤ 3
few_session as4 w s t (Some local) begun = few_foreign local w s t
few_session as4 w s t None begun = absurd (begun refl)

few_said : (as4 : Bool) (w : Written) (x : Said) → (w.local ≡ None → ⊥) → length (lines_said as4 w x) ≤ 3
few_said as4 w told.Unused begun = omega arith
few_said as4 w told.Malformed begun = omega arith
few_said as4 w (told.Session s t) begun = few_session as4 w s t w.local begun

-- ---- and a file

few_later : (as4 : Bool) (w : Written) (rs : List Record) → (w.local ≡ None → ⊥) → length (records_lines as4 w rs) ≤ 3 * length rs
few_later as4 w [] begun = omega arith
few_later as4 w (r ∷ rs) begun =
    let ls = record_lines as4 w r in
    let one : length ls ≤ 3 = few_said as4 w (said as4 r) begun in
    let others : length (records_lines as4 (after_all w ls) rs) ≤ 3 * length rs = few_later as4 (after_all w ls) rs (all_stay_begun w ls begun) in
    omega (arith, one, others, length-append ls (records_lines as4 (after_all w ls) rs))

few_first : (as4 : Bool) (rs : List Record) → length (records_lines as4 nothing_written rs) ≤ 3 * length rs + 2
few_first as4 [] = omega arith
few_first as4 (r ∷ rs) = by_what (said as4 r) (few_first as4 rs)
  where
    by_what : (x : Said) → length (records_lines as4 nothing_written rs) ≤ 3 * length rs + 2 → length (lines_said as4 nothing_written x ++ records_lines as4 (after_all nothing_written (lines_said as4 nothing_written x)) rs) ≤ 3 * length (r ∷ rs) + 2
    by_what told.Unused few = omega (arith, few)
    by_what told.Malformed few = omega (arith, few)
    by_what (told.Session s t) few =
        let opened = opening as4 s None in
        let foreign = foreign_lines s.local (after_all nothing_written opened) s t in
        let ls = opened ++ foreign in
        let first : length opened ≤ 2 = few_opening as4 s in
        let second : length foreign ≤ 3 = few_foreign s.local (after_all nothing_written opened) s t in
        let others : length (records_lines as4 (after_all nothing_written ls) rs) ≤ 3 * length rs = few_later as4 (after_all nothing_written ls) rs (is_begun_behind as4 nothing_written s t None refl) in
        omega (arith, first, second, others, length-append opened foreign, length-append ls (records_lines as4 (after_all nothing_written ls) rs))

few_closing : (local : Option ℕ) → length (elim local as (λ _. List Line) [ None ↦ [] | Some addr ↦ lines.Idle ∷ [] ]) ≤ 1
few_closing None = omega arith
few_closing (Some addr) = omega arith

pub few_lines : (as4 : Bool) (rs : List Record) → length (file_lines as4 rs) ≤ 3 * length rs + 3
few_lines as4 rs =
    let ls = records_lines as4 nothing_written rs in
    let last : length (closing (after_all nothing_written ls)) ≤ 1 = few_closing (after_all nothing_written ls).local in
    let first : length ls ≤ 3 * length rs + 2 = few_first as4 rs in
    omega (arith, first, last, length-append ls (closing (after_all nothing_written ls)))

-- ---- how it begins

records_open : (as4 : Bool) (rs : List Record) → IsOpened as4 (records_lines as4 nothing_written rs)
records_open as4 [] = inl refl
records_open as4 (r ∷ rs) = by_what (said as4 r) (records_open as4 rs)
  where
    by_what : (x : Said) → IsOpened as4 (records_lines as4 nothing_written rs) → IsOpened as4 (lines_said as4 nothing_written x ++ records_lines as4 (after_all nothing_written (lines_said as4 nothing_written x)) rs)
    by_what told.Unused later = later
    by_what told.Malformed later = later
    by_what (told.Session s t) later =
        let opened = opening as4 s None in
        let foreign = foreign_lines s.local (after_all nothing_written opened) s t in
        let others = records_lines as4 (after_all nothing_written (opened ++ foreign)) rs in
        inr (s.local_as, s.local, foreign ++ others, append_assoc opened foreign others)

pub file_opens : (as4 : Bool) (rs : List Record) → IsOpened as4 (file_lines as4 rs)
file_opens as4 rs = ⊎_elim none some (records_open as4 rs)
  where
    ls : List Line
    ls = records_lines as4 nothing_written rs

    none : ls ≡ [] → IsOpened as4 (file_lines as4 rs)
    none e = inl (ap (λ (xs : List Line). xs ++ closing (after_all nothing_written xs)) e)

    some : (asn addr : ℕ) × (more : List Line) × (ls ≡ first_lines as4 asn addr ++ more) → IsOpened as4 (file_lines as4 rs)
    some o =
        let last = closing (after_all nothing_written ls) in
        inr (o.0, o.1, o.2 ++ last, ap (λ (xs : List Line). xs ++ last) o.3 ∙ append_assoc (first_lines as4 o.0 o.1) o.2 last)
