-- Each line of a seed is read as the event that it is.
use Rattle.std.proofs.Common.{◌≡◌, ℕ, zero, suc, ◌+◌, ◌/◌, ◌%◌, ◌==◌, ◌^◌, ◌<◌, Bool, true, false, cond, nat_lt, List, [], ◌∷◌, ◌++◌, map, Ok, arith}
use Rattle.event_text.specs.Event.{Event}
use Rattle.event_text.specs.declared.event.Event.TheVariants as events
use Rattle.event_text.specs.Events.{read_event}
use Rattle.event_text.specs.Declarations.{plain}
use Rattle.event_gen.specs.Draws.{next_draws, behind_draws}
use Rattle.event_gen.specs.Events.{kind_of, peer_of, block_of, origin_of, host_event, work_of, other_event, event_of, events_from}
use Rattle.event_gen.specs.Lines.{host, announce_octets, withdraw_octets, event_words, event_line, opening}
use Rattle.event_gen.specs.Readings.{task_meant, meant, opening_events, AreReadAs, LinesAreRead}
use Rattle.event_gen.specs.declared.draws.Draws.{Draws}
use Rattle.event_gen.specs.declared.drawn.Work.{Work}
use Rattle.event_gen.specs.declared.drawn.Work.TheVariants as works
use Rattle.event_gen.specs.declared.drawn.Drawn.{Drawn}
use Rattle.event_gen.specs.declared.drawn.Drawn.TheVariants as drawn
use Rattle.event_gen.proofs.OctetLemmas.{announce_small, announce_long, withdraw_small, withdraw_long}
use Rattle.event_gen.proofs.OpeningLemmas.{opening_read}
use Rattle.event_gen.proofs.ReadingLemmas.{IsCount, host_is, up_read, down_read, idle_read, bgp_read, filter_read, add_read, del_read, fin_read, nh_read, out_read, rib_read}

-- ---- what is drawn

IsWork : Work → Type 0
IsWork works.ReadRib = Unit {0}
IsWork (works.Out k) = IsCount k
IsWork (works.NextHops k) = IsCount k
IsWork (works.Filter k) = IsCount k

-- its peer's number is from 1, and its numbers are small
IsDrawn : Drawn → Type 0
IsDrawn (drawn.Announce k x origin med) = IsCount k
IsDrawn (drawn.Withdraw k x) = IsCount k
IsDrawn (drawn.Down k) = IsCount k
IsDrawn (drawn.Up k) = IsCount k
IsDrawn (drawn.Prefer k n) = IsCount k × (n < 2 ^ 32)
IsDrawn (drawn.AddHost k n) = IsCount k × (n < 2 ^ 32)
IsDrawn (drawn.DeleteHost k) = IsCount k
IsDrawn (drawn.Work task n) = IsWork task × (n < 2 ^ 32)
IsDrawn drawn.Idle = Unit {0}

either : {A : Type 0} (P : A → Type 0) (b : Bool) (x y : A) → P x → P y → P (cond b x y)
either P true x y hx hy = hx
either P false x y hx hy = hy

a_peer : (d : Draws) → IsCount (peer_of d)
a_peer d = (omega arith, omega arith)

a_work : (d : Draws) → IsWork (work_of d)
unfolding IsWork
a_work d =
    either IsWork (d.c % 4 == 0) works.ReadRib _ tt
    (either IsWork (d.c % 4 == 1) (works.Out (peer_of d)) _ (a_peer d)
    (either IsWork (d.c % 4 == 2) (works.NextHops (peer_of d)) (works.Filter (peer_of d)) (a_peer d) (a_peer d)))

a_host_event : (d : Draws) → IsDrawn (host_event d)
unfolding IsDrawn
a_host_event d = either IsDrawn (d.c % 2 == 0) (drawn.AddHost (peer_of d) (1 + d.b % 8)) (drawn.DeleteHost (peer_of d)) (a_peer d, omega arith) (a_peer d)

another : (d : Draws) → IsDrawn (other_event d)
unfolding IsDrawn
another d =
    either IsDrawn (kind_of d == 9) (drawn.Down (peer_of d)) _ (a_peer d)
    (either IsDrawn (nat_lt (kind_of d) 12) (drawn.Up (peer_of d)) _ (a_peer d)
    (either IsDrawn (kind_of d == 12) (drawn.Prefer (peer_of d) (100 + d.c % 2)) _ (a_peer d, omega arith)
    (either IsDrawn (kind_of d == 13) (host_event d) _ (a_host_event d)
    (either IsDrawn (kind_of d == 14) (drawn.Work (work_of d) (d.b % 8)) drawn.Idle (a_work d, omega arith) tt))))

is_drawn : (d : Draws) → IsDrawn (event_of d)
unfolding event_of IsDrawn
is_drawn d =
    either IsDrawn (nat_lt (kind_of d) 7) (drawn.Announce (peer_of d) (block_of d) (origin_of (d.c % 3)) (d.c / 3 % 4)) _ (a_peer d)
    (either IsDrawn (nat_lt (kind_of d) 9) (drawn.Withdraw (peer_of d) (block_of d)) (other_event d) (a_peer d) (another d))

-- ---- what is read

work_is_read : (task : Work) (n : ℕ) → IsWork task → n < 2 ^ 32 → read_event plain (event_line (drawn.Work task n)) ≡ Ok (events.Work (task_meant task) n)
unfolding IsWork event_words
work_is_read works.ReadRib n h small = rib_read n small
work_is_read (works.Out k) n h small = out_read k n h small
work_is_read (works.NextHops k) n h small = nh_read k n h small
work_is_read (works.Filter k) n h small = fin_read k n h small

is_read : (e : Drawn) → IsDrawn e → read_event plain (event_line e) ≡ Ok (meant e)
unfolding IsDrawn event_words
is_read (drawn.Announce k x origin med) h =
    let long = announce_long k x origin med in
    bgp_read k (announce_octets k x origin med) h (announce_small k x origin med) (omega arith) (omega arith)
is_read (drawn.Withdraw k x) h = let long = withdraw_long x in bgp_read k (withdraw_octets x) h (withdraw_small x) (omega arith) (omega arith)
is_read (drawn.Down k) h = down_read k h
is_read (drawn.Up k) h = up_read k h
is_read (drawn.Prefer k n) h = filter_read k n h.0 h.1
is_read (drawn.AddHost k n) h = add_read (host k) n (host_is k h.0.1) h.1
is_read (drawn.DeleteHost k) h = del_read (host k) (host_is k h.1)
is_read (drawn.Work task n) h = work_is_read task n h.0 h.1
is_read drawn.Idle h = idle_read

-- the lines of events, and the last one
events_read : (n x : ℕ) → AreReadAs (map event_line (events_from n x ++ drawn.Idle ∷ [])) (map meant (events_from n x ++ drawn.Idle ∷ []))
unfolding IsDrawn
events_read zero x = (is_read drawn.Idle tt, tt)
events_read (suc n) x = (is_read (event_of (next_draws x)) (is_drawn (next_draws x)), events_read n (behind_draws x))

both_read : (ls : List (List ℕ)) (es : List Event) (ls' : List (List ℕ)) (es' : List Event) → AreReadAs ls es → AreReadAs ls' es' → AreReadAs (ls ++ ls') (es ++ es')
both_read [] [] ls' es' g h = h
both_read [] (e ∷ es) ls' es' g h = absurd g
both_read (l ∷ ls) [] ls' es' g h = absurd g
both_read (l ∷ ls) (e ∷ es) ls' es' g h = (g.0, both_read ls es ls' es' g.1 h)

pub lines_are_read : LinesAreRead
lines_are_read seed n = both_read opening opening_events (map event_line (events_from n seed ++ drawn.Idle ∷ [])) (map meant (events_from n seed ++ drawn.Idle ∷ [])) opening_read (events_read n seed)
