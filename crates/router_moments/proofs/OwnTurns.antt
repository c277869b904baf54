-- This speaker's own routes: what a change of them makes, and one turn of the walk of redistribution.
use Rattle.router_moments.proofs.Common.{sym, subst, ◌∙◌, ap, ◌≡◌, refl, List, arith, ◌++◌, on_ok_weaker, AddressPrefix, Route, Speaker, Exited, entries_of_entries, Journaled, flushed, Adds, with_entries, entries_of, Leads, Entry, Line, Value, IsSent, Rows, Change, Turn, joined, with_side, Sides, Region, Decided, Redistributed, Outward, Passed, Walked, present, passed_rows, adds_both, redistributed, has, Protos, Interior, int_rows, int_candidates, own_rows, all_at, best_at, best_links, best_entries, own_links, own_entries, live_state, Moment, best_of, router_links, own_of, with_exits, parts, with_redist, Stands, ExitsStand, journal_lines, sent_of, TakesTurn, IsWork, Decides, Taken}
use Rattle.std.proofs.Common.{Option, Some, None, is_some, Result}
use Rattle.std.specs.Result.{OnOk}
use Rattle.link_change.specs.declared.turn.Turn.TheVariants as turns
use Rattle.pass_core.specs.Passed.{present_of, latest_of, after_walk, walk_stepped, walk_of_waiting}
use Rattle.pass_core.specs.Turns.{walked_on, IsPassedOn, IsSentAt, Walks, IsWalked}
use Rattle.journal_text.specs.declared.link.Task.TheVariants as tasks
use Rattle.link_region.specs.declared.regions.Region.TheVariants.{External}
use Rattle.router_moments.specs.declared.tasks.Done.TheVariants.{Nothing}
use Rattle.router_moments.specs.declared.tasks.Phase.TheVariants as phases
use Rattle.router_moments.specs.Bests.{DecidesOn}
use Rattle.router_moments.specs.Turns.{IsOwnTurn}
use Rattle.router_moments.specs.Works.{SendsOwn, Redistributes}
use Rattle.router_moments.proofs.BestLemmas.{best_of_none}
use Rattle.router_moments.proofs.QueueLemmas.{queue_external, queue_links, reader_live, exits_fall}
use Rattle.router_moments.proofs.HeardSteps.{heard_quiet, own_unheard, queue_views}
use Rattle.router_moments.proofs.RibLinks.{DecidesTo, own_rows_are, own_comes, leads_own}
use Rattle.router_moments.proofs.SpendLemmas.{Spent, own_spends}
use Rattle.router_moments.proofs.StaleLemmas.{none_as_before}
use Rattle.router_moments.proofs.WorkLemmas.{one_turn}
use Rattle.router_moments.proofs.KeepLemmas.{keeps_as}

-- ---- what redistribution sends
pub sends_own : (own : Option (Change Route)) (m m' : Moment) (before j now : Journaled) → j ≡ with_entries before (own_entries own) → Adds (Decides 0 own m m') j now → Adds (SendsOwn own m m') before now
sends_own own m m' before j now pushed d = (own_entries own ++ d.0, adds_both before j now (own_entries own) d.0 pushed d.1, record { best = d.0; decides = d.2; lines = refl })

-- of a change of `int`
pub own_followed : {X E : Type 0} (result : Result X E) (me : Speaker) (change taken : Change Interior) (m v m2 : Moment) (s : Passed Protos) (own : Option (Change Route)) (before now : Journaled) → v ≡ m → v.declared.speaker ≡ Some me → taken ≡ change
    → IsPassedOn (redistributed me) v.redist taken own → s ≡ v.redist → OnOk result (Adds (SendsOwn own (with_redist v s) m2) before now) → OnOk result (Adds (Redistributes change m m2) before now)
own_followed result me change taken m v m2 s own before now view since same passed stays sends =
    on_ok_weaker result (λ sent. subst (λ (n : Moment). Adds (Redistributes change n m2) before now) view (by_sending (subst (λ (x : Passed Protos). Adds (SendsOwn own (with_redist v x) m2) before now) stays sent))) sends
  where
    by_sending : Adds (SendsOwn own v m2) before now → Adds (Redistributes change v m2) before now
    by_sending s =
        let d = s.2.decides in (
          s.0,
          s.1,
          record {
            me = me;
            local = since;
            own = record {
              own = own;
              passed = subst (λ (c : Change Interior). IsPassedOn (redistributed me) v.redist c own) same passed;
              best = s.2.best;
              decided = record {
                best = d.decided.best;
                lines = d.decided.lines;
                decides = subst (λ (rows : Rows Route). DecidesTo 0 own d.decided.best (all_at rows v.chains v.hops)) (own_rows_are v.declared.speaker me v.redist (int_rows v.tree) since) d.decided.decides;
              };
              queued = d.queued;
              lines = s.2.lines;
            };
            after = d.after;
          },
        )

-- ---- the walk
module _ {F : Type 0} where
  stepped_present : (in_force : F) (o : Option (Walked F)) (p : AddressPrefix) → present_of in_force (walk_stepped o p) ≡ present_of in_force o
  stepped_present in_force None p = refl
  stepped_present in_force (Some w) p = refl

  waiting_present : (next : F) (waiting : Option F) → present_of next (walk_of_waiting waiting) ≡ latest_of next waiting
  waiting_present next None = refl
  waiting_present next (Some f) = refl

  finished_present : (in_force : F) (o : Option (Walked F)) → present (after_walk in_force o) ≡ present_of in_force o
  finished_present in_force None = refl
  finished_present in_force (Some w) = waiting_present w.next w.waiting

  -- the latest set stays
  walked_present : (next : Option AddressPrefix) (s : Passed F) → present (walked_on next s) ≡ present s
  walked_present None s = finished_present s.in_force s.walk
  walked_present (Some p) s = stepped_present s.in_force s.walk p

-- a change at the candidate, or none anywhere
pub walked_sent : (next : Option AddressPrefix) (old new : Rows Route) (own : Option (Change Route)) → IsSentAt next old new own → (p : AddressPrefix) × IsSent old new p own
walked_sent None old new own changes = (record { address = 0; length = 0 }, subst (λ (o : Option (Change Route)). IsSent old new (record { address = 0; length = 0 }) o) (sym changes.0) changes.1)
walked_sent (Some p) old new own changes = (p, changes)

-- so this speaker's own rows move by what was sent, and the best ones by what was decided
pub own_sent : (m : Moment) (me : Speaker) (s : Passed Protos) (own : Option (Change Route)) → m.declared.speaker ≡ Some me → Walks (redistributed me) (int_candidates m.tree) (int_rows m.tree) m.redist s own
    → (p : AddressPrefix) × IsSent (own_of m) (own_of (with_redist m s)) p own
own_sent m me s own since walks =
    let moved = walked_sent walks.next (passed_rows (redistributed me) m.redist (int_rows m.tree)) (passed_rows (redistributed me) s (int_rows m.tree)) own walks.changes in
    (moved.0, subst (λ (x : Option Speaker). IsSent (own_rows x m.redist (int_rows m.tree)) (own_rows x s (int_rows m.tree)) moved.0 own) (sym since) moved.1)

pub own_chosen : (m m' : Moment) (own : Option (Change Route)) (best : List (Entry Value)) (decided : DecidesOn 0 own (all_at (own_of m') m.chains m.hops) best) → own_of m' ≡ own_of (with_redist m m'.redist) → (p : AddressPrefix) → IsSent (own_of m) (own_of (with_redist m m'.redist)) p own
    → IsSent (best_of m) (best_of (with_redist m m'.redist)) p decided.best
own_chosen m m' own best decided same p sent =
    subst (λ (rows : Rows Route). IsSent (best_of m) (best_at rows m.chains m.hops) p decided.best) same
    (decided.decides (all_at (own_of m) m.chains m.hops) p (own_comes own (own_of m) (own_of m') m.chains m.hops m.hops p (subst (λ (rows : Rows Route). IsSent (own_of m) rows p own) (sym same) sent) (λ j. refl)))

-- what stands then
stands_walked : (m : Moment) (me : Speaker) (s : Passed Protos) (e : Exited) → Stands m → m.declared.speaker ≡ Some me → ExitsStand (with_exits (with_redist m s) e) → Stands (with_exits (with_redist m s) e)
stands_walked m me s e stands since exits = record {
  peers = stands.peers;
  interior = stands.interior;
  registered = stands.registered;
  hops = stands.hops;
  exits = exits;
  external = stands.external;
  waits = record { own = λ none. absurd (let clash : Some me ≡ None = sym since ∙ none in cc); external = stands.waits.external };
}

-- ---- what a turn does
pub own_works : (m : Moment) (said : List Line) (m' : Moment) → Stands m → IsOwnTurn m said m' → IsWork phases.Red 1 m m' said
own_works m said m' stands t = one_turn phases.Red m now m' said t.after (keeps_as (live_state m) m now m' (journal_lines (own_entries t.own ++ best_entries t.decided.best)) said t.after (t.lines ∙ ap (λ (es : List (Entry Value)). journal_lines (own_entries t.own ++ es)) t.decided.lines) (record {
  leads = leads;
  live = λ i. record (live_state m) { redistributed = has (latest i) };
  heard = heard_quiet m now (journal_lines (own_entries t.own ++ best_entries t.decided.best)) (own_unheard t.own t.decided.best) (queue_views t.decided.best m.exits m'.exits t.queued);
  stands = stands_walked m t.me m'.redist m'.exits stands t.local (exits_fall m now t.decided.best sent.0 stands stands.exits.rows t.queued chosen refl refl refl (λ rows over. over));
})) spent (omega arith, omega arith) (none_as_before m now refl refl)
  where
    now : Moment
    now = with_exits (with_redist m m'.redist) m'.exits

    same : own_of m' ≡ own_of now
    same = ap own_of t.after

    latest : present m'.redist ≡ present m.redist
    latest = ap (λ (x : Passed Protos). present x) t.walks.after ∙ walked_present t.walks.next m.redist

    sent : (p : AddressPrefix) × IsSent (own_of m) (own_of now) p t.own
    sent = own_sent m t.me m'.redist t.own t.local t.walks

    chosen : IsSent (best_of m) (best_of now) sent.0 t.decided.best
    chosen = own_chosen m m' t.own t.best t.decided same sent.0 sent.1

    reached : Sides
    reached = with_side (with_side (parts m) Redistributed (own_links m.declared.speaker (own_of now))) Decided (best_links m.declared.speaker (best_of now))

    each : (r : Region) → reached r ≡ parts now r
    each External = sym (queue_external m.exits m'.exits t.decided.best m.reader (best_of m) (best_of now) sent.0 (reader_live m stands) t.queued chosen)
    each Outward = sym (queue_links m.exits m'.exits t.decided.best (best_of m) (best_of now) sent.0 t.queued chosen)
    each other = refl

    set : reached ≡ parts now
    set i r = each r i

    leads : Leads (router_links m) (entries_of (journal_lines (own_entries t.own ++ best_entries t.decided.best))) (router_links now)
    leads =
        subst (λ (es : List (Entry Value)). Leads (router_links m) es (router_links now)) (sym (entries_of_entries (own_entries t.own ++ best_entries t.decided.best)))
        (subst (λ (x : Sides). Leads (router_links m) (own_entries t.own ++ best_entries t.decided.best) (joined x)) set
        (leads_own m.declared.speaker t.me (own_of m) (own_of now) (best_of m) (best_of now) sent.0 t.own t.decided.best (parts m) t.local sent.1 chosen refl refl))

    spent : Spent phases.Red m now
    spent = own_spends t.me m m'.redist t.own t.decided.best m'.exits t.walks (λ none. best_of_none 0 t.own (all_at (own_of m') m.chains m.hops) t.best t.decided none) t.queued

-- ---- what the calls make of it
own_turn : (me : Speaker) (m m1 m' : Moment) (s : Passed Protos) (own : Option (Change Route)) (best : List (Entry Value)) → m.declared.speaker ≡ Some me → Walks (redistributed me) (int_candidates m.tree) (int_rows m.tree) m.redist s own → m1 ≡ with_redist m s
    → Decides 0 own m1 m' best → IsOwnTurn m (journal_lines (own_entries own ++ best)) m'
own_turn me m m1 m' s own best since walks between d =
    let x : Decides 0 own (with_redist m s) m' best = subst (λ (n : Moment). Decides 0 own n m' best) between d in
    subst (λ (n : Moment). IsOwnTurn m (journal_lines (own_entries own ++ best)) n) (sym x.after)
    (record { me = me; local = since; own = own; walks = walks; best = best; decided = x.decided; queued = x.queued; lines = refl; after = refl })

-- by what it came to
own_walks : (me : Speaker) (m : Moment) (s : Passed Protos) (turn : Turn Route) → (turn ≡ turns.Nothing → ⊥) → IsWalked (redistributed me) (int_candidates m.tree) (int_rows m.tree) m.redist s turn → Walks (redistributed me) (int_candidates m.tree) (int_rows m.tree) m.redist s (sent_of turn)
own_walks me m s turns.Nothing some walked = absurd (some refl)
own_walks me m s turns.Quiet some walked = walked
own_walks me m s (turns.Sent change) some walked = walked

pub own_took : (me : Speaker) (m v m1 m' : Moment) (s : Passed Protos) (before l now : Journaled) (turn : Turn Route) (sent : Option (Change Route)) → (turn ≡ turns.Nothing → ⊥) → v ≡ m → v.declared.speaker ≡ Some me
    → IsWalked (redistributed me) (int_candidates v.tree) (int_rows v.tree) v.redist s turn → sent ≡ sent_of turn → m1 ≡ with_redist v s → Adds (SendsOwn sent m1 m') before l → now ≡ flushed l → TakesTurn tasks.Red m m' before now Taken
own_took me m v m1 m' s before l now turn sent some view since walked same between adds is =
    let x = subst (λ (o : Option (Change Route)). Adds (SendsOwn o m1 m') before l) same adds in
    subst (λ (n : Moment). TakesTurn tasks.Red n m' before now Taken) view (
      journal_lines x.0,
      is ∙ ap flushed x.1,
      subst (λ (es : List (Entry Value)). IsOwnTurn v (journal_lines es) m') (sym x.2.lines) (own_turn me v m1 m' s (sent_of turn) x.2.best since (own_walks me v s turn some walked) between x.2.decides),
    )

-- before `local`
pub none_own : (m v : Moment) (j : Journaled) → v ≡ m → Stands m → v.declared.speaker ≡ None → TakesTurn tasks.Red m m j j Nothing
none_own m v j view stands none = (ap (λ (x : Passed Protos). is_some x.walk) (stands.waits.own (ap (λ (n : Moment). n.declared.speaker) (sym view) ∙ none)), refl, refl)
