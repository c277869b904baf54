-- What each event comes to.
use Rattle.router_moments.proofs.Common.{sym, subst, ◌∙◌, ap, ◌≡◌, ℕ, refl, List, true, false, Bool, ◌++◌, cond, ◌<◌, AddressPrefix, Attrs, Message, Update, peer_at, DeclaredPeer, Event, Down, Bgp, Query, Work, Journaled, flushed, with_lines, Line, Task, Rows, LiveState, changes_of, Says, width, Interior, ByPeer, EndsIf, HearsIf, first_held, FirstHeldTells, live_state, Moment, Gives, bound_of, all_phases, Tells, Stands, AllHaveExits, Pushes, HasStepped, Keeps, HaveFed}
use Rattle.event_text.specs.declared.event.Question.TheVariants.{Cover, Settled}
use Rattle.std.proofs.Common.{◌^◌, [], ◌∷◌, Option, Some, Result}
use Rattle.std.specs.Result.{IfOk}
use Rattle.bgp_wire.specs.declared.notice.Notice.{Notice}
use Rattle.bgp_wire.specs.declared.message.Message.TheVariants as messages
use Rattle.bgp_wire.specs.Grammar.{is_served}
use Rattle.bgp_wire.specs.Spelling.{notification_octets}
use Rattle.journal_text.specs.declared.line.Line.TheVariants as lines
use Rattle.event_text.specs.declared.event.Event.TheVariants.{Idle}
use Rattle.std.specs.FinMap as tables
use Rattle.register_interest.specs.Covers.{matched, IsCover}
use Rattle.router_moments.specs.declared.tasks.Idle.{Idle as Answer}
use Rattle.live_state.specs.Lives.{heard, ended, ended_if_up, HearsIfUp, HearsFrom}
use Rattle.bgp_wire.specs.declared.message.RouteRefresh.{RouteRefresh}
use Rattle.router_moments.specs.Blocks.{AreMessageOctets, Hears, refreshed}
use Rattle.router_moments.specs.Works.{AreTurns, AllHaveDrained, HasLost, HasHeard, HasIdled}
use Rattle.router_moments.proofs.KeepLemmas.{keeps_none, keeps_said, keeps_join, keeps_on, gives_push, push_gives, gives_none, gives_so, gives_pushed, steps_pushed, ignores}
use Rattle.router_moments.proofs.TurnLaws.{turns_work}
use Rattle.router_moments.proofs.RefreshTurns.{refreshed_keeps}
use Rattle.router_moments.proofs.ServedTurns.{idle_serves}

-- ---- `idle` and `work`
-- every task has run to its end: what an idle is, with its two lines around what was said
pub idle_said : (m m' : Moment) (bound turns : ℕ) (inner : List Line) → Stands m → bound ≡ bound_of m → bound < 2 ^ 128 → AllHaveDrained m turns m' inner
    → HasIdled m (record { bound = bound; turns = turns }) m' (lines.Bound bound ∷ (inner ++ lines.Idle turns ∷ []))
idle_said m m' bound turns inner stands same small drained = record {
  idles = record {
    inner = inner;
    runs = drained.runs;
    lines = ap (λ (b : ℕ). lines.Bound b ∷ (inner ++ lines.Idle turns ∷ [])) same;
    within = drained.most;
    fits = subst (λ (b : ℕ). b < 2 ^ 128) same small;
    settled = drained.settled;
    exact = drained.exact;
  };
  bound = same;
  keeps = keeps_on m m m' (lines.Bound bound ∷ []) (inner ++ lines.Idle turns ∷ []) (live_state m) refl (keeps_said m (lines.Bound bound ∷ []) stands (refl, (refl, tt)))
      (keeps_on m m' m' inner (lines.Idle turns ∷ []) (live_state m) refl drained.keeps (keeps_said m' (lines.Idle turns ∷ []) drained.keeps.stands (refl, (refl, tt))));
  rows = drained.rows;
  serves = idle_serves m m' (lines.Bound bound) (lines.Idle turns) inner all_phases turns stands drained.runs;
}

pub idled : (m m' : Moment) (bound turns : ℕ) (before j j2 j3 now : Journaled) → Stands m → bound ≡ bound_of m → bound < 2 ^ 128 → j ≡ with_lines before (lines.Bound bound ∷ []) → Gives (AllHaveDrained m turns m') j j2
    → j3 ≡ with_lines j2 (lines.Idle turns ∷ []) → now ≡ flushed j3 → Gives (HasIdled m (record { bound = bound; turns = turns }) m') before now
idled m m' bound turns before j j2 j3 now stands same small first g last is =
    gives_push Bounded Ended (HasIdled m (record { bound = bound; turns = turns }) m') both before j2 j3 now (push_gives First (AllHaveDrained m turns m') Bounded (λ xs ys p q. (ys, ap (λ (l : List Line). l ++ ys) p, q)) before j j2 (lines.Bound bound ∷ [], first, refl) g)
    (lines.Idle turns ∷ [], last, refl) is
  where
    First : List Line → Type 0
    First said = said ≡ lines.Bound bound ∷ []

    Ended : List Line → Type 0
    Ended said = said ≡ lines.Idle turns ∷ []

    Bounded : List Line → Type 0
    Bounded said = (inner : List Line) × (said ≡ lines.Bound bound ∷ inner) × AllHaveDrained m turns m' inner

    both : (xs ys : List Line) → Bounded xs → Ended ys → HasIdled m (record { bound = bound; turns = turns }) m' (xs ++ ys)
    both xs ys p q = subst (λ (l : List Line). HasIdled m (record { bound = bound; turns = turns }) m' l) (sym (ap (λ (l : List Line). l ++ ys) p.1 ∙ ap (λ (l : List Line). lines.Bound bound ∷ (p.0 ++ l)) q))
        (idle_said m m' bound turns p.0 stands same small p.2)

pub worked : (m m' : Moment) (task : Task) (most turns : ℕ) (before j j2 now : Journaled) → Stands m → Gives (AreTurns task most m turns m') before j → j2 ≡ with_lines j (lines.Work turns ∷ []) → now ≡ flushed j2
    → Gives (HasStepped m (Work task most) turns m') before now
worked m m' task most turns before j j2 now stands g last is =
    gives_push (AreTurns task most m turns m') Counted (HasStepped m (Work task most) turns m') both before j j2 now g (lines.Work turns ∷ [], last, refl) is
  where
    Counted : List Line → Type 0
    Counted said = said ≡ lines.Work turns ∷ []

    both : (xs ys : List Line) → AreTurns task most m turns m' xs → Counted ys → HasStepped m (Work task most) turns m' (xs ++ ys)
    both xs ys p q =
        let work = turns_work turns task m xs m' stands p.taken in
        subst (λ (l : List Line). HasStepped m (Work task most) turns m' (xs ++ l)) (sym q) (record {
          block = record { inner = xs; taken = p.taken; most = p.most; ended = p.ended; lines = refl };
          live = live_state m;
          after = refl;
          keeps = keeps_on m m' m' xs (lines.Work turns ∷ []) (live_state m) refl work.keeps (keeps_said m' (lines.Work turns ∷ []) work.keeps.stands (refl, (refl, tt)));
        })

-- ---- `cover`
pub covered : (m : Moment) (addr : ℕ) (found : Option (AddressPrefix × Interior)) (subnet : AddressPrefix) (prefix : Option AddressPrefix) (before j now : Journaled) → Stands m → IsCover width (tables.get m.registry.rows) addr found subnet
    → prefix ≡ matched found → j ≡ with_lines before (lines.Cover addr prefix subnet ∷ []) → now ≡ flushed j → Gives (HasStepped m (Query (Cover addr)) 0 m) before now
covered m addr found subnet prefix before j now stands cover is pushed flush = steps_pushed m (Query (Cover addr)) (lines.Cover addr (matched found) subnet ∷ []) before j now stands
    (refl, refl, record { found = found; subnet = subnet; cover = subst (λ (rows : Rows Interior). IsCover width rows addr found subnet) stands.registered cover; line = refl }) refl (refl, (refl, tt))
    (pushed ∙ ap (λ (p : Option AddressPrefix). with_lines before (lines.Cover addr p subnet ∷ [])) is) flush

-- ---- `settled`
pub settled : (m : Moment) (p : AddressPrefix) (answer : Option Task) (before j now : Journaled) → Stands m → AllHaveExits m → FirstHeldTells → answer ≡ first_held m p
    → j ≡ with_lines before (lines.Settled p answer ∷ []) → now ≡ flushed j → Gives (HasStepped m (Query (Settled p)) 0 m) before now
settled m p answer before j now stands all tells is = steps_pushed m (Query (Settled p)) (lines.Settled p answer ∷ []) before j now stands
    (refl, refl, record { answer = answer; tells = subst (Tells m p) (sym is) (tells m stands all p); line = refl }) refl (refl, (refl, tt))

-- ---- what a message does
-- a message that says nothing of routes or of the session
pub nothing_heard : (k : ℕ) (p : DeclaredPeer) (m : Moment) (message quiet : Message) (before now : Journaled) → Stands m → message ≡ quiet → Hears k p m quiet [] m
    → heard (live_state m) k quiet ≡ live_state m → now ≡ flushed before → Gives (HasHeard k p m message m) before now
nothing_heard k p m message quiet before now stands same hears live is = subst (λ (x : Message). Gives (HasHeard k p m x m) before now) (sym same)
    (gives_none (HasHeard k p m quiet m) before now (record { hears = hears; keeps = subst (λ (l : LiveState). Keeps l m m []) (sym live) (keeps_none m stands) }) is)

-- one that asks for all routes again
-- whether a refresh is of the network's family
pub served : (v6 : Bool) (v m : Moment) (r : RouteRefresh) (b : Bool) → v.declared.profile.second ≡ v6 → v ≡ m → is_served v6 r ≡ b → is_served m.declared.profile.second r ≡ b
served v6 v m r b second view is = ap (λ (n : Moment). is_served n.declared.profile.second r) (sym view) ∙ ap (λ (other : Bool). is_served other r) second ∙ is

pub refresh_heard : (k : ℕ) (p : DeclaredPeer) (m m' : Moment) (message : Message) (r : RouteRefresh) (before now : Journaled) → Stands m → message ≡ messages.Refresh r → m' ≡ refreshed k r m → now ≡ flushed before → Gives (HasHeard k p m message m') before now
refresh_heard k p m m' message r before now stands same is flush = subst (λ (x : Message). Gives (HasHeard k p m x m') before now) (sym same)
    (gives_none (HasHeard k p m (messages.Refresh r) m') before now (record { hears = (refl, is); keeps = subst (λ (n : Moment). Keeps (live_state m) m n []) (sym is) (refreshed_keeps k m stands r) }) flush)

-- the prefixes of an UPDATE were announced and withdrawn
pub update_heard : (k : ℕ) (p : DeclaredPeer) (m m' : Moment) (message : Message) (update : Update) (changes : List (AddressPrefix × Option Attrs)) (before j now : Journaled) → message ≡ messages.Update update → changes ≡ changes_of m.declared.profile update
    → Pushes (HaveFed k changes m m') before j → now ≡ flushed j → Gives (HasHeard k p m message m') before now
update_heard k p m m' message update changes before j now same is fed flush = subst (λ (x : Message). Gives (HasHeard k p m x m') before now) (sym same)
    (gives_pushed (HaveFed k (changes_of m.declared.profile update) m m') (HasHeard k p m (messages.Update update) m') (λ xs h. record { hears = h.feeds; keeps = h.keeps }) before j now
    (subst (λ (c : List (AddressPrefix × Option Attrs)). Pushes (HaveFed k c m m') before j) is fed) flush)

pub end_heard : (k : ℕ) (p : DeclaredPeer) (m m' : Moment) (message : Message) (before now : Journaled) → message ≡ messages.Notification → Gives (HasLost k p.session m m') before now
    → Gives (HasHeard k p m message m') before now
end_heard k p m m' message before now same g = subst (λ (x : Message). Gives (HasHeard k p m x m') before now) (sym same)
    (gives_so (HasLost k p.session m m') (HasHeard k p m messages.Notification m') (λ xs h. record { hears = h.loses; keeps = h.keeps }) before now g)

pub fault_heard : (k : ℕ) (p : DeclaredPeer) (m m' : Moment) (message : Message) (n : Notice) (octets : List ℕ) (before j now : Journaled) → Stands m → message ≡ messages.Notify n
    → octets ≡ notification_octets n.code n.subcode n.octets → AreMessageOctets octets → j ≡ with_lines before (lines.Note k octets ∷ []) → Gives (HasLost k p.session m m') j now → Gives (HasHeard k p m message m') before now
fault_heard k p m m' message n octets before j now stands same spelled whole pushed g = subst (λ (x : Message). Gives (HasHeard k p m x m') before now) (sym same)
    (push_gives Noted (HasLost k p.session m m') (HasHeard k p m (messages.Notify n) m') both before j now (note ∷ [], pushed ∙ ap (λ (o : List ℕ). with_lines before (lines.Note k o ∷ [])) spelled, refl) g)
  where
    note : Line
    note = lines.Note k (notification_octets n.code n.subcode n.octets)

    Noted : List Line → Type 0
    Noted said = said ≡ note ∷ []

    both : (xs ys : List Line) → Noted xs → HasLost k p.session m m' ys → HasHeard k p m (messages.Notify n) m' (xs ++ ys)
    both xs ys noted h = subst (λ (l : List Line). HasHeard k p m (messages.Notify n) m' (l ++ ys)) (sym noted) (record {
      hears = (ys, refl, h.loses, subst AreMessageOctets spelled whole);
      keeps = keeps_join m m m' (note ∷ []) ys (live_state m) (ended (live_state m) k) refl (keeps_said m (note ∷ []) stands (refl, (refl, tt))) h.keeps;
    })

-- ---- a peer that is up, or down
pub lost_down : (k : ℕ) (p : DeclaredPeer) (m m' : Moment) (before now : Journaled) → peer_at k m.declared.peers ≡ Some p → p.up ≡ true → Gives (HasLost k p.session m m') before now
    → Gives (HasStepped m (Down k) 0 m') before now
lost_down k p m m' before now at up g = gives_so (HasLost k p.session m m') (HasStepped m (Down k) 0 m') (λ xs h. record {
  block = subst (λ (o : Option DeclaredPeer). ByPeer (λ q. EndsIf q.up m k q xs 0 m') o) (sym at) (subst (λ (u : Bool). EndsIf u m k p xs 0 m') (sym up) (refl, h.loses));
  live = ended (live_state m) k;
  after = sym (ap (ended_if_up (live_state m) k) at ∙ ap (λ (u : Bool). cond u (ended (live_state m) k) (live_state m)) up);
  keeps = h.keeps;
}) before now g

pub heard_up : (k : ℕ) (p : DeclaredPeer) (m m' : Moment) (octets : List ℕ) (message : Message) (before now : Journaled) → peer_at k m.declared.peers ≡ Some p → p.up ≡ true → Says m.declared.profile p octets message
    → Gives (HasHeard k p m message m') before now → Gives (HasStepped m (Bgp k octets) 0 m') before now
heard_up k p m m' octets message before now at up says g = gives_so (HasHeard k p m message m') (HasStepped m (Bgp k octets) 0 m') (λ xs h. record {
  block = subst (λ (o : Option DeclaredPeer). ByPeer (λ q. HearsIf q.up m k q octets xs 0 m') o) (sym at)
      (subst (λ (u : Bool). HearsIf u m k p octets xs 0 m') (sym up) (refl, (message, says, h.hears)));
  live = heard (live_state m) k message;
  after = subst (λ (o : Option DeclaredPeer). HearsFrom (live_state m) k o octets (heard (live_state m) k message)) (sym at)
      (subst (λ (u : Bool). HearsIfUp (live_state m) k p octets u (heard (live_state m) k message)) (sym up) (message, says, refl));
  keeps = h.keeps;
}) before now g

-- of a peer that is down nothing comes
pub down_ignored : {X : Type 0} (result : Result ℕ X) (k : ℕ) (p : DeclaredPeer) (m : Moment) (before now : Journaled) → Stands m → peer_at k m.declared.peers ≡ Some p → p.up ≡ false
    → IfOk result (λ turns. (turns ≡ 0) × (now ≡ flushed (with_lines before (lines.Ignored ∷ [])))) → IfOk result (λ turns. Gives (HasStepped m (Down k) turns m) before now)
down_ignored result k p m before now stands at down told = ignores result m (Down k) before now stands
    (subst (λ (o : Option DeclaredPeer). ByPeer (λ q. EndsIf q.up m k q (lines.Ignored ∷ []) 0 m) o) (sym at) (subst (λ (u : Bool). EndsIf u m k p (lines.Ignored ∷ []) 0 m) (sym down) (refl, refl, refl)))
    (sym (ap (ended_if_up (live_state m) k) at ∙ ap (λ (u : Bool). cond u (ended (live_state m) k) (live_state m)) down)) told

pub bgp_ignored : {X : Type 0} (result : Result ℕ X) (k : ℕ) (octets : List ℕ) (p : DeclaredPeer) (m : Moment) (before now : Journaled) → Stands m → peer_at k m.declared.peers ≡ Some p → p.up ≡ false
    → IfOk result (λ turns. (turns ≡ 0) × (now ≡ flushed (with_lines before (lines.Ignored ∷ [])))) → IfOk result (λ turns. Gives (HasStepped m (Bgp k octets) turns m) before now)
bgp_ignored result k octets p m before now stands at down told = ignores result m (Bgp k octets) before now stands
    (subst (λ (o : Option DeclaredPeer). ByPeer (λ q. HearsIf q.up m k q octets (lines.Ignored ∷ []) 0 m) o) (sym at) (subst (λ (u : Bool). HearsIf u m k p octets (lines.Ignored ∷ []) 0 m) (sym down) (refl, refl, refl)))
    (subst (λ (o : Option DeclaredPeer). HearsFrom (live_state m) k o octets (live_state m)) (sym at) (subst (λ (u : Bool). HearsIfUp (live_state m) k p octets u (live_state m)) (sym down) refl)) told

-- ---- every task
pub idle_stepped : (m m' : Moment) (idle : Answer) (before now : Journaled) → Gives (HasIdled m idle m') before now → Gives (HasStepped m Idle idle.turns m') before now
idle_stepped m m' idle before now g = gives_so (HasIdled m idle m') (HasStepped m Idle idle.turns m') (λ xs h. record { block = h.idles; live = live_state m; after = refl; keeps = h.keeps }) before now g

-- ---- an event whose lines were pushed
pub stepped : (m m' : Moment) (event : Event) (before j now : Journaled) → Pushes (HasStepped m event 0 m') before j → now ≡ flushed j → Gives (HasStepped m event 0 m') before now
stepped m m' event before j now p is = gives_pushed (HasStepped m event 0 m') (HasStepped m event 0 m') (λ xs h. h) before j now p is
