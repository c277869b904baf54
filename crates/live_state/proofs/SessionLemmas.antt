-- Which octets end a session, and which declarations an event leaves.
use Rattle.std.proofs.Common.{◌≡◌, ℕ, ◌==◌, ◌||◌, ◌&&◌, Bool, true, false, cond, not, List, get_or, Option, Some, None, is_some, refl, ap, sym, ◌∙◌, inl, inr, arith, ◌≤◌, ◌+◌}
use Rattle.bgp_attr.specs.declared.speaker.Profile.{Profile}
use Rattle.bgp_wire.specs.declared.message.Message.{Message}
use Rattle.bgp_wire.specs.declared.message.Message.TheVariants as messages
use Rattle.bgp_wire.specs.Updates.{fault}
use Rattle.bgp_wire.specs.Grammar.{IsFrame, Reads, OneAnswer, EachHasOne}
use Rattle.event_text.specs.declared.event.Event.TheVariants.{Nothing, Up, Down, Bgp, Lose, Idle, Work, Query}
use Rattle.event_text.specs.declared.declared.DeclaredPeer.{DeclaredPeer}
use Rattle.event_text.specs.Declarations.{peer_at, with_session, without_session}
use Rattle.link_change.specs.Rows.{is_empty_map}
use Rattle.live_state.specs.Messages.{is_ending, ends_session}
use Rattle.live_state.specs.Declared.{declared_up, declared_down, declared_heard}
use Rattle.live_state.specs.Lives.{with_losses, LiveState, HearsIfUp, HearsFrom, heard, ended, begun_if_down, ended_if_up, LiveAfter, same_protocol}
use Rattle.live_state.specs.Laws.{SessionsEnd, DeclarationsFollow}
use Rattle.rib_route.specs.declared.Proto.TheVariants.{Connected, Ospf, Rip, Static}
use Rattle.event_text.specs.Event.{Event}
use Rattle.rib_route.specs.declared.Proto.{Proto}

-- the type of a message stands behind the marker and the length
type_at : (octets : List ℕ) (kind : ℕ) (body : List ℕ) → IsFrame octets kind body → get_or octets 18 0 ≡ kind
type_at octets kind body is = ap (λ o. get_or o 18 0) is.parts

module _ (profile : Profile) (external : Bool) (octets : List ℕ) where
  no_fault : (m : Message) → OneAnswer profile external octets → Reads profile external octets m → is_some (fault profile external octets) ≡ false
  no_fault m one reads = elim one as (λ _. is_some (fault profile external octets) ≡ false) [ inl w ↦ ap is_some w.0 | inr w ↦ absurd (w.2 m reads) ]

  -- octets that are a message of this type
  of_type : (kind : ℕ) (body : List ℕ) (m : Message) → EachHasOne → Reads profile external octets m → IsFrame octets kind body → (kind == 3) ≡ ends_session profile external octets
  of_type kind body m one reads is =
      sym (ap (λ b. b || get_or octets 18 0 == 3) (no_fault m (one profile external octets) reads) ∙ ap (λ k. k == 3) (type_at octets kind body is))

pub ends : EachHasOne → SessionsEnd
ends one profile p octets (messages.Update u) says = of_type profile (not p.words.internal) octets 2 _ (messages.Update u) one says says.1.frame
ends one profile p octets messages.Keepalive says = of_type profile (not p.words.internal) octets 4 _ messages.Keepalive one says says
ends one profile p octets messages.Skip says = of_type profile (not p.words.internal) octets 1 _ messages.Skip one says says.1
ends one profile p octets (messages.Refresh r) says = of_type profile (not p.words.internal) octets 5 _ (messages.Refresh r) one says says.frame
ends one profile p octets messages.Notification says = of_type profile (not p.words.internal) octets 3 _ messages.Notification one says says.1
ends one profile p octets (messages.Notify n) says = sym (ap (λ f. is_some f || get_or octets 18 0 == 3) says)

-- ---- what events leave
up_follows : (l : LiveState) (k : ℕ) (o : Option DeclaredPeer) → (begun_if_down l k o).declared ≡ declared_up l.declared k o
up_follows l k None = refl
up_follows l k (Some p) = by_up p.up
  where
    by_up : (up : Bool) → (cond up l (record l { declared = with_session l.declared k })).declared ≡ cond up l.declared (with_session l.declared k)
    by_up true = refl
    by_up false = refl

down_follows : (l : LiveState) (k : ℕ) (o : Option DeclaredPeer) → (ended_if_up l k o).declared ≡ declared_down l.declared k o
down_follows l k None = refl
down_follows l k (Some p) = by_up p.up
  where
    by_up : (up : Bool) → (cond up (ended l k) l).declared ≡ cond up (without_session l.declared k) l.declared
    by_up true = refl
    by_up false = refl

heard_leaves : (l : LiveState) (k : ℕ) (m : Message) → (heard l k m).declared ≡ cond (is_ending m) (without_session l.declared k) l.declared
heard_leaves l k (messages.Update u) = refl
heard_leaves l k messages.Keepalive = refl
heard_leaves l k messages.Skip = refl
heard_leaves l k (messages.Refresh r) = refl
heard_leaves l k messages.Notification = refl
heard_leaves l k (messages.Notify n) = refl

heard_by : (l : LiveState) (k : ℕ) (p : DeclaredPeer) (octets : List ℕ) (up : Bool) (l' : LiveState) → SessionsEnd → HearsIfUp l k p octets up l' → l'.declared ≡ cond (up && ends_session l.declared.profile (not p.words.internal) octets) (without_session l.declared k) l.declared
heard_by l k p octets false l' law hears = ap (λ s. s.declared) hears
heard_by l k p octets true l' law hears =
    ap (λ s. s.declared) hears.2 ∙ heard_leaves l k hears.0
    ∙ ap (λ b. cond b (without_session l.declared k) l.declared) (law l.declared.profile p octets hears.0 hears.1)

heard_follows : (l : LiveState) (k : ℕ) (o : Option DeclaredPeer) (octets : List ℕ) (l' : LiveState) → SessionsEnd → HearsFrom l k o octets l' → l'.declared ≡ declared_heard l.declared k octets o
heard_follows l k None octets l' law hears = absurd hears
heard_follows l k (Some p) octets l' law hears = heard_by l k p octets p.up l' law hears

pub follows : SessionsEnd → DeclarationsFollow
follows law l (Up k) l' after = ap (λ s. s.declared) after ∙ up_follows l k (peer_at k l.declared.peers)
follows law l (Down k) l' after = ap (λ s. s.declared) after ∙ down_follows l k (peer_at k l.declared.peers)
follows law l (Bgp k octets) l' after = heard_follows l k (peer_at k l.declared.peers) octets l' law after
follows law l other l' after = ap (λ s. s.declared) after

-- ---- an event counts at most one loss of a protocol
same_losses : (l l' : LiveState) → l' ≡ l → (proto : Proto) → l'.losses proto ≤ l.losses proto + 1
same_losses l l' same proto = let e : l'.losses proto ≡ l.losses proto = ap (λ s. s.losses proto) same in omega (arith, e)

heard_losses : (l : LiveState) (k : ℕ) (m : Message) → (heard l k m).losses ≡ l.losses
heard_losses l k (messages.Update u) = refl
heard_losses l k messages.Keepalive = refl
heard_losses l k messages.Skip = refl
heard_losses l k (messages.Refresh r) = refl
heard_losses l k messages.Notification = refl
heard_losses l k (messages.Notify n) = refl

session_losses : (l l' : LiveState) → l'.losses ≡ l.losses → (proto : Proto) → l'.losses proto ≤ l.losses proto + 1
session_losses l l' same proto = let e : l'.losses proto ≡ l.losses proto = ap (λ (f : Proto → ℕ). f proto) same in omega (arith, e)

up_losses : (l : LiveState) (k : ℕ) (o : Option DeclaredPeer) → (begun_if_down l k o).losses ≡ l.losses
up_losses l k None = refl
up_losses l k (Some p) = elim p.up as (λ up. (cond up l (record l { declared = with_session l.declared k })).losses ≡ l.losses) [ true ↦ refl | false ↦ refl ]

down_losses : (l : LiveState) (k : ℕ) (o : Option DeclaredPeer) → (ended_if_up l k o).losses ≡ l.losses
down_losses l k None = refl
down_losses l k (Some p) = elim p.up as (λ up. (cond up (ended l k) l).losses ≡ l.losses) [ true ↦ refl | false ↦ refl ]

octets_losses : (l l' : LiveState) (k : ℕ) (p : DeclaredPeer) (octets : List ℕ) (up : Bool) → HearsIfUp l k p octets up l' → l'.losses ≡ l.losses
octets_losses l l' k p octets false hears = ap (λ s. s.losses) hears
octets_losses l l' k p octets true hears = ap (λ s. s.losses) hears.2 ∙ heard_losses l k hears.0

from_losses : (l l' : LiveState) (k : ℕ) (o : Option DeclaredPeer) (octets : List ℕ) → HearsFrom l k o octets l' → l'.losses ≡ l.losses
from_losses l l' k None octets hears = absurd hears
from_losses l l' k (Some p) octets hears = octets_losses l l' k p octets p.up hears

one_loss : (here empty : Bool) (n own : ℕ) → (here ≡ true → own ≡ n) → cond here (cond empty own (own + 1)) n ≤ n + 1
one_loss true true n own same = let e = same refl in omega (arith, e)
one_loss true false n own same = let e = same refl in omega (arith, e)
one_loss false empty n own same = omega arith

losses_at : (f : Proto → ℕ) (a b : Proto) → same_protocol a b ≡ true → f b ≡ f a
losses_at f Connected Connected e = refl
losses_at f Static Static e = refl
losses_at f Ospf Ospf e = refl
losses_at f Rip Rip e = refl
losses_at f a b e = absurd (cc)

pub losses_follow : (l : LiveState) (event : Event) (l' : LiveState) → LiveAfter l event l' → (proto : Proto) → l'.losses proto ≤ l.losses proto + 1
losses_follow l Nothing l' after = same_losses l l' after
losses_follow l (Up k) l' after = session_losses l l' (ap (λ s. s.losses) after ∙ up_losses l k (peer_at k l.declared.peers))
losses_follow l (Down k) l' after = session_losses l l' (ap (λ s. s.losses) after ∙ down_losses l k (peer_at k l.declared.peers))
losses_follow l (Bgp k octets) l' after = session_losses l l' (from_losses l l' k (peer_at k l.declared.peers) octets after)
losses_follow l (Lose lost) l' after = λ proto.
    let is : l'.losses proto ≡ with_losses l.losses lost (cond (is_empty_map (l.interior lost)) (l.losses lost) (l.losses lost + 1)) proto = ap (λ s. s.losses proto) after in
    let one = one_loss (same_protocol proto lost) (is_empty_map (l.interior lost)) (l.losses proto) (l.losses lost) (losses_at l.losses proto lost) in
    omega (arith, is, one)
losses_follow l Idle l' after = same_losses l l' after
losses_follow l (Work task n) l' after = same_losses l l' after
losses_follow l (Query question) l' after = same_losses l l' after
losses_follow l other l' after = session_losses l l' (ap (λ s. s.losses) after)
