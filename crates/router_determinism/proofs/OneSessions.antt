-- What a message of a peer does, and the loss of a session, leave no choice.
use Rattle.router_moments.proofs.Common.{sym, subst, ◌∙◌, ap, ◌≡◌, ℕ, List, ◌++◌, Bool, inl, inr, AddressPrefix, Attrs, Profile, Entry, Line, Value, Message, peer_at, DeclaredPeer, Declaration, LiveState, Exited, overdue_at, Moment, Stands, with_exits, with_chains, journal_lines, FeedsAll, RunsFirst, AreHeard, IsHeardMessage, changes_of}
use Rattle.std.proofs.Common.{[], ◌∷◌, Option, Some, None}
use Rattle.bgp_wire.specs.Grammar.{Answers, EachHasOne, Reads}
use Rattle.bgp_wire.specs.Updates.{fault}
use Rattle.bgp_wire.specs.Spelling.{notification_octets}
use Rattle.bgp_wire.specs.declared.notice.Notice.{Notice}
use Rattle.bgp_wire.specs.declared.message.Message.TheVariants as messages
use Rattle.journal_text.specs.declared.line.Line.TheVariants as lines
use Rattle.peer_side.specs.Steps.{LosesInward}
use Rattle.router_moments.specs.Blocks.{Loses, Hears, ended}
use Rattle.router_moments.specs.Works.{IsUpAt}
use Rattle.router_moments.proofs.FeedLemmas.{feed_keeps}
use Rattle.router_moments.proofs.HeardRows.{changes_heard}
use Rattle.router_moments.proofs.SessionLemmas.{silenced}
use Rattle.router_determinism.specs.Parts.{PartsAreOne}
use Rattle.router_determinism.proofs.OneFalls.{feed_is_one}
use Rattle.router_determinism.proofs.OneRuns.{One, first_is_one}

-- ---- what octets say
module _ (p : Profile) (external : Bool) (octets : List ℕ) where
  -- without a fault the answer is the message
  as_read : fault p external octets ≡ None → (a : Message) → Answers p external octets a → Reads p external octets a
  as_read none (messages.Notify n) answers = absurd (let clash : None ≡ Some n = sym none ∙ answers in cc)
  as_read none other answers = answers

  -- and where there is no message it is that fault's
  as_fault : (n : Notice) → fault p external octets ≡ Some n → ((m : Message) → Reads p external octets m → ⊥) → (a : Message) → Answers p external octets a → a ≡ messages.Notify n
  as_fault n some never (messages.Notify other) answers = let same : Some other ≡ Some n = sym answers ∙ some in cc
  as_fault n some never other answers = absurd (never other answers)

  -- the answer to octets is one
  pub answer_is_one : EachHasOne → (a b : Message) → Answers p external octets a → Answers p external octets b → a ≡ b
  answer_is_one law a b first second = elim (law p external octets) [
    | inl one ↦ sym (one.1.2 a (as_read one.0 a first)) ∙ one.1.2 b (as_read one.0 b second)
    | inr one ↦ as_fault one.0 one.1 one.2 a first ∙ sym (as_fault one.0 one.1 one.2 b second)
  ]

module _ (laws : PartsAreOne) where
  -- ---- an UPDATE
  feeds_are_one : (k : ℕ) (cs : List (AddressPrefix × Option Attrs)) (m : Moment) (said other : List Line) (m1 m2 : Moment) → Stands m → IsUpAt k m → AreHeard m.declared.profile cs → FeedsAll k cs m said m1 → FeedsAll k cs m other m2 → One said m1 other m2
  feeds_are_one k [] m said other m1 m2 stands up heard f g = (f.0 ∙ sym g.0, f.1 ∙ sym g.1)
  feeds_are_one k (c ∷ cs) m said other m1 m2 stands up heard f g =
      let first = feed_is_one laws.hops laws.weld laws.exits.put laws.feed k c m f.0 g.0 f.2 g.2 stands f.3 g.3 in
      let keeps = feed_keeps k c.0 c.1 m f.0 f.2 stands up heard.0 f.3 in
      let same : f.2.declared ≡ m.declared = ap (λ (l : LiveState). l.declared) keeps.live in
      let rest = feeds_are_one k cs f.2 f.1 g.1 m1 m2 keeps.stands (up.0, ap (λ (d : Declaration). peer_at k d.peers) same ∙ up.1, up.2)
      (subst (λ (d : Declaration). AreHeard d.profile cs) (sym same) heard.1) f.4 (subst (λ (n : Moment). FeedsAll k cs n g.1 m2) (sym first.1) g.4) in
      (f.5 ∙ ap (λ (l : List Line). l ++ f.1) first.0 ∙ ap (λ (l : List Line). g.0 ++ l) rest.0 ∙ sym g.5, rest.1)

  -- ---- the loss of a session
  pub loss_is_one : (k s : ℕ) (m : Moment) (said other : List Line) (m1 m2 : Moment) → Stands m → Loses k s m said m1 → Loses k s m other m2 → One said m1 other m2
  loss_is_one k s m said other m1 m2 stands f g = (
    f.lines ∙ ap (λ (es : List (Entry Value)). journal_lines es ++ (f.first ++ f.last)) silent.1
        ∙ ap (λ (l : List Line). journal_lines g.entries ++ (l ++ f.last)) ran.0 ∙ ap (λ (l : List Line). journal_lines g.entries ++ (g.first ++ l)) last ∙ sym g.lines,
    f.after ∙ ap (λ (n : Moment). ended n k) between ∙ sym g.after,
  )
    where
      silent : (f.silenced ≡ g.silenced) × (f.entries ≡ g.entries)
      silent = laws.exits.end k m.exits f.silenced g.silenced f.entries g.entries f.ends g.ends

      ran : One f.first f.room g.first g.room
      ran = first_is_one laws (overdue_at k m.chains) (with_exits m f.silenced) f.first g.first f.room g.room (silenced k m f.silenced f.entries stands f.ends).stands f.runs
          (subst (λ (e : Exited). RunsFirst (overdue_at k m.chains) (with_exits m e) g.first g.room) (sym silent.0) g.runs)

      lost : (f.loses.chains ≡ g.loses.chains) × (f.loses.entries ≡ g.loses.entries)
      lost = laws.loss k s f.room.chains f.loses.chains g.loses.chains f.loses.entries g.loses.entries f.loses.part
          (subst (λ (n : Moment). LosesInward k s n.chains g.loses.chains g.loses.entries) (sym ran.1) g.loses.part)

      last : f.last ≡ g.last
      last = f.loses.lines ∙ ap journal_lines lost.1 ∙ sym g.loses.lines

      between : f.between ≡ g.between
      between = f.loses.after ∙ ap (λ (n : Moment). with_chains n f.loses.chains) ran.1 ∙ ap (with_chains g.room) lost.0 ∙ sym g.loses.after

  -- ---- a message of a peer that is up
  pub hearing_is_one : (k : ℕ) (p : DeclaredPeer) (m : Moment) (message : Message) (said other : List Line) (m1 m2 : Moment) → Stands m → IsUpAt k m → IsHeardMessage m.declared.profile message
      → Hears k p m message said m1 → Hears k p m message other m2 → One said m1 other m2
  hearing_is_one k p m (messages.Update u) said other m1 m2 stands up heard f g = feeds_are_one k (changes_of m.declared.profile u) m said other m1 m2 stands up (changes_heard m.declared.profile u heard) f g
  hearing_is_one k p m messages.Keepalive said other m1 m2 stands up heard f g = (f.0 ∙ sym g.0, f.1 ∙ sym g.1)
  hearing_is_one k p m messages.Skip said other m1 m2 stands up heard f g = (f.0 ∙ sym g.0, f.1 ∙ sym g.1)
  hearing_is_one k p m messages.Notification said other m1 m2 stands up heard f g = loss_is_one k p.session m said other m1 m2 stands f g
  hearing_is_one k p m (messages.Refresh r) said other m1 m2 stands up heard f g = (f.0 ∙ sym g.0, f.1 ∙ sym g.1)
  hearing_is_one k p m (messages.Notify n) said other m1 m2 stands up heard f g =
      let lost = loss_is_one k p.session m f.0 g.0 m1 m2 stands f.2 g.2 in
      (f.1 ∙ ap (λ (l : List Line). lines.Note k (notification_octets n.code n.subcode n.octets) ∷ l) lost.0 ∙ sym g.1, lost.1)
