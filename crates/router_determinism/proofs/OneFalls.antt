-- A fall in the chain of a peer, and all that follows it, leaves no choice; nor does a turn of a peer's next hops.
use Rattle.router_moments.proofs.Common.{same_Some, sym, subst, ◌∙◌, ap, ◌≡◌, ℕ, refl, List, ◌++◌, AddressPrefix, Attrs, Route, Change, Entry, Line, Value, Task, Chained, Chains, chain_at, filt_at, filt_rows, filt_candidates, Resolvers, ComesOn, GoesOn, all_at, Moment, own_of, Stands, journal_lines, FallsPeer, IsPeerTurn}
use Rattle.std.proofs.Common.{is_some, IsSome, Option}
use Rattle.hop_side.specs.Steps.{TurnsBelow}
use Rattle.peer_side.specs.Peers.{peer_of}
use Rattle.peer_side.specs.Steps.{Changes, FeedsInward, TakesInward, WeldsInward}
use Rattle.chain_determinism.specs.Laws as chains
use Rattle.router_moments.specs.Turns.{Feeds, IsHopTurn}
use Rattle.router_moments.proofs.HopLemmas.{all_comes}
use Rattle.router_moments.proofs.HopTurns.{hop_goes}
use Rattle.router_moments.proofs.StandLemmas.{not_zero}
use Rattle.exit_determinism.specs.Laws.{PutIsOne}
use Rattle.router_determinism.specs.Parts.{HopsAreOne}
use Rattle.router_determinism.proofs.OneHops.{resolving_is_one}
use Rattle.router_determinism.proofs.OneBests.{decision_is_one, queue_is_one, same_behind}

-- the lines of a fall are one where their parts are
same_lines : (a b r s c d w v : List (Entry Value)) → a ≡ b → r ≡ s → c ≡ d → w ≡ v → journal_lines (a ++ (r ++ (c ++ w))) ≡ journal_lines (b ++ (s ++ (d ++ v)))
same_lines a b r s c d w v first second third fourth =
    ap (λ (x : List (Entry Value)). journal_lines (x ++ (r ++ (c ++ w)))) first
    ∙ ap (λ (x : List (Entry Value)). journal_lines (b ++ (x ++ (c ++ w)))) second
    ∙ ap (λ (x : List (Entry Value)). journal_lines (b ++ (s ++ (x ++ w)))) third
    ∙ ap (λ (x : List (Entry Value)). journal_lines (b ++ (s ++ (d ++ x)))) fourth

-- ---- a fall: whatever makes it does one thing
module _ (hops : HopsAreOne) (weld : chains.WeldIsOne) (puts : PutIsOne)
    (k : ℕ) (sent : Option (Change Route)) (P : Chains → List (Entry Value) → Type 0) (one : (a b : Chains) (xs ys : List (Entry Value)) → P a xs → P b ys → (a ≡ b) × (xs ≡ ys))
    (m : Moment) (said other : List Line) (m1 m2 : Moment) (stands : Stands m) (there : IsSome (chain_at k m.chains)) (f : FallsPeer k sent P m said m1) (g : FallsPeer k sent P m other m2)
    (p : AddressPrefix) (changes : Changes k p sent m.chains f.fallen) where
  part : (f.fallen ≡ g.fallen) × (f.entries ≡ g.entries)
  part = one f.fallen g.fallen f.entries g.entries f.part g.part

  comes : ComesOn k p sent (filt_at m.chains) (filt_at f.fallen)
  comes = record { here = changes.rows; others = changes.others }

  below : (f.passed ≡ g.passed) × (m1.registry ≡ m2.registry) × (m1.hops ≡ m2.hops) × (f.resolved ≡ g.resolved)
  below = resolving_is_one hops.takes k sent (filt_at m.chains) (filt_at f.fallen) p m.registry m1.registry m2.registry m.hops m1.hops m2.hops f.passed g.passed f.resolved g.resolved stands.hops.counted comes f.below g.below

  branches : all_at (own_of m) f.fallen m1.hops ≡ all_at (own_of m) g.fallen m2.hops
  branches = ap (λ (a : Chains). all_at (own_of m) a m1.hops) part.0 ∙ ap (λ (h : Resolvers). all_at (own_of m) g.fallen h) below.2

  decided : (f.decided.best ≡ g.decided.best) × (f.best ≡ g.best)
  decided = decision_is_one k f.passed g.passed (all_at (own_of m) m.chains m.hops) (all_at (own_of m) f.fallen m1.hops) (all_at (own_of m) g.fallen m2.hops) p f.best g.best below.0 branches
      (all_comes (own_of m) m.chains f.fallen m.hops m1.hops k p f.passed (not_zero k (stands.peers.numbers k there).0) (f.below.goes (filt_at m.chains) (filt_at f.fallen) p stands.hops.counted comes).comes) f.decided g.decided

  welded : (m1.chains ≡ m2.chains) × (f.weld ≡ g.weld)
  welded = weld k f.fallen m1.chains m2.chains f.weld g.weld f.welds (subst (λ (a : Chains). WeldsInward k a m2.chains g.weld) (sym part.0) g.welds)

  queued : m1.exits ≡ m2.exits
  queued = queue_is_one puts f.decided.best g.decided.best m.exits m1.exits m2.exits decided.0 f.queued g.queued

  pub fall_is_one : (said ≡ other) × (m1 ≡ m2)
  fall_is_one = (
    f.lines ∙ same_lines f.entries g.entries f.resolved g.resolved f.best g.best f.weld g.weld part.1 below.3 decided.1 welded.1 ∙ sym g.lines,
    f.after ∙ same_behind m m1.chains m2.chains m1.registry m2.registry m1.hops m2.hops m1.exits m2.exits welded.0 below.1 below.2 queued ∙ sym g.after,
  )

module _ (hops : HopsAreOne) (weld : chains.WeldIsOne) (puts : PutIsOne) where
  -- a prefix that a peer announces or withdraws
  pub feed_is_one : chains.FeedIsOne → (k : ℕ) (change : AddressPrefix × Option Attrs) (m : Moment) (said other : List Line) (m1 m2 : Moment) → Stands m → Feeds k change m said m1 → Feeds k change m other m2 → (said ≡ other) × (m1 ≡ m2)
  feed_is_one law k change m said other m1 m2 stands t u =
      fall_is_one hops weld puts k t.0 (FeedsInward k change.0 change.1 t.0 m.chains) one m said other m1 m2 stands (ap is_some t.1.part.feeds.at) t.1
      (subst (λ (s : Option (Change Route)). FallsPeer k s (FeedsInward k change.0 change.1 s m.chains) m other m2) (sym sent) u.1) change.0 t.1.part.changes
    where
      sent : t.0 ≡ u.0
      sent = (law k change.0 change.1 t.0 u.0 m.chains t.1.fallen u.1.fallen t.1.entries u.1.entries stands.peers.chains t.1.part u.1.part).0

      one : (a b : Chains) (xs ys : List (Entry Value)) → FeedsInward k change.0 change.1 t.0 m.chains a xs → FeedsInward k change.0 change.1 t.0 m.chains b ys → (a ≡ b) × (xs ≡ ys)
      one a b xs ys first second = let same = law k change.0 change.1 t.0 t.0 m.chains a b xs ys stands.peers.chains first second in (same.1, same.2)

  -- a turn of a task of a peer
  pub peer_turn_is_one : chains.TurnIsOne → (task : Task) (m : Moment) (said other : List Line) (m1 m2 : Moment) → Stands m → IsPeerTurn task m said m1 → IsPeerTurn task m other m2 → (said ≡ other) × (m1 ≡ m2)
  peer_turn_is_one law task m said other m1 m2 stands t u =
      fall_is_one hops weld puts (peer_of task) t.0 (TakesInward task t.0 m.chains) one m said other m1 m2 stands (ap is_some t.1.part.turn.at) t.1
      (subst (λ (s : Option (Change Route)). FallsPeer (peer_of task) s (TakesInward task s m.chains) m other m2) (sym sent) u.1) t.1.part.changes.0 t.1.part.changes.1
    where
      sent : t.0 ≡ u.0
      sent = (law task t.0 u.0 m.chains t.1.fallen u.1.fallen t.1.entries u.1.entries stands.peers.chains t.1.part u.1.part).0

      one : (a b : Chains) (xs ys : List (Entry Value)) → TakesInward task t.0 m.chains a xs → TakesInward task t.0 m.chains b ys → (a ≡ b) × (xs ≡ ys)
      one a b xs ys first second = let same = law task t.0 t.0 m.chains a b xs ys stands.peers.chains first second in (same.1, same.2)

  -- ---- a turn of the next hops of a peer
  pub hop_turn_is_one : (k : ℕ) (m : Moment) (said other : List Line) (m1 m2 : Moment) → Stands m → IsHopTurn k m said m1 → IsHopTurn k m other m2 → (said ≡ other) × (m1 ≡ m2)
  hop_turn_is_one k m said other m1 m2 stands t u = (
    t.lines ∙ ap (λ (x : List (Entry Value)). journal_lines (x ++ t.best)) turned.3 ∙ ap (λ (x : List (Entry Value)). journal_lines (u.entries ++ x)) decided.1 ∙ sym u.lines,
    t.after ∙ same_behind m m.chains m.chains m1.registry m2.registry m1.hops m2.hops m1.exits m2.exits refl turned.1 turned.2 queued ∙ sym u.after,
  )
    where
      turned : (t.sent ≡ u.sent) × (m1.registry ≡ m2.registry) × (m1.hops ≡ m2.hops) × (t.entries ≡ u.entries)
      turned = hops.turns k (filt_candidates t.chain) (filt_rows t.chain) m.registry m1.registry m2.registry m.hops m1.hops m2.hops t.sent u.sent t.entries u.entries t.turn
          (subst (λ (c : Chained). TurnsBelow k (filt_candidates c) (filt_rows c) u.sent m.registry m2.registry m.hops m2.hops u.entries) (same_Some u.chain t.chain (sym u.at ∙ t.at)) u.turn)

      goes : (p : AddressPrefix) × GoesOn k p t.sent m.hops m1.hops t.entries (filt_at m.chains) (filt_at m.chains)
      goes = hop_goes k m said m1 stands t

      decided : (t.decided.best ≡ u.decided.best) × (t.best ≡ u.best)
      decided = decision_is_one k t.sent u.sent (all_at (own_of m) m.chains m.hops) (all_at (own_of m) m.chains m1.hops) (all_at (own_of m) m.chains m2.hops) goes.0 t.best u.best turned.0
          (ap (λ (h : Resolvers). all_at (own_of m) m.chains h) turned.2) (all_comes (own_of m) m.chains m.chains m.hops m1.hops k goes.0 t.sent (not_zero k (stands.peers.numbers k (ap is_some t.at)).0) goes.1.comes) t.decided u.decided

      queued : m1.exits ≡ m2.exits
      queued = queue_is_one puts t.decided.best u.decided.best m.exits m1.exits m2.exits decided.0 t.queued u.queued
