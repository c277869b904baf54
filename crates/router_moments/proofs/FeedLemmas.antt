-- The prefixes of an UPDATE, one after the other.
use Rattle.router_moments.proofs.Common.{sym, subst, ◌∙◌, ap, ◌≡◌, ℕ, refl, List, true, arith, false, ◌+◌, Bool, ◌++◌, cond, ◌<◌, suc, zero, take, get_or, take_more, same_Some, ForSome, AddressPrefix, Attrs, Route, Profile, peer_at, DeclaredPeer, Chained, welded, fed, Journaled, Adds, Entry, Line, Value, Change, LiveState, same_by, MayBeHeard, adds_both, Chains, put_chain, live_state, Moment, with_chains, Stands, PeerStands, IsSilent, open_session, journal_lines, FallsPeer, FeedsAll, Pushes, Keeps, AreHeard, HaveFed, SettlesPeer, MaySettle}
use Rattle.std.proofs.Common.{[], ◌∷◌, Option, Some, length, append_assoc}
use Rattle.std.proofs.lemmas.List.{append-nil}
use Rattle.loss_chain.specs.Steps.{live_after}
use Rattle.peer_side.specs.Steps.{FeedsInward}
use Rattle.router_moments.proofs.HeardRows.{fed_heard, weld_heard}
use Rattle.live_state.specs.Lives.{Routes, with_routes, routes_after, live_fed}
use Rattle.router_moments.specs.Turns.{Feeds}
use Rattle.router_moments.specs.Works.{IsUpAt}
use Rattle.peer_side.proofs.WeldLemmas.{weld_keeps}
use Rattle.live_state.proofs.AdmittedLemmas.{routes_twice}
use Rattle.router_moments.proofs.StandLemmas.{peer_of, live_routed, routes_there, may_settle}
use Rattle.router_moments.proofs.KeepLemmas.{keeps_join, pushes_join}
use Rattle.router_moments.proofs.PeerFalls.{welded_put, fall_keeps, fall_settled}

silent_up : (up : Bool) (c : Chained) → up ≡ true → IsSilent up c
silent_up true c is = tt
silent_up false c is = absurd (cc)

abbrev live_by : Moment → (ℕ → Routes) → LiveState
live_by m routes = record (live_state m) { routes = routes }

-- ---- one prefix
pub feed_keeps : (k : ℕ) (p : AddressPrefix) (row : Option Attrs) (m : Moment) (said : List Line) (m' : Moment) → Stands m → IsUpAt k m → ForSome row (MayBeHeard m.declared.profile) → Feeds k (p, row) m said m' → Keeps (live_fed (live_state m) k ((p, row) ∷ [])) m m' said
feed_keeps k p row m said m' stands up heard t =
    fall_keeps k t.0 (FeedsInward k p row t.0 m.chains) m said m' stands f c less f.part.feeds.at f.part.feeds.after p f.part.changes (live_fed (live_state m) k ((p, row) ∷ [])) peer.0 f.part.fall refl
    (live_routed m m.declared k c (welded less) m'.chains f.part.feeds.at put refl ∙ ap (λ (r : Routes). live_by m (with_routes (live_state m).routes k (live_after r p row))) (sym (routes_there m k c f.part.feeds.at))) peer.1 here
    (weld_heard m.declared.profile less (fed_heard m.declared.profile c p row heard (stands.exits.rows k c f.part.feeds.at)))
  where
    f : FallsPeer k t.0 (FeedsInward k p row t.0 m.chains) m said m'
    f = t.1

    c : Chained
    c = f.part.feeds.chain

    less : Chained
    less = fed c p row

    put : m'.chains ≡ put_chain k (welded less) m.chains
    put = welded_put k t.0 (FeedsInward k p row t.0 m.chains) m said m' stands f c less f.part.feeds.at f.part.feeds.after p f.part.changes

    peer : (q : DeclaredPeer) × (peer_at k m.declared.peers ≡ Some q) × PeerStands q c
    peer = peer_of m stands k c f.part.feeds.at

    here : PeerStands peer.0 (welded less)
    here =
        let is_up : peer.0.up ≡ true = ap (λ (q : DeclaredPeer). q.up) (same_Some peer.0 up.0 (sym peer.1 ∙ up.1)) ∙ up.2 in
        let earlier = weld_keeps k m.chains f.fallen m'.chains less f.weld f.part.feeds.after f.welds (open_session peer.0) (f.part.before (open_session peer.0) peer.2.earlier) in
        record { words = peer.2.words; earlier = earlier; silent = silent_up peer.0.up (welded less) is_up }

fed_one : (k : ℕ) (p : AddressPrefix) (row : Option Attrs) (sent : Option (Change Route)) (m : Moment) (fallen : Chains) (m' : Moment) (entries rest : List (Entry Value)) → Stands m → IsUpAt k m → ForSome row (MayBeHeard m.declared.profile) → FeedsInward k p row sent m.chains fallen entries
    → SettlesPeer k sent (with_chains m fallen) m' rest → HaveFed k ((p, row) ∷ []) m m' (journal_lines (entries ++ rest))
fed_one k p row sent m fallen m' entries rest stands up heard f w =
    let t : Feeds k (p, row) m (journal_lines (entries ++ rest)) m' = (sent, fall_settled k sent (FeedsInward k p row sent m.chains) m fallen m' entries rest f w) in
    record { feeds = (journal_lines (entries ++ rest), [], m', t, (refl, refl), sym (append-nil (journal_lines (entries ++ rest)))); keeps = feed_keeps k p row m (journal_lines (entries ++ rest)) m' stands up heard t }

pub one_fed : (k : ℕ) (p : AddressPrefix) (row : Option Attrs) (sent : Option (Change Route)) (m v : Moment) (fallen : Chains) (m' : Moment) (before j now : Journaled) → v ≡ m → Stands m → IsUpAt k m → ForSome row (MayBeHeard m.declared.profile) → Adds (FeedsInward k p row sent v.chains fallen) before j
    → Adds (SettlesPeer k sent (with_chains v fallen) m') j now → Pushes (HaveFed k ((p, row) ∷ []) m m') before now
one_fed k p row sent m v fallen m' before j now view stands up heard f w =
    subst (λ (n : Moment). Pushes (HaveFed k ((p, row) ∷ []) n m') before now) view
    (journal_lines (f.0 ++ w.0), adds_both before j now f.0 w.0 f.1 w.1, fed_one k p row sent v fallen m' f.0 w.0 (subst Stands (sym view) stands) (subst (IsUpAt k) (sym view) up) (subst (λ (n : Moment). ForSome row (MayBeHeard n.declared.profile)) (sym view) heard) f.2 w.2)

-- what follows it asks for
pub fed_settles : (k : ℕ) (p : AddressPrefix) (row : Option Attrs) (sent : Option (Change Route)) (m v : Moment) (fallen : Chains) (before j : Journaled) → v ≡ m → Stands m → Adds (FeedsInward k p row sent v.chains fallen) before j → MaySettle k (with_chains v fallen)
fed_settles k p row sent m v fallen before j view stands f = may_settle k m v fallen f.2.feeds.chain (fed f.2.feeds.chain p row) view stands f.2.feeds.at f.2.feeds.after f.2.fall.sound

-- ---- one after the other
module _ (k : ℕ) where
  feeds_join : (xs ys : List (AddressPrefix × Option Attrs)) (m between m' : Moment) (a b : List Line) → FeedsAll k xs m a between → FeedsAll k ys between b m' → FeedsAll k (xs ++ ys) m (a ++ b) m'
  feeds_join [] ys m between m' a b f g =
      subst (λ (ls : List Line). FeedsAll k ys m (ls ++ b) m') (sym f.0) (subst (λ (x : Moment). FeedsAll k ys x b m') f.1 g)
  feeds_join (x ∷ xs) ys m between m' a b f g =
      (f.0, f.1 ++ b, f.2, f.3, feeds_join xs ys f.2 between m' f.1 b f.4 g, ap (λ (l : List Line). l ++ b) f.5 ∙ append_assoc f.0 f.1 b)

  routes_join : (xs ys : List (AddressPrefix × Option Attrs)) (r : Routes) → routes_after r (xs ++ ys) ≡ routes_after (routes_after r xs) ys
  routes_join [] ys r = refl
  routes_join (x ∷ xs) ys r = routes_join xs ys (live_after r x.0 x.1)

  routes_at : (all : ℕ → Routes) (r : Routes) → with_routes all k r k ≡ r
  routes_at all r = ap (λ (b : Bool). cond b r (all k)) (same_by k k refl)

  live_join : (l : LiveState) (xs ys : List (AddressPrefix × Option Attrs)) → live_fed (live_fed l k xs) k ys ≡ live_fed l k (xs ++ ys)
  live_join l xs ys =
      ap (λ (r : ℕ → Routes). the_state r) (routes_twice l.routes k (routes_after (l.routes k) xs) (routes_after (with_routes l.routes k (routes_after (l.routes k) xs) k) ys))
      ∙ ap (λ (r : Routes). the_state (with_routes l.routes k (routes_after r ys))) (routes_at l.routes (routes_after (l.routes k) xs))
      ∙ ap (λ (r : Routes). the_state (with_routes l.routes k r)) (sym (routes_join xs ys (l.routes k)))
    where
      the_state : (ℕ → Routes) → LiveState
      the_state routes = record l { routes = routes }

  pub fed_join : (xs ys : List (AddressPrefix × Option Attrs)) (m between m' : Moment) (a b : List Line) → HaveFed k xs m between a → HaveFed k ys between m' b → HaveFed k (xs ++ ys) m m' (a ++ b)
  fed_join xs ys m between m' a b f g = record {
    feeds = feeds_join xs ys m between m' a b f.feeds g.feeds;
    keeps = subst (λ (l : LiveState). Keeps l m m' (a ++ b)) (ap (λ (l : LiveState). live_fed l k ys) f.keeps.live ∙ live_join (live_state m) xs ys)
        (keeps_join m between m' a b (live_fed (live_state m) k xs) (live_fed (live_state between) k ys) refl f.keeps g.keeps);
  }

  pub pushed_more : (xs : List (AddressPrefix × Option Attrs)) (x : AddressPrefix × Option Attrs) (m between m' : Moment) (before j now : Journaled) → Pushes (HaveFed k xs m between) before j
      → Pushes (HaveFed k (x ∷ []) between m') j now → Pushes (HaveFed k (xs ++ x ∷ []) m m') before now
  pushed_more xs x m between m' before j now f g =
      pushes_join (HaveFed k xs m between) (HaveFed k (x ∷ []) between m') (HaveFed k (xs ++ x ∷ []) m m') (λ a b p q. fed_join xs (x ∷ []) m between m' a b p q) before j now f g

-- and the profile stays
pub fed_profile : (k : ℕ) (xs : List (AddressPrefix × Option Attrs)) (m m' : Moment) (before now : Journaled) → Pushes (HaveFed k xs m m') before now → m.declared.profile ≡ m'.declared.profile
fed_profile k xs m m' before now p = sym (ap (λ (l : LiveState). l.declared.profile) p.2.keeps.live)

-- one change more
pub take_pair : (xs : List (AddressPrefix × Option Attrs)) (i : ℕ) (x : AddressPrefix × Option Attrs) (row : Option Attrs) → i < length xs → x ≡ get_or xs i x → row ≡ x.1
    → take (i + 1) xs ≡ take i xs ++ (x.0, row) ∷ []
take_pair xs i x row below is same =
    take_more xs i x below ∙ ap (λ (y : AddressPrefix × Option Attrs). take i xs ++ y ∷ []) (sym is)
    ∙ ap (λ (r : Option Attrs). take i xs ++ (x.0, r) ∷ []) (sym same)

-- and so is each of the prefixes
pub heard_at : (profile : Profile) (xs : List (AddressPrefix × Option Attrs)) (i : ℕ) (x : AddressPrefix × Option Attrs) (row : Option Attrs) → i < length xs → x ≡ get_or xs i x → row ≡ x.1 → AreHeard profile xs → ForSome row (MayBeHeard profile)
heard_at profile [] i x row below is same heard = absurd (omega (arith, below))
heard_at profile (y ∷ xs) zero x row below is same heard = subst (λ (o : Option Attrs). ForSome o (MayBeHeard profile)) (sym (same ∙ ap (λ (z : AddressPrefix × Option Attrs). z.1) is)) heard.0
heard_at profile (y ∷ xs) (suc i) x row below is same heard = heard_at profile xs i x row (omega (arith, below)) is same heard.1
