-- Background work: of one turn by its parts, of none, and of work behind work.
use Rattle.router_moments.proofs.Common.{sym, subst, ◌≡◌, ℕ, refl, List, arith, ◌+◌, ◌++◌, ◌≤◌, AllByRecursion, known_in, Line, live_state, Moment, counts, earlier, Stands, Keeps, IsWork, AddsNoRows, Phase}
use Rattle.std.proofs.Common.{[], ◌∷◌}
use Rattle.rib_exit.specs.Exits.{known_in as external_known}
use Rattle.router_moments.specs.declared.tasks.Phase.TheVariants.{Del, Fin, ReadRib}
use Rattle.router_moments.specs.Works.{KnowsNoMore, MakesNoneStale}
use Rattle.router_moments.proofs.KeepLemmas.{keeps_none, keeps_on}
use Rattle.router_moments.proofs.SpendLemmas.{Spent, same_rows}
use Rattle.router_moments.proofs.StaleLemmas.{none_as_before, makes_none, stale_then}

-- by what it comes to
pub work_as : (r : Phase) (n k : ℕ) (m now m' : Moment) (these said : List Line) → k ≡ n → m' ≡ now → said ≡ these → IsWork r n m now these → IsWork r k m m' said
work_as r n k m now m' these said count after lines work =
    subst (λ (i : ℕ). IsWork r i m m' said) (sym count) (subst (λ (x : Moment). IsWork r n m x said) (sym after) (subst (λ (l : List Line). IsWork r n m now l) (sym lines) work))

-- ---- one turn
-- by what it keeps, and what it spends of this, which it leaves
pub one_turn : (r : Phase) (m now m' : Moment) (said : List Line) → m' ≡ now → Keeps (live_state m) m m' said → Spent r m now → KnowsNoMore r m now → MakesNoneStale r m now → IsWork r 1 m m' said
one_turn r m now m' said after keeps spent known stale = subst (λ (n : Moment). IsWork r 1 m n said) (sym after) (record {
  keeps = subst (λ (n : Moment). Keeps (live_state m) m n said) after keeps;
  falls = spent.0;
  left = spent.1;
  earlier = spent.2;
  rows = spent.3;
  known = known;
  stale = stale;
  unread = spent.4;
})

-- ---- none, and work behind work
none_more : (m : Moment) (es : List Phase) → AllByRecursion (λ e. counts m e ≤ counts m e) es
none_more m [] = tt
none_more m (e ∷ es) = (omega arith, none_more m es)

pub work_none : (r : Phase) (m : Moment) → Stands m → IsWork r 0 m m []
work_none r m stands = record { keeps = keeps_none m stands; falls = omega arith; left = omega arith; earlier = none_more m (earlier r); rows = same_rows m m refl refl; known = none_known r; stale = makes_none r m m (none_as_before m m refl refl); unread = omega arith }
  where
    none_known : (e : Phase) → KnowsNoMore e m m
    none_known Del = (omega arith, omega arith)
    none_known Fin = omega arith
    none_known ReadRib = omega arith
    none_known other = (omega arith, omega arith)

no_more_then : (a b c : Moment) (es : List Phase) → AllByRecursion (λ e. counts b e ≤ counts a e) es → AllByRecursion (λ e. counts c e ≤ counts b e) es → AllByRecursion (λ e. counts c e ≤ counts a e) es
no_more_then a b c [] x y = tt
no_more_then a b c (e ∷ es) x y = (let p = x.0 in let q = y.0 in omega (arith, p, q), no_more_then a b c es x.1 y.1)

pub rows_then : (a b c : Moment) → AddsNoRows a b → AddsNoRows b c → AddsNoRows a c
rows_then a b c x y = record {
  peers = let p = x.peers in let q = y.peers in omega (arith, p, q);
  protocols = let p = x.protocols in let q = y.protocols in omega (arith, p, q);
}

both_less : (a b c : Moment) → (known_in b.hops ≤ known_in a.hops) × (external_known b.rib ≤ external_known a.rib) → (known_in c.hops ≤ known_in b.hops) × (external_known c.rib ≤ external_known b.rib)
    → (known_in c.hops ≤ known_in a.hops) × (external_known c.rib ≤ external_known a.rib)
both_less a b c x y = (let p = x.0 in let q = y.0 in omega (arith, p, q), let p = x.1 in let q = y.1 in omega (arith, p, q))

known_then : (r : Phase) (a b c : Moment) → KnowsNoMore r a b → KnowsNoMore r b c → KnowsNoMore r a c
known_then Del a b c x y = both_less a b c x y
known_then Fin a b c x y = omega (arith, x, y)
known_then ReadRib a b c x y = omega (arith, x, y)
known_then other a b c x y = both_less a b c x y

pub work_join : (r : Phase) (n k : ℕ) (a b c : Moment) (xs ys : List Line) → IsWork r n a b xs → IsWork r k b c ys → IsWork r (n + k) a c (xs ++ ys)
work_join r n k a b c xs ys x y = record {
  keeps = keeps_on a b c xs ys (live_state a) refl x.keeps y.keeps;
  falls = let p = x.falls in let q = y.falls in omega (arith, p, q);
  left = let p = x.left in let q = y.left in omega (arith, p, q);
  earlier = no_more_then a b c (earlier r) x.earlier y.earlier;
  rows = rows_then a b c x.rows y.rows;
  known = known_then r a b c x.known y.known;
  stale = stale_then r a b c x.stale y.stale;
  unread = let p = x.unread in let q = y.unread in omega (arith, p, q);
}
