-- What the decision makes of a change leaves no choice.
use Rattle.router_moments.proofs.Common.{sym, subst, ◌∙◌, ap, ◌≡◌, ℕ, List, AddressPrefix, Route, IsSent, Change, Entry, Value, PeerRows, ComesOn, Exited, best_rows, best_entries, Queues, Moment, Chains, Resolvers, Registry, Interior, with_exits, with_hops, with_chains}
use Rattle.std.proofs.Common.{Option, Some, None}
use Rattle.stage_determinism.proofs.OneLemmas.{sent_is_one}
use Rattle.router_moments.specs.Bests.{DecidesOn}
use Rattle.exit_determinism.specs.Laws.{PutIsOne}

-- from rows of the branches that the change led to these, one change of the best route comes, or none
pub decision_is_one : (k : ℕ) (sent other : Option (Change Route)) (before now is : PeerRows) (p : AddressPrefix) (xs ys : List (Entry Value)) → sent ≡ other → now ≡ is → ComesOn k p sent before now
    → (a : DecidesOn k sent now xs) (b : DecidesOn k other is ys) → (a.best ≡ b.best) × (xs ≡ ys)
decision_is_one k sent other before now is p xs ys same rows comes a b = (best, a.lines ∙ ap best_entries best ∙ sym b.lines)
  where
    here : ComesOn k p other before is
    here = subst (λ (r : PeerRows). ComesOn k p other before r) rows (subst (λ (s : Option (Change Route)). ComesOn k p s before now) same comes)

    again : IsSent (best_rows before) (best_rows now) p b.best
    again = subst (λ (r : PeerRows). IsSent (best_rows before) (best_rows r) p b.best) (sym rows) (b.decides before p here)

    best : a.best ≡ b.best
    best = sent_is_one (best_rows before) (best_rows now) p p a.best b.best (a.decides before p comes) again

-- what joins the queue makes one thing of the exits
pub queue_is_one : PutIsOne → (best other : Option (Change Route)) (e e1 e2 : Exited) → best ≡ other → Queues best e e1 → Queues other e e2 → e1 ≡ e2
queue_is_one law best other e e1 e2 same first second = by best first (subst (λ (b : Option (Change Route)). Queues b e e2) (sym same) second)
  where
    by : (b : Option (Change Route)) → Queues b e e1 → Queues b e e2 → e1 ≡ e2
    by None one two = one ∙ sym two
    by (Some change) one two = law change e e1 e2 one two

-- the moments behind a fall are one where their parts are
pub same_behind : (m : Moment) (a b : Chains) (r s : Registry Interior) (h i : Resolvers) (e f : Exited) → a ≡ b → r ≡ s → h ≡ i → e ≡ f
    → with_exits (with_hops (with_chains m a) r h) e ≡ with_exits (with_hops (with_chains m b) s i) f
same_behind m a b r s h i e f chains registry hops exits =
    ap (λ (x : Chains). with_exits (with_hops (with_chains m x) r h) e) chains
    ∙ ap (λ (x : Registry Interior). with_exits (with_hops (with_chains m b) x h) e) registry
    ∙ ap (λ (x : Resolvers). with_exits (with_hops (with_chains m b) s x) e) hops
    ∙ ap (λ (x : Exited). with_exits (with_hops (with_chains m b) s i) x) exits
