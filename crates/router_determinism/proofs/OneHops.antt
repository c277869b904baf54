-- What follows a change that goes through a resolver, and what a change of `int` makes of the register and its clients, leave no choice.
use Rattle.router_moments.proofs.Common.{sym, subst, ◌∙◌, ap, ◌≡◌, ℕ, List, AddressPrefix, Route, Change, Entry, Value, Resolvers, PeerRows, ComesOn, AllCounted, Registry, Interior, RibExit}
use Rattle.std.proofs.Common.{Option, Some, None}
use Rattle.hop_side.specs.Steps.{res_entries, ReachesBelow}
use Rattle.register_interest.specs.Interests.{Interest}
use Rattle.rib_exit.specs.Steps.{ReachesExit}
use Rattle.forward_determinism.specs.Laws as forward
use Rattle.hop_determinism.specs.Laws as hops
use Rattle.router_determinism.specs.Parts.{HopsAreOne}
use Rattle.router_moments.specs.Turns.{ResolvesOn, Invalidates}

-- what goes on below a resolver, over rows which the change led on
pub resolving_is_one : hops.TakesHopIsOne → (k : ℕ) (sent : Option (Change Route)) (uppers now : PeerRows) (p : AddressPrefix) (r r1 r2 : Registry Interior) (h h1 h2 : Resolvers) (s t : Option (Change Route)) (xs ys : List (Entry Value))
    → AllCounted uppers h → ComesOn k p sent uppers now → ResolvesOn k sent s r r1 h h1 xs → ResolvesOn k sent t r r2 h h2 ys
    → (s ≡ t) × (r1 ≡ r2) × (h1 ≡ h2) × (xs ≡ ys)
resolving_is_one law k None uppers now p r r1 r2 h h1 h2 s t xs ys counted comes f g =
    let below : s ≡ t = f.resolves.0 ∙ sym g.resolves.0 in
    (below, f.resolves.1 ∙ sym g.resolves.1, f.resolves.2 ∙ sym g.resolves.2, f.lines ∙ ap (res_entries k) below ∙ sym g.lines)
resolving_is_one law k (Some change) uppers now p r r1 r2 h h1 h2 s t xs ys counted comes f g =
    law k uppers now p change r r1 r2 h h1 h2 s t xs ys counted comes f.resolves f.agreed g.resolves g.agreed

-- what the register gives up with a change of `int`, and what becomes stale of it
pub informing_is_one : HopsAreOne → forward.ReachedIsOne → (change : Change Interior) (r r1 r2 : Registry Interior) (h h1 h2 : Resolvers) (x x1 x2 : RibExit)
    → Invalidates change r r1 h h1 x x1 → Invalidates change r r2 h h2 x x2 → (r1 ≡ r2) × (h1 ≡ h2) × (x1 ≡ x2)
informing_is_one laws law change r r1 r2 h h1 h2 x x1 x2 f g =
    let one = laws.registered change.prefix change.after r r1 r2 f.reached g.reached f.registers.rows f.registers.reaches f.registers.interests g.registers.rows g.registers.reaches g.registers.interests in (
      one.1,
      laws.reaches f.reached h h1 h2 f.resolvers (subst (λ (out : List Interest). ReachesBelow out h h2) (sym one.0) g.resolvers),
      law f.reached x x1 x2 f.external (subst (λ (out : List Interest). ReachesExit out x x2) (sym one.0) g.external),
    )
