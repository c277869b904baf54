use Rattle.std.proofs.Common.{◌≡◌, None, Bool, MatchBool, is_some, refl, sym, ap, ◌∙◌, subst}
use Rattle.std.specs.Option.{option_map}
use Rattle.std.specs.FinMap as map
use Rattle.addr4.specs.Places.{key_of}
use Rattle.nexthop_known.specs.Hops.{IsLeastStale, IsDiffering, IsSettled}
use Rattle.nexthop_resolver.specs.Resolving.{Resolving}
use Rattle.nexthop_resolver.specs.Registered.{answer_of}
use Rattle.nexthop_resolver.specs.Turns.{Turned}
use Rattle.nexthop_resolver.proofs.MoveLemmas.{renewed_named}
use Rattle.nexthop_resolver.proofs.TurnLemmas.{agrees_after, asks_turn, begins_ok}
use Rattle.nexthop_resolver.proofs.resolver.Resolver.unit.Goals as goal

pub returns-in-Some-clause-agrees : goal.returns-in-Some-clause-agrees
returns-in-Some-clause-agrees g c =
    agrees_after g.R.Via.hop g.R.Via.made (g.U.Upstream.candidates c.args.upper.now) (g.U.Upstream.rows c.args.upper.now) g.A.FromMatch.kept_of c.args.register.now c.args.register.now
    c.args.self.now c.step.new.self (key_of c.in-Some.place) c.step.result c.step.ensures.step c.step.ensures.memory c.requires.agrees

pub invariant_of-self-in-Some-next_stale : goal.invariant_of-self-in-Some-next_stale
invariant_of-self-in-Some-next_stale g c =
    let renews = c.in_ok-renew.ensures.renews in
    renewed_named c.self.inside.tallies c.self.inside.known c.renew.new.known c.in-Some-next_stale.hop renews.0 (answer_of g.A.FromMatch.kept_of c.args.register.now c.in-Some-next_stale.hop)
    c.self.invariant (ap is_some c.in-Some-next_stale.ensures.0.1) renews.1

pub returns-in-Some-next_stale-clause-taken : goal.returns-in-Some-next_stale-clause-taken
returns-in-Some-next_stale-clause-taken g c =
    let walk = option_map key_of c.self.inside.walk in
    let new : Resolving g.row.A.Denot = record { client = c.self.inside.client; counts = c.self.inside.tallies; known = c.renew.new.known; walk = walk } in
    subst (λ (s : Resolving g.row.A.Denot). Turned g.R.Via.hop g.R.Via.made (g.U.Upstream.candidates c.args.upper.now) (g.U.Upstream.rows c.args.upper.now)
    g.A.FromMatch.kept_of c.args.register.now c.renew.new.register s new None) c.self.view_is
    (asks_turn g.R.Via.hop g.R.Via.made (g.U.Upstream.candidates c.args.upper.now) (g.U.Upstream.rows c.args.upper.now) g.A.FromMatch.kept_of c.args.register.now c.renew.new.register
    c.self.inside.client c.self.inside.tallies c.self.inside.known c.renew.new.known walk c.in-Some-next_stale.hop
    (ap (option_map key_of) c.in_default.is) c.in-Some-next_stale.ensures c.in_ok-renew.ensures.renews)

pub returns-clause-taken : goal.returns-clause-taken
returns-clause-taken g c =
    let known : c.self.inside.known ≡ c.args.self.now.known = ap (λ (s : Resolving g.row.A.Denot). s.known) c.self.view_is in
    begins_ok g.R.Via.hop g.R.Via.made (g.U.Upstream.candidates c.args.upper.now) (g.U.Upstream.rows c.args.upper.now) g.A.FromMatch.kept_of c.args.register.now c.args.register.now
    c.args.self.now c.step-2.new.self c.step-2.result
    (ap (λ (s : Resolving g.row.A.Denot). s.walk) (sym c.self.view_is) ∙ ap (option_map key_of) c.in_default.is)
    (subst (λ k. IsLeastStale (map.get k) None) known c.in_default-next_stale.ensures)
    (subst (λ k. IsDiffering (map.get k)) known
    (subst (λ (b : Bool). MatchBool b (IsDiffering (map.get c.self.inside.known)) (IsSettled (map.get c.self.inside.known))) c.if-not-differs.false c.differs.ensures))
    c.step-2.ensures.step refl

pub returns-clause-agrees : goal.returns-clause-agrees
returns-clause-agrees g c =
    agrees_after g.R.Via.hop g.R.Via.made (g.U.Upstream.candidates c.args.upper.now) (g.U.Upstream.rows c.args.upper.now) g.A.FromMatch.kept_of c.args.register.now c.args.register.now
    c.args.self.now c.step-2.new.self None c.step-2.result c.step-2.ensures.step c.step-2.ensures.memory c.requires.agrees
