use Rattle.std.proofs.Common.{◌≡◌, None, Some, sym, ap, ◌∙◌, subst}
use Rattle.addr4.specs.Places.{key_of}
use Rattle.link_change.specs.Turns.{taken_turn}
use Rattle.nexthop_known.specs.Hops.{Hops}
use Rattle.nexthop_resolver.specs.Resolving.{Resolving, at_place, in_force_by, fresh_by, goes_on}
use Rattle.nexthop_resolver.specs.Turns.{Steps, IsStep}
use Rattle.nexthop_resolver.proofs.TurnLemmas.{steps_on, ends_walk, step_taken}
use Rattle.nexthop_resolver.proofs.resolver.Resolver.step.Goals as goal

pub returns-in_default-clause-step : goal.returns-in_default-clause-step
returns-in_default-clause-step g c =
    let candidates = g.U.Upstream.candidates c.args.upper.now in
    let upper = g.U.Upstream.rows c.args.upper.now in
    let new : Resolving g.row.A.Denot = record { client = c.self.inside.client; counts = c.self.inside.tallies; known = c.settle.new.self; walk = None } in
    subst (λ (s : Resolving g.row.A.Denot). Steps g.R.Via.hop g.R.Via.made candidates upper (at_place s (key_of c.args.place)) new None) c.self.view_is
    (ends_walk g.R.Via.hop g.R.Via.made candidates upper c.in_default.ensures.covers c.self.inside.client c.self.inside.tallies c.self.inside.known (key_of c.args.place)
    c.settle.new.self c.in_default.ensures.next c.settle.ensures)

pub returns-clause-step : goal.returns-clause-step
returns-clause-step g c =
    let hop = g.R.Via.hop in
    let made = g.R.Via.made in
    let candidates = g.U.Upstream.candidates c.args.upper.now in
    let upper = g.U.Upstream.rows c.args.upper.now in
    let p = c.in-Some.prefix in
    let known = c.self.inside.known in
    let new : Resolving g.row.A.Denot = record { client = c.self.inside.client; counts = c.self.inside.tallies; known = known; walk = Some (Some p) } in
    let same : c.args.self.now.known ≡ known = ap (λ (s : Resolving g.row.A.Denot). s.known) (sym c.self.view_is) in
    let before : c.by_in_force-before.result ≡ goes_on hop made (in_force_by known) (upper p) =
    c.by_in_force-before.ensures ∙ ap (λ (k : Hops g.row.A.Denot). goes_on hop made (in_force_by k) c.in_ok-row.row) same ∙ ap (goes_on hop made (in_force_by known)) c.in_ok-row.ensures in
    let after : c.by_fresh-after.result ≡ goes_on hop made (fresh_by known) (upper p) =
    c.by_fresh-after.ensures ∙ ap (λ (k : Hops g.row.A.Denot). goes_on hop made (fresh_by k) c.in_ok-again.again) same
    ∙ ap (goes_on hop made (fresh_by known)) (c.in_ok-again.ensures ∙ c.in_ok-row.ensures) in
    subst (λ t. IsStep hop made candidates upper (at_place c.args.self.now (key_of c.args.place)) new t) (sym c.taken.ensures)
    (subst (λ (s : Resolving g.row.A.Denot). IsStep hop made candidates upper (at_place s (key_of c.args.place)) new (taken_turn c.between.result)) c.self.view_is
    (step_taken hop made candidates upper _ new c.between.result
    (steps_on hop made candidates upper c.in-Some.ensures.covers c.self.inside.client c.self.inside.tallies known (key_of c.args.place) p
    c.by_in_force-before.result c.by_fresh-after.result c.between.result c.in-Some.ensures.next before after c.between.ensures)))
