use Rattle.router_moments.proofs.Common.{sym, subst, ◌≡◌, ℕ, List, IsWellFormed, Gives, HasStepped}
use Rattle.std.proofs.Common.{None}
use Rattle.std.specs.Result.{IfOk}
use Rattle.event_text.specs.declared.event.Event.TheVariants as events
use Rattle.event_text.specs.Declarations.{refusal}
use Rattle.router_core.proofs.steps.message.Goals as goal

pub receive-turns-requires-clause-admitted : goal.receive-turns-requires-clause-admitted
receive-turns-requires-clause-admitted g c = subst (λ (octets : List ℕ). refusal c.args.network.now.declared (events.Bgp c.args.number octets) ≡ None) (sym c.as_slice.ensures) c.requires.admitted

pub receive-turns-requires-clause-formed : goal.receive-turns-requires-clause-formed
receive-turns-requires-clause-formed g c = subst (λ (octets : List ℕ). IsWellFormed c.args.network.now.declared.v6 c.args.network.now.declared.profile (events.Bgp c.args.number octets)) (sym c.as_slice.ensures) c.requires.formed

pub returns-clause-steps : goal.returns-clause-steps
returns-clause-steps g c =
    subst (λ (octets : List ℕ). IfOk c.receive-turns.result (λ turns. Gives (HasStepped c.args.network.now (events.Bgp c.args.number octets) turns c.receive-turns.new.network) c.args.journal.now c.receive-turns.new.journal)) c.as_slice.ensures c.receive-turns.ensures.steps
