use Rattle.std.proofs.Common.{◌∙◌, refl, sym, ap, subst}
use Rattle.std.proofs.lemmas.Result.{on_ok_weaker}
use Rattle.exit_side.specs.Exits.{Exited, IsExits}
use Rattle.exit_side.proofs.HeldLemmas.{held, held_none, held_out, seen}
use Rattle.exit_side.proofs.TaskLemmas.{live_in}
use Rattle.exit_side.proofs.StepLemmas.{ends_for}
use Rattle.exit_side.proofs.exits.Exits.end.Goals as goal

pub unreachable-requires : goal.unreachable-requires
unreachable-requires g c = held_none c.self.inside.profile c.self.inside.queue c.self.inside.chains c.args.self.now c.self.view_is c.args.number (sym c.in_default.is ∙ c.remove.ensures.value) c.requires.there

pub stop-requires : goal.stop-requires
stop-requires g c = record {
  live = live_in c.args.self.now c.self.inside.queue c.args.number c.in-Some.chain (ap (λ (e : Exited). e.queue) c.self.view_is) c.requires.sound
      (sym (c.in-Some.ensures.value ∙ held c.self.inside.profile c.self.inside.queue c.self.inside.chains c.args.self.now c.self.view_is c.args.number));
}

pub returns : goal.returns
returns g c =
    let v : Exited = seen c.self.inside.profile c.self.inside.queue c.self.inside.chains in
    on_ok_weaker c.stop.result
    (λ lines.
    ends_for c.a_session_stands.ensures.others v c.args.number c.in-Some.chain
    (sym (c.in-Some.ensures.value ∙ held c.self.inside.profile c.self.inside.queue c.self.inside.chains v refl c.args.number)) (subst IsExits (sym c.self.view_is) c.requires.sound)
    c.stop.new.queue c.stop.ensures.left c.stop.ensures.others c.stop.ensures.leads c.args.self.now _ c.args.journal.now c.stop.new.journal c.self.view_is
    (held_out c.self.inside.profile c.self.inside.queue c.stop.new.queue c.self.inside.chains c.remove.new.self c.args.number c.in-Some.ensures.updates) lines)
    c.stop.ensures.lines
