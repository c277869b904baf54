use Rattle.router_moments.proofs.Common.{sym, ◌∙◌, on_ok_weaker}
use Rattle.std.proofs.Common.{[], ◌∷◌}
use Rattle.journal_text.specs.declared.line.Line.TheVariants as lines
use Rattle.router_moments.proofs.PeerLemmas.{begun_is, ignored_stepped}
use Rattle.router_moments.proofs.SessionLemmas.{session_begun, begins_there, begins_absent, begins_sender, begins_sound}
use Rattle.router_network.proofs.network.Network.begin_session.Goals as goal

pub begin_exit-requires-clause-sound : goal.begin_exit-requires-clause-sound
begin_exit-requires-clause-sound g c = begins_sound c.args.number c.args.self.now _ c.requires.stands (begun_is c.args.self.now _ c.args.number c.begin_session.new.self c.self.view_is c.begin_session.ensures.value)

pub begin_exit-requires-clause-sender : goal.begin_exit-requires-clause-sender
begin_exit-requires-clause-sender g c = begins_sender c.args.number c.args.self.now _ c.requires.stands c.requires.admitted (begun_is c.args.self.now _ c.args.number c.begin_session.new.self c.self.view_is c.begin_session.ensures.value)

pub begin_exit-requires-clause-there : goal.begin_exit-requires-clause-there
begin_exit-requires-clause-there g c = begins_there c.args.number c.args.self.now _ c.requires.admitted (begun_is c.args.self.now _ c.args.number c.begin_session.new.self c.self.view_is c.begin_session.ensures.value)

pub begin_exit-requires-clause-absent : goal.begin_exit-requires-clause-absent
begin_exit-requires-clause-absent g c = begins_absent c.args.number c.args.self.now _ c.requires.stands c.requires.admitted (sym c.is_up.ensures ∙ c.if-is_up.false) (begun_is c.args.self.now _ c.args.number c.begin_session.new.self c.self.view_is c.begin_session.ensures.value)

pub returns : goal.returns
returns g c =
    on_ok_weaker c.begin_exit.result
    (session_begun c.args.number c.args.self.now _ c.begin_exit.new.self c.args.journal.now c.begin_exit.new.journal c.requires.stands c.requires.admitted (sym c.is_up.ensures ∙ c.if-is_up.false)
    (begun_is c.args.self.now _ c.args.number c.begin_session.new.self c.self.view_is c.begin_session.ensures.value))
    c.begin_exit.ensures

pub returns-then-is_up : goal.returns-then-is_up
returns-then-is_up g c =
    on_ok_weaker c.push_line.result
    (λ pushed. (lines.Ignored ∷ [], pushed, ignored_stepped c.args.self.now c.args.number c.requires.stands (sym c.is_up.ensures ∙ c.if-is_up.true)))
    c.push_line.ensures
