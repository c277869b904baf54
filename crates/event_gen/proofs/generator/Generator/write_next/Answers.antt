use Rattle.std.proofs.Common.{◌<◌, refl, ap, ◌∙◌, arith}
use Rattle.event_gen.specs.Events.{event_of}
use Rattle.event_gen.proofs.TextLemmas.{opens, closes, goes_on, is_over}
use Rattle.event_gen.proofs.generator.Generator.write_next.Goals as goal

pub returns-then-self-eq0-clause-whole : goal.returns-then-self-eq0-clause-whole
returns-then-self-eq0-clause-whole c =
    let self = c.self.inside in
    closes c.args.out.now.items c.write_line.new.out.items c.args.self.now self.part self.events self.state c.in-Events.is c.if-self-eq0.true c.self.view_is c.in_ok-write_line-in-Events.ensures.written

pub returns-in_ok-extend_from_slice-in-Opening-clause-whole : goal.returns-in_ok-extend_from_slice-in-Opening-clause-whole
returns-in_ok-extend_from_slice-in-Opening-clause-whole c =
    let self = c.self.inside in
    opens c.args.out.now.items c.extend_from_slice.new.self.items c.args.self.now self.part self.events self.state c.in-Opening.is c.self.view_is c.in_ok-extend_from_slice-in-Opening.ensures.items

pub returns-in_ok-write_line-in-Events-2-clause-whole : goal.returns-in_ok-write_line-in-Events-2-clause-whole
returns-in_ok-write_line-in-Events-2-clause-whole c =
    let self = c.self.inside in
    let more = c.if-self-eq0.false in
    let some : 0 < self.events = omega (arith, more) in
    goes_on c.args.out.now.items c.write_line-in-Events.new.out.items c.args.self.now self.part self.events self.state c.draw_four-state.result.1 c.event_of.result c.in-Events.is some c.draw_four-state.ensures.state (c.event_of.ensures ∙ ap event_of c.draw_four-state.ensures.draws) c.self.view_is c.in_ok-write_line-in-Events-2.ensures.written

pub returns-in-Over-clause-over : goal.returns-in-Over-clause-over
returns-in-Over-clause-over c = let self = c.self.inside in λ _. (is_over c.args.self.now self.part self.events self.state c.in-Over.is c.self.view_is, refl)
