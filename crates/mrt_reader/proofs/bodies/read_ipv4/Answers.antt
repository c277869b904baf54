use Rattle.std.proofs.Common.{sym, ap, ◌∙◌}
use Rattle.mrt_reader.specs.Fields.{Session, are_speakers}
use Rattle.mrt_reader.specs.Kept.{told_of}
use Rattle.mrt_reader.proofs.KeptLemmas.{ipv4_malformed, ipv4_unused, ipv4_session}
use Rattle.mrt_reader.proofs.bodies.read_ipv4.Goals as goal

pub returns-then-not-is_well_sized-clause-said : goal.returns-then-not-is_well_sized-clause-said
returns-then-not-is_well_sized-clause-said c = λ whole size front.
    ipv4_malformed c.args.as4 c.args.header.kind c.args.header.subtype c.args.header.length whole size (sym c.is_well_sized.ensures ∙ c.if-not-is_well_sized.true)

pub returns-then-not-are_speakers-clause-said : goal.returns-then-not-are_speakers-clause-said
returns-then-not-are_speakers-clause-said c = λ whole size front.
    ipv4_unused c.args.as4 c.args.header.kind c.args.header.subtype c.args.header.length c.args.body.now whole size front (sym c.is_well_sized.ensures ∙ c.if-not-is_well_sized.false)
    (ap are_speakers (sym c.sides-sides.ensures) ∙ (sym c.are_speakers.ensures ∙ c.if-not-are_speakers.true))

pub returns-clause-said : goal.returns-clause-said
returns-clause-said c = λ whole size front.
    ap (λ s. Session s (told_of c.args.body.now c.read_news.result)) c.sides-sides.ensures
    ∙ ipv4_session c.args.as4 c.args.header.kind c.args.header.subtype c.args.header.length c.args.body.now whole _ size front (sym c.is_well_sized.ensures ∙ c.if-not-is_well_sized.false)
    (ap are_speakers (sym c.sides-sides.ensures) ∙ (sym c.are_speakers.ensures ∙ c.if-not-are_speakers.false))
    (c.read_news.ensures.told whole size front)
