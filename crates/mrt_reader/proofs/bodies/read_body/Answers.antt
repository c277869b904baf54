use Rattle.std.proofs.Common.{◌+◌, sym, ap, ◌∙◌, arith}
use Rattle.mrt_reader.specs.Records.{number_at}
use Rattle.mrt_reader.proofs.KeptLemmas.{body_unused, body_malformed, body_foreign, body_ipv4}
use Rattle.mrt_reader.proofs.bodies.read_body.Goals as goal

pub returns-then-not-is_used-clause-said : goal.returns-then-not-is_used-clause-said
returns-then-not-is_used-clause-said c = λ whole kept.
    body_unused c.args.as4 c.args.header.kind c.args.header.subtype whole (sym c.is_used.ensures ∙ c.if-not-is_used.true)

pub returns-then-header-interface-clause-said : goal.returns-then-header-interface-clause-said
returns-then-header-interface-clause-said c = λ whole kept.
    body_malformed c.args.as4 c.args.header.kind c.args.header.subtype c.args.header.length whole kept.size (sym c.is_used.ensures ∙ c.if-not-is_used.false)
    (omega (arith, c.interface-interface.ensures.value, c.if-header-interface.true))

pub returns-then-short_at-ne-IPV4-clause-said : goal.returns-then-short_at-ne-IPV4-clause-said
returns-then-short_at-ne-IPV4-clause-said c = λ whole kept.
    let used = sym c.is_used.ensures ∙ c.if-not-is_used.false in
    let at = c.short_at.ensures ∙ ap (λ k. number_at 2 (k + 2) c.args.body.now) c.interface-interface.ensures.value in
    body_foreign c.args.as4 c.args.header.kind c.args.header.subtype c.args.header.length c.args.body.now whole kept.size (kept.front used) used
    (omega (arith, c.interface-interface.ensures.value, c.if-header-interface.false)) (λ e. c.if-short_at-ne-IPV4.true (at ∙ e))

pub returns-clause-said : goal.returns-clause-said
returns-clause-said c = λ whole kept.
    let used = sym c.is_used.ensures ∙ c.if-not-is_used.false in
    let at = c.short_at.ensures ∙ ap (λ k. number_at 2 (k + 2) c.args.body.now) c.interface-interface.ensures.value in
    body_ipv4 c.args.as4 c.args.header.kind c.args.header.subtype c.args.header.length c.args.body.now whole _ kept.size (kept.front used) used
    (omega (arith, c.interface-interface.ensures.value, c.if-header-interface.false)) (sym at ∙ c.if-short_at-ne-IPV4.false) (c.read_ipv4.ensures.said whole kept.size (kept.front used))
