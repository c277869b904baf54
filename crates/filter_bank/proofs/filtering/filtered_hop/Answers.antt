use Rattle.std.proofs.Common.{◌≡◌, ◌∙◌, true, false, Some, sym, ap}
use Rattle.bgp_attr.specs.Attributes.{Attrs}
use Rattle.filter_bank.specs.Filtered.{is_own, first_route}
use Rattle.filter_bank.proofs.LawLemmas.{filtered_hop_is}
use Rattle.filter_bank.proofs.filtering.filtered_hop.Goals as goal

pub returns-then-accepts : goal.returns-then-accepts
returns-then-accepts g c =
    let same : c.attrs-attrs.result.now ≡ c.args.row.now = c.attrs-attrs.ensures in
    ap (λ (a : Attrs). Some a.next_hop) same
    ∙ filtered_hop_is c.args.me.now c.args.peer.now c.args.rules.now c.args.prefix c.args.row.now false true
    (sym c.if-is_own.false ∙ c.is_own.ensures ∙ ap (is_own c.args.me.now) same)
    (sym c.if-accepts.true ∙ c.accepts.ensures (first_route c.args.peer.now c.args.row.now) (sym same))
