use Rattle.std.proofs.Common.{sym, ap, Ok, ◌∙◌}
use Rattle.bgp_wire.specs.Attributes.{attribute_of}
use Rattle.bgp_wire.specs.Found.{placed}
use Rattle.bgp_wire.proofs.FoundLaws.{found_other}
use Rattle.bgp_wire.proofs.found.Found.take_unrecognized.Goals as goal

pub returns-in_ok-place-in-Keep : goal.returns-in_ok-place-in-Keep
returns-in_ok-place-in-Keep c =
    let a = attribute_of c.args.raw.now in
    let value = c.from_vec-value.ensures ∙ c.in_ok-from_slice-in-Keep.ensures.items in
    let list = c.in_ok-place-in-Keep.ensures.ok ∙ ap (λ v. placed (record { kind = a.kind; value = v }) c.args.self.now.unrecognized) value in
    let keep = c.in_ok-verdict.ensures ∙ ap (λ v. Ok v) c.in-Keep.is in
    (keep, ap (λ us. record c.args.self.now { unrecognized = us }) list ∙ sym (found_other c.args.profile c.args.external a c.args.self.now c.requires keep))
