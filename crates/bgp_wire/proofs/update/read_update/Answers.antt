use Rattle.std.proofs.Common.{◌≡◌, Ok, subst}
use Rattle.std.proofs.lemmas.Result.{err_from_is_err_and}
use Rattle.bgp_wire.specs.Faults.{Fails}
use Rattle.bgp_wire.specs.Found.{lacks_from}
use Rattle.bgp_wire.specs.Multiprotocol.{announced_by}
use Rattle.bgp_wire.specs.Updates.{fields_of}
use Rattle.bgp_wire.proofs.ReadingLaws.{fields_fail, withdrawn_fail, attributes_fail, announced_fail, lacking_fail, update_is}
use Rattle.bgp_wire.proofs.update.read_update.Goals as goal

pub returns-in_err-fields : goal.returns-in_err-fields
returns-in_err-fields c =
    let p = err_from_is_err_and c.from_residual.result c.from_residual.ensures.1 in
    rw (p.1, p.2) (fields_fail c.args.profile c.args.external c.args.bytes.now c.in_err-fields.field-0.0 c.in_err-fields.ensures)

pub returns-in_err-withdrawn : goal.returns-in_err-withdrawn
returns-in_err-withdrawn c =
    let p = err_from_is_err_and c.from_residual-in_err-withdrawn.result c.from_residual-in_err-withdrawn.ensures.1 in
    rw (p.1, p.2) (withdrawn_fail c.args.profile c.args.external c.args.bytes.now (fields_of c.in_ok-fields.fields) c.in_err-withdrawn.field-0.0 c.in_ok-fields.ensures c.in_err-withdrawn.ensures)

pub returns-in_err-gathered : goal.returns-in_err-gathered
returns-in_err-gathered c =
    let p = err_from_is_err_and c.from_residual-in_err-gathered.result c.from_residual-in_err-gathered.ensures.1 in
    rw (p.1, p.2) (attributes_fail c.args.profile c.args.external c.args.bytes.now (fields_of c.in_ok-fields.fields) c.in_ok-withdrawn.withdrawn.items c.in_err-gathered.field-0.0 c.in_ok-fields.ensures c.in_ok-withdrawn.ensures c.in_err-gathered.ensures)

pub returns-in_err-announced : goal.returns-in_err-announced
returns-in_err-announced c =
    let p = err_from_is_err_and c.from_residual-in_err-announced.result c.from_residual-in_err-announced.ensures.1 in
    let g = c.in_ok-gathered.ensures in
    rw (p.1, p.2) (announced_fail c.args.profile c.args.external c.args.bytes.now (fields_of c.in_ok-fields.fields) c.in_ok-withdrawn.withdrawn.items g.0 c.in_err-announced.field-0.0 c.in_ok-fields.ensures c.in_ok-withdrawn.ensures g.1 c.in_err-announced.ensures)

pub returns-in_err-lacking : goal.returns-in_err-lacking
returns-in_err-lacking c =
    let p = err_from_is_err_and c.from_residual-in_err-lacking.result c.from_residual-in_err-lacking.ensures.1 in
    let g = c.in_ok-gathered.ensures in
    let fails = subst (λ ns. Fails c.in_err-lacking.field-0.0 (lacks_from c.args.profile ns (announced_by c.in_ok-gathered.gathered.found.reach) c.in_ok-gathered.gathered.found)) c.as_slice.ensures.value c.in_err-lacking.ensures in
    rw (p.1, p.2) (lacking_fail c.args.profile c.args.external c.args.bytes.now (fields_of c.in_ok-fields.fields) c.in_ok-withdrawn.withdrawn.items g.0 c.in_ok-announced.announced.items c.in_ok-gathered.gathered.found c.in_err-lacking.field-0.0 (record { fields = c.in_ok-fields.ensures; withdraws = c.in_ok-withdrawn.ensures; attributes = g.1; announces = c.in_ok-announced.ensures }) g.2 fails)

pub returns : goal.returns
returns c =
    let g = c.in_ok-gathered.ensures in
    let lacking = subst (λ ns. lacks_from c.args.profile ns (announced_by c.in_ok-gathered.gathered.found.reach) c.in_ok-gathered.gathered.found ≡ Ok c.in_ok-lacking.lacking) c.as_slice.ensures.value c.in_ok-lacking.ensures in
    update_is c.args.profile c.args.external c.args.bytes.now (fields_of c.in_ok-fields.fields) c.in_ok-withdrawn.withdrawn.items g.0 c.in_ok-announced.announced.items c.in_ok-gathered.gathered c.in_ok-lacking.lacking
    (record { fields = c.in_ok-fields.ensures; withdraws = c.in_ok-withdrawn.ensures; attributes = g.1; announces = c.in_ok-announced.ensures }) g.2 g.3 lacking c.in_ok-update.update c.in_ok-update.ensures
