use Rattle.std.proofs.Common.{◌<◌, length}
use Rattle.std.proofs.lemmas.Result.{err_from_is_err_and}
use Rattle.bgp_wire.specs.Prefixes.{prefix_at, prefixes_at}
use Rattle.bgp_wire.proofs.ItemLaws.{goes_on, ends, breaks, items_break, items_step, items_end}
use Rattle.bgp_wire.proofs.PrefixLaws.{prefix_shortens}
use Rattle.bgp_wire.proofs.ResultLemmas.{not_empty, is_empty_from}
use Rattle.std.proofs.Common.{ℕ, List, Result}
use Rattle.addr4.specs.Prefixes.{AddressPrefix}
use Rattle.bgp_wire.specs.declared.notice.FaultKind.{FaultKind}
use Rattle.bgp_wire.specs.declared.notice.Notice.{Notice}
use Rattle.bgp_wire.specs.Faults.{notice, code_of, subcode_of}
use Rattle.bgp_wire.proofs.prefixes.read_prefixes.Given.{Over}
use Rattle.bgp_wire.proofs.prefixes.read_prefixes.Goals as goal

abbrev bad : FaultKind → List ℕ → Notice
bad kind octets = notice (code_of kind) (subcode_of kind) octets

abbrev first : Over → FaultKind → List ℕ → List ℕ → Result (AddressPrefix × List ℕ) Notice
first g kind octets = prefix_at g.F.Family.V6 (bad kind octets)

abbrev read : Over → FaultKind → List ℕ → List ℕ → Result (List AddressPrefix) Notice
read g kind octets = prefixes_at g.F.Family.V6 (bad kind octets)

pub returns-in_err-prefix : goal.returns-in_err-prefix
returns-in_err-prefix g c =
    let p = err_from_is_err_and c.from_residual.result c.from_residual.ensures.1 in
    let some : 0 < length c.prefixes.rest.now = not_empty c.prefixes.rest.now _ c.is_empty.ensures c.prefixes-test.true in
    rw (p.1, p.2) (breaks c.in_err-prefix.field-0.0 c.prefixes.found.items (read g c.args.kind c.args.octets.now c.prefixes.rest.now) (read g c.args.kind c.args.octets.now c.args.bytes.now) (items_break (first g c.args.kind c.args.octets.now) c.in_err-prefix.field-0.0 c.prefixes.rest.now some c.in_err-prefix.ensures) c.prefixes.invariant)

pub prefixes-smaller : goal.prefixes-smaller
prefixes-smaller g c = (prefix_shortens g.F.Family.V6 (bad c.args.kind c.args.octets.now)) c.prefixes.rest.now _ c.in_ok-prefix.ensures

pub prefixes-preserved : goal.prefixes-preserved
prefixes-preserved g c =
    let some : 0 < length c.prefixes.rest.now = not_empty c.prefixes.rest.now _ c.is_empty.ensures c.prefixes-test.true in
    rw c.in_ok-push.ensures.items
    (goes_on c.prefixes.found.items c.in_ok-prefix.prefix (read g c.args.kind c.args.octets.now c.prefixes.rest.now) (read g c.args.kind c.args.octets.now c.in_ok-prefix.after.now) (read g c.args.kind c.args.octets.now c.args.bytes.now) (items_step (first g c.args.kind c.args.octets.now) c.prefixes.rest.now _ (prefix_shortens g.F.Family.V6 (bad c.args.kind c.args.octets.now)) some c.in_ok-prefix.ensures) c.prefixes.invariant)

pub returns : goal.returns
returns g c = ends c.prefixes.found.items (read g c.args.kind c.args.octets.now c.prefixes.rest.now) (read g c.args.kind c.args.octets.now c.args.bytes.now) (items_end (first g c.args.kind c.args.octets.now) c.prefixes.rest.now (is_empty_from c.prefixes.rest.now _ c.is_empty.ensures c.prefixes-test.false)) c.prefixes.invariant
