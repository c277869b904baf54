use Rattle.std.proofs.Common.{◌<◌, length, sym}
use Rattle.std.proofs.lemmas.Result.{err_from_is_err_and}
use Rattle.bgp_wire.specs.Attributes.{attribute_of}
use Rattle.bgp_wire.proofs.ResultLemmas.{not_empty, is_empty_from}
use Rattle.bgp_wire.proofs.AttributeLoops.{attribute_shorter}
use Rattle.bgp_wire.proofs.GatherLaws.{starts, stops_refused, stops_withdrawn, fails_at, goes, gathered_all}
use Rattle.bgp_wire.proofs.gathered.read_attributes.Goals as goal

pub attributes-init : goal.attributes-init
attributes-init c = starts c.args.profile c.args.external c.args.bytes.now c.new-gathered.result c.new-gathered.ensures

pub attributes-smaller : goal.attributes-smaller
attributes-smaller c = attribute_shorter c.attributes.rest.now _ (sym c.in-Some.ensures)

pub returns-then-profile : goal.returns-then-profile
returns-then-profile c =
    let some : 0 < length c.attributes.rest.now = not_empty c.attributes.rest.now _ c.is_empty.ensures c.attributes-test.true in
    stops_withdrawn c.args.profile c.args.external c.args.bytes.now c.attributes.rest.now c.attributes.gathered some c.in-None.ensures c.if-profile.true c.attributes.invariant

pub returns-in-None : goal.returns-in-None
returns-in-None c =
    let some : 0 < length c.attributes.rest.now = not_empty c.attributes.rest.now _ c.is_empty.ensures c.attributes-test.true in
    stops_refused c.args.profile c.args.external c.args.bytes.now c.attributes.rest.now c.attributes.gathered c.refused.result some c.in-None.ensures c.if-profile.false c.refused.ensures c.attributes.invariant

pub returns-in_err-take : goal.returns-in_err-take
returns-in_err-take c =
    let p = err_from_is_err_and c.from_residual.result c.from_residual.ensures.1 in
    let some : 0 < length c.attributes.rest.now = not_empty c.attributes.rest.now _ c.is_empty.ensures c.attributes-test.true in
    let x = c.in-Some.found in
    rw (p.1, p.2) (fails_at c.args.profile c.args.external c.args.bytes.now c.attributes.rest.now x.1.now c.attributes.gathered (attribute_of x.0) c.in_err-take.field-0.0 some c.in-Some.ensures c.in_err-take.ensures.err c.attributes.invariant)

pub attributes-preserved : goal.attributes-preserved
attributes-preserved c =
    let some : 0 < length c.attributes.rest.now = not_empty c.attributes.rest.now _ c.is_empty.ensures c.attributes-test.true in
    let x = c.in-Some.found in
    goes c.args.profile c.args.external c.args.bytes.now c.attributes.rest.now x.1.now c.attributes.gathered c.take.new.self (attribute_of x.0) some c.in-Some.ensures c.in_ok-take.ensures.ok c.attributes.invariant

pub returns : goal.returns
returns c = gathered_all c.args.profile c.args.external c.args.bytes.now c.attributes.rest.now c.attributes.gathered (is_empty_from c.attributes.rest.now _ c.is_empty.ensures c.attributes-test.false) c.attributes.invariant
