use Rattle.bgp_wire.proofs.TestLemmas.{unequal}
use Rattle.bgp_wire.proofs.FrameLaws.{only_two}
use Rattle.bgp_wire.proofs.MessageLaws.{update_content, refresh_content}
use Rattle.bgp_wire.proofs.reading.read_content.Goals as goal

pub read_update-requires : goal.read_update-requires
read_update-requires c =
    let kind = c.in_ok-kind.kind in
    c.in_ok-kind.ensures.update (only_two kind c.in_ok-kind.ensures.kinds.0 c.in_ok-kind.ensures.kinds.1 (unequal kind 1 c.if-kind-eq-OPEN.false) (unequal kind 3 c.if-kind-eq-NOTIFICATION.false) (unequal kind 4 c.if-kind-eq-KEEPALIVE.false) (unequal kind 5 c.if-kind-eq-ROUTE_REFRESH.false))

pub returns : goal.returns
returns c =
    let kind = c.in_ok-kind.kind in
    update_content c.args.profile c.args.external c.args.bytes.now kind c.in_ok-update.update c.in_ok-kind.ensures.gives (unequal kind 1 c.if-kind-eq-OPEN.false) (unequal kind 3 c.if-kind-eq-NOTIFICATION.false) (unequal kind 4 c.if-kind-eq-KEEPALIVE.false) (unequal kind 5 c.if-kind-eq-ROUTE_REFRESH.false) c.in_ok-update.ensures

pub returns-then-kind-eq-ROUTE_REFRESH : goal.returns-then-kind-eq-ROUTE_REFRESH
returns-then-kind-eq-ROUTE_REFRESH c = refresh_content c.args.profile c.args.external c.args.bytes.now c.in_ok-kind.kind c.read_refresh.result c.in_ok-kind.ensures.gives c.if-kind-eq-ROUTE_REFRESH.true c.read_refresh.ensures
