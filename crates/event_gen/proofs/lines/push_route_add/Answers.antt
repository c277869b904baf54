use Rattle.std.proofs.Common.{codes, false}
use Rattle.std.proofs.lemmas.Result.{on_ok_weaker}
use Rattle.std.specs.Fmt.{decimal}
use Rattle.addr4.specs.Texts.{prefix_text}
use Rattle.event_gen.specs.Lines.{host}
use Rattle.event_gen.proofs.LineLemmas.{joined}
use Rattle.event_gen.proofs.lines.push_route_add.Goals as goal

pub returns : goal.returns
returns c =
    on_ok_weaker c.push_numbered.result
    (λ more. joined c.args.out.now.items (codes "route add static ") (prefix_text false (host c.args.peer)) (codes " direct eth1 ") (decimal c.args.metric) c.push_host.new.out.items c.push_numbered.new.out.items c.in_ok-push_host.ensures more)
    c.push_numbered.ensures
