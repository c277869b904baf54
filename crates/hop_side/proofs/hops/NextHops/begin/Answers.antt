use Rattle.std.proofs.Common.{◌≡◌, ◌∙◌, sym, ap, subst}
use Rattle.std.proofs.lemmas.Result.{on_ok_weaker}
use Rattle.rib_route.specs.Rows.{Interior}
use Rattle.link_change.specs.Rows.{no_rows}
use Rattle.register_interest.specs.Registers.{Registry}
use Rattle.nexthop_resolver.specs.declared.rows.Metric.{Metric}
use Rattle.nexthop_resolver.specs.Resolving.{Resolving}
use Rattle.hop_side.specs.Resolvers.{Resolvers, put_resolver, PeerRows, hop_links, IsHops, AllAgree, AllCounted}
use Rattle.hop_side.specs.Steps.{LeadsRes, begin_entries, HasNoInterest}
use Rattle.hop_side.proofs.PutLemmas.{put_by_key}
use Rattle.hop_side.proofs.StepLemmas.{begun_leads, begun_counted, begun_agree, begun_sound}
use Rattle.hop_side.proofs.hops.NextHops.begin.Goals as goal

pub returns-clause-after : goal.returns-clause-after
returns-clause-after g c =
    on_ok_weaker c.push_entry.result
    (λ _. put_by_key c.self.inside.resolvers c.insert.new.self c.args.self.now c.from-key.result c.args.number c.new-resolver.result c.self.view_is c.in_ok-insert.ensures.updates c.from-key.ensures
    ∙ ap (λ (x : Resolving Metric). put_resolver c.args.number x c.args.self.now) c.new-resolver.ensures)
    c.push_entry.ensures

pub returns-clause-leads : goal.returns-clause-leads
returns-clause-leads g c =
    on_ok_weaker c.push_entry.result
    (λ _.
    let put = put_by_key c.self.inside.resolvers c.insert.new.self c.args.self.now c.from-key.result c.args.number c.new-resolver.result c.self.view_is c.in_ok-insert.ensures.updates c.from-key.ensures in
    subst (λ (x : Resolvers). (uppers : PeerRows) → uppers c.args.number ≡ no_rows → LeadsRes (hop_links c.args.self.now uppers) (begin_entries c.args.number) (hop_links x uppers)) (sym put)
    (λ uppers bare. begun_leads c.args.self.now c.args.number c.requires.absent c.new-resolver.result c.new-resolver.ensures uppers bare))
    c.push_entry.ensures

pub returns-clause-counted : goal.returns-clause-counted
returns-clause-counted g c =
    on_ok_weaker c.push_entry.result
    (λ _.
    let put = put_by_key c.self.inside.resolvers c.insert.new.self c.args.self.now c.from-key.result c.args.number c.new-resolver.result c.self.view_is c.in_ok-insert.ensures.updates c.from-key.ensures in
    subst (λ (x : Resolvers). (uppers : PeerRows) → uppers c.args.number ≡ no_rows → AllCounted uppers c.args.self.now → AllCounted uppers x) (sym put)
    (λ uppers bare counted. begun_counted c.args.self.now c.args.number c.requires.absent c.new-resolver.result c.new-resolver.ensures uppers bare counted))
    c.push_entry.ensures

pub returns-clause-agree : goal.returns-clause-agree
returns-clause-agree g c =
    on_ok_weaker c.push_entry.result
    (λ _.
    let put = put_by_key c.self.inside.resolvers c.insert.new.self c.args.self.now c.from-key.result c.args.number c.new-resolver.result c.self.view_is c.in_ok-insert.ensures.updates c.from-key.ensures in
    subst (λ (x : Resolvers). (r : Registry Interior) → HasNoInterest c.args.number r → AllAgree c.args.self.now r → AllAgree x r) (sym put)
    (λ r none agree. begun_agree c.args.self.now c.args.number c.requires.absent c.new-resolver.result c.new-resolver.ensures r none agree))
    c.push_entry.ensures

pub returns-clause-sound : goal.returns-clause-sound
returns-clause-sound g c =
    on_ok_weaker c.push_entry.result
    (λ _.
    let put = put_by_key c.self.inside.resolvers c.insert.new.self c.args.self.now c.from-key.result c.args.number c.new-resolver.result c.self.view_is c.in_ok-insert.ensures.updates c.from-key.ensures in
    subst IsHops (sym put) (begun_sound c.args.self.now c.args.number c.requires.absent c.new-resolver.result c.new-resolver.ensures c.requires.sound c.are_named.ensures))
    c.push_entry.ensures
