use Rattle.std.proofs.Common.{◌≡◌, ◌++◌, subst}
use Rattle.std.specs.Prelude.{OnOk}
use Rattle.bgp_attr.specs.Attributes.{Attrs}
use Rattle.bgp_wire.specs.declared.writing.attributes.Place.TheVariants.{Inner, Last}
use Rattle.bgp_wire.specs.Spelling.{listed, unrecognized_attributes, leading_attributes, reach_attributes, octets_of}
use Rattle.bgp_wire.proofs.SpellingLemmas.{three_behind}
use Rattle.bgp_wire.proofs.writing.attributes.push_attrs.Goals as goal

pub returns : goal.returns
returns g c =
    let out = c.args.out.now.items in
    let v6 = g.F.Family.V6 in
    let leading = leading_attributes v6 c.args.as4 c.args.attrs.now in
    let ps = listed c.args.announced in
    let us = c.attrs.inside.unrecognized.now in
    let inner = unrecognized_attributes Inner us in
    let last = unrecognized_attributes Last us in
    let reach = reach_attributes v6 c.attrs.inside.next_hop ps in
    let written =
    three_behind out c.push_leading.new.out.items c.push_unrecognized.new.out.items c.push_reach.new.out.items leading inner reach last c.in_ok-push_leading.ensures c.in_ok-push_unrecognized.ensures c.in_ok-push_reach.ensures in
    subst (λ (a : Attrs). OnOk c.push_unrecognized-2.result (c.push_unrecognized-2.new.out.items ≡ out ++ octets_of (leading ++ unrecognized_attributes Inner a.unrecognized ++ reach_attributes v6 a.next_hop ps ++ unrecognized_attributes Last a.unrecognized))) c.attrs.view_is
    (subst (λ os. OnOk c.push_unrecognized-2.result (c.push_unrecognized-2.new.out.items ≡ os)) written c.push_unrecognized-2.ensures)
