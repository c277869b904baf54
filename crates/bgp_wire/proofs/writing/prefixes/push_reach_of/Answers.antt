use Rattle.std.proofs.Common.{◌≡◌, ◌+◌, ◌++◌, ap, subst, ◌∙◌, append_assoc}
use Rattle.std.specs.Prelude.{OnOk, true}
use Rattle.bgp_wire.specs.Lengths.{head_octets}
use Rattle.bgp_wire.specs.Spelling.{listed, reach_value, reach_attributes, octets_of}
use Rattle.bgp_wire.proofs.SpellingLemmas.{reach_spelled}
use Rattle.bgp_wire.proofs.writing.prefixes.push_reach_of.Goals as goal

pub returns : goal.returns
returns g c =
    let out = c.args.out.now.items in
    let ps = listed c.args.prefix in
    let value = reach_value c.args.next_hop ps in
    let written : c.push_head.new.out.items ++ value ≡ out ++ octets_of (reach_attributes true c.args.next_hop ps) =
    ap (λ os. os ++ value) c.in_ok-push_head.ensures ∙ append_assoc out (head_octets 128 14 (21 + c.listed_length.result)) value
    ∙ ap (λ os. out ++ os) (ap (λ n. head_octets 128 14 (21 + n) ++ value) c.listed_length.ensures.value ∙ reach_spelled c.args.next_hop ps) in
    subst (λ os. OnOk c.push_reach_value.result (c.push_reach_value.new.out.items ≡ os)) written c.push_reach_value.ensures
