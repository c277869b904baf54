use Rattle.std.proofs.Common.{◌≡◌, ◌++◌, ◌∷◌, [], ap, subst, ◌∙◌}
use Rattle.std.specs.Prelude.{OnOk}
use Rattle.byteorder.specs.Endian.{big_bytes}
use Rattle.bgp_wire.specs.Spelling.{listed, prefixes_octets, reach_value}
use Rattle.bgp_wire.proofs.SpellingLemmas.{value_behind}
use Rattle.bgp_wire.proofs.writing.prefixes.push_reach_value.Goals as goal

pub returns : goal.returns
returns g c =
    let out = c.args.out.now.items in
    let octets = big_bytes 16 c.args.next_hop in
    let prefixes = prefixes_octets (listed c.args.prefix) in
    let before = c.in_ok-push.ensures.items ∙ ap (λ os. os ++ 0 ∷ []) (c.in_ok-push_address.ensures ∙ ap (λ os. os ++ octets) c.in_ok-extend_from_slice.ensures.items) in
    let written : c.push.new.self.items ++ prefixes ≡ out ++ reach_value c.args.next_hop (listed c.args.prefix) = ap (λ os. os ++ prefixes) before ∙ value_behind out octets prefixes in
    subst (λ os. OnOk c.push_listed.result (c.push_listed.new.out.items ≡ os)) written c.push_listed.ensures
