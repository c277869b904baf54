use Rattle.std.proofs.Common.{◌≡◌, ◌++◌, ap, subst, ◌∙◌, append_assoc, arith}
use Rattle.std.specs.Prelude.{OnOk}
use Rattle.std.specs.List.{flat_map}
use Rattle.byteorder.specs.Endian.{big_bytes}
use Rattle.bgp_wire.specs.Lengths.{head_octets}
use Rattle.bgp_wire.specs.Spelling.{clusters_attributes, octets_of}
use Rattle.bgp_wire.proofs.SpellingLemmas.{clusters_spelled}
use Rattle.bgp_wire.proofs.writing.reflection.push_clusters.Goals as goal

pub returns : goal.returns
returns c =
    let out = c.args.out.now.items in
    let clusters = c.args.reflection.now.clusters in
    let size = c.clusters_size-size.result in
    let ids = flat_map (big_bytes 4) clusters in
    let written : c.push_head.new.out.items ++ ids ≡ out ++ octets_of (clusters_attributes clusters) =
    ap (λ os. os ++ ids) c.in_ok-push_head.ensures ∙ append_assoc out (head_octets 128 10 size) ids
    ∙ ap (λ os. out ++ os) (clusters_spelled clusters size c.clusters_size-size.ensures.value (omega arith)) in
    subst (λ os. OnOk c.push_cluster_ids.result (c.push_cluster_ids.new.out.items ≡ os)) written c.push_cluster_ids.ensures
