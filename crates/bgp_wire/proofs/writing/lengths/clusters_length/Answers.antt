use Rattle.std.proofs.Common.{◌∙◌, arith}
use Rattle.bgp_wire.proofs.SpelledLengths.{length-clusters}
use Rattle.bgp_wire.proofs.writing.lengths.clusters_length.Goals as goal

pub returns-in_default-clause-value : goal.returns-in_default-clause-value
returns-in_default-clause-value c =
    c.spelled_length.ensures ∙ length-clusters c.args.reflection.now.clusters c.clusters_size.result c.clusters_size.ensures.value (omega arith)
