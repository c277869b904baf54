use Rattle.std.proofs.Common.{◌++◌, ◌∙◌, ap, subst, take, length, min, arith}
use Rattle.mrt_reader.specs.Records.{AreBytes}
use Rattle.mrt_reader.proofs.TakenLemmas.{bytes_append, bytes_take, takes_part}
use Rattle.mrt_reader.proofs.unread.Unread.skip.Goals as goal

pub skipping-preserved : goal.skipping-preserved
skipping-preserved g c =
    let xs = c.ready.new.self in
    let part = c.min-part.result in
    let was = c.skipping.invariant in
    record {
      octets = was.octets ++ take part xs;
      bytes = bytes_append was.octets (take part xs) was.bytes (bytes_take part xs (subst AreBytes c.octets.ensures.value c.octets.ensures.bytes));
      taking = takes_part _ _ (g.S.Source.left c.ready.new.source) c.args.count c.skipping.missing part was.octets xs c.pass.new.self c.in_ok-ready.field-0 c.if-not-branch.false (c.min-part.ensures ∙ ap (λ k. min (length k) c.skipping.missing) c.octets.ensures.value) c.pass.ensures was.taking c.in_ok-ready.ensures.ready;
      later = omega (arith, was.later, c.ready.ensures.later);
    }
