use Rattle.std.proofs.Common.{◌++◌}
use Rattle.mrt_reader.proofs.TakenLemmas.{bytes_append}
use Rattle.mrt_reader.proofs.FileLemmas.{body_taken}
use Rattle.mrt_reader.proofs.reader.take_body.Goals as goal

pub returns-clause-taken : goal.returns-clause-taken
returns-clause-taken g c =
    let front = c.in_ok-take.ensures.taken in
    let rest = c.skip.ensures.taken in
    let both = body_taken c.args.as4 c.args.header c.clear.new.self.items c.take.new.out.items front.0 rest.0 _ _ _ c.in_ok-take.field-0 c.kept-kept.result c.skip.result c.if-not-branch.false c.clear.ensures.items front.1 c.kept-kept.ensures.value c.kept-kept.ensures.within front.2 rest.1 in
    (front.0 ++ rest.0, both.0, bytes_append front.0 rest.0 front.3 rest.2, both.1)
