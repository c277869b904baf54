use Rattle.std.proofs.Common.{◌≡◌, ◌∙◌, length, arith}
use Rattle.std.proofs.lemmas.Bool.Decides.{nat_tests}
use Rattle.journal_text.proofs.ReadLemmas.{spans_left}
use Rattle.journal_text.proofs.reader.read_on.Goals as goal

pub returns-then-is_empty-3 : goal.returns-then-is_empty-3
returns-then-is_empty-3 c =
    let characters : length c.args.characters.now ≡ 0 = grind (arith, nat_tests) in
    let marker : length c.args.marker.now ≡ 0 = grind (arith, nat_tests) in
    let octets : length c.args.octets.now ≡ 0 = grind (arith, nat_tests) in
    c.read_spans.ensures ∙ spans_left _ _ _ _ _ characters marker octets
