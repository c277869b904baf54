use Rattle.journal_text.proofs.ReadLemmas.{first_span, last_left}
use Rattle.journal_text.proofs.reader.read_spans.Goals as goal

pub returns-in-Some : goal.returns-in-Some
returns-in-Some c =
    first_span c.in-Some.span.now c.args.spans.now c.in-Some.spans.now c.args.content.now _ c.split_front.result.1.now _ _ c.in-Some.ensures.cases.0 c.split_front.ensures.text c.split_front.ensures.behind c.split_at.ensures.front c.split_at.ensures.back

pub returns-in-None : goal.returns-in-None
returns-in-None c = last_left c.args.spans.now c.args.content.now c.in-None.ensures.cases
