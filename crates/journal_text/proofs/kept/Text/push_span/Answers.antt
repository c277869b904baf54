use Rattle.std.proofs.Common.{◌≡◌, ◌+◌, length, ap, ◌∙◌, arith, length-append}
use Rattle.journal_text.specs.Kept.{covered, taken}
use Rattle.journal_text.proofs.KeptLemmas.{octets_more, covered_more}
use Rattle.journal_text.proofs.kept.Text.push_span.Goals as goal

pub returns : goal.returns
returns c =
    let old = c.args.self.now in
    let content = c.in_ok-extend_from_slice.ensures.items in
    let before : covered old.spans.items + taken c.args.span.front ≡ length old.content.items = omega (arith, c.requires.front, c.requires.whole.ends, c.requires.whole.within) in
    let long : c.len-self.result ≡ length c.extend_from_slice.new.self.items = c.len-self.ensures ∙ c.extend_from_slice.new.self.ok.0 in
    let grown : length c.extend_from_slice.new.self.items ≡ length old.content.items + length c.args.octets.now = ap length content ∙ length-append old.content.items c.args.octets.now in
    let taken = covered_more old.spans.items c.args.span in
    record {
      whole = record { ends = ap covered c.in_ok-push.ensures.items ∙ omega (arith, taken, before, long, grown, c.requires.count); within = omega (arith, long) };
      chars = rw (c.in_ok-push.ensures.items, content) (octets_more old.spans.items c.args.span old.content.items c.args.octets.now before c.requires.count);
    }
