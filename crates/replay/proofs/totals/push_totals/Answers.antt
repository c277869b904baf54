use Rattle.std.proofs.Common.{arith, List, ap, subst, ◌∙◌}
use Rattle.journal_text.specs.declared.link.Link.{Link}
use Rattle.replay.specs.Totals.{Adds, AreTotalsOf, total_links}
use Rattle.event_text.specs.Declarations.{Declaration}
use Rattle.replay.proofs.TotalLemmas.{totals_all}
use Rattle.replay.proofs.totals.push_totals.Goals as goal

pub returns : goal.returns
returns c =
    totals_all c.args.core.now.moment c.args.turns c.args.out.now.items c.push_turns.new.out.items c.push_each.new.out.items (omega arith) c.in_ok-push_turns.ensures
    (subst (λ (ls : List Link). Adds (AreTotalsOf c.args.core.now.moment ls) c.push_turns.new.out.items c.push_each.new.out.items) (c.as_slice.ensures.value ∙ (c.in_ok-links.ensures ∙ ap (λ (d : Declaration). total_links d.peers) c.declared.ensures)) c.in_ok-push_each.ensures)
