use Rattle.std.proofs.Common.{nat_eq, ◌∙◌, rules, tests}
use Rattle.std.proofs.lemmas.Iterator.{YieldsList-from_slice}
use Rattle.std.proofs.lemmas.Iterator.Search.{find_from_yields_List}
use Rattle.event_text.proofs.Lookups.{peer_at_find}
use Rattle.event_text.proofs.declared.peer_of.Goals as goal

pub returns : goal.returns
returns c =
    c.copied.ensures
    ∙ find_from_yields_List (λ p. nat_eq p.words.number c.args.number) _ _ c.find.result c.find.ensures.ran (YieldsList-from_slice c.args.peers.now cc) (λ x b q k. search (rules, tests))
    ∙ peer_at_find c.args.number c.args.peers.now
