use Rattle.std.proofs.Common.{nat_eq, ◌∙◌, rules, tests}
use Rattle.std.proofs.lemmas.Iterator.{YieldsList-from_slice}
use Rattle.std.proofs.lemmas.Iterator.Search.{any_from_yields_List}
use Rattle.event_text.proofs.Lookups.{has_addr_any}
use Rattle.event_text.proofs.declared.has_addr.Goals as goal

pub returns : goal.returns
returns c =
    any_from_yields_List (λ p. nat_eq p.words.addr c.args.addr) _ _ c.any.result c.any.ensures.ran (YieldsList-from_slice c.args.peers.now cc) (λ x b q k. search (rules, tests))
    ∙ has_addr_any c.args.addr c.args.peers.now
