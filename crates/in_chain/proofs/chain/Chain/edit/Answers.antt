use Rattle.in_chain.specs.Chains.{Chained}
use Rattle.in_chain.proofs.EditLemmas.{refiltered_links}
use Rattle.in_chain.proofs.chain.Chain.edit.Goals as goal

pub returns-clause-links : goal.returns-clause-links
returns-clause-links g c =
    let x = c.self.inside in
    let old : Chained = record { incoming = record { number = x.number; tables = x.stages }; me = x.me; peer = x.peer; filter = x.filter } in
    rw (c.edit.ensures, ← c.self.view_is) (refiltered_links c.args.rules old)
