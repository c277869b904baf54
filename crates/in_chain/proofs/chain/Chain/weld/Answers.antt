use Rattle.std.proofs.Common.{refl}
use Rattle.journal_text.specs.declared.link.Link.TheVariants.{In}
use Rattle.loss_chain.specs.declared.owner.Owner.TheVariants as owners
use Rattle.loss_chain.specs.Steps.{weld_entries}
use Rattle.in_chain.specs.Chains.{Chained, with_tables}
use Rattle.in_chain.proofs.FilterLemmas.{filt_kept, leads_kept}
use Rattle.in_chain.proofs.chain.Chain.weld.Goals as goal

pub returns-clause-leads : goal.returns-clause-leads
returns-clause-leads g c =
    let old : Chained = record { incoming = record { number = c.self.inside.number; tables = c.self.inside.stages }; me = c.self.inside.me; peer = c.self.inside.peer; filter = c.self.inside.filter } in
    rw (← c.self.view_is)
    (leads_kept old (with_tables old c.weld.new.self) (weld_entries (owners.Peer old.incoming.number) (In old.incoming.number) old.incoming.tables.deletions) refl c.in_ok-weld.ensures.leads (filt_kept old c.weld.new.self c.in_ok-weld.ensures.rows))
