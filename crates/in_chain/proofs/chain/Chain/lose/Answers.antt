use Rattle.std.proofs.Common.{refl}
use Rattle.in_chain.specs.Incomings.{loss_entries}
use Rattle.in_chain.specs.Chains.{Chained, with_tables}
use Rattle.in_chain.proofs.FilterLemmas.{filt_kept, leads_kept}
use Rattle.in_chain.proofs.chain.Chain.lose.Goals as goal

pub returns-clause-leads : goal.returns-clause-leads
returns-clause-leads g c =
    let old : Chained = record { incoming = record { number = c.self.inside.number; tables = c.self.inside.stages }; me = c.self.inside.me; peer = c.self.inside.peer; filter = c.self.inside.filter } in
    rw (← c.self.view_is)
    (leads_kept old (with_tables old c.lose.new.self) (loss_entries c.args.session old.incoming) refl c.in_ok-lose.ensures.leads (filt_kept old c.lose.new.self c.in_ok-lose.ensures.rows))
