use Rattle.std.proofs.Common.{sym, subst}
use Rattle.link_change.specs.Rows.{no_rows}
use Rattle.journal_text.specs.Walk.{no_links}
use Rattle.rib_exit.specs.RibExits.{RibExit}
use Rattle.rib_exit.specs.Exits.{exit_links}
use Rattle.rib_exit.specs.Steps.{LeadsExit, begin_entries}
use Rattle.rib_exit.proofs.LawLemmas.{on_ok, begun_leads}
use Rattle.rib_exit.proofs.exit.RibExit+ExtInt+F.begin.Goals as goal

pub returns-clause-leads : goal.returns-clause-leads
returns-clause-leads g c = on_ok c.push_entry-4.result _ (subst (λ (e : RibExit). LeadsExit no_links begin_entries (exit_links e no_rows)) (sym c.requires) begun_leads)
