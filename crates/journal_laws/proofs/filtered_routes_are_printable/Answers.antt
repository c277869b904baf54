use Rattle.journal_laws.proofs.FilteredRoutes.{filtered_printable}
use Rattle.journal_laws.proofs.filtered_routes_are_printable.Goals as goal

pub returns : goal.returns
returns c = filtered_printable
