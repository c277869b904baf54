use Rattle.rib_split.proofs.TableLemmas.{tables_begin_empty}
use Rattle.rib_split.proofs.laws.tables_begin_empty.Goals as goal

pub returns : goal.returns
returns c = tables_begin_empty
