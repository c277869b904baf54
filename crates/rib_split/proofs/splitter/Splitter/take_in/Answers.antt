use Rattle.rib_split.proofs.TableLemmas.{takes_in}
use Rattle.rib_split.proofs.splitter.Splitter.take_in.Goals as goal

pub returns : goal.returns
returns g c = takes_in c.args.self.now c.keep_all.new.self c.args.change.now c.split_change-split.result c.split_change-split.ensures c.keep_all.ensures
