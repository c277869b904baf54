use Rattle.std.proofs.lemmas.Result.{IfOk-weaker}
use Rattle.fanout_queue.proofs.EntryLemmas.{copied_first}
use Rattle.fanout_queue.proofs.entries.Entries.copy_at.Goals as goal

pub returns : goal.returns
returns g c =
    IfOk-weaker c.copy.result _ _
    (λ change same. copied_first c.self.inside.first c.self.inside.kept.items c.self.inside.at_end c.args.self.now c.args.place c.index.result.now change c.self.view_is c.requires.from c.requires.within c.index.ensures same)
    c.copy.ensures
