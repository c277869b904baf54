use Rattle.std.proofs.Common.{◌∙◌, sym, ap}
use Rattle.std.specs.FinMap as map
use Rattle.safe_table.specs.Fields.{live_value}
use Rattle.safe_table.proofs.Keeping.{get-live}
use Rattle.safe_table.proofs.table.Table.get.Goals as goal

pub returns-in-None : goal.returns-in-None
returns-in-None g c =
    let m = c.self.inside.trie.rows in
    sym (ap (λ v. map.get v.rows c.args.prefix) (sym c.self.view_is) ∙ get-live m c.args.prefix ∙ ap live_value (sym c.in-None.ensures))

pub returns-in-Some : goal.returns-in-Some
returns-in-Some g c =
    let m = c.self.inside.trie.rows in
    c.row.ensures ∙ ap live_value c.in-Some.ensures ∙ sym (get-live m c.args.prefix) ∙ ap (λ v. map.get v.rows c.args.prefix) c.self.view_is
