use Rattle.std.proofs.Common.{Option, sym, ap, ◌∙◌}
use Rattle.std.specs.FinMap as map
use Rattle.link_change.specs.Rows.{with_row}
use Rattle.link_change.proofs.RowLemmas.{rows_inserted, rows_removed}
use Rattle.bgp_attr.specs.Routes.{Route}
use Rattle.bench_rows.proofs.Branches.{set_rows}
use Rattle.bench_rows.proofs.decisions.branches.TableBranches.set.Goals as goal

pub returns-in_ok-before-in-Some-clause-rows : goal.returns-in_ok-before-in-Some-clause-rows
returns-in_ok-before-in-Some-clause-rows c =
    let t = c.index_mut-table.result.now in
    set_rows c.args.self.now.tables.items c.args.branch c.from.result t c.insert.new.self c.args.prefix c.args.row c.in_ok-before-in-Some.before c.from.ensures c.requires.small
    c.requires.there c.index_mut-table.ensures.value c.in_ok-before-in-Some.ensures.before
    (ap map.get c.in_ok-before-in-Some.ensures.ok ∙ rows_inserted t.rows c.args.prefix c.in-Some.route
    ∙ ap (λ (r : Option Route). with_row (map.get t.rows) c.args.prefix r) (sym c.in-Some.is))

pub returns-in-None-clause-rows : goal.returns-in-None-clause-rows
returns-in-None-clause-rows c =
    let t = c.index_mut-table.result.now in
    set_rows c.args.self.now.tables.items c.args.branch c.from.result t c.remove.new.self c.args.prefix c.args.row c.remove.result c.from.ensures c.requires.small c.requires.there
    c.index_mut-table.ensures.value c.remove.ensures.before
    (ap map.get c.remove.ensures.rows ∙ rows_removed t.rows c.args.prefix ∙ ap (λ (r : Option Route). with_row (map.get t.rows) c.args.prefix r) (sym c.in-None.is))
