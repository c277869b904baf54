use Rattle.std.proofs.Common.{◌∷◌, [], List, length, is_some, ap, ◌∙◌, arith}
use Rattle.std.proofs.lemmas.List.{length-append}
use Rattle.std.specs.FinMap as map
use Rattle.link_change.specs.Rows.{Rows}
use Rattle.link_change.proofs.RowLemmas.{empty_rows}
use Rattle.safe_table.specs.Tables.{Rows as Contents}
use Rattle.bgp_attr.specs.Routes.{Route}
use Rattle.bench_rows.specs.Tables.{rows_in, candidates_in}
use Rattle.bench_rows.proofs.Branches.{push_rows}
use Rattle.bench_rows.proofs.decisions.Decided.new.Goals as goal

pub loop-preserved : goal.loop-preserved
loop-preserved c = record {
  count = omega (arith, ap length c.in_ok-push.ensures.items, length-append c.loop.tables.items (c.new.result ∷ []), c.loop.invariant.count);
  empty = λ b. ap (λ (ts : List (Contents Route)). rows_in ts b) c.in_ok-push.ensures.items
      ∙ push_rows c.loop.tables.items c.new.result b c.loop.invariant.empty (ap map.get c.new.ensures.rows ∙ empty_rows);
}

pub returns-clause-informed : goal.returns-clause-informed
returns-clause-informed c = record {
  knows = c.new-2.ensures.known (rows_in c.loop.tables.items) (λ b q below. ap (λ (r : Rows Route). r q) (c.loop.invariant.empty b));
  counts = c.new-2.ensures.counts (candidates_in (rows_in c.loop.tables.items)) (λ b q below. ap (λ (r : Rows Route). is_some (r q)) (c.loop.invariant.empty b));
}
