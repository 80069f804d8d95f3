use Rattle.std.proofs.Common.{◌∙◌, refl, sym, ap, subst, map, rules}
use Rattle.definitions.specs.Key.{key_of}
use Rattle.definitions.specs.IndexRun.{IsRun}
use Rattle.definitions.specs.Statistics.{index_statistics}
use Rattle.indexes.specs.Keys.{columns_of}
use Rattle.loading.specs.Stored.{headers, rows_of}
use Rattle.indexes.specs.KeyColumns.{key_cells}
use Rattle.indexes.specs.Orders.{run_of}
use Rattle.indexes.proofs.KeyCells.{as_wide, high_enough, not_high, no_order, run_had, index_had}
use Rattle.definitions.specs.Table as table
use Rattle.indexes.proofs.Counted.{keeps_range}
use Rattle.indexes.proofs.index.Index.new.Goals as goal

pub build-requires-clause-table : goal.build-requires-clause-table
build-requires-clause-table c = high_enough c.args.rows c.args.columns.now c.args.numbers.items _ (search rules) c.requires.filled c.requires.on

pub build-requires-clause-few : goal.build-requires-clause-few
build-requires-clause-few c = not_high c.args.rows c.args.columns.now c.args.numbers.items _ (search rules) c.requires.filled c.requires.on c.requires.few

pub returns-in-Err-build-clause-refused : goal.returns-in-Err-build-clause-refused
returns-in-Err-build-clause-refused c = no_order c.args.rows c.args.columns.now c.args.numbers.items _ c.args.unique c.in-Err-build.fault (search rules) c.requires.filled c.requires.on (c.in-Err-build.ensures).refused

pub index_statistics-statistics-requires-clause-run : goal.index_statistics-statistics-requires-clause-run
index_statistics-statistics-requires-clause-run c =
    let cells = ap columns_of c.as_slice-2.ensures.value ∙ c.in-Ok.ensures ∙ ap (key_cells c.args.columns.now) c.as_slice.ensures.value in
    let run = run_had c.args.rows c.args.columns.now c.args.numbers.items _ c.args.unique c.in-Ok-build.order cells c.requires.filled c.requires.on (c.in-Ok-build.ensures).ok in
    subst (λ numbers. IsRun (map (key_of numbers) (rows_of c.args.rows c.args.columns.now)) (run_of c.in-Ok-build.order).entries) (sym c.as_slice-3.ensures.value) run

pub returns-clause-ok : goal.returns-clause-ok
returns-clause-ok c =
    let cells = ap columns_of c.as_slice-2.ensures.value ∙ c.in-Ok.ensures ∙ ap (key_cells c.args.columns.now) c.as_slice.ensures.value in
    let statistics = c.index_statistics-statistics.ensures ∙ ap (index_statistics (headers c.args.columns.now) (rows_of c.args.rows c.args.columns.now)) c.as_slice-3.ensures.value in
    index_had c.args.rows c.args.columns.now c.args.numbers.items c.args.numbers.items _ c.args.unique c.in-Ok-build.order _ cells c.requires.filled c.requires.on (c.in-Ok-build.ensures).ok refl statistics

pub invariant_of-result : goal.invariant_of-result
invariant_of-result c =
    let cells = ap columns_of c.as_slice-2.ensures.value ∙ c.in-Ok.ensures ∙ ap (key_cells c.args.columns.now) c.as_slice.ensures.value in
    let run = run_had c.args.rows c.args.columns.now c.args.numbers.items _ c.args.unique c.in-Ok-build.order cells c.requires.filled c.requires.on (c.in-Ok-build.ensures).ok in
    let statistics = c.index_statistics-statistics.ensures ∙ ap (index_statistics (headers c.args.columns.now) (rows_of c.args.rows c.args.columns.now)) c.as_slice-3.ensures.value in
    record {
      wide = as_wide c.args.columns.now c.args.numbers.items c.args.numbers.items _ c.args.unique c.in-Ok-build.order cells (c.in-Ok-build.ensures).ok refl;
      ranged = keeps_range c.args.numbers.items (rows_of c.args.rows c.args.columns.now) (run_of c.in-Ok-build.order).entries _ run (ap (λ (s : table.IndexStatistics). s.range) statistics);
    }
