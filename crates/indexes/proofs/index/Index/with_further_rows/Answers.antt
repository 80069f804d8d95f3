use Rattle.std.proofs.Common.{◌∙◌, sym, ap, ap₂, rules, subst, length, map, take}
use Rattle.definitions.specs.Key.{key_of}
use Rattle.definitions.specs.IndexRun.{IsRun}
use Rattle.definitions.specs.Statistics.{index_statistics}
use Rattle.indexes.specs.Orders.{is_unique, run_of}
use Rattle.indexes.specs.Keys.{columns_of}
use Rattle.loading.specs.Stored.{headers, rows_of}
use Rattle.indexes.specs.KeyColumns.{key_cells}
use Rattle.indexes.specs.Indexes.{StoredIndex, AreIndexColumns, IsBeginning, RefusesIndexOn}
use Rattle.indexes.proofs.KeyCells.{as_wide, high_enough, not_high, no_order, begins, run_had, index_had, on_same}
use Rattle.definitions.specs.Table as table
use Rattle.definitions.specs.Statistics.{first_numbers, range_of}
use Rattle.loading.proofs.Rows.{length-rows_of}
use Rattle.indexes.proofs.Clustered.{run_within}
use Rattle.indexes.proofs.Counted.{keeps_range, kept_range}
use Rattle.indexes.proofs.index.Index.with_further_rows.Goals as goal

pub with_further_rows-requires-clause-table : goal.with_further_rows-requires-clause-table
with_further_rows-requires-clause-table c =
    let on = subst (λ (i : StoredIndex). AreIndexColumns (length c.args.columns.now) i.index.columns) (sym c.self.view_is) c.requires.on in
    high_enough c.args.rows c.args.columns.now c.self.inside.columns.items _ (search rules) c.requires.filled on

pub with_further_rows-requires-clause-few : goal.with_further_rows-requires-clause-few
with_further_rows-requires-clause-few c =
    let on = subst (λ (i : StoredIndex). AreIndexColumns (length c.args.columns.now) i.index.columns) (sym c.self.view_is) c.requires.on in
    not_high c.args.rows c.args.columns.now c.self.inside.columns.items _ (search rules) c.requires.filled on c.requires.few

pub with_further_rows-requires-clause-beginning : goal.with_further_rows-requires-clause-beginning
with_further_rows-requires-clause-beginning c =
    let on = subst (λ (i : StoredIndex). AreIndexColumns (length c.args.columns.now) i.index.columns) (sym c.self.view_is) c.requires.on in
    let beginning = subst (IsBeginning (rows_of c.args.rows c.args.columns.now)) (sym c.self.view_is) c.requires.beginning in
    begins c.args.rows c.args.columns.now c.self.inside.columns.items _ _ (ap columns_of c.as_slice-3.ensures.value ∙ c.in-Ok.ensures ∙ ap (key_cells c.args.columns.now) c.as_slice.ensures.value) c.requires.filled on beginning

pub returns-in-Err-with_further_rows-clause-refused : goal.returns-in-Err-with_further_rows-clause-refused
returns-in-Err-with_further_rows-clause-refused c =
    let on = subst (λ (i : StoredIndex). AreIndexColumns (length c.args.columns.now) i.index.columns) (sym c.self.view_is) c.requires.on in
    let refused = no_order c.args.rows c.args.columns.now c.self.inside.columns.items _ _ c.in-Err-with_further_rows.fault (search rules) c.requires.filled on (c.in-Err-with_further_rows.ensures).refused in
    subst (λ (i : StoredIndex). RefusesIndexOn (rows_of c.args.rows c.args.columns.now) i.index.columns i.index.unique c.in-Err-with_further_rows.fault) c.self.view_is refused

pub index_statistics-statistics-requires-clause-run : goal.index_statistics-statistics-requires-clause-run
index_statistics-statistics-requires-clause-run c =
    let on = subst (λ (i : StoredIndex). AreIndexColumns (length c.args.columns.now) i.index.columns) (sym c.self.view_is) c.requires.on in
    let cells = ap columns_of c.as_slice-3.ensures.value ∙ c.in-Ok.ensures ∙ ap (key_cells c.args.columns.now) c.as_slice.ensures.value in
    let run = run_had c.args.rows c.args.columns.now c.self.inside.columns.items _ (is_unique c.self.inside.order) c.in-Ok-with_further_rows.order cells c.requires.filled on (c.in-Ok-with_further_rows.ensures).ok in
    let kept = c.as_slice-4.ensures.value ∙ (c.in-Ok-from_slice.ensures).items ∙ c.as_slice-2.ensures.value in
    subst (λ numbers. IsRun (map (key_of numbers) (rows_of c.args.rows c.args.columns.now)) (run_of c.in-Ok-with_further_rows.order).entries) (sym kept) run

pub returns-clause-ok : goal.returns-clause-ok
returns-clause-ok c =
    let columns = headers c.args.columns.now in
    let rows = rows_of c.args.rows c.args.columns.now in
    let on = subst (λ (i : StoredIndex). AreIndexColumns (length c.args.columns.now) i.index.columns) (sym c.self.view_is) c.requires.on in
    let cells = ap columns_of c.as_slice-3.ensures.value ∙ c.in-Ok.ensures ∙ ap (key_cells c.args.columns.now) c.as_slice.ensures.value in
    let kept = (c.in-Ok-from_slice.ensures).items ∙ c.as_slice-2.ensures.value in
    let statistics = c.index_statistics-statistics.ensures ∙ ap (index_statistics columns rows) (c.as_slice-4.ensures.value ∙ kept) in
    let had = index_had c.args.rows c.args.columns.now c.self.inside.columns.items _ _ (is_unique c.self.inside.order) c.in-Ok-with_further_rows.order _ cells c.requires.filled on (c.in-Ok-with_further_rows.ensures).ok kept statistics in
    on_same columns rows _ _ _ c.self.view_is had

pub index_statistics-statistics-requires-clause-within : goal.index_statistics-statistics-requires-clause-within
index_statistics-statistics-requires-clause-within c =
    let beginning = subst (IsBeginning (rows_of c.args.rows c.args.columns.now)) (sym c.self.view_is) c.requires.beginning in
    run_within (key_of c.self.inside.columns.items) (rows_of c.args.rows c.args.columns.now) (run_of c.self.inside.order).entries c.len.result c.args.rows beginning c.len.ensures (length-rows_of c.args.rows c.args.columns.now)

pub index_statistics-statistics-requires-clause-range : goal.index_statistics-statistics-requires-clause-range
index_statistics-statistics-requires-clause-range c =
    let rows = rows_of c.args.rows c.args.columns.now in
    let beginning = subst (IsBeginning rows) (sym c.self.view_is) c.requires.beginning in
    let kept = c.as_slice-4.ensures.value ∙ (c.in-Ok-from_slice.ensures).items ∙ c.as_slice-2.ensures.value in
    kept_range c.self.inside.columns.items (take (length (run_of c.self.inside.order).entries) rows) (run_of c.self.inside.order).entries _ c.self.invariant.ranged beginning
    ∙ ap₂ (λ numbers n. range_of (first_numbers numbers (take n rows))) (sym kept) (sym c.len.ensures)

pub invariant_of-result : goal.invariant_of-result
invariant_of-result c =
    let columns = headers c.args.columns.now in
    let rows = rows_of c.args.rows c.args.columns.now in
    let on = subst (λ (i : StoredIndex). AreIndexColumns (length c.args.columns.now) i.index.columns) (sym c.self.view_is) c.requires.on in
    let cells = ap columns_of c.as_slice-3.ensures.value ∙ c.in-Ok.ensures ∙ ap (key_cells c.args.columns.now) c.as_slice.ensures.value in
    let run = run_had c.args.rows c.args.columns.now c.self.inside.columns.items _ (is_unique c.self.inside.order) c.in-Ok-with_further_rows.order cells c.requires.filled on (c.in-Ok-with_further_rows.ensures).ok in
    let kept = (c.in-Ok-from_slice.ensures).items ∙ c.as_slice-2.ensures.value in
    let statistics = c.index_statistics-statistics.ensures ∙ ap (index_statistics columns rows) (c.as_slice-4.ensures.value ∙ kept) in
    record {
      wide = as_wide c.args.columns.now c.self.inside.columns.items _ _ (is_unique c.self.inside.order) c.in-Ok-with_further_rows.order cells (c.in-Ok-with_further_rows.ensures).ok kept;
      ranged = keeps_range c.self.inside.columns.items rows (run_of c.in-Ok-with_further_rows.order).entries _ run (ap (λ (s : table.IndexStatistics). s.range) statistics);
    }
