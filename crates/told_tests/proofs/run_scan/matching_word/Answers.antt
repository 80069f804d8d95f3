use Rattle.std.proofs.Common.{◌∙◌, sym, ap, List, [], get_or, length, arith}
use Rattle.definitions.specs.Table.{Row}
use Rattle.definitions.specs.Truth.{compared, is_true}
use Rattle.definitions.specs.Value.{Null}
use Rattle.sqlvalue.specs.Meaning.{number_of, op_of}
use Rattle.filters.specs.Sources.{block_in}
use Rattle.filters.specs.Words.{word_by}
use Rattle.filters.proofs.Coming.{column_met}
use Rattle.filters.proofs.Tables.{rows_are}
use Rattle.told_tests.proofs.run_scan.matching_word.Goals as goal

pub scan-met-requires-clause-in_rows : goal.scan-met-requires-clause-in_rows
scan-met-requires-clause-in_rows c =
    let source = c.args.source.now in
    let long = ap length (rows_are source.database (block_in source) c.args.column.table c.table-table.result.now c.table-table.ensures.exact) in
    omega (arith, long, c.requires.in_rows)

pub returns : goal.returns
returns c =
    let source = c.args.source.now in
    let t = c.table-table.result.now in
    let a = c.args in
    let rows = rows_are source.database (block_in source) a.column.table t c.table-table.ensures.exact in
    let long = ap length rows in
    c.scan-met.ensures.met
    ∙ column_met t a.column.number (op_of a.op) (number_of a.number) a.first a.count (omega (arith, long, c.requires.in_rows))
    ∙ ap (λ (rs : List Row). word_by (λ row. is_true (compared (op_of a.op) (get_or (get_or rs row []) a.column.number Null) (number_of a.number))) a.first a.count) (sym rows)
