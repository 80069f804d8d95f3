use Rattle.std.proofs.Common.{◌∙◌, sym, ap, List, [], get_or, length, arith}
use Rattle.definitions.specs.Table.{Row}
use Rattle.definitions.specs.Truth.{compared, is_true}
use Rattle.definitions.specs.Value.{Null}
use Rattle.sqlvalue.specs.Meaning.{op_of, value_of}
use Rattle.filters.specs.Sources.{block_in}
use Rattle.filters.specs.Words.{word_by}
use Rattle.filters.proofs.Coming.{column_met}
use Rattle.filters.proofs.Tables.{rows_are}
use Rattle.filters.proofs.search_argument.SearchArgument.matching_rows.Goals as goal

pub scan-met-requires-clause-in_rows : goal.scan-met-requires-clause-in_rows
scan-met-requires-clause-in_rows c =
    let source = c.args.source.now in
    let long = ap length (rows_are source.database (block_in source) c.args.table c.table.result.now c.table.ensures.exact) in
    omega (arith, long, c.requires.in_rows)

pub returns : goal.returns
returns c =
    let source = c.args.source.now in
    let t = c.table.result.now in
    let a = c.args.self in
    let rows = rows_are source.database (block_in source) c.args.table t c.table.ensures.exact in
    let long = ap length rows in
    c.scan-met.ensures.met
    ∙ column_met t a.column (op_of a.op) (value_of a.value) c.args.first c.args.count (omega (arith, long, c.requires.in_rows))
    ∙ ap (λ (rs : List Row). word_by (λ row. is_true (compared (op_of a.op) (get_or (get_or rs row []) a.column Null) (value_of a.value))) c.args.first c.args.count) (sym rows)
