use Rattle.std.proofs.Common.{◌∙◌, sym, ap, List, [], get_or, length, arith}
use Rattle.std.specs.Prelude.{is_none}
use Rattle.definitions.specs.Statement.{Equals}
use Rattle.definitions.specs.Table.{Row}
use Rattle.definitions.specs.Truth.{truth_of}
use Rattle.definitions.specs.Value.{Null}
use Rattle.sqlvalue.specs.Meaning.{value_of}
use Rattle.filters.specs.Sources.{block_in}
use Rattle.filters.specs.Words.{word_by}
use Rattle.filters.proofs.Coming.{column_unknown}
use Rattle.filters.proofs.Tables.{rows_are}
use Rattle.filters.proofs.nulls.unknown_rows.Goals as goal

pub scan-unknown-requires-clause-in_rows : goal.scan-unknown-requires-clause-in_rows
scan-unknown-requires-clause-in_rows c =
    let source = c.args.source.now in
    let long = ap length (rows_are source.database (block_in source) c.args.table c.table.result.now c.table.ensures.exact) in
    omega (arith, long, c.requires.in_rows)

pub returns : goal.returns
returns c =
    let source = c.args.source.now in
    let t = c.table.result.now in
    let v = value_of c.args.value.now in
    let rows = rows_are source.database (block_in source) c.args.table t c.table.ensures.exact in
    let long = ap length rows in
    c.scan-unknown.ensures.unknown
    ∙ column_unknown t c.args.column Equals v c.args.first c.args.count (omega (arith, long, c.requires.in_rows))
    ∙ ap (λ (rs : List Row). word_by (λ row. is_none (truth_of Equals (get_or (get_or rs row []) c.args.column Null) v)) c.args.first c.args.count) (sym rows)
