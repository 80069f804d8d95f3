use Rattle.std.proofs.Common.{◌∙◌, ap}
use Rattle.definitions.specs.Scanning.{true_word, unknown_word}
use Rattle.sqlvalue.specs.Meaning.{op_of, value_of}
use Rattle.catalog.proofs.Rows.{of_view, part_in_table, rows_in_column}
use Rattle.catalog.proofs.table.Table.scan.Goals as goal

pub scan-requires-clause-within : goal.scan-requires-clause-within
scan-requires-clause-within c = rows_in_column _ _ _ _ c.args.column _ _ (of_view _ _ _ _ _ _ c.self.view_is) c.self.invariant.filled c.requires.in_columns c.index.ensures c.requires.in_rows

pub returns-clause-met : goal.returns-clause-met
returns-clause-met c =
    c.scan.ensures.met
    ∙ ap (true_word (op_of c.args.op) (value_of c.args.value.now)) (part_in_table _ _ _ _ c.args.column _ c.args.first c.args.rows (of_view _ _ _ _ _ _ c.self.view_is) c.self.invariant.filled c.requires.in_columns c.index.ensures)

pub returns-clause-unknown : goal.returns-clause-unknown
returns-clause-unknown c =
    c.scan.ensures.unknown
    ∙ ap (unknown_word (op_of c.args.op) (value_of c.args.value.now)) (part_in_table _ _ _ _ c.args.column _ c.args.first c.args.rows (of_view _ _ _ _ _ _ c.self.view_is) c.self.invariant.filled c.requires.in_columns c.index.ensures)
