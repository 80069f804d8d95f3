use Rattle.std.proofs.Common.{◌≡◌, refl, slice_index_or}
use Rattle.query_tree.specs.Bound.{column_of}
use Rattle.query_tree.specs.declared.leaf.BlockColumn.{BlockColumn}
use Rattle.query_rules.proofs.FoundColumns.{any_here, same_column}
use Rattle.query_rules.proofs.leaf.has_column.Goals as goal

pub returns-then-eq : goal.returns-then-eq
returns-then-eq c =
    let d : BlockColumn = record { table = 0; number = 0 } in
    let x : BlockColumn = slice_index_or c.args.columns.now c.loop-other.other-index d in
    (λ t. any_here (λ c'. c' ≡ column_of c.args.column) column_of c.args.columns.now c.loop-other.other-index d c.loop-other-test.true (same_column x c.args.column c.if-eq.ensures), λ a. refl)
