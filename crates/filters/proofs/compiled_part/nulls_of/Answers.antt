use Rattle.std.proofs.Common.{ℕ, ◌∙◌, ap}
use Rattle.definitions.specs.Queries.BoundBlock as spec
use Rattle.query_tree.specs.Bound.{value_of}
use Rattle.query_tree.proofs.Views.{of_column}
use Rattle.sqlvalue.specs.Meaning.{type_of}
use Rattle.filters.proofs.compiled_part.nulls_of.Goals as goal

pub returns-in-Column-clause-same : goal.returns-in-Column-clause-same
returns-in-Column-clause-same c =
    let e = c.in-Column in
    let type = type_of e.sql_type in
    (type, ap (spec.IsNull c.args.negated) (ap value_of e.is ∙ of_column e.column e.sql_type ∙ ap (λ (table : ℕ). spec.Column (record { table = table; number = e.column.number }) type) c.if-column-table.true))
