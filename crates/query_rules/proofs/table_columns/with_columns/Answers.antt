use Rattle.std.proofs.Common.{◌∙◌, sym, ap, arith}
use Rattle.query_rules.specs.ScopeRules.{found_of, resolution_of}
use Rattle.query_rules.proofs.Columns.{search_here, search_on, search_end}
use Rattle.query_rules.proofs.table_columns.with_columns.Goals as goal
use Rattle.query_rules.proofs.table_columns.with_columns.Goals.{then-eq, else-eq}

pub columns-preserved : goal.columns-preserved
columns-preserved c =
    elim c.if-eq.branch [
      | then-eq w ↦ search_here c.args.level (resolution_of c.columns.resolution) (resolution_of c.if-eq.resolution) _ c.args.name.now _ c.columns.number (found_of c.column_at-column.result) c.column_at-column.ensures (sym c.eq.ensures ∙ w.if-eq.true)
          (ap resolution_of w.resolution-is ∙ w.with-resolution.ensures) c.columns.invariant
      | else-eq w ↦ search_on c.args.level (resolution_of c.columns.resolution) (resolution_of c.if-eq.resolution) _ c.args.name.now _ c.columns.number (found_of c.column_at-column.result) c.column_at-column.ensures (sym c.eq.ensures ∙ w.if-eq.false)
          (ap resolution_of w.resolution-is) c.columns.invariant
    ]

pub returns : goal.returns
returns c = search_end c.args.level (resolution_of c.columns.resolution) _ c.args.name.now c.args.place c.columns.number c.args.table.now.columns (omega (arith, c.columns-test.false, c.width-number-end.ensures)) c.columns.invariant
