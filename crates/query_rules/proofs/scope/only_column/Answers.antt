use Rattle.std.proofs.Common.{◌∙◌, sym, ap}
use Rattle.std.specs.Option.{option_copied}
use Rattle.query_rules.specs.ScopeRules.{named_of, resolution_of}
use Rattle.query_rules.specs.Search.{is_meant}
use Rattle.query_rules.proofs.Searching.{meant_here, not_meant, only_all}
use Rattle.query_rules.proofs.scope.only_column.Goals as goal
use Rattle.query_rules.proofs.scope.only_column.Goals.{then-is_meant, else-is_meant}

pub tables-preserved : goal.tables-preserved
tables-preserved c =
    elim c.if-is_meant.branch [
      | then-is_meant w ↦ meant_here named_of (is_meant (option_copied c.args.qualifier)) c.args.level (resolution_of c.tables.resolution) (resolution_of c.if-is_meant.resolution) _ c.args.name.now c.args.scope.now c.tables.place
          c.index-scope-place.result c.tables-test.true c.index-scope-place.is (sym c.is_meant.ensures ∙ w.if-is_meant.true) (ap resolution_of w.resolution-is ∙ w.with_columns-resolution.ensures) c.tables.invariant
      | else-is_meant w ↦ not_meant named_of (is_meant (option_copied c.args.qualifier)) c.args.level (resolution_of c.tables.resolution) (resolution_of c.if-is_meant.resolution) _ c.args.name.now c.args.scope.now c.tables.place
          c.index-scope-place.result c.tables-test.true c.index-scope-place.is (sym c.is_meant.ensures ∙ w.if-is_meant.false) (ap resolution_of w.resolution-is) c.tables.invariant
    ]

pub returns : goal.returns
returns c = only_all named_of (is_meant (option_copied c.args.qualifier)) c.args.level (resolution_of c.tables.resolution) c.args.name.now c.args.scope.now c.tables.place c.tables-test.false c.tables.invariant
