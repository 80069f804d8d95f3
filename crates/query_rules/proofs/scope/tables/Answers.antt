use Rattle.std.proofs.Common.{◌≡◌, ◌∙◌, refl, ap, None, map}
use Rattle.std.specs.List.{list_any}
use Rattle.definitions.specs.Table.{table_named}
use Rattle.definitions.specs.Statement.{Source}
use Rattle.definitions.specs.Binding.Scopes.{is_called, named_table}
use Rattle.parse_tree.specs.Trees.{source_of}
use Rattle.query_rules.specs.ScopeRules.{named_of}
use Rattle.query_rules.specs.SourceFaults as faults
use Rattle.query_rules.proofs.Sources.{any_at, taken, found_more, distinct_more}
use Rattle.query_rules.proofs.scope.tables.Goals as goal

pub returns-in_default-clause-refused : goal.returns-in_default-clause-refused
returns-in_default-clause-refused c =
    faults.no_table (any_at (λ (s : Source). table_named c.args.database.now s.table ≡ None) source_of c.args.sources.now c.sources.source-index c.source-item.result c.sources-test.true c.source-item.is (c.in_default.ensures.none refl))

pub returns-then-has_name-clause-refused : goal.returns-then-has_name-clause-refused
returns-then-has_name-clause-refused c =
    faults.name_twice (taken named_of (named_table c.args.database.now) source_of c.sources.scope.items c.in-Some.table c.args.sources.now c.sources.source-index c.source-item.result _ c.has_name.result
    c.sources-test.true c.source-item.is c.in-Some.ensures.some c.sources.invariant.found
    (c.has_name.ensures ∙ ap (λ ts. list_any (is_called c.in-Some.table.name.now) (map named_of ts)) c.deref.ensures.value) c.if-has_name.true)

pub sources-preserved : goal.sources-preserved
sources-preserved c = record {
  found = found_more named_of (named_table c.args.database.now) source_of c.sources.scope.items c.in-Some.table c.args.sources.now c.sources.source-index c.source-item.result _ c.push.new.self.items
      c.sources-test.true c.source-item.is c.in-Some.ensures.some c.in_ok-push.ensures.items c.sources.invariant.found;
  distinct = distinct_more named_of c.sources.scope.items c.push.new.self.items c.in-Some.table c.has_name.result
      (c.has_name.ensures ∙ ap (λ ts. list_any (is_called c.in-Some.table.name.now) (map named_of ts)) c.deref.ensures.value) c.if-has_name.false c.in_ok-push.ensures.items c.sources.invariant.distinct;
}
