use Rattle.std.proofs.Common.{◌≡◌, ◌++◌, drop, map}
use Rattle.std.specs.List.{AllByRecursion}
use Rattle.query_tree.specs.Bound.{condition_of}
use Rattle.filters.specs.Compiled.{condition_of_test, IsTest}
use Rattle.filters.proofs.row_test.+row_tests.Given as goal

-- those so far, with the conditions from one on, are of all
abbrev pub invariant-tests_of-conditions : goal.invariant-tests_of-conditions
invariant-tests_of-conditions l = record {
  same : map condition_of_test l.tests.items ++ map condition_of (drop l.condition-index l.conditions) ≡ map condition_of l.conditions;
  tested : AllByRecursion (IsTest l.table) l.tests.items;
}
