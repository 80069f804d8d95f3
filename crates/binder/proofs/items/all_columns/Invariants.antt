use Rattle.std.proofs.Common.{◌≡◌, ◌++◌, map, drop}
use Rattle.query_tree.specs.Bound.{item_of}
use Rattle.query_rules.specs.ScopeRules.{found_of}
use Rattle.binder.proofs.StarItems.{star_of}
use Rattle.binder.proofs.items.all_columns.Given as goal

abbrev pub invariant-columns : goal.invariant-columns
invariant-columns l = map item_of l.items.items ++ map star_of (map found_of (drop l.column-index l.column-items)) ≡ map star_of (map found_of l.column-items)
