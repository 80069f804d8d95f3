use Rattle.std.proofs.Common.{◌≡◌, ◌∙◌, sym, ap, map, true, false}
use Rattle.query_tree.specs.Bound.{column_of}
use Rattle.query_rules.specs.Leaves.{outer, ungrouped}
use Rattle.query_rules.specs.Meaning.{place_of}
use Rattle.query_rules.proofs.leaf.judge_place.Goals as goal

pub returns-in-Argument-clause-refused : goal.returns-in-Argument-clause-refused
returns-in-Argument-clause-refused c = outer (ap place_of c.in-Argument.is) c.if-level-gt0.true

pub returns-in-Grouped-clause-refused : goal.returns-in-Grouped-clause-refused
returns-in-Grouped-clause-refused c = ungrouped (map column_of c.in-Grouped.columns.now) (ap place_of c.in-Grouped.is) c.if-level-eq0.true (λ a. let e : false ≡ true = sym c.if-not-has_column.true ∙ c.has_column.ensures.1 a in absurd cc)
