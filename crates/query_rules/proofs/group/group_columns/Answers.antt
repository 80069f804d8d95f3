use Rattle.std.proofs.Common.{◌∙◌, refl, sym, ap, map, drop, ◌+◌}
use Rattle.definitions.specs.Binding.BoundForm.{own_column}
use Rattle.query_tree.specs.Bound.{column_of}
use Rattle.parse_tree.specs.Trees.{column_of as reference_of}
use Rattle.query_rules.proofs.Groups.{past_group, fault_at_group, groups_are_own, next_reference, no_reference, pushed_column}
use Rattle.query_rules.proofs.group.group_columns.Goals as goal

pub returns-in-None-clause-refused : goal.returns-in-None-clause-refused
returns-in-None-clause-refused c =
    let x = c.reference-item.result in
    let left = rw (next_reference c.args.references.now c.references.reference-index x c.references-test.true c.reference-item.is) at c.references.invariant in (
      refl,
      fault_at_group c.args.scopes.now (map reference_of c.args.references.now) (map column_of c.references.columns.items) (reference_of x) _ left
          (λ db. rw (← c.resolve.ensures) (c.own_column.ensures.none (rw c.in-None.is refl) db c.args.scopes.now)),
    )

pub references-preserved : goal.references-preserved
references-preserved c =
    let x = c.reference-item.result in
    let left = rw (next_reference c.args.references.now c.references.reference-index x c.references-test.true c.reference-item.is) at c.references.invariant in
    rw (c.in_ok-push-in-Some.ensures.items, pushed_column c.references.columns.items c.in-Some.column)
    (past_group c.args.scopes.now (map reference_of c.args.references.now) (map column_of c.references.columns.items) (reference_of x) (map reference_of (drop (c.references.reference-index + 1) c.args.references.now)) (column_of c.in-Some.column) left
    (ap own_column (sym c.resolve.ensures) ∙ c.in-Some.ensures.some) (λ db h. c.in-Some.ensures.own db c.args.scopes.now (rw c.resolve.ensures h)))

pub returns-clause-own : goal.returns-clause-own
returns-clause-own c =
    groups_are_own c.args.scopes.now (map reference_of c.args.references.now) (map column_of c.references.columns.items) (rw (no_reference c.args.references.now c.references.reference-index c.references-test.false) at c.references.invariant)
