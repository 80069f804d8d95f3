use Rattle.std.proofs.Common.{◌≡◌, ◌∙◌, ap}
use Rattle.std.specs.List.{AllByRecursion}
use Rattle.columns.specs.Columns.{cells_of}
use Rattle.columns.specs.Starts.{IsHeld}
use Rattle.indexes.specs.Keys.{gathered}
use Rattle.indexes.proofs.PagedValues.{all_taken, pages_counted, heads_read}
use Rattle.indexes.proofs.Carried.{carried_so}
use Rattle.indexes.proofs.key_column.KeyColumn.of_rows.Goals as goal
use Rattle.indexes.proofs.key_column.KeyColumn.of_rows.Goals.{in-Some+in_ok-values-in-Some, in_default+in_ok-values-in_default}

-- the values, whence ever they come
values_are : (c : goal.In_ok-heads) → (cells_of c.match-old.values ≡ gathered c.args.keyed.now.rows.items (cells_of c.args.column.now)) × AllByRecursion (IsHeld (cells_of c.match-old.values).type) (cells_of c.match-old.values).values
values_are c = elim c.match-old.branch [
  | in-Some+in_ok-values-in-Some w ↦ (
    ap cells_of w.values-is ∙ w.in_ok-values-in-Some.ensures.values,
    rw w.values-is w.in_ok-values-in-Some.ensures.held,
  )
  | in_default+in_ok-values-in_default w ↦ (ap cells_of w.values-is ∙ all_taken _ _ c.args.keyed.now.rows.items (rw w.as_slice.ensures.value at w.in_ok-values-in_default.ensures.values), rw w.values-is w.in_ok-values-in_default.ensures.held)
]

pub invariant_of-result : goal.invariant_of-result
invariant_of-result c =
    let heads = rw c.as_slice-2.ensures.value at c.in_ok-heads.ensures.values in
    record {
      pages = pages_counted _ _ _ c.args.keyed.now.rows.items (values_are c).0 heads;
      heads = heads_read _ _ _ c.args.keyed.now.rows.items (values_are c).0 heads;
      held = (values_are c).1;
    }

pub returns : goal.returns
returns c = (values_are c).0

pub woven-requires-clause-carried : goal.woven-requires-clause-carried
woven-requires-clause-carried c = carried_so c.args.keyed.now (cells_of c.args.column.now) _ c.args.old c.in-Some.old c.in-Some.is c.requires c.old.view_is
