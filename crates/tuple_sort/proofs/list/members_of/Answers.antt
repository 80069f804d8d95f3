use Rattle.std.proofs.Common.{rules}
use Rattle.plan_tree.specs.Sets.{set_of}
use Rattle.tuple_sort.proofs.PackedRows.{next_member, next_other}
use Rattle.tuple_sort.proofs.list.members_of.Goals as goal
use Rattle.tuple_sort.proofs.list.members_of.Goals.{then-has+in_ok-push, else-has}

pub tables-preserved : goal.tables-preserved
tables-preserved c =
    let tables = set_of c.args.tables in
    elim c.if-has.branch [
      | then-has+in_ok-push w ↦ next_member tables c.tables.members.items c.if-has.members.items c.tables.table (search rules) c.tables.invariant (search rules)
      | else-has w ↦ next_other tables c.tables.members.items c.if-has.members.items c.tables.table (search rules) c.tables.invariant (search rules)
    ]
