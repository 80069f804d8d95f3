use Rattle.std.proofs.Common.{◌≡◌, ℕ, zero, suc, drop, get_or}
use Rattle.definitions.specs.Table.{Row}
use Rattle.definitions.specs.Value.{Value, Null}
use Rattle.sqlvalue.specs.Owned.{owned_value}
use Rattle.result_lines.specs.RowAt.{items_of, row_in, row_raises_in}
use Rattle.result_lines.proofs.row.keep_first.Given as goal

-- the first value where so many came before those that are left
abbrev pub first_of : ℕ → Value → Row → Value
first_of zero v left = get_or left 0 v
first_of (suc i) v left = v

-- the first value, of what is kept and what is left, is that of the whole row, and none of those so far raises
abbrev pub invariant-items : goal.invariant-items
invariant-items g l = record {
  first :
      first_of l.i (owned_value l.first) (row_in (g.S.Environment.environment l.env) (items_of (drop l.i l.items)))
      ≡ get_or (row_in (g.S.Environment.environment l.env) (items_of l.items)) 0 Null;
  raises :
      row_raises_in (g.S.Environment.environment l.env) (items_of (drop l.i l.items))
      ≡ row_raises_in (g.S.Environment.environment l.env) (items_of l.items);
}
