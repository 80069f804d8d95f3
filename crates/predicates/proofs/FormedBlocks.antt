-- The condition of a formed block names few tables.
use Rattle.std.proofs.Common.{◌≡◌, sym, subst, ℕ, zero, suc, ◌<◌, ◌≤◌, List, [], ◌∷◌, ◌++◌, Option, Some, None, length, get_or, arith}
use Rattle.std.specs.Borrow.{Bor}
use Rattle.std.specs.Prelude.{bit_or, IfSome}
use Rattle.std.specs.List.{AllByRecursion}
use Rattle.std.proofs.lemmas.Nat.{or_lt, pow_below}
use Rattle.std.proofs.lemmas.Option.{slice_get_within}
use Rattle.definitions.specs.Limits.{most_from_tables}
use Rattle.definitions.specs.Value.{SqlType}
use Rattle.definitions.specs.Table.{Database}
use Rattle.definitions.specs.Plans.Order.{BlockColumn}
use Rattle.definitions.specs.Plans.TableSet.{only}
use Rattle.definitions.specs.Queries.BoundBlock.{ValueExpr, Column, Parameter, Numeral, String, Signed, Chain, AggregateValue, Subquery, Operands, NoOperand, Operand, Condition, Conditions, NoPart, Part, And, Block, Blocks}
use Rattle.definitions.specs.Queries.Conjuncts.{conjuncts, conjuncts_of, conjuncts_of_option, conjuncts_of_parts, operands_tables, tables_in, tables_named, values_of, values_of_parts}
use Rattle.definitions.specs.Binding.Formed.{HasColumn, IsFormedValue, AreFormedOperands, IsTypedValue, IfCondition, IsFormedBlock}
use Rattle.query_tree.specs.Bound.{condition_of}
use Rattle.query_tree.specs.Walks.{conditions_in}
use Rattle.query_tree.specs.declared.condition.Condition.{Condition as Code}
use Rattle.predicates.specs.Naming.{AreFew, NamesFew}
use Rattle.predicates.proofs.Naming.{left_few, right_few, still_few, tables_of_both}

module _ (db : Database) (blocks around : Blocks) (n : ℕ) (b : Block) (count : length b.tables ≤ most_from_tables) where
  column_few : (c : BlockColumn) (type : SqlType) → HasColumn db b c type → AreFew (only c.table)
  column_few c type (number, t, column, at, there, own, is) =
      let within : c.table < length b.tables = slice_get_within b.tables c.table number at in
      pow_below c.table 14 (omega (arith, within, count))

  mutual
    value_few : (e : ValueExpr) → IsFormedValue db blocks around n b e → AreFew (tables_named e)
    value_few (Column c type) h = column_few c type h
    value_few (Parameter between c type) h = omega arith
    value_few (Numeral units digits scale) h = omega arith
    value_few (String codes) h = omega arith
    value_few (Signed minus operand) h = value_few operand h
    value_few (Chain first others) h = or_lt 14 (tables_named first) (operands_tables others) (value_few first h.0) (line_few others h.1)
    value_few (AggregateValue number type) h = omega arith
    value_few (Subquery block type) h = omega arith

    line_few : (others : Operands) → AreFormedOperands db blocks around n b others → AreFew (operands_tables others)
    line_few NoOperand h = omega arith
    line_few (Operand operator operand others) h = or_lt 14 (tables_named operand) (operands_tables others) (value_few operand h.0) (line_few others h.1)

  values_few : (es : List ValueExpr) → AllByRecursion (IsTypedValue db blocks around n b) es → AreFew (tables_in es)
  values_few [] h = omega arith
  values_few (e ∷ es) h = or_lt 14 (tables_named e) (tables_in es) (value_few e h.0.0) (values_few es h.1)

  where_few : (c : Option Condition) → IfCondition db blocks around n b c → IfSome c NamesFew
  where_few None h = tt
  where_few (Some c) h = values_few (values_of c) h.0

pub formed_few : (db : Database) (blocks around : Blocks) (n : ℕ) (b : Block) → IsFormedBlock db blocks around n b → IfSome b.condition NamesFew
formed_few db blocks around n b f = where_few db blocks around n b f.count b.condition f.condition

-- ---- and so does each of its conjuncts

all_of_both : (xs ys : List Condition) → AllByRecursion NamesFew xs → AllByRecursion NamesFew ys → AllByRecursion NamesFew (xs ++ ys)
all_of_both [] ys h k = k
all_of_both (x ∷ xs) ys h k = (h.0, all_of_both xs ys h.1 k)

mutual
  conjuncts_few : (c : Condition) → NamesFew c → AllByRecursion NamesFew (conjuncts_of c)
  conjuncts_few (And parts) h = parts_few parts h
  conjuncts_few c h = (h, tt)

  parts_few : (parts : Conditions) → AreFew (tables_in (values_of_parts parts)) → AllByRecursion NamesFew (conjuncts_of_parts parts)
  parts_few NoPart h = tt
  parts_few (Part part others) h =
      let both = still_few (tables_in (values_of part ++ values_of_parts others)) (bit_or (tables_in (values_of part)) (tables_in (values_of_parts others))) (tables_of_both (values_of part) (values_of_parts others)) h in
      all_of_both (conjuncts_of part) (conjuncts_of_parts others) (conjuncts_few part (left_few (tables_in (values_of part)) (tables_in (values_of_parts others)) both)) (parts_few others (right_few (tables_in (values_of part)) (tables_in (values_of_parts others)) both))

option_few : (c : Option Condition) → IfSome c NamesFew → AllByRecursion NamesFew (conjuncts_of_option c)
option_few None h = tt
option_few (Some c) h = conjuncts_few c h

pub formed_conjuncts_few : (db : Database) (blocks around : Blocks) (n : ℕ) (b : Block) → IsFormedBlock db blocks around n b → AllByRecursion NamesFew (conjuncts b)
formed_conjuncts_few db blocks around n b f = option_few b.condition (formed_few db blocks around n b f)

-- one of them, as code lends them
pub few_at : (cs : List (Bor Code)) (i : ℕ) (x : Bor Code) → AllByRecursion NamesFew (conditions_in cs) → i < length cs → x ≡ get_or cs i x → NamesFew (condition_of x.now)
few_at [] i x h l e = absurd (omega (arith, l))
few_at (c ∷ cs) zero x h l e = subst (λ z. NamesFew (condition_of z.now)) (sym e) h.0
few_at (c ∷ cs) (suc i) x h l e = few_at cs i x h.1 (omega (arith, l)) e
