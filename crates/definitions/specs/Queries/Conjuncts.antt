-- The conjuncts of WHERE: early ones, and late ones, which are evaluated only where the early ones let a combination
-- pass (own).
use Rattle.std.specs.Prelude.{ℕ, Bool, true, false, ◌||◌, not, ◌==◌, bit_or, List, [], ◌∷◌, ◌++◌, flat_map, Option}
use Rattle.std.specs.Prelude.{Some, None, filter}
use Rattle.definitions.specs.Queries.CanRaise.{can_raise}
use Rattle.std.specs.List.{list_any}
use Rattle.definitions.specs.Plans.TableSet.{TableSet, no_tables, only}
use Rattle.definitions.specs.Queries.BoundBlock.{ValueExpr, Column, Signed, Chain, Subquery, Operands, NoOperand}
use Rattle.definitions.specs.Queries.BoundBlock.{Operand, Condition, Conditions, NoPart, Part, Compare, Quantified}
use Rattle.definitions.specs.Queries.BoundBlock.{IsNull, Between, Like, InList, InQuery, Exists, Not, And, Or, Block}

-- the values that a condition speaks of, in text order; a member NULL of an IN list is none
abbrev pub member_values : List (Option ValueExpr) → List ValueExpr
member_values [] = []
member_values (None ∷ members) = member_values members
member_values (Some e ∷ members) = e ∷ member_values members

abbrev mutual
  pub values_of : Condition → List ValueExpr
  values_of (Compare op left right) = left ∷ right ∷ []
  values_of (Quantified op quantifier e block) = e ∷ []
  values_of (IsNull negated e) = e ∷ []
  values_of (Between negated e low high) = e ∷ low ∷ high ∷ []
  values_of (Like negated e pattern) = e ∷ []
  values_of (InList negated e members) = e ∷ member_values members
  values_of (InQuery negated e block) = e ∷ []
  values_of (Exists block) = []
  values_of (Not operand) = values_of operand
  values_of (And parts) = values_of_parts parts
  values_of (Or parts) = values_of_parts parts

  pub values_of_parts : Conditions → List ValueExpr
  values_of_parts NoPart = []
  values_of_parts (Part part others) = values_of part ++ values_of_parts others

-- the inner blocks that a value holds, those that a condition itself tests, by a quantifier, IN or EXISTS, and all that
-- a condition holds
abbrev mutual
  pub blocks_in : ValueExpr → List ℕ
  blocks_in (Signed minus operand) = blocks_in operand
  blocks_in (Chain first others) = blocks_in first ++ operand_blocks others
  blocks_in (Subquery block type) = block ∷ []
  blocks_in _ = []

  pub operand_blocks : Operands → List ℕ
  operand_blocks NoOperand = []
  operand_blocks (Operand operator operand others) = blocks_in operand ++ operand_blocks others

abbrev mutual
  pub tested_blocks : Condition → List ℕ
  tested_blocks (Quantified op quantifier e block) = block ∷ []
  tested_blocks (InQuery negated e block) = block ∷ []
  tested_blocks (Exists block) = block ∷ []
  tested_blocks (Not operand) = tested_blocks operand
  tested_blocks (And parts) = tested_blocks_of_parts parts
  tested_blocks (Or parts) = tested_blocks_of_parts parts
  tested_blocks _ = []

  pub tested_blocks_of_parts : Conditions → List ℕ
  tested_blocks_of_parts NoPart = []
  tested_blocks_of_parts (Part part others) = tested_blocks part ++ tested_blocks_of_parts others

-- those with whose values it compares one, by a quantifier or IN
abbrev mutual
  pub compared_blocks : Condition → List ℕ
  compared_blocks (Quantified op quantifier e block) = block ∷ []
  compared_blocks (InQuery negated e block) = block ∷ []
  compared_blocks (Not operand) = compared_blocks operand
  compared_blocks (And parts) = compared_blocks_of_parts parts
  compared_blocks (Or parts) = compared_blocks_of_parts parts
  compared_blocks _ = []

  pub compared_blocks_of_parts : Conditions → List ℕ
  compared_blocks_of_parts NoPart = []
  compared_blocks_of_parts (Part part others) = compared_blocks part ++ compared_blocks_of_parts others

abbrev pub blocks_of : Condition → List ℕ
blocks_of c = tested_blocks c ++ flat_map blocks_in (values_of c)

abbrev pub is_empty : {X : Type 0} → List X → Bool
is_empty [] = true
is_empty (x ∷ xs) = false

-- as for values: a condition can raise where it holds a subquery, or a value that can raise
abbrev pub condition_can_raise : Condition → Bool
condition_can_raise c = not (is_empty (tested_blocks c)) || list_any can_raise (values_of c)

-- the tables of its own block that an expression names
abbrev mutual
  pub tables_named : ValueExpr → TableSet
  tables_named (Column column type) = only column.table
  tables_named (Signed minus operand) = tables_named operand
  tables_named (Chain first others) = bit_or (tables_named first) (operands_tables others)
  tables_named _ = no_tables

  pub operands_tables : Operands → TableSet
  operands_tables NoOperand = no_tables
  operands_tables (Operand operator operand others) = bit_or (tables_named operand) (operands_tables others)

abbrev pub tables_in : List ValueExpr → TableSet
tables_in [] = no_tables
tables_in (e ∷ es) = bit_or (tables_named e) (tables_in es)

abbrev pub condition_tables : Condition → TableSet
condition_tables c = tables_in (values_of c)

-- the conjuncts of a condition are its parts under AND, and their parts under AND, in text order
abbrev mutual
  pub conjuncts_of : Condition → List Condition
  conjuncts_of (And parts) = conjuncts_of_parts parts
  conjuncts_of c = c ∷ []

  pub conjuncts_of_parts : Conditions → List Condition
  conjuncts_of_parts NoPart = []
  conjuncts_of_parts (Part part others) = conjuncts_of part ++ conjuncts_of_parts others

abbrev pub conjuncts_of_option : Option Condition → List Condition
conjuncts_of_option None = []
conjuncts_of_option (Some c) = conjuncts_of c

-- the conjuncts of a block, numbered in this order
abbrev pub conjuncts : Block → List Condition
conjuncts b = conjuncts_of_option b.condition

-- a conjunct is late where it can raise, or names no table of its block; the others are early
abbrev pub is_late : Condition → Bool
is_late c = condition_can_raise c || (condition_tables c == no_tables)

abbrev pub late_conjuncts : Block → List Condition
late_conjuncts b = filter is_late (conjuncts b)

abbrev pub early_conjuncts : Block → List Condition
early_conjuncts b = filter (λ c. not (is_late c)) (conjuncts b)
