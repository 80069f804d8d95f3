-- The conjuncts of a well-formed block have well-formed values, and name no tables but the block's own.
use Rattle.std.proofs.Common.{sym, subst, ℕ, ◌<◌, ◌⊎◌, inl, inr, List, [], ◌∷◌, ◌++◌, length, Option, Some, None, arith}
use Rattle.std.specs.Prelude.{bit_or}
use Rattle.std.specs.List.{AllByRecursion}
use Rattle.std.proofs.lemmas.List.Elements.{All-from_recursion, All-contains}
use Rattle.std.proofs.lemmas.Nat.Bits.{bit_at-zero}
use Rattle.std.proofs.lemmas.Option.{slice_get_within}
use Rattle.definitions.specs.Table.{Database}
use Rattle.definitions.specs.Plans.TableSet.{TableSet, Has}
use Rattle.definitions.specs.Queries.BoundBlock.{ValueExpr, Column, Parameter, Numeral, String, Signed, Chain, AggregateValue, Subquery, Operands, NoOperand, Operand, Condition, Conditions, NoPart, Part, And, Block, Blocks}
use Rattle.definitions.specs.Queries.Conjuncts.{conjuncts, conjuncts_of, conjuncts_of_option, conjuncts_of_parts, operands_tables, tables_in, tables_named, values_of, values_of_parts}
use Rattle.definitions.specs.Binding.Formed.{IsFormedValue, AreFormedOperands, IsTypedValue, IfCondition, IsFormedBlock}
use Rattle.definitions_execution.specs.OfBlock.{NamesOwnTables}
use Rattle.definitions.proofs.PlanTheory.TableSets.{only_has}
use Rattle.definitions_execution.proofs.Locality.{all_first}
use Rattle.definitions_execution.proofs.MatchedPaths.{has_either}

-- ---- what holds of the values of a condition holds of those of its conjuncts

module _ (P : ValueExpr → Type 0) where
  abbrev pub OfValues : Condition → Type 0
  OfValues c = AllByRecursion P (values_of c)

  joined : (cs ds : List Condition) → AllByRecursion OfValues cs → AllByRecursion OfValues ds → AllByRecursion OfValues (cs ++ ds)
  joined [] ds h k = k
  joined (c ∷ cs) ds h k = (h.0, joined cs ds h.1 k)

  mutual
    of_condition : (c : Condition) → OfValues c → AllByRecursion OfValues (conjuncts_of c)
    of_condition (And parts) h = of_parts parts h
    of_condition c h = (h, tt)

    of_parts : (parts : Conditions) → AllByRecursion P (values_of_parts parts) → AllByRecursion OfValues (conjuncts_of_parts parts)
    of_parts NoPart h = tt
    of_parts (Part part others) h =
        let both = all_first P (values_of part) (values_of_parts others) h in
        joined (conjuncts_of part) (conjuncts_of_parts others) (of_condition part both.0) (of_parts others both.1)

module _ (db : Database) (blocks around : Blocks) (n : ℕ) (block : Block) where
  abbrev IsTyped : ValueExpr → Type 0
  IsTyped = IsTypedValue db blocks around n block

  of_option : (o : Option Condition) → IfCondition db blocks around n block o → AllByRecursion (OfValues IsTyped) (conjuncts_of_option o)
  of_option None h = tt
  of_option (Some c) h = of_condition IsTyped c h.0

  -- the values of each conjunct are well formed
  pub typed_conjuncts : IsFormedBlock db blocks around n block → AllByRecursion (OfValues IsTyped) (conjuncts block)
  typed_conjuncts formed = of_option block.condition formed.condition

  -- ---- tables

  abbrev IsOwn : TableSet → Type 0
  IsOwn tables = (u : ℕ) → Has tables u → u < length block.tables

  none_own : IsOwn 0
  none_own u h = let z = bit_at-zero u in absurd (omega (arith, z, h))

  both_own : (s t : TableSet) → IsOwn s → IsOwn t → IsOwn (bit_or s t)
  both_own s t h k u has = pick (has_either s t u has)
    where
      pick : Has s u ⊎ Has t u → u < length block.tables
      pick (inl i) = h u i
      pick (inr i) = k u i

  mutual
    value_own : (e : ValueExpr) → IsFormedValue db blocks around n block e → IsOwn (tables_named e)
    value_own (Column c type) h = λ u has. let within : c.table < length block.tables = slice_get_within block.tables c.table h.0 h.3 in subst (λ w. w < length block.tables) (sym (only_has c.table u has)) within
    value_own (Parameter between c type) h = none_own
    value_own (Numeral units digits scale) h = none_own
    value_own (String codes) h = none_own
    value_own (Signed minus operand) h = value_own operand h
    value_own (Chain first others) h = both_own (tables_named first) (operands_tables others) (value_own first h.0) (operands_own others h.1)
    value_own (AggregateValue number type) h = none_own
    value_own (Subquery number type) h = none_own

    operands_own : (others : Operands) → AreFormedOperands db blocks around n block others → IsOwn (operands_tables others)
    operands_own NoOperand h = none_own
    operands_own (Operand operator operand others) h = both_own (tables_named operand) (operands_tables others) (value_own operand h.0) (operands_own others h.1)

  values_own : (es : List ValueExpr) → AllByRecursion IsTyped es → IsOwn (tables_in es)
  values_own [] h = none_own
  values_own (e ∷ es) h = both_own (tables_named e) (tables_in es) (value_own e h.0.0) (values_own es h.1)

  pub names_own : IsFormedBlock db blocks around n block → NamesOwnTables block
  names_own formed condition there =
      values_own (values_of condition) (All-contains (OfValues IsTyped) (conjuncts block) condition (All-from_recursion (OfValues IsTyped) (conjuncts block) (typed_conjuncts formed)) there)
