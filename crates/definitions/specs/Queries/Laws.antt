-- What holds of the meaning of queries.
use Rattle.std.specs.Prelude.{ℕ, ◌≡◌, ◌≤◌, ◌<◌, ◌^◌, ⊤, Bool, false, get_or, flat_map, drop, slice_get, ◌+◌, List, []}
use Rattle.std.specs.Prelude.{◌∷◌, ◌++◌, Option, Some, None, true, filter, count_by, IsPermutation}
use Rattle.std.specs.List.{AllByRecursion}
use Rattle.definitions.specs.Value.{Value, Null, SqlType, IsType, HasType, rank}
use Rattle.std.specs.declared.cmp.Ordering.TheVariants.{Equal}
use Rattle.definitions.specs.Table.{Row, Database}
use Rattle.definitions.specs.Arithmetic.{Meaning, Is, Raises}
use Rattle.definitions.specs.ValueType.{ValueType, HasValueType}
use Rattle.definitions.specs.Queries.BoundTypes.{value_type}
use Rattle.definitions.specs.Truth.{Truth, and, or, all_true, any_true}
use Rattle.definitions.specs.Queries.BoundBlock.{ValueExpr, Column, Parameter, Numeral, Signed, Chain, AggregateValue}
use Rattle.definitions.specs.Queries.BoundBlock.{Subquery, Operands, NoOperand, Operand, Condition, OrderKey, Block}
use Rattle.definitions.specs.Queries.BoundBlock.{Blocks}
use Rattle.definitions.specs.Queries.Evaluation.{Combination, Environment, cell, value, truth}
use Rattle.definitions.specs.Queries.CanRaise.{can_raise}
use Rattle.definitions.specs.Queries.Conjuncts.{condition_can_raise, values_of, late_conjuncts}
use Rattle.definitions.specs.Queries.Combinations.{Context, at, is_surely_true, all_combinations, passing, kept}
use Rattle.definitions.specs.Plans.Order.{BlockColumn}
use Rattle.definitions.specs.Queries.Grouping.{same_values, grouping_values, groups_of}
use Rattle.definitions.specs.Queries.Outcomes.{Told, Rows, Allowed}
use Rattle.definitions.specs.Queries.Answer.{block_answer, meanings}

-- the condition of a block is true of a combination; it is where there is none
abbrev pub where_holds : Context → Option Condition → Combination → Bool
where_holds context None c = true
where_holds context (Some condition) c = is_surely_true (truth (at context c) condition)

-- WHERE keeps the combinations on which its condition is true, whatever is early in it and what is late (ISO/IEC
-- 9075:1992, 7.6, general rule 1)
abbrev pub WhereKeepsWhatIsTrue : Type 0
WhereKeepsWhatIsTrue =
    (context : Context) (b : Block) → kept context b
    ≡ filter (where_holds context b.condition) (all_combinations context b)

-- what is kept has passed, each combination as often at most
abbrev pub KeptHasPassed : Type 0
KeptHasPassed =
    (context : Context) (b : Block) (test : Combination → Bool)
    → count_by test (kept context b) ≤ count_by test (passing context b)

-- without late conjuncts all that passes is kept
abbrev pub AllThatPassesIsKept : Type 0
AllThatPassesIsKept = (context : Context) (b : Block) → late_conjuncts b ≡ [] → kept context b ≡ passing context b

-- two lists of rows that may be told of one answer have the same rows, each as often
abbrev pub ToldRowsAreTheSame : Type 0
ToldRowsAreTheSame =
    (m : Meaning (List Row)) (keys : List OrderKey) (rows rows' : List Row) → Allowed m keys (Rows rows)
    → Allowed m keys (Rows rows') → IsPermutation rows rows'

-- whatever a query means, something may be told of it
abbrev pub SomeOutcomeIsAllowed : Type 0
SomeOutcomeIsAllowed = (m : Meaning (List Row)) (keys : List OrderKey) → (told : Told) × Allowed m keys told

-- AND and OR of a list are those of its halves
abbrev pub GroupingSaysNothing : Type 0
GroupingSaysNothing =
    (ts us : List Truth) → (all_true (ts ++ us) ≡ and (all_true ts) (all_true us))
    × (any_true (ts ++ us) ≡ or (any_true ts) (any_true us))

-- and of a list in another order
abbrev pub OrderSaysNothing : Type 0
OrderSaysNothing =
    (ts us : List Truth) → IsPermutation ts us → (all_true ts ≡ all_true us) × (any_true ts ≡ any_true us)

-- ---- types, and expressions that cannot raise

-- a value of a type, or exceptions; rows whose first values are of a type, or exceptions
abbrev pub MeansOne : ValueType → Meaning Value → Type 0
MeansOne type (Is v) = HasValueType type v
MeansOne type (Raises r rs) = ⊤

abbrev pub MeansRows : ValueType → Meaning (List Row) → Type 0
MeansRows type (Is rows) = AllByRecursion (λ (row : Row). HasValueType type (get_or row 0 Null)) rows
MeansRows type (Raises r rs) = ⊤

-- an environment gives an expression's columns, set functions and subqueries values of their types, and its numerals
-- have as many digits as they say
abbrev mutual
  pub FitsTypes : Environment → ValueExpr → Type 0
  FitsTypes env (Column column type) = IsType type × HasType type (cell env.combination column)
  FitsTypes env (Parameter between column type) = IsType type × HasType type (cell (get_or env.outer between []) column)
  FitsTypes env (Numeral units digits scale) = units < 10 ^ digits
  FitsTypes env (Signed minus operand) = FitsTypes env operand
  FitsTypes env (AggregateValue number type) = MeansOne type (get_or env.functions number (Is Null))
  FitsTypes env (Subquery block type) = MeansRows type (env.inner block)
  FitsTypes env (Chain first others) = FitsTypes env first × AllFitTypes env others
  FitsTypes env _ = ⊤

  pub AllFitTypes : Environment → Operands → Type 0
  AllFitTypes env NoOperand = ⊤
  AllFitTypes env (Operand operator operand others) = FitsTypes env operand × AllFitTypes env others

-- a value that is there has the type that was told before
abbrev pub ValuesHaveTheirTypes : Type 0
ValuesHaveTheirTypes =
    (env : Environment) (e : ValueExpr) (type : ValueType) → FitsTypes env e → value_type e ≡ Some type
    → MeansOne type (value env e)

-- what cannot raise does not
abbrev pub WhatCannotRaiseDoesNot : Type 0
WhatCannotRaiseDoesNot =
    (env : Environment) (e : ValueExpr) → FitsTypes env e → can_raise e ≡ false → (v : Value) × (value env e ≡ Is v)

abbrev pub ConditionsThatCannotRaiseDoNot : Type 0
ConditionsThatCannotRaiseDoNot =
    (env : Environment) (c : Condition) → AllByRecursion (FitsTypes env) (values_of c) → condition_can_raise c ≡ false
    → (t : Truth) × (truth env c ≡ Is t)

-- ---- groups

-- the groups have all the elements, each as often as it was there
abbrev pub GroupsAreAll : Type 0
GroupsAreAll =
    (columns : List BlockColumn) (cs : List Combination)
    → IsPermutation cs (flat_map (λ group. group) (groups_of columns cs))

-- elements of one class are the same, those of two are not
abbrev pub AreClasses : {X : Type 0} → (X → X → Bool) → List (List X) → Type 0
AreClasses same [] = ⊤
AreClasses same (class ∷ classes) =
    AllByRecursion (λ x. AllByRecursion (λ y. same x y ≡ true) class) class
    × AllByRecursion (λ x. AllByRecursion (λ others. AllByRecursion (λ y. same x y ≡ false) others) classes) class
    × AreClasses same classes

-- combinations of one group have the same grouping values, those of two have not
abbrev pub GroupsAreClasses : Type 0
GroupsAreClasses =
    (columns : List BlockColumn) (cs : List Combination)
    → AreClasses (λ c d. same_values (grouping_values columns c) (grouping_values columns d)) (groups_of columns cs)

-- ---- blocks

-- a block means what it does by the blocks behind it
abbrev pub BlocksMeanByThoseBehind : Type 0
BlocksMeanByThoseBehind =
    (db : Database) (blocks : Blocks) (k : ℕ) (b : Block) (outer : List Combination) → slice_get blocks k ≡ Some b
    → meanings db 0 blocks k outer ≡ block_answer (record {
      database = db;
      outer = outer;
      inner = meanings db (k + 1) (drop (k + 1) blocks);
    }) b

-- and these mean there what they mean among all
abbrev pub BlocksBehindMeanTheSame : Type 0
BlocksBehindMeanTheSame =
    (db : Database) (blocks : Blocks) (k j : ℕ) → k < j
    → meanings db (k + 1) (drop (k + 1) blocks) j ≡ meanings db 0 blocks j

-- ---- equal values

-- values of one type that rank as equal are one: so GROUP BY and DISTINCT lose nothing by taking any one of them
abbrev pub EqualRankInATypeIsEquality : Type 0
EqualRankInATypeIsEquality = (type : SqlType) (v w : Value) → HasType type v → HasType type w → rank v w ≡ Equal → v ≡ w
