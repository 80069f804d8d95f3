-- Well-formed blocks ask for orders of their own tables.
use Prim.Native.Nat.{zero}
use Rattle.std.proofs.Common.{suc, ◌≡◌, ℕ, ◌<◌, refl, List, [], ◌∷◌, Bool, true, false, Option, Some, None, cond, length}
use Rattle.std.proofs.lemmas.List.Elements.{All-from_recursion}
use Rattle.std.specs.Prelude.{⊤, flat_map, filter_map, is_some, option_map, option_and_then, slice_get}
use Rattle.std.specs.List.{AllByRecursion, list_all, cons_option}
use Rattle.definitions.specs.Value.{SqlType}
use Rattle.definitions.specs.Table.{Database}
use Rattle.definitions.specs.Plans.Order.{BlockColumn, SortKey, Order, ascending}
use Rattle.definitions.specs.Queries.BoundBlock as b
use Rattle.definitions.specs.Queries.BoundBlock.{ValueExpr, Item, OrderKey, Block, Blocks}
use Rattle.definitions.specs.Queries.Answer.{is_grouped}
use Rattle.definitions.specs.Binding.Formed.{HasColumn, IsTypedValue, IsFormedBlock}
use Rattle.definitions.specs.Estimates.Sides.{column_of}
use Rattle.definitions.specs.Estimates.Orders.{sort_key, required_of}
use Rattle.definitions.specs.Estimates.Laws.{HasPlans}
use Rattle.definitions.proofs.EstimateTheory.Tests.{below_length}

module _ (db : Database) (blocks around : Blocks) (n : ℕ) (block : Block) where
  abbrev IsOwn : SortKey → Type 0
  IsOwn key = key.column.table < length block.tables

  own : (c : BlockColumn) (type : SqlType) → HasColumn db block c type → c.table < length block.tables
  own c type has = below_length block.tables c.table has.0 has.3

  -- ---- GROUP BY

  grouped : (columns : List BlockColumn) → AllByRecursion (λ c. (type : SqlType) × HasColumn db block c type) columns → AllByRecursion IsOwn (flat_map ascending columns)
  grouped [] formed = tt
  grouped (c ∷ cs) (has, rest) = (own c has.0 has.1, grouped cs rest)

  -- ---- ORDER BY

  abbrev IfOwn : Option SortKey → Type 0
  IfOwn None = ⊤
  IfOwn (Some key) = IsOwn key

  abbrev AreTyped : List Item → Type 0
  AreTyped items = AllByRecursion (λ (i : Item). IsTypedValue db blocks around n block i.value) items

  typed_at : (items : List Item) (number : ℕ) (i : Item) → AreTyped items → slice_get items number ≡ Some i → IsTypedValue db blocks around n block i.value
  typed_at [] number i typed e = absurd cc
  typed_at (j ∷ items) zero i (first, rest) e = let same : j ≡ i = cc in rw same at first
  typed_at (j ∷ items) (suc number) i (first, rest) e = typed_at items number i rest e

  of_value : (descending : Bool) (v : ValueExpr) → IsTypedValue db blocks around n block v
      → IfOwn (option_map (λ (column : BlockColumn). record { column = column; descending = descending }) (column_of v))
  of_value descending (b.Column c type) t = own c type t.0
  of_value descending (b.Parameter between c type) t = tt
  of_value descending (b.Numeral units digits scale) t = tt
  of_value descending (b.String codes) t = tt
  of_value descending (b.Signed minus operand) t = tt
  of_value descending (b.Chain first others) t = tt
  of_value descending (b.AggregateValue number type) t = tt
  of_value descending (b.Subquery number type) t = tt

  key_own : (key : OrderKey) → AreTyped block.items → IfOwn (sort_key block.items key)
  key_own key typed = of_item (slice_get block.items key.item) refl
    where
      of_item : (o : Option Item) → slice_get block.items key.item ≡ o
          → IfOwn (option_map (λ (column : BlockColumn). record { column = column; descending = key.descending }) (option_and_then (λ (i : Item). column_of i.value) o))
      of_item None e = tt
      of_item (Some i) e = of_value key.descending i.value (typed_at block.items key.item i typed e)

  ordered : (keys : List OrderKey) → AreTyped block.items → AllByRecursion IsOwn (filter_map (sort_key block.items) keys)
  ordered [] typed = tt
  ordered (key ∷ keys) typed = of_key (sort_key block.items key) (key_own key typed) (ordered keys typed)
    where
      of_key : (o : Option SortKey) → IfOwn o → AllByRecursion IsOwn (filter_map (sort_key block.items) keys)
          → AllByRecursion IsOwn (cons_option o (filter_map (sort_key block.items) keys))
      of_key None is rest = rest
      of_key (Some k) is rest = (is, rest)

  -- ---- together

  of_tests : (x y : Bool) (grouping order : Order) → AllByRecursion IsOwn grouping → AllByRecursion IsOwn order → AllByRecursion IsOwn (cond x grouping (cond y order []))
  of_tests true y grouping order g o = g
  of_tests false true grouping order g o = o
  of_tests false false grouping order g o = tt

  pub formed_has_plans : IsFormedBlock db blocks around n block → HasPlans block
  formed_has_plans formed = record {
    some = formed.some;
    required = All-from_recursion IsOwn (required_of block) (of_tests (is_grouped block) (list_all (λ key. is_some (sort_key block.items key)) block.order) (flat_map ascending block.groups)
        (filter_map (sort_key block.items) block.order) (grouped block.groups formed.groups) (ordered block.order formed.items));
  }
