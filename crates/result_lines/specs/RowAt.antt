-- What the result columns mean in an environment.
use Rattle.std.specs.Prelude.{List, map, flat_map}
use Rattle.definitions.specs.Value.{Value}
use Rattle.definitions.specs.Table.{Row}
use Rattle.definitions.specs.Arithmetic.{Raise, Meaning}
use Rattle.definitions.specs.Queries.BoundBlock as b
use Rattle.definitions.specs.Queries.Evaluation.{Environment, value}
use Rattle.definitions.specs.Queries.Combinations.{raises_of}
use Rattle.definitions.specs.Queries.Grouping.{results}
use Rattle.definitions.specs.Queries.Laws.{FitsTypes}
use Rattle.expr.specs.Answers.{IsTyped}
use Rattle.query_tree.specs.Bound.{item_of}
use Rattle.query_tree.specs.declared.block.Item.{Item}

abbrev pub items_of : List Item → List b.Item
items_of = map item_of

module _ (env : Environment) where
  abbrev pub values_in : List b.Item → List (Meaning Value)
  values_in items = map (λ (i : b.Item). value env i.value) items

  abbrev pub row_in : List b.Item → Row
  row_in items = results (values_in items)

  abbrev pub row_raises_in : List b.Item → List Raise
  row_raises_in items = flat_map raises_of (values_in items)

  -- the value of a result column can be evaluated
  pub record CanGive (item : b.Item) : Type 0 where
    pub fits : FitsTypes env item.value
    pub typed : IsTyped item.value
