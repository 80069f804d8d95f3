-- The first values of rows, in order.
use Rattle.std.specs.Prelude.{List, map}
use Rattle.definitions.specs.Value.{Value}
use Rattle.sqlvalue.specs.Owned.{owned_value}
use Rattle.subqueries.specs.declared.first_values.FirstValues.{FirstValues}

abbrev pub values_in : FirstValues → List Value
values_in f = map owned_value f.values.items
