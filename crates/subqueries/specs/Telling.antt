-- What is told of inner blocks.
use Rattle.std.specs.Prelude.{List, Result, Ok, Err}
use Rattle.definitions.specs.Value as v
use Rattle.definitions.specs.Arithmetic as a
use Rattle.sqlvalue.specs.Raises.{raise_of}
use Rattle.subqueries.specs.FirstValues.{values_in}
use Rattle.subqueries.specs.declared.telling.Told.{Told}
use Rattle.subqueries.specs.declared.telling.Told.TheVariants as t

abbrev pub told_in : Told → Result (List v.Value) a.Raise
told_in (t.Values values) = Ok (values_in values)
told_in (t.Raised raise) = Err (raise_of raise)
