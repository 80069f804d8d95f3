-- What late conjuncts say of a combination.
use Rattle.std.specs.Prelude.{Bool, Result, Ok, Err}
use Rattle.definitions.specs.Arithmetic as a
use Rattle.sqlvalue.specs.Raises.{raise_of}
use Rattle.sqlvalue.specs.declared.raise.Raise.{Raise}

abbrev pub said_in : Result Bool Raise → Result Bool a.Raise
said_in (Ok all) = Ok all
said_in (Err raise) = Err (raise_of raise)
