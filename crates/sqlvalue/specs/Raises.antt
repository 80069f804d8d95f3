-- What arithmetic answers.
use Rattle.std.specs.Prelude.{ℤ, Option, Some, None, Result, Ok, Err, SomeIff, FitsSigned, if◌then◌else◌}
use Rattle.std.specs.Int.{w128}
use Rattle.definitions.specs.Value as spec
use Rattle.definitions.specs.Arithmetic as arithmetic
use Rattle.definitions.specs.Arithmetic.{Meaning, Is, raised, is_in_bounds}
use Rattle.sqlvalue.specs.Meaning.{number_of}
use Rattle.sqlvalue.specs.declared.number.Num.{Num}
use Rattle.sqlvalue.specs.declared.raise.Exception.{Exception}
use Rattle.sqlvalue.specs.declared.raise.Exception.TheVariants as e
use Rattle.sqlvalue.specs.declared.raise.Raise.{Raise}

abbrev pub exception_of : Exception → arithmetic.Raise
exception_of e.OutOfRange = arithmetic.OutOfRange
exception_of e.DivisionByZero = arithmetic.DivisionByZero
exception_of e.Cardinality = arithmetic.Cardinality

abbrev pub raise_of : Raise → arithmetic.Raise
raise_of r = exception_of r.exception

abbrev pub meaning_of : Result Num Exception → Meaning spec.Value
meaning_of (Ok n) = Is (number_of n)
meaning_of (Err e) = raised (exception_of e)

abbrev pub if_in_bounds : ℤ → Option ℤ
if_in_bounds units = if is_in_bounds units then Some units else None

-- a whole number, where it fits into 128 bits with a sign
abbrev pub IsWhole : ℤ → Option ℤ → Type 0
IsWhole whole units = SomeIff units (FitsSigned w128 whole) whole
