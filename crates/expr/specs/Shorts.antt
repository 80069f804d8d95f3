-- Numbers of 64 bits.
use Rattle.std.specs.Prelude.{ℤ, Option, SomeIff, FitsSigned}
use Rattle.std.specs.Int.{w64}
use Rattle.definitions.specs.Value.{Value, Null, Number}
use Rattle.expr.specs.declared.short.Short.{Short}
use Rattle.expr.specs.declared.short.Short.TheVariants as s

abbrev pub short_of : Short → Value
short_of s.Null = Null
short_of (s.Number units scale) = Number units scale

-- a whole number, where it fits into 64 bits with a sign
abbrev pub IsWhole : ℤ → Option ℤ → Type 0
IsWhole whole units = SomeIff units (FitsSigned w64 whole) whole
