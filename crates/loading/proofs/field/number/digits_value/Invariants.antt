use Rattle.std.proofs.Common.{◌^◌}
use Rattle.std.specs.Str.Parse.{digits_value}
use Rattle.definitions.specs.Lexing.{digits_of}
use Rattle.loading.proofs.Numerals.{Valued}
use Rattle.loading.proofs.field.number.digits_value.Given as goal

abbrev pub invariant-loop-c : goal.invariant-loop-c
invariant-loop-c l = Valued l.numeral l.c-index l.value (digits_value 10 (digits_of l.numeral)) (10 ^ 38)
