use Rattle.std.proofs.Common.{◌≡◌, drop}
use Rattle.std.specs.Str.Parse.{digits_value, digits_value_after}
use Rattle.definitions.specs.Lexing.{digits_of}
use Rattle.lexer.proofs.number.digits_value.Given as goal

abbrev pub invariant-loop-byte : goal.invariant-loop-byte
invariant-loop-byte l = digits_value_after 10 l.value (digits_of (drop l.byte-index l.text)) ≡ digits_value 10 (digits_of l.text)
