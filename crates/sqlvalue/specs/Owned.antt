-- Values that are owned.
use Rattle.std.specs.String.{string_bytes}
use Rattle.definitions.specs.Value.{Value, Null, Text}
use Rattle.sqlvalue.specs.Meaning.{number_of}
use Rattle.sqlvalue.specs.declared.owned_value.OwnedValue.{OwnedValue}
use Rattle.sqlvalue.specs.declared.owned_value.OwnedValue.TheVariants as own

abbrev pub owned_value : OwnedValue → Value
owned_value own.Null = Null
owned_value (own.Num n) = number_of n
owned_value (own.Text text) = Text (string_bytes text)
