-- The key by which a result is kept.
use Rattle.std.specs.Prelude.{List, Option, map, option_map}
use Rattle.std.specs.Global.{Vec}
use Rattle.definitions.specs.Value.{Value}
use Rattle.sqlvalue.specs.Owned.{owned_value}
use Rattle.sqlvalue.specs.declared.owned_value.OwnedValue.{OwnedValue}

-- its values, if there is one
abbrev pub key_of_option : Option (Vec OwnedValue) → Option (List Value)
key_of_option = option_map (λ (own : Vec OwnedValue). map owned_value own.items)
