use Rattle.std.proofs.Common.{◌≡◌, ◌≤◌, IsTrue, drop}
use Rattle.std.specs.List.{list_all}
use Rattle.std.specs.Str.Parse.{digits_value, digits_value_after}
use Rattle.definitions.specs.Characters.{is_digit}
use Rattle.definitions.specs.Plans.Cost.{limit}
use Rattle.certificate_syntax.proofs.number.value_of.Given as goal

abbrev pub invariant-digits : goal.invariant-digits
invariant-digits l = record {
  within : l.value ≤ limit;
  digits : IsTrue (list_all is_digit (drop l.digit-index l.digits));
  value : digits_value_after 10 l.value (drop l.digit-index l.digits) ≡ digits_value 10 l.digits;
}
