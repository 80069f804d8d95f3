use Rattle.std.proofs.Common.{◌≡◌, ◌-◌, ◌<◌, ◌^◌, drop}
use Rattle.tuple_sort.specs.Keys.{text_number}
use Rattle.tuple_sort.proofs.sort_tuple.prefix_of.Given as goal

-- with the characters that are left it becomes the number of the first seven
abbrev pub invariant-places : goal.invariant-places
invariant-places l = record {
  number : text_number l.number (7 - l.place) (drop l.place l.text) ≡ text_number 0 7 l.text;
  small : l.number < 256 ^ l.place;
}
