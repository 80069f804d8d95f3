use Rattle.std.proofs.Common.{◌≡◌, ◌≤◌, ◌<◌, [], length, map, take, get_or}
use Rattle.std.specs.Prelude.{All, filter}
use Rattle.told_tests.specs.ToldTests.{passes_at, IsTested}
use Rattle.told_tests.proofs.told_test.ToldTest.places_by_units.Given as goal

-- of the composites before a place the test tells, and the places of those that pass are written
abbrev pub invariant-rows : goal.invariant-rows
invariant-rows l = record {
  few : l.count ≤ l.place;
  room : length l.places ≡ 1024;
  within : All (λ place. place < length l.batch.items) (take l.count l.places);
  passing : map (λ place. get_or l.batch.items place []) (take l.count l.places) ≡ filter (passes_at l.source l.self) (take l.place l.batch.items);
  tested : All (IsTested l.source l.self) (take l.place l.batch.items);
}
