-- Statistics that SET STATISTICS gives.
use Rattle.std.specs.Prelude.{◌≡◌, Some}
use Rattle.definitions.specs.Value.{SqlType, Numbers, Texts, kind_of}
use Rattle.definitions.specs.Statement.{Range, GivenStatistics}
use Rattle.definitions.specs.IndexFaults.{Falls, NeverKept}
use Rattle.definitions.specs.Invariant.{IsCount, IsPageCount}
use Rattle.catalog.specs.declared.fault.StatisticsFault.{StatisticsFault}
use Rattle.catalog.specs.declared.fault.StatisticsFault.TheVariants as f
use Rattle.catalog.specs.declared.fault.RangeEnd.TheVariants as e

-- statistics that may be given, whatever the index
pub record IsGiven (given : GivenStatistics) : Type 0 where
  pub keys : IsCount given.keys
  pub pages : IsPageCount given.pages
  pub rising : (r : Range) → given.range ≡ Some r → ¬ (Falls r)

-- why LOW and HIGH are not kept for a first column of a type
abbrev pub RefusesRange : SqlType → Range → StatisticsFault → Type 0
RefusesRange type r f.Texts = kind_of type ≡ Texts
RefusesRange type r (f.Unfit e.Low) = (kind_of type ≡ Numbers) × NeverKept type r.low
RefusesRange type r (f.Unfit e.High) = (kind_of type ≡ Numbers) × NeverKept type r.high
RefusesRange type r f.Falls = Falls r
RefusesRange type r _ = ⊥

-- why statistics are not kept for it
abbrev pub RefusesGiven : SqlType → GivenStatistics → StatisticsFault → Type 0
RefusesGiven type given f.Keys = ¬ (IsCount given.keys)
RefusesGiven type given f.Pages = ¬ (IsPageCount given.pages)
RefusesGiven type given fault = (r : Range) × (given.range ≡ Some r) × RefusesRange type r fault
