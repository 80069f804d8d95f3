-- Conditions over few tables.
use Rattle.std.specs.Prelude.{◌<◌, ◌^◌}
use Rattle.definitions.specs.Limits.{most_from_tables}
use Rattle.definitions.specs.Plans.TableSet.{TableSet}
use Rattle.definitions.specs.Queries.BoundBlock.{Condition}
use Rattle.definitions.specs.Queries.Conjuncts.{condition_tables}

-- the tables of a set are of a FROM, which has no more than fourteen
abbrev pub AreFew : TableSet → Type 0
AreFew tables = tables < 2 ^ most_from_tables

abbrev pub NamesFew : Condition → Type 0
NamesFew c = AreFew (condition_tables c)
