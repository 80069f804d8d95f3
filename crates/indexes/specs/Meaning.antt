-- What the statistics of this crate stand for.
use Rattle.std.specs.Prelude.{option_map}
use Rattle.definitions.specs.Table as table
use Rattle.indexes.specs.declared.statistics.TableStatistics.{TableStatistics}
use Rattle.indexes.specs.declared.statistics.KeyRange.{KeyRange}
use Rattle.indexes.specs.declared.statistics.IndexStatistics.{IndexStatistics}

abbrev pub table_statistics_of : TableStatistics → table.TableStatistics
table_statistics_of f = record { rows = f.rows; pages = f.pages }

abbrev pub key_range_of : KeyRange → table.KeyRange
key_range_of r = record { low = r.low; high = r.high }

abbrev pub index_statistics_of : IndexStatistics → table.IndexStatistics
index_statistics_of f =
    record { keys = f.keys; pages = f.pages; clustered = f.clustered; range = option_map key_range_of f.range }
