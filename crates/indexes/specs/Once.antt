-- What an index keeps in which no key comes again.
use Rattle.std.specs.Prelude.{List}
use Rattle.definitions.specs.Key.{Key, AreUnique}
use Rattle.definitions.specs.IndexRun.{IsRun}
use Rattle.indexes.specs.declared.unique.UniqueIndex.TheInside.{Inside}

-- no key comes twice among those that the run is of
abbrev pub IsUniqueIndex : Inside → Type 0
IsUniqueIndex index = (keys : List Key) → IsRun keys index.run.entries → AreUnique keys
