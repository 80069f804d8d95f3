use Rattle.std.proofs.Common.{map, take}
use Rattle.sqlvalue.specs.Meaning.{value_of}
use Rattle.indexes.specs.Stretches.{IsStretchOf}
use Rattle.indexes.proofs.run.KeyRun.stretch.Given as goal

abbrev pub invariant-loop-place : goal.invariant-loop-place
invariant-loop-place l = IsStretchOf (map value_of (take l.place l.values)) l.self.entries l.stretch
