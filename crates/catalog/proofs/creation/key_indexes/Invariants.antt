use Rattle.catalog.proofs.Creating.{MadeSoFar}
use Rattle.catalog.proofs.creation.key_indexes.Given as goal

-- the indexes so far are made
abbrev pub invariant-loop-number : goal.invariant-loop-number
invariant-loop-number l = MadeSoFar l.columns l.definitions l.number l.made.items
