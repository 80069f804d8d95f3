-- What the ends of this crate stand for.
use Rattle.std.specs.Prelude.{ℕ, Result, Ok, Err}
use Rattle.sqlr.specs.declared.ended.Ended.{Ended}
use Rattle.sqlr.specs.declared.ended.Ended.TheVariants as e
use Rattle.sqlr.specs.declared.ended.RunFault.{RunFault}

-- the exit status of a run (own)
abbrev pub status_of : Result Ended RunFault → ℕ
status_of (Ok e.Well) = 0
status_of (Ok e.Faulted) = 1
status_of (Ok e.Refused) = 3
status_of (Err fault) = 2
