-- How a run of a script ended, or a checking run (own).

-- Refused where a certificate was, or what is left behind the last one; else Faulted where an error line was printed,
-- or the line of an exception, or that there is nothing to check; else Well
pub data Ended : Type 0 where
  Well Faulted Refused : Ended

-- of two one behind the other: as the first that did not end well
abbrev pub both_ended : Ended → Ended → Ended
both_ended Well other = other
both_ended first other = first
