use Rattle.std.proofs.Common.{None, drop}
use Rattle.certificate.proofs.Rising.{Continues}
use Rattle.certificate.proofs.below.states_below.Given as goal

abbrev pub invariant-states : goal.invariant-states
invariant-states l = record {
  whole : Continues l.target l.before (drop l.place l.states) → Continues l.target None l.states;
  part : Continues l.target None l.states → Continues l.target l.before (drop l.place l.states);
}
