use Rattle.std.proofs.Common.{◌≡◌, map, take}
use Rattle.plan_tree.specs.Certificates.{state_of}
use Rattle.definitions.specs.Certificates.Spelling.{StateIsThere}
use Rattle.certificate_syntax.specs.Said.{state_said}
use Rattle.certificate.specs.Blocks.{block_in}
use Rattle.certificate.proofs.Elements.{UpTo}
use Rattle.certificate.proofs.states.states_meant.Given as goal

abbrev pub invariant-states : goal.invariant-states
invariant-states l = record {
  exact : map state_of l.states.items ≡ map state_said (take l.place l.said);
  there : UpTo (StateIsThere (block_in l.block)) (map state_said l.said) l.place;
}
