use Rattle.std.proofs.Common.{◌≡◌, ◌++◌, map, take, flat_map}
use Rattle.definitions.specs.Certificates.Text.{state_line}
use Rattle.plan_tree.specs.Certificates.{state_of}
use Rattle.certificate.proofs.writing.write_states.Given as goal

abbrev pub invariant-states : goal.invariant-states
invariant-states l = l.text.items ≡ l.fn.text.items ++ flat_map state_line (map state_of (take l.state-index l.states))
