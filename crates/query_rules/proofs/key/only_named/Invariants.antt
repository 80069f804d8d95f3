use Rattle.std.proofs.Common.{map, drop}
use Rattle.definitions.specs.Binding.BoundForm.{has_name}
use Rattle.query_rules.specs.Keys.{known_name, known_names}
use Rattle.query_rules.proofs.Keys.{OnlySoFar}
use Rattle.query_rules.proofs.key.only_named.Given as goal

abbrev pub invariant-names : goal.invariant-names
invariant-names l = OnlySoFar (has_name l.name) (known_names l.names) (map known_name (drop l.i l.names)) l.i l.only
