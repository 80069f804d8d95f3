use Rattle.std.proofs.Common.{◌≡◌, drop}
use Rattle.std.specs.Prelude.{bit_or}
use Rattle.predicates.proofs.Naming.{tables_from}
use Rattle.plan_tree.specs.Sets.{set_of}
use Rattle.predicates.proofs.tables.tables_of.Given as goal

-- with those of the values that are left, it is all of them
abbrev pub invariant-values : goal.invariant-values
invariant-values l = bit_or (set_of l.tables) (tables_from (drop l.value-index l.values)) ≡ tables_from l.values
