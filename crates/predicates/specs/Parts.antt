-- What conjuncts stand for.
use Rattle.std.specs.Prelude.{◌≡◌, List, map}
use Rattle.definitions.specs.Queries.BoundBlock as b
use Rattle.definitions.specs.Queries.Conjuncts.{conjuncts}
use Rattle.query_tree.specs.Bound.{condition_of}
use Rattle.predicates.specs.declared.conjunct.Conjunct.{Conjunct}

abbrev pub condition_in : Conjunct → b.Condition
condition_in c = condition_of c.condition.now

-- those of a block's WHERE, in text order
abbrev pub AreConjunctsOf : b.Block → List Conjunct → Type 0
AreConjunctsOf block cs = map condition_in cs ≡ conjuncts block
