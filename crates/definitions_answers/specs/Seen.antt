-- The inner blocks whose values a condition sees: all but those that only EXISTS tests.
use Rattle.std.specs.Prelude.{ℕ, List, ◌++◌, flat_map}
use Rattle.definitions.specs.Queries.BoundBlock.{Block, Condition}
use Rattle.definitions.specs.Queries.Conjuncts.{blocks_in, compared_blocks, late_conjuncts, values_of}

-- those that it compares a value with, and those that its values hold
abbrev pub seen_blocks : Condition → List ℕ
seen_blocks c = compared_blocks c ++ flat_map blocks_in (values_of c)

-- by any late conjunct of a block
abbrev pub seen_subqueries : Block → List ℕ
seen_subqueries b = flat_map seen_blocks (late_conjuncts b)
