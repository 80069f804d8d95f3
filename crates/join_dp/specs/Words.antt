-- How long plans are.
use Rattle.std.specs.Prelude.{ℕ, ◌+◌, ◌*◌, ◌≤◌, ◌≡◌, zero, suc}
use Rattle.std.specs.Int.{bit_at}
use Rattle.definitions.specs.Plans.TableSet.{TableSet}
use Rattle.definitions.specs.Plans.Order.{OrderNumber}
use Rattle.definitions.specs.Plans.Plan.{Plan, Access, Loop, Merge, Sort}
use Rattle.definitions.specs.Plans.Space.{Space}
use Rattle.definitions.specs.Plans.Folding.{IsOn}
use Rattle.definitions.specs.Plans.Cost.{cost_of}

-- its accesses, joins and sorts
abbrev pub words_in : Plan → ℕ
words_in (Access path) = 1
words_in (Loop outer path) = words_in outer + 1
words_in (Merge outer number inner) = words_in outer + 1
words_in (Sort input order) = words_in input + 1

-- how many of the first tables are in a set
abbrev pub tables_among : ℕ → TableSet → ℕ
tables_among zero tables = 0
tables_among (suc table) tables = tables_among table tables + bit_at tables table

module _ (space : Space) where
  -- a plan of a state at that cost, of two words for each table at most
  pub record IsPlanOf (tables : TableSet) (order : OrderNumber) (cost : ℕ) (plan : Plan) : Type 0 where
    pub is_on : IsOn space tables order plan
    pub costs : cost_of space plan ≡ cost
    pub short : words_in plan ≤ 2 * tables_among space.table_count tables

  -- and of one word less, where no sort ends it
  pub record IsStepOf (tables : TableSet) (order : OrderNumber) (cost : ℕ) (plan : Plan) : Type 0 where
    pub is_on : IsOn space tables order plan
    pub costs : cost_of space plan ≡ cost
    pub short : words_in plan + 1 ≤ 2 * tables_among space.table_count tables
