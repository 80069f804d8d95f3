-- What the conjuncts of this crate stand for.
use Rattle.std.specs.Prelude.{ℕ, Bool, not, ◌&&◌, option_map}
use Rattle.definitions.specs.Plans.Conjunct as spec
use Rattle.definitions.specs.Plans.TableSet.{TableSet, with_table}
use Rattle.definitions.specs.Estimates.BlockTables.{has, is_within}
use Rattle.definitions.specs.Queries.BoundBlock.{Condition}
use Rattle.predicates.specs.Columns.{pair_of}
use Rattle.predicates.specs.Parts.{condition_in}
use Rattle.plan_tree.specs.Sets.{set_of}
use Rattle.estimate.specs.declared.plan_conjunct.PlanConjunct.{PlanConjunct}

abbrev pub conjunct_of : PlanConjunct → spec.Conjunct
conjunct_of c =
    record {
      early = not c.conjunct.late;
      tables = set_of c.conjunct.tables;
      equated = option_map pair_of c.conjunct.equated;
      selectivity =
          c.selectivity;
    }

abbrev pub condition_of_conjunct : PlanConjunct → Condition
condition_of_conjunct c = condition_in c.conjunct

-- it names a table, and beside it only tables whose rows are known
abbrev pub names_known : TableSet → ℕ → spec.Conjunct → Bool
names_known known table c = has c.tables table && is_within c.tables (with_table known table)
