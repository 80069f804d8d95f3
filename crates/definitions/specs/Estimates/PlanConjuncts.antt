-- What plans see of the conjuncts of WHERE (Selinger et al. 1979, section 2: boolean factors).
use Rattle.std.specs.Prelude.{not, List, Option, Some, None, map}
use Rattle.definitions.specs.Statement.{Equals}
use Rattle.definitions.specs.Table.{Database}
use Rattle.definitions.specs.Plans.Order.{BlockColumn}
use Rattle.definitions.specs.Plans.Conjunct.{Conjunct}
use Rattle.definitions.specs.Queries.BoundBlock.{Column, Condition, Compare, Block}
use Rattle.definitions.specs.Queries.Conjuncts.{condition_tables, conjuncts, is_late}
use Rattle.definitions.specs.Estimates.Selectivity.{selectivity}

-- the columns of `column1 = column2`
abbrev pub equated_columns : Condition → Option (BlockColumn × BlockColumn)
equated_columns (Compare Equals (Column x _) (Column y _)) = Some (x, y)
equated_columns _ = None

module _ (db : Database) (block : Block) where
  abbrev pub plan_conjunct : Condition → Conjunct
  plan_conjunct c =
      record {
        early = not (is_late c);
        tables = condition_tables c;
        equated = equated_columns c;
        selectivity = selectivity db block c;
      }

  -- all of them in the order of the text, by which they are numbered
  abbrev pub plan_conjuncts : List Conjunct
  plan_conjuncts = map plan_conjunct (conjuncts block)
