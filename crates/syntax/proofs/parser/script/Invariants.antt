use Rattle.std.proofs.Common.{◌-◌, length, map}
use Rattle.parse_tree.specs.Trees.{statement_of}
use Rattle.syntax_cursor.specs.Places.{Stands}
use Rattle.syntax.specs.Places.{all, statement_leaves}
use Rattle.syntax.proofs.Scripts.{Scripts}
use Rattle.syntax.proofs.parser.script.Given as goal

abbrev pub invariant-statements : goal.invariant-statements
invariant-statements l = record {
  reads : Scripts l.fn.cursor l.cursor (map statement_of l.statements.items);
  placed : Stands l.fn.cursor l.cursor (all statement_leaves l.statements.items);
}

abbrev pub decreases-statements : goal.decreases-statements
decreases-statements l = length l.cursor.tokens - l.cursor.at
