use Rattle.parse_tree.specs.Trees.{operator_of}
use Rattle.query_rules.proofs.Operators.{great_product}
use Rattle.query_rules.proofs.operand.joined_scale.Goals as goal

pub returns-in-Times-clause-great : goal.returns-in-Times-clause-great
returns-in-Times-clause-great c = great_product (operator_of c.args.operand.now.operator) c.args.left c.args.right c.in-Times.ensures c.if-left-right.true
