use Rattle.definitions_execution.proofs.KeyParts.{comparison, turned_comparison, between}
use Rattle.definitions_execution.proofs.KnownValues.{conjuncts_ask}
use Rattle.definitions_execution.proofs.conjuncts_ask.Goals as goal

pub returns-clause-compared : goal.returns-clause-compared
returns-clause-compared c context combination column type op e v asked h a = comparison context combination column type op e v asked h a

pub returns-clause-turned : goal.returns-clause-turned
returns-clause-turned c context combination column type op e v asked h a = turned_comparison context combination column type op e v asked h a

pub returns-clause-between : goal.returns-clause-between
returns-clause-between c context combination column type e f v w h l = between context combination column type e f v w h l

pub returns-clause-known : goal.returns-clause-known
returns-clause-known c context block composite table column lt = conjuncts_ask context block composite table column lt
