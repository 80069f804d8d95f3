use Rattle.definitions_execution.proofs.KeyParts.{equal_match, ranged_match}
use Rattle.definitions_execution.proofs.match_is_part.Goals as goal

pub returns-clause-equal : goal.returns-clause-equal
returns-clause-equal c context block composite table index numbers backward values h = equal_match context block composite table index numbers backward values h

pub returns-clause-ranged : goal.returns-clause-ranged
returns-clause-ranged c context block composite table index numbers backward values low high h = ranged_match context block composite table index numbers backward values low high h
