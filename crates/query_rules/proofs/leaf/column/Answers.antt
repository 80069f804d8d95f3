use Rattle.query_rules.specs.ScopeRules.{found_of}
use Rattle.query_rules.proofs.LeafParts.{not_there, not_one, may_not, binds_column}
use Rattle.query_rules.proofs.leaf.column.Goals as goal

pub returns-in-NotThere-clause-refused : goal.returns-in-NotThere-clause-refused
returns-in-NotThere-clause-refused c = not_there _ _ _ _ c.in-NotThere.ensures

pub returns-in-Ambiguous-clause-refused : goal.returns-in-Ambiguous-clause-refused
returns-in-Ambiguous-clause-refused c = not_one _ _ _ _ c.in-Ambiguous.ensures

pub returns-in-Ok-clause-ok : goal.returns-in-Ok-clause-ok
returns-in-Ok-clause-ok c =
    binds_column _ _ _ _ c.in-Named.level (found_of c.in-Named.found) _ _ c.requires c.in-Named.ensures c.in-Ok.ensures.ok c.found_column.ensures.value c.found_column.ensures.typed

pub returns-in-Err-clause-refused : goal.returns-in-Err-clause-refused
returns-in-Err-clause-refused c = may_not _ _ _ _ c.in-Named.level (found_of c.in-Named.found) _ c.in-Named.ensures c.in-Err.ensures.refused
