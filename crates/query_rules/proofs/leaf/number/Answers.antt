use Rattle.query_rules.specs.Judging.{too_fine}
use Rattle.query_rules.proofs.leaf.number.Goals as goal

pub returns-then-numeral-gt-MAX_SCALE-clause-refused : goal.returns-then-numeral-gt-MAX_SCALE-clause-refused
returns-then-numeral-gt-MAX_SCALE-clause-refused c db scopes place = too_fine c.if-numeral-gt-MAX_SCALE.true
