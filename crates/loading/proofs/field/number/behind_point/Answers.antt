use Rattle.loading.proofs.Numerals.{behind_some, behind_none}
use Rattle.loading.proofs.field.number.behind_point.Goals as goal

pub returns-in-Some : goal.returns-in-Some
returns-in-Some c = behind_some c.args.numeral.now _ _ c.point.ensures.place c.in-Some.is

pub returns-in-None : goal.returns-in-None
returns-in-None c = behind_none c.args.numeral.now _ c.point.ensures.place c.in-None.is
