-- What the sets of this crate stand for.
use Rattle.definitions.specs.Plans.TableSet.{TableSet}
use Rattle.plan_tree.specs.declared.table_set.TableSet.{TableSet as Code}

abbrev pub set_of : Code → TableSet
set_of s = s.bits
