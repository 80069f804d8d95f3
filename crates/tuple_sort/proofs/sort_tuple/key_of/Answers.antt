use Rattle.sqlvalue.specs.Meaning.{value_of}
use Rattle.tuple_sort.proofs.KeyedRows.{if_number_key}
use Rattle.tuple_sort.proofs.sort_tuple.key_of.Goals as goal

pub returns-in-Units : goal.returns-in-Units
returns-in-Units c = rw c.in-Units.is (if_number_key c.in-Units.scale (value_of c.args.value.now) c.number_key.result c.number_key.ensures)
