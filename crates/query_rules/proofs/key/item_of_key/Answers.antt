use Rattle.query_rules.proofs.Keys.{if_one}
use Rattle.query_rules.proofs.key.item_of_key.Goals as goal

pub returns-in-Name-clause-some : goal.returns-in-Name-clause-some
returns-in-Name-clause-some c = rw c.in-Name.is (rw c.as_str.ensures.value at c.only_named.ensures.some)

pub returns-in-Name-clause-known : goal.returns-in-Name-clause-known
returns-in-Name-clause-known c = rw c.in-Name.is (rw c.as_str.ensures.value at (if_one c.only_named.result _ c.only_named.ensures.one))

pub returns-in-Name-clause-none : goal.returns-in-Name-clause-none
returns-in-Name-clause-none c = rw c.in-Name.is (rw c.as_str.ensures.value at c.only_named.ensures.none)
