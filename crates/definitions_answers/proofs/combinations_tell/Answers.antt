use Rattle.definitions_answers.proofs.PlainRows.{combinations_tell, required_order_is_row_order}
use Rattle.definitions_answers.proofs.combinations_tell.Goals as goal

pub returns-clause-told : goal.returns-clause-told
returns-clause-told c context b cs keys shapes plain quiet typed has p = combinations_tell context b cs keys shapes plain quiet typed has p

pub returns-clause-order : goal.returns-clause-order
returns-clause-order c context b cs plain all quiet h = required_order_is_row_order context b cs plain all quiet h
