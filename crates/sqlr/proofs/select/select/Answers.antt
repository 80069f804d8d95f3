use Rattle.std.proofs.Common.{refl, ap, map}
use Rattle.definitions.specs.Faults as faults
use Rattle.query_tree.specs.Bound.{block_of}
use Rattle.parse_tree.specs.Trees.{select_of}
use Rattle.sqlr.proofs.Explained.{blocks_formed}
use Rattle.sqlr.proofs.Selecting.{blocks_answerable, fault_told, raise_told, rows_told}
use Rattle.sqlr.proofs.Written.{written}
use Rattle.sqlr.proofs.select.select.Goals as goal

pub returns-in-Err-Refused-clause-answers : goal.returns-in-Err-Refused-clause-answers
returns-in-Err-Refused-clause-answers g c =
    fault_told _ _ _ _ (faults.query _ _ (rw c.refusal.ensures (rw c.in-Err-Refused.field-0-is at c.in-Err-Refused.ensures.refused))) c.refusal_line.ensures.text c.refusal_line.ensures.ended c.refusal_line.ensures.work

pub least_plans-requires : goal.least_plans-requires
least_plans-requires g c = record { formed = rw c.deref.ensures.value (blocks_formed c.args.database.now (select_of c.args.query.now) (map block_of c.in-Ok.blocks.items) c.tables-tables.ensures.valid (written c.args.database.now c.args.query.now) c.in-Ok.ensures.bound) }

pub answer_text-requires-clause-least : goal.answer_text-requires-clause-least
answer_text-requires-clause-least g c =
    rw c.deref-5.ensures.value (rw c.deref.ensures.value at c.in_ok-plans.ensures)

pub answer_text-requires-clause-formed : goal.answer_text-requires-clause-formed
answer_text-requires-clause-formed g c = rw c.deref-5.ensures.value (c.in-Ok.ensures.formed (written c.args.database.now c.args.query.now))

pub answer_text-requires-clause-each : goal.answer_text-requires-clause-each
answer_text-requires-clause-each g c =
    rw c.deref-5.ensures.value (blocks_formed c.args.database.now (select_of c.args.query.now) (map block_of c.in-Ok.blocks.items) c.tables-tables.ensures.valid (written c.args.database.now c.args.query.now) c.in-Ok.ensures.bound)

pub answer_text-requires-clause-answerable : goal.answer_text-requires-clause-answerable
answer_text-requires-clause-answerable g c =
    rw c.deref-5.ensures.value (blocks_answerable c.args.database.now (select_of c.args.query.now) (map block_of c.in-Ok.blocks.items) (written c.args.database.now c.args.query.now) c.in-Ok.ensures.bound)

pub returns-in-Ok-answer_text-clause-answers : goal.returns-in-Ok-answer_text-clause-answers
returns-in-Ok-answer_text-clause-answers g c =
    rows_told _ _ _ _ _ c.in-Ok.ensures.bound (rw c.deref-5.ensures.value at c.in-Ok-answer_text.ensures.rows) (ap (λ t. t.items) c.done.ensures.text) c.done.ensures.ended _
    (rw c.deref-5.ensures.value at c.in-Ok-answer_text.ensures.work) refl

pub returns-in-Err-Raised-clause-answers : goal.returns-in-Err-Raised-clause-answers
returns-in-Err-Raised-clause-answers g c =
    raise_told _ _ _ _ _ c.in-Ok.ensures.bound (rw (c.in-Err-Raised.field-0-is, c.deref-5.ensures.value) at c.in-Err-Raised.ensures.raised)
    (rw (c.in-Err-Raised.field-0-is, c.deref-5.ensures.value) at c.in-Err-Raised.ensures.certified) c.exception_line.ensures.text c.exception_line.ensures.ended c.exception_line.ensures.work
