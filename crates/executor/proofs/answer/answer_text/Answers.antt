use Rattle.std.proofs.Common.{map}
use Rattle.std.proofs.lemmas.Result.{IfErr-weaker, IfOk-weaker}
use Rattle.result_lines.proofs.Faults.{raised_weaker}
use Rattle.query_tree.specs.Bound.{block_of}
use Rattle.executor.specs.ReadyBlocks.{plans_in}
use Rattle.executor.proofs.WholeQuery.{all_ready, database_is, is_total, outermost, plans_certified, stands}
use Rattle.executor.proofs.answer.answer_text.Goals as goal

pub run_select-requires-clause-query : goal.run_select-requires-clause-query
run_select-requires-clause-query g c =
    rw c.deref.ensures.value (all_ready c.args.database.now (map block_of c.args.blocks.now) c.in_ok-query.query.items c.in_ok-query.ensures.ready c.in_ok-query.ensures.blocks c.requires.formed)

pub run_select-requires-clause-outermost : goal.run_select-requires-clause-outermost
run_select-requires-clause-outermost g c =
    rw c.deref.ensures.value (outermost c.args.database.now (map block_of c.args.blocks.now) c.in_ok-query.query.items c.in_ok-query.ensures.ready c.in_ok-query.ensures.blocks c.requires.formed)

pub run_select-requires-clause-stands : goal.run_select-requires-clause-stands
run_select-requires-clause-stands g c =
    rw c.deref.ensures.value (stands c.args.database.now (map block_of c.args.blocks.now) c.in_ok-query.query.items c.in_ok-query.ensures.ready c.in_ok-query.ensures.blocks c.requires.formed)

pub returns-clause-rows : goal.returns-clause-rows
returns-clause-rows g c =
    let same = database_is c.args.database.now (map block_of c.args.blocks.now) c.in_ok-query.query.items c.in_ok-query.ensures.ready c.in_ok-query.ensures.blocks c.requires.formed in
    rw (c.deref.ensures.value, same, c.in_ok-query.ensures.blocks) at c.run_select.ensures.rows

pub returns-clause-work : goal.returns-clause-work
returns-clause-work g c =
    IfOk-weaker c.run_select.result _ _ (λ r is. is_total c.args.database.now (map block_of c.args.blocks.now) c.in_ok-query.query.items c.in_ok-query.ensures.ready c.in_ok-query.ensures.blocks c.requires.formed c.in_ok-query.ensures.least r.1 is) (rw c.deref.ensures.value at c.run_select.ensures.total)

pub returns-clause-raised : goal.returns-clause-raised
returns-clause-raised g c =
    let same = database_is c.args.database.now (map block_of c.args.blocks.now) c.in_ok-query.query.items c.in_ok-query.ensures.ready c.in_ok-query.ensures.blocks c.requires.formed in
    rw (c.deref.ensures.value, same, c.in_ok-query.ensures.blocks) at c.run_select.ensures.raised

pub returns-clause-certified : goal.returns-clause-certified
returns-clause-certified g c =
    let plans = plans_certified c.args.database.now (map block_of c.args.blocks.now) c.in_ok-query.query.items c.in_ok-query.ensures.ready c.in_ok-query.ensures.blocks c.requires.formed c.in_ok-query.ensures.least in
    IfErr-weaker c.run_select.result _ _ (λ fault h. raised_weaker fault _ _ (λ raise k. (plans_in c.in_ok-query.query.items, plans)) h) c.run_select.ensures.raised
