use Rattle.std.proofs.Common.{refl, arith, ◌≡◌, ◌<◌}
use Rattle.definitions.specs.Value.{text_cmp}
use Rattle.definitions.specs.Truth.{agrees}
use Rattle.sqlvalue.specs.Meaning.{op_of}
use Rattle.columns.proofs.TextOrders.{row_text_is, row_met, row_more, row_fits}
use Rattle.columns.proofs.text_word.texts_word.Goals as goal

pub loop-row-init : goal.loop-row-init
loop-row-init c = refl

pub overflow_add-word : goal.overflow_add-word
overflow_add-word c = record { fits = row_fits (λ text. agrees (op_of c.args.op) (text_cmp text c.args.value.now)) c.args.length c.loop-row.row c.args.characters.now c.loop-row.word c.from.result c.has-met.result (omega arith) c.loop-row.invariant c.from.ensures }

pub loop-row-preserved : goal.loop-row-preserved
loop-row-preserved c =
    let asks = agrees (op_of c.args.op) in
    let h : c.loop-row.row < c.args.rows = c.loop-row-test.true in
    let own = row_text_is c.args.characters.now c.args.length c.loop-row.row c.args.rows h c.requires.within in
    let met = row_met c.args.characters.now c.args.length c.loop-row.row c.args.rows h c.requires.within asks c.of-wanted.result c.order_of.result c.order_to_spaces.result c.reverse-past.result c.has-met.result c.args.value.now c.split_at.result.0.now c.split_at.result.1.now c.min.result c.min.ensures c.split_at.ensures.front_len c.split_at.ensures.back c.split_at.ensures.by_index.0 c.order_to_spaces.ensures c.reverse-past.ensures c.of-wanted.ensures c.has-met.ensures c.order_of.ensures in
    row_more (λ text. asks (text_cmp text c.args.value.now)) c.args.length c.loop-row.row c.args.characters.now _ c.loop-row.word c.from.result c.has-met.result (omega arith) own c.loop-row.invariant met c.from.ensures

pub returns : goal.returns
returns c =
    let e : c.loop-row.row ≡ c.args.rows = omega arith in
    rw e at c.loop-row.invariant
