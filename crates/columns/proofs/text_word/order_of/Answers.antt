use Rattle.std.proofs.Common.{◌∙◌}
use Rattle.columns.proofs.TextOrders.{by_rest, by_front}
use Rattle.columns.proofs.text_word.order_of.Goals as goal

pub returns-in-Equal : goal.returns-in-Equal
returns-in-Equal c = λ tail p e.
    c.then.ensures ∙ by_rest c.args.text.now c.args.head.now tail c.split_at.result.0.now c.split_at.result.1.now c.cmp.result c.args.past c.requires e c.split_at.ensures.front c.split_at.ensures.back c.cmp.ensures p c.order_to_spaces.result c.in-Equal.is c.order_to_spaces.ensures

pub returns-in_default : goal.returns-in_default
returns-in_default c = λ tail p e.
    by_front c.args.text.now c.args.head.now tail c.split_at.result.0.now c.split_at.result.1.now c.cmp.result c.args.past c.requires e c.split_at.ensures.front c.split_at.ensures.back c.cmp.ensures p c.in_default.not-Equal
