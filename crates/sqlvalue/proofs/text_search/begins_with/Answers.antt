use Rattle.std.proofs.Common.{sym}
use Rattle.sqlvalue.proofs.LikePatterns.{too_short}
use Rattle.sqlvalue.proofs.text_search.begins_with.Goals as goal

pub returns-then-text-needle : goal.returns-then-text-needle
returns-then-text-needle c = sym (too_short c.args.needle.now c.args.text.now c.if-text-needle.true)
