use Rattle.std.proofs.Common.{◌∙◌, ◌++◌, ap, take, drop, false, arith}
use Rattle.columns.proofs.Extended.{part_more, part_one}
use Rattle.std.proofs.lemmas.List.{length-take-le, length-drop}
use Rattle.columns.proofs.null_bits.NullBits.add_from.Goals as goal

pub loop-row-preserved-then-to-row-ge64 : goal.loop-row-preserved-then-to-row-ge64
loop-row-preserved-then-to-row-ge64 c =
    let i = c.loop-row.invariant in
    let long = length-take-le 64 (drop c.loop-row.row c.args.other.now) (omega (arith, c.if-to-row-ge64.true, c.requires.within, length-drop c.loop-row.row c.args.other.now)) in
    record {
      from = omega (arith, i.from);
      to = omega (arith, c.if-to-row-ge64.true);
      own = part_more c.args.self.now c.loop-row.self _ c.args.other.now c.args.from c.loop-row.row 64 i.from i.own (c.in_ok-push_word.ensures.ok (take 64 (drop c.loop-row.row c.args.other.now)) long c.word.ensures);
    }

pub loop-row-preserved : goal.loop-row-preserved
loop-row-preserved c =
    let i = c.loop-row.invariant in
    record {
      from = omega (arith, i.from);
      to = omega (arith, c.loop-row-test.true);
      own = part_more c.args.self.now c.loop-row.self _ c.args.other.now c.args.from c.loop-row.row 1 i.from i.own
          (c.in_ok-push.ensures.ok ∙ ap (λ xs. c.loop-row.self ++ xs) (part_one c.args.other.now c.loop-row.row c.is_null.result false (omega (arith, c.loop-row-test.true, c.requires.within)) c.is_null.ensures));
    }
