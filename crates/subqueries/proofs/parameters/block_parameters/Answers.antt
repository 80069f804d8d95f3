use Rattle.std.proofs.Common.{◌∙◌, ◌-◌, arith}
use Rattle.std.proofs.lemmas.List.{length-set}
use Rattle.subqueries.proofs.AllParameters.{block_before}
use Rattle.subqueries.proofs.parameters.block_parameters.Goals as goal

pub numbers-preserved : goal.numbers-preserved
numbers-preserved c =
    let inner = rw c.deref.ensures.value at c.in_ok-own.ensures in
    record {
      count = length-set c.numbers.all.items (c.numbers.number - 1) c.in_ok-own.own ∙ c.numbers.invariant.count;
      behind = block_before c.numbers.all.items c.in_ok-own.own c.args.blocks.now c.numbers.number c.index-blocks-number.result c.numbers-test.true (omega arith) c.numbers.invariant.count c.index-blocks-number.is inner c.numbers.invariant.behind;
    }
