use Rattle.std.proofs.Common.{◌∙◌, sym, ap₂}
use Rattle.definitions.specs.Value.{rank}
use Rattle.sqlvalue.specs.Meaning.{value_of}
use Rattle.sqlvalue.specs.declared.value.Value.{Value}
use Rattle.sqlvalue.proofs.NumberKeys.{of_one_scale}
use Rattle.block_answers.proofs.run_end.order_of.Goals as goal

pub returns-in-Num-Num : goal.returns-in-Num-Num
returns-in-Num-Num c =
    let x = c.in-Num-Num.x in
    let y = c.in-Num-Num.y in
    c.cmp.ensures ∙ of_one_scale x.units y.units x.scale y.scale c.if-x-y.true ∙ sym (ap₂ (λ (v w : Value). rank (value_of v) (value_of w)) c.in-Num-Num.is-0 c.in-Num-Num.is-1)
