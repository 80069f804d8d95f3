use Rattle.std.proofs.Common.{◌∙◌, ap, ◌^◌, arith}
use Rattle.loading.proofs.Scaling.{power_is_within, scaled_up_some, scaled_up_none, scaled_down_some, scaled_down_none}
use Rattle.loading.proofs.written_number.rescale.Goals as goal

pub scale_up-requires-clause-factored : goal.scale_up-requires-clause-factored
scale_up-requires-clause-factored c = rw c.power_of_ten.ensures.value (power_is_within _ 18 (omega arith))

pub returns-then-from-to-clause-some : goal.returns-then-from-to-clause-some
returns-then-from-to-clause-some c = scaled_up_some _ _ _ _ _ _ c.if-from-to.true c.power_of_ten.ensures.value c.scale_up.ensures.some

pub returns-then-from-to-clause-none : goal.returns-then-from-to-clause-none
returns-then-from-to-clause-none c = scaled_up_none _ _ _ _ _ _ c.if-from-to.true c.power_of_ten.ensures.value c.scale_up.ensures.none

pub returns-else-from-to-clause-some : goal.returns-else-from-to-clause-some
returns-else-from-to-clause-some c = scaled_down_some _ _ _ _ _ _ c.requires.sized c.if-from-to.false (c.power_of_ten-else-from-to.ensures.value ∙ ap (λ n. 10 ^ n) c.min-exponent.ensures) c.scale_down.ensures.some

pub returns-else-from-to-clause-none : goal.returns-else-from-to-clause-none
returns-else-from-to-clause-none c = scaled_down_none _ _ _ _ _ _ c.requires.sized c.if-from-to.false (c.power_of_ten-else-from-to.ensures.value ∙ ap (λ n. 10 ^ n) c.min-exponent.ensures) c.scale_down.ensures.none
