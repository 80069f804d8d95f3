use Rattle.std.proofs.Common.{◌^◌, ◌∙◌, sym, refl, arith}
use Rattle.loading.proofs.Numerals.{valued_start, valued_digit, valued_other, valued_fits}
use Rattle.loading.proofs.field.number.digits_value.Goals as goal
use Rattle.loading.proofs.field.number.digits_value.Goals.{then-is_ascii_digit, else-is_ascii_digit}

pub loop-c-init : goal.loop-c-init
loop-c-init c = valued_start c.args.numeral.now c.requires

pub overflow_mul-value : goal.overflow_mul-value
overflow_mul-value c = omega (arith, valued_fits c.args.numeral.now _ _ _ (10 ^ 38) (valued_digit c.args.numeral.now _ _ _ _ _ _ c.loop-c-test.true (sym c.is_ascii_digit.ensures.value ∙ c.if-is_ascii_digit.true) refl refl c.loop-c.invariant))

pub overflow_add-value : goal.overflow_add-value
overflow_add-value c =
    omega (arith, valued_fits c.args.numeral.now _ _ _ (10 ^ 38) (valued_digit c.args.numeral.now _ _ _ _ _ _ c.loop-c-test.true (sym c.is_ascii_digit.ensures.value ∙ c.if-is_ascii_digit.true) c.from.ensures refl c.loop-c.invariant))

pub loop-c-preserved : goal.loop-c-preserved
loop-c-preserved c =
    elim c.if-is_ascii_digit.branch [
      | then-is_ascii_digit w ↦ valued_digit c.args.numeral.now _ _ _ _ _ _ c.loop-c-test.true (sym c.is_ascii_digit.ensures.value ∙ w.if-is_ascii_digit.true) w.from.ensures w.value-is c.loop-c.invariant
      | else-is_ascii_digit w ↦ rw w.value-is (valued_other c.args.numeral.now _ _ _ _ c.loop-c-test.true (sym c.is_ascii_digit.ensures.value ∙ w.if-is_ascii_digit.false) c.loop-c.invariant)
    ]
