use Rattle.std.proofs.Common.{◌∙◌, sym, arith}
use Rattle.lexer.proofs.Tokens.{value_within}
use Rattle.lexer.proofs.number.digits_value.Goals as goal

pub overflow_mul-value : goal.overflow_mul-value
overflow_mul-value c = omega (arith, value_within c.args.text.now c.loop-byte.byte-index c.loop-byte.value _ c.loop-byte-test.true (sym c.is_digit.ensures ∙ c.if-is_digit.true) c.loop-byte.invariant, c.requires)

pub overflow_add-value : goal.overflow_add-value
overflow_add-value c = omega (arith, value_within c.args.text.now c.loop-byte.byte-index c.loop-byte.value _ c.loop-byte-test.true (sym c.is_digit.ensures ∙ c.if-is_digit.true) c.loop-byte.invariant, c.requires)
