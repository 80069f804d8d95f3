use Rattle.std.proofs.Common.{arith}
use Rattle.definitions.proofs.ReadTokens.{digits_within}
use Rattle.lexer.proofs.Tokens.{digits_small}
use Rattle.lexer.proofs.number.number_of.Goals as goal

pub digits_value-requires : goal.digits_value-requires
digits_value-requires c = digits_small c.args.text.now c.requires.0

pub invariant_of-result : goal.invariant_of-result
invariant_of-result c = record {
  bounded = c.digits_value.ensures.bounded;
  written = (rw (c.digits_value.ensures.value, c.digit_count.ensures) (digits_within c.args.text.now), omega (arith, c.digit_count.ensures, c.requires.0));
}
