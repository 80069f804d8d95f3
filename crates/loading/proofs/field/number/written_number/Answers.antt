use Rattle.std.proofs.Common.{◌∙◌, sym, length, ◌^◌, arith}
use Rattle.definitions.specs.Lexing.{digits_of}
use Rattle.loading.proofs.Numerals.{read, unread, written}
use Rattle.loading.proofs.field.number.written_number.Goals as goal

pub returns-then-not-is_numeral-clause-err : goal.returns-then-not-is_numeral-clause-err
returns-then-not-is_numeral-clause-err c v digits w =
    unread c.args.field.now c.split_sign-negative.result.1.now v digits c.split_sign-negative.ensures.only (sym c.is_numeral.ensures ∙ c.if-not-is_numeral.true) w

pub returns-then-digit_count-gt-MAX_DIGITS-clause-err : goal.returns-then-digit_count-gt-MAX_DIGITS-clause-err
returns-then-digit_count-gt-MAX_DIGITS-clause-err c =
    let (sign, is_sign, is) = c.split_sign-negative.ensures.split in (
      _,
      length (digits_of c.split_sign-negative.result.1.now),
      written c.args.field.now sign c.split_sign-negative.result.1.now c.split_sign-negative.result.0 is_sign is (sym c.is_numeral.ensures ∙ c.if-not-is_numeral.false),
      rw (← c.digit_count.ensures) c.if-digit_count-gt-MAX_DIGITS.true,
    )

pub returns-clause-ok : goal.returns-clause-ok
returns-clause-ok c =
    read c.args.field.now c.split_sign-negative.result.1.now _ c.split_sign-negative.ensures.split (sym c.is_numeral.ensures ∙ c.if-not-is_numeral.false)
    c.digits_value.ensures.value c.behind_point-2.ensures (rw c.digit_count.ensures at c.if-digit_count-gt-MAX_DIGITS.false) c.digits_value.ensures.bound

pub returns-in-Some-clause-ok : goal.returns-in-Some-clause-ok
returns-in-Some-clause-ok c =
    let short = c.in-Some.ensures in
    read c.args.field.now c.split_sign-negative.result.1.now _ c.split_sign-negative.ensures.split short.numeral_is
    (c.from.ensures ∙ short.value) c.behind_point.ensures (omega (arith, short.few)) (omega (arith, c.from.ensures, short.below))
