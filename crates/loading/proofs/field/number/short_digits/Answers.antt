use Rattle.std.proofs.Common.{◌∙◌, ◌^◌, sym, refl, arith}
use Rattle.std.proofs.lemmas.Bool.Decides.{nat_tests}
use Rattle.loading.proofs.Numerals.{scanned_start, scanned_digit, scanned_point, scanned_all, valued_digit, valued_fits}
use Rattle.loading.proofs.field.number.short_digits.Goals as goal
use Rattle.loading.proofs.field.number.short_digits.Goals.{then-is_ascii_digit, else-is_ascii_digit+then-byte-eq46}

pub bytes-init : goal.bytes-init
bytes-init c = scanned_start c.args.numeral.now c.if-numeral-gt-MAX_SHORT.false

pub overflow_mul-digits : goal.overflow_mul-digits
overflow_mul-digits c =
    omega (arith, valued_fits c.args.numeral.now _ _ _ (10 ^ 18) (valued_digit c.args.numeral.now _ _ _ _ _ _ c.bytes-test.true (sym c.is_ascii_digit.ensures.value ∙ c.if-is_ascii_digit.true) refl refl c.bytes.invariant.valued))

pub overflow_add-digits : goal.overflow_add-digits
overflow_add-digits c =
    omega (arith, valued_fits c.args.numeral.now _ _ _ (10 ^ 18) (valued_digit c.args.numeral.now _ _ _ _ _ _ c.bytes-test.true (sym c.is_ascii_digit.ensures.value ∙ c.if-is_ascii_digit.true) c.from.ensures refl c.bytes.invariant.valued))

pub bytes-preserved : goal.bytes-preserved
bytes-preserved c =
    elim c.if-is_ascii_digit.branch [
      | then-is_ascii_digit w ↦
          rw w.points-is (scanned_digit c.args.numeral.now _ _ _ _ _ c.bytes-test.true (sym c.is_ascii_digit.ensures.value ∙ w.if-is_ascii_digit.true) w.from.ensures w.digits-is c.bytes.invariant)
      | else-is_ascii_digit+then-byte-eq46 w ↦
          rw (w.digits-is, w.points-is) (scanned_point c.args.numeral.now _ _ _ c.bytes-test.true (sym c.is_ascii_digit.ensures.value ∙ w.if-is_ascii_digit.false) (let e = w.if-byte-eq46.true in grind (arith, nat_tests)) c.bytes.invariant)
    ]

pub returns : goal.returns
returns c =
    let ended = c.bytes-test.false in
    let some = c.if-points-numeral.false in
    scanned_all c.args.numeral.now _ _ _ c.if-numeral-gt-MAX_SHORT.false (omega (arith, ended)) (omega (arith, c.if-points-gt1.false)) (omega (arith, some, ended, c.bytes.invariant.within, c.bytes.auto.byte-index-end)) c.bytes.invariant
