use Rattle.std.proofs.Common.{◌≡◌, ◌∙◌, ◌||◌, ◌&&◌, ◌==◌}
use Rattle.std.specs.List.{list_all, list_any}
use Rattle.definitions.specs.Characters.{is_digit}
use Rattle.loading.proofs.Numerals.{first_false, first_true, then_points, else_none}
use Rattle.loading.proofs.field.number.is_numeral.Goals as goal
use Rattle.loading.proofs.field.number.is_numeral.Goals.{then-has_numeral_bytes_alone, else-has_numeral_bytes_alone}

pub returns-then-digit_count-gt0 : goal.returns-then-digit_count-gt0
returns-then-digit_count-gt0 c =
    let first : c.if-has_numeral_bytes_alone.value ≡ (list_all (λ x. is_digit x || (x == 46)) c.args.text.now && list_any is_digit c.args.text.now) =
    elim c.if-has_numeral_bytes_alone.branch [
      | then-has_numeral_bytes_alone w ↦ first_true c.args.text.now _ _ _ c.has_numeral_bytes_alone.ensures w.if-has_numeral_bytes_alone.true w.digit_count.ensures w.value-is
      | else-has_numeral_bytes_alone w ↦ first_false c.args.text.now _ _ c.has_numeral_bytes_alone.ensures w.if-has_numeral_bytes_alone.false (w.value-is ∙ w.if-has_numeral_bytes_alone.false)
    ] in
    then_points c.args.text.now _ _ first c.if-digit_count-gt0.true c.point_count.ensures

pub returns-else-digit_count-gt0 : goal.returns-else-digit_count-gt0
returns-else-digit_count-gt0 c =
    let first : c.if-has_numeral_bytes_alone.value ≡ (list_all (λ x. is_digit x || (x == 46)) c.args.text.now && list_any is_digit c.args.text.now) =
    elim c.if-has_numeral_bytes_alone.branch [
      | then-has_numeral_bytes_alone w ↦ first_true c.args.text.now _ _ _ c.has_numeral_bytes_alone.ensures w.if-has_numeral_bytes_alone.true w.digit_count.ensures w.value-is
      | else-has_numeral_bytes_alone w ↦ first_false c.args.text.now _ _ c.has_numeral_bytes_alone.ensures w.if-has_numeral_bytes_alone.false (w.value-is ∙ w.if-has_numeral_bytes_alone.false)
    ] in
    else_none c.args.text.now _ first c.if-digit_count-gt0.false
