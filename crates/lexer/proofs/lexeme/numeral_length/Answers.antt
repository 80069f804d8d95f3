use Rattle.std.proofs.Common.{◌∙◌, ap, arith}
use Rattle.std.specs.List.{prefix_len}
use Rattle.std.proofs.lemmas.List.{take_rest}
use Rattle.definitions.specs.Characters.{is_digit}
use Rattle.lexer.proofs.First.{numeral_with_point, numeral_without_point}
use Rattle.lexer.proofs.lexeme.numeral_length.Goals as goal
use Rattle.lexer.proofs.lexeme.numeral_length.Goals.{else-whole-text-via-then-whole-text+else-text-whole-eq46, else-whole-text-via-else-whole-text}

pub returns-then-text-whole-eq46 : goal.returns-then-text-whole-eq46
returns-then-text-whole-eq46 c =
    numeral_with_point c.args.text.now _ _ c.requires c.leading_digits-whole.ensures.count c.if-whole-text.true c.if-text-whole-eq46.true
    (c.leading_digits.ensures.count ∙ ap (prefix_len is_digit) (take_rest c.args.text.now _))

pub returns-else-whole-text : goal.returns-else-whole-text
returns-else-whole-text c =
    numeral_without_point c.args.text.now _ c.requires c.leading_digits-whole.ensures.count
    (elim c.else-whole-text.branch [
      | else-whole-text-via-then-whole-text+else-text-whole-eq46 w ↦ λ l e. w.if-text-whole-eq46.false e
      | else-whole-text-via-else-whole-text w ↦ λ l e. absurd (omega arith)
    ])
