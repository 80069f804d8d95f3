use Rattle.std.proofs.Common.{◌∙◌, sym, ap, Some, arith}
use Rattle.lexer.proofs.First.{behind_opening, read_a_quote, read_a_character, string_to_end, string_to_quote}
use Rattle.lexer.proofs.lexeme.quotation.Goals.{then-byte-eq39, else-byte-eq39+else-closed}
use Rattle.lexer.proofs.lexeme.quotation.Goals as goal

pub loop-byte-preserved : goal.loop-byte-preserved
loop-byte-preserved c = record {
  counted = omega (arith, c.loop-byte.invariant.counted);
  read = elim c.if-byte-eq39.branch [
    | then-byte-eq39 w ↦ read_a_quote _ _ _ c.loop-byte-test.true c.loop-byte.invariant.read w.if-byte-eq39.true ∙ ap Some (sym w.closed-is)
    | else-byte-eq39+else-closed w ↦ read_a_character _ _ c.loop-byte-test.true (c.loop-byte.invariant.read ∙ ap Some w.if-closed.false) w.if-byte-eq39.false ∙ ap Some (sym (w.closed-is ∙ w.if-closed.false))
  ];
}

pub returns-after-loop-byte : goal.returns-after-loop-byte
returns-after-loop-byte c =
    string_to_end _ _ c.loop-byte.byte-index _ _ (behind_opening c.args.text.now c.requires.some c.requires.opens) c.loop-byte.auto.byte-index-end c.loop-byte-test.false
    c.loop-byte.invariant.counted c.loop-byte.invariant.read

pub returns-then-closed : goal.returns-then-closed
returns-then-closed c =
    string_to_quote _ _ c.loop-byte.byte-index _ _ (behind_opening c.args.text.now c.requires.some c.requires.opens) c.loop-byte-test.true
    c.loop-byte.invariant.counted c.loop-byte.invariant.read c.if-closed.true c.if-byte-eq39.false
