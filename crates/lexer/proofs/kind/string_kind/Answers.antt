use Rattle.std.proofs.Common.{sym, ap, Some, arith}
use Rattle.lexer.proofs.Tokens.{string_fine, string_stray, string_written}
use Rattle.lexer.proofs.kind.string_kind.Goals as goal

pub returns-in-Some-clause-outcome : goal.returns-in-Some-clause-outcome
returns-in-Some-clause-outcome c = ap Some (sym (string_stray c.args.start c.args.text.now c.args.closed _ c.requires.opens c.if-not-closed.false (omega (arith, c.character_count-characters.ensures)) (sym c.in-Some.ensures)))

pub returns-in-None-clause-outcome : goal.returns-in-None-clause-outcome
returns-in-None-clause-outcome c = ap Some (sym (string_fine c.args.start c.args.text.now c.args.closed c.requires.opens c.if-not-closed.false (omega (arith, c.character_count-characters.ensures)) (sym c.in-None.ensures)))

pub returns-in-None-clause-characters : goal.returns-in-None-clause-characters
returns-in-None-clause-characters c k = string_written c.args.text.now c.requires.opens (omega (arith, c.character_count-characters.ensures)) (sym c.in-None.ensures)
