use Rattle.std.proofs.Common.{sym, arith}
use Rattle.std.proofs.lemmas.Bool.{ltb-true}
use Rattle.lexer.proofs.First.{pair_first, byte_first, no_sign}
use Rattle.lexer.proofs.lexeme.sign_or_byte.Goals.{else-text-lt2-via-then-text-lt2, else-text-lt2-via-in-len2-up+in-None-1}
use Rattle.lexer.proofs.lexeme.sign_or_byte.Goals as goal

pub returns : goal.returns
returns c = pair_first c.args.text.now c.in-Some.symbol c.in-len2-up.len_at_least (sym c.in-Some.ensures)

pub returns-2 : goal.returns-2
returns-2 c =
    byte_first c.args.text.now c.one_byte.result c.requires.some c.requires.no_word c.requires.no_numeral c.requires.no_string c.requires.no_comment
    (elim c.else-text-lt2.branch [
      | else-text-lt2-via-then-text-lt2 w ↦ λ l. absurd (omega (arith, ltb-true))
      | else-text-lt2-via-in-len2-up+in-None-1 w ↦ λ l. no_sign _ _ w.from_pair.ensures (cc)
    ])
    c.one_byte.ensures
