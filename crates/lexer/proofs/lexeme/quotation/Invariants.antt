use Rattle.std.proofs.Common.{◌≡◌, ◌+◌, Some, false, take}
use Rattle.lexer.proofs.Heads.{reading}
use Rattle.lexer.proofs.lexeme.quotation.Given as goal

abbrev pub invariant-loop-byte : goal.invariant-loop-byte
invariant-loop-byte l = record { counted : l.length ≡ l.byte-index + 1; read : reading false (take l.byte-index l.body) ≡ Some l.closed }
