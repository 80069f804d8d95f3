use Rattle.std.proofs.Common.{◌≡◌, drop}
use Rattle.definitions.specs.Lexing.{behind_point}
use Rattle.lexer.proofs.number.behind_point.Given as goal

abbrev pub invariant-loop-offset : goal.invariant-loop-offset
invariant-loop-offset l = behind_point (drop l.offset l.text) ≡ behind_point l.text
