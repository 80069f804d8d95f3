use Rattle.std.proofs.Common.{◌≡◌, ◌≤◌, ◌+◌, drop, false}
use Rattle.definitions.specs.Characters.{character_count}
use Rattle.lexer.specs.Quoted.{unquoted}
use Rattle.lexer.proofs.kind.character_count.Given as goal

abbrev pub invariant-loop-byte : goal.invariant-loop-byte
invariant-loop-byte l = record {
  counted : l.count + character_count (unquoted l.after_quote (drop l.byte-index l.body)) ≡ character_count (unquoted false l.body);
  within : l.count ≤ l.byte-index;
}
