use Rattle.std.proofs.Common.{◌≡◌, map, drop}
use Rattle.std.specs.Prelude.{find, bytes_eq}
use Rattle.definitions.specs.Characters.{folded}
use Rattle.definitions.specs.Word as spec
use Rattle.lexer.specs.Meaning.{word_of}
use Rattle.lexer.specs.Words.{spelling}
use Rattle.lexer.proofs.word.reserved_word.Given as goal

abbrev pub invariant-loop-word : goal.invariant-loop-word
invariant-loop-word l = find (λ (w : spec.Word). bytes_eq (spelling w) (folded l.text)) (map word_of (drop l.word-index l.word-items)) ≡ spec.reserved (folded l.text)
