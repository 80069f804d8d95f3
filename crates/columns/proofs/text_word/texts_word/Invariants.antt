use Rattle.std.proofs.Common.{◌≡◌, map}
use Rattle.definitions.specs.Value.{text_cmp}
use Rattle.definitions.specs.Truth.{agrees}
use Rattle.definitions.specs.Scanning.{word_of}
use Rattle.sqlvalue.specs.Meaning.{op_of}
use Rattle.columns.specs.TextRows.{texts_in}
use Rattle.columns.proofs.text_word.texts_word.Given as goal

-- the word of the rows so far
abbrev pub invariant-loop-row : goal.invariant-loop-row
invariant-loop-row l = l.word ≡ word_of (map (λ text. agrees (op_of l.fn.op) (text_cmp text l.value)) (texts_in l.length l.row l.characters))
