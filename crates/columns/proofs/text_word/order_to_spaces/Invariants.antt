use Rattle.std.proofs.Common.{◌≡◌, [], drop}
use Rattle.definitions.specs.Value.{text_cmp}
use Rattle.columns.proofs.text_word.order_to_spaces.Given as goal

-- what is left compares as the whole does
abbrev pub invariant-loop-byte : goal.invariant-loop-byte
invariant-loop-byte l = text_cmp (drop l.byte-index l.text) [] ≡ text_cmp l.text []
