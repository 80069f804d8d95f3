use Rattle.std.proofs.Common.{◌≡◌, ◌≤◌, ◌++◌, ◌+◌, ◌-◌, length, replicate}
use Rattle.std.specs.String.{string_bytes, string_len, string_capacity}
use Rattle.columns.proofs.text.push_padded.Given as goal

abbrev pub invariant-loop-place : goal.invariant-loop-place
invariant-loop-place l = record {
  bytes : string_bytes l.characters ≡ string_bytes l.fn.characters ++ (l.text ++ replicate (l._place - length l.text) 32);
  room : string_len l.characters + (l.length - l._place) ≤ string_capacity l.characters;
}
