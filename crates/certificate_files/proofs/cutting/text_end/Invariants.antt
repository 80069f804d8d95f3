use Rattle.std.proofs.Common.{◌≡◌, ◌≤◌, ◌-◌, ◌++◌, length, take, drop}
use Rattle.definitions.specs.Certificates.File.{lines_of, own_text, lines_behind}
use Rattle.certificate_files.proofs.cutting.text_end.Given as goal

abbrev pub invariant-lines : goal.invariant-lines
invariant-lines l = record {
  within : l.at ≤ length l.bytes;
  own : take l.at l.bytes ++ own_text (lines_of (drop l.at l.bytes)) ≡ own_text (lines_of l.bytes);
  rest : lines_behind (lines_of (drop l.at l.bytes)) ≡ lines_behind (lines_of l.bytes);
}

abbrev pub decreases-lines : goal.decreases-lines
decreases-lines l = length l.bytes - l.at
