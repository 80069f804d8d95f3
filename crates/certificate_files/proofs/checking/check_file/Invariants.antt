use Rattle.std.proofs.Common.{◌≡◌, ◌≤◌, length, drop, map}
use Rattle.query_tree.specs.Bound.{block_of}
use Rattle.definitions.specs.Certificates.File.{lines_of}
use Rattle.certificate_files.specs.Telling.{check_ended_of}
use Rattle.certificate_files.proofs.Checked.{TellsTo}
use Rattle.certificate_files.proofs.Kept.{KeptTo}
use Rattle.certificate_files.proofs.checking.check_file.Given as goal

abbrev pub invariant-texts : goal.invariant-texts
invariant-texts l = record {
  told : TellsTo l.database (map block_of l.blocks) (lines_of l.file) l.block-index (lines_of (drop l.start l.file)) l.text.items (check_ended_of l.ended);
  kept : KeptTo l.database (map block_of l.blocks) l.file l.block-index (lines_of (drop l.start l.file)) l.all.items;
  number : l.number ≡ l.block-index;
  within : l.start ≤ length l.file;
}
