use Rattle.std.proofs.Common.{◌≡◌, drop}
use Rattle.std.specs.List.{position_from}
use Rattle.definitions.specs.Certificates.CertifiedBlock.{is_on_column}
use Rattle.certificate.specs.Blocks.{columns_of}
use Rattle.certificate.proofs.one_column.place_on_column.Given as goal

abbrev pub invariant-indexes : goal.invariant-indexes
invariant-indexes l = position_from (is_on_column l.column) l.place (columns_of (drop l.place l.indexes)) ≡ position_from (is_on_column l.column) 0 (columns_of l.indexes)
