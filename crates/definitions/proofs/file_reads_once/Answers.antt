use Rattle.definitions.proofs.FileLoads.{file_reads_once}
use Rattle.definitions.proofs.file_reads_once.Goals as goal

pub returns : goal.returns
returns c bytes a b g h = file_reads_once bytes a b g h
