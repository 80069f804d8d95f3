use Rattle.definitions_execution.proofs.PathsAsk.{paths_ask, paths_ask_parts}
use Rattle.definitions_execution.proofs.paths_ask.Goals as goal

pub returns-clause-asked : goal.returns-clause-asked
returns-clause-asked c version context block composite tables table index numbers backward is lt asked are = paths_ask version context block composite tables table index numbers backward is lt asked are

pub returns-clause-part : goal.returns-clause-part
returns-clause-part c version context block composite tables table index numbers backward is exist = paths_ask_parts version context block composite tables table index numbers backward is exist
