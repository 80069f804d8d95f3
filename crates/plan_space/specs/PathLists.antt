-- What the paths of this crate say of a block.
use Rattle.std.specs.Prelude.{ℕ, ◌<◌, List, [], length, map, get_or}
use Rattle.std.specs.Global.{Vec}
use Rattle.definitions.specs.Table.{Database}
use Rattle.definitions.specs.Queries.BoundBlock.{Block}
use Rattle.definitions.specs.Estimates.Version.{Version}
use Rattle.access_paths.specs.Found.{FoundPath}
use Rattle.plan_space.specs.PathListed.{listed_path_of, AreListed}
use Rattle.plan_space.specs.declared.path_lists.NumberedPath.{NumberedPath}
use Rattle.plan_space.specs.declared.path_lists.BlockPaths.{BlockPaths}

abbrev pub tables_in : BlockPaths → ℕ
tables_in p = length p.tables.items

abbrev pub paths_at : BlockPaths → ℕ → List (FoundPath × ℕ)
paths_at p table = get_or (map (λ (xs : Vec NumberedPath). map listed_path_of xs.items) p.tables.items) table []

-- of each table they are its paths
abbrev pub AreBlockPaths : Version → Database → Block → BlockPaths → Type 0
AreBlockPaths version db block p = (table : ℕ) → table < tables_in p
    → AreListed version db block table (paths_at p table)
