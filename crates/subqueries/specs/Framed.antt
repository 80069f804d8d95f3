-- The combinations of the blocks around, as code keeps them.
use Rattle.std.specs.Prelude.{List, length, map, reverse}
use Rattle.definitions.specs.Queries.Evaluation.{Combination}
use Rattle.definitions_execution.specs.OfBlock.{combination_of}
use Rattle.filters.specs.Composites.{numbers_in}
use Rattle.filters.specs.declared.composite.Composite.{Composite}
use Rattle.filters.specs.Sources.{BlockSource, block_in}
use Rattle.subqueries.specs.declared.frames.Frame.{Frame}
use Rattle.subqueries.specs.declared.frames.Frames.{Frames}

abbrev pub combination_in : BlockSource → Composite → Combination
combination_in source composite =
    combination_of source.database (block_in source) (numbers_in (length (block_in source).tables) composite)

abbrev pub frame_combination : Frame → Combination
frame_combination f =
    combination_of f.source.now.database (block_in f.source.now) f.combination.items

-- the nearest first
abbrev pub combinations_in : {W : Type 0} → Frames W → List Combination
combinations_in f = map frame_combination (reverse f.frames.items)
