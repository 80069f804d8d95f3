-- Rows of a batch that are of one group.
use Rattle.std.specs.Prelude.{ℕ, ◌≡◌, ◌≤◌, ◌<◌, ◌-◌, ⊤, Bool, true, false, List, [], ◌++◌, Option, Some, None, get_or, map, take, drop}
use Rattle.definitions.specs.Queries.Evaluation.{Combination}
use Rattle.definitions_execution.specs.OfBlock.{combination_of}
use Rattle.definitions_execution.specs.Stored.{Composite}
use Rattle.definitions_answers.specs.Groups.{in_one_group}
use Rattle.filters.specs.Sources.{BlockSource, block_in}
use Rattle.grouping.specs.Groups.{functions_of, AreOf}
use Rattle.block_answers.specs.Groups.{environments, seen}
use Rattle.block_answers.specs.declared.group_rows.OpenGroup.{OpenGroup}

-- those from one place up to another
abbrev pub between : {X : Type 0} → (first end : ℕ) → List X → List X
between first end xs = take (end - first) (drop first xs)

module _ (source : BlockSource) (outer : List Combination) where
  abbrev pub combination_at : Composite → Combination
  combination_at composite = combination_of source.database (block_in source) composite

  abbrev pub combinations_at : List Composite → List Combination
  combinations_at composites = map combination_at composites

  -- a combination is of the open group
  abbrev pub is_in : Option OpenGroup → Combination → Bool
  is_in None c = false
  is_in (Some o) c = in_one_group (block_in source).groups (seen source outer o.first) c

  -- composites from one place up to another are of it
  abbrev pub AreIn : Option OpenGroup → (first end : ℕ) → List Composite → Type 0
  AreIn o first end composites = (place : ℕ) → first ≤ place → place < end
      → is_in o (combination_at (get_or composites place [])) ≡ true

  -- the open group takes rows in
  pub record TakesRun (more : List Combination) (o o' : OpenGroup) : Type 0 where
    pub first : o'.first ≡ o.first
    pub functions : functions_of o'.functions ≡ functions_of o.functions
    pub values : (members : List Combination) → AreOf (environments source outer members) o.functions
        → AreOf (environments source outer (members ++ more)) o'.functions

  abbrev pub TakeRun : List Combination → Option OpenGroup → Option OpenGroup → Type 0
  TakeRun more (Some o) (Some o') = TakesRun more o o'
  TakeRun more None None = ⊤
  TakeRun more _ _ = ⊥
