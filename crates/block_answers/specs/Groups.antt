-- What is kept of the groups of a block while its rows come.
use Rattle.std.specs.Prelude.{◌≡◌, ⊤, Bool, false, List, [], ◌∷◌, ◌++◌, Option, Some, None, Contains, flat_map, length}
use Rattle.std.specs.Prelude.{map}
use Rattle.std.specs.List.{AllByRecursion}
use Rattle.definitions.specs.Arithmetic as arithmetic
use Rattle.definitions.specs.Plans.Order.{BlockColumn}
use Rattle.definitions.specs.Queries.Combinations.{at}
use Rattle.definitions.specs.Queries.Evaluation.{Combination, Environment}
use Rattle.definitions_execution.specs.OfBlock.{combination_of}
use Rattle.definitions_execution.specs.TypedCombinations.{IsTypedCombination}
use Rattle.definitions_answers.specs.Groups.{in_one_group}
use Rattle.definitions_answers.specs.GroupRows.{group_raises, group_rows}
use Rattle.sqlvalue.specs.Raises.{raise_of}
use Rattle.sqlvalue.specs.declared.raise.Raise.{Raise}
use Rattle.filters.specs.Composites.{numbers_in}
use Rattle.filters.specs.declared.composite.Composite as code
use Rattle.filters.specs.Sources.{BlockSource, block_in, context_in}
use Rattle.grouping.specs.Functions.{argument_raises}
use Rattle.grouping.specs.Groups.{functions_of, AreOf}
use Rattle.block_answers.specs.Cut.{AreAllGroups, IsCutInto}
use Rattle.result_rows.specs.Stores.{Holds}
use Rattle.block_answers.specs.Telling.{names_of}
use Rattle.block_answers.specs.declared.group_rows.GroupRows.{GroupRows}
use Rattle.block_answers.specs.declared.group_rows.Groups.{Groups}
use Rattle.block_answers.specs.declared.group_rows.OpenGroup.{OpenGroup}
use Rattle.result_rows.specs.declared.row_store.RowStore.{RowStore}

module _ (source : BlockSource) (outer : List Combination) where
  -- the combination of a composite
  abbrev pub seen : code.Composite → Combination
  seen composite =
      combination_of source.database (block_in source) (numbers_in (length (block_in source).tables) composite)

  abbrev pub environments : List Combination → List Environment
  environments cs = map (at (context_in source outer)) cs

  abbrev pub AreTyped : List Combination → Type 0
  AreTyped cs = AllByRecursion (IsTypedCombination source.database (block_in source)) cs

  -- an open group has these members: its functions are of them, and its first row is the first of them, if rows can be
  -- told apart
  pub record IsOpenOf (members : List Combination) (o : OpenGroup) : Type 0 where
    pub values : AreOf (environments members) o.functions
    pub first : (column : BlockColumn) (others : List BlockColumn) → (block_in source).groups ≡ column ∷ others
        → (rest : List Combination) × (members ≡ seen o.first ∷ rest)

  abbrev pub IsOpen : Option (List Combination) → Option OpenGroup → Type 0
  IsOpen None None = ⊤
  IsOpen (Some members) (Some o) = IsOpenOf members o
  IsOpen _ _ = ⊥

  abbrev pub AreTypedIn : Option (List Combination) → Type 0
  AreTypedIn None = ⊤
  AreTypedIn (Some members) = AreTyped members

  -- the functions of an open group are those of the block, of some rows
  pub record HasMembers (o : OpenGroup) : Type 0 where
    pub functions : functions_of o.functions ≡ (block_in source).functions
    pub members : List Combination
    pub typed : AreTyped members
    pub are : IsOpenOf members o

  abbrev pub IsWell : Option OpenGroup → Type 0
  IsWell None = ⊤
  IsWell (Some o) = HasMembers o

  -- a group that just begins with a row, which it has not taken in yet
  pub record HasBegun (composite : code.Composite) (o : OpenGroup) : Type 0 where
    pub first : o.first ≡ composite
    pub functions : functions_of o.functions ≡ (block_in source).functions
    pub values : AreOf [] o.functions

  -- the open group takes a row in
  pub record TakesIn (composite : code.Composite) (o o' : OpenGroup) : Type 0 where
    pub first : o'.first ≡ o.first
    pub functions : functions_of o'.functions ≡ functions_of o.functions
    pub values : (members : List Combination) → AreOf (environments members) o.functions
        → AreOf (environments (members ++ seen composite ∷ [])) o'.functions

  abbrev pub TakeIn : code.Composite → Option OpenGroup → Option OpenGroup → Type 0
  TakeIn composite (Some o) (Some o') = TakesIn composite o o'
  TakeIn composite None None = ⊤
  TakeIn composite _ _ = ⊥

  -- before any row: without GROUP BY a group that begins with whatever row
  abbrev pub IsFirstBy : List BlockColumn → Option OpenGroup → Type 0
  IsFirstBy [] (Some o) = (composite : code.Composite) × HasBegun composite o
  IsFirstBy (column ∷ columns) None = ⊤
  IsFirstBy columns open' = ⊥

  abbrev pub IsFirst : Option OpenGroup → Type 0
  IsFirst open' = IsFirstBy (block_in source).groups open'

  -- whether a row is of the open group
  abbrev pub goes_on : Option OpenGroup → code.Composite → Bool
  goes_on None composite = false
  goes_on (Some o) composite = in_one_group (block_in source).groups (seen o.first) (seen composite)

  -- rows are those of closed groups, in which nothing is raised
  abbrev pub AreRowsOf : List (List Combination) → RowStore → Type 0
  AreRowsOf closed rows = (group_raises (context_in source outer) (block_in source) closed ≡ [])
      × Holds rows (names_of source) (group_rows (context_in source outer) (block_in source) closed)

  -- what arguments raise in the members of the open group
  abbrev pub open_raises : Option (List Combination) → List arithmetic.Raise
  open_raises None = []
  open_raises (Some members) =
      flat_map (λ c. argument_raises (at (context_in source outer) c) (block_in source).functions) members

  -- groups are those of some combinations, in which nothing is raised so far
  abbrev pub AreGroupsOf : List Combination → Groups → Type 0
  AreGroupsOf cs groups =
      (closed : List (List Combination)) × (open' : Option (List Combination))
      × IsCutInto (block_in source).groups cs closed open' × AreRowsOf closed groups.rows × IsOpen open' groups.current

  -- a closed group raises, or an argument in the open one
  abbrev pub MayRaise : List Combination → arithmetic.Raise → Type 0
  MayRaise cs raise =
      (closed : List (List Combination)) × (open' : Option (List Combination))
      × IsCutInto (block_in source).groups cs closed open'
      × Contains (group_raises (context_in source outer) (block_in source) closed ++ open_raises open') raise

  abbrev pub TellBy : Option Raise → List Combination → GroupRows → Type 0
  TellBy None cs told = AreGroupsOf cs told.groups
  TellBy (Some raise) cs told = MayRaise cs (raise_of raise)

  abbrev pub TellGroups : List Combination → GroupRows → Type 0
  TellGroups cs told = TellBy told.raised cs told

  -- nothing was raised, and then the open group is well
  abbrev pub IsWellBy : Option Raise → Option OpenGroup → Type 0
  IsWellBy None open' = IsWell open'
  IsWellBy (Some raise) open' = ⊤

  abbrev pub AreWell : GroupRows → Type 0
  AreWell told = IsWellBy told.raised told.groups.current

  -- at the end: the rows of all groups, where none raises, or what one raises
  abbrev pub AreRowsOfGroups : GroupRows → RowStore → Type 0
  AreRowsOfGroups told rows =
      (cs : List Combination) → AreTyped cs → TellGroups cs told
      → (groups : List (List Combination)) × AreAllGroups (block_in source).groups cs groups × AreRowsOf groups rows

  abbrev pub IsRaiseOfGroups : GroupRows → arithmetic.Raise → Type 0
  IsRaiseOfGroups told raise =
      (cs : List Combination) → AreTyped cs → TellGroups cs told
      → (groups : List (List Combination)) × AreAllGroups (block_in source).groups cs groups
      × Contains (group_raises (context_in source outer) (block_in source) groups) raise
