-- The rows that a block makes of the combinations that its WHERE keeps.
use Rattle.std.specs.Prelude.{ℕ, ◌≡◌, Bool, true, false, is_some, List, [], Contains, map}
use Rattle.std.specs.List.{list_all}
use Rattle.definitions.specs.Table.{Row}
use Rattle.definitions.specs.Arithmetic as arithmetic
use Rattle.definitions.specs.Arithmetic.{Meaning}
use Rattle.definitions.specs.Estimates.Orders.{sort_key}
use Rattle.definitions.specs.Queries.BoundBlock.{Block}
use Rattle.definitions.specs.Queries.Conjuncts.{is_empty}
use Rattle.definitions.specs.Queries.Evaluation.{Combination}
use Rattle.definitions.specs.Queries.Answer.{is_grouped}
use Rattle.definitions_answers.specs.GroupRows.{group_raises, group_rows}
use Rattle.definitions_answers.specs.Plain.{kept_of, late_raises}
use Rattle.definitions_answers.specs.PlainRows.{plain_raises, plain_row}
use Rattle.filters.specs.Sources.{BlockSource, block_in, context_in}
use Rattle.block_answers.specs.Cut.{AreAllGroups}
use Rattle.block_answers.specs.Groups.{AreWell, TellGroups}
use Rattle.result_rows.specs.Stores.{Holds, Tells}
use Rattle.block_answers.specs.Telling.{context_with, names_of}
use Rattle.block_answers.specs.declared.block_rows.BlockRows.{BlockRows}
use Rattle.block_answers.specs.declared.block_rows.BlockRows.TheVariants as rows
use Rattle.result_rows.specs.declared.row_store.RowStore.{RowStore}

-- the rows of a block come in the order of ORDER BY
abbrev pub comes_in_order_by : (grouped : Bool) → Block → Bool
comes_in_order_by true b = is_empty b.order
comes_in_order_by false b = list_all (λ key. is_some (sort_key b.items key)) b.order

abbrev pub comes_in_order : Block → Bool
comes_in_order b = comes_in_order_by (is_grouped b) b

abbrev pub store_in : BlockRows → RowStore
store_in (rows.Plain told) = told.store
store_in (rows.Grouped told) = told.value.groups.rows

module _ (source : BlockSource) (outer : List Combination) where
  -- they tell of combinations
  abbrev pub TellsOf : List Combination → BlockRows → Type 0
  TellsOf cs (rows.Plain told) =
      Tells (names_of source) (map (plain_row (context_in source outer) (block_in source)) cs)
      (plain_raises (context_in source outer) (block_in source) cs) told
  TellsOf cs (rows.Grouped told) = TellGroups source outer cs told.value

  -- they are of the block's kind, and what is kept of an open group is right
  abbrev pub IsWellFor : BlockRows → Type 0
  IsWellFor (rows.Plain told) = is_grouped (block_in source) ≡ false
  IsWellFor (rows.Grouped told) = (is_grouped (block_in source) ≡ true) × AreWell source outer told.value

  -- the rows of all combinations, or of all groups of them, where nothing raises
  abbrev pub AreRowsBy : (grouped : Bool) → List Combination → List Row → Type 0
  AreRowsBy false cs rs = (plain_raises (context_in source outer) (block_in source) cs ≡ [])
      × (rs ≡ map (plain_row (context_in source outer) (block_in source)) cs)
  AreRowsBy true cs rs =
      (groups : List (List Combination)) × AreAllGroups (block_in source).groups cs groups
      × (group_raises (context_in source outer) (block_in source) groups ≡ [])
      × (rs ≡ group_rows (context_in source outer) (block_in source) groups)

  abbrev pub HasRowsOf : List Combination → RowStore → Type 0
  HasRowsOf cs store = (rs : List Row) × AreRowsBy (is_grouped (block_in source)) cs rs
      × Holds store (names_of source) rs

  -- or something raises
  abbrev pub MayRaiseBy : (grouped : Bool) → List Combination → arithmetic.Raise → Type 0
  MayRaiseBy false cs raise = Contains (plain_raises (context_in source outer) (block_in source) cs) raise
  MayRaiseBy true cs raise = (groups : List (List Combination)) × AreAllGroups (block_in source).groups cs groups
      × Contains (group_raises (context_in source outer) (block_in source) groups) raise

  abbrev pub MayRaiseOn : List Combination → arithmetic.Raise → Type 0
  MayRaiseOn cs raise = MayRaiseBy (is_grouped (block_in source)) cs raise

  -- they tell of combinations on which no late conjunct raises, by what inner blocks mean
  pub record HaveTaken (inner : ℕ → List Combination
      → Meaning (List Row)) (cs : List Combination) (block_rows : BlockRows) : Type 0 where
    pub quiet : late_raises (context_with source outer inner) (block_in source) cs ≡ []
    pub told : TellsOf (kept_of (context_with source outer inner) (block_in source) cs) block_rows
