-- The answer of a bound block: a bag of rows, or exceptions.
use Rattle.std.specs.Prelude.{ℕ, ◌+◌, ◌==◌, Bool, true, false, ◌||◌, not, List, [], ◌∷◌, ◌++◌, Option, Some, None}
use Rattle.std.specs.Prelude.{if◌then◌else◌, map, flat_map, get_or, is_some}
use Rattle.definitions.specs.Value.{Value}
use Rattle.definitions.specs.Table.{Row, Database}
use Rattle.definitions.specs.Arithmetic.{Raise, Meaning, Is, Raises}
use Rattle.definitions.specs.Truth.{Truth, True}
use Rattle.definitions.specs.Queries.BoundBlock.{Condition, Item, Block, Blocks}
use Rattle.definitions.specs.Queries.Conjuncts.{is_empty}
use Rattle.definitions.specs.Queries.Evaluation.{Combination, Environment, on_one, value, truth}
use Rattle.definitions.specs.Queries.Combinations.{Context, at, at_group, is_surely_true, raises_of, raises_of_where}
use Rattle.definitions.specs.Queries.Combinations.{kept}
use Rattle.definitions.specs.Lists.{without_repeats}
use Rattle.definitions.specs.Queries.Grouping.{same_values, groups_of, function_value, results, unless_raised}
use Rattle.definitions.specs.Queries.Grouping.{all_results}

-- a block is grouped where it has GROUP BY, HAVING or a set function (ISO/IEC 9075:1992, 7.8, 7.9)
abbrev pub is_grouped : Block → Bool
is_grouped b = not (is_empty b.groups) || is_some b.having || not (is_empty b.functions)

-- a result row (7.9)
abbrev pub row_at : Environment → List Item → Meaning Row
row_at env items = all_results (map (λ (i : Item). value env i.value) items)

-- the row of a combination, in a block that isn't grouped
abbrev pub row_of_combination : Context → Block → Combination → Meaning (List Row)
row_of_combination context b c = on_one (λ row. row ∷ []) (row_at (at context c) b.items)

-- HAVING over a group; true where there is none (7.8)
abbrev pub having_of : Environment → Option Condition → Meaning Truth
having_of env None = Is True
having_of env (Some c) = truth env c

-- a group's row is made only where HAVING is true of it
abbrev pub chosen_row : Bool → Environment → List Item → List (Meaning Row)
chosen_row true env items = row_at env items ∷ []
chosen_row false env items = []

-- the row of a group, if it has one: set functions and HAVING are evaluated on every group, the result columns where
-- HAVING is true, and what any of them raises may be told (7.8, 7.9; the last is own). The columns of GROUP BY are
-- those of the group's first combination: the others have the same values there
abbrev pub row_of_group : Context → Block → List Combination → Meaning (List Row)
row_of_group context b group =
    let functions : List (Meaning Value) = map (function_value context group) b.functions in
    let env : Environment = at_group context functions (get_or group 0 []) in
    let having : Meaning Truth = having_of env b.having in
    let row : List (Meaning Row) = chosen_row (is_surely_true having) env b.items in
    unless_raised (flat_map raises_of functions ++ raises_of having ++ flat_map raises_of row) (results row)

-- the rows of all combinations that WHERE keeps, or of all groups of them
abbrev pub rows_of_kept : Context → Block → List (Meaning (List Row))
rows_of_kept context b =
    if is_grouped b then map (row_of_group context b) (groups_of b.groups (kept context b))
    else map (row_of_combination context b) (kept context b)

-- SELECT DISTINCT leaves out repeated rows (7.9)
abbrev pub distinct_rows : Bool → List Row → List Row
distinct_rows true rows = without_repeats same_values rows
distinct_rows false rows = rows

-- the answer of a block, as a bag of rows. What WHERE raises comes before all that is made of the combinations that it
-- keeps (own)
abbrev pub answer_after_where : List Raise → Context → Block → Meaning (List Row)
answer_after_where [] context b =
    on_one (λ lists. distinct_rows b.distinct (flat_map (λ rows. rows) lists)) (all_results (rows_of_kept context b))
answer_after_where (r ∷ rs) context b = Raises r rs

abbrev pub block_answer : Context → Block → Meaning (List Row)
block_answer context b = answer_after_where (raises_of_where context b) context b

-- ---- the blocks of a statement

-- what a block means, given the combinations of the blocks around it, the nearest first
abbrev pub BlockMeaning : Type 0
BlockMeaning = List Combination → Meaning (List Row)

-- no such block: it has no rows
abbrev pub no_block : BlockMeaning
no_block outer = Is []

-- of the blocks from a number on, the meaning of the one of a number; a block means what it does by the blocks behind
-- it
abbrev pub meanings : Database → ℕ → Blocks → ℕ → BlockMeaning
meanings db number [] k = no_block
meanings db number (b ∷ bs) k =
    if k == number
    then (λ outer. block_answer (record { database = db; outer = outer; inner = meanings db (number + 1) bs }) b)
    else meanings db (number + 1) bs k

-- the answer of a statement is that of its outermost block
abbrev pub answer : Database → Blocks → Meaning (List Row)
answer db blocks = meanings db 0 blocks 0 []
