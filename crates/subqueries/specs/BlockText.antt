-- The values in the text of a block, as code lends them.
use Rattle.std.specs.Prelude.{ℕ, ◌≤◌, List, [], ◌∷◌, ⊤, map}
use Rattle.definitions.specs.Queries.BoundBlock as b
use Rattle.query_tree.specs.Bound.{item_of}
use Rattle.query_tree.specs.declared.block.Item.{Item}

-- of result columns
abbrev pub item_values : List Item → List b.ValueExpr
item_values items = map (λ (i : b.Item). i.value) (map item_of items)

-- numbers that never fall
abbrev pub Rising : List ℕ → Type 0
Rising [] = ⊤
Rising (n ∷ []) = ⊤
Rising (n ∷ m ∷ ms) = (n ≤ m) × Rising (m ∷ ms)
