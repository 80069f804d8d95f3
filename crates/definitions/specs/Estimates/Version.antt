-- The three versions of the plan space (own). A certificate names the one that it speaks of.
use Rattle.std.specs.Prelude.{Bool, true, false, List, [], ◌∷◌}

-- the first: indexes on one column, read forward, products of tables last; the second: indexes on several columns too,
-- also read backward; the third: products at any point
pub data Version : Type 0 where
  One Two Three : Version

abbrev pub has_free_products : Version → Bool
has_free_products Three = true
has_free_products _ = false

-- how an index may be read: forward, which is not backward, and backward
abbrev pub directions : Version → List Bool
directions One = false ∷ []
directions _ = false ∷ true ∷ []

-- the one that SELECT and EXPLAIN go by
abbrev pub current_version : Version
current_version = Three
