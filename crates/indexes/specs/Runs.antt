-- What an index keeps.
use Rattle.std.specs.Prelude.{ℕ, suc, ◌≡◌, List, [], ◌∷◌, length}
use Rattle.definitions.specs.Value.{SqlType}
use Rattle.definitions.specs.Key.{distinct_keys, full_keys}
use Rattle.definitions.specs.IndexRun.{Entry, AreRising, keys_of}
use Rattle.columns.specs.Cells.{CellList}
use Rattle.indexes.specs.Keys.{key_in, types_of, AreOfHeight}
use Rattle.indexes.specs.declared.run.KeyRun.TheInside.{Inside}

-- an index: the types of its columns, and its entries in their order
pub record Index : Type 0 where
  pub types : List SqlType
  pub entries : List Entry

-- rows, with the keys that stand in columns from a place on
abbrev pub entries_at : List CellList → ℕ → List ℕ → List Entry
entries_at columns place [] = []
entries_at columns place (row ∷ rows) = record { row = row; key = key_in columns place }
    ∷ entries_at columns (suc place) rows

abbrev pub index_of : Inside → Index
index_of run = record { types = types_of run.columns.items; entries = entries_at run.columns.items 0 run.rows.items }

-- a key for each row, in order, and how many of them differ
pub record IsKeyRun (run : Inside) : Type 0 where
  pub paired : AreOfHeight (length run.rows.items) run.columns.items
  pub rising : AreRising (entries_at run.columns.items 0 run.rows.items)
  pub counted :
      run.key_count ≡ length (distinct_keys (full_keys (keys_of (entries_at run.columns.items 0 run.rows.items))))
