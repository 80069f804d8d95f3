-- What is printed for EXPLAIN (own): for each block of the query, in the order of their numbers, the text of a least
-- plan and its certificate.
use Rattle.std.specs.Prelude.{ℕ, ◌+◌, ◌≡◌, List, [], ◌∷◌, ◌++◌, map, option_map, unwrap_or, slice_get}
use Rattle.definitions.specs.Table.{Index, Table, Database}
use Rattle.definitions.specs.Plans.Exact.{IsCertified}
use Rattle.definitions.specs.Queries.BoundBlock.{Block, Blocks}
use Rattle.definitions.specs.Estimates.Version.{Version}
use Rattle.definitions.specs.Estimates.BlockSpace.{space_of}
use Rattle.definitions.specs.Certificates.CertifiedBlock.{CertifiedBlock}
use Rattle.definitions.specs.Certificates.Spelling.{SpellsSome}

-- the columns of each index of a table, and of a table of the database
abbrev pub columns_of_indexes : Table → List (List ℕ)
columns_of_indexes t = map (λ (i : Index). i.columns) t.indexes

abbrev pub index_columns_at : Database → ℕ → List (List ℕ)
index_columns_at db table = unwrap_or (option_map columns_of_indexes (slice_get db table)) []

-- a block of a query, as a certificate refers to it
abbrev pub certified : Database → ℕ → Block → Version → CertifiedBlock
certified db number block version = record {
  version = version;
  number = number;
  space = space_of version db block;
  indexes = map (index_columns_at db) block.tables;
}

-- all of them, the first having that number
abbrev pub certified_from : Database → ℕ → Blocks → List (Version → CertifiedBlock)
certified_from db number [] = []
certified_from db number (block ∷ blocks) = certified db number block ∷ certified_from db (number + 1) blocks

-- the bytes are the text of a least plan of the block, and of the one certificate that lists every cheaper state,
-- which is valid for it
abbrev pub IsExplained : CertifiedBlock → List ℕ → Type 0
IsExplained block bytes = SpellsSome block bytes (IsCertified block.space)

abbrev pub AreExplained : (current : Version) → List (Version → CertifiedBlock) → List ℕ → Type 0
AreExplained current [] text = text ≡ []
AreExplained current (block ∷ blocks) text =
    (own : List ℕ) × (rest : List ℕ) × IsExplained (block current) own × AreExplained current blocks rest
    × (text ≡ own ++ rest)
