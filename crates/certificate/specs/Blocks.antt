-- What the blocks of this crate stand for.
use Rattle.std.specs.Prelude.{ℕ, ◌≡◌, false, None, List, [], length, map, get_or, replicate}
use Rattle.std.specs.Global.{Vec}
use Rattle.definitions.specs.Plans.Conjunct.{Conjunct}
use Rattle.definitions.specs.Plans.Space.{Space}
use Rattle.definitions.specs.Certificates.CertifiedBlock as c
use Rattle.plan_tree.specs.Plans.{orders_in}
use Rattle.plan_tree.specs.Versions.{version_of}
use Rattle.certificate.specs.declared.certified.CertifiedBlock.{CertifiedBlock}

-- the columns of indexes
abbrev pub columns_of : List (Vec ℕ) → List (List ℕ)
columns_of = map (λ (columns : Vec ℕ). columns.items)

abbrev pub columns_in : Vec (Vec ℕ) → List (List ℕ)
columns_in indexes = columns_of indexes.items

abbrev pub indexes_in : CertifiedBlock → List (List (List ℕ))
indexes_in s = map columns_in s.indexes.now

-- what a text of the block refers to
pub record IsOf (block : c.CertifiedBlock) (s : CertifiedBlock) : Type 0 where
  pub version : block.version ≡ version_of s.version
  pub number : block.number ≡ s.number
  pub tables : block.space.table_count ≡ length s.indexes.now
  pub conjuncts : length block.space.conjuncts ≡ s.conjunct_count
  pub orders : block.space.orders ≡ orders_in s.orders.now
  pub indexes : block.indexes ≡ indexes_in s

-- ---- a block that has no more than that

abbrev pub any_conjunct : Conjunct
any_conjunct = record { early = false; tables = 0; equated = None; selectivity = 0 }

abbrev pub space_in : CertifiedBlock → Space
space_in s = record {
  table_count = length s.indexes.now;
  conjuncts = replicate s.conjunct_count any_conjunct;
  required = [];
  orders = orders_in s.orders.now;
  free_products = false;
  paths = λ tables table. [];
  path_order = λ path. 0;
  path_cost = λ tables path. 0;
  cardinality = λ tables. 0;
  sort_cost = λ tables. 0;
}

abbrev pub block_in : CertifiedBlock → c.CertifiedBlock
block_in s = record { version = version_of s.version; number = s.number; space = space_in s; indexes = indexes_in s }

-- the columns of an index of a table
abbrev pub columns_at : CertifiedBlock → ℕ → ℕ → List ℕ
columns_at s table index = get_or (get_or (indexes_in s) table []) index []
