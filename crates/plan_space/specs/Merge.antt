-- The merges that bring a table on top of plans on a set of tables, with what they add to the plans' costs.
use Rattle.std.specs.Prelude.{ℕ, ◌+◌, ◌≡◌, ◌≢◌, ◌⊎◌, if◌then◌else◌, List, [], ◌∷◌, AllPairs, Contains, slice_get}
use Rattle.std.specs.List.{AllByRecursion}
use Rattle.definitions.specs.Plans.TableSet.{TableSet, Has, no_tables}
use Rattle.definitions.specs.Plans.Order.{BlockColumn}
use Rattle.definitions.specs.Plans.Path.{Path, table_of}
use Rattle.definitions.specs.Plans.Plan.{Inner}
use Rattle.definitions.specs.Plans.Space.{Space}
use Rattle.definitions.specs.Plans.PlanSpace.{IsMergeConjunct, IsInner}
use Rattle.definitions.specs.Plans.Cost.{saturated, share, selectivity_of, inner_cost, merge_cost}
use Rattle.definitions.specs.Estimates.BlockTables.{has}

-- a conjunct, an inner side and what the merge adds to the cost of the outer plan
pub record Merge : Type 0 where
  pub conjunct : ℕ
  pub inner : Inner
  pub cost : ℕ

-- a merge, the table that the outer plan has to have, what the inner side costs, and the share of pairs that the
-- conjunct leaves
pub record FoundMerge : Type 0 where
  pub conjunct : ℕ
  pub other : ℕ
  pub inner : Inner
  pub cost : ℕ
  pub selectivity : ℕ

-- no two found merges are of one conjunct and one inner side
abbrev pub AreDistinct : List FoundMerge → Type 0
AreDistinct xs = AllPairs (λ (a b : FoundMerge). a.conjunct ≡ b.conjunct → a.inner ≢ b.inner) xs

abbrev pub with_pairs : ℕ → FoundMerge → Merge
with_pairs pairs x =
    record { conjunct = x.conjunct; inner = x.inner; cost = saturated (x.cost + share pairs x.selectivity) }

-- of found merges those whose other table is in a set, of so many pairs of rows
abbrev pub open_merges : TableSet → ℕ → List FoundMerge → List Merge
open_merges tables pairs [] = []
open_merges tables pairs (x ∷ xs) = if has tables x.other then with_pairs pairs x
    ∷ open_merges tables pairs xs else open_merges tables pairs xs

module _ (space : Space) where
  -- a conjunct by which a table can be merged with a set, and an inner side for it
  abbrev pub IsMerge : TableSet → ℕ → ℕ → Inner → Type 0
  IsMerge tables table number inner = (table_of inner.path ≡ table)
      × ((x : BlockColumn) × (y : BlockColumn) × IsMergeConjunct space number x y × Has tables x.table
      × (y.table ≡ table) × IsInner space y inner)

  -- what stands beside a merge is what it costs
  pub record IsMergeItem (tables : TableSet) (table : ℕ) (item : Merge) : Type 0 where
    pub is_merge : IsMerge tables table item.conjunct item.inner
    pub cost : item.cost ≡ merge_cost space tables item.conjunct item.inner

  -- all merges that bring a table, each once and with its cost
  pub record AreMerges (tables : TableSet) (table : ℕ) (items : List Merge) : Type 0 where
    pub each : AllByRecursion (IsMergeItem tables table) items
    pub all : (number : ℕ) (inner : Inner) → IsMerge tables table number inner
        → Contains items (record { conjunct = number; inner = inner; cost = merge_cost space tables number inner })
    -- no two are of one conjunct and one inner side
    pub distinct : AllPairs (λ (a b : Merge). a.conjunct ≡ b.conjunct → a.inner ≢ b.inner) items

  -- ---- found merges

  -- a conjunct merges a table, whose column it is, with another
  abbrev pub MergesBy : ℕ → ℕ → BlockColumn → BlockColumn → Type 0
  MergesBy table number x y = IsMergeConjunct space number x y × (y.table ≡ table)

  abbrev pub found : ℕ → ℕ → Inner → FoundMerge
  found number other inner =
      record {
        conjunct = number;
        other = other;
        inner = inner;
        cost = inner_cost space inner;
        selectivity =
            selectivity_of (slice_get space.conjuncts number);
      }

  pub record IsFound (table : ℕ) (x : FoundMerge) : Type 0 where
    pub reads : table_of x.inner.path ≡ table
    pub merges : (a : BlockColumn) × (b : BlockColumn) × MergesBy table x.conjunct a b × (a.table ≡ x.other)
        × IsInner space b x.inner
    pub exact : x ≡ found x.conjunct x.other x.inner

  -- the merges of a conjunct with paths of which something holds are there
  abbrev pub HasMerges : (Path → Type 0) → ℕ → ℕ → List FoundMerge → Type 0
  HasMerges Of table number xs = (inner : Inner) (x y : BlockColumn) → MergesBy table number x y
      → table_of inner.path ≡ table → Of inner.path
      → IsInner space y inner → Contains xs (found number x.table inner)

  -- no path of the table alone is listed twice
  abbrev pub ListsPathsOnce : ℕ → Type 0
  ListsPathsOnce table = AllPairs (λ (a b : Path). a ≢ b) (space.paths no_tables table)

  -- found merges are added and none is lost
  pub record IsGrown (table : ℕ) (old new : List FoundMerge) : Type 0 where
    pub kept : (x : FoundMerge) → Contains old x → Contains new x
    pub right : AllByRecursion (IsFound table) old → AllByRecursion (IsFound table) new

  -- those of a conjunct with one path, each once, and those with any path
  pub record AddsPath (table number : ℕ) (path : Path) (old new : List FoundMerge) : Type 0 where
    pub grown : IsGrown table old new
    pub there : HasMerges (λ other. other ≡ path) table number new
    pub added : (x : FoundMerge) → Contains new x → Contains old x ⊎ ((x.conjunct ≡ number) × (x.inner.path ≡ path))
    pub distinct : AreDistinct old
        → ((x : FoundMerge) → Contains old x → x.conjunct ≡ number → x.inner.path ≢ path) → AreDistinct new

  pub record AddsMerges (table number : ℕ) (old new : List FoundMerge) : Type 0 where
    pub grown : IsGrown table old new
    pub there : (inner : Inner) (x y : BlockColumn) → MergesBy table number x y → table_of inner.path ≡ table
        → IsInner space y inner
        → Contains new (found number x.table inner)
    pub added : (x : FoundMerge) → Contains new x → Contains old x ⊎ (x.conjunct ≡ number)
    pub distinct : AreDistinct old → ((x : FoundMerge) → Contains old x → x.conjunct ≢ number) → AreDistinct new
