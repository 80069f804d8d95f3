-- What plan and certificate of a block a text spells (own). Blocks, tables, indexes, columns and conjuncts count from 0
-- in the definitions and from 1 in texts; sets of tables, orders and costs are written as they are. In version 1 an
-- index is named by its column.
use Rattle.std.specs.Prelude.{ℕ, ◌+◌, ◌-◌, ◌<◌, ◌≤◌, ◌≡◌, List, length, map, position, unwrap_or, IsSome, All}
use Rattle.definitions.specs.Plans.Order.{OrderNumber}
use Rattle.definitions.specs.Plans.Path.{Path, SegmentScan, IndexScan, MatchingScan}
use Rattle.definitions.specs.Plans.Plan.{Plan, Access, Loop, Merge, Sort}
use Rattle.definitions.specs.Plans.Space.{whole, IsOver}
use Rattle.definitions.specs.Plans.Certificate.{StateCost, Certificate, AreRising}
use Rattle.definitions.specs.Estimates.Version.{Version, One}
use Rattle.definitions.specs.Certificates.CertifiedBlock.{CertifiedBlock, indexes_of, is_on_column}
use Rattle.definitions.specs.Certificates.Text.{Written}
use Rattle.definitions.specs.Certificates.Form.{Says}

-- ---- what the numbers mean

-- of several indexes on one column alone the first is meant
abbrev pub index_meant : Version → List (List ℕ) → ℕ → ℕ
index_meant One indexes column = unwrap_or (position (is_on_column (column - 1)) indexes) 0
index_meant _ indexes index = index - 1

module _ (block : CertifiedBlock) where
  abbrev pub path_meant : Path → Path
  path_meant (SegmentScan table) = SegmentScan (table - 1)
  path_meant (IndexScan table index backward) =
      IndexScan (table - 1) (index_meant block.version (indexes_of block (table - 1)) index) backward
  path_meant (MatchingScan table index conjuncts backward) =
      MatchingScan (table - 1) (index_meant block.version (indexes_of block (table - 1)) index)
      (map (λ number. number - 1) conjuncts) backward

  abbrev pub plan_meant : Plan → Plan
  plan_meant (Access path) = Access (path_meant path)
  plan_meant (Loop outer path) = Loop (plan_meant outer) (path_meant path)
  plan_meant (Merge outer conjunct inner) =
      Merge (plan_meant outer) (conjunct - 1) (record inner { path = path_meant inner.path })
  plan_meant (Sort input order) = Sort (plan_meant input) order

-- ---- numbers that are there

-- one of so many, counted from 1
abbrev pub IsOneOf : ℕ → ℕ → Type 0
IsOneOf count number = (0 < number) × (number ≤ count)

abbrev pub IndexIsThere : Version → List (List ℕ) → ℕ → Type 0
IndexIsThere One indexes column = (0 < column) × IsSome (position (is_on_column (column - 1)) indexes)
IndexIsThere _ indexes index = IsOneOf (length indexes) index

module _ (block : CertifiedBlock) where
  abbrev pub TableIsThere : ℕ → Type 0
  TableIsThere = IsOneOf block.space.table_count

  abbrev pub ConjunctIsThere : ℕ → Type 0
  ConjunctIsThere = IsOneOf (length block.space.conjuncts)

  -- 0 is a number too, that of the empty order
  abbrev pub OrderIsThere : OrderNumber → Type 0
  OrderIsThere order = order < length block.space.orders

  abbrev pub PathIsThere : Path → Type 0
  PathIsThere (SegmentScan table) = TableIsThere table
  PathIsThere (IndexScan table index backward) =
      TableIsThere table × IndexIsThere block.version (indexes_of block (table - 1)) index
  PathIsThere (MatchingScan table index conjuncts backward) =
      TableIsThere table × IndexIsThere block.version (indexes_of block (table - 1)) index
      × All ConjunctIsThere conjuncts

  abbrev pub PlanIsThere : Plan → Type 0
  PlanIsThere (Access path) = PathIsThere path
  PlanIsThere (Loop outer path) = PlanIsThere outer × PathIsThere path
  PlanIsThere (Merge outer conjunct inner) = PlanIsThere outer × ConjunctIsThere conjunct × PathIsThere inner.path
  PlanIsThere (Sort input order) = PlanIsThere input × OrderIsThere order

  -- a set of some of the block's tables, and a numbered order over them
  abbrev pub StateIsThere : StateCost → Type 0
  StateIsThere state =
      (0 < state.tables) × (state.tables ≤ whole block.space) × IsOver block.space state.tables state.order

  abbrev pub AreThere : Written → Type 0
  AreThere said = (said.block ≡ block.number + 1) × PlanIsThere said.plan × All StateIsThere said.certificate.states

-- ---- spelling

-- states rise, and each costs less than the target
abbrev pub AreBelow : Certificate → Type 0
AreBelow certificate =
    AreRising certificate.states × All (λ (state : StateCost). state.cost < certificate.target) certificate.states

-- the bytes spell a plan and a certificate of the block: they have the form, their numbers are there, and that is what
-- they mean
pub record Spells (block : CertifiedBlock) (bytes : List ℕ) (plan : Plan) (certificate : Certificate) : Type 0 where
  pub said : Written
  pub says : Says block.version bytes said
  pub there : AreThere block said
  pub meant : plan ≡ plan_meant block said.plan
  pub as_written : certificate ≡ said.certificate
  pub below : AreBelow said.certificate

-- they spell a plan and a certificate of which that holds
abbrev pub SpellsSome : CertifiedBlock → List ℕ → (Plan → Certificate → Type 0) → Type 0
SpellsSome block bytes Holds =
    (plan : Plan) × (certificate : Certificate) × Spells block bytes plan certificate × Holds plan certificate
