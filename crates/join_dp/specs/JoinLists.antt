-- Lists of the joins on top of plans of sets of tables.
use Rattle.std.specs.Prelude.{ℕ, ◌+◌, ◌^◌, ◌<◌, ◌≤◌, ◌≡◌, ◌≢◌, ◌⊎◌, Option, Some, None, List, [], ◌∷◌, ◌++◌, length, get_or, map, nat_lt, if◌then◌else◌}
use Rattle.definitions.specs.Estimates.BlockTables.{has}
use Rattle.definitions.specs.Plans.TableSet.{TableSet}
use Rattle.definitions.specs.Plans.Order.{OrderNumber}
use Rattle.definitions.specs.Plans.Path.{Path, SegmentScan}
use Rattle.definitions.specs.Plans.Plan.{Inner}
use Rattle.definitions.specs.Plans.Space.{Space}
use Rattle.definitions.specs.Plans.Cost.{limit}
use Rattle.plan_space.specs.Merge.{Merge as CostedMerge, AreMerges}
use Rattle.plan_space.specs.Relation.{IsRelation}
use Rattle.plan_space.specs.declared.join_relation.JoinRelation.{JoinRelation}
use Rattle.plan_tree.specs.Sets.{set_of}
use Rattle.plan_tree.specs.declared.cost.Cost.{Cost}
use Rattle.join_dp.specs.Costs.{unknown}
use Rattle.join_dp.specs.Counting.{AreCounts, most_joins}
use Rattle.join_dp.specs.Joining.{CanJoin, join_cost, IsJoin, GoesWith, IsAdded}
use Rattle.join_dp.specs.Steps.{Join, Loop, Merge, table_in}
use Rattle.join_dp.specs.Views.{Added, added_of}
use Rattle.join_dp.specs.declared.join_lists.Places.{Places}
use Rattle.join_dp.specs.declared.join_lists.JoinLists.{JoinLists}

-- what a join adds that is known, above every cost where there is none
abbrev pub known_cost : Option Cost → ℕ
known_cost None = unknown
known_cost (Some cost) = cost.number

abbrev pub added_at : List Added → ℕ → Added
added_at joins place = get_or joins place (record { table = 0; join = Loop (SegmentScan 0); cost = 0 })

-- one of the joins from a place to another merges the table by the conjunct, and adds so much at most
pub record MergesFor (joins : List Added) (start end table number most : ℕ) : Type 0 where
  pub place : ℕ
  pub from : start ≤ place
  pub before : place < end
  pub with : (added_at joins place).table ≡ table
  pub by : (inner : Inner) × ((added_at joins place).join ≡ Merge number inner)
  pub least : (added_at joins place).cost ≤ most

module _ (space : Space) (joins : List Added) (tables : TableSet) (start end : ℕ) where
  -- each of the joins from a place to another is one, with what it adds
  abbrev pub AreAdded : Type 0
  AreAdded = (place : ℕ) → start ≤ place → place < end
      → IsAdded space tables (added_at joins place).table (added_at joins place).join (added_at joins place).cost

  -- one of them goes with the order, brings the same table and adds no more
  abbrev pub Covers : OrderNumber → Join → Type 0
  Covers order join = (place : ℕ) × (start ≤ place) × (place < end) × ((added_at joins place).table ≡ table_in join)
      × GoesWith space tables order (added_at joins place).table (added_at joins place).join
      × ((added_at joins place).cost ≤ join_cost space tables join)

  -- they are the joins with a table that plans need
  pub record AreJoinsWith (table : ℕ) : Type 0 where
    pub rising : start ≤ end
    pub each : AreAdded
    pub all : (order : OrderNumber) (join : Join) → table_in join ≡ table → CanJoin space tables order join → Covers order join
    pub few : (sorts : TableSet → ℕ) (counts : TableSet → ℕ → ℕ) → AreCounts space sorts counts
        → end ≤ start + (if has tables table then 0 else counts tables table)

  -- the cheapest loop over the table, which adds so much, or none where there is none
  pub record AreLoops (table known : ℕ) : Type 0 where
    pub rising : start ≤ end
    pub each : AreAdded
    pub least : (path : Path) → IsJoin space tables table (Loop path) → known ≤ join_cost space tables (Loop path)
    pub stands : known ≤ limit → (place : ℕ) × (start ≤ place) × (place < end) × ((added_at joins place).table ≡ table)
        × ((order : OrderNumber) → GoesWith space tables order table (added_at joins place).join)
        × ((added_at joins place).cost ≡ known)
    pub few : end ≤ start + length (space.paths tables table)

  -- the merges with the table that add less, or one by the same conjunct that adds no more
  pub record AreMergesBelow (table known : ℕ) : Type 0 where
    pub rising : start ≤ end
    pub each : AreAdded
    pub all : (number : ℕ) (inner : Inner) → IsJoin space tables table (Merge number inner)
        → join_cost space tables (Merge number inner) < known
        → MergesFor joins start end table number (join_cost space tables (Merge number inner))
    pub few : (merges : List CostedMerge) × AreMerges space tables table merges × (end ≤ start + length merges)

  -- with the first tables, so many
  pub record AreJoins (count : ℕ) : Type 0 where
    pub rising : start ≤ end
    pub within : end ≤ length joins
    pub each : AreAdded
    pub all : (order : OrderNumber) (join : Join) → table_in join < count → CanJoin space tables order join → Covers order join
    pub few : (sorts : TableSet → ℕ) (counts : TableSet → ℕ → ℕ) → AreCounts space sorts counts
        → end ≤ start + most_joins space sorts counts tables count

-- joins were put behind those that stood there
pub record IsLonger (old new : List Added) : Type 0 where
  pub longer : length old ≤ length new
  pub kept : (place : ℕ) → place < length old → added_at new place ≡ added_at old place

-- ---- the best merge of a conjunct

abbrev pub listed_merge : ℕ → CostedMerge → Added
listed_merge table merge =
    record { table = table; join = Merge merge.conjunct merge.inner; cost = merge.cost }

-- the one that adds less, the first where both add the same
abbrev pub less_dear : CostedMerge → CostedMerge → CostedMerge
less_dear best item = if nat_lt item.cost best.cost then item else best

-- the best merge so far and one more: of one conjunct the cheaper one goes on, of another the best one is listed
abbrev pub IsBest : ℕ → Option CostedMerge → CostedMerge → List Added → CostedMerge → List Added → Type 0
IsBest table None item old next new = (next ≡ item) × (new ≡ old)
IsBest table (Some best) item old next new =
    ((best.conjunct ≡ item.conjunct) × (next ≡ less_dear best item) × (new ≡ old))
    ⊎ ((best.conjunct ≢ item.conjunct) × (next ≡ item) × (new ≡ old ++ listed_merge table best ∷ []))

abbrev pub joins_in : JoinLists → List Added
joins_in lists = map added_of lists.joins.items

-- where the joins of a set stand
abbrev pub Stand : JoinLists → TableSet → Places → Type 0
Stand lists tables places = get_or lists.places.items tables None ≡ Some places

abbrev pub IsListed : JoinLists → TableSet → Type 0
IsListed lists tables = (places : Places) × Stand lists tables places

-- 1 where they are listed
abbrev pub one_if : Option Places → ℕ
one_if None = 0
one_if (Some places) = 1

abbrev pub listed_in : JoinLists → TableSet → ℕ
listed_in lists tables = one_if (get_or lists.places.items tables None)

-- the relation of a set stands at a place
abbrev pub IsRelationAt : Space → List JoinRelation → ℕ → TableSet → Type 0
IsRelationAt space relations place tables = (place < length relations)
    × ((r : JoinRelation) → r ≡ get_or relations place r → IsRelation space r × (set_of r.tables ≡ tables))

pub record AreLists (space : Space) (lists : JoinLists) : Type 0 where
  pub sets : length lists.places.items ≡ 2 ^ space.table_count
  pub each : (tables : TableSet) (places : Places) → Stand lists tables places
      → AreJoins space (joins_in lists) tables places.start places.end space.table_count
  pub relations : (tables : TableSet) (places : Places) → Stand lists tables places
      → IsRelationAt space lists.relations.items places.relation tables
