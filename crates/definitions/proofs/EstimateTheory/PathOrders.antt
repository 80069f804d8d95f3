-- The number of a path's order stands for that order.
use Rattle.std.proofs.Common.{◌≡◌, ℕ, ◌<◌, ◌⊎◌, inl, inr, sym, ap, List, [], ◌∷◌, ◌++◌, Bool, arith, length}
use Rattle.std.proofs.lemmas.List.Elements.{Contains-append_right}
use Rattle.std.specs.Prelude.{Contains, flat_map, map}
use Rattle.std.specs.List.{range_with_len}
use Rattle.definitions.specs.Plans.TableSet.{TableSet}
use Rattle.definitions.specs.Plans.Order.{Order}
use Rattle.definitions.specs.Plans.Path.{Path, SegmentScan, IndexScan, MatchingScan}
use Rattle.definitions.specs.Plans.Space.{order_at}
use Rattle.definitions.specs.Plans.Numbering.{merge_orders}
use Rattle.definitions.specs.Table.{Database}
use Rattle.definitions.specs.Queries.BoundBlock.{Block}
use Rattle.definitions.specs.Estimates.BlockTables.{index_columns}
use Rattle.definitions.specs.Estimates.PlanConjuncts.{plan_conjuncts}
use Rattle.definitions.specs.Estimates.Version.{Version, directions}
use Rattle.definitions.specs.Estimates.Orders.{required_of, index_order, indexes_at, table_orders, index_orders, orders_of, order_of_path}
use Rattle.definitions.specs.Estimates.Paths.{matching_lists, index_paths, paths_of}
use Rattle.definitions.specs.Estimates.BlockSpace.{space_of}
use Rattle.definitions.proofs.PlanTheory.Elements.{first_is, later, first_or_rest}
use Rattle.definitions.proofs.PlanTheory.Numbers.{has_its_number}
use Rattle.definitions.proofs.EstimateTheory.Members.{mapped, was_mapped, flattened, was_flattened, in_range}

module _ (version : Version) (db : Database) (block : Block) where
  -- of a path by an index of the table the index is known, and the direction is one of the version's
  abbrev IsBy : ℕ → Path → Type 0
  IsBy table path = (number : ℕ) × (backward : Bool) × Contains (indexes_at version db block table) number × Contains (directions version) backward
      × (order_of_path db block path ≡ index_order db block table number backward)

  one_direction : (tables : TableSet) (table number : ℕ) (backward : Bool) (path : Path)
      → Contains (IndexScan table number backward ∷ map (λ conjuncts. MatchingScan table number conjuncts backward) (matching_lists block tables table (index_columns db block table number))) path
      → order_of_path db block path ≡ index_order db block table number backward
  one_direction tables table number backward path there = of_cases (first_or_rest (IndexScan table number backward) matches path there)
    where
      matches : List Path
      matches = map (λ conjuncts. MatchingScan table number conjuncts backward) (matching_lists block tables table (index_columns db block table number))

      of_match : (conjuncts : List ℕ) × Contains (matching_lists block tables table (index_columns db block table number)) conjuncts × (MatchingScan table number conjuncts backward ≡ path)
          → order_of_path db block path ≡ index_order db block table number backward
      of_match (conjuncts, among, is) = ap (order_of_path db block) (sym is)

      of_cases : (IndexScan table number backward ≡ path) ⊎ Contains matches path → order_of_path db block path ≡ index_order db block table number backward
      of_cases (inl is) = ap (order_of_path db block) (sym is)
      of_cases (inr r) = of_match (was_mapped (λ conjuncts. MatchingScan table number conjuncts backward) (matching_lists block tables table (index_columns db block table number)) path r)

  by_index : (tables : TableSet) (table : ℕ) (path : Path) → Contains (flat_map (index_paths version db block tables table) (indexes_at version db block table)) path → IsBy table path
  by_index tables table path there =
      let of_index = was_flattened (index_paths version db block tables table) (indexes_at version db block table) path there in
      let of_direction = was_flattened (λ backward. IndexScan table of_index.0 backward ∷ map (λ conjuncts. MatchingScan table of_index.0 conjuncts backward) (matching_lists block tables table (index_columns db block table of_index.0)))
      (directions version) path of_index.2 in
      (of_index.0, of_direction.0, of_index.1, of_direction.1, one_direction tables table of_index.0 of_direction.0 path of_direction.2)

  abbrev put_in : List Order
  put_in = [] ∷ required_of block ∷ merge_orders (plan_conjuncts db block) ++ index_orders version db block

  put_in_by : (table : ℕ) (path : Path) → table < length block.tables → IsBy table path → Contains put_in (order_of_path db block path)
  put_in_by table path lt (number, backward, known, direction, is) =
      let order : Order = index_order db block table number backward in
      let of_table : Contains (table_orders version db block table) order =
      flattened (λ n. map (index_order db block table n) (directions version)) (indexes_at version db block table) number order known
      (mapped (index_order db block table number) (directions version) backward direction) in
      let of_indexes : Contains (index_orders version db block) order =
      flattened (table_orders version db block) (range_with_len 0 (length block.tables)) table order (in_range 0 (length block.tables) table (omega arith) (omega (arith, lt))) of_table in
      let behind : List Order = merge_orders (plan_conjuncts db block) ++ index_orders version db block in
      rw is (later [] (required_of block ∷ behind) order (later (required_of block) behind order (Contains-append_right (merge_orders (plan_conjuncts db block)) (index_orders version db block) order of_indexes)))

  put_in_each : (tables : TableSet) (table : ℕ) (path : Path) → table < length block.tables → Contains (paths_of version db block tables table) path → Contains put_in (order_of_path db block path)
  put_in_each tables table path lt there = of_cases (first_or_rest (SegmentScan table) (flat_map (index_paths version db block tables table) (indexes_at version db block table)) path there)
    where
      of_cases : (SegmentScan table ≡ path) ⊎ Contains (flat_map (index_paths version db block tables table) (indexes_at version db block table)) path → Contains put_in (order_of_path db block path)
      of_cases (inl is) = first_is [] (required_of block ∷ merge_orders (plan_conjuncts db block) ++ index_orders version db block) (order_of_path db block path) (ap (order_of_path db block) is)
      of_cases (inr r) = put_in_by table path lt (by_index tables table path r)

  pub path_order_numbered : (tables : TableSet) (table : ℕ) (path : Path) → table < length block.tables → Contains (paths_of version db block tables table) path
      → ((space_of version db block).path_order path < length (orders_of version db block)) × (order_at (space_of version db block) ((space_of version db block).path_order path) ≡ order_of_path db block path)
  path_order_numbered tables table path lt there = has_its_number put_in (order_of_path db block path) (put_in_each tables table path lt there)
