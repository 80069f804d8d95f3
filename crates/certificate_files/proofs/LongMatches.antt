-- No plan of a block's space matches an index by more conjuncts than an index has columns.
use Rattle.std.proofs.Common.{◌≡◌, refl, subst, ℕ, zero, suc, ◌≤◌, ◌⊎◌, inl, inr, Bool, true, false, lit≤, List, [], ◌∷◌, Option, Some, None, length, map, cond, arith}
use Rattle.std.specs.Prelude.{Contains, flat_map, slice_get, option_map, option_and_then, unwrap_or}
use Rattle.std.specs.List.{AllByRecursion}
use Rattle.definitions.specs.Limits.{most_index_columns}
use Rattle.definitions.specs.Table.{Index, Table, Database}
use Rattle.definitions.specs.Invariant.{IsIndex, IsTable, IsDatabase}
use Rattle.definitions.specs.Queries.BoundBlock.{Block}
use Rattle.definitions.specs.Plans.TableSet.{TableSet}
use Rattle.definitions.specs.Plans.Order.{BlockColumn}
use Rattle.definitions.specs.Plans.Path.{Path, SegmentScan, IndexScan, MatchingScan, table_of}
use Rattle.definitions.specs.Plans.Plan.{Plan, Access, Loop, Merge, Sort}
use Rattle.definitions.specs.Plans.PlanSpace as p
use Rattle.definitions.specs.Plans.PlanSpace.{IsPlan}
use Rattle.definitions.specs.Estimates.Version.{Version, directions}
use Rattle.definitions.specs.Estimates.BlockTables.{index_columns}
use Rattle.definitions.specs.Estimates.BlockSpace.{space_of}
use Rattle.definitions.specs.Estimates.Orders.{indexes_at}
use Rattle.definitions.specs.Estimates.Paths.{equals_at, matching, matching_lists, index_paths, paths_of}
use Rattle.definitions.proofs.PlanTheory.Elements.{first_or_rest, not_in_empty}
use Rattle.definitions.proofs.EstimateTheory.Members.{was_mapped, was_flattened}
use Rattle.certificate.specs.Reads.{IsLongMatch, HasLongMatch}

at_place : {X : Type 0} (P : X → Type 0) (xs : List X) (n : ℕ) (x : X) → AllByRecursion P xs → slice_get xs n ≡ Some x → P x
at_place P [] n x h e = absurd cc
at_place P (y ∷ ys) zero x h e = let same : y ≡ x = cc in rw same at h.0
at_place P (y ∷ ys) (suc n) x h e = at_place P ys n x h.1 e

-- ---- lists of conjuncts

module _ (block : Block) (tables : TableSet) (table : ℕ) where
  lists_short : (columns numbers : List ℕ) → Contains (matching_lists block tables table columns) numbers → length numbers ≤ length columns
  lists_short [] numbers there = absurd (not_in_empty numbers there)
  lists_short (column ∷ columns) numbers there = of_conjunct (lists_short columns) (was_flattened step (matching block tables own) numbers there)
    where
      own : BlockColumn
      own = record { table = table; number = column }

      longer : ℕ → List (List ℕ)
      longer conjunct = cond (equals_at block tables own conjunct) (map (λ others. conjunct ∷ others) (matching_lists block tables table columns)) []

      step : ℕ → List (List ℕ)
      step conjunct = (conjunct ∷ []) ∷ longer conjunct

      of_longer : ((others : List ℕ) → Contains (matching_lists block tables table columns) others → length others ≤ length columns) → (conjunct : ℕ)
          → (others : List ℕ) × Contains (matching_lists block tables table columns) others × (conjunct ∷ others ≡ numbers) → length numbers ≤ suc (length columns)
      of_longer rest conjunct (others, inner, is) = let h = rest others inner in subst (λ (ns : List ℕ). length ns ≤ suc (length columns)) is (omega (arith, h))

      of_test : ((others : List ℕ) → Contains (matching_lists block tables table columns) others → length others ≤ length columns) → (conjunct : ℕ)
          → (b : Bool) → Contains (cond b (map (λ others. conjunct ∷ others) (matching_lists block tables table columns)) []) numbers → length numbers ≤ suc (length columns)
      of_test rest conjunct true h = of_longer rest conjunct (was_mapped (λ others. conjunct ∷ others) (matching_lists block tables table columns) numbers h)
      of_test rest conjunct false h = absurd (not_in_empty numbers h)

      of_cases : ((others : List ℕ) → Contains (matching_lists block tables table columns) others → length others ≤ length columns) → (conjunct : ℕ)
          → (conjunct ∷ [] ≡ numbers) ⊎ Contains (longer conjunct) numbers → length numbers ≤ suc (length columns)
      of_cases rest conjunct (inl is) = subst (λ (ns : List ℕ). length ns ≤ suc (length columns)) is (omega arith)
      of_cases rest conjunct (inr r) = of_test rest conjunct (equals_at block tables own conjunct) r

      of_conjunct : ((others : List ℕ) → Contains (matching_lists block tables table columns) others → length others ≤ length columns)
          → (conjunct : ℕ) × Contains (matching block tables own) conjunct × Contains (step conjunct) numbers → length numbers ≤ suc (length columns)
      of_conjunct rest (conjunct, among, inner) = of_cases rest conjunct (first_or_rest (conjunct ∷ []) (longer conjunct) numbers inner)

-- ---- paths

module _ (db : Database) (block : Block) (valid : IsDatabase db) where
  few_columns : (table number : ℕ) → length (index_columns db block table number) ≤ most_index_columns
  few_columns table number = of_place (slice_get block.tables table)
    where
      of_index : (o : Option Index) → ((i : Index) → o ≡ Some i → length i.columns ≤ most_index_columns) → length (unwrap_or (option_map (λ (i : Index). i.columns) o) []) ≤ most_index_columns
      of_index None h = lit≤ tt
      of_index (Some i) h = h i refl

      of_table : (o : Option Table) → ((t : Table) → o ≡ Some t → IsTable t)
          → length (unwrap_or (option_map (λ (i : Index). i.columns) (option_and_then (λ (t : Table). slice_get t.indexes number) o)) []) ≤ most_index_columns
      of_table None h = lit≤ tt
      of_table (Some t) h = of_index (slice_get t.indexes number) (λ i is. (at_place (IsIndex t) t.indexes number i (h t refl).each_index is).columns)

      of_place : (o : Option ℕ)
          → length (unwrap_or (option_map (λ (i : Index). i.columns) (option_and_then (λ (t : Table). slice_get t.indexes number) (option_and_then (slice_get db) o))) []) ≤ most_index_columns
      of_place None = lit≤ tt
      of_place (Some n) = of_table (slice_get db n) (λ t is. at_place IsTable db n t valid.each is)

  module _ (version : Version) where
    abbrev one_direction : TableSet → ℕ → ℕ → Bool → List Path
    one_direction tables table number backward =
        IndexScan table number backward ∷ map (λ conjuncts. MatchingScan table number conjuncts backward) (matching_lists block tables table (index_columns db block table number))

    by_index : (tables : TableSet) (table number : ℕ) (backward : Bool) (path : Path) → Contains (one_direction tables table number backward) path → IsLongMatch path → ⊥
    by_index tables table number backward path there = of_cases (first_or_rest (IndexScan table number backward) matches path there)
      where
        matches : List Path
        matches = map (λ conjuncts. MatchingScan table number conjuncts backward) (matching_lists block tables table (index_columns db block table number))

        of_match : (numbers : List ℕ) × Contains (matching_lists block tables table (index_columns db block table number)) numbers × (MatchingScan table number numbers backward ≡ path) → IsLongMatch path → ⊥
        of_match (numbers, among, is) =
            let short = lists_short block tables table (index_columns db block table number) numbers among in
            let few = few_columns table number in
            subst (λ (q : Path). IsLongMatch q → ⊥) is (λ long. absurd (omega (arith, short, few, long)))

        of_cases : (IndexScan table number backward ≡ path) ⊎ Contains matches path → IsLongMatch path → ⊥
        of_cases (inl is) = subst (λ (q : Path). IsLongMatch q → ⊥) is (λ long. long)
        of_cases (inr r) = of_match (was_mapped (λ conjuncts. MatchingScan table number conjuncts backward) (matching_lists block tables table (index_columns db block table number)) path r)

    no_long_path : (tables : TableSet) (table : ℕ) (path : Path) → Contains (paths_of version db block tables table) path → IsLongMatch path → ⊥
    no_long_path tables table path there = of_cases (first_or_rest (SegmentScan table) by_indexes path there)
      where
        by_indexes : List Path
        by_indexes = flat_map (index_paths version db block tables table) (indexes_at version db block table)

        of_direction : (number : ℕ) → (backward : Bool) × Contains (directions version) backward × Contains (one_direction tables table number backward) path → IsLongMatch path → ⊥
        of_direction number (backward, direction, inner) = by_index tables table number backward path inner

        of_index : (number : ℕ) × Contains (indexes_at version db block table) number × Contains (index_paths version db block tables table number) path → IsLongMatch path → ⊥
        of_index (number, known, inner) = of_direction number (was_flattened (one_direction tables table number) (directions version) path inner)

        of_cases : (SegmentScan table ≡ path) ⊎ Contains by_indexes path → IsLongMatch path → ⊥
        of_cases (inl is) = subst (λ (q : Path). IsLongMatch q → ⊥) is (λ long. long)
        of_cases (inr r) = of_index (was_flattened (index_paths version db block tables table) (indexes_at version db block table) path r)

    -- ---- plans

    pub no_long_plan : (plan : Plan) → IsPlan (space_of version db block) plan → HasLongMatch plan → ⊥
    no_long_plan (Access path) (p.access own_path lt among) long = no_long_path _ (table_of path) path among long
    no_long_plan (Loop outer path) (p.loop outer' path' planned can) (inl long) = no_long_plan outer planned long
    no_long_plan (Loop outer path) (p.loop outer' path' planned can) (inr long) = no_long_path _ (table_of path) path can.1 long
    no_long_plan (Merge outer conjunct inner) (p.merge outer' conjunct' inner' planned can) (inl long) = no_long_plan outer planned long
    no_long_plan (Merge outer conjunct inner) (p.merge outer' conjunct' inner' planned can) (inr long) = no_long_path _ (table_of inner.path) inner.path can.1.6.0 long
    no_long_plan (Sort input order) (p.sort input' order' planned can) long = no_long_plan input planned long
