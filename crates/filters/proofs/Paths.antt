-- The index of a path is one of its table, and is read from its run.
use Rattle.std.proofs.Common.{◌≡◌, ◌∙◌, refl, sym, ap, subst, ℕ, zero, suc, ◌+◌, ◌<◌, ◌⊎◌, inl, inr, List, [], ◌∷◌, length, map, flat_map, Bool, true, false, Option, Some, None, is_some, true≢false, arith}
use Rattle.std.specs.Prelude.{Contains, slice_get, option_map, option_and_then, unwrap_or}
use Rattle.std.specs.List.{AllByRecursion, cons_option, filter_map, position, range_with_len}
use Rattle.std.proofs.lemmas.Option.{slice_get_within}
use Rattle.std.proofs.lemmas.List.Quantifiers.{position-Some}
use Rattle.definitions.specs.Table.{Table, Index, Database, is_on}
use Rattle.definitions.specs.Key.{key_of}
use Rattle.definitions.specs.IndexRun.{Entry, IsRun}
use Rattle.definitions.specs.Plans.TableSet.{TableSet}
use Rattle.definitions.specs.Plans.Path.{Path, SegmentScan, IndexScan, MatchingScan}
use Rattle.definitions.specs.Queries.BoundBlock.{Block}
use Rattle.definitions.specs.Estimates.BlockTables.{table_at, index_at, index_columns}
use Rattle.definitions.specs.Estimates.Orders.{known_indexes, indexes_at}
use Rattle.definitions.specs.Estimates.Paths.{index_paths, matching_lists, paths_of}
use Rattle.definitions.specs.Estimates.Version.{Version, One, Two, Three, directions}
use Rattle.definitions.specs.IndexLaws.{RunIsOne}
use Rattle.definitions.proofs.PlanTheory.Elements.{first_or_rest, not_in_empty}
use Rattle.definitions.proofs.EstimateTheory.Members.{was_mapped, was_flattened}
use Rattle.definitions_execution.specs.IndexRows.{run_of, keys_in}
use Rattle.definitions_execution.specs.OfBlock.{index_run}
use Rattle.definitions_execution.proofs.KeyOrder.{run_computed}
use Rattle.filters.proofs.Tables.{rows_are}

-- ---- indexes that a version knows are there

was_given : {X Y : Type 0} (f : X → Option Y) (xs : List X) (y : Y) → Contains (filter_map f xs) y → (x : X) × (f x ≡ Some y)
was_given f [] y there = absurd (not_in_empty y there)
was_given {X = X} {Y = Y} f (x ∷ xs) y there = of_first (f x) refl there (λ further. was_given f xs y further)
  where
    of_cases : (z : Y) → f x ≡ Some z → (Contains (filter_map f xs) y → (w : X) × (f w ≡ Some y)) → (z ≡ y) ⊎ Contains (filter_map f xs) y → (w : X) × (f w ≡ Some y)
    of_cases z e rest (inl is) = (x, e ∙ ap Some is)
    of_cases z e rest (inr further) = rest further

    of_first : (o : Option Y) → f x ≡ o → Contains (cons_option o (filter_map f xs)) y → (Contains (filter_map f xs) y → (w : X) × (f w ≡ Some y)) → (w : X) × (f w ≡ Some y)
    of_first None e there' rest = rest there'
    of_first (Some z) e there' rest = of_cases z e rest (first_or_rest z (filter_map f xs) y there')

was_in_range : (from count n end : ℕ) → from + count ≡ end → Contains (range_with_len from count) n → n < end
was_in_range from zero n end e there = absurd (not_in_empty n there)
was_in_range from (suc count) n end e there = of_cases (was_in_range (from + 1) count n end (omega (arith, e))) (first_or_rest from (range_with_len (from + 1) count) n there)
  where
    of_cases : (Contains (range_with_len (from + 1) count) n → n < end) → (from ≡ n) ⊎ Contains (range_with_len (from + 1) count) n → n < end
    of_cases rest (inl is) = omega (arith, is, e)
    of_cases rest (inr r) = rest r

known_there : (version : Version) (t : Table) (number : ℕ) → Contains (known_indexes version t) number → number < length t.indexes
known_there One t number there =
    let (column, found) = was_given (λ column. position (is_on (column ∷ [])) t.indexes) (range_with_len 0 (length t.columns)) number there in
    (position-Some (is_on (column ∷ [])) t.indexes number (record { columns = []; unique = false; statistics = record { keys = 0; pages = 0; clustered = false; range = None } }) found).0
known_there Two t number there = was_in_range 0 (length t.indexes) number (length t.indexes) (omega arith) there
known_there Three t number there = was_in_range 0 (length t.indexes) number (length t.indexes) (omega arith) there

abbrev pub index_of : Path → ℕ
index_of (SegmentScan table) = 0
index_of (IndexScan table index backward) = index
index_of (MatchingScan table index conjuncts backward) = index

abbrev pub is_segment : Path → Bool
is_segment (SegmentScan table) = true
is_segment _ = false

module _ (version : Version) (db : Database) (block : Block) (t : Table) where
  abbrev pub UsesIndex : Path → Type 0
  UsesIndex path = (is_segment path ≡ true) ⊎ (index_of path < length t.indexes)

  pub path_index : (tables : TableSet) (table : ℕ) (path : Path) → table_at db block table ≡ Some t → Contains (paths_of version db block tables table) path → UsesIndex path
  path_index tables table path is there = of_place (first_or_rest (SegmentScan table) (flat_map (index_paths version db block tables table) (indexes_at version db block table)) path there)
    where
      of_way : (number : ℕ) → number < length t.indexes → (backward : Bool) → (IndexScan table number backward ≡ path) ⊎ Contains (map (λ numbers. MatchingScan table number numbers backward) (matching_lists block tables table (index_columns db block table number))) path → UsesIndex path
      of_way number lt backward (inl e) = inr (subst (λ p. index_of p < length t.indexes) e lt)
      of_way number lt backward (inr c) =
          let (numbers, inside, e) = was_mapped (λ numbers. MatchingScan table number numbers backward) (matching_lists block tables table (index_columns db block table number)) path c in
          inr (subst (λ p. index_of p < length t.indexes) e lt)

      of_place : (SegmentScan table ≡ path) ⊎ Contains (flat_map (index_paths version db block tables table) (indexes_at version db block table)) path → UsesIndex path
      of_place (inl e) = inl (subst (λ p. is_segment p ≡ true) e refl)
      of_place (inr r) =
          let (number, known, of_index) = was_flattened (index_paths version db block tables table) (indexes_at version db block table) path r in
          let known' : Contains (known_indexes version t) number = subst (λ o. Contains (unwrap_or (option_map (known_indexes version) o) []) number) is known in
          let (backward, way, its) = was_flattened (λ backward. IndexScan table number backward ∷ map (λ numbers. MatchingScan table number numbers backward) (matching_lists block tables table (index_columns db block table number))) (directions version) path of_index in
          of_way number (known_there version t number known') backward (first_or_rest (IndexScan table number backward) _ path its)

-- ---- the run of an index

module _ (db : Database) (block : Block) (table number : ℕ) (t : Table) (i : Index) (is : table_at db block table ≡ Some t) (own : slice_get t.indexes number ≡ Some i) where
  pub columns_are : index_columns db block table number ≡ i.columns
  columns_are = ap (λ o. unwrap_or (option_map (λ (j : Index). j.columns) (option_and_then (λ (u : Table). slice_get u.indexes number) o)) []) is ∙ ap (λ o. unwrap_or (option_map (λ (j : Index). j.columns) o) []) own

  pub run_is : RunIsOne → (entries : List Entry) → IsRun (map (key_of i.columns) t.rows) entries → entries ≡ index_run db block table number
  run_is one entries run =
      one (keys_in i.columns t.rows) entries (run_of (keys_in i.columns t.rows)) run (run_computed i.columns t.rows)
      ∙ ap (λ columns. run_of (keys_in columns t.rows)) (sym columns_are)
      ∙ ap (λ rows. run_of (keys_in (index_columns db block table number) rows)) (sym (rows_are db block table t is))

-- ---- what a block and a path name is there

some_at : {X : Type 0} (xs : List X) (i : ℕ) → i < length xs → (x : X) × (slice_get xs i ≡ Some x)
some_at [] i h = absurd (omega (arith, h))
some_at (x ∷ xs) zero h = (x, refl)
some_at (x ∷ xs) (suc i) h = some_at xs i (omega (arith, h))

each_within : (db : Database) (numbers : List ℕ) (i n : ℕ) → AllByRecursion (λ m. m < length db) numbers → slice_get numbers i ≡ Some n → n < length db
each_within db [] i n all e = absurd (true≢false (sym (ap is_some e)))
each_within db (m ∷ ms) zero n all e = let same : m ≡ n = ap (λ o. unwrap_or o m) e in subst (λ k. k < length db) same all.0
each_within db (m ∷ ms) (suc i) n all e = each_within db ms i n all.1 e

module _ (db : Database) (block : Block) where
  pub some_table : AllByRecursion (λ m. m < length db) block.tables → (table : ℕ) → table < length block.tables → (t : Table) × (table_at db block table ≡ Some t)
  some_table all table h =
      let (n, at) = some_at block.tables table h in
      let (t, is) = some_at db n (each_within db block.tables table n all at) in
      (t, ap (option_and_then (slice_get db)) at ∙ is)

  -- an index of the table is
  pub some_index : (table number : ℕ) (t : Table) → table_at db block table ≡ Some t → number < length t.indexes → (i : Index) × (index_at db block table number ≡ Some i)
  some_index table number t is h =
      let (i, at) = some_at t.indexes number h in
      (i, ap (option_and_then (λ (u : Table). slice_get u.indexes number)) is ∙ at)

  -- and a table of which an index is
  pub had_table : (table number : ℕ) (i : Index) → index_at db block table number ≡ Some i → table < length block.tables
  had_table table number i is = of_place (slice_get block.tables table) refl is
    where
      of_place : (o : Option ℕ) → slice_get block.tables table ≡ o → option_and_then (λ (u : Table). slice_get u.indexes number) (option_and_then (slice_get db) o) ≡ Some i → table < length block.tables
      of_place None e absent = absurd (true≢false (sym (ap is_some absent)))
      of_place (Some n) e there = slice_get_within block.tables table n e

  pub had_index : (table number : ℕ) (t : Table) (i : Index) → table_at db block table ≡ Some t → index_at db block table number ≡ Some i → number < length t.indexes
  had_index table number t i is there = slice_get_within t.indexes number i (sym (ap (option_and_then (λ (u : Table). slice_get u.indexes number)) is) ∙ there)
