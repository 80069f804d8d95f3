-- The paths of a table where the rows of a set of tables are known are the open ones.
use Rattle.std.proofs.Common.{◌≡◌, ◌∙◌, refl, sym, ap, ap₂, ℕ, zero, suc, ◌<◌, List, [], ◌∷◌, ◌++◌, Bool, true, false, Option, Some, None, if◌then◌else◌, length, map, arith}
use Rattle.std.specs.Prelude.{bit_or, filter, flat_map, option_and_then, option_map, slice_get, unwrap_or}
use Rattle.std.specs.List.{AllByRecursion}
use Rattle.std.proofs.lemmas.List.Elements.{filter-append}
use Rattle.std.specs.Int.Bits.{or_zero_l}
use Rattle.definitions.specs.Table.{Table, Index, Database}
use Rattle.definitions.specs.Plans.TableSet.{TableSet, no_tables}
use Rattle.definitions.specs.Plans.Path as p
use Rattle.definitions.specs.Plans.Path.{SegmentScan, IndexScan, MatchingScan}
use Rattle.definitions.specs.Queries.BoundBlock.{Block}
use Rattle.definitions.specs.Estimates.BlockTables.{is_within, table_at, index_at, index_columns}
use Rattle.definitions.specs.Estimates.Orders.{known_indexes, indexes_at}
use Rattle.definitions.specs.Estimates.Paths.{matching_lists, index_paths, paths_of}
use Rattle.definitions.specs.Estimates.Version.{Version, directions}
use Rattle.access_paths.specs.Matches.{IndexMatch, index_matches}
use Rattle.access_paths.specs.Found.{FoundPath, is_open}
use Rattle.access_paths.specs.Listing.{segment_found, whole_found, matching_found, scans_found, index_found, number_found, table_found}
use Rattle.access_paths.proofs.Chaining.{conjuncts_in, is_open_chain, lists_as_chains, test_of}

abbrev pub path_in : FoundPath → p.Path
path_in x = x.path

paths-append : (xs ys : List FoundPath) → map path_in (xs ++ ys) ≡ map path_in xs ++ map path_in ys
paths-append [] ys = refl
paths-append (x ∷ xs) ys = ap (λ l. x.path ∷ l) (paths-append xs ys)

-- ---- an index is there

at_number : {X : Type 0} (xs : List X) (n : ℕ) → n < length xs → (x : X) × (slice_get xs n ≡ Some x)
at_number [] n h = absurd (omega (arith, h))
at_number (x ∷ xs) zero h = (x, refl)
at_number (x ∷ xs) (suc n) h = at_number xs n (omega (arith, h))

pub index_there : (db : Database) (block : Block) (table number : ℕ) (t : Table) → table_at db block table ≡ Some t → number < length t.indexes → (i : Index) × (index_at db block table number ≡ Some i)
index_there db block table number t e h = let there = at_number t.indexes number h in (there.0, ap (option_and_then (λ (t : Table). slice_get t.indexes number)) e ∙ there.1)

module _ (known : TableSet) where
  whole_is_open : is_within no_tables known ≡ true
  whole_is_open = test_of (bit_or no_tables known) known (or_zero_l known)

  module _ (db : Database) (block : Block) (table number : ℕ) (i : Index) where
    open_matches : (backward : Bool) (chains : List IndexMatch)
        → map path_in (filter (is_open known) (map (matching_found db block table number i backward) chains))
        ≡ map (λ conjuncts. MatchingScan table number conjuncts backward) (map conjuncts_in (filter (is_open_chain known) chains))
    open_matches backward [] = refl
    open_matches backward (c ∷ cs) = by_test (is_open_chain known c) refl (open_matches backward cs)
      where
        by_test : (b : Bool) → is_open_chain known c ≡ b
            → map path_in (filter (is_open known) (map (matching_found db block table number i backward) cs)) ≡ map (λ conjuncts. MatchingScan table number conjuncts backward) (map conjuncts_in (filter (is_open_chain known) cs))
            → map path_in (filter (is_open known) (map (matching_found db block table number i backward) (c ∷ cs))) ≡ map (λ conjuncts. MatchingScan table number conjuncts backward) (map conjuncts_in (filter (is_open_chain known) (c ∷ cs)))
        by_test true e rest = rw e (ap (λ l. MatchingScan table number c.conjuncts backward ∷ l) rest)
        by_test false e rest = rw e rest

    -- the paths by the index in one direction
    abbrev paths_in : List (List ℕ) → Bool → List p.Path
    paths_in lists backward = IndexScan table number backward ∷ map (λ conjuncts. MatchingScan table number conjuncts backward) lists

    open_scans : (backward : Bool)
        → map path_in (filter (is_open known) (scans_found db block table number i (index_matches block table i.columns) backward)) ≡ paths_in (matching_lists block known table i.columns) backward
    open_scans backward =
        ap (λ b. map path_in (if b then whole_found db block table number i backward ∷ filter (is_open known) (map (matching_found db block table number i backward) (index_matches block table i.columns))
        else filter (is_open known) (map (matching_found db block table number i backward) (index_matches block table i.columns)))) whole_is_open
        ∙ ap (λ l. IndexScan table number backward ∷ l) (open_matches backward (index_matches block table i.columns) ∙ ap (map (λ conjuncts. MatchingScan table number conjuncts backward)) (sym (lists_as_chains known block table i.columns)))

    open_directions : (directions : List Bool)
        → map path_in (filter (is_open known) (flat_map (scans_found db block table number i (index_matches block table i.columns)) directions))
        ≡ flat_map (paths_in (matching_lists block known table i.columns)) directions
    open_directions [] = refl
    open_directions (d ∷ ds) =
        let all = scans_found db block table number i (index_matches block table i.columns) in
        ap (map path_in) (filter-append (is_open known) (all d) (flat_map all ds)) ∙ paths-append (filter (is_open known) (all d)) (filter (is_open known) (flat_map all ds)) ∙ ap₂ (λ a b. a ++ b) (open_scans d) (open_directions ds)

  module _ (version : Version) (db : Database) (block : Block) (table : ℕ) where
    open_index : (number : ℕ) (i : Index) → index_at db block table number ≡ Some i
        → map path_in (filter (is_open known) (number_found db block table (directions version) number)) ≡ index_paths version db block known table number
    open_index number i e =
        let columns : index_columns db block table number ≡ i.columns = ap (λ o. unwrap_or (option_map (λ (i : Index). i.columns) o) []) e in
        ap (λ o. map path_in (filter (is_open known) (index_found db block table (directions version) number o))) e
        ∙ open_directions db block table number i (directions version)
        ∙ ap (λ cs. flat_map (paths_in db block table number i (matching_lists block known table cs)) (directions version)) (sym columns)

    open_indexes : (t : Table) → table_at db block table ≡ Some t → (numbers : List ℕ) → AllByRecursion (λ number. number < length t.indexes) numbers
        → map path_in (filter (is_open known) (flat_map (number_found db block table (directions version)) numbers)) ≡ flat_map (index_paths version db block known table) numbers
    open_indexes t e [] all = refl
    open_indexes t e (n ∷ ns) all =
        let there = index_there db block table n t e all.0 in
        let found = number_found db block table (directions version) in
        ap (map path_in) (filter-append (is_open known) (found n) (flat_map found ns)) ∙ paths-append (filter (is_open known) (found n)) (filter (is_open known) (flat_map found ns))
        ∙ ap₂ (λ a b. a ++ b) (open_index n there.0 there.1) (open_indexes t e ns all.1)

    all_open : (numbers : List ℕ) → map path_in (filter (is_open known) (flat_map (number_found db block table (directions version)) numbers)) ≡ flat_map (index_paths version db block known table) numbers
        → map path_in (filter (is_open known) (table_found db block table numbers (directions version))) ≡ SegmentScan table ∷ flat_map (index_paths version db block known table) numbers
    all_open numbers rest =
        ap (λ b. map path_in (if b then segment_found db block table ∷ filter (is_open known) (flat_map (number_found db block table (directions version)) numbers)
        else filter (is_open known) (flat_map (number_found db block table (directions version)) numbers))) whole_is_open
        ∙ ap (λ l. SegmentScan table ∷ l) rest

    pub open_as_paths : (numbers : List ℕ) (ds : List Bool) → numbers ≡ indexes_at version db block table → ds ≡ directions version
        → ((t : Table) → table_at db block table ≡ Some t → AllByRecursion (λ number. number < length t.indexes) numbers)
        → map path_in (filter (is_open known) (table_found db block table numbers ds)) ≡ paths_of version db block known table
    open_as_paths numbers ds e d there =
        ap (λ ds. map path_in (filter (is_open known) (table_found db block table numbers ds))) d ∙ by_table (table_at db block table) refl ∙ ap (λ ns. SegmentScan table ∷ flat_map (index_paths version db block known table) ns) e
      where
        by_table : (o : Option Table) → table_at db block table ≡ o
            → map path_in (filter (is_open known) (table_found db block table numbers (directions version))) ≡ SegmentScan table ∷ flat_map (index_paths version db block known table) numbers
        by_table None none = let empty : numbers ≡ [] = e ∙ ap (λ o. unwrap_or (option_map (known_indexes version) o) []) none in rw empty (all_open [] refl)
        by_table (Some t) is = all_open numbers (open_indexes t is numbers (there t is))
