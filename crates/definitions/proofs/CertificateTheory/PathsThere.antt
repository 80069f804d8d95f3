-- What a path of a block names is there.
use Rattle.std.proofs.Common.{◌≡◌, refl, sym, subst, ℕ, zero, suc, ◌+◌, ◌≤◌, ◌<◌, ◌⊎◌, inl, inr, Bool, true, false, lit<, List, [], ◌∷◌, Option, Some, None, length, map, cond, arith}
use Rattle.std.specs.Prelude.{Contains, flat_map, slice_get, get_or, option_map, option_and_then, unwrap_or}
use Rattle.std.specs.List.{AllByRecursion, range_with_len}
use Rattle.std.proofs.lemmas.List.{length-map}
use Rattle.definitions.specs.Limits.{most_indexes}
use Rattle.definitions.specs.Table.{Index, Table, Database}
use Rattle.definitions.specs.Invariant.{IsTable, IsDatabase}
use Rattle.definitions.specs.Queries.BoundBlock.{Block}
use Rattle.definitions.specs.Queries.Conjuncts.{conjuncts}
use Rattle.definitions.specs.Plans.TableSet.{TableSet}
use Rattle.definitions.specs.Plans.Order.{BlockColumn}
use Rattle.definitions.specs.Plans.Path.{Path, SegmentScan, IndexScan, MatchingScan}
use Rattle.definitions.specs.Estimates.Version.{Three, directions}
use Rattle.definitions.specs.Estimates.BlockTables.{index_columns}
use Rattle.definitions.specs.Estimates.Orders as orders
use Rattle.definitions.specs.Estimates.Paths.{equals_at, matches_at, matching, matching_lists, index_paths, paths_of}
use Rattle.definitions.specs.Certificates.Explaining.{index_columns_at}
use Rattle.definitions.proofs.PlanTheory.Elements.{first_or_rest, filter_had, not_in_empty}
use Rattle.definitions.proofs.EstimateTheory.Members.{was_mapped, was_flattened}
use Rattle.definitions.proofs.CertificateTheory.Few.{at_place}

was_in_range : (from count n : ℕ) → Contains (range_with_len from count) n → (from ≤ n) × (n < from + count)
was_in_range from zero n there = absurd (not_in_empty n there)
was_in_range from (suc count) n there = of_cases (was_in_range (from + 1) count n) (first_or_rest from (range_with_len (from + 1) count) n there)
  where
    of_cases : (Contains (range_with_len (from + 1) count) n → (from + 1 ≤ n) × (n < from + 1 + count)) → (from ≡ n) ⊎ Contains (range_with_len (from + 1) count) n → (from ≤ n) × (n < from + suc count)
    of_cases rest (inl is) = (omega (arith, is), omega (arith, is))
    of_cases rest (inr r) = let h = rest r in let low = h.0 in let high = h.1 in (omega (arith, low), omega (arith, high))

-- ---- indexes

abbrev pub indexes_in : Database → Block → ℕ → List (List ℕ)
indexes_in db block table = get_or (map (index_columns_at db) block.tables) table []

at_number : (f : ℕ → List (List ℕ)) (xs : List ℕ) (table : ℕ) → get_or (map f xs) table [] ≡ unwrap_or (option_map f (slice_get xs table)) []
at_number f [] table = refl
at_number f (x ∷ xs) zero = refl
at_number f (x ∷ xs) (suc table) = at_number f xs table

abbrev IsFew : List (List ℕ) → ℕ → Type 0
IsFew indexes number = (number < length indexes) × (number < most_indexes)

pub index_there : (db : Database) (block : Block) (table number : ℕ) → IsDatabase db → Contains (orders.indexes_at Three db block table) number → IsFew (indexes_in db block table) number
index_there db block table number valid there = subst (λ indexes. IsFew indexes number) (sym (at_number (index_columns_at db) block.tables table)) (of_place (slice_get block.tables table) there)
  where
    of_table : (o : Option Table) → ((t : Table) → o ≡ Some t → IsTable t) → Contains (unwrap_or (option_map (orders.known_indexes Three) o) []) number
        → IsFew (unwrap_or (option_map (λ (t : Table). map (λ (i : Index). i.columns) t.indexes) o) []) number
    of_table None h c = absurd (not_in_empty number c)
    of_table (Some t) h c =
        let lt = (was_in_range 0 (length t.indexes) number c).1 in
        let few = (h t refl).indexes in
        let as_many = length-map t.indexes (λ (i : Index). i.columns) in
        (omega (arith, lt, as_many), omega (arith, lt, few))

    of_place : (o : Option ℕ) → Contains (unwrap_or (option_map (orders.known_indexes Three) (option_and_then (slice_get db) o)) []) number
        → IsFew (unwrap_or (option_map (index_columns_at db) o) []) number
    of_place None c = absurd (not_in_empty number c)
    of_place (Some n) c = of_table (slice_get db n) (λ t is. at_place IsTable db n t valid.each is) c

-- ---- conjuncts that match

module _ (block : Block) where
  abbrev pub AreMatched : List ℕ → Type 0
  AreMatched numbers = (0 < length numbers) × AllByRecursion (λ n. n < length (conjuncts block)) numbers

  pub lists_there : (tables : TableSet) (table : ℕ) (columns numbers : List ℕ) → Contains (matching_lists block tables table columns) numbers → AreMatched numbers
  lists_there tables table [] numbers there = absurd (not_in_empty numbers there)
  lists_there tables table (column ∷ columns) numbers there = of_conjunct (lists_there tables table columns) (was_flattened step (matching block tables own) numbers there)
    where
      own : BlockColumn
      own = record { table = table; number = column }

      longer : ℕ → List (List ℕ)
      longer conjunct = cond (equals_at block tables own conjunct) (map (λ others. conjunct ∷ others) (matching_lists block tables table columns)) []

      step : ℕ → List (List ℕ)
      step conjunct = (conjunct ∷ []) ∷ longer conjunct

      of_longer : ((others : List ℕ) → Contains (matching_lists block tables table columns) others → AreMatched others) → (conjunct : ℕ) → conjunct < length (conjuncts block) → (others : List ℕ) × Contains (matching_lists block tables table columns) others × (conjunct ∷ others ≡ numbers) → AreMatched numbers
      of_longer rest conjunct lt (others, inner, is) = subst AreMatched is (omega arith, (lt, (rest others inner).1))

      of_test : ((others : List ℕ) → Contains (matching_lists block tables table columns) others → AreMatched others) → (conjunct : ℕ) → conjunct < length (conjuncts block) → (b : Bool) → Contains (cond b (map (λ others. conjunct ∷ others) (matching_lists block tables table columns)) []) numbers → AreMatched numbers
      of_test rest conjunct lt true h = of_longer rest conjunct lt (was_mapped (λ others. conjunct ∷ others) (matching_lists block tables table columns) numbers h)
      of_test rest conjunct lt false h = absurd (not_in_empty numbers h)

      of_cases : ((others : List ℕ) → Contains (matching_lists block tables table columns) others → AreMatched others) → (conjunct : ℕ) → conjunct < length (conjuncts block) → (conjunct ∷ [] ≡ numbers) ⊎ Contains (longer conjunct) numbers → AreMatched numbers
      of_cases rest conjunct lt (inl is) = subst AreMatched is (lit< tt, (lt, tt))
      of_cases rest conjunct lt (inr r) = of_test rest conjunct lt (equals_at block tables own conjunct) r

      of_conjunct : ((others : List ℕ) → Contains (matching_lists block tables table columns) others → AreMatched others) → (conjunct : ℕ) × Contains (matching block tables own) conjunct × Contains (step conjunct) numbers → AreMatched numbers
      of_conjunct rest (conjunct, among, inner) =
          let lt = (was_in_range 0 (length (conjuncts block)) conjunct (filter_had (matches_at block tables own) (range_with_len 0 (length (conjuncts block))) conjunct among).0).1 in
          of_cases rest conjunct (omega (arith, lt)) (first_or_rest (conjunct ∷ []) (longer conjunct) numbers inner)

-- ---- paths

-- what a path names besides its table
abbrev pub NamesParts : Database → Block → ℕ → Path → Type 0
NamesParts db block table (SegmentScan own) = own ≡ table
NamesParts db block table (IndexScan own number backward) = (own ≡ table) × IsFew (indexes_in db block table) number
NamesParts db block table (MatchingScan own number numbers backward) = (own ≡ table) × IsFew (indexes_in db block table) number × AreMatched block numbers

module _ (db : Database) (block : Block) (valid : IsDatabase db) where
  abbrev one_direction : TableSet → ℕ → ℕ → Bool → List Path
  one_direction tables table number backward =
      IndexScan table number backward ∷ map (λ conjuncts. MatchingScan table number conjuncts backward) (matching_lists block tables table (index_columns db block table number))

  by_index : (tables : TableSet) (table number : ℕ) (backward : Bool) (path : Path) → IsFew (indexes_in db block table) number → Contains (one_direction tables table number backward) path → NamesParts db block table path
  by_index tables table number backward path few there = of_cases (first_or_rest (IndexScan table number backward) matches path there)
    where
      matches : List Path
      matches = map (λ conjuncts. MatchingScan table number conjuncts backward) (matching_lists block tables table (index_columns db block table number))

      of_match : (numbers : List ℕ) × Contains (matching_lists block tables table (index_columns db block table number)) numbers × (MatchingScan table number numbers backward ≡ path) → NamesParts db block table path
      of_match (numbers, among, is) = subst (NamesParts db block table) is (refl, few, lists_there block tables table (index_columns db block table number) numbers among)

      of_cases : (IndexScan table number backward ≡ path) ⊎ Contains matches path → NamesParts db block table path
      of_cases (inl is) = subst (NamesParts db block table) is (refl, few)
      of_cases (inr r) = of_match (was_mapped (λ conjuncts. MatchingScan table number conjuncts backward) (matching_lists block tables table (index_columns db block table number)) path r)

  pub parts_there : (tables : TableSet) (table : ℕ) (path : Path) → Contains (paths_of Three db block tables table) path → NamesParts db block table path
  parts_there tables table path there = of_cases (first_or_rest (SegmentScan table) by_indexes path there)
    where
      by_indexes : List Path
      by_indexes = flat_map (index_paths Three db block tables table) (orders.indexes_at Three db block table)

      of_direction : (number : ℕ) → IsFew (indexes_in db block table) number → (backward : Bool) × Contains (directions Three) backward × Contains (one_direction tables table number backward) path → NamesParts db block table path
      of_direction number few (backward, direction, inner) = by_index tables table number backward path few inner

      of_index : (number : ℕ) × Contains (orders.indexes_at Three db block table) number × Contains (index_paths Three db block tables table number) path → NamesParts db block table path
      of_index (number, known, inner) = of_direction number (index_there db block table number valid known) (was_flattened (one_direction tables table number) (directions Three) path inner)

      of_cases : (SegmentScan table ≡ path) ⊎ Contains by_indexes path → NamesParts db block table path
      of_cases (inl is) = subst (NamesParts db block table) is refl
      of_cases (inr r) = of_index (was_flattened (index_paths Three db block tables table) (orders.indexes_at Three db block table) path r)
